-- What the ring's functions do, as functions of records (document 01, "Update ring").
use Rattle.std.specs.Prelude.{ℕ, ◌+◌, Bool, true, false, not, get_or, set, ltb, eqb, Option, Some, None}
use Rattle.sizes.specs.Limits.{most_updates}
use Rattle.base.specs.Cases.{pick}
use Rattle.base.specs.Tests.{both}
use Rattle.tables.specs.Kinds.{PERMISSION, CLEANUP}
use Rattle.tables.specs.Tables.{no_update}
use Rattle.ring.specs.declared.Entry.{Entry}
use Rattle.ring.specs.declared.Ring.{Ring}

-- A ring that was pushed to. Where `ok` is false it was full, 14 RingFull, and it is as it was.
pub record PushOut : Type 0 where
  pub ok : Bool
  pub ring : Ring

-- what a pop gives, and the ring that it leaves
pub record PopOut : Type 0 where
  pub item : Option Entry
  pub ring : Ring

-- the places of the largest ring
abbrev pub cap : ℕ
cap = most_updates + 1

abbrev pub no_entry : Entry
no_entry = record { update = no_update; marks = 0 }

-- domain d of generation g with core map c and marks m
abbrev pub permission_of : ℕ → ℕ → ℕ → ℕ → Entry
permission_of d g c m = record { update = record { kind = PERMISSION; a = d; b = g; c = c }; marks = m }

abbrev pub cleanup_of : ℕ → ℕ → Entry
cleanup_of s e = record { update = record { kind = CLEANUP; a = s; b = e; c = 0 }; marks = 0 }

-- the place after i in a ring of n places
unfoldable pub after_of : ℕ → ℕ → ℕ
after_of i n = pick (ltb (i + 1) n) (i + 1) 0

-- ---- push and pop

-- the entry stands in the write place, and the write place moves on
abbrev pub put_in : Ring → Entry → Ring
put_in r e = record { places = set r.places r.write e; read = r.read; write = after_of r.write r.size; size = r.size }

-- the ring is full where the place after the write place is the read place
abbrev pub room_b : Ring → Bool
room_b r = both (not (eqb (after_of r.write r.size) r.read)) (ltb r.write cap)

unfoldable pub push_of : Ring → Entry → PushOut
push_of r e = pick (room_b r) (record { ok = true; ring = put_in r e }) (record { ok = false; ring = r })

-- the read place is cleared, and moves on
abbrev pub take_out : Ring → Ring
take_out r = record { places = set r.places r.read no_entry; read = after_of r.read r.size; write = r.write; size = r.size }

abbrev pub some_b : Ring → Bool
some_b r = both (not (eqb r.read r.write)) (ltb r.read cap)

unfoldable pub pop_of : Ring → PopOut
pop_of r =
    pick (some_b r) (record { item = Some (get_or r.places r.read no_entry); ring = take_out r })
    (record { item = None; ring = r })
