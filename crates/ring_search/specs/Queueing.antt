-- The search for a domain in the ring, and a domain queued, as functions of records (document 01, "Update ring").
use Rattle.std.specs.Prelude.{ℕ, zero, suc, ◌+◌, ◌-◌, ◌<◌, ◌≤◌, ◌≡◌, Bool, true, not, get_or, set, ltb, eqb}
use Rattle.std.proofs.Common.{arith}
use Rattle.std.specs.Int.Bits.{bit_or}
use Rattle.base.specs.Cases.{pick}
use Rattle.base.specs.Tests.{both}
use Rattle.tables.specs.declared.Update.{Update}
use Rattle.tables.specs.Kinds.{PERMISSION}
use Rattle.ring.specs.declared.Entry.{Entry}
use Rattle.ring.specs.declared.Ring.{Ring}
use Rattle.ring.specs.Ring.{PushOut, cap, no_entry, permission_of, after_of, push_of}

-- ---- the search for a domain

-- whether it is a permission update of the domain with that handle
unfoldable pub names_of : Update → ℕ → ℕ → Bool
names_of u d g = both (eqb u.kind PERMISSION) (both (eqb u.a d) (eqb u.b g))

-- the place of the first one among the next n places from i on, up to the write place; else the write place
unfoldable pub place_from : Ring → ℕ → ℕ → ℕ → ℕ → ℕ
place_from r d g zero i = r.write
place_from r d g (suc n) i =
    pick (eqb i r.write) r.write (pick (ltb i cap) (pick (names_of (get_or r.places i no_entry).update d g) i (place_from r d g n (after_of i r.size))) r.write)

unfoldable pub place_of : Ring → ℕ → ℕ → ℕ
place_of r d g = place_from r d g cap r.read

-- ---- a domain is queued

-- marks m join those of an entry
abbrev pub gathered : Entry → ℕ → Entry
gathered e m = record { update = e.update; marks = bit_or e.marks m }

abbrev pub gather_in : Ring → ℕ → ℕ → Ring
gather_in r i m = record { places = set r.places i (gathered (get_or r.places i no_entry) m); read = r.read; write = r.write; size = r.size }

-- a place other than the write place was found
abbrev pub found_b : Ring → ℕ → Bool
found_b r i = both (not (eqb i r.write)) (ltb i cap)

-- where it is queued already its marks are gathered, and no room is asked (the model's push_permission)
unfoldable pub queue_of : Ring → ℕ → ℕ → ℕ → ℕ → PushOut
queue_of r d g c m =
    let i = place_of r d g in
    pick (found_b r i) (record { ok = true; ring = gather_in r i m }) (push_of r (permission_of d g c m))

-- ---- the search, counted up to cap as the code counts

pub place-step : (r : Ring) (d g n i : ℕ) → n < cap
    → place_from r d g (cap - n) i ≡ pick (eqb i r.write) r.write (pick (ltb i cap) (pick (names_of (get_or r.places i no_entry).update d g) i (place_from r d g (cap - (n + 1)) (after_of i r.size))) r.write)
unfolding place_from
place-step r d g n i h = let e : cap - n ≡ suc (cap - (n + 1)) = omega arith in rw e

pub place_none : (r : Ring) (d g n i : ℕ) → cap ≤ n → place_from r d g (cap - n) i ≡ r.write
unfolding place_from
place_none r d g n i h = let e : cap - n ≡ zero = omega arith in rw e
