-- What the bytes of a script say (document 01, "The script program"), as calls of the model. A byte is a number, and bytes stand in the order in which they are read.
use Rattle.std.specs.Prelude.{ℕ, zero, suc, ◌+◌, ◌*◌, ◌-◌, ◌^◌, Bool, true, false, List, [], ◌∷◌, eqb, ltb, length, take, drop, if◌then◌else◌}
use Rattle.std.proofs.Math.Option.{Option, none, some}
use Rattle.byte_numbers.specs.Numbers.{number}
use Rattle.model.specs.State.{Handle, Access, no_options}
use Rattle.model.specs.Perform.{Step, Call}

-- ---- numbers and fields

-- "all little-endian", "8-byte fields": field i of the bytes behind the kind.
abbrev pub field_at : List ℕ → ℕ → ℕ
field_at l i = number (take 8 (drop (8 * i) l))

-- ---- kinds

pub data Kind : Type 0 where
  opening : Kind
  root : Kind
  alias : Kind
  carve : Kind
  send : Kind
  revoke : Kind
  make_revoke : Kind

-- "Kinds: 1 open .., 2 root .., 3 alias and 4 carve .., 5 send .., 6 revoke and 7 RegionRevoke"; none for "Another kind".
unfoldable pub kind_of : ℕ → Option Kind
kind_of k =
    if eqb k 1 then some opening else
    if eqb k 2 then some root else
    if eqb k 3 then some alias else
    if eqb k 4 then some carve else
    if eqb k 5 then some send else
    if eqb k 6 then some revoke else
    if eqb k 7 then some make_revoke else none

-- How many fields "(manager slot, generation, cores ..)", "(domain slot, generation, start, end, rights)" and the others name.
abbrev pub field_count : Kind → ℕ
field_count opening = 3
field_count root = 5
field_count alias = 6
field_count carve = 6
field_count send = 4
field_count revoke = 3
field_count make_revoke = 3

-- a handle from its two fields
abbrev pub handle : ℕ → ℕ → Handle
handle slot gen = record { slot = slot; generation = gen }

-- "slot 2^64 − 1 is no manager"
abbrev pub manager_of : ℕ → ℕ → Option Handle
manager_of slot gen = if eqb slot (2 ^ 64 - 1) then none else some (handle slot gen)

-- A step that names rights; none for "rights above 255".
abbrev pub with_rights : (Access → Step) → ℕ → ℕ → ℕ → Option Call
with_rights f start end rights = if ltb 255 rights then none else some (Call.Do (f (record { start = start; end = end; rights = rights })))

-- The call of a record, f i its field i: "1 open (manager slot, generation, cores ..), 2 root (domain slot, generation, start, end, rights), 3 alias and
-- 4 carve (domain slot, generation, local, start, end, rights), 5 send (domain slot, generation, local, target local), 6 revoke and 7 RegionRevoke (domain
-- slot, generation, local)". A record's send has no flag word and no hash (document 02, request 1).
abbrev pub call_of : Kind → (ℕ → ℕ) → Option Call
call_of opening f = some (Call.Do (Step.Open (manager_of (f 0) (f 1)) (f 2)))
call_of root f = with_rights (Step.Root (handle (f 0) (f 1))) (f 2) (f 3) (f 4)
call_of alias f = with_rights (Step.Alias (handle (f 0) (f 1)) (f 2)) (f 3) (f 4) (f 5)
call_of carve f = with_rights (Step.Carve (handle (f 0) (f 1)) (f 2)) (f 3) (f 4) (f 5)
call_of send f = some (Call.Do (Step.Send (handle (f 0) (f 1)) (f 2) (f 3) no_options))
call_of revoke f = some (Call.Do (Step.Revoke (handle (f 0) (f 1)) (f 2)))
call_of make_revoke f = some (Call.Do (Step.CreateRevokeCapa (handle (f 0) (f 1)) (f 2)))

-- ---- one record

-- "two-byte kind, then 8-byte fields": the call that the bytes behind a length say; none for "Another kind, length, rights above 255".
abbrev pub call_with : Option Kind → List ℕ → Option Call
call_with none body = none
call_with (some k) body = if eqb (length body) (2 + 8 * field_count k) then call_of k (field_at (drop 2 body)) else none

abbrev pub body_call : List ℕ → Option Call
body_call body = call_with (kind_of (number (take 2 body))) body

-- What stands at the front of the bytes of a script: their end, what gives 17, or a call, with the bytes behind it.
pub data Front : Type 0 where
  ended : Front
  bad : Front
  call : Call → List ℕ → Front

abbrev pub front_for : Option Call → List ℕ → Front
front_for none rest = bad
front_for (some c) rest = call c rest

-- "two-byte length of what follows"; bad for "a cut record".
unfoldable pub front_of : List ℕ → Front
front_of [] = ended
front_of (x ∷ []) = bad
front_of (x ∷ y ∷ l) =
    let n = number (x ∷ y ∷ []) in
    if ltb (length l) n then bad else front_for (body_call (take n l)) (drop n l)

-- ---- all records

abbrev pub ahead : Call → List Call × Bool → List Call × Bool
ahead c r = (c ∷ r.0, r.1)

-- the calls from a front on, read gives those of the bytes behind it
abbrev pub calls_at : Front → (List ℕ → List Call × Bool) → List Call × Bool
calls_at ended read = ([], false)
calls_at bad read = ([], true)
calls_at (call c rest) read = ahead c (read rest)

-- n records at most
unfoldable pub calls_from : ℕ → List ℕ → List Call × Bool
calls_from zero l = ([], false)
calls_from (suc n) l = calls_at (front_of l) (calls_from n)

-- "It reads records": the calls of a script, and whether a bad record "ends reading". A record has two bytes at least.
unfoldable pub script_calls : List ℕ → List Call × Bool
script_calls l = calls_from (length l) l
