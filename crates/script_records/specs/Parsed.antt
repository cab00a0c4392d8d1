-- What the bytes at hand say where more may follow, as the code finds it.
use Rattle.std.specs.Prelude.{ℕ, ◌+◌, ◌*◌, ◌-◌, List, Option, Some, None, Result, Ok, Err, eqb, ltb, length, take, drop, if◌then◌else◌}
use Rattle.std.proofs.Math.Option as math
use Rattle.model.specs.State.{Handle, Access, no_options}
use Rattle.model.specs.Perform.{Step, Call}
use Rattle.script_records.specs.declared.Kind as code
use Rattle.script_records.specs.declared.Kind.TheVariants as kind
use Rattle.script_records.specs.declared.Record.{Record}
use Rattle.script_records.specs.declared.BadRecord.{BadRecord}
use Rattle.script_records.specs.Script.{Kind, opening, root, alias, carve, send, revoke, make_revoke, field_at, kind_of, field_count, handle, manager_of}
use Rattle.byte_numbers.specs.Numbers.{number}

-- ---- a kind

-- the kind that the code's stands for
abbrev pub named : code.Kind → Kind
named kind.Open = opening
named kind.Root = root
named kind.Alias = alias
named kind.Carve = carve
named kind.Send = send
named kind.Revoke = revoke
named kind.CreateRevokeCapa = make_revoke

-- the kind with a number
abbrev pub kind_numbered : ℕ → Option code.Kind
kind_numbered n =
    if eqb n 1 then Some kind.Open else
    if eqb n 2 then Some kind.Root else
    if eqb n 3 then Some kind.Alias else
    if eqb n 4 then Some kind.Carve else
    if eqb n 5 then Some kind.Send else
    if eqb n 6 then Some kind.Revoke else
    if eqb n 7 then Some kind.CreateRevokeCapa else None

-- the bytes of a whole record of a kind
abbrev pub size_for : Kind → ℕ
size_for k = 4 + 8 * field_count k

unfoldable pub size_of : code.Kind → ℕ
size_of k = size_for (named k)

-- the bytes of a whole record of the kind with a number, 0 for no kind
abbrev pub size_or : math.Option Kind → ℕ
size_or math.none = 0
size_or (math.some k) = size_for k

unfoldable pub size_at : ℕ → ℕ
size_at n = size_or (kind_of n)

-- ---- a record

-- the fields that stand in these bytes; 0 past their end
abbrev pub record_in : code.Kind → List ℕ → Record
record_in kind l = record { kind = kind; a = field_at l 0; b = field_at l 1; c = field_at l 2; d = field_at l 3; e = field_at l 4; f = field_at l 5 }

-- the rights of a record of a kind; 0 for a kind that names none
abbrev pub rights_for : Kind → Record → ℕ
rights_for opening r = 0
rights_for root r = r.e
rights_for alias r = r.f
rights_for carve r = r.f
rights_for send r = 0
rights_for revoke r = 0
rights_for make_revoke r = 0

unfoldable pub rights_in : Record → ℕ
rights_in r = rights_for (named r.kind) r

-- ---- its call

abbrev pub handle_in : Record → Handle
handle_in r = handle r.a r.b

abbrev pub access_in : ℕ → ℕ → ℕ → Access
access_in start end rights = record { start = start; end = end; rights = rights }

-- the call of a record of a kind
abbrev pub call_for : Kind → Record → Call
call_for opening r = Call.Do (Step.Open (manager_of r.a r.b) r.c)
call_for root r = Call.Do (Step.Root (handle_in r) (access_in r.c r.d r.e))
call_for alias r = Call.Do (Step.Alias (handle_in r) r.c (access_in r.d r.e r.f))
call_for carve r = Call.Do (Step.Carve (handle_in r) r.c (access_in r.d r.e r.f))
call_for send r = Call.Do (Step.Send (handle_in r) r.c r.d no_options)
call_for revoke r = Call.Do (Step.Revoke (handle_in r) r.c)
call_for make_revoke r = Call.Do (Step.CreateRevokeCapa (handle_in r) r.c)

unfoldable pub call_in : Record → Call
call_in r = call_for (named r.kind) r

-- ---- the front of the bytes at hand

-- a record, or a part of one that can still be a call; or no record, whatever follows
abbrev pub Found : Type 0
Found = Result (Option Record) BadRecord

abbrev pub bad_found : Found
bad_found = Err (record {})

unfoldable pub judged : Record → Found
judged r = if ltb 255 (rights_in r) then bad_found else Ok (Some r)

-- where the first four bytes say a kind and a length that fit
abbrev pub whole : code.Kind → List ℕ → Found
whole k l = if ltb (length l) (size_of k) then Ok None else judged (record_in k (take (size_of k - 4) (drop 4 l)))

abbrev pub of_kind : Option code.Kind → List ℕ → Found
of_kind None l = bad_found
of_kind (Some k) l = if eqb (number (take 2 (drop 0 l)) + 2) (size_of k) then whole k l else bad_found

unfoldable pub parsed : List ℕ → Found
parsed l = if ltb (length l) 4 then Ok None else of_kind (kind_numbered (number (take 2 (drop 2 l)))) l
