-- The definitions run on bytes: document 01's worked example ("The script program"), and records at the edges.
use Rattle.std.specs.Prelude.{◌≡◌, refl, ℕ, true, false, List, [], ◌∷◌, ◌++◌}
use Rattle.std.proofs.Math.Option.{none}
use Rattle.model.specs.Perform.{Step, Call}
use Rattle.model.proofs.Checked.Script.{dom, access, example}
use Rattle.script_records.specs.Script.{kind_of, front_of, calls_from, script_calls}
use Rattle.byte_numbers.specs.Numbers.{number}

-- a field with one byte that is not 0; one whose bytes are all 255; and the first field of a call of domain d, with generation 0
abbrev small : ℕ → List ℕ
small n = n ∷ 0 ∷ 0 ∷ 0 ∷ 0 ∷ 0 ∷ 0 ∷ 0 ∷ []

abbrev ones : List ℕ
ones = 255 ∷ 255 ∷ 255 ∷ 255 ∷ 255 ∷ 255 ∷ 255 ∷ 255 ∷ []

abbrev caller : ℕ → List ℕ
caller d = small d ++ small 0

abbrev head : ℕ → ℕ → List ℕ
head length kind = length ∷ 0 ∷ kind ∷ 0 ∷ []

-- "open A; open B under A; root A 0 to 16 rights 3; carve local 1, 4 to 8 rights 1; alias local 1, 0 to 4 rights 3; send local 2 to local 0; alias
-- local 1, 6 to 9 rights 1."
example_bytes : List ℕ
example_bytes =
    head 26 1 ++ ones ++ small 0 ++ small 0
    ++ head 26 1 ++ caller 0 ++ small 0
    ++ head 42 2 ++ caller 0 ++ small 0 ++ small 16 ++ small 3
    ++ head 50 4 ++ caller 0 ++ small 1 ++ small 4 ++ small 8 ++ small 1
    ++ head 50 3 ++ caller 0 ++ small 1 ++ small 0 ++ small 4 ++ small 3
    ++ head 34 5 ++ caller 0 ++ small 2 ++ small 0
    ++ head 50 3 ++ caller 0 ++ small 1 ++ small 6 ++ small 9 ++ small 1

example-calls : script_calls example_bytes ≡ (example, false)
unfolding example_bytes script_calls calls_from front_of kind_of
example-calls = refl

-- the lowest byte stands first
two_bytes : number (1 ∷ 2 ∷ []) ≡ 513
two_bytes = refl

-- "slot 2^64 − 1 is no manager", whatever the generation
no-manager : script_calls (head 26 1 ++ ones ++ small 5 ++ small 9) ≡ (Call.Do (Step.Open none 9) ∷ [], false)
unfolding script_calls calls_from front_of kind_of
no-manager = refl

-- rights of 255, and of 256
most-rights : script_calls (head 42 2 ++ caller 0 ++ small 0 ++ small 1 ++ small 255) ≡ (Call.Do (Step.Root (dom 0) (access 0 1 255)) ∷ [], false)
unfolding script_calls calls_from front_of kind_of
most-rights = refl

more-rights : script_calls (head 42 2 ++ caller 0 ++ small 0 ++ small 1 ++ 0 ∷ 1 ∷ 0 ∷ 0 ∷ 0 ∷ 0 ∷ 0 ∷ 0 ∷ []) ≡ ([], true)
unfolding script_calls calls_from front_of kind_of
more-rights = refl

-- a call, then "another kind", "length" or "a cut record"; what follows is not read
abbrev revoked : List ℕ
revoked = head 26 6 ++ caller 0 ++ small 1

other-kind : script_calls (revoked ++ head 26 8 ++ caller 0 ++ small 1 ++ revoked) ≡ (Call.Do (Step.Revoke (dom 0) 1) ∷ [], true)
unfolding script_calls calls_from front_of kind_of
other-kind = refl

other_length : script_calls (revoked ++ head 34 6 ++ caller 0 ++ small 1 ++ small 0 ++ revoked) ≡ (Call.Do (Step.Revoke (dom 0) 1) ∷ [], true)
unfolding script_calls calls_from front_of kind_of
other_length = refl

cut-length : script_calls (revoked ++ 26 ∷ []) ≡ (Call.Do (Step.Revoke (dom 0) 1) ∷ [], true)
unfolding script_calls calls_from front_of kind_of
cut-length = refl

cut_record : script_calls (revoked ++ head 26 7 ++ caller 0) ≡ (Call.Do (Step.Revoke (dom 0) 1) ∷ [], true)
unfolding script_calls calls_from front_of kind_of
cut_record = refl

nothing : script_calls [] ≡ ([], false)
unfolding script_calls calls_from
nothing = refl
