-- A script's calls, record by record: where the bytes begin with a call, the calls are that one and those of the bytes behind it. The number of records to
-- read is the script's length. A record takes a byte at least, so that many are enough for the rest too.
use Rattle.std.specs.Prelude.{◌≡◌, refl, ℕ, zero, suc, ◌≤◌, ◌<◌, Bool, true, false, List, [], ◌∷◌, ltb, take, drop}
use Rattle.std.proofs.Common.{sym, ◌∙◌, arith, length-drop}
use Rattle.std.proofs.Math.Path.{ap, subst}
use Rattle.std.proofs.Math.Option.{Option, none, some}
use Rattle.std.proofs.Math.ListN.{length}
use Rattle.base.specs.Cases.{holds, fails, test}
use Rattle.model.specs.Perform.{Call}
use Rattle.script_records.specs.Script.{body_call, Front, ended, bad, call, front_for, front_of, ahead, calls_at, calls_from, script_calls}
use Rattle.byte_numbers.specs.Numbers.{number}

-- ---- fewer bytes

abbrev Less : List ℕ → Front → Type 0
Less l ended = Unit {0}
Less l bad = Unit {0}
Less l (call c rest) = length rest < length l

less-for : (l : List ℕ) (o : Option Call) (rest : List ℕ) → length rest < length l → Less l (front_for o rest)
less-for l none rest h = tt
less-for l (some c) rest h = h

less : (l : List ℕ) → Less l (front_of l)
unfolding front_of
less [] = tt
less (x ∷ []) = tt
less (x ∷ y ∷ l) =
    let n = number (x ∷ y ∷ []) in
    elim (test (ltb (length l) n)) [ holds t ↦ rw t tt | fails t ↦ rw t (less-for (x ∷ y ∷ l) (body_call (take n l)) (drop n l) (omega (arith, length-drop n l))) ]

-- ---- enough records

same-calls : (l : List ℕ) (f : Front) (p q : List ℕ → List Call × Bool) → ((rest : List ℕ) → length rest < length l → p rest ≡ q rest) → Less l f → calls_at f p ≡ calls_at f q
same-calls l ended p q h k = refl
same-calls l bad p q h k = refl
same-calls l (call c rest) p q h k = ap (ahead c) (h rest k)

calls-none : (n : ℕ) (l : List ℕ) → length l ≤ 0 → ([], false) ≡ calls_from n l
unfolding calls_from front_of
calls-none zero l h = refl
calls-none (suc n) [] h = refl
calls-none (suc n) (x ∷ l) h = absurd (omega arith)

calls-enough : (n m : ℕ) (l : List ℕ) → length l ≤ n → length l ≤ m → calls_from n l ≡ calls_from m l
unfolding calls_from
calls-enough zero m l h k = calls-none m l h
calls-enough (suc n) zero l h k = sym (calls-none (suc n) l k)
calls-enough (suc n) (suc m) l h k =
    same-calls l (front_of l) (calls_from n) (calls_from m) (λ rest d. calls-enough n m rest (omega arith) (omega arith)) (less l)

-- ---- the laws

pub script-ended : script_calls [] ≡ ([], false)
unfolding script_calls calls_from
script-ended = refl

module _ (l : List ℕ) where
  one_more : script_calls l ≡ calls_at (front_of l) (calls_from (length l))
  unfolding script_calls calls_from
  one_more = calls-enough (length l) (suc (length l)) l (omega arith) (omega arith)

  pub script-bad : front_of l ≡ bad → script_calls l ≡ ([], true)
  script-bad e = one_more ∙ ap (λ (f : Front). calls_at f (calls_from (length l))) e

  pub script-call : (c : Call) (rest : List ℕ) → front_of l ≡ call c rest → script_calls l ≡ ahead c (script_calls rest)
  unfolding script_calls
  script-call c rest e =
      let d : length rest < length l = subst (Less l) e (less l) in
      one_more ∙ ap (λ (f : Front). calls_at f (calls_from (length l))) e ∙ ap (ahead c) (calls-enough (length l) (length rest) rest (omega arith) (omega arith))
