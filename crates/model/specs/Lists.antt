-- Functions on lists and tests that the definitions share. Lists are counted from 0.
use Rattle.std.specs.Prelude.{◌≡◌, ℕ, zero, suc, ◌+◌, Bool, true, false, cond, ◌&&◌, ◌||◌, List, [], ◌∷◌, eqb, get_or, if◌then◌else◌}
use Rattle.std.proofs.Math.Option.{Option, none, some}

-- ---- tests

-- 1 where the test holds, else 0
abbrev pub one_if : Bool → ℕ
one_if b = if b then 1 else 0

-- Is there a value? Is there no element?
abbrev pub is_some {ℓ} : {A : Type ℓ} → Option A → Bool
is_some none = false
is_some (some a) = true

abbrev pub is_empty {ℓ} : {A : Type ℓ} → List A → Bool
is_empty [] = true
is_empty (x ∷ l) = false

-- Does one pass the test?
abbrev pub exists {ℓ} : {A : Type ℓ} → (A → Bool) → List A → Bool
exists p [] = false
exists p (x ∷ l) = p x || exists p l

-- Do all pass the test?
abbrev pub every {ℓ} : {A : Type ℓ} → (A → Bool) → List A → Bool
every p [] = true
every p (x ∷ l) = p x && every p l

-- how many pass the test
abbrev pub count_if {ℓ} : {A : Type ℓ} → (A → Bool) → List A → ℕ
count_if p [] = 0
count_if p (x ∷ l) = one_if (p x) + count_if p l

-- those that pass the test, in their order
abbrev pub keep {ℓ} : {A : Type ℓ} → (A → Bool) → List A → List A
keep p [] = []
keep p (x ∷ l) = cond (p x) (x ∷ keep p l) (keep p l)

-- Every element has the property.
abbrev pub Each : {A : Type 0} → (A → Type 0) → List A → Type 0
Each P [] = Unit {0}
Each P (x ∷ l) = P x × Each P l

-- ---- values that may be missing

-- What a table holds in slot i: `none` where the slot is free or its number too large.
abbrev pub at_slot {ℓ} : {A : Type ℓ} → List (Option A) → ℕ → Option A
at_slot l i = get_or l i none

-- Slot i of a table is in use, and holds x.
abbrev pub In : {A : Type 0} → List (Option A) → ℕ → A → Type 0
In l i x = at_slot l i ≡ some x

-- ---- lists of slot numbers

-- i, i + 1, .. : n numbers
abbrev pub count_up : ℕ → ℕ → List ℕ
count_up i zero = []
count_up i (suc n) = i ∷ count_up (suc i) n

-- the number k left out of a list
abbrev pub without : ℕ → List ℕ → List ℕ
without k [] = []
without k (i ∷ is) = if eqb i k then without k is else i ∷ without k is

-- the first of a list, and the one after k, if there is one
abbrev pub first_of : List ℕ → Option ℕ
first_of [] = none
first_of (i ∷ is) = some i

abbrev pub after_in : List ℕ → ℕ → Option ℕ
after_in [] k = none
after_in (i ∷ is) k = if eqb i k then first_of is else after_in is k
