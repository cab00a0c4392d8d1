-- Lists of the model: what holds of each member, how many members pass a test, and slots that are free.
use Rattle.std.specs.Prelude.{◌≡◌, refl, ℕ, zero, suc, ◌+◌, ◌<◌, Bool, true, false, List, [], ◌∷◌, ◌++◌, map, get_or, take, drop}
use Rattle.std.proofs.Common.{subst, arith}
use Rattle.std.proofs.Math.Option.{Option, none, some}
use Rattle.model.specs.Lists.{one_if, count_if, Each, is_some}
use Rattle.model.specs.State.{Word}

-- ---- each member

pub each_weaken : {A : Type 0} (P Q : A → Type 0) (l : List A) → ((x : A) → P x → Q x) → Each P l → Each Q l
each_weaken P Q [] f h = tt
each_weaken P Q (x ∷ l) f h = (f x h.0, each_weaken P Q l f h.1)

-- each member is changed
pub each_map : {A : Type 0} (f : A → A) (P Q : A → Type 0) → ((x : A) → P x → Q (f x)) → (l : List A) → Each P l → Each Q (map f l)
each_map f P Q k [] h = tt
each_map f P Q k (x ∷ l) h = (k x h.0, each_map f P Q k l h.1)

pub each-join : {A : Type 0} (P : A → Type 0) (l m : List A) → Each P l → Each P m → Each P (l ++ m)
each-join P [] m h k = k
each-join P (x ∷ l) m h k = (h.0, each-join P l m h.1 k)

-- one more at the end
pub each-end : {A : Type 0} (P : A → Type 0) (l : List A) (a : A) → Each P l → P a → Each P (l ++ (a ∷ []))
each-end P l a h k = each-join P l (a ∷ []) h (k, tt)

pub zero_word : Word 0
zero_word = omega arith

-- a number of a list of words, or 0
pub word_at : (l : List ℕ) (i : ℕ) → Each Word l → Word (get_or l i 0)
word_at [] i h = zero_word
word_at (x ∷ l) zero h = h.0
word_at (x ∷ l) (suc i) h = word_at l i h.1

-- ---- members that pass

pub one-true : (b : Bool) → 0 < one_if b → b ≡ true
one-true true h = refl
one-true false h = absurd (omega arith)

-- where none is counted none passes
pub none_pass : {A : Type 0} (p : A → Bool) (l : List A) → count_if p l ≡ 0 → Each (λ x. p x ≡ false) l
none_pass p [] h = tt
none_pass p (x ∷ l) h = (zero-false (p x) (omega arith), none_pass p l (omega arith))
  where
    zero-false : (b : Bool) → one_if b ≡ 0 → b ≡ false
    zero-false true k = absurd (omega arith)
    zero-false false k = refl

pub count-end : {A : Type 0} (p : A → Bool) (l : List A) (a : A) → count_if p (l ++ (a ∷ [])) ≡ count_if p l + one_if (p a)
count-end p [] a = omega arith
count-end p (x ∷ l) a = omega (arith, count-end p l a)

-- ---- members from place k on, and before it

-- what holds of each holds of the one in place k
pub each_next : {A : Type 0} (P : A → Type 0) (k : ℕ) (l : List A) (c : A) (cs : List A) → drop k l ≡ c ∷ cs → Each P l → P c
each_next P zero [] c cs e h = absurd (let z : ◌≡◌ {A = ℕ} 0 1 = cc in omega arith)
each_next P zero (x ∷ l) c cs e h = let z : x ≡ c = cc in subst P z h.0
each_next P (suc k) [] c cs e h = absurd (let z : ◌≡◌ {A = ℕ} 0 1 = cc in omega arith)
each_next P (suc k) (x ∷ l) c cs e h = each_next P k l c cs e h.1

pub drop-next : {A : Type 0} (k : ℕ) (l : List A) (c : A) (cs : List A) → drop k l ≡ c ∷ cs → drop (suc k) l ≡ cs
drop-next zero [] c cs e = absurd (let z : ◌≡◌ {A = ℕ} 0 1 = cc in omega arith)
drop-next zero (x ∷ l) c cs e = cc
drop-next (suc k) [] c cs e = absurd (let z : ◌≡◌ {A = ℕ} 0 1 = cc in omega arith)
drop-next (suc k) (x ∷ l) c cs e = drop-next k l c cs e

pub take_next : {A : Type 0} (P : A → Type 0) (k : ℕ) (l : List A) (c : A) (cs : List A) → drop k l ≡ c ∷ cs → P c → Each P (take k l) → Each P (take (suc k) l)
take_next P zero [] c cs e p h = tt
take_next P zero (x ∷ l) c cs e p h = let z : c ≡ x = cc in (subst P z p, tt)
take_next P (suc k) [] c cs e p h = tt
take_next P (suc k) (x ∷ l) c cs e p h = (h.0, take_next P k l c cs e p h.1)

pub take_all : {A : Type 0} (P : A → Type 0) (k : ℕ) (l : List A) → drop k l ≡ [] → Each P (take k l) → Each P l
take_all P zero [] e h = tt
take_all P zero (x ∷ l) e h = absurd (let z : ◌≡◌ {A = ℕ} 0 1 = cc in omega arith)
take_all P (suc k) [] e h = tt
take_all P (suc k) (x ∷ l) e h = (h.0, take_all P k l e h.1)

-- ---- slots

pub not-used : {A : Type 0} (x : Option A) → one_if (is_some x) ≡ 0 → x ≡ none
not-used none h = refl
not-used (some a) h = absurd (omega arith)
