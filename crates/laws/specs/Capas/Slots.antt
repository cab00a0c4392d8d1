-- One slot of a table written. Invariant: each slot is in use or free once (`OnceEach`); what is counted over the table changes
-- by the slot's old and new content alone.
use Rattle.std.specs.Prelude.{◌≡◌, refl, ◌≢◌, ℕ, zero, suc, ◌+◌, ◌<◌, Bool, false, List, [], ◌∷◌, eqb, ltb, length, get_or, set}
use Rattle.std.proofs.Common.{sym, ap, subst, ◌∙◌, arith, get_or-set_same, get_or-set_other, le-ltb}
use Rattle.std.proofs.Math.Option.{Option, none, some}
use Rattle.std.proofs.Math.Decide.{ℕ_discrete}
use Rattle.base.specs.Cases.{lt, ge, cmp}
use Rattle.base.specs.Options.{some_same}
use Rattle.model.specs.Lists.{one_if, is_some, count_if, Each, at_slot, In}
use Rattle.model.specs.Sound.{OnceEach, slot_uses}
use Rattle.laws.specs.Stack.{one_at_most}
use Rattle.laws.specs.Tree.Facts.{self, other}
use Rattle.laws.specs.Tree.Slots.{in-length}
use Rattle.laws.specs.Lists.{not-used}

-- ---- what is counted

pub count_set : {A : Type 0} (p : A → Bool) (l : List A) (i : ℕ) (a d : A) → i < length l → count_if p (set l i a) + one_if (p (get_or l i d)) ≡ count_if p l + one_if (p a)
count_set p [] i a d h = absurd (omega arith)
count_set p (x ∷ l) zero a d h = omega arith
count_set p (x ∷ l) (suc i) a d h = omega (arith, count_set p l i a d (omega arith))

pub each_set : {A : Type 0} (P : A → Type 0) (l : List A) (i : ℕ) (a : A) → P a → Each P l → Each P (set l i a)
each_set P [] i a h e = tt
each_set P (x ∷ l) zero a h e = (h, e.1)
each_set P (x ∷ l) (suc i) a h e = (e.0, each_set P l i a h e.1)

-- a slot's content has what every slot's has
pub each-slot : {A : Type 0} (P : Option A → Type 0) (l : List (Option A)) (i : ℕ) (a : A) → Each P l → In l i a → P (some a)
each-slot P [] i a e h = absurd (omega (arith, in-length [] i a h))
each-slot P (x ∷ l) zero a e h = subst P h e.0
each-slot P (x ∷ l) (suc i) a e h = each-slot P l i a e.1 h

-- where no slot passes the test nothing is counted
pub count_none : {A : Type 0} (P : A → Type 0) (p : A → Bool) (l : List A) → ((x : A) → P x → p x ≡ false) → Each P l → count_if p l ≡ 0
count_none P p [] h e = refl
count_none P p (x ∷ l) h e = omega (arith, ap one_if (h x e.0), count_none P p l h e.1)

-- ---- which slots are in use

-- where a slot that was given is found again: there, or where it was
pub data Was {A : Type 0} (l : List (Option A)) (i : ℕ) (a : A) (k : ℕ) (x : A) : Type 0 where
  this : k ≡ i → a ≡ x → Was l i a k x
  that : k ≢ i → In l k x → Was l i a k x

pub was : {A : Type 0} (l : List (Option A)) (i : ℕ) (a : A) → i < length l → (k : ℕ) (x : A) → In (set l i (some a)) k x → Was l i a k x
was l i a h k x e = elim (ℕ_discrete k i) [
  | yes o ↦ this o (some_same (at_slot (set l i (some a)) i) a x (get_or-set_same l i (some a) none h) (rw o at e))
  | no o ↦ that o (sym (get_or-set_other l i k (some a) none o) ∙ e)
]

module _ {A : Type 0} (l : List (Option A)) (i : ℕ) (h : i < length l) where
  -- a slot in use is written
  pub used-same : (x : Option A) → is_some (at_slot l i) ≡ is_some x → (k : ℕ) → is_some (at_slot (set l i x) k) ≡ is_some (at_slot l k)
  used-same x e k = elim (ℕ_discrete k i) [
    | yes o ↦ rw o (ap is_some (get_or-set_same l i x none h) ∙ sym e)
    | no o ↦ ap is_some (get_or-set_other l i k x none o)
  ]

  -- a free slot is taken
  pub used-take : (a : A) → at_slot l i ≡ none → (k : ℕ) → slot_uses (set l i (some a)) k ≡ slot_uses l k + one_if (eqb k i)
  used-take a e k = elim (ℕ_discrete k i) [
    | yes o ↦ rw (o, e, get_or-set_same l i (some a) none h) (omega (arith, self i))
    | no o ↦ rw (get_or-set_other l i k (some a) none o) (omega (arith, other k i o))
  ]

  -- a slot in use is freed
  pub used-give : (a : A) → In l i a → (k : ℕ) → slot_uses (set l i none) k + one_if (eqb k i) ≡ slot_uses l k
  used-give a e k = elim (ℕ_discrete k i) [
    | yes o ↦ rw (o, e, get_or-set_same l i none none h) (omega (arith, self i))
    | no o ↦ rw (get_or-set_other l i k none none o) (omega (arith, other k i o))
  ]

-- ---- in use or free once

-- the slot given next lies in the table and is not in use
pub next-free : {A : Type 0} (n : ℕ) (l : List (Option A)) (i : ℕ) (is : List ℕ) → OnceEach n (slot_uses l) (i ∷ is) → (at_slot l i ≡ none) × (i < n)
next-free n l i is h = (
  not-used (at_slot l i) (omega (arith, h i, self i, one_at_most (ltb i n))),
  elim (cmp i n) [
    | lt k ↦ k
    | ge k ↦ absurd (omega (arith, h i, self i, ap one_if (le-ltb i n k)))
  ],
)

-- slot i of table l is given next
pub record Next {A : Type 0} (n : ℕ) (l : List (Option A)) (i : ℕ) (is : List ℕ) : Type 0 where
  pub once : OnceEach n (slot_uses l) (i ∷ is)
  pub was_free : at_slot l i ≡ none
  pub low : i < length l

pub next-slot : {A : Type 0} (n : ℕ) (l : List (Option A)) (fs : List ℕ) (i : ℕ) (is : List ℕ) → length l ≡ n → OnceEach n (slot_uses l) fs → fs ≡ i ∷ is → Next n l i is
next-slot n l fs i is z h e =
    let o : OnceEach n (slot_uses l) (i ∷ is) = subst (OnceEach n (slot_uses l)) e h in
    let (f, k) = next-free n l i is o in
    record { once = o; was_free = f; low = omega arith }

module _ {A : Type 0} (n : ℕ) (l : List (Option A)) (size : length l ≡ n) where
  pub once-take : (i : ℕ) (is : List ℕ) (a : A) → OnceEach n (slot_uses l) (i ∷ is) → OnceEach n (slot_uses (set l i (some a))) is
  once-take i is a h k = let f = next-free n l i is h in omega (arith, h k, used-take l i (omega arith) a f.0 k)

  pub once-give : (i : ℕ) (is : List ℕ) (a : A) → In l i a → OnceEach n (slot_uses l) is → OnceEach n (slot_uses (set l i none)) (i ∷ is)
  once-give i is a e h k = omega (arith, h k, used-give l i (in-length l i a e) a e k)

  pub once-same : (i : ℕ) (is : List ℕ) (a b : A) → In l i a → OnceEach n (slot_uses l) is → OnceEach n (slot_uses (set l i (some b))) is
  once-same i is a b e h k = omega (arith, h k, ap one_if (used-same l i (in-length l i a e) (some b) (ap is_some e) k))
