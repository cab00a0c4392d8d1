-- The regions' counts as sums over the slots: each slot counts for its share, unless its region is carved at the address.
-- One law for the reach and the four rights, over the field; a carve is counted too, so that "carved there" is a number above 0.
use Rattle.std.specs.Prelude.{◌≡◌, refl, ℕ, zero, suc, ◌+◌, ◌≤◌, ◌<◌, Bool, true, false, not, ◌&&◌, List, [], ◌∷◌, length, if◌then◌else◌}
use Rattle.std.proofs.Math.Path.{sym, ap}
use Rattle.std.proofs.Common.{◌∙◌, arith, lt-ltb, le-ltb, le-leb}
use Rattle.std.proofs.Math.Option.{Option, none, some}
use Rattle.std.proofs.Math.Dec.{eqb}
use Rattle.std.proofs.lemmas.Bool.{lt-leb}
use Rattle.base.specs.Cases.{lt, ge, cmp, below, inside, above, pos, Test, test}
use Rattle.model.specs.Lists.{one_if, exists, count_if, at_slot}
use Rattle.model.specs.State.{Region, Kind, Root, Alias, Carve, parent_of}
use Rattle.model.specs.Fields.{Field, passes, counter}
use Rattle.model.specs.Tree.{is_carve}
use Rattle.model.specs.Counts.{holds, carves, counts_for, tally, region_count}
use Rattle.model.specs.Sound.{names}
use Rattle.laws.specs.Tree.Sum.{sum, sum_same, sum-front}
use Rattle.laws.specs.Stack.{any-count}
use Rattle.laws.specs.Tree.Slots.{count-sum}
use Rattle.laws.specs.Within.{within, W, within-lo, within_in, within-hi, within_same}

-- ---- what one slot counts for

-- what a range with rights r that is o's counts for, for domain d at address a
abbrev pub grant : Field → ℕ → ℕ → ℕ → ℕ → ℕ → ℕ → ℕ
grant f o s e r d a = within s e a (if eqb o d then counter f r else 0) 0

abbrev pub share : Field → Option Region → ℕ → ℕ → ℕ
share f none d a = 0
share f (some g) d a = grant f g.owner g.start g.end g.rights d a

-- 1 where the parent is p, and where it is a carve of p
abbrev pub child_of : Kind → ℕ → ℕ
child_of k p = one_if (names (parent_of k) p)

abbrev pub carve_of : Kind → ℕ → ℕ
carve_of k p = if is_carve k then child_of k p else 0

-- 1 where the slot's region is a child of p, and where it is a carve of p over a
abbrev pub child : Option Region → ℕ → ℕ
child none p = 0
child (some g) p = child_of g.kind p

abbrev pub carve : Option Region → ℕ → ℕ → ℕ
carve none p a = 0
carve (some g) p a = within g.start g.end a (carve_of g.kind p) 0

-- x where nothing was carved
abbrev pub clear : ℕ → ℕ → ℕ
clear zero x = x
clear (suc c) x = 0

-- how many live carves of region p cover a
unfoldable pub carved : List (Option Region) → ℕ → ℕ → ℕ
carved rs p a = count_if (carves p a) rs

-- ---- ranges and branches

pub holds-within : (s e a x : ℕ) → (if holds s e a then x else 0) ≡ within s e a x 0
holds-within s e a x = elim (pos s e a) [
  | below u ↦ rw (lt-leb s a u, within-lo s e a x 0 u)
  | inside u v ↦ rw (le-leb s a u, lt-ltb a e v, within_in s e a x 0 u v)
  | above u ↦ elim (cmp a s) [
    | lt w ↦ rw (lt-leb s a w, within-hi s e a x 0 u)
    | ge w ↦ rw (le-leb s a w, le-ltb a e u, within-hi s e a x 0 u)
  ]
]

-- a value above 0 lies in the range
pub within-pos : (s e a v : ℕ) → 0 < within s e a v 0 → (s ≤ a) × (a < e) × (0 < v)
within-pos s e a v h = elim (pos s e a) [
  | below u ↦ absurd (omega (arith, within-lo s e a v 0 u))
  | inside u w ↦ (u, w, omega (arith, within_in s e a v 0 u w))
  | above u ↦ absurd (omega (arith, within-hi s e a v 0 u))
]

pub clear-0 : (c x : ℕ) → c ≡ 0 → clear c x ≡ x
clear-0 zero x h = refl
clear-0 (suc c) x h = absurd (omega arith)

pub clear-s : (c x : ℕ) → 0 < c → clear c x ≡ 0
clear-s zero x h = absurd (omega arith)
clear-s (suc c) x h = refl

pub clear_zero : (c : ℕ) → clear c 0 ≡ 0
clear_zero zero = refl
clear_zero (suc c) = refl

pub clear-any : {A : Type 0} (p : A → Bool) (l : List A) (x : ℕ) → (if exists p l then 0 else x) ≡ clear (count_if p l) x
clear-any p l x = rw (any-count p l) (elim (cmp 0 (count_if p l)) [
  | lt u ↦ rw (lt-ltb 0 (count_if p l) u) (sym (clear-s (count_if p l) x u))
  | ge u ↦ rw (le-ltb 0 (count_if p l) u) (sym (clear-0 (count_if p l) x (omega arith)))
])

clear_within : (c s e a x : ℕ) → within s e a (clear c x) 0 ≡ clear c (within s e a x 0)
clear_within zero s e a x = refl
clear_within (suc c) s e a x = elim (pos s e a) [ below u ↦ simp W | inside u v ↦ simp W | above u ↦ simp W ]

-- the three tests and a fourth, as branches
branches : (b c z t : Bool) → one_if ((b && c && not z) && t) ≡ (if c then (if z then 0 else (if b then one_if t else 0)) else 0)
branches true true true t = refl
branches true true false t = refl
branches true false z t = refl
branches false true true t = refl
branches false true false t = refl
branches false false z t = refl

-- ---- the model's counts are sums

module _ (f : Field) (rs : List (Option Region)) (d a : ℕ) where
  -- what slot k counts for
  abbrev pub weight : ℕ → ℕ
  weight k = clear (carved rs k a) (share f (at_slot rs k) d a)

  -- the same by the model's tests
  abbrev one : ℕ → Option Region → ℕ
  one k none = 0
  one k (some g) = one_if (counts_for rs d a k g && passes f g.rights)

  one-is : (k : ℕ) (x : Option Region) → one k x ≡ clear (carved rs k a) (share f x d a)
  unfolding carved
  one-is k none = sym (clear_zero (count_if (carves k a) rs))
  one-is k (some g) =
      let v = if eqb g.owner d then one_if (passes f g.rights) else 0 in
      branches (eqb g.owner d) (holds g.start g.end a) (exists (carves k a) rs) (passes f g.rights)
      ∙ holds-within g.start g.end a (if exists (carves k a) rs then 0 else v)
      ∙ ap (λ (n : ℕ). within g.start g.end a n 0) (clear-any (carves k a) rs v)
      ∙ clear_within (count_if (carves k a) rs) g.start g.end a v

  tally-step : (i : ℕ) (x : Option Region) (l : List (Option Region)) (t : ℕ) → t ≡ sum (λ k. one (suc i + k) (at_slot l k)) (length l) → one i x + t ≡ sum (λ k. one (i + k) (at_slot (x ∷ l) k)) (length (x ∷ l))
  tally-step i x l t h =
      let here : i + 0 ≡ i = omega arith in
      let next : (k : ℕ) → suc i + k ≡ i + suc k = λ k. omega arith in
      omega (
        arith,
        sum-front (λ k. one (i + k) (at_slot (x ∷ l) k)) (length l),
        sum_same (λ k. one (suc i + k) (at_slot l k)) (λ k. one (i + suc k) (at_slot l k)) (length l) (λ k u. ap (λ (n : ℕ). one n (at_slot l k)) (next k)),
        ap (λ (n : ℕ). one n x) here,
      )

  tally-from : (i : ℕ) (l : List (Option Region)) → tally rs d a (passes f) i l ≡ sum (λ k. one (i + k) (at_slot l k)) (length l)
  tally-from i [] = refl
  tally-from i (none ∷ l) = omega (arith, tally-step i none l (tally rs d a (passes f) (suc i) l) (tally-from (suc i) l))
  tally-from i (some g ∷ l) = tally-step i (some g) l (tally rs d a (passes f) (suc i) l) (tally-from (suc i) l)

  pub tally-is : region_count f rs d a ≡ sum weight (length rs)
  tally-is = tally-from 0 rs ∙ sum_same _ _ (length rs) (λ k h. ap (λ (n : ℕ). one n (at_slot rs k)) (plus k) ∙ one-is k (at_slot rs k))
    where
      plus : (k : ℕ) → 0 + k ≡ k
      plus k = omega arith

-- ---- the carves

carve-kind : (p a : ℕ) (g : Region) (k : Kind) → one_if (carves p a (some (record { owner = g.owner; kind = k; start = g.start; end = g.end; rights = g.rights; children = g.children; hash = g.hash }))) ≡ within g.start g.end a (carve_of k p) 0
carve-kind p a g Root = sym (within_same {A = ℕ} g.start g.end a 0 0 refl)
carve-kind p a g (Alias q) = sym (within_same {A = ℕ} g.start g.end a 0 0 refl)
carve-kind p a g (Carve q) = elim (test (eqb q p)) [
  | Test.holds t ↦ rw t (holds-within g.start g.end a 1)
  | Test.fails t ↦ rw t (sym (within_same {A = ℕ} g.start g.end a 0 0 refl))
]

carve-is : (p a : ℕ) (x : Option Region) → one_if (carves p a x) ≡ carve x p a
carve-is p a none = refl
carve-is p a (some g) = carve-kind p a g g.kind

pub carved-is : (rs : List (Option Region)) (p a : ℕ) → carved rs p a ≡ sum (λ k. carve (at_slot rs k) p a) (length rs)
unfolding carved
carved-is rs p a = count-sum (carves p a) rs ∙ sum_same _ _ (length rs) (λ k h. carve-is p a (at_slot rs k))
