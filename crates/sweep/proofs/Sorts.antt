-- The pass with gap 1 sorts, whatever came before. Invariant of an element x that goes down from place i: with the hole at j the others up to i
-- rise, and those above the hole are not below x.
use Rattle.std.specs.Prelude.{◌≡◌, refl, ◌≢◌, ℕ, zero, suc, ◌+◌, ◌-◌, ◌≤◌, ◌<◌, List, [], ◌∷◌, T, ltb, leb, length, set}
use Rattle.std.proofs.Common.{ap, ◌∙◌, arith, ltb→lt, leb→le, nltb→le, length-set, get_or-set_same, get_or-set_other}
use Rattle.std.proofs.Math.Decide.{ℕ_discrete}
use Rattle.std.proofs.Math.Dec.{nleb→lt}
use Rattle.std.specs.Float.Ieee.Fits.{and_l, and_r}
use Rattle.base.specs.Cases.{holds, fails, test}
use Rattle.base.specs.Tests.{true-is}
use Rattle.sweep.specs.Events.{Event}
use Rattle.sweep.proofs.Events.{branch}
use Rattle.sweep.specs.Sweep.{Sorted}
use Rattle.sweep.specs.Sort.{no_event, at, sift, sift_all, gapped, gapped_by, is_sorted, sort}
use Rattle.sweep.proofs.Sort.{sift-length}

-- the address in place i
abbrev key : List Event → ℕ → ℕ
key l i = (at l i).at

-- the first n places rise
abbrev Rise : ℕ → List Event → Type 0
Rise n l = (a b : ℕ) → a < b → b < n → key l a ≤ key l b

-- ---- a place written

here : (l : List Event) (j k : ℕ) (v : Event) → k ≡ j → j < length l → key (set l j v) k ≡ v.at
here l j k v e h = ap (key (set l j v)) e ∙ ap (λ (z : Event). z.at) (get_or-set_same l j v no_event h)

there : (l : List Event) (j k : ℕ) (v : Event) → k ≢ j → key (set l j v) k ≡ key l k
there l j k v h = ap (λ (z : Event). z.at) (get_or-set_other l j k v no_event h)

-- ---- a hole

record Hole (j i : ℕ) (x : Event) (l : List Event) : Type 0 where
  pairs : (a b : ℕ) → a < b → b ≤ i → a ≢ j → b ≢ j → key l a ≤ key l b
  above : (b : ℕ) → j < b → b ≤ i → x.at ≤ key l b

module _ (j i : ℕ) (x : Event) (l : List Event) (s : j ≤ i) (n : i < length l) (h : Hole j i x l) where
  -- x fits here
  fill-law : ((a : ℕ) → a < j → key l a ≤ x.at) → Rise (suc i) (set l j x)
  fill-law lower a b u v = elim (ℕ_discrete a j) [
    | yes e ↦ omega (arith, here l j a x e (omega arith), there l j b x (omega arith), h.above b (omega arith) (omega arith))
    | no e ↦ elim (ℕ_discrete b j) [
      | yes e' ↦ omega (arith, here l j b x e' (omega arith), there l j a x e, lower a (omega arith))
      | no e' ↦ omega (arith, there l j a x e, there l j b x e', h.pairs a b u (omega arith) e e')
    ]
  ]

  -- x goes below what stands under the hole
  step-law : 1 ≤ j → x.at < key l (j - 1) → Hole (j - 1) i x (set l j (at l (j - 1)))
  step-law g k = record { pairs = both; above = over }
    where
      both : (a b : ℕ) → a < b → b ≤ i → a ≢ j - 1 → b ≢ j - 1 → key (set l j (at l (j - 1))) a ≤ key (set l j (at l (j - 1))) b
      both a b u v e e' = elim (ℕ_discrete a j) [
        | yes o ↦ omega (arith, here l j a (at l (j - 1)) o (omega arith), there l j b (at l (j - 1)) (omega arith), h.pairs (j - 1) b (omega arith) v (omega arith) (omega arith))
        | no o ↦ elim (ℕ_discrete b j) [
          | yes o' ↦ omega (arith, here l j b (at l (j - 1)) o' (omega arith), there l j a (at l (j - 1)) o, h.pairs a (j - 1) (omega arith) (omega arith) o (omega arith))
          | no o' ↦ omega (arith, there l j a (at l (j - 1)) o, there l j b (at l (j - 1)) o', h.pairs a b u v o o')
        ]
      ]

      over : (b : ℕ) → j - 1 < b → b ≤ i → x.at ≤ key (set l j (at l (j - 1))) b
      over b u v = elim (ℕ_discrete b j) [
        | yes o ↦ omega (arith, here l j b (at l (j - 1)) o (omega arith))
        | no o ↦ omega (arith, there l j b (at l (j - 1)) o, h.above b (omega arith) v)
      ]

  -- what is next to the hole is not above x, so nothing below it is
  stop-law : key l (j - 1) ≤ x.at → Rise (suc i) (set l j x)
  stop-law k = fill-law (λ a u. elim (ℕ_discrete a (j - 1)) [
    | yes e ↦ omega (arith, ap (key l) e)
    | no e ↦ omega (arith, h.pairs a (j - 1) (omega arith) (omega arith) (omega arith) (omega arith))
  ])

-- ---- one element, all elements

sift-rise : (n j i : ℕ) (x : Event) (l : List Event) → j ≤ n → j ≤ i → i < length l → Hole j i x l → Rise (suc i) (sift n 1 j x l)
unfolding sift
sift-rise zero j i x l w s n h = fill-law j i x l s n h (λ a u. absurd (omega arith))
sift-rise (suc k) j i x l w s n h =
    let y = at l (j - 1) in
    branch (Rise (suc i)) (leb 1 j) (ltb x.at y.at) (sift k 1 (j - 1) x (set l j y)) (set l j x)
    (λ u v. let u' = leb→le 1 j u in sift-rise k (j - 1) i x (set l j y) (omega arith) (omega arith) (omega (arith, length-set l j y)) (step-law j i x l s n h u' (ltb→lt x.at y.at v)))
    (λ u. let u' = nleb→lt 1 j u in fill-law j i x l s n h (λ a v. absurd (omega arith)))
    (λ u v. stop-law j i x l s n h (nltb→le x.at y.at v))

all-rise : (n i : ℕ) (l : List Event) → n + i ≡ length l → Rise i l → Rise (length l) (sift_all n 1 i l)
unfolding sift_all
all-rise zero i l e r a b u v = r a b u (omega arith)
all-rise (suc n) i l e r a b u v =
    let m = sift i 1 i (at l i) l in
    let z = sift-length i 1 i (at l i) l in
    let q : Hole i i (at l i) l = record { pairs = λ c d x y x' y'. r c d x (omega arith); above = λ d x y. absurd (omega arith) } in
    all-rise n (suc i) m (omega arith) (sift-rise i i i (at l i) l (omega arith) (omega arith) (omega arith) q) a b u (omega arith)

-- ---- places that rise are a list that does

sorted_of : (lo : ℕ) (l : List Event) → ((a : ℕ) → a < length l → lo ≤ key l a) → Rise (length l) l → Sorted lo l
sorted_of lo [] h r = tt
sorted_of lo (e ∷ l) h r = (h 0 (omega arith), sorted_of e.at l (λ a u. r 0 (suc a) (omega arith) (omega arith)) (λ a b u v. r (suc a) (suc b) (omega arith) (omega arith)))

all-length : (n g i : ℕ) (l : List Event) → length (sift_all n g i l) ≡ length l
unfolding sift_all
all-length zero g i l = refl
all-length (suc n) g i l = all-length n g (suc i) (sift i g i (at l i) l) ∙ sift-length i g i (at l i) l

rise-gapped : (l : List Event) → Rise (length l) (gapped 1 l)
rise-gapped [] a b u v = absurd (omega arith)
rise-gapped (e ∷ l) a b u v = all-rise (length (e ∷ l) - 1) 1 (e ∷ l) (omega arith) (λ c k i j. absurd (omega arith)) a b u v

pub gapped-sorted : (l : List Event) → Sorted 0 (gapped 1 l)
gapped-sorted l = sorted_of 0 (gapped 1 l) (λ a u. omega arith) (λ a b u v. rise-gapped l a b u (omega (arith, all-length (length l - 1) 1 1 l)))

is_sorted_lem : (lo : ℕ) (l : List Event) → T (is_sorted lo l) → Sorted lo l
is_sorted_lem lo [] t = tt
is_sorted_lem lo (e ∷ l) t = (leb→le lo e.at (and_l (leb lo e.at) (is_sorted e.at l) t), is_sorted_lem e.at l (and_r (leb lo e.at) (is_sorted e.at l) t))

pub sort_sorted : (gs : List ℕ) (l : List Event) → Sorted 0 (sort gs l)
sort_sorted gs l = elim (test (is_sorted 0 l)) [ holds e ↦ rw e (is_sorted_lem 0 l (true-is e)) | fails e ↦ rw e (gapped-sorted (gapped_by gs l)) ]
