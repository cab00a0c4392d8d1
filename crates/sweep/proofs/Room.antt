-- Room for the pieces of a domain: they are at most twice as many as the table has regions. A region has at most one piece more than it has
-- children, and each region is a child of at most one.
use Rattle.std.specs.Prelude.{◌≡◌, refl, ℕ, suc, ◌+◌, ◌≤◌, ◌<◌, Bool, true, false, List, [], ◌∷◌, T, eqb, length, if◌then◌else◌}
use Rattle.std.proofs.Common.{sym, arith, length-append, lt-ltb, le-ltb, ne_eqb}
use Rattle.std.proofs.Math.Option.{Option, none, some, get_or}
use Rattle.std.proofs.lemmas.List.{length-map}
use Rattle.base.specs.Cases.{lt, ge, cmp, holds, fails, test}
use Rattle.model.specs.Lists.{one_if, count_if, Each, is_some, at_slot}
use Rattle.model.specs.State.{Region, Pool, Capa, parent_of, none_region, region_in}
use Rattle.model.specs.Tree.{is_carve, children_of, piece, effective_from}
use Rattle.model.specs.Sound.{names}
use Rattle.laws.specs.Tree.Sum.{sum, sum-add, sum_same, sum-le, sum-zero, sum-at, sum-pick-le, sum-swap, sum-each}
use Rattle.laws.specs.Tree.Slots.{in-length, live-is}
use Rattle.laws.specs.Tree.Shares.{child}
use Rattle.laws.specs.Tree.Facts.{Regions, self, listing}
use Rattle.laws.specs.Lists.{each_weaken}
use Rattle.sweep.proofs.Gather.{as_piece, pieces_of}
use Rattle.sweep.proofs.Slots.{listed, own, by, total, is_own, OneSlot, listed-sum, own-once}

-- ---- one region

piece-one : (a e : ℕ) → length (piece a e) ≤ 1
piece-one a e = elim (cmp a e) [ lt h ↦ rw (lt-ltb a e h) (omega arith) | ge h ↦ rw (le-ltb a e h) (omega arith) ]

ranges-few : (a e : ℕ) (cs : List Region) → length (effective_from a e cs) ≤ suc (length cs)
ranges-few a e [] = piece-one a e
ranges-few a e (c ∷ cs) = elim (test (is_carve c.kind)) [
  | holds t ↦ rw t (omega (arith, length-append (piece a c.start) (effective_from c.end e cs), piece-one a c.start, ranges-few c.end e cs))
  | fails t ↦ rw t (omega (arith, ranges-few a e cs))
]

count-all : {A : Type 0} (l : List A) → count_if (λ x. true) l ≡ length l
count-all [] = refl
count-all (x ∷ l) = omega (arith, count-all l)

abbrev kids : List (Option Region) → ℕ → ℕ
kids rs i = length (region_in rs i).children

own-few : (rs : List (Option Region)) (i : ℕ) → own (λ p. true) rs i ≤ 1 + kids rs i
unfolding own
own-few rs i =
    let g = region_in rs i in
    let l = effective_from g.start g.end (children_of rs g) in
    omega (arith, count-all (pieces_of rs g), length-map l (as_piece g.rights), ranges-few g.start g.end (children_of rs g), length-map g.children (region_in rs))

-- ---- all children

length-sum : (n : ℕ) (l : List ℕ) → Each (λ k. k < n) l → length l ≡ sum (λ k. count_if (eqb k) l) n
length-sum n [] h = sym (sum-zero n)
length-sum n (c ∷ l) h = omega (arith, length-sum n l h.1, sum-at (λ k. one_if (eqb k c)) n c h.0 (λ k m. rw (ne_eqb k c m)), self c, sum-add (λ k. one_if (eqb k c)) (λ k. count_if (eqb k) l) (λ k. count_if (eqb k) (c ∷ l)) n (λ k i. refl))

-- one parent at most
parent-once : (n : ℕ) (o : Option ℕ) → sum (λ i. one_if (names o i)) n ≤ 1
parent-once n none = omega (arith, sum-zero n)
parent-once n (some p) = sum-pick-le n p 1

child-once : (n : ℕ) (x : Option Region) → sum (λ i. child x i) n ≤ 1
child-once n none = omega (arith, sum-zero n)
child-once n (some g) = parent-once n (parent_of g.kind)

module _ (rs : List (Option Region)) (s : Regions rs) where
  kids-of : (i : ℕ) (x : Option Region) → at_slot rs i ≡ x → length (get_or x none_region).children ≤ sum (λ k. child (at_slot rs k) i) (length rs)
  kids-of i none e = omega arith
  kids-of i (some g) e =
      let low = each_weaken (λ c. T (is_some (at_slot rs c))) (λ c. c < length rs) g.children (λ c t. let x = live-is (at_slot rs c) t in in-length rs c x.0 x.1) (s i g e).children_live in
      omega (arith, length-sum (length rs) g.children low, sum_same (λ k. count_if (eqb k) g.children) (λ k. child (at_slot rs k) i) (length rs) (λ k h. listing rs s i g e k))

  kids-all : sum (kids rs) (length rs) ≤ length rs
  kids-all = omega (
    arith,
    sum-le (kids rs) (λ i. sum (λ k. child (at_slot rs k) i) (length rs)) (length rs) (λ i. kids-of i (at_slot rs i) refl),
    sum-swap (λ i k. child (at_slot rs k) i) (length rs) (length rs),
    sum-le (λ k. sum (λ i. child (at_slot rs k) i) (length rs)) (λ k. 1) (length rs) (λ k. child-once (length rs) (at_slot rs k)),
    sum-each (length rs),
  )

  if-le : (b : Bool) (m n : ℕ) → m ≤ n → (if b then m else 0) ≤ n
  if-le true m n h = h
  if-le false m n h = omega arith

  module _ (rp : Pool) (d : ℕ) (l : List (Option Capa)) (once : OneSlot rp rs d l) where
    slot-few : (i : ℕ) → total (by rp rs (λ p. true) i) l ≤ 1 + kids rs i
    slot-few i = omega (arith, own-once rp rs s d l once (λ p. true) i (at_slot rs i) refl, if-le (is_own d (at_slot rs i)) (own (λ p. true) rs i) (1 + kids rs i) (own-few rs i))

    pub listed-room : length (listed rp rs l) ≤ length rs + length rs
    listed-room = omega (
      arith,
      count-all (listed rp rs l),
      listed-sum rp rs (λ p. true) l,
      sum-le (λ i. total (by rp rs (λ p. true) i) l) (λ i. 1 + kids rs i) (length rs) slot-few,
      sum-add (λ i. 1) (kids rs) (λ i. 1 + kids rs i) (length rs) (λ k h. refl),
      sum-each (length rs),
      kids-all,
    )
