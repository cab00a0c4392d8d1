-- The reach of all domains at an address: as many as live roots and aliases cover it. Each region has one owner, and each carve one parent,
-- which does not count where its carve does.
use Rattle.std.specs.Prelude.{◌≡◌, refl, ℕ, zero, suc, ◌+◌, ◌<◌, Bool, true, false, ◌&&◌, List, eqb, length, if◌then◌else◌}
use Rattle.std.proofs.Common.{sym, ◌∙◌, arith}
use Rattle.std.proofs.Math.Option.{Option, none, some}
use Rattle.base.specs.Cases.{below, inside, above, pos}
use Rattle.model.specs.Lists.{one_if, count_if, at_slot, In}
use Rattle.model.specs.State.{Region, Kind, Root, Alias, Carve}
use Rattle.model.specs.Fields.{Field}
use Rattle.model.specs.Tree.{is_carve, is_root_kind}
use Rattle.model.specs.Counts.{holds, region_count}
use Rattle.laws.specs.Tree.Sum.{sum, sum_same, sum-zero, sum-add, sum-pick, sum-swap}
use Rattle.laws.specs.Tree.Slots.{in-length, count-sum}
use Rattle.laws.specs.Tree.Shares.{tally-is, share, carve, carve_of, child_of, carved, carved-is, clear, holds-within}
use Rattle.laws.specs.Tree.Facts.{Regions, self, under}
use Rattle.laws.specs.Tree.Carved.{cover, carved-cover}
use Rattle.laws.specs.Within.{within, W}

abbrev pub is_alias : Kind → Bool
is_alias Root = false
is_alias (Alias p) = true
is_alias (Carve p) = false

-- Is the slot's region live, of a kind that passes the test, and does it cover a?
abbrev pub covers_as : (Kind → Bool) → ℕ → Option Region → Bool
covers_as t a none = false
covers_as t a (some g) = t g.kind && holds g.start g.end a

-- ---- as numbers

abbrev covers : (Kind → Bool) → Option Region → ℕ → ℕ
covers t none a = 0
covers t (some g) a = within g.start g.end a (one_if (t g.kind)) 0

and-within : (b : Bool) (s e a : ℕ) → one_if (b && holds s e a) ≡ within s e a (one_if b) 0
and-within true s e a = holds-within s e a 1
and-within false s e a = elim (pos s e a) [ below u ↦ simp W | inside u v ↦ simp W | above u ↦ simp W ]

covers-is : (t : Kind → Bool) (a : ℕ) (x : Option Region) → one_if (covers_as t a x) ≡ covers t x a
covers-is t a none = refl
covers-is t a (some g) = and-within (t g.kind) g.start g.end a

number : (t : Kind → Bool) (rs : List (Option Region)) (a : ℕ) → count_if (covers_as t a) rs ≡ sum (λ k. covers t (at_slot rs k) a) (length rs)
number t rs a = count-sum (covers_as t a) rs ∙ sum_same _ _ (length rs) (λ k h. covers-is t a (at_slot rs k))

one-kind : (k : Kind) → one_if (is_root_kind k) + one_if (is_alias k) + one_if (is_carve k) ≡ 1
one-kind Root = refl
one-kind (Alias p) = refl
one-kind (Carve p) = refl

cover-kind : (x : Option Region) (a : ℕ) → cover x a ≡ covers is_root_kind x a + covers is_alias x a + covers is_carve x a
cover-kind none a = omega arith
cover-kind (some g) a = elim (pos g.start g.end a) [ below u ↦ simp W (omega arith) | inside u v ↦ simp W (omega (arith, one-kind g.kind)) | above u ↦ simp W (omega arith) ]

-- ---- one owner, one parent

sum-within : (s e a n v : ℕ) (w : ℕ → ℕ) → sum w n ≡ v → sum (λ d. within s e a (w d) 0) n ≡ within s e a v 0
sum-within s e a n v w h = elim (pos s e a) [ below u ↦ simp W (sum-zero n) | inside u k ↦ simp W h | above u ↦ simp W (sum-zero n) ]

-- one owner for each region
share-all : (n a : ℕ) (x : Option Region) → ((g : Region) → x ≡ some g → g.owner < n) → sum (λ d. share Field.Reach x d a) n ≡ cover x a
share-all n a none h = sum-zero n
share-all n a (some g) h = sum-within g.start g.end a n 1 (λ d. if eqb g.owner d then 1 else 0) (sum-pick n g.owner 1 (h g refl))

clear-all : (n a c : ℕ) (x : Option Region) → ((g : Region) → x ≡ some g → g.owner < n) → sum (λ d. clear c (share Field.Reach x d a)) n ≡ clear c (cover x a)
clear-all n a zero x h = share-all n a x h
clear-all n a (suc c) x h = sum-zero n

-- one parent for each carve
parent-one : (n : ℕ) (k : Kind) → ((p : ℕ) → 0 < child_of k p → p < n) → sum (λ p. carve_of k p) n ≡ one_if (is_carve k)
parent-one n Root h = sum-zero n
parent-one n (Alias q) h = sum-zero n
parent-one n (Carve q) h = sum-pick n q 1 (h q (omega (arith, self q)))

carve-all : (n a : ℕ) (x : Option Region) → ((g : Region) (p : ℕ) → x ≡ some g → 0 < child_of g.kind p → p < n) → sum (λ p. carve x p a) n ≡ covers is_carve x a
carve-all n a none h = sum-zero n
carve-all n a (some g) h = sum-within g.start g.end a n (one_if (is_carve g.kind)) (carve_of g.kind) (parent-one n g.kind (λ p. h g p refl))

module _ (rs : List (Option Region)) (s : Regions rs) (a : ℕ) where
  parent-slot : (k p : ℕ) (g : Region) → In rs k g → 0 < child_of g.kind p → p < length rs
  parent-slot k p g e h = let u = under rs s k p g e h in in-length rs p u.parent u.is

  by-parent : sum (λ k. carved rs k a) (length rs) ≡ count_if (covers_as is_carve a) rs
  by-parent =
      sum_same _ _ (length rs) (λ p h. carved-is rs p a)
      ∙ sum-swap (λ p k. carve (at_slot rs k) p a) (length rs) (length rs)
      ∙ sum_same _ _ (length rs) (λ k h. carve-all (length rs) a (at_slot rs k) (λ g p e. parent-slot k p g e))
      ∙ sym (number is_carve rs a)

  by_kind : sum (λ k. cover (at_slot rs k) a) (length rs) ≡ count_if (covers_as is_root_kind a) rs + count_if (covers_as is_alias a) rs + count_if (covers_as is_carve a) rs
  by_kind =
      let r : ℕ → ℕ = λ k. covers is_root_kind (at_slot rs k) a in
      let l : ℕ → ℕ = λ k. covers is_alias (at_slot rs k) a in
      let c : ℕ → ℕ = λ k. covers is_carve (at_slot rs k) a in
      omega (
        arith,
        number is_root_kind rs a,
        number is_alias rs a,
        number is_carve rs a,
        sum-add (λ k. r k + l k) c (λ k. cover (at_slot rs k) a) (length rs) (λ k h. cover-kind (at_slot rs k) a),
        sum-add r l (λ k. r k + l k) (length rs) (λ k h. refl),
      )

  module _ (n : ℕ) (owned : (i : ℕ) (g : Region) → In rs i g → g.owner < n) where
    by-domain : sum (λ d. region_count Field.Reach rs d a) n ≡ sum (λ k. clear (carved rs k a) (cover (at_slot rs k) a)) (length rs)
    by-domain =
        sum_same _ _ n (λ d h. tally-is Field.Reach rs d a)
        ∙ sum-swap (λ d k. clear (carved rs k a) (share Field.Reach (at_slot rs k) d a)) n (length rs)
        ∙ sum_same _ _ (length rs) (λ k h. clear-all n a (carved rs k a) (at_slot rs k) (λ g e. owned k g e))

    pub reach-total : sum (λ d. region_count Field.Reach rs d a) n ≡ count_if (covers_as is_root_kind a) rs + count_if (covers_as is_alias a) rs
    reach-total = omega (
      arith,
      by-domain,
      by-parent,
      by_kind,
      sum-add (λ k. clear (carved rs k a) (cover (at_slot rs k) a)) (λ k. carved rs k a) (λ k. cover (at_slot rs k) a) (length rs) (λ k h. sym (carved-cover rs k a s)),
    )
