-- What a region counts for at an address can be lost there: the counts are its own and a rest, and the rest is a count in itself
-- (no right counts for more than the reach). So a tracker that agrees has it to lose.
use Rattle.std.specs.Prelude.{◌≡◌, refl, ℕ, zero, suc, ◌+◌, ◌≤◌, ◌<◌, Bool, true, false, List, eqb, length, if◌then◌else◌}
use Rattle.std.proofs.Common.{◌∙◌, arith, eq-eqb, ne_eqb}
use Rattle.std.proofs.Math.Option.{Option, none, some}
use Rattle.base.specs.Cases.{below, inside, above, pos, Test, test}
use Rattle.model.specs.Lists.{at_slot, In}
use Rattle.model.specs.State.{Region, Counts}
use Rattle.model.specs.Fields.{Field, counter, passes}
use Rattle.model.specs.Counts.{Agree, region_count}
use Rattle.laws.specs.Stack.{one_at_most}
use Rattle.laws.specs.Tracker.Fields.{Enough, enough}
use Rattle.laws.specs.Tree.Sum.{sum, sum-le, sum_one}
use Rattle.laws.specs.Tree.Slots.{in-length}
use Rattle.laws.specs.Tree.Shares.{share, carved, clear, clear-0, weight, tally-is}
use Rattle.laws.specs.Within.{W, within_in}

-- the counts of d at a are those of rights r and of others
pub record CountsInclude (rs : List (Option Region)) (d a r : ℕ) : Type 0 where
  pub rest : Field → ℕ
  pub whole : (f : Field) → region_count f rs d a ≡ rest f + counter f r
  pub less : (f : Field) → rest f ≤ rest Field.Reach

pub include-enough : (rs : List (Option Region)) (d a r : ℕ) (k : Counts) → CountsInclude rs d a r → Agree rs d a k → Enough r k
include-enough rs d a r k p h = enough r k p.rest (λ f. h f ∙ p.whole f) p.less

-- ---- a right counts for no more than the reach

clear-le : (c x y : ℕ) → x ≤ y → clear c x ≤ clear c y
clear-le zero x y h = h
clear-le (suc c) x y h = omega arith

counter-le : (f : Field) (b : Bool) (r : ℕ) → (if b then counter f r else 0) ≤ (if b then 1 else 0)
counter-le f true r = one_at_most (passes f r)
counter-le f false r = omega arith

share-le : (f : Field) (x : Option Region) (d a : ℕ) → share f x d a ≤ share Field.Reach x d a
share-le f none d a = omega arith
share-le f (some g) d a = elim (pos g.start g.end a) [
  | below u ↦ simp W (omega arith)
  | inside u v ↦ simp W (counter-le f (eqb g.owner d) g.rights)
  | above u ↦ simp W (omega arith)
]

-- ---- all but one slot

module _ (rs : List (Option Region)) (k : ℕ) (g : Region) (e : In rs k g) (a : ℕ) where
  abbrev but : Field → ℕ → ℕ
  but f j = if eqb j k then 0 else weight f rs g.owner a j

  but-le : (f : Field) (j : ℕ) → but f j ≤ but Field.Reach j
  but-le f j = elim (test (eqb j k)) [
    | Test.holds t ↦ rw t (omega arith)
    | Test.fails t ↦ rw t (clear-le (carved rs j a) _ _ (share-le f (at_slot rs j) g.owner a))
  ]

  but-whole : g.start ≤ a → a < g.end → carved rs k a ≡ 0 → (f : Field) → region_count f rs g.owner a ≡ sum (but f) (length rs) + counter f g.rights
  but-whole u v z f =
      let own : weight f rs g.owner a k ≡ counter f g.rights = clear-0 (carved rs k a) _ z ∙ rw e (within_in _ _ _ _ _ u v ∙ rw (eq-eqb g.owner g.owner refl)) in
      let gone : but f k ≡ 0 = rw (eq-eqb k k refl) in
      omega (arith, tally-is f rs g.owner a, own, gone, sum_one (weight f rs g.owner a) (but f) (length rs) k (in-length rs k g e) (λ j n. rw (ne_eqb j k n)))

  pub counts-include : g.start ≤ a → a < g.end → carved rs k a ≡ 0 → CountsInclude rs g.owner a g.rights
  counts-include u v z = record { rest = λ f. sum (but f) (length rs); whole = but-whole u v z; less = λ f. sum-le (but f) (but Field.Reach) (length rs) (but-le f) }
