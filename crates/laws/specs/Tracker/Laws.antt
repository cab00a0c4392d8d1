-- The laws of gain and loss at each address: one is added or taken with the rights, from s up to e, and nothing changes elsewhere.
-- Invariant of a whole gain or loss: what its walk says, and no neighbours are left to merge.
use Rattle.std.specs.Prelude.{◌≡◌, ℕ, ◌<◌, List}
use Rattle.std.proofs.Common.{◌∙◌, arith}
use Rattle.std.proofs.Math.Option.{Option}
use Rattle.model.specs.Outcome.{Outcome}
use Rattle.model.specs.State.{Counts, Record, Pool}
use Rattle.model.specs.Fields.{Field, is_marked}
use Rattle.model.specs.Tracker.{Walk, merged, gain, lose}
use Rattle.model.specs.Sound.{Rising, Merged}
use Rattle.laws.specs.Accepted.{All, accepted, bind, weaken}
use Rattle.laws.specs.Tracker.Look.{look}
use Rattle.laws.specs.Tracker.One.{gained, lost, moves}
use Rattle.laws.specs.Tracker.Flag.{Flagged}
use Rattle.laws.specs.Tracker.Walked.{Turned, Walked, add-walked, remove-walked}
use Rattle.laws.specs.Tracker.Merge.{coalesce-law}
use Rattle.laws.specs.Within.{within}

-- g was made of the counts from s up to e, and a field is marked where its count came to or left 0
pub record Done (g : Option Counts → Option Counts) (s e : ℕ) (l : List Record) (w : Walk) : Type 0 where
  pub reads : Turned g s e l w.records
  pub rising : Rising 0 w.records
  pub merged : Merged w.records
  pub flag : (f : Field) → Flagged (moves g f) s e l (is_marked f w.marks)

merged-done : (g : Option Counts → Option Counts) (s e : ℕ) (l : List Record) (m : Outcome Walk) → All (Walked g 0 s e l) m → All (Done g s e l) (merged m)
unfolding merged
merged-done g s e l m h = bind h (λ w f. bind (coalesce-law 0 w.records w.pool f.rising) (λ x k. accepted (record { reads = λ a. k.alike a ∙ f.reads a; rising = k.rising; merged = k.merged; flag = f.flag })))

module _ (r s e : ℕ) (l : List Record) (p : Pool) (o : Rising 0 l) (z : s < e) where
  pub gain-done : All (Done (gained r) s e l) (gain r s e l p)
  unfolding gain
  gain-done = merged-done (gained r) s e l _ (add-walked r s e 0 l p o (omega arith) (omega arith))

  pub lose-done : All (Done (lost r) s e l) (lose r s e l p)
  unfolding lose
  lose-done = merged-done (lost r) s e l _ (remove-walked r s e 0 l p o z)

  -- A gain adds one at each address of its range, with its rights; it makes a record where there was none.
  pub gain-law : All (λ w. (a : ℕ) → look w.records a ≡ within s e a (gained r (look l a)) (look l a)) (gain r s e l p)
  gain-law = weaken gain-done (λ w d. d.reads)

  -- A loss takes one away, and leaves no record where the reach comes to 0.
  pub lose-law : All (λ w. (a : ℕ) → look w.records a ≡ within s e a (lost r (look l a)) (look l a)) (lose r s e l p)
  lose-law = weaken lose-done (λ w d. d.reads)
