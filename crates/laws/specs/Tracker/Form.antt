-- The form of a tracker: rising, merged, every reach above 0, every uncacheable count 0 or 1. Gain and loss keep it.
-- A property of every record's counts is one of the counts at every address, so the law there gives it with no look at the steps.
use Rattle.std.specs.Prelude.{ℕ, ◌≤◌, ◌<◌, ◌-◌, List}
use Rattle.std.proofs.Math.Option.{Option, none, some}
use Rattle.std.proofs.Common.{arith, eq-eqb, ne_eqb}
use Rattle.base.specs.Cases.{lt, ge, cmp}
use Rattle.rights.specs.Rights.{UNCACHEABLE, has}
use Rattle.model.specs.Lists.{Each}
use Rattle.model.specs.State.{Counts, Record, Pool, Region}
use Rattle.model.specs.Tracker.{Walk, gain, lose, lower}
use Rattle.model.specs.Sound.{Rising, Merged, TrackerSound}
use Rattle.laws.specs.Accepted.{All, weaken}
use Rattle.laws.specs.Stack.{one_at_most}
use Rattle.laws.specs.Tracker.Look.{look, Has, has_within, has-look, each-of-look}
use Rattle.laws.specs.Tracker.One.{gained, lost}
use Rattle.laws.specs.Tracker.Laws.{Done, gain-done, lose-done}

abbrev Reached : Counts → Type 0
Reached k = 0 < k.reach

abbrev Bit : Counts → Type 0
Bit k = k.uncacheable ≤ 1

pub record Form (l : List Record) : Type 0 where
  pub rising : Rising 0 l
  pub merged : Merged l
  pub reached : Each (λ q. 0 < q.counts.reach) l
  pub uncacheable : Each (λ q. q.counts.uncacheable ≤ 1) l

pub sound-form : (rs : List (Option Region)) (d : ℕ) (l : List Record) → TrackerSound rs d l → Form l
sound-form rs d l h = record { rising = h.rising; merged = h.merged; reached = h.reached; uncacheable = h.uncacheable }

-- what a change keeps of one set of counts it keeps of all
each-kept : (P : Counts → Type 0) (g : Option Counts → Option Counts) (s e : ℕ) (l : List Record) (w : Walk) → ((x : Option Counts) → Has P x → Has P (g x)) → Done g s e l w → Each (λ q. P q.counts) l → Each (λ q. P q.counts) w.records
each-kept P g s e l w f d h = each-of-look P 0 w.records d.rising (λ a. let k = has-look P l h a in rw (d.reads a) (has_within P s e a (g (look l a)) (look l a) (λ i j. f (look l a) k) k))

form-kept : (g : Option Counts → Option Counts) (s e : ℕ) (l : List Record) (w : Walk) → ((x : Option Counts) → Has Reached x → Has Reached (g x)) → ((x : Option Counts) → Has Bit x → Has Bit (g x)) → Form l → Done g s e l w → Form w.records
form-kept g s e l w f h k d = record {
  rising = d.rising;
  merged = d.merged;
  reached = each-kept Reached g s e l w f d k.reached;
  uncacheable = each-kept Bit g s e l w h d k.uncacheable;
}

gained-reached : (r : ℕ) (x : Option Counts) → Has Reached x → Has Reached (gained r x)
gained-reached r none h = omega arith
gained-reached r (some k) h = omega arith

gained-bit : (r : ℕ) (x : Option Counts) → Has Bit x → Has Bit (gained r x)
gained-bit r none h = one_at_most (has r UNCACHEABLE)
gained-bit r (some k) h = h

-- what a loss leaves of counts is the lowered ones, or nothing
lost-has : (P : Counts → Type 0) (r : ℕ) (k : Counts) → (1 < k.reach → P (lower r k)) → Has P (lost r (some k))
lost-has P r k h = elim (cmp 1 k.reach) [ lt i ↦ rw (ne_eqb (k.reach - 1) 0 (omega arith)) (h i) | ge i ↦ rw (eq-eqb (k.reach - 1) 0 (omega arith)) tt ]

lost-reached : (r : ℕ) (x : Option Counts) → Has Reached x → Has Reached (lost r x)
lost-reached r none h = tt
lost-reached r (some k) h = lost-has Reached r k (λ i. omega arith)

lost-bit : (r : ℕ) (x : Option Counts) → Has Bit x → Has Bit (lost r x)
lost-bit r none h = tt
lost-bit r (some k) h = lost-has Bit r k (λ i. h)

module _ (r s e : ℕ) (l : List Record) (p : Pool) (k : Form l) (z : s < e) where
  pub gain-form : All (λ w. Form w.records) (gain r s e l p)
  gain-form = weaken (gain-done r s e l p k.rising z) (λ w d. form-kept (gained r) s e l w (gained-reached r) (gained-bit r) k d)

  pub lose-form : All (λ w. Form w.records) (lose r s e l p)
  lose-form = weaken (lose-done r s e l p k.rising z) (λ w d. form-kept (lost r) s e l w (lost-reached r) (lost-bit r) k d)
