-- A tracker is sound if it has the form and its stored counts are the regions' at every address: the way back from the law of counts.
-- Invariant: from the address lo on, where the list begins, every stored count agrees.
use Rattle.std.specs.Prelude.{ℕ, ◌≤◌, ◌<◌, List, [], ◌∷◌, T}
use Rattle.std.proofs.Math.Option.{Option, some}
use Rattle.std.proofs.Common.{arith}
use Rattle.base.specs.Cases.{Test, test}
use Rattle.model.specs.Lists.{exists, Each}
use Rattle.model.specs.State.{Record, Region}
use Rattle.model.specs.Fields.{Field}
use Rattle.model.specs.Counts.{holds, counts_at, Agree}
use Rattle.model.specs.Sound.{Rising, TrackerSound}
use Rattle.laws.specs.Tracker.Look.{look, counts-look}
use Rattle.laws.specs.Tracker.Form.{Form}
use Rattle.laws.specs.Within.{within_in, within-hi}

module _ (rs : List (Option Region)) (d : ℕ) where
  agree-each : (lo : ℕ) (l : List Record) → Rising lo l → ((a : ℕ) → lo ≤ a → Agree rs d a (counts_at l a)) → Each (λ q. (a : ℕ) → q.start ≤ a → a < q.end → Agree rs d a q.counts) l
  agree-each lo [] o h = tt
  agree-each lo (q ∷ l) o h = (own, agree-each q.end l o.2 rest)
    where
      own : (a : ℕ) → q.start ≤ a → a < q.end → Agree rs d a q.counts
      own a i j = rw (counts-look (q ∷ l) a, within_in q.start q.end a (some q.counts) (look l a) i j) at (h a (omega arith))

      rest : (a : ℕ) → q.end ≤ a → Agree rs d a (counts_at l a)
      rest a i = rw (counts-look l a) (rw (counts-look (q ∷ l) a, within-hi q.start q.end a (some q.counts) (look l a) i) at (h a (omega arith)))

  -- where something is counted there is a record
  reach-held : (l : List Record) (a : ℕ) → 0 < (counts_at l a).reach → T (exists (λ q. holds q.start q.end a) l)
  reach-held [] a h = absurd (omega arith)
  reach-held (q ∷ l) a h = elim (test (holds q.start q.end a)) [
    | Test.holds t ↦ rw t tt
    | Test.fails t ↦ rw t (reach-held l a (rw t at h))
  ]

  pub tracker-sound : (l : List Record) → Form l → ((a : ℕ) → Agree rs d a (counts_at l a)) → TrackerSound rs d l
  tracker-sound l f h = record {
    rising = f.rising;
    merged = f.merged;
    reached = f.reached;
    counted = agree-each 0 l f.rising (λ a i. h a);
    uncacheable = f.uncacheable;
    covered = λ a k. reach-held l a (let e = h a Field.Reach in omega arith);
  }
