-- A law: in sound tables the stored counts are the regions', at every address (the claim of demand 3 about counts).
use Rattle.std.specs.Prelude.{◌≡◌, refl, ℕ, suc, ◌≤◌, ◌<◌, Bool, true, false, ◌&&◌, List, [], ◌∷◌, T}
use Rattle.std.proofs.Math.Option.{Option, none, some}
use Rattle.std.proofs.Common.{arith, leb→le, ltb→lt}
use Rattle.std.specs.Float.Ieee.Fits.{and_l, and_r}
use Rattle.model.specs.Lists.{one_if, exists, Each}
use Rattle.model.specs.State.{Region, Record}
use Rattle.base.specs.Cases.{lt, ge, cmp}
use Rattle.base.specs.Tests.{true-is}
use Rattle.model.specs.Fields.{Field, passes}
use Rattle.model.specs.Tracker.{no_counts}
use Rattle.model.specs.Counts.{holds, counts_at, counts_for, tally, region_count, Agree}
use Rattle.model.specs.Sound.{TrackerSound}
use Rattle.laws.specs.Fields.{get_none}

fewer : (b c : Bool) → one_if (b && c) ≤ one_if (b && true)
fewer true true = omega arith
fewer true false = omega arith
fewer false true = omega arith
fewer false false = omega arith

-- a right counts for no more regions than there are
tally-le : (rs : List (Option Region)) (d a : ℕ) (t : ℕ → Bool) (i : ℕ) (l : List (Option Region)) → tally rs d a t i l ≤ tally rs d a (λ r. true) i l
tally-le rs d a t i [] = omega arith
tally-le rs d a t i (none ∷ l) = tally-le rs d a t (suc i) l
tally-le rs d a t i (some g ∷ l) = omega (arith, fewer (counts_for rs d a i g) (t g.rights), tally-le rs d a t (suc i) l)

nothing-there : (rs : List (Option Region)) (d a : ℕ) → region_count Field.Reach rs d a ≡ 0 → Agree rs d a no_counts
nothing-there rs d a h f = omega (arith, get_none f, tally-le rs d a (passes f) 0 rs)

-- the first record that holds a agrees; if none does, no region counts there
read_off : (rs : List (Option Region)) (d a : ℕ) (l : List Record) → Each (λ q. (b : ℕ) → q.start ≤ b → b < q.end → Agree rs d b q.counts) l → (0 < region_count Field.Reach rs d a → T (exists (λ q. holds q.start q.end a) l)) → Agree rs d a (counts_at l a)
read_off rs d a [] h c = elim (cmp 0 (region_count Field.Reach rs d a)) [ lt i ↦ absurd (c i) | ge i ↦ nothing-there rs d a (omega arith) ]
read_off rs d a (q ∷ l) h c = go (holds q.start q.end a) refl (λ k. read_off rs d a l h.1 k)
  where
    go : (b : Bool) → holds q.start q.end a ≡ b → ((0 < region_count Field.Reach rs d a → T (exists (λ n. holds n.start n.end a) l)) → Agree rs d a (counts_at l a)) → Agree rs d a (counts_at (q ∷ l) a)
    go true e ih = rw e (let t = true-is e in h.0 a (leb→le _ _ (search and_l)) (ltb→lt _ _ (search and_r)))
    go false e ih = rw e (ih (λ k. rw e at (c k)))

pub counts-law : (rs : List (Option Region)) (d : ℕ) (l : List Record) → TrackerSound rs d l → (a : ℕ) → Agree rs d a (counts_at l a)
counts-law rs d l h a = read_off rs d a l h.counted (h.covered a)
