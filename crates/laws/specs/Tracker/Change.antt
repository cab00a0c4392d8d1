-- The marks of a gain and of a loss. Document 02, request 4: "whether that count came to or left 0 somewhere in the range", for each field.
-- The walk's marks speak of the counts before; the law at each address says what became of them.
use Rattle.std.specs.Prelude.{◌≡◌, ◌↔◌, ℕ, ◌≤◌, ◌<◌, List, T}
use Rattle.std.proofs.Math.Option.{Option}
use Rattle.base.specs.Cases.{holds, fails, test}
use Rattle.base.specs.Tests.{true-is, false-is}
use Rattle.model.specs.State.{Counts, Record, Pool}
use Rattle.model.specs.Fields.{Field, get, is_marked}
use Rattle.model.specs.Tracker.{Walk, crosses, gain, lose}
use Rattle.model.specs.Counts.{counts_at}
use Rattle.model.specs.Sound.{Rising}
use Rattle.laws.specs.Accepted.{All, weaken, both}
use Rattle.laws.specs.Tracker.Look.{look, counts-look}
use Rattle.laws.specs.Tracker.Marks.{marked-none, marks-none, gain-small, lose-small}
use Rattle.laws.specs.Tracker.One.{gained, lost, moves}
use Rattle.laws.specs.Tracker.Laws.{Done, gain-done, lose-done}
use Rattle.laws.specs.Within.{within_in}

-- the field's count came to or left 0 at an address of the range
abbrev pub Crossed : Field → ℕ → ℕ → List Record → List Record → Type 0
Crossed f s e l m = (a : ℕ) × (s ≤ a) × (a < e) × T (crosses (get f (counts_at l a)) (get f (counts_at m a)))

-- exactly the fields that crossed are marked
abbrev pub Tells : ℕ → ℕ → List Record → Walk → Type 0
Tells s e l w = (f : Field) → T (is_marked f w.marks) ↔ Crossed f s e l w.records

marks-law : (g : Option Counts → Option Counts) (s e : ℕ) (l : List Record) (w : Walk) → Done g s e l w → Tells s e l w
marks-law g s e l w d f = (
  λ t. let x = (d.flag f).0 t in (x.0, x.1, x.2, rw (at x.0 x.1 x.2) at x.3),
  λ x. (d.flag f).1 (x.0, x.1, x.2, rw (at x.0 x.1 x.2) x.3),
)
  where
    at : (a : ℕ) → s ≤ a → a < e → moves g f (look l a) ≡ crosses (get f (counts_at l a)) (get f (counts_at w.records a))
    at a i j = rw (counts-look l a, counts-look w.records a, d.reads a, within_in s e a (g (look l a)) (look l a) i j)

-- no mark at all: no field crossed
none-law : (s e : ℕ) (l : List Record) (w : Walk) → w.marks < 32 → Tells s e l w → (w.marks ≡ 0) ↔ ((f : Field) → Crossed f s e l w.records → ⊥)
none-law s e l w h t = (
  λ z f x. false-is (marked-none f) (rw z at ((t f).1 x)),
  λ n. marks-none w.marks h (λ f. elim (test (is_marked f w.marks)) [ holds k ↦ absurd (n f ((t f).0 (true-is k))) | fails k ↦ k ]),
)

module _ (r s e : ℕ) (l : List Record) (p : Pool) (o : Rising 0 l) (z : s < e) where
  pub gain-marks : All (λ w. (f : Field) → T (is_marked f w.marks) ↔ Crossed f s e l w.records) (gain r s e l p)
  gain-marks = weaken (gain-done r s e l p o z) (λ w d. marks-law (gained r) s e l w d)

  pub lose-marks : All (λ w. (f : Field) → T (is_marked f w.marks) ↔ Crossed f s e l w.records) (lose r s e l p)
  lose-marks = weaken (lose-done r s e l p o z) (λ w d. marks-law (lost r) s e l w d)

  -- A gain or a loss has no mark if and only if no field crossed.
  pub gain-none : All (λ w. (w.marks ≡ 0) ↔ ((f : Field) → Crossed f s e l w.records → ⊥)) (gain r s e l p)
  gain-none = weaken (both (gain-small r s e l p) gain-marks) (λ w (h, t). none-law s e l w h t)

  pub lose-none : All (λ w. (w.marks ≡ 0) ↔ ((f : Field) → Crossed f s e l w.records → ⊥)) (lose r s e l p)
  lose-none = weaken (both (lose-small r s e l p) lose-marks) (λ w (h, t). none-law s e l w h t)
