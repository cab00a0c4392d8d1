-- What the model's two walks share: records done are put before the walk over the rest, and a record is cut at an edge of the range.
use Rattle.std.specs.Prelude.{◌≡◌, ℕ, ◌≤◌, ◌<◌, true, false, List, [], ◌∷◌, ◌++◌}
use Rattle.std.proofs.Math.Path.{refl, sym, ap}
use Rattle.std.proofs.Common.{◌∙◌, append_assoc, lt-ltb, le-ltb}
use Rattle.rights.specs.Rights.{union}
use Rattle.model.specs.Outcome.{Outcome, ok, refuse, ◌>>=◌}
use Rattle.refusals.specs.declared.Refusal.{Refusal}
use Rattle.refusals.specs.Refusals.{no_tracker}
use Rattle.model.specs.State.{Record, Pool}
use Rattle.model.specs.Pool.{allocate}
use Rattle.model.specs.Tracker.{Walk, with_end, split_at, cut_before, cut_after, meets}
use Rattle.refine.specs.Agrees.{ok-then, bind_assoc}
use Rattle.refine.specs.Tracker.RecordSteps.{from}
use Rattle.refine.specs.Tracker.Unions.{union_assoc}

abbrev pub walked : List Record → Pool → ℕ → Walk
walked l p c = record { records = l; pool = p; marks = c }

-- a walk, with records b done before it, whose marks are c
unfoldable pub ahead : List Record → ℕ → Outcome Walk → Outcome Walk
ahead b c m = m >>= λ w. ok (walked (b ++ w.records) w.pool (union c w.marks))

pub ahead-ahead : (b b' : List Record) (c c' : ℕ) (m : Outcome Walk) → ahead b c (ahead b' c' m) ≡ ahead (b ++ b') (union c c') m
unfolding ahead ◌>>=◌
ahead-ahead b b' c c' (ok w) =
    let r = sym (append_assoc b b' w.records) in
    let z = sym (union_assoc c c' w.marks) in
    λ i. ok (walked (r i) w.pool (z i))
ahead-ahead b b' c c' (refuse x) = refl

pub ahead-then : {A : Type 0} (b : List Record) (c : ℕ) (m : Outcome A) (f : A → Outcome Walk) → ahead b c (m >>= f) ≡ m >>= (λ y. ahead b c (f y))
unfolding ahead
ahead-then b c m f = bind_assoc m f _

ahead-ok : (b : List Record) (c : ℕ) (w : Walk) → ahead b c (ok w) ≡ ok (walked (b ++ w.records) w.pool (union c w.marks))
unfolding ahead ◌>>=◌
ahead-ok b c w = refl

-- what follows a walk with records before it
module _ (n : Pool → Outcome Walk) where
  unfoldable after_walk : Walk → Outcome Walk
  after_walk w = ahead w.records w.marks (n w.pool)

  after-refused : (b : List Record) (c : ℕ) (r : Refusal) → ahead b c (refuse r) >>= after_walk ≡ ahead b c (refuse r >>= after_walk)
  unfolding ahead ◌>>=◌
  after-refused b c r = refl

  pub ahead-out : (b : List Record) (c : ℕ) (m : Outcome Walk) → ahead b c m >>= (λ w. ahead w.records w.marks (n w.pool)) ≡ ahead b c (m >>= λ w. ahead w.records w.marks (n w.pool))
  unfolding after_walk
  ahead-out b c (ok w) =
      ap (λ k. k >>= after_walk) (ahead-ok b c w) ∙ ok-then _ after_walk ∙ sym (ap (ahead b c) (ok-then w after_walk) ∙ ahead-ahead b w.records c w.marks (n w.pool))
  ahead-out b c (refuse r) = after-refused b c r

-- ---- a record cut

module _ (c : ℕ) (q : Record) (p : Pool) where
  pub before-whole : c ≤ q.start → cut_before c q p ≡ ok ([], q, p)
  unfolding cut_before
  before-whole h = rw (le-ltb q.start c h)

  pub before-cut : q.start < c → cut_before c q p ≡ allocate no_tracker p >>= λ z. ok (with_end c q ∷ [], from c z.0 q, z.1)
  unfolding cut_before split_at ◌>>=◌
  before-cut h = rw (lt-ltb q.start c h) (bind_assoc (allocate no_tracker p) _ _)

  pub after-whole : q.end ≤ c → cut_after c q p ≡ ok (q, [], p)
  unfolding cut_after
  after-whole h = rw (le-ltb c q.end h)

  pub after-cut : c < q.end → cut_after c q p ≡ allocate no_tracker p >>= λ z. ok (with_end c q, from c z.0 q ∷ [], z.1)
  unfolding cut_after split_at ◌>>=◌
  after-cut h = rw (lt-ltb c q.end h) (bind_assoc (allocate no_tracker p) _ _)

-- ---- does a record meet the range

pub meets-t : (s e : ℕ) (q : Record) → s < q.end → q.start < e → meets s e q ≡ true
meets-t s e q a b = rw (lt-ltb s q.end a, lt-ltb q.start e b)

pub meets-below : (s e : ℕ) (q : Record) → q.end ≤ s → meets s e q ≡ false
meets-below s e q a = rw (le-ltb s q.end a)

pub meets-above : (s e : ℕ) (q : Record) → s < q.end → e ≤ q.start → meets s e q ≡ false
meets-above s e q a b = rw (lt-ltb s q.end a, le-ltb q.start e b)
