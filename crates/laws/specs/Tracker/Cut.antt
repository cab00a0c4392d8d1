-- The pieces that a walk makes. Invariant: a piece reads as one range with one set of counts, and rises inside that range.
-- The two cuts of a record are proved once, for gain and loss, whatever stands between them.
use Rattle.std.specs.Prelude.{◌≡◌, refl, ℕ, ◌≤◌, min, max, not, List, [], ◌∷◌, ltb}
use Rattle.std.proofs.Common.{sym, ap₂, ◌∙◌, arith, le_refl, ltb→lt, nltb→le}
use Rattle.std.proofs.Math.Option.{Option, none, some}
use Rattle.base.specs.Cases.{lt, ge, cmp}
use Rattle.base.specs.Tests.{is_true, is_false}
use Rattle.model.specs.Lists.{is_empty}
use Rattle.model.specs.Outcome.{Outcome, ◌>>=◌}
use Rattle.model.specs.State.{Counts, Record, Pool}
use Rattle.model.specs.Tracker.{new_counts, split_at, cut_before, cut_after, fill_gap}
use Rattle.laws.specs.Accepted.{All, accepted, bind, bind-any, branch-on}
use Rattle.laws.specs.Tracker.Look.{look}
use Rattle.laws.specs.Tracker.Span.{Span}
use Rattle.laws.specs.Within.{within, W}

-- these records are one range with these counts, or none if the range is empty or there are no counts
abbrev pub Reads : List Record → ℕ → ℕ → Option Counts → Type 0
Reads l s e x = (a : ℕ) → look l a ≡ within s e a x none

reads_none : (s e : ℕ) (k : Counts) → e ≤ s → Reads [] s e (some k)
reads_none s e k h a = elim (cmp a s) [ lt i ↦ simp W | ge i ↦ let j : e ≤ a = omega arith in simp W ]

-- ---- the fill of a gap

pub record Gap (r s e : ℕ) (x : List Record × Pool) : Type 0 where
  pub reads : Reads x.0 s e (some (new_counts r))
  pub span : (lo hi : ℕ) → lo ≤ s → lo ≤ hi → e ≤ hi → Span lo hi x.0
  pub filled : not (is_empty x.0) ≡ ltb s e

pub gap-law : (r s e : ℕ) (p : Pool) → All (Gap r s e) (fill_gap r s e p)
unfolding fill_gap
gap-law r s e p =
    branch-on (ltb s e)
    (λ t. let h = ltb→lt s e t in bind-any _ (λ x. accepted (record { reads = λ a. refl; span = λ lo hi u v w. (u, h, w); filled = sym (is_true t) })))
    (λ t. let h = nltb→le s e t in accepted (record { reads = reads_none s e (new_counts r) h; span = λ lo hi u v w. v; filled = sym (is_false t) }))

-- ---- the cuts of a record

-- what is cut off before s, and the rest
record Before (q : Record) (s : ℕ) (x : List Record × Record × Pool) : Type 0 where
  reads : Reads x.0 q.start s (some q.counts)
  span : Span q.start x.1.start x.0
  start : x.1.start ≡ max q.start s
  end : x.1.end ≡ q.end
  counts : x.1.counts ≡ q.counts

before-law : (s : ℕ) (q : Record) (p : Pool) → All (Before q s) (cut_before s q p)
unfolding cut_before split_at
before-law s q p =
    branch-on (ltb q.start s)
    (λ t. let h = ltb→lt q.start s t in
    bind {P = λ (x : Record × Record × Pool). Before q s (x.0 ∷ [], x.1, x.2)}
    (bind-any _ (λ x. accepted (record { reads = λ a. refl; span = (le_refl _, h, le_refl _); start = omega arith; end = refl; counts = refl })))
    (λ x f. accepted f))
    (λ t. let h = nltb→le q.start s t in accepted (record { reads = reads_none q.start s q.counts h; span = le_refl _; start = omega arith; end = refl; counts = refl }))

-- what is cut off from e on, and the rest
record After (q : Record) (e : ℕ) (x : Record × List Record × Pool) : Type 0 where
  reads : Reads x.1 e q.end (some q.counts)
  span : Span x.0.end q.end x.1
  start : x.0.start ≡ q.start
  end : x.0.end ≡ min q.end e
  counts : x.0.counts ≡ q.counts

after-law : (e : ℕ) (q : Record) (p : Pool) → All (After q e) (cut_after e q p)
unfolding cut_after split_at
after-law e q p =
    branch-on (ltb e q.end)
    (λ t. let h = ltb→lt e q.end t in
    bind {P = λ (x : Record × Record × Pool). After q e (x.0, x.1 ∷ [], x.2)}
    (bind-any _ (λ x. accepted (record { reads = λ a. refl; span = (le_refl _, h, le_refl _); start = refl; end = omega arith; counts = refl })))
    (λ x f. accepted f))
    (λ t. let h = nltb→le e q.end t in accepted (record { reads = reads_none e q.end q.counts h; span = le_refl _; start = refl; end = omega arith; counts = refl }))

-- Both cuts: b before the range, m inside it with the old counts, c after it.
pub record Cut (s e : ℕ) (q : Record) (b : List Record) (m : Record) (c : List Record) : Type 0 where
  pub before : Reads b q.start s (some q.counts)
  pub after : Reads c e q.end (some q.counts)
  pub span_before : Span q.start m.start b
  pub span_after : Span m.end q.end c
  pub start : m.start ≡ max q.start s
  pub end : m.end ≡ min q.end e
  pub counts : m.counts ≡ q.counts

cut-both : (s e : ℕ) (q : Record) (x : List Record × Record × Pool) (y : Record × List Record × Pool) → Before q s x → After x.1 e y → Cut s e q x.0 y.0 y.1
cut-both s e q x y f g = record {
  before = f.reads;
  after = λ a. g.reads a ∙ ap₂ (λ (m : ℕ) (k : Counts). within e m a (some k) none) f.end f.counts;
  span_before = rw g.start f.span;
  span_after = rw f.end at g.span;
  start = g.start ∙ f.start;
  end = omega arith;
  counts = g.counts ∙ f.counts;
}

-- whatever is done with the three
pub cutting : {B : Type 0} {Q : B → Type 0} (s e : ℕ) (q : Record) (p : Pool) (k : List Record → Record → List Record → Pool → Outcome B) → ((b : List Record) (m : Record) (c : List Record) (p' : Pool) → Cut s e q b m c → All Q (k b m c p')) → All Q (cut_before s q p >>= λ x. cut_after e x.1 x.2 >>= λ y. k x.0 y.0 y.1 y.2)
cutting s e q p k h = bind (before-law s q p) (λ x f. bind (after-law e x.1 x.2) (λ y g. h x.0 y.0 y.1 y.2 (cut-both s e q x y f g)))
