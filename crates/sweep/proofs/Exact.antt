-- The sweep is exact: it accepts a list of records if and only if they have the form of a tracker and their counts are the cover at every
-- address. Invariant: behind record b both cursors stand at its end, and from there on they read as the cover.
use Rattle.std.specs.Prelude.{◌≡◌, ℕ, suc, ◌≤◌, ◌<◌, Bool, not, ◌&&◌, T, eqb, ltb, leb, if◌then◌else◌}
use Rattle.std.proofs.Common.{sym, ap, ◌∙◌, arith, eqb→eq, ltb→lt, lt→ltb, leb→le, le→leb, T_not, lt-ltb, le-ltb, eq-eqb}
use Rattle.std.proofs.Math.Option.{some}
use mathlib.Core.List.{List, [], ◌∷◌}
use Rattle.std.proofs.Math.Dec.{not_T}
use Rattle.std.specs.Float.Ieee.Fits.{and_l, and_r, and_i}
use Rattle.base.specs.Cases.{lt, ge, cmp, below, inside, above, pos}
use Rattle.base.specs.Tests.{true-is}
use Rattle.model.specs.Lists.{Each}
use Rattle.model.specs.State.{Record}
use Rattle.model.specs.Fields.{Field, get}
use Rattle.model.specs.Tracker.{same_counts, mergeable}
use Rattle.model.specs.Counts.{counts_at}
use Rattle.model.specs.Sound.{Rising, Merged}
use Rattle.laws.specs.Fields.{get_none}
use Rattle.laws.specs.Tracker.Look.{look, look-low, counts_of, counts-look}
use Rattle.laws.specs.Tracker.Merge.{merged-cons, merged-head, merged-tail}
use Rattle.laws.specs.Within.{within_in, within-hi}
use Rattle.sweep.specs.Sweep.{Cursor, Both, upto, formed, gap, sweep_from}
use Rattle.sweep.specs.Sweep as Step
use Rattle.sweep.proofs.Cursor.{moved, moved-shorter, sorted-lower, left}
use Rattle.sweep.proofs.Inside.{Ready, Counted, Inside, inside-law, ready_moved}
use Rattle.sweep.proofs.Gaps.{Quiet, Silent, gap→, →gap, end→, →end}

-- ---- the stored counts at an address, by where it lies

module _ (f : Field) (a : ℕ) where
  count_low : (lo : ℕ) (l : List Record) → Rising lo l → a < lo → get f (counts_at l a) ≡ 0
  count_low lo l o h = ap (get f) (counts-look l a ∙ ap counts_of (look-low lo a l o h)) ∙ get_none f

  count-in : (q : Record) (l : List Record) → q.start ≤ a → a < q.end → get f (counts_at (q ∷ l) a) ≡ get f q.counts
  count-in q l i j = ap (get f) (counts-look (q ∷ l) a ∙ ap counts_of (within_in q.start q.end a (some q.counts) (look l a) i j))

  count-hi : (q : Record) (l : List Record) → q.end ≤ a → get f (counts_at (q ∷ l) a) ≡ get f (counts_at l a)
  count-hi q l i = ap (get f) (counts-look (q ∷ l) a ∙ ap counts_of (within-hi q.start q.end a (some q.counts) (look l a) i) ∙ sym (counts-look l a))

-- ---- what the sweep behind b says of the records l

pub record Swept (cov : Field → ℕ → ℕ) (b : Record) (l : List Record) : Type 0 where
  pub rising : Rising b.end l
  pub merged : Merged (b ∷ l)
  pub reached : Each (λ q. 0 < q.counts.reach) l
  pub uncacheable : Each (λ q. q.counts.uncacheable ≤ 1) l
  pub counted : (f : Field) (a : ℕ) → b.end ≤ a → get f (counts_at l a) ≡ cov f a

-- the first record's part of it
record Head (cov : Field → ℕ → ℕ) (b q : Record) : Type 0 where
  nonempty : q.start < q.end
  reached : 0 < q.counts.reach
  uncacheable : q.counts.uncacheable ≤ 1
  behind : b.end ≤ q.start
  quiet : Quiet cov b.end q.start
  apart : T (not (mergeable b q))
  counts : Counted cov q q.start

module _ (cov : Field → ℕ → ℕ) (b q : Record) (l : List Record) where
  -- the head and the rest
  swept-cons : Head cov b q → Swept cov q l → Swept cov b (q ∷ l)
  swept-cons h s = record { rising = (h.behind, h.nonempty, s.rising); merged = merged-cons b (q ∷ l) h.apart s.merged; reached = (h.reached, s.reached); uncacheable = (h.uncacheable, s.uncacheable); counted = at }
    where
      at : (f : Field) (a : ℕ) → b.end ≤ a → get f (counts_at (q ∷ l) a) ≡ cov f a
      at f a i = elim (pos q.start q.end a) [
        | below u ↦ count_low f a q.start (q ∷ l) (omega arith, h.nonempty, s.rising) u ∙ sym (h.quiet f a i u)
        | inside u v ↦ count-in f a q l u v ∙ h.counts f a u v
        | above u ↦ count-hi f a q l u ∙ s.counted f a u
      ]

  swept-head : Swept cov b (q ∷ l) → Head cov b q
  swept-head s = record {
    nonempty = s.rising.1;
    reached = s.reached.0;
    uncacheable = s.uncacheable.0;
    behind = s.rising.0;
    quiet = λ f a i j. sym (s.counted f a i) ∙ count_low f a q.start (q ∷ l) (omega arith, s.rising.1, s.rising.2) j;
    apart = merged-head b (q ∷ l) s.merged;
    counts = λ f a i j. sym (count-in f a q l i j) ∙ s.counted f a (omega arith);
  }

  swept-tail : Swept cov b (q ∷ l) → Swept cov q l
  swept-tail s = record { rising = s.rising.2; merged = merged-tail b (q ∷ l) s.merged; reached = s.reached.1; uncacheable = s.uncacheable.1; counted = λ f a i. sym (count-hi f a q l i) ∙ s.counted f a (omega arith) }

swept_none : (cov : Field → ℕ → ℕ) (b : Record) → Silent cov b.end → Swept cov b []
swept_none cov b z = record { rising = tt; merged = tt; reached = tt; uncacheable = tt; counted = λ f a i. get_none f ∙ sym (z f a i) }

none-swept : (cov : Field → ℕ → ℕ) (b : Record) → Swept cov b [] → Silent cov b.end
none-swept cov b s f a i = sym (s.counted f a i) ∙ get_none f

-- ---- the tests of one record

-- touching records with other counts may not be one, nor may records that do not touch
apart-gap : (b q : Record) → b.end < q.start → T (not (mergeable b q))
apart-gap b q h = not_T (mergeable b q) (λ t. let e = eqb→eq b.end q.start (and_l (eqb b.end q.start) (same_counts b.counts q.counts) t) in omega arith)

apart-touch : (b q : Record) → T (not (same_counts b.counts q.counts)) → T (not (mergeable b q))
apart-touch b q h = not_T (mergeable b q) (λ t. T_not (same_counts b.counts q.counts) h (and_r (eqb b.end q.start) (same_counts b.counts q.counts) t))

touch-apart : (b q : Record) → b.end ≡ q.start → T (not (mergeable b q)) → T (not (same_counts b.counts q.counts))
touch-apart b q e h = not_T (same_counts b.counts q.counts) (λ t. T_not (mergeable b q) h (and_i (eqb b.end q.start) (same_counts b.counts q.counts) (true-is (eq-eqb b.end q.start e)) t))

-- behind b, with room for the events that are ahead
pub record Start (cov : Field → ℕ → ℕ) (n : ℕ) (b : Record) (p m : Cursor) : Type 0 where
  pub ready : Ready cov b.end b.end p m
  pub room : left p m ≤ n

module _ (cov : Field → ℕ → ℕ) (small : (f : Field) (a : ℕ) → cov f a ≤ cov Field.Reach a) where
  module _ (n : ℕ) (b q : Record) (p m : Cursor) (c : Start cov n b p m) where
    abbrev m₁ : Cursor
    m₁ = upto b.end m

    abbrev r : Both
    r = Step.inside n q (upto q.start p) (upto q.start m₁)

    abbrev between : Bool
    between = if ltb b.end q.start then gap q.start p m₁ else not (same_counts b.counts q.counts)

    abbrev tests : Bool
    tests = formed q && leb b.end q.start && between && r.ok

    -- the second cursor at the end of b
    ready₁ : Ready cov b.end b.end p m₁
    ready₁ = let k = moved b.end b.end m c.ready.ends in record { starts = c.ready.starts; ends = sorted-lower (suc b.end) b.end m₁.ahead (omega arith) k.above; covers = λ f a i. omega (arith, k.keeps f a i, c.ready.covers f a i); started = c.ready.started }

    room₁ : left (upto q.start p) (upto q.start m₁) ≤ n
    room₁ = omega (arith, c.room, moved-shorter b.end m, moved-shorter q.start p, moved-shorter q.start m₁)

    module _ (h : b.end ≤ q.start) (i : q.start < q.end) where
      rounds : Inside cov q q.start (upto q.start p) (upto q.start m₁) r
      rounds = inside-law cov n q q.start (upto q.start p) (upto q.start m₁) i (ready_moved cov b.end b.end q.start p m₁ h ready₁) room₁

      onward : T r.ok → Start cov n q r.p r.m
      onward t = record { ready = rounds.ready t; room = omega (arith, rounds.room, room₁) }

    between→ : T between → Quiet cov b.end q.start × T (not (mergeable b q))
    between→ t = elim (cmp b.end q.start) [
      | lt h ↦ (gap→ cov small b.end p m c.ready q.start (rw (lt-ltb b.end q.start h) at t), apart-gap b q h)
      | ge h ↦ (λ f a i j. absurd (omega arith), apart-touch b q (rw (le-ltb b.end q.start h) at t))
    ]

    →between : Head cov b q → T between
    →between k = elim (cmp b.end q.start) [
      | lt h ↦ rw (lt-ltb b.end q.start h) (→gap cov small b.end p m c.ready q.start h k.quiet)
      | ge h ↦ rw (le-ltb b.end q.start h) (touch-apart b q (omega (arith, k.behind)) k.apart)
    ]

    tests→ : T tests → Head cov b q × Start cov n q r.p r.m
    tests→ t =
        let ok = and_r (formed q && leb b.end q.start && between) r.ok t in
        let t₁ = and_l (formed q && leb b.end q.start && between) r.ok t in
        let bet = between→ (and_r (formed q && leb b.end q.start) between t₁) in
        let t₂ = and_l (formed q && leb b.end q.start) between t₁ in
        let h = leb→le b.end q.start (and_r (formed q) (leb b.end q.start) t₂) in
        let t₃ = and_l (formed q) (leb b.end q.start) t₂ in
        let u = leb→le q.counts.uncacheable 1 (and_r (ltb q.start q.end && ltb 0 q.counts.reach) (leb q.counts.uncacheable 1) t₃) in
        let t₄ = and_l (ltb q.start q.end && ltb 0 q.counts.reach) (leb q.counts.uncacheable 1) t₃ in
        let v = ltb→lt 0 q.counts.reach (and_r (ltb q.start q.end) (ltb 0 q.counts.reach) t₄) in
        let i = ltb→lt q.start q.end (and_l (ltb q.start q.end) (ltb 0 q.counts.reach) t₄) in
        (record { nonempty = i; reached = v; uncacheable = u; behind = h; quiet = bet.0; apart = bet.1; counts = (rounds h i).tells ok }, onward h i ok)

    →tests : Head cov b q → T tests
    →tests k =
        and_i (formed q && leb b.end q.start && between) r.ok
        (and_i (formed q && leb b.end q.start) between
        (and_i (formed q) (leb b.end q.start)
        (and_i (ltb q.start q.end && ltb 0 q.counts.reach) (leb q.counts.uncacheable 1)
        (and_i (ltb q.start q.end) (ltb 0 q.counts.reach) (lt→ltb q.start q.end k.nonempty) (lt→ltb 0 q.counts.reach k.reached))
        (le→leb q.counts.uncacheable 1 k.uncacheable))
        (le→leb b.end q.start k.behind))
        (→between k))
        ((rounds k.behind k.nonempty).told k.counts)

  -- ---- all records

  pub sweep→ : (n : ℕ) (b : Record) (l : List Record) (p m : Cursor) → Start cov n b p m → T (sweep_from n b l p m) → Swept cov b l
  unfolding sweep_from
  sweep→ n b [] p m c t = swept_none cov b (end→ cov small b.end p m c.ready t)
  sweep→ n b (q ∷ l) p m c t =
      let r = Step.inside n q (upto q.start p) (upto q.start (upto b.end m)) in
      let k = tests→ n b q p m c (and_l (tests n b q p m c) (sweep_from n q l r.p r.m) t) in
      swept-cons cov b q l k.0 (sweep→ n q l r.p r.m k.1 (and_r (tests n b q p m c) (sweep_from n q l r.p r.m) t))

  pub →sweep : (n : ℕ) (b : Record) (l : List Record) (p m : Cursor) → Start cov n b p m → Swept cov b l → T (sweep_from n b l p m)
  unfolding sweep_from
  →sweep n b [] p m c s = →end cov small b.end p m c.ready (none-swept cov b s)
  →sweep n b (q ∷ l) p m c s =
      let r = Step.inside n q (upto q.start p) (upto q.start (upto b.end m)) in
      let t = →tests n b q p m c (swept-head cov b q l s) in
      and_i (tests n b q p m c) (sweep_from n q l r.p r.m) t (→sweep n q l r.p r.m (tests→ n b q p m c t).1 (swept-tail cov b q l s))
