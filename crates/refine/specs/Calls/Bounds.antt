-- What a step on a tracker needs of a state (`TrackersRaisable`), and the invariant that gives it through the steps: the ring and the pools are sound, every tracker
-- has its form, every record slot is in use or free once, and no stored count is above b. A gain raises b by one, a loss leaves it; where the trackers
-- store what the regions count, b is the number of regions.
use Rattle.std.specs.Prelude.{◌≡◌, refl, ℕ, zero, suc, ◌+◌, ◌-◌, ◌^◌, ◌≤◌, ◌<◌, Bool, List, eqb, length, if◌then◌else◌}
use Rattle.std.proofs.Common.{subst, arith, eq-eqb, ne_eqb}
use Rattle.std.proofs.Math.Option.{Option, none, some}
use Rattle.std.proofs.Math.Decide.{ℕ_discrete}
use Rattle.base.specs.Cases.{below, inside, above, pos, holds, fails, test}
use Rattle.model.specs.Lists.{Each, at_slot}
use Rattle.model.specs.State.{State, Counts, Record, Region, Access, domain_at}
use Rattle.model.specs.Fields.{Field, get, passes, counter}
use Rattle.model.specs.Tracker.{Walk}
use Rattle.model.specs.Counts.{region_count}
use Rattle.model.specs.Regions.{activate, deactivate}
use Rattle.model.specs.Sound.{PoolSound, record_uses}
use Rattle.laws.specs.Accepted.{All, bind, weaken, both}
use Rattle.laws.specs.Stack.{one_at_most}
use Rattle.laws.specs.Fields.{get_none, get-lower}
use Rattle.laws.specs.Tracker.Look.{look, counts_of, counts-look, Has, each-of-look}
use Rattle.laws.specs.Tracker.Fields.{count_at}
use Rattle.laws.specs.Tracker.Form.{Form, lose-form}
use Rattle.laws.specs.Tracker.One.{lost}
use Rattle.laws.specs.Tracker.Laws.{lose-law}
use Rattle.laws.specs.Tracker.Slots.{lose-slots}
use Rattle.laws.specs.Tree.Sum.{sum-le, sum-each}
use Rattle.laws.specs.Tree.Slots.{live-is}
use Rattle.laws.specs.Tree.Shares.{grant, share, carved, clear, tally-is, weight}
use Rattle.laws.specs.Tree.Send.{held}
use Rattle.laws.specs.Keep.SameDomains.{SameOutside}
use Rattle.laws.specs.Keep.Tracked.{Tracked, put-queue, put-tracked, activate-tracked}
use Rattle.laws.specs.Keep.Agreement.{counts_over}
use Rattle.laws.specs.Keep.Base.{Base}
use Rattle.laws.specs.Keep.BaseSteps.{Live, gained-base, lost-base}
use Rattle.laws.specs.Keep.Whole.{Whole}
use Rattle.laws.specs.Within.{within, W, within-lo, within_in, within-hi}
use Rattle.decoded.specs.Sizes.{good-limits}

-- ---- what is needed, and what is kept

pub record TrackersRaisable (s : State) : Type 0 where
  pub base : Base s
  pub form : (d : ℕ) → Form (domain_at s d).tracker
  pub pool : PoolSound s.sizes.records (record_uses s.domains) s.record_pool
  -- every count of every record can be raised
  pub low : (d : ℕ) → Each (λ q. (f : Field) → get f q.counts < 2 ^ 64 - 1) (domain_at s d).tracker

pub record Formed (b : ℕ) (s : State) : Type 0 where
  pub form : (d : ℕ) → Form (domain_at s d).tracker
  pub pool : PoolSound s.sizes.records (record_uses s.domains) s.record_pool
  pub low : (f : Field) (d a : ℕ) → held s f d a ≤ b

abbrev pub Bounded : ℕ → State → Type 0
Bounded b s = Base s × Formed b s

pub tracked-formed : (b : ℕ) (s : State) (T : Field → ℕ → ℕ → ℕ) → Tracked s T → ((f : Field) (d a : ℕ) → T f d a ≤ b) → Formed b s
tracked-formed b s T h l = record { form = h.form; pool = h.pool; low = λ f d a. omega (arith, h.counts f d a, l f d a) }

formed-tracked : (b : ℕ) (s : State) → Formed b s → Tracked s (held s)
formed-tracked b s h = record { form = h.form; counts = λ f d a. refl; pool = h.pool }

pub bounded-more : (b c : ℕ) (s : State) → b ≤ c → Bounded b s → Bounded c s
bounded-more b c s l (k, h) = (k, record { form = h.form; pool = h.pool; low = λ f d a. omega (arith, h.low f d a) })

-- what holds of the counts at every address holds of every record
has-at : (P : Counts → Type 0) (x : Option Counts) → P (counts_of x) → Has P x
has-at P none h = tt
has-at P (some k) h = h

pub bounded-raisable : (b : ℕ) (s : State) → b < 2 ^ 64 - 1 → Bounded b s → TrackersRaisable s
bounded-raisable b s l (k, h) = record {
  base = k;
  form = h.form;
  pool = h.pool;
  low = λ d.
      let P : Counts → Type 0 = λ c. (f : Field) → get f c < 2 ^ 64 - 1 in
      each-of-look P 0 (domain_at s d).tracker (h.form d).rising (λ a. has-at P (look (domain_at s d).tracker a) (subst P (counts-look (domain_at s d).tracker a) (λ f. omega (arith, h.low f d a))));
}

-- ---- one range

within_low : (s e a x : ℕ) → x ≤ 1 → within s e a x 0 ≤ 1
within_low s e a x h = elim (pos s e a) [
  | below i ↦ omega (arith, within-lo s e a x 0 i)
  | inside i j ↦ omega (arith, within_in s e a x 0 i j)
  | above i ↦ omega (arith, within-hi s e a x 0 i)
]

if-low : (b : Bool) (x : ℕ) → x ≤ 1 → (if b then x else 0) ≤ 1
if-low b x h = elim (test b) [ holds t ↦ rw t h | fails t ↦ rw t (omega arith) ]

grant-low : (f : Field) (o s e r d a : ℕ) → grant f o s e r d a ≤ 1
grant-low f o s e r d a = within_low s e a _ (if-low (eqb o d) (counter f r) (one_at_most (passes f r)))

-- a loss leaves no count higher
lost-low : (f : Field) (r : ℕ) (x : Option Counts) → get f (counts_of (lost r x)) ≤ get f (counts_of x)
lost-low f r none = omega arith
lost-low f r (some k) = elim (test (eqb (k.reach - 1) 0)) [ holds t ↦ rw t (omega (arith, get_none f)) | fails t ↦ rw t (omega (arith, get-lower f r k)) ]

lost-at : (f : Field) (r s e : ℕ) (l m : List Record) (a : ℕ) → look m a ≡ within s e a (lost r (look l a)) (look l a) → count_at f m a ≤ count_at f l a
lost-at f r s e l m a h = rw (counts-look m a, counts-look l a, h) (elim (pos s e a) [
  | below i ↦ simp W (omega arith)
  | inside i j ↦ simp W (lost-low f r (look l a))
  | above i ↦ simp W (omega arith)
])

-- ---- the steps

module _ (closing : List ℕ) (b : ℕ) (s : State) (h : Bounded b s) (d : ℕ) (live : Live s d) (a : Access) (z : a.start < a.end) where
  abbrev raised : Field → ℕ → ℕ → ℕ
  raised f k c = held s f k c + grant f d a.start a.end a.rights k c

  pub gain-bounded : All (λ t. Bounded (suc b) t × SameOutside s t) (activate closing d a s)
  gain-bounded =
      let (x, e) = live-is (at_slot s.domains d) live in
      weaken (both (gained-base closing s d (h.0, live) a) (activate-tracked closing s (held s) raised (formed-tracked b s h.1) d x e a z (λ f k c. refl)))
      (λ t ((k, n), (m, o)). ((k, tracked-formed (suc b) t raised m (λ f j c. omega (arith, h.1.low f j c, grant-low f d a.start a.end a.rights j c))), n))

  -- the new tracker's counts, and the others as they are
  abbrev left : Walk → Field → ℕ → ℕ → ℕ
  left w f k c = if eqb k d then count_at f w.records c else held s f k c

  left-low : (w : Walk) → ((c : ℕ) → look w.records c ≡ within a.start a.end c (lost a.rights (look (domain_at s d).tracker c)) (look (domain_at s d).tracker c)) → (f : Field) (k c : ℕ) → left w f k c ≤ b
  left-low w m f k c = elim (ℕ_discrete k d) [
    | yes e ↦ rw (eq-eqb k d e) (omega (arith, lost-at f a.rights a.start a.end (domain_at s d).tracker w.records c (m c), h.1.low f d c))
    | no n ↦ rw (ne_eqb k d n) (h.1.low f k c)
  ]

  lost-formed : All (Formed b) (deactivate closing d a s)
  unfolding deactivate
  lost-formed =
      let (x, e) = live-is (at_slot s.domains d) live in
      let l = (domain_at s d).tracker in
      bind (both (lose-form a.rights a.start a.end l s.record_pool (h.1.form d) z) (both (lose-law a.rights a.start a.end l s.record_pool (h.1.form d).rising z) (lose-slots a.rights a.start a.end l s.record_pool))) (λ w k.
      put-queue s d w closing (Formed b) (λ q.
      tracked-formed b _ (left w) (put-tracked s d x e w (held s) (left w) (formed-tracked b s h.1) (λ f j c n. rw (ne_eqb j d n)) k.0 (λ f c. rw (eq-eqb d d refl)) k.1.1 q) (left-low w k.1.0)))

  pub loss-bounded : All (λ t. Bounded b t × SameOutside s t) (deactivate closing d a s)
  loss-bounded = weaken (both (lost-base closing s d (h.0, live) a) lost-formed) (λ t ((k, n), m). ((k, m), n))

-- ---- where the trackers store what the regions count

clear-low : (c x : ℕ) → clear c x ≤ x
clear-low zero x = omega arith
clear-low (suc c) x = omega arith

share-low : (f : Field) (x : Option Region) (d a : ℕ) → share f x d a ≤ 1
share-low f none d a = omega arith
share-low f (some g) d a = grant-low f g.owner g.start g.end g.rights d a

tally-low : (f : Field) (rs : List (Option Region)) (d a : ℕ) → region_count f rs d a ≤ length rs
tally-low f rs d a =
    omega (
      arith,
      tally-is f rs d a,
      sum-le (weight f rs d a) (λ k. 1) (length rs) (λ k. omega (arith, clear-low (carved rs k a) (share f (at_slot rs k) d a), share-low f (at_slot rs k) d a)),
      sum-each (length rs),
    )

pub regions-few : (s : State) → Base s → length s.regions ≤ 1024
regions-few s k = omega (arith, k.regions.size, (good-limits s.sizes k.ring.sizes_good).regions-high)

pub counts-formed : (s t : State) → Base s → Tracked t (counts_over s.regions) → Formed 1024 t
counts-formed s t k h = tracked-formed 1024 t (counts_over s.regions) h (λ f d a. omega (arith, tally-low f s.regions d a, regions-few s k))

pub whole-bounded : (s : State) → Whole s → Bounded 1024 s
whole-bounded s (g, k) = (k, counts-formed s s k g.tracked)
