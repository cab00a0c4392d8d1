-- The trackers and the record pool against counts T of field, domain and address. Invariant: every tracker has the form and stores T, and every
-- record slot is in use or free once. A slot without a domain reads as one with an empty tracker, so that all domains are spoken of alike.
-- A gain and a loss of a range write one tracker, the record pool and the queue: T changes by that range, and nothing else changes.
use Rattle.std.specs.Prelude.{◌≡◌, refl, ◌≢◌, ℕ, zero, suc, ◌+◌, ◌≤◌, ◌<◌, List, [], ◌∷◌, ◌||◌, length, set, if◌then◌else◌}
use Rattle.std.proofs.Common.{sym, ap, ◌∙◌, arith, length-set, get_or-set_same, get_or-set_other, eq-eqb, ne_eqb}
use Rattle.std.proofs.Math.Option.{Option, none, some, get_or}
use Rattle.std.proofs.Math.Decide.{ℕ_discrete}
use Rattle.std.proofs.Math.Dec.{T, eqb}
use Rattle.base.specs.Cases.{below, inside, above, pos}
use Rattle.base.specs.Options.{none-some}
use Rattle.model.specs.Lists.{exists, at_slot, In}
use Rattle.model.specs.State.{State, Domain, Record, Access, Update, Queue, none_domain, domain_at, put_domain, with_tracker, with_record_pool, with_queue}
use Rattle.model.specs.Fields.{Field, counter}
use Rattle.model.specs.Pool.{handle_of}
use Rattle.model.specs.Tracker.{Walk}
use Rattle.model.specs.Updates.{push, push_permission, is_permission_of}
use Rattle.model.specs.Counts.{stored_counts}
use Rattle.model.specs.Sound.{PoolSound, record_uses}
use Rattle.model.specs.Regions.{put_walk, activate, deactivate}
use Rattle.laws.specs.Accepted.{All, accepted, bind, and_then, branch, both}
use Rattle.laws.specs.Words.SameTrackers.{uses}
use Rattle.laws.specs.Tracker.Fields.{count_at, Enough, gain-count, lose-count}
use Rattle.laws.specs.Tracker.Form.{Form, gain-form, lose-form}
use Rattle.laws.specs.Tracker.Pools.{Moved}
use Rattle.laws.specs.Tracker.Slots.{gain-slots, lose-slots}
use Rattle.laws.specs.Tree.Slots.{in-length}
use Rattle.laws.specs.Tree.Shares.{grant}
use Rattle.laws.specs.Tree.Send.{held}
use Rattle.laws.specs.Keep.SameDomains.{untracked, SameOutside}
use Rattle.laws.specs.Tree.Steps.{domain-at}
use Rattle.laws.specs.Within.{within, within-lo, within_in, within-hi, within_same}

pub record Tracked (s : State) (T : Field → ℕ → ℕ → ℕ) : Type 0 where
  pub form : (d : ℕ) → Form (domain_at s d).tracker
  pub counts : (f : Field) (d a : ℕ) → held s f d a ≡ T f d a
  pub pool : PoolSound s.sizes.records (record_uses s.domains) s.record_pool

pub tracked-same : (s : State) (T T' : Field → ℕ → ℕ → ℕ) → ((f : Field) (d a : ℕ) → T' f d a ≡ T f d a) → Tracked s T → Tracked s T'
tracked-same s T T' e h = record { form = h.form; counts = λ f d a. h.counts f d a ∙ sym (e f d a); pool = h.pool }

-- ---- one slot of the domains is written

abbrev pub tracker_in : List (Option Domain) → ℕ → List Record
tracker_in ds d = (get_or (at_slot ds d) none_domain).tracker

module _ (ds : List (Option Domain)) (d : ℕ) (y : Domain) where
  pub tracker-here : d < length ds → tracker_in (set ds d (some y)) d ≡ y.tracker
  tracker-here l = ap (λ (o : Option Domain). (get_or o none_domain).tracker) (get_or-set_same ds d (some y) none l)

  pub tracker-there : (e : ℕ) → e ≢ d → tracker_in (set ds d (some y)) e ≡ tracker_in ds e
  tracker-there e n = ap (λ (o : Option Domain). (get_or o none_domain).tracker) (get_or-set_other ds d e (some y) none n)

-- the record slots in use
pub uses-set : (ds : List (Option Domain)) (d : ℕ) (x y : Domain) → In ds d x → (i : ℕ) → record_uses (set ds d (some y)) i + uses i x.tracker ≡ record_uses ds i + uses i y.tracker
uses-set [] d x y e i = absurd (none-some none x refl e)
uses-set (none ∷ ds) zero x y e i = absurd (none-some none x refl e)
uses-set (none ∷ ds) (suc d) x y e i = uses-set ds d x y e i
uses-set (some z ∷ ds) zero x y e i = let q : z ≡ x = cc in omega (arith, ap (λ (v : Domain). uses i v.tracker) q)
uses-set (some z ∷ ds) (suc d) x y e i = omega (arith, uses-set ds d x y e i)

-- ---- an update is queued, or none is

pub push-queue : (P : State → Type 0) (u : Update) (s : State) → ((q : Queue) → P (with_queue q s)) → All P (push u s)
unfolding push
push-queue P u s h = and_then _ (accepted (h _))

permission-queue : (P : State → Type 0) (d m : ℕ) (s : State) → ((q : Queue) → P (with_queue q s)) → All P (push_permission d m s)
unfolding push_permission
permission-queue P d m s h = branch (exists (is_permission_of (handle_of s.domain_pool d)) s.queue.items) (accepted (h _)) (push-queue P _ s h)

module _ (s : State) (d : ℕ) (w : Walk) where
  abbrev pub put : State
  put = with_record_pool w.pool (put_domain d (with_tracker w.records (domain_at s d)) s)

  pub put-queue : (closing : List ℕ) → (P : State → Type 0) → ((q : Queue) → P (with_queue q put)) → All P (put_walk closing d w s)
  unfolding put_walk
  put-queue closing P h = branch (exists (eqb d) closing || eqb w.marks 0) (accepted (h put.queue)) (permission-queue P d _ put h)

-- ---- a walk is put back

module _ (s : State) (d : ℕ) (x : Domain) (e : In s.domains d x) (w : Walk) where
  pub put-beside : (q : Queue) → SameOutside s (with_queue q (put s d w))
  put-beside q = record {
    same_domains = record {
      sizes = refl;
      domain_pool = refl;
      size = length-set s.domains d _;
      domains = λ k. elim (ℕ_discrete k d) [
        | yes m ↦ rw m (ap untracked (get_or-set_same s.domains d _ none (in-length s.domains d x e)) ∙ ap (λ (y : Domain). some (with_tracker [] y)) (domain-at s d x e) ∙ sym (ap untracked e))
        | no m ↦ ap untracked (get_or-set_other s.domains d k _ none m)
      ];
    };
    region_pool = refl;
    regions = refl;
  }

  module _ (T T' : Field → ℕ → ℕ → ℕ) (h : Tracked s T) (same : (f : Field) (k a : ℕ) → k ≢ d → T' f k a ≡ T f k a) (form : Form w.records) (here : (f : Field) (a : ℕ) → count_at f w.records a ≡ T' f d a) (moved : Moved s.record_pool w.pool (domain_at s d).tracker w.records) where
    -- what holds of the new tracker, and of the others as they were, holds of all
    tracker-all : (P : ℕ → List Record → Type 0) → P d w.records → ((k : ℕ) → k ≢ d → P k (domain_at s k).tracker) → (k : ℕ) → P k (tracker_in (put s d w).domains k)
    tracker-all P u v k = elim (ℕ_discrete k d) [
      | yes m ↦ rw (m, tracker-here s.domains d (with_tracker w.records (domain_at s d)) (in-length s.domains d x e)) u
      | no m ↦ rw (tracker-there s.domains d (with_tracker w.records (domain_at s d)) k m) (v k m)
    ]

    pub put-tracked : (q : Queue) → Tracked (with_queue q (put s d w)) T'
    put-tracked q = record {
      form = tracker-all (λ k l. Form l) form (λ k m. h.form k);
      counts = λ f k a. tracker-all (λ j l. count_at f l a ≡ T' f j a) (here f a) (λ j m. h.counts f j a ∙ sym (same f j a m)) k;
      pool = record {
        gens_length = moved.gens_length ∙ h.pool.gens_length;
        gens_words = moved.gens_words h.pool.gens_words;
        once = λ i. omega (arith, h.pool.once i, moved.slots i, uses-set s.domains d x (with_tracker w.records (domain_at s d)) e i, ap (λ (y : Domain). uses i y.tracker) (domain-at s d x e));
      };
    }

-- ---- gain and loss

-- a range of domain d counts for no other
grant-other : (f : Field) (d b e r k a : ℕ) → k ≢ d → grant f d b e r k a ≡ 0
grant-other f d b e r k a n = within_same b e a _ 0 (rw (ne_eqb d k (λ m. n (sym m))))

grant-own : (f : Field) (d b e r a : ℕ) → grant f d b e r d a ≡ within b e a (counter f r) 0
grant-own f d b e r a = rw (eq-eqb d d refl)

-- what domain d gains, or loses, with a
abbrev range : ℕ → Access → Field → ℕ → ℕ → ℕ
range d a f k b = grant f d a.start a.end a.rights k b

module _ (s : State) (T T' : Field → ℕ → ℕ → ℕ) (h : Tracked s T) (d : ℕ) (x : Domain) (e : In s.domains d x) (a : Access) (z : a.start < a.end) where
  -- what can be lost at every address of the range is counted there
  pub lost-le : ((b : ℕ) → a.start ≤ b → b < a.end → Enough a.rights (stored_counts s d b)) → (f : Field) (k b : ℕ) → range d a f k b ≤ T f k b
  lost-le n f k b = elim (ℕ_discrete k d) [
    | yes m ↦ rw m (elim (pos a.start a.end b) [
      | below u ↦ omega (arith, within-lo a.start a.end b (if eqb d d then counter f a.rights else 0) 0 u)
      | inside u v ↦ omega (arith, grant-own f d a.start a.end a.rights b, within_in a.start a.end b (counter f a.rights) 0 u v, (n b u v).counted f, h.counts f d b)
      | above u ↦ omega (arith, within-hi a.start a.end b (if eqb d d then counter f a.rights else 0) 0 u)
    ])
    | no m ↦ omega (arith, grant-other f d a.start a.end a.rights k b m)
  ]

module _ (closing : List ℕ) (s : State) (T T' : Field → ℕ → ℕ → ℕ) (h : Tracked s T) (d : ℕ) (x : Domain) (e : In s.domains d x) (a : Access) (z : a.start < a.end) where
  pub activate-tracked : ((f : Field) (k b : ℕ) → T' f k b ≡ T f k b + range d a f k b) → All (λ t. Tracked t T' × SameOutside s t) (activate closing d a s)
  unfolding activate
  activate-tracked m =
      let l = (domain_at s d).tracker in
      bind (both (gain-form a.rights a.start a.end l s.record_pool (h.form d) z) (both (gain-count a.rights a.start a.end l s.record_pool (h.form d).rising z) (gain-slots a.rights a.start a.end l s.record_pool))) (λ w k.
      put-queue s d w closing (λ t. Tracked t T' × SameOutside s t) (λ q. (
        put-tracked s d x e w T T' h (λ f j b n. omega (arith, m f j b, grant-other f d a.start a.end a.rights j b n)) k.0 (λ f b. omega (arith, k.1.0 f b, m f d b, h.counts f d b, grant-own f d a.start a.end a.rights b)) k.1.1 q,
        put-beside s d x e w q,
      )))

  pub deactivate-tracked : ((f : Field) (k b : ℕ) → T' f k b + range d a f k b ≡ T f k b) → ((b : ℕ) → a.start ≤ b → b < a.end → Enough a.rights (stored_counts s d b)) → All (λ t. Tracked t T' × SameOutside s t) (deactivate closing d a s)
  unfolding deactivate
  deactivate-tracked m n =
      let l = (domain_at s d).tracker in
      bind (both (lose-form a.rights a.start a.end l s.record_pool (h.form d) z) (both (lose-count a.rights a.start a.end l s.record_pool (h.form d).rising z n) (lose-slots a.rights a.start a.end l s.record_pool))) (λ w k.
      put-queue s d w closing (λ t. Tracked t T' × SameOutside s t) (λ q. (
        put-tracked s d x e w T T' h (λ f j b u. omega (arith, m f j b, grant-other f d a.start a.end a.rights j b u)) k.0 (λ f b. omega (arith, k.1.0 f b, m f d b, h.counts f d b, grant-own f d a.start a.end a.rights b)) k.1.1 q,
        put-beside s d x e w q,
      )))
