-- Steps on a capability list, and a region that takes a slot: the trackers, the record pool and the live domains stay as they are.
-- Each step's law is about every property of what it can leave.
use Rattle.std.specs.Prelude.{◌≡◌, refl, ℕ, ◌<◌, List, [], ◌∷◌, T, eqb, length, set}
use Rattle.std.proofs.Common.{ap, ◌∙◌, arith}
use Rattle.std.proofs.Math.Option.{Option, none, some}
use Rattle.std.proofs.Math.Decide.{ℕ_discrete}
use Rattle.model.specs.Lists.{count_if, is_some, at_slot, In}
use Rattle.refusals.specs.declared.Refusal.{Refusal}
use Rattle.refusals.specs.Refusals.{no_region}
use Rattle.base.specs.Cases.{lt, ge, cmp}
use Rattle.model.specs.State.{State, Pool, Domain, Region, Kind, Access, Capa, LocalList, domain_at, put_domain, with_locals, with_regions}
use Rattle.model.specs.Fields.{Field}
use Rattle.model.specs.Pool.{allocate}
use Rattle.model.specs.Locals.{insert_local, insert_capa, has_capacity}
use Rattle.model.specs.Regions.{new_region}
use Rattle.model.specs.Sound.{PoolSound, slot_uses}
use Rattle.laws.specs.Accepted.{All, accepted, refused, bind, bind-any, weaken, and_then}
use Rattle.laws.specs.Stack.{one, once-at-most, none-beyond}
use Rattle.laws.specs.Words.SameTrackers.{uses}
use Rattle.laws.specs.Tracker.Fields.{count_at}
use Rattle.laws.specs.Tree.Slots.{in-length}
use Rattle.laws.specs.Keep.Slots.{taken-alive}
use Rattle.laws.specs.Keep.Tracked.{Tracked, tracker_in, tracker-here, tracker-there, uses-set}
use Rattle.laws.specs.Keep.Agreement.{TrackersAgreeWith}
use Rattle.laws.specs.Lists.{not-used}
use Rattle.laws.specs.Tree.Steps.{domain-at}

-- ---- a domain is put back with the tracker that it had

module _ (s : State) (d : ℕ) (x : Domain) (e : In s.domains d x) (y : Domain) (q : y.tracker ≡ (domain_at s d).tracker) where
  same-tracker : (k : ℕ) → tracker_in (put_domain d y s).domains k ≡ tracker_in s.domains k
  same-tracker k = elim (ℕ_discrete k d) [
    | yes m ↦ rw m (tracker-here s.domains d y (in-length s.domains d x e) ∙ q)
    | no m ↦ tracker-there s.domains d y k m
  ]

  written-tracked : (T : Field → ℕ → ℕ → ℕ) → Tracked s T → Tracked (put_domain d y s) T
  written-tracked T h = record {
    form = λ k. rw (same-tracker k) (h.form k);
    counts = λ f k a. ap (λ r. count_at f r a) (same-tracker k) ∙ h.counts f k a;
    pool = record {
      gens_length = h.pool.gens_length;
      gens_words = h.pool.gens_words;
      once = λ i. omega (arith, h.pool.once i, uses-set s.domains d x y e i, ap (uses i) q, ap (λ (z : Domain). uses i z.tracker) (domain-at s d x e));
    };
  }

  pub written-live : (k : ℕ) → T (is_some (at_slot s.domains k)) → T (is_some (at_slot (put_domain d y s).domains k))
  written-live = taken-alive s.domains d y (in-length s.domains d x e)

  pub written-agree : (rs : List (Option Region)) → TrackersAgreeWith rs s → TrackersAgreeWith rs (put_domain d y s)
  written-agree rs h = record { tracked = written-tracked _ h.tracked; regions = h.regions; owners = λ i g m. written-live g.owner (h.owners i g m) }

-- ---- a capability list is put back

module _ (s : State) (d : ℕ) (x : Domain) (e : In s.domains d x) (l : LocalList) where
  abbrev listed : State
  listed = put_domain d (with_locals l (domain_at s d)) s

  pub listed-live : (k : ℕ) → T (is_some (at_slot s.domains k)) → T (is_some (at_slot listed.domains k))
  listed-live = written-live s d x e (with_locals l (domain_at s d)) refl

  pub listed-agree : (rs : List (Option Region)) → TrackersAgreeWith rs s → TrackersAgreeWith rs listed
  listed-agree = written-agree s d x e (with_locals l (domain_at s d)) refl

module _ (d : ℕ) (s : State) where
  pub insert_all : (c : Capa) (P : ℕ × State → Type 0) → ((n : ℕ) (l : LocalList) → P (n, put_domain d (with_locals l (domain_at s d)) s)) → All P (insert_capa d c s)
  unfolding insert_capa
  insert_all c P h = bind-any (insert_local c (domain_at s d).locals) (λ (n, l). accepted (h n l))

  pub capacity-all : (P : State → Type 0) → ((l : LocalList) → P (put_domain d (with_locals l (domain_at s d)) s)) → All P (has_capacity d s)
  unfolding has_capacity
  capacity-all P h = and_then _ (accepted (h _))

-- ---- a free slot is taken

allocate-from : (r : Refusal) (gs fs : List ℕ) → All (λ (x : ℕ × Pool). 0 < count_if (eqb x.0) fs) (allocate r (record { gens = gs; free = fs }))
unfolding allocate
allocate-from r gs [] = refused
allocate-from r gs (i ∷ is) = accepted {a = (i, record { gens = gs; free = is })} (omega (arith, one i i refl))

-- the slot lies in the table, and holds nothing
pub allocate-free : {A : Type 0} (l : List (Option A)) (n : ℕ) (p : Pool) → length l ≡ n → PoolSound n (slot_uses l) p → (r : Refusal) → All (λ (x : ℕ × Pool). (x.0 < length l) × (at_slot l x.0 ≡ none)) (allocate r p)
allocate-free l n p size h r = weaken (allocate-from r p.gens p.free) (λ (i, q) u. (
  elim (cmp i n) [ lt v ↦ omega arith | ge v ↦ absurd (omega (arith, none-beyond n (slot_uses l) p.free h.once i v)) ],
  not-used (at_slot l i) (omega (arith, once-at-most n (slot_uses l) p.free h.once i)),
))

abbrev pub made : ℕ → Kind → Access → Region
made d k a = record { owner = d; kind = k; start = a.start; end = a.end; rights = a.rights; children = []; hash = none }

module _ (s : State) (size : length s.regions ≡ s.sizes.regions) (pool : PoolSound s.sizes.regions (slot_uses s.regions) s.region_pool) where
  pub new-all : (d : ℕ) (k : Kind) (a : Access) (P : ℕ × State → Type 0) → ((i : ℕ) (p : Pool) → i < length s.regions → at_slot s.regions i ≡ none → P (i, with_regions p (set s.regions i (some (made d k a))) s)) → All P (new_region d k a s)
  unfolding new_region
  new-all d k a P h = bind (allocate-free s.regions s.sizes.regions s.region_pool size pool no_region) (λ (i, p) (l, free). accepted (h i p l free))
