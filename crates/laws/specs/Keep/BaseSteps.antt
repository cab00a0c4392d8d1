-- The steps keep the ring and the pools sound: a step on a live domain's tracker may queue that domain, a new region takes a slot, and nothing else is
-- queued, taken or freed.
use Rattle.std.proofs.Math.Path.{refl}
use Rattle.std.specs.Prelude.{ℕ, ◌<◌, List, [], ◌∷◌, ◌||◌, T, length}
use Rattle.std.proofs.Math.Option.{none, some}
use Rattle.std.proofs.Math.Dec.{eqb}
use Rattle.std.proofs.Common.{length-set, get_or-set_same}
use Rattle.model.specs.Lists.{is_some, exists, at_slot, In}
use Rattle.refusals.specs.Refusals.{no_region}
use Rattle.model.specs.State.{State, Region, put_region, Word, Domain, Kind, Access, Capa, LocalList, domain_at, put_domain, with_locals}
use Rattle.model.specs.Tracker.{Walk}
use Rattle.model.specs.Tree.{Range, insert_child}
use Rattle.model.specs.Locals.{insert_capa}
use Rattle.model.specs.Regions.{put_walk, activate, deactivate, new_region, send_ranges}
use Rattle.model.specs.Calls.{exchange_rights, add_child}
use Rattle.laws.specs.Accepted.{All, accepted, bind, weaken, branch, both}
use Rattle.laws.specs.Tracker.Marks.{gain-small, lose-small}
use Rattle.laws.specs.Tree.Slots.{in-length, live-is}
use Rattle.laws.specs.Keep.Slots.{every-put, taken-alive}
use Rattle.laws.specs.Keep.SameDomains.{SameDomains, SameOutside, same-domains-self, same-domains-then, same-domains-live}
use Rattle.laws.specs.Keep.Tracked.{put, put-beside, put-queue}
use Rattle.laws.specs.Keep.Locals.{insert_all, allocate-free}
use Rattle.laws.specs.Keep.Pools.{table-put, table-takes}
use Rattle.laws.specs.Keep.Ring.{queue-kept-ring, permission-ring}
use Rattle.laws.specs.Keep.Base.{Base, same-domains-base, same-outside-base}
use Rattle.laws.specs.Tree.Steps.{domain-at}

-- a domain is live
abbrev pub Live : State → ℕ → Type 0
Live s d = T (is_some (at_slot s.domains d))

-- the ring and the pools are sound, and domain d live
abbrev pub Ready : ℕ → State → Type 0
Ready d s = Base s × Live s d

-- ---- a tracker is written

module _ (closing : List ℕ) (s : State) (d : ℕ) (r : Ready d s) where
  put-base : (w : Walk) → w.marks < 32 → All (λ t. Base t × SameOutside s t) (put_walk closing d w s)
  unfolding put_walk
  put-base w low =
      let (x, e) = live-is (at_slot s.domains d) r.1 in
      let b = put-beside s d x e w in
      let k = same-domains-base s (put s d w) (b s.queue).same_domains refl r.0.regions r.0 in
      weaken (both (branch (exists (eqb d) closing || eqb w.marks 0) (accepted k.ring) (permission-ring d w.marks _ (put s d w) (get_or-set_same s.domains d _ none (in-length s.domains d x e)) low k.ring)) (put-queue s d w closing (SameOutside s) b)) (λ t (z, c). (same-outside-base s t c z r.0, c))

  pub gained-base : (a : Access) → All (λ t. Base t × SameOutside s t) (activate closing d a s)
  unfolding activate
  gained-base a = bind (gain-small _ _ _ _ _) put-base

  pub lost-base : (a : Access) → All (λ t. Base t × SameOutside s t) (deactivate closing d a s)
  unfolding deactivate
  lost-base a = bind (lose-small _ _ _ _ _) put-base

pub exchange-base : (s : State) (d : ℕ) → Ready d s → (old : ℕ) (a : Access) → All Base (exchange_rights d old a s)
unfolding exchange_rights
exchange-base s d r old a = branch (eqb old a.rights) (accepted r.0) (bind (lost-base [] s d r _) (λ t (k, b). weaken (gained-base [] t d (k, same-domains-live b.same_domains d r.1) a) (λ u z. z.0)))

pub ranges-base : (old new r : ℕ) (l : List Range) (s : State) → Base s → Live s old → Live s new → All (λ t. Base t × SameDomains s t) (send_ranges old new r l s)
unfolding send_ranges
ranges-base old new r [] s k lo ln = accepted (k, same-domains-self s)
ranges-base old new r (x ∷ l) s k lo ln =
    bind (lost-base [] s old (k, lo) _) (λ s₁ (k₁, b₁).
    bind (gained-base [] s₁ new (k₁, same-domains-live b₁.same_domains new ln) _) (λ s₂ (k₂, b₂).
    let b = same-domains-then b₁.same_domains b₂.same_domains in
    weaken (ranges-base old new r l s₂ k₂ (same-domains-live b old lo) (same-domains-live b new ln)) (λ t (k₃, b₃). (k₃, same-domains-then b b₃))))

-- ---- a domain is put back

module _ (s : State) (d : ℕ) (r : Base s) (live : Live s d) where
  low : d < length s.domains
  low = let (x, e) = live-is (at_slot s.domains d) live in in-length s.domains d x e

  pub written-base : (y : Domain) → Word y.cores → Base (put_domain d y s)
  written-base y w = record {
    ring = queue-kept-ring s (put_domain d y s) (record {
      sizes = refl;
      gens = refl;
      size = length-set s.domains d (some y);
      live = taken-alive s.domains d y low;
      cores = every-put (λ z. Word z.cores) s.domains d low r.ring.cores y w;
      queue = refl;
    }) r.ring;
    regions = r.regions;
    domains = let (x, e) = live-is (at_slot s.domains d) live in table-put s.sizes.domains s.domains s.domain_pool r.domains d x y e low;
  }

  -- its cores are a word
  pub own-cores : Word (domain_at s d).cores
  own-cores = let (x, e) = live-is (at_slot s.domains d) live in rw (domain-at s d x e) (r.ring.cores d x e)

  pub listed-base : (l : LocalList) → Ready d (put_domain d (with_locals l (domain_at s d)) s)
  listed-base l = (written-base (with_locals l (domain_at s d)) own-cores, taken-alive s.domains d _ low d live)

  pub insert-base : (c : Capa) → All (λ (y : ℕ × State). Ready d y.1) (insert_capa d c s)
  insert-base c = insert_all d s c _ (λ n l. listed-base l)

  -- ---- a region is added

  -- and the live regions stay live
  pub new-base : (k : Kind) (a : Access) → All (λ (y : ℕ × State). Ready d y.1 × ((j : ℕ) → T (is_some (at_slot s.regions j)) → T (is_some (at_slot y.1.regions j)))) (new_region d k a s)
  unfolding new_region
  new-base k a = bind (both (table-takes s.sizes.regions s.regions s.region_pool r.regions no_region) (allocate-free s.regions s.sizes.regions s.region_pool r.regions.size r.regions.pool no_region)) (λ (i, p) (t, l).
      accepted ((same-domains-base s _ (record { sizes = refl; domain_pool = refl; size = refl; domains = λ n. refl }) refl (t _) r, live), taken-alive s.regions i _ l.0))

  -- region g in slot p is written
  pub region-base : (p : ℕ) (g h : Region) → In s.regions p g → Ready d (put_region p h s)
  region-base p g h e = (same-domains-base s (put_region p h s) (record { sizes = refl; domain_pool = refl; size = refl; domains = λ n. refl }) refl (table-put s.sizes.regions s.regions s.region_pool r.regions p g h e (in-length s.regions p g e)) r, live)

  pub join-base : (p i : ℕ) → T (is_some (at_slot s.regions p)) → Ready d (insert_child p i s)
  unfolding insert_child
  join-base p i t = let (g, e) = live-is (at_slot s.regions p) t in region-base p g _ e

pub child-base : (s : State) (d : ℕ) → Ready d s → (p : ℕ) → T (is_some (at_slot s.regions p)) → (k : Kind) (a : Access) → All (λ (y : ℕ × State). Ready d y.1) (add_child d p k a s)
unfolding add_child
child-base s d (r, live) p at k a = bind (new-base s d r live k a) (λ (i, t) ((r₁, live₁), still). let (r₂, live₂) = join-base t d r₁ live₁ p i (still p at) in insert-base (insert_child p i t) d r₂ live₂ _)
