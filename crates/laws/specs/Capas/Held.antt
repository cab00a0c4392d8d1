-- The clauses of Sound about pools of domains and regions, lists, owners, managers and the queue. Between two steps of a call a region
-- or a domain may have no slot, or one elsewhere, so how many slots it has where is a parameter: `own i d` Region slots of region i and
-- `man e d` Management slots of domain e in the list of domain d.
use Rattle.std.specs.Prelude.{◌≡◌, ℕ, T, eqb, length}
use Rattle.std.proofs.Common.{sym, ap, ◌∙◌}
use Rattle.std.proofs.Math.Option.{some}
use Rattle.model.specs.Lists.{one_if, is_some, count_if, at_slot, In}
use Rattle.model.specs.State.{Word, Domain, Region, State, domain_at, region_at}
use Rattle.model.specs.Pool.{handle_of}
use Rattle.model.specs.Making.{good_sizes}
use Rattle.model.specs.Sound.{Sound, PoolSound, RegionSound, ListSound, TrackersSound, QueueSound, Managed, names, slot_uses, is_region_of, is_management_of}
use Rattle.laws.specs.Tree.Steps.{region-at, domain-at}

-- how many slots of a kind, by the slot of what they name and the list
abbrev pub Shares : Type 0
Shares = ℕ → ℕ → ℕ

pub record Held (own man : Shares) (s : State) : Type 0 where
  pub sizes_good : T (good_sizes s.sizes)
  pub domains_length : length s.domains ≡ s.sizes.domains
  pub regions_length : length s.regions ≡ s.sizes.regions
  pub domain_pool : PoolSound s.sizes.domains (slot_uses s.domains) s.domain_pool
  pub region_pool : PoolSound s.sizes.regions (slot_uses s.regions) s.region_pool
  pub owner_live : (i : ℕ) (g : Region) → In s.regions i g → T (is_some (at_slot s.domains g.owner))
  pub region_slots : (i : ℕ) (g : Region) → In s.regions i g → (d : ℕ) (x : Domain) → In s.domains d x → count_if (is_region_of (handle_of s.region_pool i)) x.locals.held ≡ own i d
  pub manager_live : (e : ℕ) (y : Domain) → In s.domains e y → (m : ℕ) → y.manager ≡ some m → T (is_some (at_slot s.domains m))
  pub management_slots : (e : ℕ) (y : Domain) → In s.domains e y → (d : ℕ) (x : Domain) → In s.domains d x → count_if (is_management_of (handle_of s.domain_pool e)) x.locals.held ≡ man e d
  pub managed : (d : ℕ) (x : Domain) → In s.domains d x → Managed s.domains d
  pub lists : (d : ℕ) (x : Domain) → In s.domains d x → ListSound s.sizes.slots s.region_pool s.regions s.domain_pool s.domains x.locals
  pub cores_words : (d : ℕ) (x : Domain) → In s.domains d x → Word x.cores
  pub interface_words : (d : ℕ) (x : Domain) → In s.domains d x → Word x.interface.word
  pub queue : QueueSound s.sizes.updates s.domain_pool s.domains s.queue

-- the slots that Sound asks for: one in the owner's list, one in the manager's
abbrev pub owned_by : State → Shares
owned_by s i d = one_if (eqb (region_at s i).owner d)

abbrev pub managed_by : State → Shares
managed_by s e d = one_if (names (domain_at s e).manager d)

abbrev pub CapasSound : State → Type 0
CapasSound s = Held (owned_by s) (managed_by s) s

-- the other clauses of Sound
pub record OthersSound (s : State) : Type 0 where
  pub regions : (i : ℕ) (g : Region) → In s.regions i g → RegionSound s.regions i g
  pub tracked : TrackersSound s

-- ---- Sound is both

pub capas-sound : (s : State) → Sound s → CapasSound s
capas-sound s h = record {
  sizes_good = h.outside.sizes_good;
  domains_length = h.outside.domains_length;
  regions_length = h.outside.regions_length;
  domain_pool = h.outside.domain_pool;
  region_pool = h.outside.region_pool;
  owner_live = λ i g e. (h.outside.owners i g e).owner_live;
  region_slots = λ i g e d x f. (h.outside.owners i g e).one_slot d x f ∙ ap (λ (r : Region). one_if (eqb r.owner d)) (sym (region-at s i g e));
  manager_live = λ e y f. (h.outside.managers e y f).manager_live;
  management_slots = λ e y f d x k. (h.outside.managers e y f).one_management d x k ∙ ap (λ (z : Domain). one_if (names z.manager d)) (sym (domain-at s e y f));
  managed = λ d x e. (h.outside.managers d x e).managed;
  lists = h.outside.lists;
  cores_words = h.outside.cores_words;
  interface_words = h.outside.interface_words;
  queue = h.queue;
}

pub others-sound : (s : State) → Sound s → OthersSound s
others-sound s h = record { regions = h.outside.regions; tracked = h.tracked }

pub sound-of : (s : State) → CapasSound s → OthersSound s → Sound s
sound-of s h k = record {
  outside = record {
    sizes_good = h.sizes_good;
    domains_length = h.domains_length;
    regions_length = h.regions_length;
    domain_pool = h.domain_pool;
    region_pool = h.region_pool;
    regions = k.regions;
    owners = λ i g e. record { owner_live = h.owner_live i g e; one_slot = λ d x f. h.region_slots i g e d x f ∙ ap (λ (r : Region). one_if (eqb r.owner d)) (region-at s i g e) };
    managers = λ e y f. record {
      manager_live = h.manager_live e y f;
      one_management = λ d x k. h.management_slots e y f d x k ∙ ap (λ (z : Domain). one_if (names z.manager d)) (domain-at s e y f);
      managed = h.managed e y f;
    };
    lists = h.lists;
    cores_words = h.cores_words;
    interface_words = h.interface_words;
  };
  tracked = k.tracked;
  queue = h.queue;
}

-- the same slots, told otherwise
pub held-as : (own own' man man' : Shares) (s : State) → ((i : ℕ) (g : Region) → In s.regions i g → (d : ℕ) → own i d ≡ own' i d) → ((e : ℕ) (y : Domain) → In s.domains e y → (d : ℕ) → man e d ≡ man' e d) → Held own man s → Held own' man' s
held-as own own' man man' s o m h =
    let r : (i : ℕ) (g : Region) → In s.regions i g → (d : ℕ) (x : Domain) → In s.domains d x → count_if (is_region_of (handle_of s.region_pool i)) x.locals.held ≡ own' i d = λ i g e d x f. h.region_slots i g e d x f ∙ o i g e d in
    let n : (e : ℕ) (y : Domain) → In s.domains e y → (d : ℕ) (x : Domain) → In s.domains d x → count_if (is_management_of (handle_of s.domain_pool e)) x.locals.held ≡ man' e d = λ e y f d x k. h.management_slots e y f d x k ∙ m e y f d in
    search
