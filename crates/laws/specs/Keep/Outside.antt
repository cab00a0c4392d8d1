-- Laws: what soundness asks outside the trackers and the ring does not look at trackers, record pool and ring. States that agree on all else
-- (`SameOutside`) have it together, and a ring is sound in both.
use Rattle.std.specs.Prelude.{◌≡◌, refl, ℕ, ◌+◌, List, [], T, eqb}
use Rattle.std.proofs.Common.{sym, ap, subst, ◌∙◌, le_refl}
use Rattle.std.proofs.Math.Option.{Option, none, some}
use Rattle.model.specs.Lists.{one_if, is_some, count_if, at_slot, In}
use Rattle.model.specs.State.{Word, Sizes, Handle, Pool, Domain, Queue, State, with_tracker}
use Rattle.model.specs.Pool.{handle_of}
use Rattle.model.specs.Sound.{Sound, OutsideSound, TrackersSound, QueueSound, ManagerSound, ListSound, LiveOrOlder, names, is_region_of, is_management_of}
use Rattle.laws.specs.Keep.SameDomains.{untracked, SameDomains, SameOutside, same-domains-turned, same-domains-in, same-domains-live}
use Rattle.laws.specs.Capas.Live.{live-onward, live-fits, fits-onward, list-onward, queue-onward}
use Rattle.laws.specs.Capas.Domain.{SameManagers, managed-onward}

-- s with other domains, record pool and queue
abbrev moved : State → List (Option Domain) → Pool → Queue → State
moved s ds p q = record { sizes = s.sizes; domain_pool = s.domain_pool; region_pool = s.region_pool; record_pool = p; domains = ds; regions = s.regions; queue = q }

used : (o o' : Option Domain) → untracked o ≡ untracked o' → one_if (is_some o) ≡ one_if (is_some o')
used o o' e = bare o ∙ ap (λ z. one_if (is_some z)) e ∙ sym (bare o')
  where
    bare : (z : Option Domain) → one_if (is_some z) ≡ one_if (is_some (untracked z))
    bare none = refl
    bare (some x) = refl

module _ (s : State) (ds : List (Option Domain)) (p : Pool) (q : Queue) (b : SameDomains s (moved s ds p q)) (h : OutsideSound s) where
  abbrev t : State
  t = moved s ds p q

  -- a domain of t is one of s, but for the tracker
  was : (d : ℕ) (y : Domain) → In ds d y → (x : Domain) × In s.domains d x × (with_tracker [] x ≡ with_tracker [] y)
  was d y f = same-domains-in (same-domains-turned b) d y f

  alive : (k : ℕ) → T (is_some (at_slot s.domains k)) → T (is_some (at_slot ds k))
  alive = same-domains-live b

  fits : (k : Handle) → LiveOrOlder s.domain_pool s.domains k → LiveOrOlder s.domain_pool ds k
  fits = fits-onward s.domain_pool s.domain_pool s.domains ds (λ k l. live-fits s.domain_pool ds k (live-onward s.domain_pool s.domains ds alive k l)) (λ i. le_refl _)

  managers : SameManagers s.domains ds
  managers k x e = let (y, i, r) = same-domains-in b k x e in (y, i, ap (λ (z : Domain). z.manager) r)

  manager : (d : ℕ) (y : Domain) → In ds d y → ManagerSound s.domain_pool ds d y
  manager d y f =
      let (x, e, r) = was d y f in
      let k = h.managers d x e in
      let m = ap (λ (z : Domain). z.manager) r in
      record {
        manager_live = λ n g. alive n (k.manager_live n (m ∙ g));
        one_management = λ c z g. let (w, i, u) = was c z g in ap (λ (o : Domain). count_if (is_management_of (handle_of s.domain_pool d)) o.locals.held) (sym u) ∙ k.one_management c w i ∙ ap (λ o. one_if (names o c)) m;
        managed = managed-onward s.domains ds managers d k.managed;
      }

  pub moved-sound : OutsideSound t
  moved-sound = record {
    sizes_good = h.sizes_good;
    domains_length = b.size ∙ h.domains_length;
    regions_length = h.regions_length;
    domain_pool = record {
      gens_length = h.domain_pool.gens_length;
      gens_words = h.domain_pool.gens_words;
      once = λ i. ap (λ n. n + count_if (eqb i) s.domain_pool.free) (used (at_slot ds i) (at_slot s.domains i) (b.domains i)) ∙ h.domain_pool.once i;
    };
    region_pool = h.region_pool;
    regions = h.regions;
    owners = λ i g e. let o = h.owners i g e in record {
      owner_live = alive g.owner o.owner_live;
      one_slot = λ d y f. let (x, k, r) = was d y f in ap (λ (z : Domain). count_if (is_region_of (handle_of s.region_pool i)) z.locals.held) (sym r) ∙ o.one_slot d x k;
    };
    managers = manager;
    lists = λ d y f. let (x, e, r) = was d y f in subst (ListSound s.sizes.slots s.region_pool s.regions s.domain_pool ds) (ap (λ (z : Domain). z.locals) r) (list-onward s.region_pool s.region_pool s.regions s.regions s.domain_pool s.domain_pool s.domains ds (λ k l. l) (λ k l m. m) fits s.sizes.slots x.locals (h.lists d x e));
    cores_words = λ d y f. let (x, e, r) = was d y f in subst Word (ap (λ (z : Domain). z.cores) r) (h.cores_words d x e);
    interface_words = λ d y f. let (x, e, r) = was d y f in subst Word (ap (λ (z : Domain). z.interface.word) r) (h.interface_words d x e);
  }

pub outside-same : (s t : State) → SameOutside s t → OutsideSound s → OutsideSound t
outside-same s t b h =
    let ds = t.domains in
    let a = b.same_domains in
    let back : moved s ds t.record_pool t.queue ≡ t = λ i. record { sizes = sym a.sizes i; domain_pool = sym a.domain_pool i; region_pool = sym b.region_pool i; record_pool = t.record_pool; domains = ds; regions = sym b.regions i; queue = t.queue } in
    subst OutsideSound back (moved-sound s ds t.record_pool t.queue (record { sizes = refl; domain_pool = refl; size = a.size; domains = a.domains }) h)

-- What soundness asks of a ring looks at the sizes, the domain pool and which domains are live.
pub queue-same : (s t : State) → SameDomains s t → (q : Queue) → QueueSound s.sizes.updates s.domain_pool s.domains q → QueueSound t.sizes.updates t.domain_pool t.domains q
queue-same s t a q h =
    let n = queue-onward s.sizes.updates s.domain_pool s.domain_pool s.domains t.domains (fits-onward s.domain_pool s.domain_pool s.domains t.domains (λ n u. live-fits s.domain_pool t.domains n (live-onward s.domain_pool s.domains t.domains (same-domains-live a) n u)) (λ i. le_refl _)) q h in
    let m = subst (λ p. QueueSound s.sizes.updates p t.domains q) (sym a.domain_pool) n in
    subst (λ (z : Sizes). QueueSound z.updates t.domain_pool t.domains q) (sym a.sizes) m

-- So sound trackers make a state sound that agrees on all else with one that is sound outside and whose ring is.
pub retracked : (s t : State) → SameOutside s t → t.queue ≡ s.queue → OutsideSound s → QueueSound s.sizes.updates s.domain_pool s.domains s.queue → TrackersSound t → Sound t
retracked s t b e h q k = record {
  outside = outside-same s t b h;
  tracked = k;
  queue = subst (QueueSound t.sizes.updates t.domain_pool t.domains) (sym e) (queue-same s t b.same_domains s.queue q);
}
