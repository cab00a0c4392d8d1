-- A live domain is written: its manager stays, so who is live and who manages whom stay, and only the slots in its own list count anew.
use Rattle.std.specs.Prelude.{◌≡◌, refl, ◌≢◌, ℕ, zero, suc, ◌+◌, ◌<◌, List, [], ◌∷◌, T, eqb, length, set}
use Rattle.std.proofs.Common.{sym, ap, subst, ◌∙◌, arith, le_refl, length-set, get_or-set_same, get_or-set_other}
use Rattle.std.proofs.Math.Option.{Option, none, some}
use Rattle.std.proofs.Math.Decide.{ℕ_discrete}
use Rattle.base.specs.Options.{some_same}
use Rattle.model.specs.Lists.{one_if, is_some, count_if, at_slot, In}
use Rattle.model.specs.State.{Word, Handle, Record, Domain, Region, State, put_domain}
use Rattle.model.specs.Pool.{handle_of, is_live}
use Rattle.model.specs.Sound.{ListSound, TrackerSound, Managed, record_uses, names, is_region_of, is_management_of}
use Rattle.laws.specs.Tree.Slots.{in-length}
use Rattle.laws.specs.Tree.Steps.{region-at, domain-at}
use Rattle.laws.specs.Capas.Slots.{this, that, was, used-same, once-same}
use Rattle.laws.specs.Capas.Live.{live-onward, live-fits, fits-onward, list-onward, queue-onward}
use Rattle.laws.specs.Capas.Held.{Shares, Held, owned_by, managed_by, CapasSound, OthersSound, held-as}

-- ---- tables of domains

-- each domain of the one table is in the other, with the same manager
abbrev pub SameManagers : List (Option Domain) → List (Option Domain) → Type 0
SameManagers ds ds' = (k : ℕ) (z : Domain) → In ds k z → (w : Domain) × In ds' k w × (w.manager ≡ z.manager)

pub same-managers-then : (ds ds₁ ds₂ : List (Option Domain)) → SameManagers ds ds₁ → SameManagers ds₁ ds₂ → SameManagers ds ds₂
same-managers-then ds ds₁ ds₂ a b k z e = let (w, i, p) = a k z e in let (v, j, q) = b k w i in (v, j, q ∙ p)

pub managed-onward : (ds ds' : List (Option Domain)) → SameManagers ds ds' → (k : ℕ) → Managed ds k → Managed ds' k
managed-onward ds ds' f k (Managed.no_manager _ x e o) = let (w, i, q) = f k x e in Managed.no_manager k w i (q ∙ o)
managed-onward ds ds' f k (Managed.by _ m x e o r) = let (w, i, q) = f k x e in Managed.by k m w i (q ∙ o) (managed-onward ds ds' f m r)

-- managers are as they were, and owners as `own` says: then the slots are those that Sound asks for
pub held-capas : (own : Shares) (s t : State) → SameManagers t.domains s.domains → ((j : ℕ) (g : Region) → In t.regions j g → (d : ℕ) → own j d ≡ one_if (eqb g.owner d)) → Held own (managed_by s) t → CapasSound t
held-capas own s t managers owns h = held-as own (owned_by t) (managed_by s) (managed_by t) t
    (λ j g e d. owns j g e d ∙ ap (λ (r : Region). one_if (eqb r.owner d)) (sym (region-at t j g e)))
    (λ e z f d. let (w, i, p) = managers e z f in ap (λ m. one_if (names m d)) (ap (λ (y : Domain). y.manager) (domain-at s e w i) ∙ p ∙ sym (ap (λ (y : Domain). y.manager) (domain-at t e z f)))) h

-- the same where the regions are as they were
pub same-held-capas : (s t : State) → SameManagers t.domains s.domains → t.regions ≡ s.regions → Held (owned_by s) (managed_by s) t → CapasSound t
same-held-capas s t managers e h = held-capas (owned_by s) s t managers (λ j g f d. ap (λ (r : Region). one_if (eqb r.owner d)) (region-at s j g (ap (λ rs. at_slot rs j) (sym e) ∙ f))) h

-- how often a slot's domain uses record slot i
abbrev pub uses_in : Option Domain → ℕ → ℕ
uses_in none i = 0
uses_in (some x) i = count_if (λ (q : Record). eqb i q.slot) x.tracker

uses-cons : (o : Option Domain) (ds : List (Option Domain)) (i : ℕ) → record_uses (o ∷ ds) i ≡ uses_in o i + record_uses ds i
uses-cons none ds i = omega arith
uses-cons (some x) ds i = refl

pub uses-set : (ds : List (Option Domain)) (d : ℕ) (z : Option Domain) → d < length ds → (i : ℕ) → record_uses (set ds d z) i + uses_in (at_slot ds d) i ≡ record_uses ds i + uses_in z i
uses-set [] d z h i = absurd (omega arith)
uses-set (o ∷ ds) zero z h i = omega (arith, uses-cons o ds i, uses-cons z ds i)
uses-set (o ∷ ds) (suc d) z h i = omega (arith, uses-cons o ds i, uses-cons o (set ds d z) i, uses-set ds d z (omega arith) i)

-- ---- one live domain written

module _ (s : State) (d : ℕ) (x y : Domain) (e : In s.domains d x) (m : y.manager ≡ x.manager) where
  abbrev ds' : List (Option Domain)
  ds' = set s.domains d (some y)

  low : d < length s.domains
  low = in-length s.domains d x e

  alive : (k : ℕ) → is_some (at_slot ds' k) ≡ is_some (at_slot s.domains k)
  alive k = used-same s.domains d low (some y) (ap is_some e) k

  alive-on : (k : ℕ) → T (is_some (at_slot s.domains k)) → T (is_some (at_slot ds' k))
  alive-on k t = subst T (sym (alive k)) t

  pub live_on : (h : Handle) → T (is_live s.domain_pool s.domains h) → T (is_live s.domain_pool ds' h)
  live_on h t = live-onward s.domain_pool s.domains ds' alive-on h t

  pub forth : SameManagers s.domains ds'
  forth k z f = elim (ℕ_discrete k d) [
    | yes o ↦ (y, rw o (get_or-set_same s.domains d (some y) none low), m ∙ ap (λ (w : Domain). w.manager) (some_same (at_slot s.domains d) x z e (rw o at f)))
    | no o ↦ (z, get_or-set_other s.domains d k (some y) none o ∙ f, refl)
  ]

  pub back : SameManagers ds' s.domains
  back k z f = elim (was s.domains d y low k z f) [
    | this o q ↦ (x, rw o e, sym m ∙ ap (λ (w : Domain). w.manager) q)
    | that o g ↦ (z, g, refl)
  ]

  pub put-others : y.tracker ≡ x.tracker → OthersSound s → OthersSound (put_domain d y s)
  put-others t h = record {
    regions = h.regions;
    tracked = record {
      record_pool = record {
        gens_length = h.tracked.record_pool.gens_length;
        gens_words = h.tracked.record_pool.gens_words;
        once = λ i. omega (arith, h.tracked.record_pool.once i, uses-set s.domains d (some y) low i, ap (λ o. uses_in o i) e, ap (λ l. count_if (λ (q : Record). eqb i q.slot) l) t);
      };
      trackers = λ k z f. elim (was s.domains d y low k z f) [
        | this o q ↦ rw o (subst (λ w. TrackerSound s.regions d w.tracker) q (subst (TrackerSound s.regions d) (sym t) (h.tracked.trackers d x e)))
        | that o g ↦ h.tracked.trackers k z g
      ];
    };
  }

  module _ (own man own' man' : Shares) (h : Held own man s)
      (word : Word y.cores)
      (interface : Word y.interface.word)
      (list : ListSound s.sizes.slots s.region_pool s.regions s.domain_pool s.domains y.locals)
      (owns : (i : ℕ) (g : Region) → In s.regions i g → count_if (is_region_of (handle_of s.region_pool i)) y.locals.held ≡ own' i d)
      (manages : (k : ℕ) (z : Domain) → In s.domains k z → count_if (is_management_of (handle_of s.domain_pool k)) y.locals.held ≡ man' k d)
      (own-else : (i k : ℕ) → k ≢ d → own i k ≡ own' i k)
      (man-else : (i k : ℕ) → k ≢ d → man i k ≡ man' i k) where
    list_on : (l : _) → ListSound s.sizes.slots s.region_pool s.regions s.domain_pool s.domains l → ListSound s.sizes.slots s.region_pool s.regions s.domain_pool ds' l
    list_on l k = list-onward s.region_pool s.region_pool s.regions s.regions s.domain_pool s.domain_pool s.domains ds' (λ h t. t) (λ h t u. u) (fits-onward s.domain_pool s.domain_pool s.domains ds' (λ h t. live-fits s.domain_pool ds' h (live_on h t)) (λ i. le_refl _)) s.sizes.slots l k

    pub put-held : Held own' man' (put_domain d y s)
    put-held = record {
      sizes_good = h.sizes_good;
      domains_length = length-set s.domains d (some y) ∙ h.domains_length;
      regions_length = h.regions_length;
      domain_pool = record { gens_length = h.domain_pool.gens_length; gens_words = h.domain_pool.gens_words; once = once-same s.sizes.domains s.domains h.domains_length d s.domain_pool.free x y e h.domain_pool.once };
      region_pool = h.region_pool;
      owner_live = λ i g f. alive-on g.owner (h.owner_live i g f);
      region_slots = λ i g f k z n. elim (was s.domains d y low k z n) [
        | this o q ↦ rw o (ap (λ (w : Domain). count_if (is_region_of (handle_of s.region_pool i)) w.locals.held) (sym q) ∙ owns i g f)
        | that o w ↦ h.region_slots i g f k z w ∙ own-else i k o
      ];
      manager_live = λ k z f n q. let (w, i, p) = back k z f in alive-on n (h.manager_live k w i n (p ∙ q));
      management_slots = λ j v f k z n. let (a, b, c) = back j v f in elim (was s.domains d y low k z n) [
        | this o q ↦ rw o (ap (λ (w : Domain). count_if (is_management_of (handle_of s.domain_pool j)) w.locals.held) (sym q) ∙ manages j a b)
        | that o w ↦ h.management_slots j a b k z w ∙ man-else j k o
      ];
      managed = λ k z f. let (w, i, p) = back k z f in managed-onward s.domains ds' forth k (h.managed k w i);
      lists = λ k z f. elim (was s.domains d y low k z f) [
        | this o q ↦ subst (λ (w : Domain). ListSound s.sizes.slots s.region_pool s.regions s.domain_pool ds' w.locals) q (list_on y.locals list)
        | that o w ↦ list_on z.locals (h.lists k z w)
      ];
      cores_words = λ k z f. elim (was s.domains d y low k z f) [
        | this o q ↦ subst (λ (w : Domain). Word w.cores) q word
        | that o w ↦ h.cores_words k z w
      ];
      interface_words = λ k z f. elim (was s.domains d y low k z f) [
        | this o q ↦ subst (λ (w : Domain). Word w.interface.word) q interface
        | that o w ↦ h.interface_words k z w
      ];
      queue = queue-onward s.sizes.updates s.domain_pool s.domain_pool s.domains ds' (fits-onward s.domain_pool s.domain_pool s.domains ds' (λ n t. live-fits s.domain_pool ds' n (live_on n t)) (λ i. le_refl _)) s.queue h.queue;
    }
