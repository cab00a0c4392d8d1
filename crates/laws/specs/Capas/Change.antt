-- A domain's list is changed and put back: it is swept, a capability is put in, taken out or emptied. Invariant: the tables but this list
-- are as they were, and the slots of each live region and domain are counted by the shares before and after.
use Rattle.std.specs.Prelude.{◌≡◌, refl, ◌≢◌, Bool, true, false, not, List, ◌∷◌, T, if◌then◌else◌}
use Rattle.std.proofs.Common.{sym, ap, ◌∙◌, arith, get_or-set_same}
use Rattle.std.proofs.Math.Path.{subst}
use Prim.Native.Nat.{ℕ, ◌+◌}
use Rattle.std.proofs.Math.Option.{Option, none, some}
use Rattle.model.specs.Lists.{one_if, is_empty, count_if, In}
use Rattle.model.specs.Outcome.{ok, ◌>>=◌}
use Rattle.model.specs.State.{Handle, Capa, no_capa, LocalList, Domain, Region, State, domain_at, put_domain, with_locals}
use Rattle.model.specs.Pool.{handle_of, is_live}
use Rattle.model.specs.Locals.{free_local, free_invalid_capas, has_capacity, insert_local, insert_capa, remove_capa, empty_capa}
use Rattle.model.specs.Sound.{ListSound, RevokeFit, HandleFit, is_region_of, is_management_of}
use Rattle.laws.specs.Accepted.{All, accepted, bind, checked}
use Rattle.laws.specs.Tree.Slots.{in-length}
use Rattle.laws.specs.Capas.List.{written, count-written, free-keeps, write_keeps, Put, insert-keeps, Swept, swept-self, sweep}
use Rattle.laws.specs.Capas.Live.{handle-live, no-region, no-management}
use Rattle.laws.specs.Capas.Held.{Shares, Held, OthersSound}
use Rattle.laws.specs.Capas.Domain.{live_on, put-others, put-held}
use Rattle.laws.specs.Tree.Steps.{domain-at}

-- ---- the list of domain x in slot d is l from now on

abbrev pub relist : ℕ → Domain → LocalList → State → State
relist d x l s = put_domain d (with_locals l x) s

module _ (s : State) (d : ℕ) (x : Domain) (e : In s.domains d x) (l : LocalList) where
  pub relist-in : In (relist d x l s).domains d (with_locals l x)
  relist-in = get_or-set_same s.domains d (some (with_locals l x)) none (in-length s.domains d x e)

  pub relist-live : (h : Handle) → T (is_live s.domain_pool s.domains h) → T (is_live s.domain_pool (relist d x l s).domains h)
  relist-live = live_on s d x (with_locals l x) e refl

  pub relist-others : OthersSound s → OthersSound (relist d x l s)
  relist-others h = put-others s d x (with_locals l x) e refl refl h

-- Domain x in slot d has its list, which was swept if it was full, with a free slot.
pub record Room (s : State) (d : ℕ) (x : Domain) (t : State) : Type 0 where
  pub list : LocalList
  pub is : t ≡ relist d x list s
  pub swept : Swept s x.locals list
  pub free : T (not (is_empty list.free))

-- Capability c is in local slot i of domain x in slot d, which was free.
pub record Inserted (s : State) (d : ℕ) (x : Domain) (c : Capa) (i : ℕ) (t : State) : Type 0 where
  pub list : LocalList
  pub is : t ≡ relist d x list s
  pub put : Put c x.locals i list

swept-if : (s : State) (l : LocalList) (b : Bool) → Swept s l (if b then free_invalid_capas s l else l)
swept-if s l true = sweep s l
swept-if s l false = swept-self s l

capacity-go : (s : State) (d : ℕ) → All (Room s d (domain_at s d)) (has_capacity d s)
unfolding has_capacity
capacity-go s d = checked _ _ (λ t. accepted (record { list = _; is = refl; swept = swept-if s (domain_at s d).locals (is_empty (domain_at s d).locals.free); free = t }))

pub capacity : (s : State) (d : ℕ) (x : Domain) → In s.domains d x → All (Room s d x) (has_capacity d s)
capacity s d x e = subst (λ (y : Domain). All (Room s d y) (has_capacity d s)) (domain-at s d x e) (capacity-go s d)

-- ---- shares before and after capability c is put into list d; read backwards, it is taken out

pub record Plus (s : State) (d : ℕ) (c : Capa) (own man own' man' : Shares) : Type 0 where
  pub regions : (i : ℕ) (g : Region) → In s.regions i g → own' i d ≡ own i d + one_if (is_region_of (handle_of s.region_pool i) (some c))
  pub domains : (k : ℕ) (z : Domain) → In s.domains k z → man' k d ≡ man k d + one_if (is_management_of (handle_of s.domain_pool k) (some c))
  pub own_else : (i k : ℕ) → k ≢ d → own' i k ≡ own i k
  pub man_else : (i k : ℕ) → k ≢ d → man' i k ≡ man i k

module _ (own man : Shares) (s : State) (h : Held own man s) (d : ℕ) (x : Domain) (e : In s.domains d x) where
  -- the list as Sound has it
  abbrev Fits : LocalList → Type 0
  Fits l = ListSound s.sizes.slots s.region_pool s.regions s.domain_pool s.domains l

  -- the list is l from now on, and the slots in it are counted anew
  relist-held : (own' man' : Shares) (l : LocalList) → Fits l
      → ((i : ℕ) (g : Region) → In s.regions i g → count_if (is_region_of (handle_of s.region_pool i)) l.held ≡ own' i d)
      → ((k : ℕ) (z : Domain) → In s.domains k z → count_if (is_management_of (handle_of s.domain_pool k)) l.held ≡ man' k d)
      → ((i k : ℕ) → k ≢ d → own i k ≡ own' i k) → ((i k : ℕ) → k ≢ d → man i k ≡ man' i k) → Held own' man' (relist d x l s)
  relist-held own' man' l f a b o m = put-held s d x (with_locals l x) e refl own man own' man' h (h.cores_words d x e) (h.interface_words d x e) f a b o m

  -- ---- the sweep

  sweep-held : (l : LocalList) → Swept s x.locals l → Held own man (relist d x l s)
  sweep-held l w = relist-held own man l (w.keeps _ _ _ _ _ (h.lists d x e))
      (λ i g f. w.counts (is_region_of (handle_of s.region_pool i)) refl (no-region s (handle_of s.region_pool i) (handle-live s.region_pool s.regions i g f)) ∙ h.region_slots i g f d x e)
      (λ k z f. w.counts (is_management_of (handle_of s.domain_pool k)) refl (no-management s (handle_of s.domain_pool k) (handle-live s.domain_pool s.domains k z f)) ∙ h.management_slots k z f d x e)
      (λ i k o. refl) (λ i k o. refl)

  pub room-held : (t : State) → Room s d x t → Held own man t
  room-held t r = subst (Held own man) (sym r.is) (sweep-held r.list r.swept)

  -- ---- a capability is put in or taken out

  module _ (own' man' : Shares) where
    put_in : (c : Capa) (i : ℕ) (l : LocalList) → Plus s d c own man own' man' → Fits l → Put c x.locals i l → Held own' man' (relist d x l s)
    put_in c i l p f t = relist-held own' man' l f
        (λ j g u. omega (arith, t.counts (is_region_of (handle_of s.region_pool j)) refl, h.region_slots j g u d x e, p.regions j g u))
        (λ k z u. omega (arith, t.counts (is_management_of (handle_of s.domain_pool k)) refl, h.management_slots k z u d x e, p.domains k z u))
        (λ j k o. sym (p.own_else j k o)) (λ j k o. sym (p.man_else j k o))

    -- slot i, which held c, is written so that no region's and no domain's capability is in it
    take_out_lem : (c : Capa) (i : ℕ) (y : Option Capa) (fs : List ℕ) → In x.locals.held i c → ((k : Handle) → is_region_of k y ≡ false) → ((k : Handle) → is_management_of k y ≡ false) → Plus s d c own' man' own man → Fits (written i y fs x.locals) → Held own' man' (relist d x (written i y fs x.locals) s)
    take_out_lem c i y fs u a b p f = relist-held own' man' (written i y fs x.locals) f
        (λ j g v. omega (arith, count-written (is_region_of (handle_of s.region_pool j)) x.locals.held i c y u, ap one_if (a (handle_of s.region_pool j)), h.region_slots j g v d x e, p.regions j g v))
        (λ k z v. omega (arith, count-written (is_management_of (handle_of s.domain_pool k)) x.locals.held i c y u, ap one_if (b (handle_of s.domain_pool k)), h.management_slots k z v d x e, p.domains k z v))
        p.own_else p.man_else

    pub remove-held : (c : Capa) (i : ℕ) → In x.locals.held i c → Plus s d c own' man' own man → Held own' man' (remove_capa d i s)
    unfolding remove_capa
    remove-held c i u p = subst (λ (y : Domain). Held own' man' (relist d y (free_local i y.locals) s)) (sym (domain-at s d x e)) (take_out_lem c i none (i ∷ x.locals.free) u (λ k. refl) (λ k. refl) p (free-keeps _ _ _ _ _ x.locals (h.lists d x e) i c u))

    pub empty-held : (c : Capa) (i : ℕ) → In x.locals.held i c → Plus s d c own' man' own man → Held own' man' (empty_capa d i s)
    unfolding empty_capa
    empty-held c i u p = subst (λ (y : Domain). Held own' man' (relist d y (written i (some no_capa) y.locals.free y.locals) s)) (sym (domain-at s d x e)) (take_out_lem c i (some no_capa) x.locals.free u (λ k. refl) (λ k. refl) p (write_keeps _ _ _ _ _ x.locals (h.lists d x e) i c no_capa u tt tt))

    pub insert-held : (c : Capa) → RevokeFit s.region_pool s.regions (some c) → HandleFit s.region_pool s.regions s.domain_pool s.domains (some c) → Plus s d c own man own' man' → All (λ y. Inserted s d x c y.0 y.1 × Held own' man' y.1) (insert_capa d c s)
    unfolding insert_capa
    insert-held c r f p =
        subst (λ (y : Domain). All (λ (z : ℕ × State). Inserted s d x c z.0 z.1 × Held own' man' z.1) (insert_local c y.locals >>= λ (i, l). ok (i, relist d y l s))) (sym (domain-at s d x e))
        (bind (insert-keeps _ _ _ _ _ c x.locals (h.lists d x e) r f) (λ z k. accepted (record { list = z.1; is = refl; put = k.1 }, put_in c z.0 z.1 p k.0 k.1)))
