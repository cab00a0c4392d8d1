-- Send keeps the clauses about lists, owners, managers and the queue: the slot leaves one list and joins another, and a region's owner
-- changes to match, so that its one slot is in its owner's list again. The options change its rights and its hash alone.
use Rattle.std.specs.Prelude.{◌≡◌, refl, ℕ, false, List, T, eqb, set}
use Rattle.std.proofs.Math.Path.{sym, ap, subst}
use Rattle.std.proofs.Common.{◌∙◌, set-set, le_refl}
use Rattle.std.proofs.Math.Option.{Option, none, some}
use Rattle.std.proofs.Math.Seq.{get_or-set_same}
use Rattle.model.specs.Lists.{one_if, is_some, at_slot, In}
use Rattle.model.specs.Outcome.{◌>>=◌}
use Rattle.model.specs.State.{Handle, Capa, no_capa, region, region_revoke, management, channel, LocalList, Domain, Region, State, SendOptions, Hash, with_locals, with_owner, with_rights_hash, put_region, domain_at}
use Rattle.model.specs.Pool.{handle_of}
use Rattle.model.specs.Locals.{free_local, insert_capa, remove_capa}
use Rattle.model.specs.Tree.{effective_ranges}
use Rattle.model.specs.Regions.{send_ranges, send_region, apply_options}
use Rattle.model.specs.Calls.{send_capa, send}
use Rattle.model.specs.Sound.{LiveOrOlder, RevokeFit, HandleFit, is_region_of, is_management_of}
use Rattle.laws.specs.Accepted.{All, accepted, refused, bind, bind-any, weaken}
use Rattle.laws.specs.Caller.{caller}
use Rattle.laws.specs.Options.{Joinable, options-checked, applied}
use Rattle.laws.specs.Tree.Slots.{in-length, is_live_lem}
use Rattle.laws.specs.Tree.Steps.{region-at, domain-at}
use Rattle.laws.specs.Capas.Slots.{this, that, was, each-slot}
use Rattle.laws.specs.Capas.Live.{handle-live, live-fits, fits-onward, handle-onward}
use Rattle.laws.specs.Capas.Held.{Shares, Held, owned_by, managed_by, CapasSound}
use Rattle.laws.specs.Capas.Domain.{SameManagers, same-managers-then, held-capas, same-held-capas, forth}
use Rattle.laws.specs.Capas.Change.{relist, relist-live, capacity, Plus, remove-held, insert-held}
use Rattle.laws.specs.Capas.Checks.{live-domain, capa-at, live-region, held-owner}
use Rattle.laws.specs.Capas.Listed.{remove-is, remove-listed, inserted-listed, plus_none}
use Rattle.laws.specs.Capas.Region.{write-region}
use Rattle.laws.specs.Capas.Walks.{same-lists-then, same-lists-same, same-lists-live, Walked, ranges-held}
use Rattle.laws.specs.Capas.NewRegion.{shares_without, without-here, without-else, shares_with, with-here, with-elsewhere, region-plus}
use Rattle.laws.specs.Capas.Room.{room-capas, room_in}

-- ---- a slot moves from list d to list `to`

-- The lists changed, and nothing else.
abbrev Relisted : State → State → Type 0
Relisted s t = SameManagers t.domains s.domains × (t.regions ≡ s.regions)

module _ (own man : Shares) (s : State) (h : Held own man s) (d to l : ℕ) (x y : Domain) (e : In s.domains d x) (f : In s.domains to y) (c : Capa) (slot : In x.locals.held l c) where
  abbrev cut : Domain
  cut = with_locals (free_local l x.locals) x

  abbrev ds₁ : List (Option Domain)
  ds₁ = (relist d x (free_local l x.locals) s).domains

  removed : remove_capa d l s ≡ relist d x (free_local l x.locals) s
  removed = remove-is s d l x e

  pub move-held : (own₀ own' : Shares) → Plus s d c own₀ man own man → Plus (remove_capa d l s) to c own₀ man own' man → RevokeFit s.region_pool s.regions (some c) → HandleFit s.region_pool s.regions s.domain_pool s.domains (some c) → All (λ z. Held own' man z.1 × Relisted s z.1) (insert_capa to c (remove_capa d l s))
  move-held own₀ own' p q r k =
      let u = remove_capa d l s in
      let (w, i, m) = forth s d x cut e refl to y f in
      let there : In u.domains to w = subst (λ (v : State). In v.domains to w) (sym removed) i in
      let fits = subst (λ (v : State). HandleFit v.region_pool v.regions v.domain_pool v.domains (some c)) (sym removed) (handle-onward s.region_pool s.region_pool s.regions s.regions s.domain_pool s.domain_pool s.domains ds₁ (λ n t. t) (λ n t o. o) (fits-onward s.domain_pool s.domain_pool s.domains ds₁ (λ n t. live-fits s.domain_pool ds₁ n (relist-live s d x e (free_local l x.locals) n t)) (λ n. le_refl _)) (some c) k) in
      let revokes = subst (λ (v : State). RevokeFit v.region_pool v.regions (some c)) (sym removed) r in
      let rest = remove-listed s d l x e in
      weaken (insert-held own₀ man u (remove-held own man s h d x e own₀ man c l slot p) to w there own' man c revokes fits q) (λ z (n, t).
      let b = inserted-listed u to w c z.0 z.1 there n in
      (t, (same-managers-then z.1.domains u.domains s.domains b.managers rest.managers, b.regions ∙ rest.regions)))

-- ---- what is sent

-- Region k went to domain `to`, with its ranges; in its slot is now what was there with the new owner, its rights joined with flags.
record Sent (s : State) (k : Handle) (to : ℕ) (t : State) : Type 0 where
  slot : ℕ
  sent : Region
  is : In s.regions slot sent
  handle : handle_of s.region_pool slot ≡ k
  new : Region
  owner : new.owner ≡ to
  walked : Walked (owned_by s) (managed_by s) (put_region slot new s) t

send-region : (s : State) → CapasSound s → (i to : ℕ) (g : Region) → In s.regions i g → T (is_some (at_slot s.domains to)) → All (Walked (owned_by s) (managed_by s) (put_region i (with_owner to g) s)) (send_region i to s)
unfolding send_region
send-region s h i to g e l =
    let w = put_region i (with_owner to g) s in
    subst (λ (v : Region). All (Walked (owned_by s) (managed_by s) w) (send_ranges v.owner to v.rights (effective_ranges s v) (put_region i (with_owner to v) s))) (sym (region-at s i g e))
    (ranges-held (owned_by s) (managed_by s) g.owner to g.rights (effective_ranges s g) w (write-region (owned_by s) (managed_by s) s h i g (with_owner to g) e refl l) (h.owner_live i g e) l)

-- the options are applied
module _ (s : State) (k : Handle) (i to : ℕ) (g : Region) (e : In s.regions i g) (q : handle_of s.region_pool i ≡ k) (to-live : T (is_some (at_slot s.domains to))) (t : State) (w : Walked (owned_by s) (managed_by s) (put_region i (with_owner to g) s) t) where
  there : In t.regions i (with_owner to g)
  there = ap (λ rs. at_slot rs i) w.regions ∙ get_or-set_same s.regions i (some (with_owner to g)) none (in-length s.regions i g e)

  joined : (n : ℕ) (y : Option Hash) → Sent s k to (put_region i (with_rights_hash n y (with_owner to g)) t)
  joined n y =
      let r = with_rights_hash n y (with_owner to g) in
      let s₁ = put_region i (with_owner to g) s in
      record {
        slot = i;
        sent = g;
        is = e;
        handle = q;
        new = r;
        owner = refl;
        walked = record {
          held = write-region (owned_by s) (managed_by s) t w.held i (with_owner to g) r there refl (same-lists-live s₁ t w.same_lists to to-live);
          same_lists = same-lists-then (put_region i r s) s₁ (put_region i r t) (same-lists-same (put_region i r s) s₁ refl refl) (same-lists-then s₁ t (put_region i r t) w.same_lists (same-lists-same t (put_region i r t) refl refl));
          regions = ap (λ rs. set rs i (some r)) w.regions ∙ set-set s.regions i (some (with_owner to g)) (some r);
          region_pool = w.region_pool;
        };
      }

  options-sent : (o : SendOptions) → Joinable o → Sent s k to (apply_options i o t)
  options-sent o j = applied (Sent s k to) t i (with_owner to g) there o (record { slot = i; sent = g; is = e; handle = q; new = with_owner to g; owner = refl; walked = w }) (λ n x. joined n o.hash) j

module _ (s : State) (h : CapasSound s) (d to l : ℕ) (x y : Domain) (e : In s.domains d x) (f : In s.domains to y) where
  abbrev own : Shares
  own = owned_by s

  -- a capability that is no region's and no domain's only moves
  plain : (c : Capa) → In x.locals.held l c → ((k : Handle) → is_region_of k (some c) ≡ false) → ((k : Handle) → is_management_of k (some c) ≡ false) → All (λ (z : ℕ × State). CapasSound z.1) (insert_capa to c (remove_capa d l s))
  plain c u a b =
      weaken (move-held own (managed_by s) s h d to l x y e f c u own own (plus_none s d c own (managed_by s) a b) (plus_none (remove_capa d l s) to c own (managed_by s) a b)
      (each-slot (RevokeFit s.region_pool s.regions) x.locals.held l c (h.lists d x e).revokes_fit u)
      (each-slot (HandleFit s.region_pool s.regions s.domain_pool s.domains) x.locals.held l c (h.lists d x e).handles_fit u))
      (λ z (t, (managers, same)). same-held-capas s z.1 managers same t)

  -- a region's has its new owner's list from then on
  moved : (k : Handle) (t : State) → In x.locals.held l (region k) → Sent s k to t → All (λ (z : ℕ × State). CapasSound z.1) (insert_capa to (region k) (remove_capa d l t))
  unfolding remove_capa
  moved k t u n =
      let i = n.slot in
      let g = n.sent in
      let w = n.walked in
      let (x₂, e₂, p₂) = w.same_lists.forth d x e in
      let (y₂, f₂, q₂) = w.same_lists.forth to y f in
      let slot₂ : In x₂.locals.held l (region k) = subst (λ (m : LocalList). In m.held l (region k)) (sym p₂) u in
      let same : handle_of t.region_pool i ≡ k = ap (λ p. handle_of p i) w.region_pool ∙ n.handle in
      let u₀ : In (domain_at s d).locals.held l (region (handle_of s.region_pool i)) = subst (λ (v : Domain). In v.locals.held l (region (handle_of s.region_pool i))) (sym (domain-at s d x e)) (u ∙ ap (λ m. some (region m)) (sym n.handle)) in
      let mine : g.owner ≡ d = held-owner s d l i x h e (record { region = g; is = n.is; slot = u₀ }) in
      let one : (m : ℕ) → own i m ≡ one_if (eqb d m) = λ m. ap (λ (v : Region). one_if (eqb v.owner m)) (region-at s i g n.is) ∙ ap (λ o. one_if (eqb o m)) mine in
      let now : In t.regions i n.new = ap (λ rs. at_slot rs i) w.regions ∙ get_or-set_same s.regions i (some n.new) none (in-length s.regions i g n.is) in
      weaken (move-held own (managed_by s) t w.held d to l x₂ y₂ e₂ f₂ (region k) slot₂ (shares_without i own) (shares_with i to own)
      (subst (λ m. Plus t d (region m) (shares_without i own) (managed_by s) own (managed_by s)) same (region-plus t d i (shares_without i own) own (managed_by s) (without-here i own) (without-else i own) one))
      (subst (λ m. Plus (remove_capa d l t) to (region m) (shares_without i own) (managed_by s) (shares_with i to own) (managed_by s)) same (region-plus (remove_capa d l t) to i (shares_without i own) (shares_with i to own) (managed_by s) (without-here i own) (λ j m o. without-else i own j m o ∙ sym (with-elsewhere i to own j m o)) (with-here i to own)))
      tt (subst (LiveOrOlder t.region_pool t.regions) same (live-fits t.region_pool t.regions (handle_of t.region_pool i) (handle-live t.region_pool t.regions i n.new now))))
      (λ z (b, (managers, rs)). held-capas (shares_with i to own) s z.1 (same-managers-then z.1.domains t.domains s.domains managers w.same_lists.back)
      (λ j v a m. elim (was s.regions i n.new (in-length s.regions i g n.is) j v (ap (λ r. at_slot r j) (sym w.regions ∙ sym rs) ∙ a)) [
        | this o q ↦ rw o (with-here i to own m ∙ ap (λ (c : ℕ). one_if (eqb c m)) (sym n.owner) ∙ ap (λ (r : Region). one_if (eqb r.owner m)) q)
        | that o q ↦ with-elsewhere i to own j m o ∙ ap (λ (r : Region). one_if (eqb r.owner m)) (region-at s j v q)
      ]) b)

  send-go : (o : SendOptions) (c : Capa) → In x.locals.held l c → All (λ (z : ℕ × State). CapasSound z.1) (send_capa c to o s >>= λ t. insert_capa to c (remove_capa d l t))
  unfolding send_capa ◌>>=◌
  send-go o no_capa u = plain no_capa u (λ k. refl) (λ k. refl)
  send-go o (region k) u =
      let live = is_live_lem (at_slot s.domains to) y f in
      bind {P = Sent s k to} (bind (live-region s k) (λ i r. options-checked o (λ j. bind (send-region s h i to r.region r.is live) (λ t w. accepted (options-sent s k i to r.region r.is r.handle live t w o j))))) (λ t n. moved k t u n)
  send-go o (region_revoke k) u = plain (region_revoke k) u (λ m. refl) (λ m. refl)
  send-go o (management k) u = refused
  send-go o (channel k) u = plain (channel k) u (λ m. refl) (λ m. refl)

pub send-capas : (h : Handle) (l target : ℕ) (o : SendOptions) (s : State) → CapasSound s → All (λ z. CapasSound z.1) (send h l target o s)
unfolding send
send-capas h l target o s k =
    bind (caller _ s h (live-domain s h)) (λ d m.
    bind-any _ (λ t.
    bind-any _ (λ k₁.
    bind (live-domain s k₁) (λ to n.
    bind (capacity s to n.domain n.is) (λ s₁ r.
    let (w, i, q) = forth s to n.domain (with_locals r.list n.domain) n.is refl d m.domain m.is in
    let e : In s₁.domains d w = subst (λ (v : State). In v.domains d w) (sym r.is) i in
    bind (capa-at s₁ d l) (λ c u. send-go s₁ (room-capas s s₁ to n.domain n.is r k) d to l w _ e (room_in s s₁ to n.domain n.is r) o c (subst (λ (v : Domain). In v.locals.held l c) (domain-at s₁ d w e) u)))))))
