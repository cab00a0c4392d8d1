-- Tables with the clauses about capabilities: no slot and no head is wrong.
use Rattle.std.specs.Prelude.{◌≡◌, ◌≢◌, ◌⊎◌, true, false, not, eqb, get_or, if◌then◌else◌}
use Rattle.std.proofs.Math.Path.{refl, sym, ap, subst}
use Rattle.std.proofs.Common.{◌∙◌, inl, inr, arith, eqb-true}
use Rattle.std.proofs.Math.Logic.{⊎_elim}
use Prim.Native.Nat.{ℕ, zero, suc, ◌+◌, ◌-◌, ◌≤◌, ◌<◌}
use Rattle.std.proofs.Math.Option.{Option, none, some}
use Rattle.std.proofs.Math.Decide.{ℕ_discrete}
use Rattle.std.proofs.Math.Dec.{T}
use Rattle.std.proofs.Math.ListN.{length}
use Rattle.base.specs.Cases.{lt, ge, cmp, holds, fails, test}
use Rattle.base.specs.Tests.{true-is}
use Rattle.model.specs.Lists.{one_if, at_slot, In}
use Rattle.model.specs.State as state
use Rattle.model.specs.Pool.{handle_of}
use Rattle.model.specs.Tree.{is_root_kind}
use Rattle.model.specs.Sound.{names, is_region_of, is_management_of, RevokeFit, HandleFit}
use Rattle.laws.specs.Test.Paths.{if_some, manager_passes, managed, ok-managed}
use Rattle.laws.specs.Tree.Sum.{sum, sum-get}
use Rattle.laws.specs.Lists.{one-true}
use Rattle.laws.specs.Words.SameTables.{unlink}
use Rattle.tables.specs.declared.Handle.{Handle}
use Rattle.tables.specs.Tables.{Tables, no_domain, head_at, slot_at, region_at}
use Rattle.arena.specs.Arena.{live_b, older_b}
use Rattle.decoded.specs.Rows.{map-up-length}
use Rattle.decoded.specs.Shape.{Shaped}
use Rattle.decoded.specs.Decode.Read.{pool_from, taken, linked, kind_from, capa_from, held_in, domain_read, region_read, domains_from, regions_from, state_of}
use Rattle.decoded.specs.Canonical.Pools.{table-used, table-in}
use Rattle.decoded.specs.Canonical.Pools.{table-used, table-in}
use Rattle.managers.specs.Managers.{manager_of, above, climbed, climb-none}
use Rattle.sound_capas.specs.Capas.{row_claim}
use Rattle.exact_capas.specs.Clauses.{Before, CapasClauses}
use Rattle.exact_capas.specs.Reads.{Lives, lives, live-read, fit-out}
use Rattle.exact_capas.specs.Items.{kind, is2, is3, is4, is5, is_not, row-free, region-claims, management-claims, revoke-claims, channel-claims, other_row, old-region, old-domain, head-claims, head-passes}
use Rattle.exact_capas.specs.Held.{held-region, held-management, held-each, slots-many, held-count}
use Rattle.exact_capas.specs.Managers.{above-is}

names-link : (l d : ℕ) → names (linked l) d ≡ true → l ≡ suc d
names-link zero d t = absurd (let z = ap one_if t in omega arith)
names-link (suc i) d t = ap suc (eqb-true i d t)

module _ (v : Tables) (k : Before v) (q : CapasClauses v) where
  abbrev s : Shaped v
  s = k.shaped

  abbrev R : ℕ
  R = v.sizes.regions

  abbrev D : ℕ
  D = v.sizes.domains

  abbrev S : ℕ
  S = v.sizes.slots

  pub domain-in : (d : ℕ) → d < D → taken v.domain_pool d ≡ true → In (state_of v).domains d (domain_read v d)
  unfolding state_of domains_from
  domain-in d b t = table-used D v.domain_pool (domain_read v) d b t

  pub region-in : (i : ℕ) → i < R → taken v.region_pool i ≡ true → In (state_of v).regions i (region_read v i)
  unfolding state_of regions_from
  region-in i b t = table-used R v.region_pool (region_read v) i b t

  -- 1 where slot j of domain d holds region i, or domain i
  abbrev pub of_region_at : ℕ → ℕ → ℕ → ℕ
  of_region_at i d j = one_if (is_region_of (handle_of (pool_from R v.region_pool) i) (held_in (slot_at v d j)))

  abbrev pub of_domain_at : ℕ → ℕ → ℕ → ℕ
  of_domain_at i d j = one_if (is_management_of (handle_of (pool_from D v.domain_pool) i) (held_in (slot_at v d j)))

  pub region-slots : (i d : ℕ) → i < R → taken v.region_pool i ≡ true → d < D → taken v.domain_pool d ≡ true → sum (of_region_at i d) S ≡ one_if (eqb (unlink (region_at v i).owner) d)
  unfolding state_of region_at
  region-slots i d bi ti bd td = sym (held-count v s d bd (is_region_of (handle_of (pool_from R v.region_pool) i))) ∙ (q.owners i (region_read v i) (region-in i bi ti)).one_slot d (domain_read v d) (domain-in d bd td)

  pub domain-slots : (i d : ℕ) → i < D → taken v.domain_pool i ≡ true → d < D → taken v.domain_pool d ≡ true → sum (of_domain_at i d) S ≡ one_if (names (linked (head_at v i).manager) d)
  unfolding state_of head_at
  domain-slots i d bi ti bd td = sym (held-count v s d bd (is_management_of (handle_of (pool_from D v.domain_pool) i))) ∙ (q.managers i (domain_read v i) (domain-in i bi ti)).one_management d (domain_read v d) (domain-in d bd td)

  pub owner-link : (i d : ℕ) → i < R → taken v.region_pool i ≡ true → unlink (region_at v i).owner ≡ d → (region_at v i).owner ≡ suc d
  unfolding region_at
  owner-link i d b t e = go (region_at v i).owner (k.regions_used i b t).owned e
    where
      go : (l : ℕ) → 0 < l → unlink l ≡ d → l ≡ suc d
      go zero h e = absurd (omega arith)
      go (suc n) h e = ap suc e

  -- ---- a slot

  module _ (d : ℕ) (b : d < D) (t : taken v.domain_pool d ≡ true) (j : ℕ) (c : j < S) where
    abbrev h : Handle
    h = (slot_at v d j).handle

    pub region-here : (slot_at v d j).kind ≡ 2 → Lives R v.region_pool h → of_region_at h.slot d j ≡ 1
    unfolding pool_from
    region-here e l = ap one_if (held-region (pool_from R v.region_pool) h.slot (slot_at v d j) e refl (sym l.same))

    pub domain-here : (slot_at v d j).kind ≡ 4 → Lives D v.domain_pool h → of_domain_at h.slot d j ≡ 1
    unfolding pool_from
    domain-here e l = ap one_if (held-management (pool_from D v.domain_pool) h.slot (slot_at v d j) e refl (sym l.same))

    owned : (slot_at v d j).kind ≡ 2 → Lives R v.region_pool h → (region_at v h.slot).owner ≡ suc d
    owned e l =
        let o = one-true (eqb (unlink (region_at v h.slot).owner) d) (omega (arith, region-slots h.slot d l.below l.used b t, region-here e l, sum-get (of_region_at h.slot d) S j c)) in
        owner-link h.slot d l.below l.used (eqb-true (unlink (region_at v h.slot).owner) d o)

    managed-by : (slot_at v d j).kind ≡ 4 → Lives D v.domain_pool h → (head_at v h.slot).manager ≡ suc d
    managed-by e l = names-link (head_at v h.slot).manager d (one-true (names (linked (head_at v h.slot).manager) d) (omega (arith, domain-slots h.slot d l.below l.used b t, domain-here e l, sum-get (of_domain_at h.slot d) S j c)))

    -- its handle's clauses
    handle-at : HandleFit (pool_from R v.region_pool) (regions_from v) (pool_from D v.domain_pool) (domains_from v) (held_in (slot_at v d j))
    unfolding state_of slot_at
    handle-at = held-each (HandleFit (pool_from R v.region_pool) (regions_from v) (pool_from D v.domain_pool) (domains_from v)) (get_or v.domains d no_domain).slots (q.handles_fit d (domain_read v d) (domain-in d b t)) j (omega (arith, slots-many v s d b))

    revoke-at : RevokeFit (pool_from R v.region_pool) (regions_from v) (held_in (slot_at v d j))
    unfolding state_of slot_at
    revoke-at = held-each (RevokeFit (pool_from R v.region_pool) (regions_from v)) (get_or v.domains d no_domain).slots (q.revokes_fit d (domain_read v d) (domain-in d b t)) j (omega (arith, slots-many v s d b))

    handle-as : (n : ℕ) → (slot_at v d j).kind ≡ n → HandleFit (pool_from R v.region_pool) (regions_from v) (pool_from D v.domain_pool) (domains_from v) (capa_from n h)
    handle-as n e = subst (λ m. HandleFit (pool_from R v.region_pool) (regions_from v) (pool_from D v.domain_pool) (domains_from v) (capa_from m h)) e handle-at

    older-region : ((slot_at v d j).kind ≡ 2) ⊎ ((slot_at v d j).kind ≡ 3) → live_b v.region_pool h ≡ false → older_b v.region_pool h ≡ true
    unfolding regions_from
    older-region = ⊎_elim (λ e. fit-out R v.region_pool s.region_pool (region_read v) h (handle-as 2 e)) (λ e. fit-out R v.region_pool s.region_pool (region_read v) h (handle-as 3 e))

    older-domain : ((slot_at v d j).kind ≡ 4) ⊎ ((slot_at v d j).kind ≡ 5) → live_b v.domain_pool h ≡ false → older_b v.domain_pool h ≡ true
    unfolding domains_from
    older-domain = ⊎_elim (λ e. fit-out D v.domain_pool s.domain_pool (domain_read v) h (handle-as 4 e)) (λ e. fit-out D v.domain_pool s.domain_pool (domain_read v) h (handle-as 5 e))

    no-root : (slot_at v d j).kind ≡ 3 → live_b v.region_pool h ≡ true → (region_at v h.slot).kind ≢ 1
    unfolding state_of regions_from region_at
    no-root e l z =
        let u = lives R v.region_pool s.region_pool h l in
        let f = subst (λ m. RevokeFit (pool_from R v.region_pool) (regions_from v) (capa_from m h)) e revoke-at in
        let r = f (region_read v h.slot) (region-in h.slot u.below u.used) (true-is (live-read R v.region_pool s.region_pool (region_read v) h ∙ l)) in
        subst (λ n. T (not (is_root_kind (kind_from n (region_at v h.slot).parent)))) z r

    pub slot-within : row_claim v d j ≤ R + D
    slot-within = elim (kind (slot_at v d j).kind) [
      | is2 e ↦ elim (test (live_b v.region_pool h)) [
        | holds l ↦ let u = lives R v.region_pool s.region_pool h l in omega (arith, region-claims v s d j t c e u (owned e u), u.below)
        | fails l ↦ omega (arith, old-region v s d j t c (inl e) l (older-region (inl e) l))
      ]
      | is3 e ↦ elim (test (live_b v.region_pool h)) [
        | holds l ↦ omega (arith, revoke-claims v s d j t c e l (no-root e l))
        | fails l ↦ omega (arith, old-region v s d j t c (inr e) l (older-region (inr e) l))
      ]
      | is4 e ↦ elim (test (live_b v.domain_pool h)) [
        | holds l ↦ let u = lives D v.domain_pool s.domain_pool h l in omega (arith, management-claims v s d j t c e u (managed-by e u), u.below)
        | fails l ↦ omega (arith, old-domain v s d j t c (inl e) l (older-domain (inl e) l))
      ]
      | is5 e ↦ elim (test (live_b v.domain_pool h)) [
        | holds l ↦ omega (arith, channel-claims v s d j t c e l)
        | fails l ↦ omega (arith, old-domain v s d j t c (inr e) l (older-domain (inr e) l))
      ]
      | is_not a₂ a₃ a₄ a₅ ↦ omega (arith, other_row v s d j t c a₂ a₃ a₄ a₅)
    ]

  -- ---- a head

  climb : (n d : ℕ) → T (managed n (domains_from v) d) → climbed (manager_of v) n (head_at v d).manager ≡ 0
  unfolding domains_from head_at climbed
  climb zero d m = absurd m
  climb (suc n) d m = go (at_slot (domains_from v) d) refl m (λ p x. climb n p x)
    where
      up : (l : ℕ) → T (if_some (λ p. managed n (domains_from v) p) (linked l)) → ((p : ℕ) → T (managed n (domains_from v) p) → climbed (manager_of v) n (head_at v p).manager ≡ 0) → climbed (manager_of v) n (above (manager_of v) l) ≡ 0
      up zero x ih = climb-none (manager_of v) (suc n)
      up (suc p) x ih = ap (climbed (manager_of v) n) (above-is v (suc p) p refl) ∙ ih p x

      go : (o : Option state.Domain) → at_slot (domains_from v) d ≡ o → T (manager_passes (λ p. managed n (domains_from v) p) o) → ((p : ℕ) → T (managed n (domains_from v) p) → climbed (manager_of v) n (head_at v p).manager ≡ 0) → climbed (manager_of v) n (above (manager_of v) (head_at v d).manager) ≡ 0
      go none e x ih = absurd x
      go (some y) e x ih =
          let u = table-in D v.domain_pool (domain_read v) d y e in
          up (head_at v d).manager (subst (λ (z : state.Domain). T (if_some (λ p. managed n (domains_from v) p) z.manager)) (sym u.2) x) ih

  pub climbs : (d : ℕ) → d < D → taken v.domain_pool d ≡ true → climbed (manager_of v) D (head_at v d).manager ≡ 0
  unfolding state_of domains_from
  climbs d b t =
      let long : length (domains_from v) ≡ D = map-up-length (λ i. if taken v.domain_pool i then some (domain_read v i) else none) D in
      climb D d (subst (λ n. T (managed n (domains_from v) d)) long (ok-managed (domains_from v) d (q.managers d (domain_read v d) (domain-in d b t)).managed))

  head-within : (d j : ℕ) → d < D → taken v.domain_pool d ≡ true → S ≤ j → row_claim v d j ≤ R + D
  head-within d j b t c = elim (ℕ_discrete (head_at v d).manager 0) [
    | yes e ↦ omega (arith, head-claims v s d j t c b (climbs d b t) e)
    | no e ↦ omega (arith, head-passes v s d j t c (climbs d b t) e)
  ]

  pub row_within : (d j : ℕ) → d < D → row_claim v d j ≤ R + D
  row_within d j b = elim (test (taken v.domain_pool d)) [
    | fails t ↦ omega (arith, row-free v s d j t)
    | holds t ↦ elim (cmp j S) [ lt c ↦ slot-within d b t j c | ge c ↦ head-within d j b t c ]
  ]
