-- Tables that pass the test of the capabilities: no RegionRevoke names a live root, and every handle is live or older. So they have all clauses about
-- capabilities.
use Rattle.std.specs.Prelude.{◌≡◌, refl, ◌≢◌, ℕ, zero, suc, ◌+◌, ◌≤◌, ◌<◌, true, not, get_or}
use Rattle.std.proofs.Common.{sym, ◌∙◌, inl, inr, arith}
use Rattle.std.proofs.Math.Path.{subst}
use Rattle.std.proofs.Math.Dec.{T}
use Rattle.base.specs.Tests.{is_true}
use Rattle.model.specs.Lists.{Each, In}
use Rattle.model.specs.State as state
use Rattle.model.specs.State.{Word}
use Rattle.model.specs.Pool.{is_live}
use Rattle.model.specs.Tree.{is_root_kind}
use Rattle.model.specs.Sound.{RevokeFit, HandleFit}
use Rattle.tables.specs.declared.Handle.{Handle}
use Rattle.tables.specs.Tables.{Tables, no_domain, slot_at, region_at}
use Rattle.decoded.specs.Shape.{Shaped}
use Rattle.decoded.specs.Decode.Read.{pool_from, taken, kind_from, handle_from, held_in, domain_read, region_read, domains_from, regions_from, state_of}
use Rattle.decoded.specs.Canonical.Pools.{table-in}
use Rattle.sound_capas.specs.Capas.{row_claim, capas_hold}
use Rattle.exact_capas.specs.Clauses.{Stored, Before, CapasClauses}
use Rattle.exact_capas.specs.Reads.{live-read, fit-in}
use Rattle.exact_capas.specs.Items.{fit-region, fit-domain, no-root}
use Rattle.exact_capas.specs.Held.{each-held, slots-many, handle-fit, revoke-fit}
use Rattle.exact_capas.specs.Passed.{rows, owners}
use Rattle.exact_capas.specs.Managers.{managers}

not_root : (k p : ℕ) → 1 ≤ k → k ≢ 1 → T (not (is_root_kind (kind_from k p)))
not_root zero p h ne = absurd (omega arith)
not_root (suc zero) p h ne = absurd (ne refl)
not_root (suc (suc zero)) p h ne = tt
not_root (suc (suc (suc k))) p h ne = tt

module _ (v : Tables) (k : Before v) (pass : capas_hold v ≡ true) where
  abbrev s : Shaped v
  s = k.shaped

  abbrev R : ℕ
  R = v.sizes.regions

  abbrev D : ℕ
  D = v.sizes.domains

  abbrev S : ℕ
  S = v.sizes.slots

  module _ (d : ℕ) (b : d < D) (t : taken v.domain_pool d ≡ true) (j : ℕ) (c : j < S) where
    fit : row_claim v d j ≤ v.sizes.regions + v.sizes.domains
    fit = (rows v k pass).within d j b (omega arith)

    abbrev h : Handle
    h = (slot_at v d j).handle

    slot-handle : HandleFit (pool_from R v.region_pool) (regions_from v) (pool_from D v.domain_pool) (domains_from v) (held_in (slot_at v d j))
    unfolding regions_from domains_from
    slot-handle =
        handle-fit (pool_from R v.region_pool) (regions_from v) (pool_from D v.domain_pool) (domains_from v) (slot_at v d j).kind h
        (λ e. fit-in R v.region_pool s.region_pool (region_read v) h (fit-region v s d j t c fit (inl e)))
        (λ e. fit-in R v.region_pool s.region_pool (region_read v) h (fit-region v s d j t c fit (inr e)))
        (λ e. fit-in D v.domain_pool s.domain_pool (domain_read v) h (fit-domain v s d j t c fit (inl e)))
        (λ e. fit-in D v.domain_pool s.domain_pool (domain_read v) h (fit-domain v s d j t c fit (inr e)))

    slot-revoke : RevokeFit (pool_from R v.region_pool) (regions_from v) (held_in (slot_at v d j))
    unfolding regions_from region_at
    slot-revoke = revoke-fit (pool_from R v.region_pool) (regions_from v) (pool_from D v.domain_pool) (domains_from v) (slot_at v d j).kind h root
      where
        root : (slot_at v d j).kind ≡ 3 → (g : state.Region) → In (regions_from v) h.slot g → T (is_live (pool_from R v.region_pool) (regions_from v) (handle_from h)) → T (not (is_root_kind g.kind))
        root e g f l =
            let u = table-in R v.region_pool (region_read v) h.slot g f in
            let n = no-root v s d j t c fit e (sym (live-read R v.region_pool s.region_pool (region_read v) h) ∙ is_true l) in
            subst (λ (x : state.Region). T (not (is_root_kind x.kind))) u.2
            (not_root (region_at v h.slot).kind (region_at v h.slot).parent (k.regions_used h.slot u.0 u.1).kind_low n)

  revokes : (d : ℕ) (x : state.Domain) → In (state_of v).domains d x → Each (RevokeFit (state_of v).region_pool (state_of v).regions) x.locals.held
  unfolding state_of domains_from slot_at
  revokes d x f =
      let u = table-in D v.domain_pool (domain_read v) d x f in
      subst (λ (y : state.Domain). Each (RevokeFit (pool_from R v.region_pool) (regions_from v)) y.locals.held) u.2
      (each-held (RevokeFit (pool_from R v.region_pool) (regions_from v)) (get_or v.domains d no_domain).slots (λ j c. slot-revoke d u.0 u.1 j (omega (arith, slots-many v s d u.0))))

  handles : (d : ℕ) (x : state.Domain) → In (state_of v).domains d x → Each (HandleFit (state_of v).region_pool (state_of v).regions (state_of v).domain_pool (state_of v).domains) x.locals.held
  unfolding state_of domains_from slot_at
  handles d x f =
      let u = table-in D v.domain_pool (domain_read v) d x f in
      subst (λ (y : state.Domain). Each (HandleFit (pool_from R v.region_pool) (regions_from v) (pool_from D v.domain_pool) (domains_from v)) y.locals.held) u.2
      (each-held (HandleFit (pool_from R v.region_pool) (regions_from v) (pool_from D v.domain_pool) (domains_from v)) (get_or v.domains d no_domain).slots (λ j c. slot-handle d u.0 u.1 j (omega (arith, slots-many v s d u.0))))

  cores : Stored v → (d : ℕ) (x : state.Domain) → In (state_of v).domains d x → Word x.cores
  unfolding state_of domains_from
  cores w d x f = let u = table-in D v.domain_pool (domain_read v) d x f in subst (λ (y : state.Domain). Word y.cores) u.2 (w.cores d u.0)

  clauses : Stored v → CapasClauses v
  clauses w = record { owners = owners v k pass; managers = managers v k pass; revokes_fit = revokes; handles_fit = handles; cores_words = cores w }

-- tables that pass the test of the capabilities
pub passed-clauses : (v : Tables) → Before v → Stored v → capas_hold v ≡ true → CapasClauses v
passed-clauses v k w h = clauses v k h w
