-- Tables that pass the test of the capabilities: as many claims as there are regions and domains in use, each of something in use and no two of the
-- same, leave nothing in use unclaimed. So each region has its one slot.
use Rattle.std.specs.Prelude.{◌≡◌, eqb}
use Rattle.std.proofs.Math.Path.{sym, ap, subst}
use Rattle.std.proofs.Common.{◌∙◌, arith, eq-eqb, ne_eqb}
use Prim.Native.Nat.{ℕ, suc, ◌+◌, ◌-◌, ◌*◌, ◌/◌, ◌%◌, ◌≤◌, ◌<◌}
use Rattle.std.proofs.Math.Bool.{true}
use Rattle.std.proofs.Math.Decide.{ℕ_discrete}
use Rattle.std.proofs.Math.ListN.{get_or}
use Rattle.base.specs.Cases.{lt, ge, cmp, holds, fails, test}
use Rattle.model.specs.Lists.{one_if, count_if, In}
use Rattle.model.specs.State as state
use Rattle.model.specs.Pool.{handle_of}
use Rattle.model.specs.Sound.{OwnerSound, is_region_of}
use Rattle.laws.specs.Tree.Slots.{is_live_lem}
use Rattle.laws.specs.Tree.Sum.{sum-none}
use Rattle.laws.specs.Words.SameTables.{unlink}
use Rattle.tables.specs.Tables.{Tables, slot_at, region_at}
use Rattle.decoded.specs.Shape.{Shaped}
use Rattle.decoded.specs.Decode.Read.{pool_from, taken, held_in, domain_read, region_read, domains_from, regions_from, state_of}
use Rattle.decoded.specs.Canonical.Pools.{table-used, table-in}
use Rattle.decoded.specs.Canonical.Pools.{table-used, table-in}
use Rattle.claims.specs.Claims.{claim_count}
use Rattle.sound_capas.specs.Capas.{in_use, row_claim, capa_claim, capas_hold}
use Rattle.exact_capas.specs.Fits.{FitFrom, times, By, times-by, times-once, count-sum, sum-tight, holds-out}
use Rattle.exact_capas.specs.Grid.{Rows, fit-rows, row_below_lem, place-below, sum-only}
use Rattle.exact_capas.specs.Clauses.{Before}
use Rattle.exact_capas.specs.Reads.{Lives, live_at}
use Rattle.exact_capas.specs.Items.{Who, of_region, of_domain, of_head, who, region-claims, owner-is}
use Rattle.exact_capas.specs.Used.{used, used-region, used-domain, used-sum}
use Rattle.exact_capas.specs.Held.{region-held, held-region, held-count}

module _ (v : Tables) (k : Before v) (pass : capas_hold v ≡ true) where
  abbrev s : Shaped v
  s = k.shaped

  abbrev R : ℕ
  R = v.sizes.regions

  abbrev D : ℕ
  D = v.sizes.domains

  abbrev S : ℕ
  S = v.sizes.slots

  abbrev items : ℕ
  items = D * (S + 1)

  -- ---- everything in use is claimed

  passed : FitFrom (capa_claim v) (R + D) 0 items × (in_use v ≤ claim_count (capa_claim v) 0 items)
  unfolding capas_hold
  passed = holds-out (capa_claim v) (R + D) items (in_use v) pass

  pub rows : Rows D S (row_claim v) (R + D)
  unfolding capa_claim
  rows = fit-rows D S (row_claim v) (R + D) passed.0

  who-used : (d j c : ℕ) → d < D → Who v s d j c → used v c ≡ 1
  who-used d j c b (of_region t l z h q o) = used-region v c (omega (arith, h.below)) ∙ ap one_if (ap (taken v.region_pool) (sym q) ∙ h.used)
  who-used d j c b (of_domain e t l z h q o y) = ap (used v) y ∙ used-domain v e ∙ ap one_if (ap (taken v.domain_pool) (sym q) ∙ h.used)
  who-used d j c b (of_head t l o y) = ap (used v) y ∙ used-domain v d ∙ ap one_if t

  -- an item that claims a number
  pub record Item (c : ℕ) : Type 0 where
    pub row : ℕ
    pub place : ℕ
    pub row_below : row < D
    pub place_below : place ≤ S
    pub claims : row_claim v row place ≡ suc c

  by-item : (c : ℕ) → By (capa_claim v) (suc c) 0 items → Item c
  unfolding capa_claim
  by-item c b = record { row = b.item / (S + 1); place = b.item % (S + 1); row_below = row_below_lem D S (row_claim v) b.item (omega (arith, b.high)); place_below = place-below D S (row_claim v) b.item; claims = b.claims }

  item-used : (c : ℕ) → c < R + D → Item c → used v c ≡ 1
  item-used c b i = who-used i.row i.place c i.row_below (who v s i.row i.place c i.row_below i.claims b)

  at_most : (c : ℕ) → c < R + D → times (capa_claim v) (suc c) 0 items ≤ used v c
  at_most c b = elim (cmp 0 (times (capa_claim v) (suc c) 0 items)) [
    | ge h ↦ omega arith
    | lt h ↦ omega (arith, times-once (capa_claim v) (R + D) c 0 items passed.0, item-used c b (by-item c (times-by (capa_claim v) (suc c) 0 items h)))
  ]

  tight : (c : ℕ) → c < R + D → times (capa_claim v) (suc c) 0 items ≡ used v c
  tight = sum-tight (λ c. times (capa_claim v) (suc c) 0 items) (used v) (R + D) at_most (omega (arith, passed.1, used-sum v k, count-sum (capa_claim v) (R + D) 0 items passed.0.within))

  pub claimed : (c : ℕ) → c < R + D → used v c ≡ 1 → Item c
  claimed c b u = by-item c (times-by (capa_claim v) (suc c) 0 items (omega (arith, tight c b)))

  pub same_item : (c d j e l : ℕ) → d < D → j ≤ S → e < D → l ≤ S → row_claim v d j ≡ suc c → row_claim v e l ≡ suc c → (d ≡ e) × (j ≡ l)
  same_item c d j e l b h b₂ h₂ x y = rows.once d j e l b h b₂ h₂ (omega arith) (x ∙ sym y)

  -- ---- owners

  -- the one slot of region i
  record Owner (i : ℕ) : Type 0 where
    dom : ℕ
    place : ℕ
    dom_below : dom < D
    dom_used : taken v.domain_pool dom ≡ true
    place_below : place < S
    kind : (slot_at v dom place).kind ≡ 2
    lives : Lives R v.region_pool (slot_at v dom place).handle
    slot : (slot_at v dom place).handle.slot ≡ i
    claims : row_claim v dom place ≡ suc i
    owner : (region_at v i).owner ≡ suc dom

  owner_of : (i : ℕ) → i < R → taken v.region_pool i ≡ true → Owner i
  owner_of i b t = go (claimed i (omega arith) (used-region v i b ∙ ap one_if t))
    where
      of-who : (x : Item i) → Who v s x.row x.place i → Owner i
      of-who x (of_region u l z h q o) = record { dom = x.row; place = x.place; dom_below = x.row_below; dom_used = u; place_below = l; kind = z; lives = h; slot = q; claims = x.claims; owner = o }
      of-who x (of_domain e u l z h q o y) = absurd (omega arith)
      of-who x (of_head u l o y) = absurd (omega arith)

      go : Item i → Owner i
      go x = of-who x (who v s x.row x.place i x.row_below x.claims (omega arith))

  -- a slot that holds the region is that one
  region-match : (i d j : ℕ) → i < R → taken v.region_pool i ≡ true → d < D → taken v.domain_pool d ≡ true → j < S → is_region_of (handle_of (pool_from R v.region_pool) i) (held_in (slot_at v d j)) ≡ true → row_claim v d j ≡ suc i
  unfolding pool_from
  region-match i d j bi ti bd td bj t =
      let x = slot_at v d j in
      let m = region-held (pool_from R v.region_pool) i x t in
      let l : Lives R v.region_pool x.handle = record { below = omega (arith, m.1); used = ap (taken v.region_pool) m.1 ∙ ti; same = ap (λ n. get_or v.region_pool.gens n 0) m.1 ∙ sym m.2 } in
      region-claims v s d j td bj m.0 l (owner-is v s d j td bj (rows.within d j bd (omega arith)) m.0 (live_at R v.region_pool s.region_pool x.handle l)) ∙ ap suc m.1

  one-slot : (i : ℕ) → i < R → taken v.region_pool i ≡ true → (o : Owner i) (d : ℕ) → d < D → taken v.domain_pool d ≡ true → count_if (is_region_of (handle_of (pool_from R v.region_pool) i)) (domain_read v d).locals.held ≡ one_if (eqb o.dom d)
  unfolding pool_from
  one-slot i bi ti o d bd td = held-count v s d bd (is_region_of (handle_of (pool_from R v.region_pool) i)) ∙ elim (ℕ_discrete o.dom d) [
    | yes e ↦
        let here : is_region_of (handle_of (pool_from R v.region_pool) i) (held_in (slot_at v o.dom o.place)) ≡ true =
        held-region (pool_from R v.region_pool) i (slot_at v o.dom o.place) o.kind o.slot (sym o.lives.same ∙ ap (λ n. get_or v.region_pool.gens n 0) o.slot) in
        sum-only (λ j. one_if (is_region_of (handle_of (pool_from R v.region_pool) i) (held_in (slot_at v d j)))) S o.place o.place_below (λ j b ne. off j b (λ q. ne q.1))
        ∙ ap one_if (ap (λ n. is_region_of (handle_of (pool_from R v.region_pool) i) (held_in (slot_at v n o.place))) (sym e) ∙ here)
        ∙ sym (ap one_if (eq-eqb o.dom d e))
    | no ne ↦ sum-none (λ j. one_if (is_region_of (handle_of (pool_from R v.region_pool) i) (held_in (slot_at v d j)))) S (λ j b. off j b (λ q. ne (sym q.0))) ∙ sym (ap one_if (ne_eqb o.dom d ne))
  ]
    where
      off : (j : ℕ) → j < S → ((d ≡ o.dom) × (j ≡ o.place) → ⊥) → one_if (is_region_of (handle_of (pool_from R v.region_pool) i) (held_in (slot_at v d j))) ≡ 0
      off j b ne = elim (test (is_region_of (handle_of (pool_from R v.region_pool) i) (held_in (slot_at v d j)))) [
        | fails t ↦ ap one_if t
        | holds t ↦ absurd (ne (same_item i d j o.dom o.place bd (omega arith) o.dom_below (omega (arith, o.place_below)) (region-match i d j bi ti bd td b t) o.claims))
      ]

  pub owners : (i : ℕ) (g : state.Region) → In (state_of v).regions i g → OwnerSound (state_of v).region_pool (state_of v).domains i g
  unfolding state_of regions_from domains_from region_at
  owners i g e =
      let u = table-in R v.region_pool (region_read v) i g e in
      let o = owner_of i u.0 u.1 in
      let w : g.owner ≡ o.dom = ap (λ (x : state.Region). x.owner) (sym u.2) ∙ ap unlink o.owner in
      record {
        owner_live = is_live_lem _ (domain_read v g.owner) (table-used D v.domain_pool (domain_read v) g.owner (omega (arith, o.dom_below)) (ap (taken v.domain_pool) w ∙ o.dom_used));
        one_slot = λ d x f.
            let z = table-in D v.domain_pool (domain_read v) d x f in
            subst (λ (y : state.Domain). count_if (is_region_of (handle_of (pool_from R v.region_pool) i)) y.locals.held ≡ one_if (eqb g.owner d)) z.2
            (one-slot i u.0 u.1 o d z.0 z.1 ∙ ap (λ n. one_if (eqb n d)) (sym w));
      }
