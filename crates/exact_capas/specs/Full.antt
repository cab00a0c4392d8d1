-- The law: tables pass the test of the capabilities exactly if they have its clauses. With these nothing is claimed twice, and everything in use is
-- claimed.
use Rattle.std.specs.Prelude.{◌≡◌, ◌↔◌, true, eqb}
use Rattle.std.proofs.Math.Path.{refl, sym, ap}
use Rattle.std.proofs.Common.{◌∙◌, arith}
use Prim.Native.Nat.{ℕ, zero, suc, ◌+◌, ◌-◌, ◌*◌, ◌≤◌, ◌<◌}
use Rattle.std.proofs.Math.ListN.{get_or}
use Rattle.base.specs.Cases.{lt, ge, cmp, holds, fails, test}
use Rattle.model.specs.Lists.{one_if, at_slot, In}
use Rattle.model.specs.State as state
use Rattle.model.specs.Pool.{handle_of}
use Rattle.model.specs.Sound.{OutsideSound, names, is_region_of, is_management_of}
use Rattle.laws.specs.Stack.{one, one_at_most}
use Rattle.laws.specs.Tree.Sum.{sum, sum-find}
use Rattle.laws.specs.Tree.Slots.{live-is}
use Rattle.laws.specs.Lists.{one-true}
use Rattle.laws.specs.Words.SameTables.{unlink}
use Rattle.tables.specs.Tables.{Tables, head_at, slot_at, region_at}
use Rattle.decoded.specs.Shape.{Shaped}
use Rattle.decoded.specs.Decode.Read.{pool_from, taken, linked, held_in, domain_read, domains_from, state_of}
use Rattle.decoded.specs.Canonical.Pools.{table-in}
use Rattle.sound_capas.specs.Capas.{in_use, row_claim, capa_claim, capas_hold}
use Rattle.exact_capas.specs.Fits.{FitFrom, times, By, by-times, count-sum, sum_below, out-holds}
use Rattle.exact_capas.specs.Grid.{Rows, rows_fit, at-by, sum_twice}
use Rattle.exact_capas.specs.Clauses.{Stored, Before, CapasClauses}
use Rattle.decoded.specs.Canonical.Pools.{table-in}
use Rattle.exact_capas.specs.Reads.{Lives}
use Rattle.exact_capas.specs.Items.{Who, of_region, of_domain, of_head, who, region-claims, management-claims, head-claims}
use Rattle.exact_capas.specs.Used.{used, used-region, used-domain, used-sum}
use Rattle.exact_capas.specs.Held.{region-held, management-held}
use Rattle.exact_capas.specs.Lists.{passed-clauses}
use Rattle.exact_capas.specs.Kept.{of_region_at, of_domain_at, region-slots, domain-slots, owner-link, domain-in, region-in, region-here, domain-here, climbs, row_within}

-- one place of a row that counts at most once
one_place : (w : ℕ → ℕ) (n i j : ℕ) → sum w n ≤ 1 → i < n → j < n → w i ≡ 1 → w j ≡ 1 → i ≡ j
one_place w n i j h a b x y = elim (cmp i j) [
  | lt c ↦ absurd (omega (arith, sum_twice w n i j c b))
  | ge c ↦ elim (cmp j i) [
    | lt d ↦ absurd (omega (arith, sum_twice w n j i d a))
    | ge d ↦ omega arith
  ]
]

module _ (v : Tables) (k : Before v) (q : CapasClauses v) where
  abbrev s : Shaped v
  s = k.shaped

  abbrev R : ℕ
  R = v.sizes.regions

  abbrev D : ℕ
  D = v.sizes.domains

  abbrev S : ℕ
  S = v.sizes.slots

  abbrev items : ℕ
  items = D * (S + 1)

  -- ---- nothing is claimed twice

  regions-same : (c d j e l : ℕ) → d < D → e < D → taken v.domain_pool d ≡ true → taken v.domain_pool e ≡ true → j < S → l < S → (slot_at v d j).kind ≡ 2 → (slot_at v e l).kind ≡ 2
      → Lives R v.region_pool (slot_at v d j).handle → Lives R v.region_pool (slot_at v e l).handle → (slot_at v d j).handle.slot ≡ c → (slot_at v e l).handle.slot ≡ c → d ≡ e → j ≡ l
  regions-same c d j e l bd be td te bj bl zd ze x y qd qe z =
      let tc = ap (taken v.region_pool) (sym qd) ∙ x.used in
      one_place (of_region_at v k q c d) S j l
      (omega (arith, region-slots v k q c d (omega (arith, x.below)) tc bd td, one_at_most (eqb (unlink (region_at v c).owner) d)))
      bj bl
      (ap (λ n. of_region_at v k q n d j) (sym qd) ∙ region-here v k q d bd td j bj zd x)
      (ap (λ n. of_region_at v k q c n l) z ∙ ap (λ n. of_region_at v k q n e l) (sym qe) ∙ region-here v k q e be te l bl ze y)

  domains-same : (c d j e l : ℕ) → d < D → e < D → taken v.domain_pool d ≡ true → taken v.domain_pool e ≡ true → j < S → l < S → (slot_at v d j).kind ≡ 4 → (slot_at v e l).kind ≡ 4
      → Lives D v.domain_pool (slot_at v d j).handle → Lives D v.domain_pool (slot_at v e l).handle → (slot_at v d j).handle.slot ≡ c → (slot_at v e l).handle.slot ≡ c → d ≡ e → j ≡ l
  domains-same c d j e l bd be td te bj bl zd ze x y qd qe z =
      let tc = ap (taken v.domain_pool) (sym qd) ∙ x.used in
      one_place (of_domain_at v k q c d) S j l
      (omega (arith, domain-slots v k q c d (omega (arith, x.below)) tc bd td, one_at_most (names (linked (head_at v c).manager) d)))
      bj bl
      (ap (λ n. of_domain_at v k q n d j) (sym qd) ∙ domain-here v k q d bd td j bj zd x)
      (ap (λ n. of_domain_at v k q c n l) z ∙ ap (λ n. of_domain_at v k q n e l) (sym qe) ∙ domain-here v k q e be te l bl ze y)

  same : (c d j e l : ℕ) → d < D → j ≤ S → e < D → l ≤ S → Who v s d j c → Who v s e l c → (d ≡ e) × (j ≡ l)
  same c d j e l bd hj be hl (of_region t b z x p o) (of_region t₂ b₂ z₂ x₂ p₂ o₂) = let w : d ≡ e = omega arith in (w, regions-same c d j e l bd be t t₂ b b₂ z z₂ x x₂ p p₂ w)
  same c d j e l bd hj be hl (of_region t b z x p o) (of_domain i t₂ b₂ z₂ x₂ p₂ o₂ y₂) = absurd (omega (arith, x.below))
  same c d j e l bd hj be hl (of_region t b z x p o) (of_head t₂ b₂ o₂ y₂) = absurd (omega (arith, x.below))
  same c d j e l bd hj be hl (of_domain i t b z x p o y) (of_region t₂ b₂ z₂ x₂ p₂ o₂) = absurd (omega (arith, x₂.below))
  same c d j e l bd hj be hl (of_domain i t b z x p o y) (of_domain n t₂ b₂ z₂ x₂ p₂ o₂ y₂) =
      let m : i ≡ n = omega arith in
      let w : d ≡ e = omega (arith, ap (λ a. (head_at v a).manager) m) in
      (w, domains-same i d j e l bd be t t₂ b b₂ z z₂ x x₂ p (p₂ ∙ sym m) w)
  same c d j e l bd hj be hl (of_domain i t b z x p o y) (of_head t₂ b₂ o₂ y₂) = let m : i ≡ e = omega arith in absurd (omega (arith, ap (λ a. (head_at v a).manager) m))
  same c d j e l bd hj be hl (of_head t b o y) (of_region t₂ b₂ z₂ x₂ p₂ o₂) = absurd (omega (arith, x₂.below))
  same c d j e l bd hj be hl (of_head t b o y) (of_domain i t₂ b₂ z₂ x₂ p₂ o₂ y₂) = let m : i ≡ d = omega arith in absurd (omega (arith, ap (λ a. (head_at v a).manager) m))
  same c d j e l bd hj be hl (of_head t b o y) (of_head t₂ b₂ o₂ y₂) = (omega arith, omega arith)

  rows : Rows D S (row_claim v) (R + D)
  rows = record {
    within = λ d j b h. row_within v k q d j b;
    once = λ d j e l bd hj be hl p z.
        let c = row_claim v d j - 1 in
        let w = row_within v k q d j bd in
        same c d j e l bd hj be hl (who v s d j c bd (omega arith) (omega arith)) (who v s e l c be (sym z ∙ omega arith) (omega arith));
  }

  -- ---- everything in use is claimed

  domain-out : (d : ℕ) → (x : state.Domain) × In (state_of v).domains d x → (d < D) × (taken v.domain_pool d ≡ true)
  unfolding state_of domains_from
  domain-out d y = let u = table-in D v.domain_pool (domain_read v) d y.0 y.1 in (u.0, u.1)

  region-claimed : (i : ℕ) → i < R → taken v.region_pool i ≡ true → By (capa_claim v) (suc i) 0 items
  unfolding capa_claim pool_from region_at
  region-claimed i b t =
      let d = unlink (region_at v i).owner in
      let u = domain-out d (live-is (at_slot (state_of v).domains d) (q.owners i _ (region-in v k q i b t)).owner_live) in
      let a = sum-find (of_region_at v k q i d) S (omega (arith, region-slots v k q i d b t u.0 u.1, one d d refl)) in
      let x = slot_at v d a.at in
      let m = region-held (pool_from R v.region_pool) i x (one-true (is_region_of (handle_of (pool_from R v.region_pool) i) (held_in x)) a.counts) in
      let l : Lives R v.region_pool x.handle = record { below = omega (arith, m.1); used = ap (taken v.region_pool) m.1 ∙ t; same = ap (λ n. get_or v.region_pool.gens n 0) m.1 ∙ sym m.2 } in
      at-by D S (row_claim v) (suc i) d a.at u.0 (omega (arith, a.low))
      (region-claims v s d a.at u.1 a.low m.0 l (ap (λ n. (region_at v n).owner) m.1 ∙ owner-link v k q i d b t refl) ∙ ap suc m.1)

  domain-claimed : (i : ℕ) → i < D → taken v.domain_pool i ≡ true → By (capa_claim v) (suc (R + i)) 0 items
  unfolding capa_claim pool_from head_at state_of
  domain-claimed i b t = go (head_at v i).manager refl
    where
      go : (n : ℕ) → (head_at v i).manager ≡ n → By (capa_claim v) (suc (R + i)) 0 items
      go zero e = at-by D S (row_claim v) (suc (R + i)) i S b (omega arith) (head-claims v s i S t (omega arith) b (climbs v k q i b t) e)
      go (suc d) e =
          let u = domain-out d (live-is (at_slot (state_of v).domains d) ((q.managers i (domain_read v i) (domain-in v k q i b t)).manager_live d (ap linked e))) in
          let a = sum-find (of_domain_at v k q i d) S (omega (arith, domain-slots v k q i d b t u.0 u.1, ap (λ n. one_if (names (linked n) d)) e, one d d refl)) in
          let x = slot_at v d a.at in
          let m = management-held (pool_from D v.domain_pool) i x (one-true (is_management_of (handle_of (pool_from D v.domain_pool) i) (held_in x)) a.counts) in
          let l : Lives D v.domain_pool x.handle = record { below = omega (arith, m.1); used = ap (taken v.domain_pool) m.1 ∙ t; same = ap (λ n. get_or v.domain_pool.gens n 0) m.1 ∙ sym m.2 } in
          at-by D S (row_claim v) (suc (R + i)) d a.at u.0 (omega (arith, a.low))
          (management-claims v s d a.at u.1 a.low m.0 l (ap (λ n. (head_at v n).manager) m.1 ∙ e) ∙ ap (λ n. suc (R + n)) m.1)

  some-times : (c : ℕ) → By (capa_claim v) (suc c) 0 items → 0 < times (capa_claim v) (suc c) 0 items
  some-times c b = by-times (capa_claim v) (suc c) 0 items b.item b.low b.high b.claims

  at_least : (c : ℕ) → c < R + D → used v c ≤ times (capa_claim v) (suc c) 0 items
  at_least c b = elim (cmp c R) [
    | lt h ↦ elim (test (taken v.region_pool c)) [
      | holds t ↦ omega (arith, used-region v c h, ap one_if t, some-times c (region-claimed c h t))
      | fails t ↦ omega (arith, used-region v c h, ap one_if t)
    ]
    | ge h ↦
        let i = c - R in
        let z : c ≡ R + i = omega arith in
        elim (test (taken v.domain_pool i)) [
          | holds t ↦ omega (arith, ap (used v) z, used-domain v i, ap one_if t, some-times (R + i) (domain-claimed i (omega arith) t), ap (λ n. times (capa_claim v) (suc n) 0 items) z)
          | fails t ↦ omega (arith, ap (used v) z, used-domain v i, ap one_if t)
        ]
  ]

  fit : FitFrom (capa_claim v) (R + D) 0 items
  unfolding capa_claim
  fit = rows_fit D S (row_claim v) (R + D) rows

  pub clauses-pass : capas_hold v ≡ true
  unfolding capas_hold
  clauses-pass = out-holds (capa_claim v) (R + D) items (in_use v) fit (omega (arith, used-sum v k, count-sum (capa_claim v) (R + D) 0 items fit.within, sum_below (used v) (λ c. times (capa_claim v) (suc c) 0 items) (R + D) at_least))

pub capas-exact : (v : Tables) → Before v → Stored v → (capas_hold v ≡ true) ↔ CapasClauses v
capas-exact v k w = (passed-clauses v k w, clauses-pass v k)

-- sound tables have the clauses
pub sound-capas : (v : Tables) → OutsideSound (state_of v) → CapasClauses v
sound-capas v h = record {
  owners = h.owners;
  managers = h.managers;
  revokes_fit = λ d x e. (h.lists d x e).revokes_fit;
  handles_fit = λ d x e. (h.lists d x e).handles_fit;
  cores_words = h.cores_words;
}
