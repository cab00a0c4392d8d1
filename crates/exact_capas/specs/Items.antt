-- What a domain's slots and its head claim.
use Rattle.std.specs.Prelude.{◌≡◌, refl, ◌≢◌, ◌⊎◌, ℕ, suc, ◌+◌, ◌-◌, ◌≤◌, ◌<◌, true, false, eqb, ltb}
use Rattle.std.proofs.Common.{sym, ◌∙◌, ⊎_elim, arith}
use Rattle.std.proofs.Math.Path.{ap}
use Rattle.std.proofs.Math.Decide.{ℕ_discrete}
use borrow.Author.Tests.{ltb-true, eqb-true, lt-ltb, le-ltb, eq-eqb, ne_eqb}
use Rattle.base.specs.Cases.{pick, lt, ge, cmp, holds, fails, test}
use Rattle.base.specs.Tests.{both_true}
use Rattle.tables.specs.declared.Handle.{Handle}
use Rattle.tables.specs.declared.Slot.{Slot}
use Rattle.tables.specs.Tables.{Tables, Arena, head_at, slot_at, region_at}
use Rattle.arena.specs.Arena.{live_b, older_b}
use Rattle.decoded.specs.Shape.{Shaped}
use Rattle.decoded.specs.Decode.Read.{taken}
use Rattle.decoded.specs.Canonical.Pools.{taken-used, not_taken}
use Rattle.managers.specs.Managers.{climbed, manager_of}
use Rattle.capa_claims.specs.CapaClaims.{number, wrong, names_b, claim_by, region_claim, revoke_claim, management_claim, slot_claim, head_claim, named}
use Rattle.sound_capas.specs.Capas.{row_claim}
use Rattle.exact_capas.specs.Reads.{Lives, lives, live_at}

-- ---- a handle

module _ (bad : ℕ) (a : Arena) (h : Handle) (y : ℕ) where
  live-claim : live_b a h ≡ true → claim_by bad a h y ≡ y
  unfolding claim_by
  live-claim t = rw t

  old-claim : live_b a h ≡ false → older_b a h ≡ true → claim_by bad a h y ≡ 0
  unfolding claim_by
  old-claim t o = rw (t, o)

  fit-claim : claim_by bad a h y < bad → live_b a h ≡ false → older_b a h ≡ true
  unfolding claim_by
  fit-claim b t = elim (test (older_b a h)) [
    | holds o ↦ o
    | fails o ↦ absurd (let k = rw (t, o) at b in omega arith)
  ]

  some-claim : (c : ℕ) → claim_by bad a h y ≡ suc c → suc c < bad → (live_b a h ≡ true) × (y ≡ suc c)
  some-claim c e b = elim (test (live_b a h)) [
    | holds t ↦ (t, sym (live-claim t) ∙ e)
    | fails t ↦ absurd (let o = old-claim t (fit-claim (omega arith) t) in omega arith)
  ]

names-t : (l d : ℕ) → l ≡ suc d → names_b l d ≡ true
names-t l d e = rw (lt-ltb 0 l (omega arith), eq-eqb (l - 1) d (omega arith))

names-out : (l d : ℕ) → names_b l d ≡ true → l ≡ suc d
names-out l d t =
    let p = both_true (ltb 0 l) (eqb (l - 1) d) t in
    let z = ltb-true 0 l p.0 in
    let w = eqb-true (l - 1) d p.1 in
    omega arith

-- a number that is picked where a link names d
pick_out : (bad l d base n i c : ℕ) → pick (names_b l d) (number bad base n i) bad ≡ suc c → suc c < bad → (l ≡ suc d) × (c ≡ base + i) × (i < n)
pick_out bad l d base n i c e b = elim (test (names_b l d)) [
  | fails t ↦ absurd (let k = rw t at e in omega arith)
  | holds t ↦ elim (cmp i n) [
    | lt h ↦ let k = rw (t, lt-ltb i n h) at e in (names-out l d t, omega arith, h)
    | ge h ↦ absurd (let k = rw (t, le-ltb i n h) at e in omega arith)
  ]
]

pick-in : (bad l d base n i : ℕ) → l ≡ suc d → i < n → pick (names_b l d) (number bad base n i) bad ≡ suc (base + i)
pick-in bad l d base n i e b = rw (names-t l d e, lt-ltb i n b) (omega arith)

-- ---- a slot, by its kind

module _ (v : Tables) (d : ℕ) (x : Slot) where
  two : x.kind ≡ 2 → slot_claim (named v) d x ≡ region_claim v.sizes v.region_pool (region_at v) d x.handle
  unfolding slot_claim
  two e = rw (eq-eqb x.kind 2 e)

  three : x.kind ≡ 3 → slot_claim (named v) d x ≡ revoke_claim v.sizes v.region_pool (region_at v) x.handle
  unfolding slot_claim
  three e = rw (ne_eqb x.kind 2 (λ z. omega arith), eq-eqb x.kind 3 e)

  four : x.kind ≡ 4 → slot_claim (named v) d x ≡ management_claim v.sizes v.domain_pool (manager_of v) d x.handle
  unfolding slot_claim
  four e = rw (ne_eqb x.kind 2 (λ z. omega arith), ne_eqb x.kind 3 (λ z. omega arith), eq-eqb x.kind 4 e)

  five : x.kind ≡ 5 → slot_claim (named v) d x ≡ claim_by (wrong v.sizes) v.domain_pool x.handle 0
  unfolding slot_claim
  five e = rw (ne_eqb x.kind 2 (λ z. omega arith), ne_eqb x.kind 3 (λ z. omega arith), ne_eqb x.kind 4 (λ z. omega arith), eq-eqb x.kind 5 e)

  other : x.kind ≢ 2 → x.kind ≢ 3 → x.kind ≢ 4 → x.kind ≢ 5 → slot_claim (named v) d x ≡ 0
  unfolding slot_claim
  other a b c e = rw (ne_eqb x.kind 2 a, ne_eqb x.kind 3 b, ne_eqb x.kind 4 c, ne_eqb x.kind 5 e)

pub data Kind (k : ℕ) : Type 0 where
  is2 : k ≡ 2 → Kind k
  is3 : k ≡ 3 → Kind k
  is4 : k ≡ 4 → Kind k
  is5 : k ≡ 5 → Kind k
  is_not : k ≢ 2 → k ≢ 3 → k ≢ 4 → k ≢ 5 → Kind k

pub kind : (k : ℕ) → Kind k
kind k = elim (ℕ_discrete k 2) [
  | yes e ↦ is2 e
  | no a ↦ elim (ℕ_discrete k 3) [
    | yes e ↦ is3 e
    | no b ↦ elim (ℕ_discrete k 4) [
      | yes e ↦ is4 e
      | no c ↦ elim (ℕ_discrete k 5) [ yes e ↦ is5 e | no f ↦ is_not a b c f ]
    ]
  ]
]

-- ---- a row

module _ (v : Tables) (s : Shaped v) where
  abbrev R : ℕ
  R = v.sizes.regions

  abbrev D : ℕ
  D = v.sizes.domains

  abbrev S : ℕ
  S = v.sizes.slots

  abbrev Region : Handle → Type 0
  Region h = Lives R v.region_pool h

  abbrev Domain : Handle → Type 0
  Domain h = Lives D v.domain_pool h

  pub row-free : (d j : ℕ) → taken v.domain_pool d ≡ false → row_claim v d j ≡ 0
  unfolding row_claim
  row-free d j t = rw (not_taken v.domain_pool d t)

  row-slot : (d j : ℕ) → taken v.domain_pool d ≡ true → j < S → row_claim v d j ≡ slot_claim (named v) d (slot_at v d j)
  unfolding row_claim
  row-slot d j t b = rw (taken-used v.domain_pool d t, lt-ltb j S b)

  row-head : (d j : ℕ) → taken v.domain_pool d ≡ true → S ≤ j → row_claim v d j ≡ head_claim v.sizes (manager_of v) d
  unfolding row_claim
  row-head d j t b = rw (taken-used v.domain_pool d t, le-ltb j S b)

  -- ---- what a slot of a kind claims

  module _ (d j : ℕ) (t : taken v.domain_pool d ≡ true) (b : j < S) where
    abbrev x : Slot
    x = slot_at v d j

    abbrev h : Handle
    h = (slot_at v d j).handle

    abbrev owner : ℕ
    owner = (region_at v (slot_at v d j).handle.slot).owner

    abbrev manager : ℕ
    manager = (head_at v (slot_at v d j).handle.slot).manager

    -- what a live handle claims
    abbrev bad : ℕ
    bad = wrong v.sizes

    abbrev as_region : ℕ
    as_region = pick (names_b owner d) (number bad 0 R h.slot) bad

    abbrev as_revoke : ℕ
    as_revoke = pick (eqb (region_at v h.slot).kind 1) bad 0

    abbrev as_management : ℕ
    as_management = pick (names_b manager d) (number bad R D h.slot) bad

    region-row : x.kind ≡ 2 → row_claim v d j ≡ claim_by bad v.region_pool h as_region
    unfolding region_claim
    region-row e = row-slot d j t b ∙ two v d x e

    revoke-row : x.kind ≡ 3 → row_claim v d j ≡ claim_by bad v.region_pool h as_revoke
    unfolding revoke_claim
    revoke-row e = row-slot d j t b ∙ three v d x e

    management-row : x.kind ≡ 4 → row_claim v d j ≡ claim_by bad v.domain_pool h as_management
    unfolding management_claim
    management-row e = row-slot d j t b ∙ four v d x e

    channel-row : x.kind ≡ 5 → row_claim v d j ≡ claim_by bad v.domain_pool h 0
    channel-row e = row-slot d j t b ∙ five v d x e

    pub other_row : x.kind ≢ 2 → x.kind ≢ 3 → x.kind ≢ 4 → x.kind ≢ 5 → row_claim v d j ≡ 0
    other_row a₂ a₃ a₄ a₅ = row-slot d j t b ∙ other v d x a₂ a₃ a₄ a₅

    -- live handles

    pub region-claims : x.kind ≡ 2 → Region h → owner ≡ suc d → row_claim v d j ≡ suc h.slot
    region-claims e l o = region-row e ∙ live-claim _ _ h _ (live_at R v.region_pool s.region_pool h l) ∙ pick-in (wrong v.sizes) owner d 0 R h.slot o l.below ∙ omega arith

    pub management-claims : x.kind ≡ 4 → Domain h → manager ≡ suc d → row_claim v d j ≡ suc (R + h.slot)
    management-claims e l o = management-row e ∙ live-claim _ _ h _ (live_at D v.domain_pool s.domain_pool h l) ∙ pick-in (wrong v.sizes) manager d R D h.slot o l.below

    pub revoke-claims : x.kind ≡ 3 → live_b v.region_pool h ≡ true → (region_at v h.slot).kind ≢ 1 → row_claim v d j ≡ 0
    revoke-claims e l ne = revoke-row e ∙ live-claim _ _ h _ l ∙ ap (λ b. pick b (wrong v.sizes) 0) (ne_eqb (region_at v h.slot).kind 1 ne)

    pub channel-claims : x.kind ≡ 5 → live_b v.domain_pool h ≡ true → row_claim v d j ≡ 0
    channel-claims e l = channel-row e ∙ live-claim _ _ h _ l

    -- older handles

    pub old-region : (x.kind ≡ 2) ⊎ (x.kind ≡ 3) → live_b v.region_pool h ≡ false → older_b v.region_pool h ≡ true → row_claim v d j ≡ 0
    old-region k l o = ⊎_elim (λ e. region-row e ∙ old-claim _ _ h _ l o) (λ e. revoke-row e ∙ old-claim _ _ h _ l o) k

    pub old-domain : (x.kind ≡ 4) ⊎ (x.kind ≡ 5) → live_b v.domain_pool h ≡ false → older_b v.domain_pool h ≡ true → row_claim v d j ≡ 0
    old-domain k l o = ⊎_elim (λ e. management-row e ∙ old-claim _ _ h _ l o) (λ e. channel-row e ∙ old-claim _ _ h _ l o) k

    -- ---- a row that is not wrong

    module _ (f : row_claim v d j ≤ R + D) where
      pub fit-region : (x.kind ≡ 2) ⊎ (x.kind ≡ 3) → live_b v.region_pool h ≡ false → older_b v.region_pool h ≡ true
      fit-region k = ⊎_elim (λ e. fit-claim bad v.region_pool h as_region (omega (arith, f, region-row e))) (λ e. fit-claim bad v.region_pool h as_revoke (omega (arith, f, revoke-row e))) k

      pub fit-domain : (x.kind ≡ 4) ⊎ (x.kind ≡ 5) → live_b v.domain_pool h ≡ false → older_b v.domain_pool h ≡ true
      fit-domain k = ⊎_elim (λ e. fit-claim bad v.domain_pool h as_management (omega (arith, f, management-row e))) (λ e. fit-claim bad v.domain_pool h 0 (omega (arith, f, channel-row e))) k

      pub owner-is : x.kind ≡ 2 → live_b v.region_pool h ≡ true → owner ≡ suc d
      owner-is e l = elim (test (names_b owner d)) [
        | holds o ↦ names-out owner d o
        | fails o ↦ absurd (omega (arith, f, region-row e, live-claim bad v.region_pool h as_region l, ap (λ b. pick b (number bad 0 R h.slot) bad) o))
      ]

      pub manager-is : x.kind ≡ 4 → live_b v.domain_pool h ≡ true → manager ≡ suc d
      manager-is e l = elim (test (names_b manager d)) [
        | holds o ↦ names-out manager d o
        | fails o ↦ absurd (omega (arith, f, management-row e, live-claim bad v.domain_pool h as_management l, ap (λ b. pick b (number bad R D h.slot) bad) o))
      ]

      pub no-root : x.kind ≡ 3 → live_b v.region_pool h ≡ true → (region_at v h.slot).kind ≢ 1
      no-root e l z = omega (arith, f, revoke-row e, live-claim bad v.region_pool h as_revoke l, ap (λ b. pick b bad 0) (eq-eqb (region_at v h.slot).kind 1 z))

  -- ---- a head

  module _ (d j : ℕ) (t : taken v.domain_pool d ≡ true) (b : S ≤ j) where
    pub head-claims : d < D → climbed (manager_of v) D (head_at v d).manager ≡ 0 → (head_at v d).manager ≡ 0 → row_claim v d j ≡ suc (R + d)
    unfolding head_claim
    head-claims k z e = row-head d j t b ∙ rw (eq-eqb (climbed (manager_of v) D (head_at v d).manager) 0 z, eq-eqb (head_at v d).manager 0 e, lt-ltb d D k) (omega arith)

    pub head-passes : climbed (manager_of v) D (head_at v d).manager ≡ 0 → (head_at v d).manager ≢ 0 → row_claim v d j ≡ 0
    unfolding head_claim
    head-passes z e = row-head d j t b ∙ rw (eq-eqb (climbed (manager_of v) D (head_at v d).manager) 0 z, ne_eqb (head_at v d).manager 0 e)

    pub head-climbs : row_claim v d j ≤ R + D → climbed (manager_of v) D (head_at v d).manager ≡ 0
    unfolding head_claim
    head-climbs f = elim (test (eqb (climbed (manager_of v) D (head_at v d).manager) 0)) [
      | holds z ↦ eqb-true (climbed (manager_of v) D (head_at v d).manager) 0 z
      | fails z ↦ absurd (omega (arith, f, row-head d j t b, ap (λ c. pick c (pick (eqb (head_at v d).manager 0) (number (wrong v.sizes) R D d) 0) (wrong v.sizes)) z))
    ]

  -- ---- who claims a number

  pub data Who (d j c : ℕ) : Type 0 where
    of_region : taken v.domain_pool d ≡ true → j < S → (slot_at v d j).kind ≡ 2 → Region (slot_at v d j).handle → (slot_at v d j).handle.slot ≡ c → (region_at v c).owner ≡ suc d → Who d j c
    of_domain : (e : ℕ) → taken v.domain_pool d ≡ true → j < S → (slot_at v d j).kind ≡ 4 → Domain (slot_at v d j).handle → (slot_at v d j).handle.slot ≡ e → (head_at v e).manager ≡ suc d → c ≡ R + e → Who d j c
    of_head : taken v.domain_pool d ≡ true → S ≤ j → (head_at v d).manager ≡ 0 → c ≡ R + d → Who d j c

  slot-who : (d j c : ℕ) → taken v.domain_pool d ≡ true → j < S → row_claim v d j ≡ suc c → c < R + D → Who d j c
  slot-who d j c t b e k = elim (kind (slot_at v d j).kind) [
    | is2 z ↦
        let h = (slot_at v d j).handle in
        let a = some-claim (wrong v.sizes) v.region_pool h _ c (sym (region-row d j t b z) ∙ e) (omega arith) in
        let p = pick_out (wrong v.sizes) (region_at v h.slot).owner d 0 R h.slot c a.1 (omega arith) in
        let q : h.slot ≡ c = omega (arith, p.1) in
        of_region t b z (lives R v.region_pool s.region_pool h a.0) q (ap (λ i. (region_at v i).owner) (sym q) ∙ p.0)
    | is3 z ↦ absurd (no-revoke z)
    | is4 z ↦
        let h = (slot_at v d j).handle in
        let a = some-claim (wrong v.sizes) v.domain_pool h _ c (sym (management-row d j t b z) ∙ e) (omega arith) in
        let p = pick_out (wrong v.sizes) (head_at v h.slot).manager d R D h.slot c a.1 (omega arith) in
        of_domain h.slot t b z (lives D v.domain_pool s.domain_pool h a.0) refl p.0 p.1
    | is5 z ↦ absurd (let a = some-claim (wrong v.sizes) v.domain_pool (slot_at v d j).handle 0 c (sym (channel-row d j t b z) ∙ e) (omega arith) in omega (arith, a.1))
    | is_not a₂ a₃ a₄ a₅ ↦ absurd (omega (arith, e, other_row d j t b a₂ a₃ a₄ a₅))
  ]
    where
      no-revoke : (slot_at v d j).kind ≡ 3 → ⊥
      no-revoke z =
          let h = (slot_at v d j).handle in
          let a = some-claim (wrong v.sizes) v.region_pool h _ c (sym (revoke-row d j t b z) ∙ e) (omega arith) in
          elim (test (eqb (region_at v h.slot).kind 1)) [
            | holds y ↦ omega (arith, a.1, ap (λ b. pick b (wrong v.sizes) 0) y)
            | fails y ↦ omega (arith, a.1, ap (λ b. pick b (wrong v.sizes) 0) y)
          ]

  pub who : (d j c : ℕ) → d < D → row_claim v d j ≡ suc c → c < R + D → Who d j c
  who d j c k e b = elim (test (taken v.domain_pool d)) [
    | fails t ↦ absurd (omega (arith, e, row-free d j t))
    | holds t ↦ elim (cmp j S) [
      | lt h ↦ slot-who d j c t h e b
      | ge h ↦
          let z = head-climbs d j t h (omega arith) in
          elim (ℕ_discrete (head_at v d).manager 0) [
            | yes m ↦ of_head t h m (omega (arith, e, head-claims d j t h k z m))
            | no m ↦ absurd (omega (arith, e, head-passes d j t h z m))
          ]
    ]
  ]
