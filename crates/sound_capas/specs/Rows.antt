-- One domain: its slots and its head are a row of the walk.
use Rattle.std.specs.Prelude.{◌≡◌, ℕ, ◌+◌, ◌*◌, ◌/◌, ◌%◌, ◌≤◌, ◌<◌, true, List, eqb, length, get_or, replicate}
use Rattle.std.proofs.Math.Path.{sym, ap}
use Rattle.std.proofs.Common.{◌∙◌}
use Rattle.std.proofs.Math.Bool.{false}
use native.Mathlib.Omega.{arith}
use borrow.Author.Tests.{lt-ltb, le-ltb}
use Rattle.base.specs.Tests.{both}
use Rattle.tables.specs.declared.Slot.{Slot}
use Rattle.tables.specs.Tables.{Tables, slot_at}
use Rattle.arena.specs.Arena.{is_free_b}
use Rattle.sizes.specs.declared.Sizes.{Sizes}
use Rattle.claims.specs.declared.Tally.{Tally}
use Rattle.claims.specs.Claims.{claims_hold}
use Rattle.claims.specs.Walk.{Marking, marking, taken, walked, rows_walked, ended, walk_more, walk_same, walk_none, rows-walk, walk-holds}
use Rattle.managers.specs.Managers.{manager_of}
use Rattle.capa_claims.specs.CapaClaims.{Named, head_claim}
use Rattle.capa_claims.specs.Lent.{lent_of, list_claim, slot_lent}
use Rattle.sound_capas.specs.Capas.{row_claim, capa_claim}

module _ (v : Tables) (d : ℕ) where
  abbrev S : ℕ
  S = v.sizes.slots

  free-row : is_free_b v.domain_pool d ≡ true → (j : ℕ) → row_claim v d j ≡ 0
  unfolding row_claim
  free-row e j = rw e

  slot_row_lem : is_free_b v.domain_pool d ≡ false → (j : ℕ) → j < S → row_claim v d j ≡ list_claim (lent_of v) d (slot_at v d) j
  unfolding row_claim
  slot_row_lem e j h = rw (e, lt-ltb j S h) (sym (slot_lent v d (slot_at v d j)))

  head-row : is_free_b v.domain_pool d ≡ false → row_claim v d S ≡ head_claim v.sizes (manager_of v) d
  unfolding row_claim
  head-row e = rw (e, le-ltb S S (omega arith))

  -- as the code walks it, with what is lent
  module _ (n : Named) (en : n ≡ lent_of v) (k : Marking) where
    link : get_or n.domain_pool.links d 0 ≡ get_or v.domain_pool.links d 0
    link = ap (λ (x : Named). get_or x.domain_pool.links d 0) en

    pub row-free : (x : ℕ) → x ≡ get_or n.domain_pool.links d 0 → 0 < x → k ≡ walked (row_claim v d) (n.sizes.slots + 1) 0 k
    unfolding is_free_b
    row-free x ex h = sym (walk_none (row_claim v d) (n.sizes.slots + 1) 0 k (free-row (lt-ltb 0 (get_or v.domain_pool.links d 0) (omega (arith, h, ex ∙ link)))))

    pub row-used : (x : ℕ) (s : ℕ → Slot) (c : ℕ) (k₁ k₂ : Marking) → x ≡ get_or n.domain_pool.links d 0 → x ≤ 0 → s ≡ slot_at v d → k₁ ≡ walked (list_claim n d s) n.sizes.slots 0 k → c ≡ head_claim n.sizes n.manager d → k₂ ≡ taken k₁ c
        → k₂ ≡ walked (row_claim v d) (n.sizes.slots + 1) 0 k
    unfolding is_free_b walked
    row-used x s c k₁ k₂ ex h es e₁ ec e₂ =
        let f : is_free_b v.domain_pool d ≡ false = le-ltb 0 (get_or v.domain_pool.links d 0) (omega (arith, h, ex ∙ link)) in
        let m : n.sizes.slots ≡ S = ap (λ (x : Named). x.sizes.slots) en in
        let o : S ≡ 0 + S = omega arith in
        let one : (j : ℕ) → j < S → row_claim v d (0 + j) ≡ list_claim (lent_of v) d (slot_at v d) (0 + j) = λ j b. slot_row_lem f (0 + j) (omega arith) in
        let slots : k₁ ≡ walked (row_claim v d) S 0 k =
        e₁
        ∙ (λ i. walked (list_claim (en i) d (es i)) (m i) 0 k)
        ∙ sym (walk_same (row_claim v d) (list_claim (lent_of v) d (slot_at v d)) S 0 0 k one) in
        let head : c ≡ row_claim v d S = ec ∙ ap (λ (x : Named). head_claim x.sizes x.manager d) en ∙ sym (head-row f) in
        e₂ ∙ (λ i. taken (slots i) (head i)) ∙ ap (λ j. taken (walked (row_claim v d) S 0 k) (row_claim v d j)) o ∙ sym (walk_more (row_claim v d) S 1 0 k) ∙ ap (λ j. walked (row_claim v d) (j + 1) 0 k) (sym m)

-- ---- all domains

pub rows-hold : (v : Tables) (z : Sizes) (m m₁ : List ℕ) (y : Tally) (want : ℕ) → z ≡ v.sizes → m ≡ replicate (length m) 0 → marking m₁ y ≡ rows_walked (row_claim v) (z.slots + 1) z.domains 0 (marking m (record { fits = true; left = want }))
    → both y.fits (eqb y.left 0) ≡ claims_hold (capa_claim v) (length m) (z.domains * (z.slots + 1)) want
unfolding capa_claim
rows-hold v z m m₁ y want ez em e =
    let k = marking m (record { fits = true; left = want }) in
    let s : z.slots ≡ v.sizes.slots = ap (λ (x : Sizes). x.slots) ez in
    let o : 0 * (z.slots + 1) ≡ 0 = omega arith in
    ap ended (e ∙ rows-walk (row_claim v) z.slots z.domains 0 k ∙ (λ i. walked (λ j. row_claim v (j / (s i + 1)) (j % (s i + 1))) (z.domains * (z.slots + 1)) (o i) k))
    ∙ walk-holds (capa_claim v) m (z.domains * (z.slots + 1)) want em
