-- The steps of the functions on a pool: what the values that they read make of their tests and their stores.
use Rattle.std.specs.Prelude.{◌≡◌, Bool, true, false, ℕ, ◌+◌, ◌-◌, ◌^◌, ◌≤◌, ◌<◌, ltb, length, get_or, Some, None, Ok, Err}
use Rattle.std.proofs.Common.{sym, ◌∙◌}
use borrow.Author.Tests.{lt-ltb, le-ltb, ltb-true}
use Rattle.base.specs.Cases.{cmp, lt, ge}
use Rattle.base.specs.Tests.{both, both_true}
use Rattle.tables.specs.Tables.{Arena}
use Rattle.refusals.specs.Refusals.{memory, spent}
use Rattle.arena.specs.Arena.{with_top, with_link, with_gen, head_link, given, allocated, held_b, raisable_b, answer_to, frees_b, freed}

-- ---- allocating

module _ (a : Arena) where
  pub head-link-is : (n h c l : ℕ) → length a.links ≡ n → h ≡ a.head → c ≡ a.count → c < n → l ≡ get_or a.links h 0 → l ≡ head_link a
  unfolding head_link
  head-link-is n h c l en eh ec hc el = rw (en, ← ec, lt-ltb c n hc, ← eh) el

  pub no-head-link : (n c : ℕ) → length a.links ≡ n → c ≡ a.count → n ≤ c → 0 ≡ head_link a
  unfolding head_link
  no-head-link n c en ec h = rw (en, ← ec, le-ltb c n h)

  -- a link at the head leaves room in the count
  pub count_room : 0 < head_link a → a.count < length a.links
  unfolding head_link
  count_room h =
      elim (cmp a.count (length a.links)) [
        | lt q ↦ q
        | ge q ↦ absurd (native.Mathlib.Nat.not-suc-le-zero (rw (le-ltb a.count (length a.links) q) at h))
      ]

  pub allocate-some : (a₁ a₂ : Arena) (l s c g : ℕ) → l ≡ head_link a → 0 < l → s ≡ a.head → c ≡ a.count → g ≡ get_or a.gens s 0
      → a₁ ≡ with_link a s 0 → a₂ ≡ with_top a₁ (l - 1) (c + 1)
      → (Some (record { slot = s; generation = g }) ≡ given a) × (a₂ ≡ allocated a)
  unfolding given allocated
  allocate-some a₁ a₂ l s c g el hl es ec eg e₁ e₂ = (rw (← el, lt-ltb 0 l hl, eg, es), rw (← el, lt-ltb 0 l hl, e₂, e₁, es, ec))

  pub allocate-none : (l : ℕ) → l ≡ head_link a → l ≤ 0 → (None ≡ given a) × (a ≡ allocated a)
  unfolding given allocated
  allocate-none l el hl = (rw (← el, le-ltb 0 l hl), rw (← el, le-ltb 0 l hl))

  -- ---- freeing slot i

  pub held-facts : (i : ℕ) (b : Bool) → b ≡ held_b a i → b ≡ true → (a.head < length a.links) × (0 < a.count)
  unfolding held_b
  held-facts i b e t =
      let f = both_true (both (ltb i (length a.links)) (ltb a.head (length a.links))) _ (sym e ∙ t) in
      let g = both_true (ltb i (length a.links)) _ f.0 in
      let h = both_true (ltb 0 a.count) _ f.1 in
      (ltb-true a.head (length a.links) g.1, ltb-true 0 a.count h.0)

  pub free-done : (a₁ a₂ a₃ : Arena) (i g h c : ℕ) (b : Bool) → b ≡ held_b a i → b ≡ true → g ≡ get_or a.gens i 0 → g < 2 ^ 64 - 1
      → h ≡ a.head → c ≡ a.count → a₁ ≡ with_link a i (h + 1) → a₂ ≡ with_gen a₁ i (g + 1) → a₃ ≡ with_top a₂ i (c - 1)
      → (Ok tt ≡ answer_to a i) × (a₃ ≡ freed a i)
  unfolding answer_to freed frees_b raisable_b
  free-done a₁ a₂ a₃ i g h c b eb t eg hg eh ec e₁ e₂ e₃ =
      (rw (← eb, t, ← eg, lt-ltb g (2 ^ 64 - 1) hg), rw (← eb, t, ← eg, lt-ltb g (2 ^ 64 - 1) hg, e₃, e₂, e₁, eh, ec))

  pub free-spent : (i g : ℕ) (b : Bool) → b ≡ held_b a i → b ≡ true → g ≡ get_or a.gens i 0 → 2 ^ 64 - 1 ≤ g
      → (Err spent ≡ answer_to a i) × (a ≡ freed a i)
  unfolding answer_to freed frees_b raisable_b
  free-spent i g b eb t eg hg = (rw (← eb, t, ← eg, le-ltb g (2 ^ 64 - 1) hg), rw (← eb, t, ← eg, le-ltb g (2 ^ 64 - 1) hg))

  pub free-not : (i : ℕ) (b : Bool) → b ≡ held_b a i → b ≡ false → (Err memory ≡ answer_to a i) × (a ≡ freed a i)
  unfolding answer_to freed frees_b
  free-not i b eb t = (rw (← eb, t), rw (← eb, t))
