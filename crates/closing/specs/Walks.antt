-- One law for each way through the code of a close.
use Rattle.std.specs.Prelude.{◌≡◌, refl, true, false, List, get_or, ◌⊎◌, Ok, Err, IsErrAnd}
use Rattle.std.proofs.Common.{sym, ◌∙◌}
use Prim.Native.Nat.{ℕ, zero, suc, ◌+◌, ◌-◌, ◌≤◌, ◌<◌}
use native.Mathlib.Omega.{arith}
use Rattle.base.specs.Cases.{cmp, lt, ge}
use borrow.Author.Tests.{eq-eqb, ne_eqb}
use Rattle.tables.specs.declared.Slot.{Slot}
use Rattle.tables.specs.Kinds.{MANAGEMENT}
use Rattle.tables.specs.Tables.{Tables}
use Rattle.tables.specs.View.{view, Sized}
use Rattle.tables.specs.Header.{slots_read}
use Rattle.arena.specs.Arena.{live_b}
use Rattle.refusals.specs.declared.Refusal.{Refusal}
use Rattle.refusals.specs.Refusals.{memory}
use Rattle.answers.specs.Answers.{Answer, Effect, and_then}
use Rattle.answers.specs.Then.{Realizes, stays, step-done, on-err}
use Rattle.slots.specs.Capas.{capa_at}
use Rattle.closing_set.specs.Closing.{with_closing}
use Rattle.closing.specs.Close.{revoke_live, freed_domain, slot_by, close_from, close_domain, revoke_slot}

-- ---- the slots of a turn

-- what is left of the turn at slot j is the whole
module _ (f : ℕ → Tables → Effect) (d n j : ℕ) (t : List ℕ) (whole : Effect) (rest : close_from f (n - j) d j (view t) ≡ whole) where
  pub close-ends : n ≤ j → freed_domain d (view t) ≡ whole
  unfolding close_from
  close-ends h = let z : n - j ≡ 0 = omega arith in rw z at rest

  module _ (h : j < n) (u : List ℕ) (a : Answer) (ran : Realizes u a (f j (view t))) where
    turn : and_then (f j (view t)) (λ v. close_from f (n - (j + 1)) d (j + 1)) ≡ whole
    unfolding close_from
    turn = let z : n - j ≡ suc (n - (j + 1)) = omega arith in rw z at rest

    pub close-on : (v : ℕ) → a ≡ Ok v → close_from f (n - (j + 1)) d (j + 1) (view u) ≡ whole
    close-on v e = sym (step-done _ _ u a ran v e) ∙ turn

    pub close-refused : (q : Refusal) → a ≡ Err q → (b : Answer) → IsErrAnd b (λ y. y ≡ q) → Realizes u b whole
    close-refused q e b p = rw (← turn) (on-err _ _ u a ran q e b p)

module _ (n closing d : ℕ) where
  pub close-out : (u : List ℕ) → Sized u → n ≡ 0 → Realizes u (Err memory) (close_domain n closing d (view u))
  unfolding close_domain
  close-out u s z = rw z (refl, stays u s)

  pub close-begins : (u : List ℕ) (c k : ℕ) → (n ≡ 0 → ⊥) → c ≡ with_closing closing d → k ≡ get_or u 1 0 → close_from (revoke_slot (n - 1) c d) (k - 0) d 0 (view u) ≡ close_domain n closing d (view u)
  unfolding close_domain
  close-begins u c k h ec ek = go n h
    where
      go : (n : ℕ) → (n ≡ 0 → ⊥) → close_from (revoke_slot (n - 1) c d) (k - 0) d 0 (view u) ≡ close_domain n closing d (view u)
      go zero h = absurd (h refl)
      go (suc n) h = let z : suc n - 1 ≡ n = omega arith in let y : k - 0 ≡ (view u).sizes.slots = omega (arith, slots_read u) in rw (z, y, ec)

-- ---- one slot

module _ (n closing d j : ℕ) (s : Tables) (x : Slot) (ex : x ≡ capa_at s d j) where
  pub slot-region : 2 ≤ x.kind → x.kind ≤ 3 → revoke_live closing x.handle s ≡ revoke_slot n closing d j s
  unfolding slot_by
  slot-region low high =
      elim (cmp x.kind 3) [
        | lt q ↦ let e : x.kind ≡ 2 = omega arith in rw (← ex, eq-eqb x.kind 2 e)
        | ge q ↦ let e : x.kind ≡ 3 = omega arith in rw (← ex, ne_eqb x.kind 2 (λ z. omega arith), eq-eqb x.kind 3 e)
      ]

  pub slot-closes : x.kind ≡ MANAGEMENT → live_b s.domain_pool x.handle ≡ true → close_domain n closing x.handle.slot s ≡ revoke_slot n closing d j s
  unfolding slot_by
  slot-closes e l = rw (← ex, ne_eqb x.kind 2 (λ z. omega arith), ne_eqb x.kind 3 (λ z. omega arith), eq-eqb _ _ e, l)

  pub slot-dead : (u : List ℕ) → Sized u → s ≡ view u → x.kind ≡ MANAGEMENT → live_b s.domain_pool x.handle ≡ false → Realizes u (Ok 0) (revoke_slot n closing d j s)
  unfolding slot_by
  slot-dead u z e k l = rw (← ex, ne_eqb x.kind 2 (λ y. omega arith), ne_eqb x.kind 3 (λ y. omega arith), eq-eqb _ _ k, l, e) (refl, stays u z)

  pub slot-none : (u : List ℕ) → Sized u → s ≡ view u → (x.kind < 2) ⊎ (4 < x.kind) → Realizes u (Ok 0) (revoke_slot n closing d j s)
  unfolding slot_by
  slot-none u z e k = rw (← ex, ne_eqb x.kind 2 (λ y. omega arith), ne_eqb x.kind 3 (λ y. omega arith), ne_eqb x.kind 4 (λ y. omega arith), e) (refl, stays u z)
