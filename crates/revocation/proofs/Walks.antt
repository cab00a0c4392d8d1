-- One turn of the walk down a tree that is revoked.
use Rattle.std.specs.Prelude.{◌≡◌, refl, List, Ok, Err, IsErrAnd}
use Rattle.std.proofs.Common.{sym, ◌∙◌}
use Prim.Native.Nat.{ℕ, zero, suc, ◌-◌, ◌<◌}
use native.Mathlib.Omega.{arith}
use borrow.Author.Tests.{eq-eqb, ne_eqb}
use Rattle.tables.specs.declared.RegionCapa.{RegionCapa}
use Rattle.tables.specs.Links.{slot_to}
use Rattle.tables.specs.Tables.{Tables, region_at}
use Rattle.tables.specs.View.{view, Sized}
use Rattle.refusals.specs.declared.Refusal.{Refusal}
use Rattle.refusals.specs.Refusals.{memory}
use Rattle.answers.specs.Answers.{Answer, and_then}
use Rattle.answers.specs.Then.{Realizes, stays, step-done, on-err}
use Rattle.leaf_revocation.specs.Leaf.{revoke_leaf}
use Rattle.revocation.specs.Revoke.{revoke_region}

module _ (closing n i : ℕ) where
  pub revoke-out : (u : List ℕ) → Sized u → n ≡ 0 → Realizes u (Err memory) (revoke_region closing n i (view u))
  unfolding revoke_region
  revoke-out u s z = rw z (refl, stays u s)

  module _ (s : Tables) (h : 0 < n) (g : RegionCapa) (eg : g ≡ region_at s i) where
    pub revoke-here : g.child ≡ 0 → revoke_leaf closing i s ≡ revoke_region closing n i s
    unfolding revoke_region
    revoke-here z = here n h
      where
        here : (n : ℕ) → 0 < n → revoke_leaf closing i s ≡ revoke_region closing n i s
        here zero h = absurd (omega arith)
        here (suc n) h = rw (← eg, eq-eqb g.child 0 z)

    module _ (nk : g.child ≡ 0 → ⊥) where
      below : and_then (revoke_region closing (n - 1) (slot_to g.child) s) (λ v. revoke_region closing (n - 1) i) ≡ revoke_region closing n i s
      unfolding revoke_region
      below = go n h
        where
          go : (n : ℕ) → 0 < n → and_then (revoke_region closing (n - 1) (slot_to g.child) s) (λ v. revoke_region closing (n - 1) i) ≡ revoke_region closing n i s
          go zero h = absurd (omega arith)
          go (suc n) h = let z : suc n - 1 ≡ n = omega arith in rw (← eg, ne_eqb g.child 0 nk, z)

      module _ (u : List ℕ) (a : Answer) (ran : Realizes u a (revoke_region closing (n - 1) (slot_to g.child) s)) where
        pub revoke-on : (v : ℕ) → a ≡ Ok v → revoke_region closing (n - 1) i (view u) ≡ revoke_region closing n i s
        revoke-on v d = sym (step-done _ _ u a ran v d) ∙ below

        pub revoke-refused : (q : Refusal) → a ≡ Err q → (b : Answer) → IsErrAnd b (λ y. y ≡ q) → Realizes u b (revoke_region closing n i s)
        revoke-refused q d b p = rw (← below) (on-err _ _ u a ran q d b p)
