-- One turn of the walk over the carved children that a send leaves out.
use Rattle.std.specs.Prelude.{◌≡◌, refl, List, Ok, Err, IsErrAnd}
use Rattle.std.proofs.Common.{sym, ◌∙◌}
use Prim.Native.Nat.{ℕ, suc, ◌-◌}
use borrow.Author.Tests.{eq-eqb, ne_eqb}
use Rattle.tables.specs.declared.RegionCapa.{RegionCapa}
use Rattle.tables.specs.Tables.{Tables, region_at}
use Rattle.tables.specs.View.{view, Sized}
use Rattle.refusals.specs.declared.Refusal.{Refusal}
use Rattle.refusals.specs.Refusals.{memory}
use Rattle.answers.specs.Answers.{Answer, and_then}
use Rattle.tables.specs.Links.{slot_to}
use Rattle.answers.specs.Then.{Realizes, stays, step-done, on-err}
use Rattle.segment.specs.Regions.{move_piece, send_from}

module _ (old new r e n x k : ℕ) where
  pub send-out : (u : List ℕ) → Sized u → n ≡ 0 → Realizes u (Err memory) (send_from old new r e n x k (view u))
  unfolding send_from
  send-out u s z = rw z (refl, stays u s)

  -- one child of m + 1
  module _ (s : Tables) (m : ℕ) (h : n ≡ suc m) where
    pub send-last : k ≡ 0 → move_piece old new r x e s ≡ send_from old new r e n x k s
    unfolding send_from
    send-last z = rw (h, eq-eqb k 0 z, send_from)

    module _ (c : RegionCapa) (nk : k ≡ 0 → ⊥) (ec : c ≡ region_at s (slot_to k)) where
      pub send-skip : (c.kind ≡ 3 → ⊥) → send_from old new r e m x c.next s ≡ send_from old new r e n x k s
      unfolding send_from
      send-skip nc = rw (h, ne_eqb k 0 nk, ← ec, ne_eqb c.kind 3 nc, send_from)

      carve : c.kind ≡ 3 → and_then (move_piece old new r x c.start s) (λ v. send_from old new r e m c.end c.next) ≡ send_from old new r e n x k s
      unfolding send_from
      carve y = rw (h, ne_eqb k 0 nk, ← ec, eq-eqb c.kind 3 y, send_from)

      module _ (y : c.kind ≡ 3) (u : List ℕ) (a : Answer) (ran : Realizes u a (move_piece old new r x c.start s)) where
        pub send-on : (v : ℕ) → a ≡ Ok v → send_from old new r e m c.end c.next (view u) ≡ send_from old new r e n x k s
        send-on v d = sym (step-done _ _ u a ran v d) ∙ carve y

        pub send-refused : (q : Refusal) → a ≡ Err q → (b : Answer) → IsErrAnd b (λ z. z ≡ q) → Realizes u b (send_from old new r e n x k s)
        send-refused q d b p = rw (← carve y) (on-err _ _ u a ran q d b p)
