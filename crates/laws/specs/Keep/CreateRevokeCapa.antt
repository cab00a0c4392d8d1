-- CreateRevokeCapa: a capability list is put back, with the tracker as it was.
use Rattle.std.specs.Prelude.{ℕ}
use Rattle.model.specs.State.{State, Handle}
use Rattle.model.specs.Calls.{create_revoke_capa}
use Rattle.laws.specs.Accepted.{All, bind, bind-any, and_then}
use Rattle.laws.specs.Tree.Slots.{is_live_lem}
use Rattle.laws.specs.Keep.Checks.{domain-live}
use Rattle.laws.specs.Keep.Whole.{Whole, After, capacity-whole, insert-whole}

module _ (s : State) (whole : Whole s) (h : Handle) where
  pub create-revoke-capa-keeps : (l : ℕ) → All After (create_revoke_capa h l s)
  unfolding create_revoke_capa
  create-revoke-capa-keeps l =
      bind (domain-live s h) (λ d (x, e).
      bind-any _ (λ i.
      and_then _ (
      bind (capacity-whole s whole d (is_live_lem _ x e)) (λ s₁ (g, live).
      insert-whole s₁ g d live _))))
