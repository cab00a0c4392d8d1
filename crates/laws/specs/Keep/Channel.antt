-- Channel: a capability list is put back, with the tracker as it was.
use Rattle.model.specs.State.{State, Handle}
use Rattle.model.specs.Calls.{open_channel}
use Rattle.laws.specs.Accepted.{All, bind, bind-any}
use Rattle.laws.specs.Tree.Slots.{is_live_lem}
use Rattle.laws.specs.Keep.Checks.{domain-live}
use Rattle.laws.specs.Keep.Whole.{Whole, After, capacity-whole, insert-whole}

module _ (s : State) (whole : Whole s) (h : Handle) where
  pub channel-keeps : (to : Handle) → All After (open_channel h to s)
  unfolding open_channel
  channel-keeps to =
      bind (domain-live s h) (λ d (x, e).
      bind-any _ (λ t.
      bind (capacity-whole s whole d (is_live_lem _ x e)) (λ s₁ (g, live).
      insert-whole s₁ g d live _)))
