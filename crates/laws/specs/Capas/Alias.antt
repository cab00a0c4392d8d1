-- Alias: the child gets its capability, and the tracker's step leaves the lists alone.
use Rattle.std.specs.Prelude.{ℕ, []}
use Rattle.model.specs.State.{Handle, Alias, Access, State}
use Rattle.model.specs.Calls.{alias_region}
use Rattle.laws.specs.Accepted.{All, accepted, bind, and_then}
use Rattle.laws.specs.Capas.Held.{CapasSound}
use Rattle.laws.specs.Capas.Activate.{activate-capas}
use Rattle.laws.specs.Capas.Child.{add-child-capas, with-parent}

pub alias-capas : (h : Handle) (l : ℕ) (a : Access) (s : State) → CapasSound s → All (λ y. CapasSound y.1) (alias_region h l a s)
unfolding alias_region
alias-capas h l a s c = with-parent _ h l a s _ c (λ d p t x g k e f. and_then _ (bind (add-child-capas t d p (Alias p) a x g k e f) (λ y n. bind (activate-capas [] d a y.1 n) (λ u o. accepted o.0))))
