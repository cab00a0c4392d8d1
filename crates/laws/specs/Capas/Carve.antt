-- Carve: the child gets its capability, and the exchange of rights leaves the lists alone.
use Rattle.std.specs.Prelude.{ℕ, [], eqb}
use Rattle.model.specs.State.{Handle, Carve, Access, State}
use Rattle.model.specs.Calls.{exchange_rights, carve_region}
use Rattle.laws.specs.Accepted.{All, accepted, bind, and_then, branch}
use Rattle.laws.specs.Capas.Held.{CapasSound}
use Rattle.laws.specs.Capas.Activate.{CapasLive, activate-capas, deactivate-capas}
use Rattle.laws.specs.Capas.Child.{add-child-capas, with-parent}

exchange-capas : (d old : ℕ) (a : Access) (s : State) → CapasLive d s → All (CapasLive d) (exchange_rights d old a s)
unfolding exchange_rights
exchange-capas d old a s h = branch (eqb old a.rights) (accepted h) (bind (deactivate-capas [] d _ s h) (λ t k. activate-capas [] d a t k))

pub carve-capas : (h : Handle) (l : ℕ) (a : Access) (s : State) → CapasSound s → All (λ y. CapasSound y.1) (carve_region h l a s)
unfolding carve_region
carve-capas h l a s c = with-parent _ h l a s _ c (λ d p t x g k e f. and_then _ (bind (add-child-capas t d p (Carve p) a x g k e f) (λ y n. bind (exchange-capas d _ a y.1 n) (λ u o. accepted o.0))))
