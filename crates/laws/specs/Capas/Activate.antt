-- A domain gains, or loses, a range: the clauses about lists, owners, managers and the queue stay, and the domain is live.
use Rattle.std.specs.Prelude.{ℕ, List, T}
use Rattle.model.specs.Lists.{is_some, at_slot}
use Rattle.model.specs.State.{Access, State}
use Rattle.model.specs.Regions.{activate, deactivate}
use Rattle.laws.specs.Accepted.{All, weaken}
use Rattle.laws.specs.Tree.Slots.{live-is}
use Rattle.laws.specs.Capas.Held.{owned_by, managed_by, CapasSound}
use Rattle.laws.specs.Capas.Domain.{same-held-capas}
use Rattle.laws.specs.Capas.Walks.{Walked, same-lists-live, activate-held, deactivate-held}

-- the clauses, and domain d is live
abbrev pub CapasLive : ℕ → State → Type 0
CapasLive d s = CapasSound s × T (is_some (at_slot s.domains d))

walked-capas : (d : ℕ) (s t : State) → T (is_some (at_slot s.domains d)) → Walked (owned_by s) (managed_by s) s t → CapasLive d t
walked-capas d s t l w = (same-held-capas s t w.same_lists.back w.regions w.held, same-lists-live s t w.same_lists d l)

pub activate-capas : (closing : List ℕ) → (d : ℕ) (a : Access) (s : State) → CapasLive d s → All (CapasLive d) (activate closing d a s)
activate-capas closing d a s (h, l) = let (x, e) = live-is (at_slot s.domains d) l in weaken (activate-held closing (owned_by s) (managed_by s) s h d x e a) (λ t w. walked-capas d s t l w)

pub deactivate-capas : (closing : List ℕ) → (d : ℕ) (a : Access) (s : State) → CapasLive d s → All (CapasLive d) (deactivate closing d a s)
deactivate-capas closing d a s (h, l) = let (x, e) = live-is (at_slot s.domains d) l in weaken (deactivate-held closing (owned_by s) (managed_by s) s h d x e a) (λ t w. walked-capas d s t l w)
