-- Room is made for a capability: a list that is full is swept. The clauses stay, and so do the domain and the regions.
use Rattle.std.proofs.Common.{sym, ap, subst, ◌∙◌}
use Rattle.std.specs.Prelude.{ℕ}
use Rattle.model.specs.Lists.{at_slot, In}
use Rattle.model.specs.State.{Domain, Region, Access, State, with_locals}
use Rattle.model.specs.Calls.{room_for_region}
use Rattle.laws.specs.Accepted.{All, accepted, bind, and_then}
use Rattle.laws.specs.Capas.Held.{owned_by, managed_by, CapasSound}
use Rattle.laws.specs.Capas.Domain.{same-held-capas}
use Rattle.laws.specs.Capas.Change.{relist-in, Room, capacity, room-held}
use Rattle.laws.specs.Capas.Listed.{room-listed}

pub room-region : (s : State) (d : ℕ) (x : Domain) (a : Access) → In s.domains d x → All (Room s d x) (room_for_region d a s)
unfolding room_for_region
room-region s d x a e = and_then _ (bind (capacity s d x e) (λ t r. and_then _ (accepted r)))

module _ (s t : State) (d : ℕ) (x : Domain) (e : In s.domains d x) (r : Room s d x t) where
  pub room-capas : CapasSound s → CapasSound t
  room-capas h = let l = room-listed s d x t e r in same-held-capas s t l.managers l.regions (room-held (owned_by s) (managed_by s) s h d x e t r)

  pub room_in : In t.domains d (with_locals r.list x)
  room_in = subst (λ (z : State). In z.domains d (with_locals r.list x)) (sym r.is) (relist-in s d x e r.list)

  pub room-regions : (p : ℕ) (g : Region) → In s.regions p g → In t.regions p g
  room-regions p g f = ap (λ (z : State). at_slot z.regions p) r.is ∙ f
