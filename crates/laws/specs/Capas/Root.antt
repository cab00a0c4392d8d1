-- Root: room is made, the region gets its capability, and the tracker's step leaves the lists alone.
use Rattle.std.specs.Prelude.{[]}
use Rattle.model.specs.State.{Handle, Root, Access, State}
use Rattle.model.specs.Calls.{create_root_region}
use Rattle.laws.specs.Accepted.{All, accepted, bind}
use Rattle.laws.specs.Capas.Held.{CapasSound}
use Rattle.laws.specs.Capas.Checks.{live-domain}
use Rattle.laws.specs.Capas.NewRegion.{new-region, new-sound}
use Rattle.laws.specs.Capas.Room.{room-region, room-capas, room_in}
use Rattle.laws.specs.Capas.Activate.{activate-capas}

pub root-capas : (h : Handle) (a : Access) (s : State) → CapasSound s → All (λ y. CapasSound y.1) (create_root_region h a s)
unfolding create_root_region
root-capas h a s c =
    bind (live-domain s h) (λ d l.
    bind (room-region s d l.domain a l.is) (λ s₁ r.
    let c₁ = room-capas s s₁ d l.domain l.is r c in
    let e₁ = room_in s s₁ d l.domain l.is r in
    bind (new-region s₁ c₁ d _ e₁ Root a) (λ y b.
    bind (new-sound s₁ c₁ d _ e₁ y.0 y.1 b) (λ z k.
    bind (activate-capas [] d a z.1 k) (λ t n. accepted n.0)))))
