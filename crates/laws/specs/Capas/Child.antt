-- What alias and carve share: the parent is found and room is made, and the child gets its capability.
use Rattle.std.specs.Prelude.{ℕ}
use Rattle.model.specs.Lists.{In}
use Rattle.model.specs.State.{Handle, Domain, Region, Kind, Access, State}
use Rattle.model.specs.Tree.{insert_child}
use Rattle.model.specs.Outcome.{Outcome, ◌>>=◌}
use Rattle.model.specs.Calls.{caller_with, region_held, room_for_region, add_child}
use Rattle.laws.specs.Accepted.{All, bind}
use Rattle.laws.specs.Caller.{caller}
use Rattle.laws.specs.Capas.Held.{CapasSound}
use Rattle.laws.specs.Capas.Checks.{live-domain, region-held}
use Rattle.laws.specs.Capas.NewRegion.{new-region, child-new, new-sound}
use Rattle.laws.specs.Capas.Room.{room-region, room-capas, room_in, room-regions}
use Rattle.laws.specs.Capas.Activate.{CapasLive}

pub add-child-capas : (s : State) (d p : ℕ) (k : Kind) (a : Access) (x : Domain) (g : Region) → CapasSound s → In s.domains d x → In s.regions p g → All (λ y. CapasLive d y.1) (add_child d p k a s)
unfolding add_child insert_child
add-child-capas s d p k a x g h e f = bind (new-region s h d x e k a) (λ y b. new-sound s h d x e y.0 (insert_child p y.0 y.1) (child-new s h d x e p y.0 y.1 g f b))

-- the parent is found and room is made: what follows starts from tables that have the clauses, the caller and the parent
pub with-parent : {B : Type 0} {Q : B → Type 0} (bit : ℕ) (h : Handle) (l : ℕ) (a : Access) (s : State) (f : ℕ → ℕ → State → Outcome B) → CapasSound s → ((d p : ℕ) (t : State) (x : Domain) (g : Region) → CapasSound t → In t.domains d x → In t.regions p g → All Q (f d p t)) → All Q (caller_with bit s h >>= λ d. region_held s d l >>= λ p. room_for_region d a s >>= λ t. f d p t)
with-parent bit h l a s f c k =
    bind (caller bit s h (live-domain s h)) (λ d m.
    bind (region-held s d l) (λ p q.
    bind (room-region s d m.domain a m.is) (λ t r.
    k d p t _ q.region (room-capas s t d m.domain m.is r c) (room_in s t d m.domain m.is r) (room-regions s t d m.domain m.is r p q.region q.is))))
