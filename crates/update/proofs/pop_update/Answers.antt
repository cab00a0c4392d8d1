-- The ring loaded, lent, and stored where a pop can change it.
use Rattle.update.specs.Changes.{pop-at, ring-stored}
use Rattle.update.proofs.pop_update.Goals as goal

pub returns-clause-left : goal.returns-clause-left
returns-clause-left c =
    let popped = c.pop-item.ensures.left in
    rw (← c.load_ring-ring.ensures, ← popped) (ring-stored _ _ _ _ _ c.requires c.load_ring-ring.ensures (rw popped (pop-at _)) c.store_place.ensures)
