-- The ring loaded, lent, and stored where queueing can change it.
use Rattle.update.specs.Changes.{queue-at, ring-stored}
use Rattle.update.proofs.queue_domain.Goals as goal

pub returns-clause-left : goal.returns-clause-left
returns-clause-left c =
    let queued = c.queue-ok.ensures.left in
    rw (← c.load_ring-ring.ensures, ← queued) (ring-stored _ _ _ _ _ c.requires c.load_ring-ring.ensures (rw (queued, c.place_of-at.ensures) (queue-at _ _ _ _ _)) c.store_place.ensures)
