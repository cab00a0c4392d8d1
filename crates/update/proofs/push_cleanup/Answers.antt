-- The ring loaded, lent, and stored where a push can change it.
use Rattle.update.specs.Changes.{push_at, ring-stored}
use Rattle.update.proofs.push_cleanup.Goals as goal

pub returns-clause-left : goal.returns-clause-left
returns-clause-left c =
    let pushed = c.push-ok.ensures.left in
    rw (← c.load_ring-ring.ensures, ← c.cleanup.ensures, ← pushed) (ring-stored _ _ _ _ _ c.requires c.load_ring-ring.ensures (rw pushed (push_at _ _)) c.store_place.ensures)
