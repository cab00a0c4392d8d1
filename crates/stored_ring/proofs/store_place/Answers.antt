-- The place first, then its marks, then the two of the header.
use Rattle.stored_ring.proofs.store_place.Goals as goal

pub returns : goal.returns
returns c = rw (c.store_mark.ensures.seen, c.store.ensures.seen, c.place_in-e.ensures) at c.set_places.ensures
