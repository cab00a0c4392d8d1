-- Words 5 and 6 of the header.
use Rattle.tables.specs.Header.{places-stored}
use Rattle.rows.proofs.ring.set_places.Goals as goal

pub returns : goal.returns
returns c = places-stored _ _ _ _ c.requires c.store.ensures
