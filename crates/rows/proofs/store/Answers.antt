-- The words stored are those of the record.
use Rattle.rows.proofs.store.Goals as goal

pub returns : goal.returns
returns g c = rw (c.put.ensures, c.place-a.ensures) (g.met.R.Row.replaced _ _ _ c.requires)
