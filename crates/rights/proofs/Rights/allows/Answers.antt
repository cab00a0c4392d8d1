-- `rights::Rights::allows` meets its contract: each call's result is put into the next. Assumes nothing.
use mathlib.Core.Path.{◌∙◌}
use Rattle.rights.proofs.Rights.allows.Goals as goal

pub returns : goal.returns
returns c =
    c.contains.ensures
    ∙ rw (c.union-most.ensures, c.union-2.ensures, c.union.ensures)
