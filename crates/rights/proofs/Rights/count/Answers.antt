-- `rights::Rights::count` meets its contract. Each branch knows the test's value. Assumes nothing.
use mathlib.Core.Path.{sym, ap, ◌∙◌}
use Rattle.rights.specs.Counters.{one_if}
use Rattle.rights.proofs.Rights.count.Goals as goal

pub returns-then-contains : goal.returns-then-contains
returns-then-contains c = ap one_if (sym c.if-contains.true ∙ c.contains.ensures)

pub returns-else-contains : goal.returns-else-contains
returns-else-contains c = ap one_if (sym c.if-contains.false ∙ c.contains.ensures)
