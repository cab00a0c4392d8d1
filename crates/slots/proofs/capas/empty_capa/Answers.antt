-- The list is read out, changed and put back.
use Rattle.slots.specs.Capas.{with_empty}
use borrow.Author.Rules.{rules}
use Rattle.slots.proofs.capas.empty_capa.Goals as goal

pub returns : goal.returns
unfolding with_empty
returns c = rw (← c.load_list.ensures, ← c.empty-list.ensures) c.store_list.ensures
