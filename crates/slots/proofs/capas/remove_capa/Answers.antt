-- The list is read out, changed and put back.
use Rattle.slots.specs.Capas.{without_capa}
use borrow.Author.Rules.{rules}
use Rattle.slots.proofs.capas.remove_capa.Goals as goal

pub returns : goal.returns
unfolding without_capa
returns c = rw (← c.load_list.ensures, ← c.take-list.ensures) c.store_list.ensures
