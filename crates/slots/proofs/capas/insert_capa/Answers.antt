-- The slot is given and filled, or the list is full.
use Rattle.slots.specs.Steps.{capa-inserted, capa-full}
use mathlib.Core.Path.{◌∙◌}
use Rattle.slots.proofs.capas.insert_capa.Goals as goal

pub returns-in-Some : goal.returns-in-Some
returns-in-Some c = let h = capa-inserted _ _ _ _ (c.give-g.ensures ∙ rw c.load_list.ensures) _ _ _ c.in-Some.is c.put.ensures c.store_list.ensures in record { value = h.0; left = h.1 }

pub returns-in_default : goal.returns-in_default
returns-in_default c = let h = capa-full _ _ _ _ (c.give-g.ensures ∙ rw c.load_list.ensures) c.in_default.is c.requires in record { value = h.0; left = h.1 }
