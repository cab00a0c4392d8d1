-- The places below i have their marks.
use Rattle.std.proofs.Common.{refl, ◌∙◌, arith}
use Rattle.converted_words.specs.Built.{updates-few, marked-none, marked_more, marked-end}
use Rattle.converted_words.proofs.mark_all.Goals as goal

pub overflow_add-n : goal.overflow_add-n
overflow_add-n c = omega (arith, updates-few _ _ c.requires c.size-n.ensures)

pub loop-i-init : goal.loop-i-init
loop-i-init c = record { marked = marked-none _ c.requires; long = refl }

pub loop-i-preserved : goal.loop-i-preserved
loop-i-preserved c = record { marked = marked_more _ _ _ _ _ _ c.loop-i.invariant.marked c.load-u.ensures c.marks_beside.ensures c.store_mark.ensures; long = c.store_mark.auto.t ∙ c.loop-i.invariant.long }

pub returns : goal.returns
returns c = marked-end _ _ _ _ _ c.size-n.ensures refl (omega arith) (omega arith) c.loop-i.invariant.marked
