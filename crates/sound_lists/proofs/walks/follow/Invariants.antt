-- What is left to walk, with the marks so far, finds what the whole walk finds.
use Rattle.std.proofs.Common.{◌≡◌, length}
use Rattle.tables.specs.View.{view}
use Rattle.sound_lists.specs.Loops.{Going}
use Rattle.sound_lists.proofs.walks.follow.Given as goal

abbrev pub invariant-loop-links : goal.invariant-loop-links
invariant-loop-links l = (length l.w ≡ length l.initial.w) × Going (view l.t) l.s l.e l.most l.fn.l l.initial.w l.links l.link l.w
