-- What is left of the walk from here is the whole walk from the start.
use Rattle.tracker.proofs.Steps.{walk_start, walk_end, walk-going, walk-over}
use Rattle.base.specs.Clauses.{value_left}
use Rattle.sizes.specs.Sizes.{sizes_of}
use Rattle.std.proofs.Common.{arith, ◌≡◌, suc, ◌+◌, ◌-◌, ◌*◌, ◌∙◌}
use Rattle.tracker.proofs.walk.Goals as goal

pub overflow_mul-most : goal.overflow_mul-most
unfolding sizes_of
overflow_mul-most c = omega (arith, c.size.ensures, c.requires.limits.records-high)

pub overflow_add-most : goal.overflow_add-most
unfolding sizes_of
overflow_add-most c = omega (arith, c.size.ensures, c.requires.limits.records-high)

pub loop-init : goal.loop-init
loop-init c = let e : 3 * c.size.result + 3 - 0 ≡ 3 * c.size.result + 3 = omega arith in (c.requires, rw e)

pub turn-requires : goal.turn-requires
turn-requires c = c.loop.invariant.0

pub returns-in-Break : goal.returns-in-Break
returns-in-Break c = rw (← (c.loop.invariant.1 ∙ walk_start _ _ _ _ _ _ _ c.size.ensures c.first.ensures)) (value_left (walk-over _ _ _ _ _ _ (3 * c.size.result + 3 - suc c.loop.counter) (omega arith) _ _ (c.turn.ensures.value, c.turn.ensures.left) _ c.in-Break.is))

pub loop-preserved : goal.loop-preserved
loop-preserved c = (c.turn.ensures.left.sized, walk-going _ _ _ _ _ _ _ (omega arith) _ _ (c.turn.ensures.value, c.turn.ensures.left) _ c.in-Continue.is ∙ c.loop.invariant.1)

pub returns : goal.returns
returns c = rw (← (c.loop.invariant.1 ∙ walk_start _ _ _ _ _ _ _ c.size.ensures c.first.ensures)) (value_left (walk_end _ _ _ _ _ _ (omega arith) c.loop.invariant.0))
