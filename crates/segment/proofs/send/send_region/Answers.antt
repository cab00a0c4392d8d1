-- The region with its new owner, then its ranges.
use native.Mathlib.Numerals.{add-one}
use Rattle.sizes.specs.Sizes.{sizes_of}
use Rattle.segment.specs.Regions.{send_region}
use Rattle.children.specs.Walks.{regions-read}
use native.Mathlib.Omega.{arith}
use Rattle.segment.proofs.send.send_region.Goals as goal

pub overflow_add-limit : goal.overflow_add-limit
unfolding sizes_of
overflow_add-limit c = omega (arith, c.size-limit.ensures, c.requires.limits.regions-high)

pub returns : goal.returns
unfolding send_region
returns c = record { value = rw (c.slot_to.ensures, add-one, c.size-limit.ensures, regions-read, c.store.ensures.seen, c.link_to.ensures, c.load-g.ensures) at c.send_from.ensures.value; left = rw (c.slot_to.ensures, add-one, c.size-limit.ensures, regions-read, c.store.ensures.seen, c.link_to.ensures, c.load-g.ensures) at c.send_from.ensures.left }
