-- Pop: the oldest update is taken out of the ring.
use Rattle.std.specs.Prelude.{◌≡◌}
use Rattle.model.specs.State.{State}
use Rattle.model.specs.Updates.{pop}
use Rattle.model.specs.Sound.{Sound}
use Rattle.ring.specs.Ring.{pop_of}
use Rattle.stored_ring.specs.Stored.{ring_of, with_ring_of}
use Rattle.decoded.specs.Sizes.{good-limits}
use Rattle.decoded.specs.Tables.{tables_of}
use Rattle.refine.specs.Queue.RingSteps.{item_for, pop-ring-refines}

module _ (s : State) (sound : Sound s) where
  pub pop-refines : ((pop_of (ring_of (tables_of s))).item ≡ item_for (pop s).0) × (with_ring_of (tables_of s) (pop_of (ring_of (tables_of s))).ring ≡ tables_of (pop s).1)
  pop-refines = pop-ring-refines s (good-limits s.sizes sound.outside.sizes_good).updates-high sound.queue.read_place sound.queue.fits
