-- Pop: an update leaves the queue.
use Rattle.model.specs.State.{State}
use Rattle.model.specs.Updates.{pop}
use Rattle.model.specs.Sound.{Sound}
use Rattle.laws.specs.Capas.Pop.{pop-sound}
use Rattle.laws.specs.Keep.Agreement.{sound-agree}
use Rattle.laws.specs.Keep.Base.{sound-base}
use Rattle.laws.specs.Keep.Whole.{Whole}

pub pop-keeps : (s : State) → Sound s → Whole (pop s).1
pop-keeps s sound = let k = pop-sound s sound in (sound-agree _ k, sound-base _ k)
