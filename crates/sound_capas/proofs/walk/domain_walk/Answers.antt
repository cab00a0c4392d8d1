-- A row of the walk: nothing, or the slots and the head.
use Rattle.sound_capas.specs.Rows.{row-free, row-used}
use Rattle.sound_capas.proofs.walk.domain_walk.Goals as goal

pub returns-then-word-gt0 : goal.returns-then-word-gt0
returns-then-word-gt0 c = row-free _ _ _ c.requires.p_value _ _ (c.word.ensures) (c.if-word-gt0.true)

pub returns : goal.returns
returns c = row-used _ _ _ c.requires.p_value _ _ _ _ _ _ (c.word.ensures) (c.if-word-gt0.false) (c.slots_of-s.ensures) (c.list_walk-seen.ensures) (c.head_claim.ensures) (c.take.ensures)
