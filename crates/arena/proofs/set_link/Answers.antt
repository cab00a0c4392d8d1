-- The link of slot i is word 2 + i.
use Rattle.arena.specs.Words.{link_set, no-link-set}
use Rattle.arena.proofs.set_link.Goals as goal

pub returns-then-i-n : goal.returns-then-i-n
returns-then-i-n c = link_set _ _ c.requires _ _ c.if-i-n.true

pub returns-else-i-n : goal.returns-else-i-n
returns-else-i-n c = no-link-set _ _ c.requires _ _ c.if-i-n.false
