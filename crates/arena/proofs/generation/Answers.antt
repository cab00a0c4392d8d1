-- The generation of slot i is word 2 + n + i.
use Rattle.arena.specs.Words.{gen-at, no-gen}
use Rattle.arena.proofs.generation.Goals as goal

pub returns-then-i-n : goal.returns-then-i-n
returns-then-i-n c = gen-at _ _ c.requires _ c.if-i-n.true

pub returns-else-i-n : goal.returns-else-i-n
returns-else-i-n c = no-gen _ _ c.requires _ c.if-i-n.false
