-- By whether it is alive.
use mathlib.Core.Path.{refl, sym, ◌∙◌}
use Rattle.answers.specs.Then.{stays}
use Rattle.closing.specs.Close.{revoke_live}
use Rattle.revocation.proofs.revoke.Reads as revoke-reads
use Rattle.closing.proofs.revoke_live.Goals as goal

pub returns-then-is_live : goal.returns-then-is_live
unfolding revoke_live
returns-then-is_live c = rw (sym c.is_live.ensures ∙ c.if-is_live.true) record { value = c.revoke.ensures.value; left = c.revoke.ensures.left }

pub returns : goal.returns
unfolding revoke_live
returns c = rw (sym c.is_live.ensures ∙ c.if-is_live.false) record { value = refl; left = stays _ c.requires }
