-- By the kind.
use mathlib.Core.Path.{refl}
use borrow.Author.Tests.{eq-eqb, ne_eqb}
use Rattle.answers.specs.Then.{stays}
use Rattle.giving_back.specs.GiveBack.{give_back}
use Rattle.giving_back.proofs.give_back.Goals as goal

pub returns-then-g-eq-CARVE : goal.returns-then-g-eq-CARVE
unfolding give_back
returns-then-g-eq-CARVE c = rw (eq-eqb _ _ c.if-g-eq-CARVE.true) record { value = rw (c.slot_to-then-g-eq-CARVE.ensures, c.access-a.ensures, c.load-p.ensures, c.slot_to.ensures) at c.activate_region.ensures.value; left = rw (c.slot_to-then-g-eq-CARVE.ensures, c.access-a.ensures, c.load-p.ensures, c.slot_to.ensures) at c.activate_region.ensures.left }

pub returns : goal.returns
unfolding give_back
returns c = rw (ne_eqb _ _ c.if-g-eq-CARVE.false) record { value = refl; left = stays _ c.requires }
