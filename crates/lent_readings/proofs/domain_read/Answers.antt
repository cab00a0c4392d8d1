-- The test of the memory; then that of the handle.
use mathlib.Core.Path.{◌∙◌}
use Rattle.frame.specs.Law.{admitted-sized}
use Rattle.lent_readings.specs.Lookup.{read-admitted, read-not-admitted}
use borrow.Author.Rules.{rules}
use Rattle.lent_readings.proofs.domain_read.Goals as goal

pub live_domain-requires : goal.live_domain-requires
live_domain-requires c = admitted-sized _ c.args.w.now _ c.admits.ensures.0 c.if-admits.true

pub returns-then-admits : goal.returns-then-admits
returns-then-admits c = (read-admitted _ _ _ _ _ c.admits.ensures.0 c.if-admits.true _ c.live_domain.ensures, c.admits.ensures.1)

pub returns : goal.returns
returns c = (read-not-admitted _ _ _ _ _ c.admits.ensures.0 c.if-admits.false, c.admits.ensures.1)
