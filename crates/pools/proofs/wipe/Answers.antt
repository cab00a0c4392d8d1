-- Each arm wipes what its pool's slots have.
use Rattle.arena.specs.Arena.{given}
use borrow.Author.Rules.{rules}
use Rattle.pools.proofs.wipe.Goals as goal

pub returns-in-Domains : goal.returns-in-Domains
returns-in-Domains c = rw c.in-Domains.is c.wipe_domain.ensures

pub returns-in-Regions : goal.returns-in-Regions
returns-in-Regions c = rw c.in-Regions.is c.wipe_region.ensures

pub returns-in-Records : goal.returns-in-Records
returns-in-Records c = rw c.in-Records.is c.wipe_record.ensures
