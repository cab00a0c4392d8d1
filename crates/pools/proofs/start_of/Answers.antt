-- The section's start, at the sizes that the header has.
use Rattle.words.specs.Cuts.{offset}
use borrow.Author.Rules.{rules}
use mathlib.Core.Path.{◌∙◌}
use Rattle.pools.proofs.start_of.Goals as goal

pub region_pool_at-requires : goal.region_pool_at-requires
region_pool_at-requires c = rw c.read_sizes-z.ensures c.requires.limits

pub record_pool_at-requires : goal.record_pool_at-requires
record_pool_at-requires c = rw c.read_sizes-z.ensures c.requires.limits

pub returns-in-Domains : goal.returns-in-Domains
unfolding offset
returns-in-Domains c = rw c.in-Domains.is

pub returns-in-Regions : goal.returns-in-Regions
returns-in-Regions c = rw c.in-Regions.is (c.region_pool_at.ensures ∙ rw c.read_sizes-z.ensures)

pub returns-in-Records : goal.returns-in-Records
returns-in-Records c = rw c.in-Records.is (c.record_pool_at.ensures ∙ rw c.read_sizes-z.ensures)
