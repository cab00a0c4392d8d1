-- A new domain with no manager.
use Rattle.domain_calls.specs.Calls.{open_domain}
use borrow.Author.Rules.{rules}
use Rattle.domain_calls.proofs.open_domain.Goals as goal

pub returns : goal.returns
unfolding open_domain
returns c = record { value = c.new_domain.ensures.value; left = c.new_domain.ensures.left }
