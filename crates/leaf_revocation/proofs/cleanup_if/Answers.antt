-- To contain the flag is to have its bit.
use mathlib.Core.Path.{refl, sym, ◌∙◌}
use Rattle.leaf_revocation.specs.Flags.{cleanup-test}
use Rattle.answers.specs.Then.{stays}
use Rattle.leaf_revocation.specs.Leaf.{cleanup_if}
use borrow.Author.Rules.{rules}
use Rattle.leaf_revocation.proofs.cleanup_if.Goals as goal

pub returns-then-contains : goal.returns-then-contains
unfolding cleanup_if
returns-then-contains c = rw (sym (cleanup-test c.args.g.rights _ _ c.rights_of-ops.ensures c.contains.ensures) ∙ c.if-contains.true) record { value = c.cleanup.ensures.value; left = c.cleanup.ensures.left }

pub returns : goal.returns
unfolding cleanup_if
returns c = rw (sym (cleanup-test c.args.g.rights _ _ c.rights_of-ops.ensures c.contains.ensures) ∙ c.if-contains.false) record { value = refl; left = stays _ c.requires }
