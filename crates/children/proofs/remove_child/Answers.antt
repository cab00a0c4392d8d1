-- What is read and stored, last to first.
use Rattle.children.specs.Children.{remove_child}
use Rattle.children.proofs.remove_child.Goals as goal

pub returns : goal.returns
unfolding remove_child
returns c = rw (c.store.ensures.seen, c.find-c.ensures, c.link_to.ensures, c.load-r.ensures) at c.link_child.ensures
