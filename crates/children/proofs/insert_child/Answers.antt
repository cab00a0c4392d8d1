-- What is read and stored, last to first.
use Rattle.children.specs.Children.{insert_child}
use Rattle.children.proofs.insert_child.Goals as goal

pub returns : goal.returns
unfolding insert_child
returns c = rw (c.store.ensures.seen, c.link_to.ensures, c.find-c.ensures, c.load-r.ensures) at c.link_child.ensures
