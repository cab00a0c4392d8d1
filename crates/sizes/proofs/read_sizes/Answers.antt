-- Each field is the word that was read.
use Rattle.sizes.specs.Sizes.{sizes_of}
use Rattle.sizes.proofs.read_sizes.Goals as goal

pub returns : goal.returns
unfolding sizes_of
returns c = cc
