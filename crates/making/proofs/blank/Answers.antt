-- The words are cleared, and the header has the sizes.
use Rattle.making.specs.Made.{blank-is}
use Rattle.words.specs.Zeros.{zeros}
use mathlib.Core.Path.{◌∙◌, ap}
use Rattle.making.proofs.blank.Goals as goal

pub returns : goal.returns
returns c = blank-is c.args.z c.requires.limits _ _ (c.clear.ensures ∙ ap zeros c.requires.t_len) c.store.ensures
