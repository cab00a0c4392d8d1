-- The digits in the array are the number's.
use Rattle.std.proofs.Common.{◌∙◌}
use Rattle.output.proofs.Digits.{digits_decimal}
use Rattle.output.specs.Puts.{puts-same}
use Rattle.output.proofs.decimal.Goals as goal

pub returns-clause-puts : goal.returns-clause-puts
returns-clause-puts c = puts-same (c.decimal-k.ensures.digits ∙ digits_decimal _ _ c.decimal-k.ensures.len) c.bytes.ensures
