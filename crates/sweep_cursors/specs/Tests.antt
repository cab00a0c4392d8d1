-- Two and three tests as one, as definitions join them.
use Rattle.std.specs.Prelude.{◌≡◌, refl, Bool, true, false, ◌&&◌}
use Rattle.base.specs.Tests.{both}

pub three : (a b c : Bool) → both (both a b) c ≡ a && b && c
three false b c = refl
three true false c = refl
three true true c = refl

pub two : (a b : Bool) → both a b ≡ a && b
two a b = three true a b
