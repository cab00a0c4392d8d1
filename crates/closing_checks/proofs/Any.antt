-- The test of some number by a walk over a range.
use Rattle.std.proofs.Common.{◌≡◌, refl, ℕ, zero, suc, Bool, ◌||◌, ap, add-one}
use Rattle.std.specs.List.{list_any, range_with_len}
use Rattle.closing_checks.specs.Closes.{some_from}

pub any_some : (p : ℕ → Bool) (i n : ℕ) → list_any p (range_with_len i n) ≡ some_from p i n
unfolding some_from
any_some p i zero = refl
any_some p i (suc n) = rw add-one (ap (λ b. p i || b) (any_some p (suc i) n))
