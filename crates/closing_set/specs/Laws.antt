-- A set with no bit has no domain; one domain more is added, and no other.
use Rattle.std.specs.Prelude.{◌≡◌, ℕ, ◌%◌, ◌^◌, ◌<◌, false, ◌||◌, eqb}
use Rattle.std.proofs.Common.{ap, ◌∙◌, arith}
use Rattle.std.proofs.Math.Nat.{zero-div}
use Rattle.rights.specs.Bits.{bit, bit-or, bit-power}
use Rattle.closing_set.specs.Closing.{closing_b, with_closing}

pub none-closing : (d : ℕ) → closing_b 0 d ≡ false
unfolding closing_b
none-closing d = rw (zero-div (2 ^ (d % 64)))

pub closing-more : (closing d e : ℕ) → d < 64 → e < 64 → closing_b (with_closing closing d) e ≡ (eqb e d || closing_b closing e)
unfolding closing_b with_closing
closing-more closing d e hd he =
    let ed : d % 64 ≡ d = omega arith in
    let ee : e % 64 ≡ e = omega arith in
    rw (ed, ee) (bit-or e (2 ^ d) closing ∙ ap (λ b. b || bit e closing) (bit-power e d))
