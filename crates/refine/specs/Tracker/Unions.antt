-- Marks that are gathered one after the other: the union does not depend on where one begins.
use Rattle.std.specs.Prelude.{◌≡◌, ℕ, Bool, ◌||◌}
use Rattle.std.proofs.Common.{sym, ap, ◌∙◌}
use Rattle.std.proofs.Math.Bool.{or_assoc}
use Rattle.rights.specs.Rights.{union}
use Rattle.rights.specs.Bits.{bit, same_bits}
use Rattle.rights.specs.Laws.{bit-union}

pub union_assoc : (l m n : ℕ) → union (union l m) n ≡ union l (union m n)
union_assoc l m n = same_bits _ _ (λ k.
    bit-union k (union l m) n
    ∙ ap (λ (b : Bool). b || bit k n) (bit-union k l m)
    ∙ or_assoc (bit k l) (bit k m) (bit k n)
    ∙ sym (bit-union k l (union m n) ∙ ap (λ (b : Bool). bit k l || b) (bit-union k m n)))
