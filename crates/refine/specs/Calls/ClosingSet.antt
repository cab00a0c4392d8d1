-- The closing domains: bits of one word in the code, a list of slots in the model.
use Rattle.std.specs.Prelude.{◌≡◌, ℕ, ◌<◌, Bool, ◌||◌, List, [], ◌∷◌, eqb}
use Rattle.std.proofs.Common.{ap, ◌∙◌, arith}
use Rattle.model.specs.Lists.{exists, In}
use Rattle.model.specs.State.{State, Domain}
use Rattle.laws.specs.Tree.Slots.{in-length}
use Rattle.laws.specs.Keep.Base.{Base}
use Rattle.closing_set.specs.Closing.{closing_b, with_closing}
use Rattle.closing_set.specs.Laws.{none-closing, closing-more}
use Rattle.decoded.specs.Sizes.{good-limits}

-- the word c has the domains of the list l; there are at most 32
abbrev pub SameClosing : ℕ → List ℕ → Type 0
SameClosing c l = (e : ℕ) → e < 32 → closing_b c e ≡ exists (eqb e) l

pub none-same : SameClosing 0 []
none-same e h = none-closing e

pub more_same : (c d : ℕ) (l : List ℕ) → d < 32 → SameClosing c l → SameClosing (with_closing c d) (d ∷ l)
more_same c d l h k e m = closing-more c d e (omega arith) (omega arith) ∙ ap (λ (b : Bool). eqb e d || b) (k e m)

-- a domain's slot number is that small
pub domain-low : (s : State) → Base s → (d : ℕ) (x : Domain) → In s.domains d x → d < 32
domain-low s k d x e = omega (arith, in-length s.domains d x e, k.domains.size, (good-limits s.sizes k.ring.sizes_good).domains-high)
