-- What a call comes to: a value, or a refusal (document 01, "Memory and who can be refused"; by name in crate `refusals`).
use Rattle.std.specs.Prelude.{Bool, true, false}
use Rattle.std.proofs.Math.Option.{Option, none, some}
use Rattle.refusals.specs.declared.Refusal.{Refusal}

-- "A refusal gives its number and nothing else": in particular no new state.
pub data Outcome (A : Type 0) : Type 0 where
  ok : A → Outcome A
  refuse : Refusal → Outcome A

-- Rust's `?`: the first refusal that is met ends the call. A `do` block stands for these two.
infixl 20 ◌>>=◌
infixl 20 ◌>>◌
unfoldable pub ◌>>=◌ : {A B : Type 0} → Outcome A → (A → Outcome B) → Outcome B
ok a >>= f = f a
refuse r >>= f = refuse r

-- the same where the answer is not needed
unfoldable pub ◌>>◌ : {A B : Type 0} → Outcome A → Outcome B → Outcome B
ok a >> m = m
refuse r >> m = refuse r

-- Go on only where the test holds.
unfoldable pub require : Bool → Refusal → Outcome (Unit {0})
require true r = ok tt
require false r = refuse r

-- Rust's `ok_or`.
unfoldable pub ok_or : {A : Type 0} → Option A → Refusal → Outcome A
ok_or none r = refuse r
ok_or (some a) r = ok a
