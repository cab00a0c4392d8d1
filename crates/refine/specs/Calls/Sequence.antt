-- A call as a chain of steps. What is known of every state that one call may leave is carried to the step that follows, and a test of the code that the
-- model makes too is one `require`.
use Rattle.std.specs.Prelude.{◌≡◌, ℕ, Bool, not, T}
use Rattle.std.proofs.Math.Bool.{true, false}
use Rattle.refusals.specs.declared.Refusal.{Refusal}
use Rattle.base.specs.Cases.{pick}
use Rattle.model.specs.Outcome as outcome
use Rattle.model.specs.Outcome.{Outcome, ok, ◌>>=◌, ◌>>◌, require}
use Rattle.model.specs.State.{State}
use Rattle.laws.specs.Accepted.{All, all-ok}
use Rattle.tables.specs.Tables.{Tables}
use Rattle.answers.specs.Answers as answers
use Rattle.answers.specs.Answers.{Effect, and_then}
use Rattle.decoded.specs.Tables.{tables_of}
use Rattle.refine.specs.Agrees.{Agrees, agrees_from, agrees-then}

module _ {A : Type 0} {P : A → Type 0} where
  -- the first call gives some y with P, from which its number and its state are known
  pub agrees_on : (x : Effect) (f : ℕ → Tables → Effect) (m : Outcome A) (g : A → ℕ × State) (k : A → Outcome (ℕ × State))
      → Agrees x (m >>= λ y. ok (g y)) → All P m → ((y : A) → P y → Agrees (f (g y).0 (tables_of (g y).1)) (k y)) → Agrees (and_then x f) (m >>= k)
  agrees_on x f m g k h p j = agrees_from x f m g k h (λ y e. j y (all-ok P m y p e))

-- the first call gives a number and a state
pub agrees-next : {P : ℕ × State → Type 0} (x : Effect) (f : ℕ → Tables → Effect) (m : Outcome (ℕ × State)) (k : ℕ × State → Outcome (ℕ × State))
    → Agrees x m → All P m → ((v : ℕ) (s : State) → P (v, s) → Agrees (f v (tables_of s)) (k (v, s))) → Agrees (and_then x f) (m >>= k)
agrees-next {P = P} x f m k h p j = agrees-then x f m k h (λ v s e. j v s (all-ok P m (v, s) p e))

-- ---- tests

module _ (r : Refusal) (x : Effect) (t : Tables) (m : Outcome (ℕ × State)) where
  pub agrees-check : (b c : Bool) → b ≡ c → (T c → Agrees x m) → Agrees (pick b x (answers.refused r t)) (require c r >> m)
  unfolding require ◌>>◌
  agrees-check b true e h = rw e (h tt)
  agrees-check b false e h = rw e

  -- the code tests for the refusal
  pub agrees-unless : (b c : Bool) → b ≡ c → (T (not c) → Agrees x m) → Agrees (pick b (answers.refused r t) x) (require (not c) r >> m)
  unfolding require ◌>>◌
  agrees-unless b true e h = rw e
  agrees-unless b false e h = rw e (h tt)
