-- The caller of alias, carve and send (request 2): a live domain whose interface has the bit. What is known of a live domain is known of it.
use Rattle.std.specs.Prelude.{ℕ}
use Rattle.model.specs.State.{State, Handle}
use Rattle.model.specs.Calls.{live_domain, caller_with}
use Rattle.laws.specs.Accepted.{All, accepted, bind, checked}

pub caller : {P : ℕ → Type 0} (bit : ℕ) (s : State) (h : Handle) → All P (live_domain s h) → All P (caller_with bit s h)
unfolding caller_with
caller bit s h k = bind k (λ d p. checked _ _ (λ t. accepted p))
