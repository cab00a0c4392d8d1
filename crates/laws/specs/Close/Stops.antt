-- A close is refused with 13, 14 or 16 alone, whatever the tables are.
use Rattle.std.specs.Prelude.{refl, ℕ, List}
use Rattle.std.proofs.Common.{inl, inr}
use Rattle.model.specs.State.{State}
use Rattle.model.specs.Pool.{free}
use Rattle.model.specs.Closing.{free_domain, close_domain}
use Rattle.laws.specs.Answers.{gives, gives_then, gives-checked}
use Rattle.laws.specs.Keep.Refusals.{Stops, MayStop, revoke-stops}
use Rattle.laws.specs.Close.AnyTables.{close-gives}

free-domain-stops : (d : ℕ) (s : State) → MayStop (free_domain d s)
unfolding free_domain free
free-domain-stops d s = gives_then (gives-checked {P = λ a. Unit {0}} _ _ (inr (inl refl)) (λ t. gives tt)) (λ p u. gives tt)

pub close-stops : (n : ℕ) (closing : List ℕ) (d : ℕ) (s : State) → MayStop (close_domain n closing d s)
close-stops n closing d s = close-gives (λ c. Unit {0}) (λ e c q. tt) (λ t. Unit {0}) Stops (λ c q m i t p. revoke-stops c m i t) (λ e t p. free-domain-stops e t) n closing d s tt tt
