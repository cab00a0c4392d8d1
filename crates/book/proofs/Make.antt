-- **Make**: an empty book and empty tables match.
use Rattle.std.specs.Prelude.{◌≡◌, refl, ℕ, zero, suc, true, replicate}
use Rattle.std.proofs.Math.Option.{none}
use Rattle.std.proofs.Common.{arith}
use Rattle.base.specs.Tests.{true-is}
use Rattle.model.specs.Lists.{is_some, at_slot}
use Rattle.model.specs.State.{Sizes, Domain, Region}
use Rattle.model.specs.Making.{make_tables, make_in}
use Rattle.laws.specs.Accepted.{All, accepted, bind, and_then}
use Rattle.book.specs.Book.{blank}
use Rattle.book.specs.Matches.{both-fresh, not_opened, Matches}

no_slot : (A : Type 0) (n i : ℕ) → is_some (at_slot {A = A} (replicate n none) i) ≡ true → ⊥
no_slot A zero i h = true-is h
no_slot A (suc n) zero h = true-is h
no_slot A (suc n) (suc i) h = no_slot A n i h

pub make-match : (z : Sizes) → All (λ s. Matches (blank z) s) (make_tables z)
unfolding make_tables
make-match z =
    and_then _ (accepted (record {
      at = λ k. record { slot = 0; generation = 0 };
      place = λ i. 0;
      fits = record {
        sizes = refl;
        regions = record { alive_is_live = λ k h. absurd (omega arith); dead_is_older = λ k h e. absurd (omega arith); stored = λ k h e. absurd (omega arith); back = λ i h. absurd (no_slot Region z.regions i h); one = λ k h e. absurd (omega arith); parent_earlier = λ k q h e. absurd (omega arith); parent_lives = λ k q h d e. absurd (omega arith); roots_live = λ k h e. absurd (omega arith) };
        lists = both-fresh z.domains none none not_opened;
        generations = λ d h. absurd (no_slot Domain z.domains d h);
      };
    }))

pub make-in-match : (n m : ℕ) (z : Sizes) → All (λ t. Matches (blank z) t) (make_in n m z)
unfolding make_in
make-in-match n m z = bind (make-match z) (λ t g. and_then _ (accepted g))
