-- Going round in a ring of n places.
use Rattle.std.specs.Prelude.{ℕ, ◌+◌, ◌-◌, ◌%◌, ◌<◌, ◌≡◌, ◌≢◌}
use Rattle.std.proofs.Common.{sym, mod-eq_of_lt, mod-lt, arith, lt-ltb, le-ltb}
use Rattle.std.proofs.Math.Nat.{mod_self}
use Rattle.std.proofs.Math.Decide.{ℕ_discrete}
use Rattle.base.specs.Cases.{cmp, lt, ge}
use Rattle.base.specs.Rounds.{round-again, along-other}
use Rattle.ring.specs.Ring.{after_of}

-- the place after i is i + 1, going round
pub after_is : (i n : ℕ) → i < n → after_of i n ≡ (i + 1) % n
unfolding after_of
after_is i n h =
    elim (cmp (i + 1) n) [
      | lt a ↦ rw (lt-ltb (i + 1) n a) (sym (mod-eq_of_lt a))
      | ge a ↦ let e : i + 1 ≡ n = omega arith in rw (le-ltb (i + 1) n a, e) (sym (mod_self n))
    ]

module _ (n f : ℕ) (hf : f < n) where
  pub turn-none : (f + 0) % n ≡ f
  turn-none = let e : f + 0 ≡ f = omega arith in rw e (mod-eq_of_lt hf)

  -- j places on from f, fewer than a whole turn, is not f
  pub away : (j : ℕ) → 0 < j → j < n → (f + j) % n ≢ f
  away j h₀ h e = omega (arith, round-again n f j hf h e)

  -- a place that is j on from f is that place
  pub turn-there : (k j : ℕ) → k < n → (k + n - f) % n ≡ j → k ≡ (f + j) % n
  turn-there k j h e = elim (ℕ_discrete k ((f + j) % n)) [
    | yes q ↦ q
    | no ne ↦ absurd (along-other n f hf j k (omega (arith, mod-lt (k + n - f) {m = n} (omega arith))) h ne e)
  ]
