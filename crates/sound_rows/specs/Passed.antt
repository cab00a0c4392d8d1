-- Tests of every slot, turn by turn.
use Rattle.std.specs.Prelude.{◌≡◌, Bool, true, false}
use Rattle.std.proofs.Common.{sym, ◌∙◌, add-one}
use Prim.Native.Nat.{ℕ, suc, ◌+◌, ◌-◌, ◌≤◌, ◌<◌}
use native.Mathlib.Omega.{arith}
use Rattle.base.specs.Tests.{all_from}

module _ (p : ℕ → Bool) (n i : ℕ) where
  pub all_go : i < n → p i ≡ true → all_from p i (n - i) ≡ all_from p (i + 1) (n - (i + 1))
  unfolding all_from
  all_go h e =
      let z : n - i ≡ suc (n - (i + 1)) = omega arith in
      rw (z, e, add-one)

  pub all-stop : i < n → p i ≡ false → all_from p i (n - i) ≡ false
  unfolding all_from
  all-stop h e =
      let z : n - i ≡ suc (n - (i + 1)) = omega arith in
      rw (z, e)

  pub all_end : n ≤ i → all_from p i (n - i) ≡ true
  unfolding all_from
  all_end h = let z : n - i ≡ 0 = omega arith in rw z

-- the slots before i pass
abbrev pub Passed : (ℕ → Bool) → ℕ → ℕ → Type 0
Passed p n i = (i ≤ n) × (all_from p i (n - i) ≡ all_from p 0 n)

module _ (p : ℕ → Bool) (n : ℕ) where
  pub passed_start : Passed p n 0
  passed_start = let z : n - 0 ≡ n = omega arith in (omega arith, rw z)

  module _ (i : ℕ) (h : Passed p n i) where
    pub passed-go : (b : Bool) → i < n → b ≡ p i → b ≡ true → Passed p n (i + 1)
    passed-go b l e t = (omega arith, sym (all_go p n i l (sym e ∙ t)) ∙ h.1)

    pub passed-stop : (b : Bool) → i < n → b ≡ p i → b ≡ false → false ≡ all_from p 0 n
    passed-stop b l e f = sym (all-stop p n i l (sym e ∙ f)) ∙ h.1

    pub passed-end : n ≤ i → true ≡ all_from p 0 n
    passed-end l = sym (all_end p n i l) ∙ h.1
