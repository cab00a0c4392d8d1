-- One turn of each loop.
use Prim.Native.Nat.{ℕ, zero, suc, ◌-◌, ◌<◌}
use Rattle.std.specs.Prelude.{◌≡◌, Bool, true, false, eqb}
use native.Mathlib.Omega.{arith}
use borrow.Author.Tests.{eq-eqb, ne_eqb}
use Rattle.tables.specs.declared.DomainHead.{DomainHead}
use Rattle.tables.specs.Links.{slot_to}
use Rattle.tables.specs.Tables.{Tables, head_at}
use Rattle.closing_checks.specs.Closes.{closes_from, some_from}

-- ---- up the managers

module _ (s : Tables) (d n e : ℕ) where
  pub closes-out : n ≡ 0 → eqb e d ≡ closes_from s d n e
  unfolding closes_from
  closes-out z = rw z

  module _ (h : 0 < n) where
    more : n ≡ suc (n - 1)
    more = omega arith

    pub closes_here : e ≡ d → true ≡ closes_from s d n e
    unfolding closes_from
    closes_here q = rw (more, eq-eqb e d q)

    module _ (x : DomainHead) (ne : e ≡ d → ⊥) (ex : x ≡ head_at s e) where
      pub closes-top : x.manager ≡ 0 → false ≡ closes_from s d n e
      unfolding closes_from
      closes-top z = rw (more, ne_eqb e d ne, ← ex, eq-eqb x.manager 0 z)

      pub closes-on : (x.manager ≡ 0 → ⊥) → closes_from s d (n - 1) (slot_to x.manager) ≡ closes_from s d n e
      unfolding closes_from
      closes-on k = go n h
        where
          go : (n : ℕ) → 0 < n → closes_from s d (n - 1) (slot_to x.manager) ≡ closes_from s d n e
          go zero h = absurd (omega arith)
          go (suc n) h = let z : suc n - 1 ≡ n = omega arith in rw (z, ne_eqb e d ne, ← ex, ne_eqb x.manager 0 k)

-- ---- row by row

pub some-start : (p : ℕ → Bool) (n m : ℕ) → n ≡ m → some_from p 0 (n - 0) ≡ some_from p 0 m
some-start p n m e = let z : n - 0 ≡ m = omega arith in rw z
