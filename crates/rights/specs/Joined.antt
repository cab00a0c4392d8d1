-- Flags that join a rights word: the flags HASH, CLEANUP and VITAL alone pass `allowed 0` (what a child may add to no rights at all). Joined with such flags
-- a word has its other flags as before, and is allowed, and allows, what it was and did.
use Rattle.std.specs.Prelude.{ℕ, ◌^◌, ◌<◌, ◌≡◌, refl, Bool, true, false, ◌||◌, ◌↔◌, T, eqb}
use Rattle.std.proofs.Common.{sym, ◌∙◌, subst}
use Rattle.std.proofs.Math.Nat.{zero-div}
use Rattle.std.proofs.lemmas.Nat.{or_lt}
use Rattle.rights.specs.Rights.{READ, WRITE, EXEC, SUPER, UNCACHEABLE, has, union, allowed}
use Rattle.rights.specs.Bits.{bit}
use Rattle.rights.specs.Laws.{bit-union, allowed-bits}

-- ---- tests

or-false : (x y : Bool) → (T y → T x) → (x || y) ≡ x
or-false true y h = refl
or-false false true h = absurd (h tt)
or-false false false h = refl

or_right : (x y : Bool) → T y → T (x || y)
or_right true y t = tt
or_right false y t = t

or-either : (x y z : Bool) → (T x → T z) → (T y → T z) → T (x || y) → T z
or-either true y z h k t = h tt
or-either false y z h k t = k t

or-more : (x y z : Bool) → T (x || z) → T ((x || y) || z)
or-more true y z t = tt
or-more false y z t = or_right y z t

or-group : (x a b c : Bool) → (x || a || b || c) ≡ (x || (a || b || c))
or-group true a b c = refl
or-group false a b c = refl

-- ---- flags that pass `allowed 0`

-- bits 4, 5 and 6: HASH, CLEANUP and VITAL
abbrev pub extra : ℕ → Bool
extra k = eqb k 4 || eqb k 5 || eqb k 6

pub extra-bits : (f : ℕ) → T (allowed 0 f) → (k : ℕ) → T (bit k f) → T (extra k)
extra-bits f t k u = rw (zero-div (2 ^ k)) at ((allowed-bits 0 f).0 t k u)

-- the other flags stay
pub joined-bit : (r f : ℕ) → T (allowed 0 f) → (k : ℕ) → extra k ≡ false → bit k (union r f) ≡ bit k r
joined-bit r f t k e = bit-union k r f ∙ or-false (bit k r) (bit k f) (λ u. absurd (subst T e (extra-bits f t k u)))

module _ (r f : ℕ) (t : T (allowed 0 f)) where
  pub joined-read : has (union r f) READ ≡ has r READ
  joined-read = joined-bit r f t 0 refl

  pub joined-write : has (union r f) WRITE ≡ has r WRITE
  joined-write = joined-bit r f t 1 refl

  pub joined-exec : has (union r f) EXEC ≡ has r EXEC
  joined-exec = joined-bit r f t 2 refl

  pub joined-super : has (union r f) SUPER ≡ has r SUPER
  joined-super = joined-bit r f t 3 refl

  pub joined-uncacheable : has (union r f) UNCACHEABLE ≡ has r UNCACHEABLE
  joined-uncacheable = joined-bit r f t 7 refl

-- ---- a byte

pub union-byte : (a b : ℕ) → a < 256 → b < 256 → union a b < 256
union-byte a b = or_lt 8 a b

-- ---- a child's rights and its parent's

allowed-extra : (p c : ℕ) → T (allowed p c) ↔ ((k : ℕ) → T (bit k c) → T (bit k p || extra k))
allowed-extra p c = (
  λ t k u. subst T (or-group (bit k p) (eqb k 4) (eqb k 5) (eqb k 6)) ((allowed-bits p c).0 t k u),
  λ h. (allowed-bits p c).1 (λ k u. subst T (sym (or-group (bit k p) (eqb k 4) (eqb k 5) (eqb k 6))) (h k u)),
)

pub joined-child : (p c f : ℕ) → T (allowed 0 f) → T (allowed p c) → T (allowed p (union c f))
joined-child p c f t u = (allowed-extra p (union c f)).1 (λ k v.
    or-either (bit k c) (bit k f) (bit k p || extra k) ((allowed-extra p c).0 u k) (λ w. or_right (bit k p) (extra k) (extra-bits f t k w)) (subst T (bit-union k c f) v))

pub joined-parent : (p c f : ℕ) → T (allowed p c) → T (allowed (union p f) c)
joined-parent p c f u = (allowed-extra (union p f) c).1 (λ k v. subst (λ x. T (x || extra k)) (sym (bit-union k p f)) (or-more (bit k p) (bit k f) (extra k) ((allowed-extra p c).0 u k v)))
