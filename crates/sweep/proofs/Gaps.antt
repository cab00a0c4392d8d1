-- Between records, and after the last one, nothing is covered: what started has ended, and nothing starts. The reach tells it for every right.
use Rattle.std.specs.Prelude.{◌≡◌, ℕ, suc, ◌≤◌, ◌<◌, ◌&&◌, List, [], ◌∷◌, T}
use Rattle.std.proofs.Common.{arith, eqb→eq, leb→le, le→leb, eq-eqb}
use Rattle.std.specs.Float.Ieee.Fits.{and_l, and_r, and_i}
use Rattle.base.specs.Cases.{lt, ge, cmp}
use Rattle.base.specs.Tests.{true-is}
use Rattle.model.specs.Lists.{is_empty, Each}
use Rattle.model.specs.Fields.{Field}
use Rattle.sweep.specs.Events.{Event}
use Rattle.sweep.specs.Sweep.{Cursor, Sorted, upto, next, same, gap}
use Rattle.sweep.proofs.Cursor.{reads-sums, moved, moved-sums, next-sorted}
use Rattle.sweep.proofs.Inside.{Ready}

-- nothing is covered from lo up to x
abbrev pub Quiet : (Field → ℕ → ℕ) → ℕ → ℕ → Type 0
Quiet cov lo x = (f : Field) (a : ℕ) → lo ≤ a → a < x → cov f a ≡ 0

-- nothing is covered from lo on
abbrev pub Silent : (Field → ℕ → ℕ) → ℕ → Type 0
Silent cov lo = (f : Field) (a : ℕ) → lo ≤ a → cov f a ≡ 0

-- ---- no start ahead

empty-sorted : (y : ℕ) (l : List Event) → T (is_empty l) → Sorted y l
empty-sorted y [] t = tt
empty-sorted y (e ∷ l) t = absurd t

module _ (cov : Field → ℕ → ℕ) where
  abbrev Started : List Event → Type 0
  Started l = Each (λ e. 0 < cov Field.Reach e.at) l

  quiet_next : (lo x : ℕ) (l : List Event) → Sorted lo l → Started l → Quiet cov lo x → x ≤ next l x
  quiet_next lo x [] o s z = omega arith
  quiet_next lo x (e ∷ l) o s z = elim (cmp e.at x) [ lt h ↦ absurd (omega (arith, z Field.Reach e.at o.0 h)) | ge h ↦ omega arith ]

  silent-empty : (lo : ℕ) (l : List Event) → Sorted lo l → Started l → Silent cov lo → T (is_empty l)
  silent-empty lo [] o s z = tt
  silent-empty lo (e ∷ l) o s z = absurd (omega (arith, z Field.Reach e.at o.0))

  module _ (small : (f : Field) (a : ℕ) → cov f a ≤ cov Field.Reach a) (lo : ℕ) (p m : Cursor) (r : Ready cov lo lo p m) where
    quiet_of : (x : ℕ) → Sorted x p.ahead → T (same p (upto lo m)) → Quiet cov lo x
    quiet_of x o t f a i j =
        let e = eqb→eq p.sums.reach (upto lo m).sums.reach t in
        omega (arith, reads-sums Field.Reach x a p o j, (moved lo lo m r.ends).keeps Field.Reach a i, r.covers Field.Reach a i, small f a)

    same_of : (x : ℕ) → Sorted x p.ahead → lo < x → cov Field.Reach lo ≡ 0 → T (same p (upto lo m))
    same_of x o h z = true-is (eq-eqb p.sums.reach (upto lo m).sums.reach (omega (arith, reads-sums Field.Reach x lo p o h, moved-sums lo lo m r.ends Field.Reach, r.covers Field.Reach lo (omega arith))))

    -- ---- a gap up to x

    pub gap→ : (x : ℕ) → T (gap x p (upto lo m)) → Quiet cov lo x
    gap→ x t = quiet_of x (next-sorted lo x p.ahead r.starts (leb→le x (next p.ahead x) (and_r (same p (upto lo m)) _ t))) (and_l (same p (upto lo m)) _ t)

    pub →gap : (x : ℕ) → lo < x → Quiet cov lo x → T (gap x p (upto lo m))
    →gap x h z =
        let k = quiet_next lo x p.ahead r.starts r.started z in
        and_i (same p (upto lo m)) _ (same_of x (next-sorted lo x p.ahead r.starts k) h (z Field.Reach lo (omega arith) h)) (le→leb x (next p.ahead x) k)

    -- ---- after the last record

    pub end→ : T (is_empty p.ahead && same p (upto lo m)) → Silent cov lo
    end→ t f a i = quiet_of (suc a) (empty-sorted (suc a) p.ahead (and_l (is_empty p.ahead) _ t)) (and_r (is_empty p.ahead) _ t) f a i (omega arith)

    pub →end : Silent cov lo → T (is_empty p.ahead && same p (upto lo m))
    →end z =
        let k = silent-empty lo p.ahead r.starts r.started z in
        and_i (is_empty p.ahead) _ k (same_of (suc lo) (empty-sorted (suc lo) p.ahead k) (omega arith) (z Field.Reach lo (omega arith)))
