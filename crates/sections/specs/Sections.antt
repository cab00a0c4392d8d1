-- The rows of a section that is lent are those of the view, as functions of the row's number.
use Rattle.std.specs.Prelude.{◌≡◌, List, [], ℕ, zero, suc, ◌+◌, ◌-◌, ◌*◌, ◌≤◌, length, get_or}
use Rattle.std.proofs.Common.{sym, ap, ◌∙◌, mul-le-mul_right, lt-ltb, le-ltb, arith}
use Rattle.base.specs.Cases.{cmp, lt, ge}
use Rattle.words.specs.Runs.{part, part-part, length_part, fetched, fetched-in, fetched-out}
use Rattle.words.specs.Cuts.{offset}
use Rattle.sizes.specs.Sizes.{sizes_of, widths}
use Rattle.tables.specs.View.{Sized}
use Rattle.tables.specs.Sections.{section, section-inside, section-lent}
use Rattle.tables.specs.Rows.{row_at, placed}
use Rattle.sections.specs.Rows.{row_in, row-there}

-- what `run` lends of section k
pub section-run : (t : List ℕ) (k a n : ℕ) → Sized t → a ≡ offset (widths (sizes_of t)) k → n ≡ get_or (widths (sizes_of t)) k 0 → fetched t a n ≡ section t k
unfolding part
section-run t k a n s ea en =
    let e : a + n - a ≡ n = omega arith in
    fetched-in t a n (omega (arith, section-inside t k s)) ∙ rw e at (section-lent t k a (a + n) s ea (omega arith))

-- no words are fetched past the end
past : (t : List ℕ) (a w : ℕ) → length t ≤ a → fetched t a w ≡ []
unfolding part
past t a zero h = elim (cmp (length t) (a + 0)) [ lt k ↦ fetched-out t a 0 k | ge k ↦ fetched-in t a 0 k ]
past t a (suc w) h = fetched-out t a (suc w) (omega arith)

-- p is section k, of n rows of w words: its rows read by f are those that g gives of the tables
module _ {A : Type 0} (f : List ℕ → A) (t p : List ℕ) (k n w o : ℕ) (g : ℕ → A) (s : Sized t) (width : get_or (widths (sizes_of t)) k 0 ≡ n * w) (eo : o ≡ offset (widths (sizes_of t)) k) (ep : p ≡ fetched t o (n * w)) where
  lent_is : p ≡ part t o (n * w)
  lent_is = ep ∙ fetched-in t o (n * w) (omega (arith, section-inside t k s))

  long : length p ≡ n * w
  long = ap length lent_is ∙ length_part t o (n * w) (omega (arith, section-inside t k s))

  row-same : (i : ℕ) → row_in f w p i ≡ f (fetched t (placed t k n w i) w)
  unfolding row_at row_in
  row-same i = elim (cmp i n) [
    | lt h ↦
        let m = mul-le-mul_right w h in
        rw (lt-ltb i n h, ← eo)
        (row-there f w p i (omega (arith, long, m))
        ∙ ap (λ (x : List ℕ). f (part x (i * w) w)) lent_is
        ∙ ap f (part-part t o (n * w) (i * w) w (omega (arith, m)) ∙ sym (fetched-in t (o + i * w) w (omega (arith, section-inside t k s, m)))))
    | ge h ↦ rw (le-ltb i n h) (ap f (past p (i * w) w (omega (arith, long, mul-le-mul_right w h)) ∙ sym (past t (length t) w (omega arith))))
  ]

  pub rows-lent : ((i : ℕ) → f (fetched t (placed t k n w i) w) ≡ g i) → row_in f w p ≡ g
  rows-lent h = λ j i. (row-same i ∙ h i) j
