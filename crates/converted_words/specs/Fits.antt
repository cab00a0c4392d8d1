-- The old words are copied into v: whether they fit there, as the code tests it, and what it then builds.
use Rattle.std.specs.Prelude.{◌≡◌, Bool, true, false, not, List, ◌++◌, ℕ, ◌+◌, ◌≤◌, eqb, drop}
use Rattle.std.proofs.Common.{sym, subst, ◌∙◌, arith, eqb-true, eq-eqb, ne_eqb}
use Rattle.std.proofs.Math.Path.{ap}
use Rattle.std.proofs.Math.ListN.{length}
use Rattle.std.proofs.lemmas.List.Edits.{sets-eq}
use Rattle.std.proofs.Math.Seq.{length-sets}
use Rattle.std.proofs.lemmas.Bool.{not-true, not-false}
use Rattle.base.specs.Cases.{cmp, lt, ge}
use Rattle.base.specs.Tests.{both, both_true, both-i}
use Rattle.words.specs.Runs.{stored, stored-in, stored-out}
use Rattle.words.specs.Cuts.{offset, offset-inside}
use Rattle.sizes.specs.declared.Sizes.{Sizes}
use Rattle.sizes.specs.Limits.{Limits}
use Rattle.sizes.specs.Sizes.{sizes_of, widths, total, mark_section}
use Rattle.sizes.specs.Tests.{sized_b}
use Rattle.tables.specs.View.{view, Sized, Left}
use Rattle.tables.specs.Tests.{sized-true}
use Rattle.converted.specs.Former.{rebuilt}
use Rattle.converted_words.specs.Built.{marked_all, fits_b, built-words}

pub stored-long : (o v : List ℕ) → length (stored v 0 o) ≡ length v
stored-long o v = elim (cmp (length v) (0 + length o)) [
  | lt h ↦ ap length (stored-out v 0 o h)
  | ge h ↦ ap length (stored-in v 0 o h) ∙ length-sets v 0 o
]

-- the old words stand in front of what was behind them
pub stored-front : (o v : List ℕ) → length o ≤ length v → stored v 0 o ≡ o ++ drop (length o) v
stored-front o v h = let e : 0 + length o ≡ length o = omega arith in stored-in v 0 o (omega arith) ∙ sets-eq o v 0 (omega arith) ∙ ap (λ n. o ++ drop n v) e

-- what is known where they fit; u is v with the old words in it
pub record Fitted (o v u : List ℕ) : Type 0 where
  pub sized : Sized u
  pub long : length o ≡ offset (widths (sizes_of u)) mark_section
  pub begins : u ≡ o ++ drop (length o) v
  pub whole : length u ≡ length v

module _ (o v u : List ℕ) (e : u ≡ stored v 0 o) where
  fitted : sized_b u ≡ true → length o ≡ offset (widths (sizes_of u)) mark_section → Fitted o v u
  unfolding total
  fitted b l =
      let z = sized-true u b in
      let w = ap length e ∙ stored-long o v in
      record { sized = z; long = l; begins = e ∙ stored-front o v (omega (arith, z.exact, offset-inside (widths (sizes_of u)) mark_section)); whole = w }

  fits-is : fits_b o v ≡ both (sized_b u) (eqb (length o) (offset (widths (sizes_of u)) mark_section))
  unfolding fits_b
  fits-is = rw e

  -- THEOREM: they fit
  pub fits-true : fits_b o v ≡ true → Fitted o v u
  fits-true h = let (b, l) = both_true (sized_b u) _ (sym fits-is ∙ h) in fitted b (eqb-true _ _ l)

  -- ---- the code's ways

  module _ (b : Bool) (t : b ≡ sized_b u) where
    pub not-sized : not b ≡ true → false ≡ fits_b o v
    not-sized n = let f : sized_b u ≡ false = sym t ∙ not-true b n in sym (fits-is ∙ rw f)

    module _ (n : not b ≡ false) where
      pub is-sized : Sized u
      is-sized = sized-true u (sym t ∙ not-false b n)

      pub in-limits : (z : Sizes) → z ≡ sizes_of u → Limits z
      in-limits z s = subst Limits (sym s) is-sized.limits

      module _ (z : Sizes) (s : z ≡ sizes_of u) (k : ℕ) (a : k ≡ offset (widths z) mark_section) where
        at : k ≡ offset (widths (sizes_of u)) mark_section
        at = a ∙ ap (λ (y : Sizes). offset (widths y) mark_section) s

        pub other_length : (length o ≡ k → ⊥) → false ≡ fits_b o v
        other_length d = let f = ne_eqb (length o) _ (λ q. d (q ∙ sym at)) in let g : sized_b u ≡ true = sym t ∙ not-false b n in sym (fits-is ∙ rw (g, f))

        pub all-built : length o ≡ k → (r : List ℕ) → Left r (marked_all (view u)) → (true ≡ fits_b o v) × (r ≡ rebuilt o)
        all-built q r l =
            let g : sized_b u ≡ true = sym t ∙ not-false b n in
            let f = fitted g (q ∙ at) in
            (sym (fits-is ∙ both-i (sized_b u) _ g (eq-eqb (length o) _ (q ∙ at))), built-words o _ u f.sized f.begins f.long r l)
