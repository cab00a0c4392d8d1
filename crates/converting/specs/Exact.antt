-- The converter's test is exact: the old words fit, and the words that they tell pass the one test of lent tables, exactly if the old words are the last
-- delivery's words of a sound state. So no test of former tables is needed.
use Rattle.std.specs.Prelude.{◌≡◌, refl, Bool, true, false, ℕ, ◌+◌, ◌-◌, ◌*◌, ◌≤◌, ◌<◌, eqb}
use Rattle.std.proofs.Math.Path.{sym, ap, subst}
use Rattle.std.proofs.Common.{◌∙◌, arith, lit<, length-append, get_or-take, eq-eqb, ne_eqb, eqb-true}
use mathlib.Core.List.{List, [], ◌∷◌, flat_map}
use Rattle.std.proofs.Math.ListN.{length, get_or}
use Rattle.base.specs.Cases.{holds, fails, test}
use Rattle.base.specs.Tests.{both, both_true, both-i}
use Rattle.model.specs.Lists.{Each, count_up}
use Rattle.model.specs.State.{Word, State}
use Rattle.model.specs.Layout.{words, length_for}
use Rattle.model.specs.Converting.{former_length, Convertible}
use Rattle.laws.specs.Lists.{each-join}
use Rattle.laws.specs.Parts.{rows-length}
use Rattle.laws.specs.Words.Length.{words-join, words-length}
use Rattle.words.specs.Runs.{stored}
use Rattle.words.specs.Cuts.{offset}
use Rattle.sizes.specs.declared.Sizes.{Sizes}
use Rattle.sizes.specs.Limits.{Limits}
use Rattle.sizes.specs.Sizes.{sizes_of, widths, total, mark_section}
use Rattle.sizes.specs.Tests.{sized_b}
use Rattle.tables.specs.View.{Sized}
use Rattle.tables.specs.Tests.{true-sized}
use Rattle.decoded.specs.Words.{words-sized}
use Rattle.exact.specs.Law.{words-sound}
use Rattle.frame.specs.Finish.{admitted}
use Rattle.frame.specs.Law.{lent}
use Rattle.converted.specs.Former.{sizes_in, ring_at, marked_row, marked_rows, rebuilt}
use Rattle.converted.proofs.Former.{former-length, rebuilt-marked}
use Rattle.converted.proofs.Unique.{convertible-words}
use Rattle.converted_words.specs.Built.{fits_b, updates-are, front_at}
use Rattle.converted_words.specs.Fits.{Fitted, fits-true, stored-front, stored-long}

-- the new tables and v are as long, the old words fit, and the new ones pass
unfoldable pub converts_b : List ℕ → List ℕ → List ℕ → List ℕ → Bool
converts_b o t v w = both (eqb (length t) (length v)) (both (fits_b o v) (admitted (rebuilt o) w))

-- ---- the code's ways: b is whether the old words fit

module _ (o t v w : List ℕ) where
  pub lengths_differ : (length t ≡ length v → ⊥) → false ≡ converts_b o t v w
  unfolding converts_b
  lengths_differ d = rw (ne_eqb (length t) (length v) d)

  module _ (e : length t ≡ length v) (b : Bool) (f : b ≡ fits_b o v) where
    pub not-fitting : b ≡ false → false ≡ converts_b o t v w
    unfolding converts_b
    not-fitting h = rw (eq-eqb (length t) (length v) e, sym f ∙ h)

    pub test-said : b ≡ true → (u : List ℕ) → u ≡ rebuilt o → (r : Bool) → r ≡ admitted u w → r ≡ converts_b o t v w
    unfolding converts_b
    test-said h u g r k = k ∙ rw (eq-eqb (length t) (length v) e, sym f ∙ h) (ap (λ x. admitted x w) g)

-- ---- the words that the old ones tell

row-width : (n : ℕ) → length (marked_row n) ≡ 1
row-width n = elim (test (eqb n 1)) [ holds e ↦ rw e | fails e ↦ rw e ]

rebuilt-length : (o : List ℕ) → length (rebuilt o) ≡ length o + (get_or o 4 0 + 1) * 1
rebuilt-length o = length-append o (marked_rows o) ∙ ap (λ n. length o + n) (rows-length 1 _ (λ k. row-width (get_or o (ring_at (sizes_in o) + 4 * k) 0)) 0 (get_or o 4 0 + 1))

row_words : (n : ℕ) → Each Word (marked_row n)
row_words n = elim (test (eqb n 1)) [ holds e ↦ rw e (lit< tt, tt) | fails e ↦ rw e (lit< tt, tt) ]

rows_words : (f : ℕ → List ℕ) (l : List ℕ) → ((i : ℕ) → Each Word (f i)) → Each Word (flat_map f l)
unfolding flat_map
rows_words f [] h = tt
rows_words f (i ∷ l) h = each-join Word (f i) (flat_map f l) (h i) (rows_words f l h)

rebuilt-words : (o : List ℕ) → Each Word o → Each Word (rebuilt o)
rebuilt-words o h = each-join Word o (marked_rows o) h (rows_words _ (count_up 0 (get_or o 4 0 + 1)) (λ k. row_words (get_or o (ring_at (sizes_in o) + 4 * k) 0)))

sizes-at : (t u : List ℕ) → ((n : ℕ) → n < 5 → get_or t n 0 ≡ get_or u n 0) → sizes_of t ≡ sizes_of u
unfolding sizes_of
sizes-at t u h = rw (h 0 (lit< tt), h 1 (lit< tt), h 2 (lit< tt), h 3 (lit< tt), h 4 (lit< tt))

-- all sections but the last
total-is : (z : Sizes) → total z ≡ offset (widths z) mark_section + (z.updates + 1) * 1
unfolding total offset
total-is z = omega arith

-- ---- old words that pass

module _ (o t v w : List ℕ) (known : Each Word o) (h : converts_b o t v w ≡ true) where
  parts : (length t ≡ length v) × (fits_b o v ≡ true) × (admitted (rebuilt o) w ≡ true)
  unfolding converts_b
  parts =
      let (a, b) = both_true (eqb (length t) (length v)) _ h in
      let (c, d) = both_true (fits_b o v) (admitted (rebuilt o) w) b in
      (eqb-true _ _ a, c, d)

  abbrev u : List ℕ
  u = stored v 0 o

  fit : Fitted o v u
  fit = fits-true o v u refl parts.1

  first : 9 ≤ length o
  unfolding offset
  first = omega (arith, fit.long)

  -- v is as long as they are
  whole : length v ≡ length (rebuilt o)
  whole =
      let d : (sizes_of u).updates ≡ get_or o 4 0 = sym (updates-are u) ∙ ap (λ l. get_or l 4 0) fit.begins ∙ front_at o _ 4 (omega (arith, first)) in
      omega (arith, fit.whole, fit.sized.exact, fit.long, total-is (sizes_of u), rebuilt-length o)

  -- THEOREM
  pub test-convertible : (s : State) × Convertible o t v w s
  test-convertible =
      let (s, l) = lent (rebuilt o) w (rebuilt-words o known) parts.2 in
      let n : length (rebuilt o) ≡ length_for s.sizes = ap length l.tables ∙ words-length s l.sound in
      let d : get_or o 4 0 ≡ s.sizes.updates = sym (front_at o (marked_rows o) 4 (omega (arith, first))) ∙ ap (λ x. get_or x 4 0) (l.tables ∙ words-join s) in
      let k : length o ≡ former_length s.sizes = omega (arith, rebuilt-length o) in
      let (e, p) = rebuilt-marked s l.sound o k (sym l.tables) in
      (s, record { sound = l.sound; marked = p; old = e; tables = parts.0 ∙ whole ∙ n; work = whole ∙ n; second_work = l.work ∙ n })

-- ---- convertible old words pass

module _ (o t v w : List ℕ) (s : State) (c : Convertible o t v w s) where
  abbrev placed : List ℕ
  placed = stored v 0 o

  sized : Sized (words s)
  sized = words-sized s c.sound

  all-long : length (words s) ≡ length_for s.sizes
  all-long = words-length s c.sound

  old-long : length o ≡ former_length s.sizes
  old-long = ap length c.old ∙ former-length s c.sound

  same-sizes : sizes_of placed ≡ sizes_of (words s)
  same-sizes =
      sizes-at placed (words s) (λ n h.
      ap (λ l. get_or l n 0) (stored-front o v (omega (arith, old-long, c.work)))
      ∙ front_at o _ n (omega (arith, old-long))
      ∙ ap (λ l. get_or l n 0) c.old ∙ get_or-take (former_length s.sizes) (words s) n 0 (omega arith))

  fits : fits_b o v ≡ true
  unfolding fits_b
  fits =
      let z : Sized placed = record { limits = subst Limits (sym same-sizes) sized.limits; exact = stored-long o v ∙ c.work ∙ sym all-long ∙ sized.exact ∙ ap total (sym same-sizes) } in
      let d : (sizes_of (words s)).updates ≡ s.sizes.updates = sym (updates-are (words s)) ∙ ap (λ l. get_or l 4 0) (words-join s) in
      let k : length o ≡ offset (widths (sizes_of (words s))) mark_section = omega (arith, old-long, all-long, sized.exact, total-is (sizes_of (words s))) in
      both-i (sized_b placed) _ (true-sized placed z) (eq-eqb (length o) _ (k ∙ ap (λ (y : Sizes). offset (widths y) mark_section) (sym same-sizes)))

  passes : admitted (rebuilt o) w ≡ true
  unfolding admitted
  passes =
      let e = convertible-words o t v w s c in
      rw (eq-eqb (length w) (length (rebuilt o)) (c.second_work ∙ sym all-long ∙ ap length e)) (words-sound (rebuilt o) (s, c.sound, sym e))

  -- THEOREM
  pub convertible-test : converts_b o t v w ≡ true
  unfolding converts_b
  convertible-test = both-i _ _ (eq-eqb (length t) (length v) (c.tables ∙ sym c.work)) (both-i (fits_b o v) _ fits passes)
