-- The slots of one domain are what is lent of its row behind its head.
use Rattle.std.specs.Prelude.{◌≡◌, refl, List, [], ℕ, ◌+◌, ◌*◌, ◌≤◌, ◌<◌}
use Rattle.std.proofs.Common.{sym, ◌∙◌, mul-le-mul_right, arith}
use Rattle.std.proofs.Math.Path.{ap}
use borrow.Author.Tests.{lt-ltb, le-ltb}
use Rattle.std.proofs.Math.ListN.{length}
use Rattle.base.specs.Cases.{cmp, lt, ge}
use Rattle.words.specs.Runs.{part, part-part, fetched, fetched-in, fetched-out, length_part}
use Rattle.words.specs.Cuts.{offset}
use Rattle.sizes.specs.declared.Sizes.{Sizes}
use Rattle.sizes.specs.Limits.{most_words}
use Rattle.sizes.specs.Tests.{total-fits}
use Rattle.sizes.specs.Sizes.{sizes_of, widths, stride, domains_section, head_width, slot_width}
use Rattle.tables.specs.Tables.{slot_at}
use Rattle.tables.specs.View.{view, Sized, slot_of}
use Rattle.tables.specs.Sections.{section-inside}
use Rattle.tables.specs.Rows.{row_at}
use Rattle.tables.specs.Domains.{domain_place, slot_place, slot-loaded}
use Rattle.sections.specs.Rows.{slot_in, row-there, row-absent}

module _ (t : List ℕ) (s : Sized t) (d : ℕ) where
  -- no words are a row that is absent, of a domain and a slot that are not both there
  absent : (p : List ℕ) (j : ℕ) → length p < j * slot_width + slot_width → length t < slot_place t d j + slot_width → slot_in p j ≡ slot_at (view t) d j
  absent p j h k = row-absent slot_of slot_width p j h ∙ ap slot_of (sym (fetched-out t (slot_place t d j) slot_width k)) ∙ slot-loaded t s d (slot_place t d j) j (fetched t (slot_place t d j) slot_width) refl refl

  module _ (a : ℕ) (h : d < (sizes_of t).domains) (e : a ≡ offset (widths (sizes_of t)) domains_section + d * stride (sizes_of t)) where
    abbrev n : ℕ
    n = (sizes_of t).slots

    inside : a + head_width + n * slot_width ≤ length t
    inside = omega (arith, section-inside t domains_section s, mul-le-mul_right (stride (sizes_of t)) h)

    place : domain_place t d ≡ a
    unfolding row_at
    place = rw (lt-ltb d (sizes_of t).domains h, e)

    abbrev lent : List ℕ
    lent = fetched t (a + head_width) (n * slot_width)

    lent_is : lent ≡ part t (a + head_width) (n * slot_width)
    lent_is = fetched-in t (a + head_width) (n * slot_width) inside

    long : length lent ≡ n * slot_width
    long = ap length lent_is ∙ length_part t (a + head_width) (n * slot_width) inside

    one : (j : ℕ) → slot_in lent j ≡ slot_at (view t) d j
    one j = elim (cmp j n) [
      | lt k ↦
          let m = mul-le-mul_right slot_width k in
          let z : a + head_width + j * slot_width ≡ slot_place t d j = rw (lt-ltb j n k, place) (omega arith) in
          row-there slot_of slot_width lent j (omega (arith, long, m))
          ∙ ap (λ (x : List ℕ). slot_of (part x (j * slot_width) slot_width)) lent_is
          ∙ ap slot_of (part-part t (a + head_width) (n * slot_width) (j * slot_width) slot_width (omega (arith, m)) ∙ sym (fetched-in t (a + head_width + j * slot_width) slot_width (omega (arith, inside, m))))
          ∙ slot-loaded t s d (a + head_width + j * slot_width) j (fetched t (a + head_width + j * slot_width) slot_width) z refl
      | ge k ↦ absent lent j (omega (arith, long, mul-le-mul_right slot_width k)) (rw (le-ltb j n k) (omega arith))
    ]

    pub slots_lent : slot_in lent ≡ slot_at (view t) d
    slots_lent = λ i j. one j i

  none-place : (sizes_of t).domains ≤ d → (j : ℕ) → length t ≤ slot_place t d j
  unfolding row_at
  none-place h j = elim (cmp j (sizes_of t).slots) [
    | lt k ↦ rw (lt-ltb j (sizes_of t).slots k, le-ltb d (sizes_of t).domains h) (omega arith)
    | ge k ↦ rw (le-ltb j (sizes_of t).slots k) (omega arith)
  ]

  pub no-slots-lent : (sizes_of t).domains ≤ d → slot_in [] ≡ slot_at (view t) d
  no-slots-lent h = λ i j. absent [] j (omega arith) (omega (arith, none-place h j)) i

-- ---- as the code works it out: the sizes z, the section's start o, the width w of a domain

module _ (t : List ℕ) (z : Sizes) (d o w : ℕ) (s : Sized t) (ez : z ≡ sizes_of t) (eo : o ≡ offset (widths z) domains_section) (ew : w ≡ stride z) (h : d < z.domains) where
  -- no place wraps
  pub domain-place-fits : o + d * w + w ≤ most_words
  domain-place-fits =
      let k = rw ez at h in
      rw (eo, ew, ez) (omega (arith, mul-le-mul_right (stride (sizes_of t)) k, section-inside t domains_section s, s.exact, total-fits (sizes_of t) s.limits))

  pub slots-are : (p : List ℕ) → p ≡ fetched t (o + d * w + head_width) (z.slots * slot_width) → slot_in p ≡ slot_at (view t) d
  slots-are p e = ap slot_in (e ∙ rw ez) ∙ slots_lent t s d (o + d * w) (rw ez at h) (rw (eo, ew, ez))
