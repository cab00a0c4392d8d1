-- Marks in the work area stand for the slots that were met.
use Rattle.std.specs.Prelude.{◌≡◌, refl, ℕ, ◌/◌, ◌<◌, Bool, true, not, List, [], ◌∷◌, length, replicate}
use Rattle.std.proofs.Common.{sym, ap, ◌∙◌, eq-eqb, ne_eqb}
use Rattle.std.proofs.Math.Decide.{ℕ_discrete}
use Rattle.base.specs.Tests.{both}
use Rattle.marks.specs.Marks.{marked, with_mark}
use Rattle.marks.specs.Laws.{mark-same, mark-other, none-marked}
use Rattle.list_links.specs.Walk.{seen, fresh}
use Rattle.sound_lists.specs.Counting.{Once}

-- what the work area is before and after: as long as the tables, and all zero
pub record Clean (t w : List ℕ) : Type 0 where
  pub long : length w ≡ length t
  pub zero : w ≡ replicate (length w) 0

-- the marks are those of the slots vs, which may be met, none of them twice
pub record Marks (ok : ℕ → Bool) (w vs : List ℕ) : Type 0 where
  pub bits : (j : ℕ) → marked w j ≡ seen j vs
  pub once : Once ok vs

pub marks-none : (ok : ℕ → Bool) (t w : List ℕ) → Clean t w → Marks ok w []
marks-none ok t w c = record { bits = none-marked w c.zero; once = tt }

module _ (ok : ℕ → Bool) (w vs : List ℕ) (i : ℕ) (m : Marks ok w vs) where
  -- the code's test is that of the walk
  pub fresh-is : fresh ok i vs ≡ both (ok i) (not (marked w i))
  fresh-is = ap (λ b. both (ok i) (not b)) (sym (m.bits i))

  more-bits : i / 64 < length w → (j : ℕ) → marked (with_mark w i) j ≡ seen j (i ∷ vs)
  more-bits h j = elim (ℕ_discrete j i) [
    | yes e ↦ rw (e, eq-eqb i i refl) (mark-same w i h)
    | no ne ↦ rw (ne_eqb j i ne) (mark-other w i j h ne ∙ m.bits j)
  ]

  pub marks-more : i / 64 < length w → fresh ok i vs ≡ true → Marks ok (with_mark w i) (i ∷ vs)
  marks-more h f = record { bits = more-bits h; once = (f, m.once) }
