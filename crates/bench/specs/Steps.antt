-- What an exported step answers and leaves: the engine's step where the length is right, else nothing.
use Rattle.std.specs.Prelude.{ℕ, ◌≡◌, refl, Bool, true, false, List, eqb, length, Option, Some, None, Ok, Err}
use Rattle.std.proofs.Common.{sym, ◌∙◌}
use borrow.Author.Tests.{eq-eqb, ne_eqb}
use Rattle.base.specs.Cases.{pick}
use Rattle.base.specs.Tests.{both}
use Rattle.tables.specs.declared.Slot.{Slot}
use Rattle.sizes.specs.declared.Sizes.{Sizes}
use Rattle.sizes.specs.Limits.{limits_b}
use Rattle.tables.specs.Tables.{Tables}
use Rattle.sizes.specs.Tests.{sized_b}
use Rattle.sizes.specs.Sizes.{total}
use Rattle.tables.specs.View.{layout, Left}
use Rattle.tables.specs.Layout.{words_are}
use Rattle.tables.specs.declared.Handle.{Handle}
use Rattle.arena.specs.Arena.{Freed}
use Rattle.ring.specs.declared.Entry.{Entry}
use Rattle.making.specs.Empty.{empty}

-- the answer where there is none
abbrev pub nothing : ℕ
nothing = 18446744073709551615

-- ---- answers as words

abbrev pub flag_of : Bool → ℕ
flag_of b = pick b 1 0

abbrev pub inserted_of : Option ℕ → ℕ
inserted_of (Some i) = i
inserted_of None = nothing

abbrev pub given_of : Option Handle → ℕ
given_of (Some h) = h.slot
given_of None = nothing

abbrev pub freed_of : Freed → ℕ
freed_of (Ok u) = 1
freed_of (Err r) = 0

abbrev pub popped_of : Option Entry → ℕ
popped_of (Some e) = e.update.kind
popped_of None = 0

abbrev pub capa_of : ℕ → ℕ → ℕ → Slot
capa_of k s g = record { kind = k; handle = record { slot = s; generation = g } }

abbrev pub sizes_of : ℕ → ℕ → ℕ → ℕ → ℕ → Sizes
sizes_of d s r t u = record { domains = d; slots = s; regions = r; records = t; updates = u }

-- ---- on tables of the right length

unfoldable pub reply : List ℕ → ℕ → ℕ
reply t n = pick (sized_b t) n nothing

unfoldable pub left : List ℕ → Tables → List ℕ
left t s = pick (sized_b t) (layout s) t

module _ (t : List ℕ) (b : Bool) (e : b ≡ sized_b t) where
  -- the step is taken
  pub taken : b ≡ true → (m n : ℕ) → m ≡ n → (u : List ℕ) (s : Tables) → Left u s → (m ≡ reply t n) × (u ≡ left t s)
  unfolding reply left
  taken h m n a u s l = rw (sym e ∙ h) (a, words_are u s l)

  pub refused : b ≡ false → (n : ℕ) (s : Tables) → (nothing ≡ reply t n) × (t ≡ left t s)
  unfolding reply left
  refused h n s = rw (sym e ∙ h) (refl, refl)

-- ---- making

-- the sizes lie in their limits and ask for this length
abbrev fits : List ℕ → Sizes → Bool
fits t z = both (limits_b z) (eqb (length t) (total z))

unfoldable pub makes : List ℕ → Sizes → ℕ
makes t z = pick (fits t z) 1 nothing

unfoldable pub made : List ℕ → Sizes → List ℕ
made t z = pick (fits t z) (layout (empty z)) t

module _ (t : List ℕ) (z : Sizes) (b : Bool) (e : b ≡ limits_b z) where
  pub now-made : b ≡ true → length t ≡ total z → (u : List ℕ) → u ≡ layout (empty z) → (1 ≡ makes t z) × (u ≡ made t z)
  unfolding makes made
  now-made h l u w = rw (sym e ∙ h, eq-eqb (length t) (total z) l) (refl, w)

  pub too_large : b ≡ false → (nothing ≡ makes t z) × (t ≡ made t z)
  unfolding makes made
  too_large h = rw (sym e ∙ h) (refl, refl)

  pub other_length : b ≡ true → (length t ≡ total z → ⊥) → (nothing ≡ makes t z) × (t ≡ made t z)
  unfolding makes made
  other_length h l = rw (sym e ∙ h, ne_eqb (length t) (total z) l) (refl, refl)
