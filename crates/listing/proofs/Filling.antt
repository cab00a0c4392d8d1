-- A run that is filled line by line: the run so far, filled with the lines of the records that are left, is the run filled with all. A line that is put moves
-- from the lines that are left into the run.
use mathlib.Core.Path.{◌≡◌, refl, sym, ◌∙◌}
use mathlib.Core.Bool.{true, false}
use mathlib.Core.List.{List, [], ◌∷◌, ◌++◌}
use Prim.Native.Nat.{ℕ, suc, ◌+◌, ◌*◌}
use native.Mathlib.Numerals.{add-one, add-two, add-three, add-four}
use native.Mathlib.Omega.{arith}
use lib.ListN.{length, set, length-set, get_or}
use Rattle.words.specs.Rows.{flat}
use Rattle.tables.specs.declared.Region.{Region}
use Rattle.tables.specs.Tables.{Tables}
use Rattle.tables.specs.View.{view}
use Rattle.arena.specs.Arena.{is_free_b}
use Rattle.tracker_records.specs.Links.{first_link}
use Rattle.readings.specs.Readings.{records_from, fill_run}
use Rattle.readings.proofs.Runs.{fill_from, fill_none, fill-put}
use Rattle.readings.proofs.Reading.{records-start}
use Rattle.listing.specs.Listed.{line_of, listed_of, with_line}

-- ---- one line

-- five numbers put one by one
pub line-put : (run r₁ r₂ r₃ r₄ r₅ : List ℕ) (at d a b c o e : ℕ) → r₁ ≡ set run at d → r₂ ≡ set r₁ (at + 1) a → r₃ ≡ set r₂ (at + 2) b → o ≡ c → r₄ ≡ set r₃ (at + 3) o → r₅ ≡ set r₄ (at + 4) e
    → r₅ ≡ with_line run at (d ∷ a ∷ b ∷ c ∷ e ∷ [])
line-put run r₁ r₂ r₃ r₄ r₅ at d a b c o e h₁ h₂ h₃ ho h₄ h₅ = rw (h₅, h₄, ho, h₃, h₂, h₁, add-one at, add-two at, add-three at, add-four at)

pub length-line : (run : List ℕ) (at : ℕ) (l : List ℕ) → length (with_line run at l) ≡ length run
length-line run at [] = refl
length-line run at (v ∷ l) = length-line (set run at v) (suc at) l ∙ length-set run at v

-- the place behind numbers put from a place on
abbrev past : ℕ → List ℕ → ℕ
past at [] = at
past at (v ∷ l) = past (suc at) l

fill-line : (vs l run : List ℕ) (at : ℕ) → fill_from (past at vs) l (with_line run at vs) ≡ fill_from at (vs ++ l) run
fill-line [] l run at = refl
fill-line (v ∷ vs) l run at = fill-line vs l (set run at v) (suc at) ∙ fill-put at v (vs ++ l) run

-- ---- the lines of domain d

module _ (d : ℕ) where
  -- n lines are put, and those of the records l are left, of l₀ in all
  pub record Filling (n : ℕ) (l : List Region) (run : List ℕ) (l₀ : List Region) (run₀ : List ℕ) : Type 0 where
    pub seen : n + length l ≡ length l₀
    pub filled : fill_from (5 * n) (flat (line_of d) l) run ≡ fill_run (flat (line_of d) l₀) run₀
    pub room : length run ≡ length run₀

  end_none : (n : ℕ) (run : List ℕ) (l₀ : List Region) (run₀ : List ℕ) → Filling n [] run l₀ run₀ → (n ≡ length l₀) × (run ≡ fill_run (flat (line_of d) l₀) run₀)
  unfolding flat
  end_none n run l₀ run₀ f = (omega (arith, f.seen), sym (fill_none (5 * n) run) ∙ f.filled)

  pub filling-end : (n : ℕ) (l : List Region) (run : List ℕ) (l₀ : List Region) (run₀ : List ℕ) → l ≡ [] → Filling n l run l₀ run₀ → (n ≡ length l₀) × (run ≡ fill_run (flat (line_of d) l₀) run₀)
  filling-end n l run l₀ run₀ e f = end_none n run l₀ run₀ (rw e at f)

  more-one : (n : ℕ) (q : Region) (m : List Region) (run : List ℕ) (l₀ : List Region) (run₀ : List ℕ) → Filling n (q ∷ m) run l₀ run₀ → Filling (n + 1) m (with_line run (5 * n) (line_of d q)) l₀ run₀
  unfolding flat
  more-one n q m run l₀ run₀ f =
      let z : 5 * (n + 1) ≡ suc (suc (suc (suc (suc (5 * n))))) = omega arith in
      record {
        seen = omega (arith, f.seen);
        filled = rw z (fill-line (line_of d q) (flat (line_of d) m) run (5 * n) ∙ f.filled);
        room = length-line run (5 * n) (line_of d q) ∙ f.room;
      }

  pub filling-more : (n : ℕ) (l : List Region) (q : Region) (m : List Region) (run : List ℕ) (l₀ : List Region) (run₀ : List ℕ) → l ≡ q ∷ m → Filling n l run l₀ run₀
      → Filling (n + 1) m (with_line run (5 * n) (line_of d q)) l₀ run₀
  filling-more n l q m run l₀ run₀ e f = more-one n q m run l₀ run₀ (rw e at f)

-- ---- where to begin

pub free-none : (s : Tables) (d : ℕ) → is_free_b s.domain_pool d ≡ true → listed_of s d ≡ []
unfolding listed_of
free-none s d e = rw e

-- the number of records and the first link as they are read from the words
pub used_start : (t : List ℕ) (d n k : ℕ) → is_free_b (view t).domain_pool d ≡ false → n ≡ get_or t 3 0 → k ≡ first_link (view t) d → records_from n (view t) k ≡ listed_of (view t) d
unfolding listed_of
used_start t d n k e en ek = rw e (records-start t d n k en ek)

pub none_filled : (d : ℕ) (l : List Region) (run : List ℕ) → l ≡ [] → (0 ≡ length l) × (run ≡ fill_run (flat (line_of d) l) run)
unfolding flat
none_filled d l run e = rw e (refl, sym (fill_none 0 run))
