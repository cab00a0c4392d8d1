-- Sections of the tables: a store in one changes the view there and nowhere else.
use Rattle.std.specs.Prelude.{◌≡◌, refl, List, [], ℕ, ◌+◌, ◌-◌, ◌≤◌, ◌<◌, length, get_or, set, drop}
use Rattle.std.proofs.Math.Path.{sym, ap}
use Rattle.std.proofs.Common.{◌∙◌, get_or-set_same}
use native.Mathlib.Omega.{arith}
use borrow.Rule.Slice.PartMut.{put_mid}
use Rattle.std.proofs.Math.ListN.{take}
use Rattle.std.proofs.lemmas.List.Edits.{sets}
use Rattle.std.proofs.Math.Seq.{length-sets, take_all}
use Rattle.std.proofs.lemmas.List.{set-get_or}
use Rattle.words.specs.Runs.{part, get_or-before, sets-all, lent_back}
use Rattle.words.specs.Cuts.{cuts, offset, offset-inside, cuts-sets, cuts-part, length_cut}
use Rattle.tables.specs.Tables.{Tables}
use Rattle.sizes.specs.Sizes.{sizes_of, sections, widths, total}
use Rattle.tables.specs.View.{view, of_parts, Sized, Left}

abbrev pub section : List ℕ → ℕ → List ℕ
section t k = get_or (cuts (widths (sizes_of t)) t) k []

pub section-length : (t : List ℕ) (k : ℕ) → Sized t → length (section t k) ≡ get_or (widths (sizes_of t)) k 0
unfolding total
section-length t k s = length_cut (widths (sizes_of t)) t k s.exact

-- ---- stores

-- u has the words of t but for section k
pub record Only (t u : List ℕ) (k : ℕ) : Type 0 where
  pub sizes : sizes_of u ≡ sizes_of t
  pub long : length u ≡ length t
  pub others : cuts (widths (sizes_of t)) u ≡ set (cuts (widths (sizes_of t)) t) k (get_or (cuts (widths (sizes_of t)) u) k [])

pub only_same : (t : List ℕ) (k : ℕ) → Only t t k
only_same t k = record { sizes = refl; long = refl; others = sym (set-get_or (cuts (widths (sizes_of t)) t) k []) }

-- stores past the five sizes keep them
pub sizes-kept : (t vs : List ℕ) (i : ℕ) → 5 ≤ i → sizes_of (sets t i vs) ≡ sizes_of t
unfolding sizes_of
sizes-kept t vs i h =
    rw (get_or-before vs t 0 i (omega arith), get_or-before vs t 1 i (omega arith), get_or-before vs t 2 i (omega arith), get_or-before vs t 3 i (omega arith), get_or-before vs t 4 i (omega arith))

-- what the store does to its section
pub section-sets : (t vs : List ℕ) (k j : ℕ) → k < sections → j + length vs ≤ get_or (widths (sizes_of t)) k 0
    → get_or (cuts (widths (sizes_of t)) (sets t (offset (widths (sizes_of t)) k + j) vs)) k [] ≡ sets (section t k) j vs
section-sets t vs k j hk h =
    let ps = cuts (widths (sizes_of t)) t in
    ap (λ (x : List (List ℕ)). get_or x k []) (cuts-sets (widths (sizes_of t)) t vs k j h) ∙ get_or-set_same ps k (sets (section t k) j vs) [] (unfold cuts in hk)

pub only-sets : (t vs : List ℕ) (k j : ℕ) → k < sections → 5 ≤ offset (widths (sizes_of t)) k + j → j + length vs ≤ get_or (widths (sizes_of t)) k 0
    → Only t (sets t (offset (widths (sizes_of t)) k + j) vs) k
only-sets t vs k j hk h5 h =
    record {
      sizes = sizes-kept t vs (offset (widths (sizes_of t)) k + j) h5;
      long = length-sets t (offset (widths (sizes_of t)) k + j) vs;
      others = cuts-sets (widths (sizes_of t)) t vs k j h ∙ ap (set (cuts (widths (sizes_of t)) t) k) (sym (section-sets t vs k j hk h));
    }

pub only-left : (t u : List ℕ) (k : ℕ) (s : Tables) → Sized t → Only t u k
    → of_parts (sizes_of t) (set (cuts (widths (sizes_of t)) t) k (get_or (cuts (widths (sizes_of t)) u) k [])) ≡ s → Left u s
unfolding view
only-left t u k s z o e =
    record {
      seen = rw o.sizes (ap (of_parts (sizes_of t)) o.others ∙ e);
      sized = record { limits = rw o.sizes z.limits; exact = rw (o.sizes, o.long) z.exact };
    }

-- a section lies in the words
pub section-inside : (t : List ℕ) (k : ℕ) → Sized t → offset (widths (sizes_of t)) k + get_or (widths (sizes_of t)) k 0 ≤ length t
unfolding total
section-inside t k s = rw s.exact (offset-inside (widths (sizes_of t)) k)

-- ---- a section lent as the words from a up to e

module _ (t : List ℕ) (k a e : ℕ) (s : Sized t) (start : a ≡ offset (widths (sizes_of t)) k) (end : e ≡ a + get_or (widths (sizes_of t)) k 0) where
  pub section-lent : take (e - a) (drop a t) ≡ section t k
  unfolding part
  section-lent =
      let n = e - a in
      let e₁ : a ≡ offset (widths (sizes_of t)) k + 0 = omega arith in
      ap (λ (y : ℕ). take n (drop y t)) e₁
      ∙ sym (cuts-part (widths (sizes_of t)) t k 0 n (omega arith))
      ∙ take_all n (section t k) (omega (arith, section-length t k s))

  -- p comes back
  pub section-back : (p : List ℕ) → k < sections → 5 ≤ a → length p ≡ length (take (e - a) (drop a t))
      → Only t (put_mid a (e - a) t p) k × (get_or (cuts (widths (sizes_of t)) (put_mid a (e - a) t p)) k [] ≡ p)
  section-back p hk h5 hp =
      let o = offset (widths (sizes_of t)) k in
      let w = get_or (widths (sizes_of t)) k 0 in
      let n : length p ≡ w = hp ∙ ap length section-lent ∙ section-length t k s in
      let e₂ : put_mid a (e - a) t p ≡ sets t (o + 0) p =
      lent_back t p a (e - a) w (omega arith) n (omega (arith, section-inside t k s)) ∙ ap (λ (y : ℕ). sets t y p) (omega arith) in
      let fresh : sets (section t k) 0 p ≡ p = sets-all p (section t k) (section-length t k s ∙ sym n) in
      rw e₂ (only-sets t p k 0 hk (omega arith) (omega arith), section-sets t p k 0 hk (omega arith) ∙ fresh)
