-- Where all words of the memory are 64-bit words, so are the numbers of the tables that they show.
use Rattle.std.specs.Prelude.{ℕ, zero, suc, List, [], ◌∷◌, get_or, take, drop}
use Rattle.model.specs.Lists.{Each}
use Rattle.model.specs.State.{Word}
use Rattle.laws.specs.Lists.{word_at, zero_word}
use Rattle.words.specs.Rows.{rows}
use Rattle.words.specs.Cuts.{cuts}
use Rattle.tables.specs.Tables.{Domain, no_domain}
use Rattle.sizes.specs.Sizes.{sizes_of, stride, widths}
use Rattle.tables.specs.View.{domain_of, of_parts, view}
use Rattle.exact_capas.specs.Clauses.{Stored}

take_words : (n : ℕ) (l : List ℕ) → Each Word l → Each Word (take n l)
take_words zero l h = tt
take_words (suc n) [] h = tt
take_words (suc n) (x ∷ l) h = (h.0, take_words n l h.1)

drop-words : (n : ℕ) (l : List ℕ) → Each Word l → Each Word (drop n l)
drop-words zero l h = h
drop-words (suc n) [] h = tt
drop-words (suc n) (x ∷ l) h = drop-words n l h.1

-- a section
cut-words : (ns l : List ℕ) (i : ℕ) → Each Word l → Each Word (get_or (cuts ns l) i [])
unfolding cuts
cut-words [] l i h = tt
cut-words (n ∷ ns) l zero h = take_words n l h
cut-words (n ∷ ns) l (suc i) h = cut-words ns (drop n l) i (drop-words n l h)

-- a row
pub row_words : {A : Type 0} (P : A → Type 0) (w n : ℕ) (f : List ℕ → A) (d : A) (l : List ℕ) (i : ℕ) → P d → ((p : List ℕ) → Each Word p → P (f p)) → Each Word l → P (get_or (rows w n f l) i d)
unfolding rows
row_words P w zero f d l i z g h = z
row_words P w (suc n) f d l zero z g h = g (take w l) (take_words w l h)
row_words P w (suc n) f d l (suc i) z g h = row_words P w n f d (drop w l) i z g (drop-words w l h)

module _ (t : List ℕ) (h : Each Word t) where
  pub section-words : (i : ℕ) → Each Word (get_or (cuts (widths (sizes_of t)) t) i [])
  section-words i = cut-words (widths (sizes_of t)) t i h

  core-words : (i : ℕ) → Word (get_or (view t).domains i no_domain).head.cores
  unfolding view of_parts domain_of
  core-words i = row_words (λ (x : Domain). Word x.head.cores) (stride (sizes_of t)) (sizes_of t).domains (domain_of (sizes_of t).slots) no_domain (get_or (cuts (widths (sizes_of t)) t) 4 []) i zero_word (λ p w. word_at (take 5 p) 1 (take_words 5 p w)) (section-words 4)

  pub view-stored : Stored (view t)
  view-stored = record { cores = λ i b. core-words i }
