-- Where all words of the memory are 64-bit words, so are the generations of the pools and the words of the interfaces that they show. No test asks this.
use Rattle.std.proofs.Common.{sym, arith}
use Rattle.std.proofs.Math.Path.{subst}
use Rattle.std.specs.Prelude.{List, [], ◌∷◌, ℕ, zero, suc, ◌+◌, ◌≤◌, get_or}
use Rattle.model.specs.Lists.{Each}
use Rattle.model.specs.State.{Word}
use Rattle.laws.specs.Lists.{zero_word, word_at}
use Rattle.words.specs.Runs.{part}
use Rattle.words.specs.Cuts.{offset, cuts-part}
use Rattle.sizes.specs.Sizes.{sizes_of, widths, pool_width, interface_width, interface_section}
use Rattle.tables.specs.declared.Interface.{Interface}
use Rattle.tables.specs.Tables.{no_interface}
use Rattle.tables.specs.View.{interface_of, arena_of, of_parts, view}
use Rattle.tables.specs.Sections.{section}
use Rattle.exact_capas.specs.Words.{row_words, section-words}

part-words : (o n : ℕ) (l : List ℕ) → Each Word l → Each Word (part l o n)
unfolding part
part-words zero zero l h = tt
part-words zero (suc n) [] h = tt
part-words zero (suc n) (x ∷ l) h = (h.0, part-words zero n l h.1)
part-words (suc o) zero [] h = tt
part-words (suc o) (suc n) [] h = tt
part-words (suc o) n (x ∷ l) h = part-words o n l h.1

module _ (t : List ℕ) (h : Each Word t) where
  -- the pool over n slots whose words are section k
  arena-words : (k n : ℕ) → pool_width n ≤ get_or (widths (sizes_of t)) k 0 → Each Word (arena_of n (section t k)).gens
  unfolding arena_of
  arena-words k n b = subst (Each Word) (sym (cuts-part (widths (sizes_of t)) t k (2 + n) n (omega arith))) (part-words (offset (widths (sizes_of t)) k + (2 + n)) n t h)

  pub domain-gens : Each Word (view t).domain_pool.gens
  unfolding view of_parts
  domain-gens = arena-words 1 (sizes_of t).domains (omega arith)

  pub region-gens : Each Word (view t).region_pool.gens
  unfolding view of_parts
  region-gens = arena-words 2 (sizes_of t).regions (omega arith)

  pub record-gens : Each Word (view t).record_pool.gens
  unfolding view of_parts
  record-gens = arena-words 3 (sizes_of t).records (omega arith)

  pub interface-words : (d : ℕ) → Word (get_or (view t).interfaces d no_interface).word
  unfolding view of_parts
  interface-words d =
      row_words (λ (x : Interface). Word x.word) interface_width (sizes_of t).domains interface_of no_interface (section t interface_section) d zero_word (λ p w. word_at p 0 w)
      (section-words t h interface_section)
