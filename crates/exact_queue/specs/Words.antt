-- Where all words of the memory are 64-bit words, so are those of the updates in the ring.
use Rattle.std.specs.Prelude.{ℕ, ◌+◌, List, [], get_or}
use Rattle.model.specs.Lists.{Each}
use Rattle.model.specs.State.{Word}
use Rattle.laws.specs.Lists.{zero_word, word_at}
use Rattle.words.specs.Cuts.{cuts}
use Rattle.tables.specs.declared.Update.{Update}
use Rattle.tables.specs.Tables.{no_update}
use Rattle.tables.specs.View.{update_of, of_parts, view}
use Rattle.sizes.specs.Sizes.{sizes_of, widths}
use Rattle.exact_capas.specs.Words.{row_words, section-words}
use Rattle.exact_queue.specs.Clauses.{Stored}

module _ (t : List ℕ) (h : Each Word t) where
  update-words : (g : Update → ℕ) → Word (g no_update) → ((p : List ℕ) → Each Word p → Word (g (update_of p))) → (k : ℕ) → Word (g (get_or (view t).ring k no_update))
  unfolding view of_parts
  update-words g z f k = row_words (λ u. Word (g u)) 4 ((sizes_of t).updates + 1) update_of no_update (get_or (cuts (widths (sizes_of t)) t) 7 []) k z f (section-words t h 7)

  pub ring-stored : Stored (view t)
  ring-stored = record {
    first = λ k b. update-words (λ u. u.a) zero_word (λ p w. word_at p 1 w) k;
    second = λ k b. update-words (λ u. u.b) zero_word (λ p w. word_at p 2 w) k;
    third = λ k b. update-words (λ u. u.c) zero_word (λ p w. word_at p 3 w) k;
  }
