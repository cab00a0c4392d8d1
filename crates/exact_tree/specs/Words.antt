-- The law for words: what lent memory holds are words, so the starts and ends of the regions are, and their hashes.
use Rattle.std.specs.Prelude.{◌≡◌, true, List, ℕ, zero, suc, ◌+◌, ◌<◌, length, get_or}
use Rattle.std.proofs.Common.{subst, arith}
use Rattle.base.specs.Cases.{lt, ge, cmp}
use Rattle.model.specs.Lists.{Each}
use Rattle.model.specs.State.{Word, Hash, HashWords}
use Rattle.laws.specs.Lists.{zero_word, word_at}
use Rattle.words.specs.Runs.{part_at, fetched, fetched-in, fetched-out}
use Rattle.tables.specs.declared.RegionCapa.{RegionCapa}
use Rattle.tables.specs.declared.RegionHash.{RegionHash}
use Rattle.tables.specs.Tables.{region_at, hash_at}
use Rattle.tables.specs.View.{view, Sized}
use Rattle.tables.specs.Accessors.{region_place, region-loaded, hash_place, hash-loaded}
use Rattle.decoded.specs.Decode.Read.{hash_by, hash_from}
use Rattle.decoded.specs.Canonical.Words.{view-shaped}
use Rattle.sound_tree.specs.Tree.{tree_holds}
use Rattle.exact_tree.specs.Rows.{PoolClauses, RegionWords}
use Rattle.exact_tree.specs.Law.{TreeClauses, tree-holds}

fetched-word : (t : List ℕ) → Each Word t → (a n k : ℕ) → k < n → Word (get_or (fetched t a n) k 0)
fetched-word t h a n k b = elim (cmp (length t) (a + n)) [
  | lt o ↦ rw (fetched-out t a n o) zero_word
  | ge o ↦ rw (fetched-in t a n o, part_at t a n k b) (word_at t (a + k) h)
]

hash-words : (n : ℕ) (x : Hash) → Word x.word0 → Word x.word1 → Word x.word2 → Word x.word3 → HashWords (hash_by n x)
hash-words zero x a b c d = tt
hash-words (suc n) x a b c d = (a, b, c, d)

row_words : (t : List ℕ) → Sized t → Each Word t → (i : ℕ) → HashWords (hash_from (hash_at (view t) i))
row_words t s h i =
    let e = hash-loaded t s i in
    let word : (k : ℕ) → k < 5 → Word (get_or (fetched t (hash_place t i) 5) k 0) = fetched-word t h (hash_place t i) 5 in
    subst (λ (x : RegionHash). HashWords (hash_from x)) e (hash-words (get_or (fetched t (hash_place t i) 5) 0 0) _ (word 1 (omega arith)) (word 2 (omega arith)) (word 3 (omega arith)) (word 4 (omega arith)))

pub region-words : (t : List ℕ) → Sized t → Each Word t → RegionWords (view t)
unfolding region_at hash_at
region-words t s h i =
    let e = region-loaded t s i in (
      subst (λ (r : RegionCapa). Word r.start) e (fetched-word t h (region_place t i) 8 3 (omega arith)),
      subst (λ (r : RegionCapa). Word r.end) e (fetched-word t h (region_place t i) 8 4 (omega arith)),
      row_words t s h i,
    )

pub words-tree : (t : List ℕ) → Sized t → Each Word t → PoolClauses (view t) → tree_holds (view t) ≡ true → TreeClauses (view t)
words-tree t s h p e = tree-holds (view t) (view-shaped t s) p e (region-words t s h)
