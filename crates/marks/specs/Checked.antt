-- Computed: how many words the marks of n slots take, and marks about the ends of a word.
use Rattle.std.specs.Prelude.{◌≡◌, refl, true, false, List, [], ◌∷◌, map, ℕ}
use Rattle.marks.specs.Marks.{marked, with_mark, words_for, unmarked}

word_counts : map words_for (0 ∷ 1 ∷ 63 ∷ 64 ∷ 65 ∷ 127 ∷ 128 ∷ 129 ∷ 1024 ∷ []) ≡ 0 ∷ 1 ∷ 1 ∷ 1 ∷ 2 ∷ 2 ∷ 2 ∷ 3 ∷ 16 ∷ []
word_counts = refl

-- slots 0, 63, 64 and 127 of 128
some-marked : List ℕ
some-marked = with_mark (with_mark (with_mark (with_mark (0 ∷ 0 ∷ 7 ∷ []) 0) 63) 64) 127

bits : some-marked ≡ 9223372036854775809 ∷ 9223372036854775809 ∷ 7 ∷ []
unfolding some-marked with_mark
bits = refl

asked : map (marked some-marked) (0 ∷ 1 ∷ 62 ∷ 63 ∷ 64 ∷ 65 ∷ 126 ∷ 127 ∷ []) ≡ true ∷ false ∷ false ∷ true ∷ true ∷ false ∷ false ∷ true ∷ []
unfolding some-marked with_mark marked
asked = refl

cleared : unmarked some-marked 128 ≡ 0 ∷ 0 ∷ 7 ∷ []
unfolding some-marked with_mark unmarked
cleared = refl
