-- The former words of a state are all but the marks. Where every queued domain has all five marks, they tell this delivery's words.
use Rattle.std.specs.Prelude.{ℕ, ◌+◌, ◌*◌, eqb, take, drop}
use mathlib.Core.List.{List, [], ◌∷◌, ◌++◌, flat_map}
use Rattle.std.proofs.Math.ListN.{get_or}
use Rattle.base.specs.Cases.{pick}
use Rattle.model.specs.Lists.{count_up}
use Rattle.model.specs.State.{Sizes, State}
use Rattle.model.specs.Fields.{all_marks}
use Rattle.model.specs.Layout.{header_words, at_place, place_words, mark_words}
use Rattle.laws.specs.Parts.{in_turn}
use Rattle.laws.specs.Words.Length.{sections}

-- the marks' section
abbrev pub marks : State → List ℕ
marks s = flat_map (λ k. mark_words (at_place s.sizes.updates s.queue k)) (count_up 0 (s.sizes.updates + 1))

-- the ring, the sections before it, and all before the marks; `◌++◌` without brackets has the last one behind all others
abbrev pub ring : State → List ℕ
ring s = flat_map (place_words s.sizes.updates s.queue) (count_up 0 (s.sizes.updates + 1))

abbrev pub first : State → List ℕ
first s = in_turn (header_words s) (take 6 (drop 1 (sections s)))

abbrev pub front : State → List ℕ
front s = in_turn (first s ++ ring s) (take 2 (drop 8 (sections s)))

-- ---- the words that the former ones tell

-- the sizes, the first five words
abbrev pub sizes_in : List ℕ → Sizes
sizes_in o = record { domains = get_or o 0 0; slots = get_or o 1 0; regions = get_or o 2 0; records = get_or o 3 0; updates = get_or o 4 0 }

-- where the ring starts: behind the header, the pools, and the records of domains, regions and trackers
abbrev pub ring_at : Sizes → ℕ
ring_at z = 13 + 7 * z.domains + 3 * (z.domains * z.slots) + 10 * z.regions + 11 * z.records

-- the marks of a place by its kind, 1 where a domain is queued: all five, and none elsewhere
abbrev pub marked_row : ℕ → List ℕ
marked_row n = pick (eqb n 1) (all_marks ∷ []) (0 ∷ [])

-- a place has four words, its kind first
abbrev pub marked_rows : List ℕ → List ℕ
marked_rows o = flat_map (λ k. marked_row (get_or o (ring_at (sizes_in o) + 4 * k) 0)) (count_up 0 ((sizes_in o).updates + 1))

abbrev pub rebuilt : List ℕ → List ℕ
rebuilt o = o ++ marked_rows o
