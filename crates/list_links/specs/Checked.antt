-- Computed: free stacks of sizes about a word's 64 marks, whole and damaged.
use Rattle.std.specs.Prelude.{◌≡◌, refl, Bool, true, false, List, [], ◌∷◌, map, ℕ, zero, suc, ◌+◌, ◌-◌, ltb, leb, length, get_or, set}
use Rattle.base.specs.Tests.{both, all_from}
use Rattle.list_links.specs.Walk.{link_to, met, covered, covers}

-- the links l, h the slot that is given next, c slots in use
free : List ℕ → ℕ → Bool
free l i = both (ltb i (length l)) (ltb 0 (get_or l i 0))

stack : List ℕ → ℕ → ℕ → Bool
stack l h c = both (leb c (length l)) (covered (free l) (length l) (met (λ i. get_or l i 0) (free l) 1 (length l - c) (link_to (length l) h) []))

-- the links of k + 1 slots from i on, all free: each leads to the slot after it, the last to slot 0
links : ℕ → ℕ → List ℕ
links i zero = 1 ∷ []
links i (suc k) = (i + 2) ∷ links (suc i) k

sizes : List ℕ
sizes = 0 ∷ 62 ∷ 63 ∷ 64 ∷ 126 ∷ 127 ∷ 128 ∷ []

yes : List Bool
yes = true ∷ true ∷ true ∷ true ∷ true ∷ true ∷ true ∷ []

no : List Bool
no = false ∷ false ∷ false ∷ false ∷ false ∷ false ∷ false ∷ []

whole : map (λ k. stack (links 0 k) 0 0) sizes ≡ yes
unfolding stack free links sizes yes met covers all_from
whole = refl

-- one more in use than the links say, and one fewer free slot than the count says
count-too-large : map (λ k. stack (links 0 k) 0 1) sizes ≡ no
unfolding stack free links sizes no met covers all_from
count-too-large = refl

-- the last slot is free, and no link leads to it
not-reached : map (λ k. stack (set (links 0 k) (k - 1) 1) 0 1) (62 ∷ 63 ∷ 64 ∷ 128 ∷ []) ≡ false ∷ false ∷ false ∷ false ∷ []
unfolding stack free links met covers all_from
not-reached = refl

-- a circle of 64 slots of 65; a link to a slot that is not there, and the last link to slot 1
circle : stack (set (links 0 64) 63 1) 0 0 ≡ false
unfolding stack free links met covers all_from
circle = refl

outside : map (λ x. stack (set (links 0 64) 32 x) 0 0) (66 ∷ 18446744073709551615 ∷ []) ≡ false ∷ false ∷ []
unfolding stack free links met covers all_from
outside = refl

another-end : map (λ k. stack (set (links 0 k) k 2) 0 0) sizes ≡ no
unfolding stack free links sizes no met covers all_from
another-end = refl
