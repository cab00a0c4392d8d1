-- Sections: a run of words cut into parts of given widths.
use Rattle.std.specs.Prelude.{◌≡◌, refl, List, [], ◌∷◌, ◌++◌, ℕ, zero, suc, ◌+◌, ◌≤◌, length, get_or, take, drop, set}
use Rattle.std.proofs.Common.{sym, ap, ◌∙◌, zero-add, add_assoc, arith, length-take, length-drop, take-append-drop, drop-drop}
use Rattle.std.proofs.lemmas.List.Edits.{sets}
use Rattle.words.specs.Runs.{part, part-take, take-sets-le, take-sets-lt, drop-sets-lt, drop-sets-add}

-- a run cut into parts of the widths ns
unfoldable pub cuts : List ℕ → List ℕ → List (List ℕ)
cuts [] t = []
cuts (n ∷ ns) t = take n t ∷ cuts ns (drop n t)

-- where section k starts
unfoldable pub offset : List ℕ → ℕ → ℕ
offset [] k = 0
offset (n ∷ ns) zero = 0
offset (n ∷ ns) (suc k) = n + offset ns k

unfoldable pub join : List (List ℕ) → List ℕ
join [] = []
join (p ∷ ps) = p ++ join ps

pub cuts-sets : (ns t vs : List ℕ) (k j : ℕ) → j + length vs ≤ get_or ns k 0
    → cuts ns (sets t (offset ns k + j) vs) ≡ set (cuts ns t) k (sets (get_or (cuts ns t) k []) j vs)
unfolding cuts offset
cuts-sets [] t vs k j h = refl
cuts-sets (n ∷ ns) t vs zero j h = rw (zero-add, take-sets-lt vs t n j h, drop-sets-lt vs t n j h)
cuts-sets (n ∷ ns) t vs (suc k) j h =
    rw (add_assoc, take-sets-le vs t n (n + (offset ns k + j)) (omega arith), drop-sets-add vs t n (offset ns k + j))
    (rw (cuts-sets ns (drop n t) vs k j h))

pub cuts-part : (ns t : List ℕ) (k j n : ℕ) → j + n ≤ get_or ns k 0 → part (get_or (cuts ns t) k []) j n ≡ part t (offset ns k + j) n
unfolding cuts offset part
cuts-part [] t k j n h = let z : n ≡ 0 = omega arith in rw z
cuts-part (m ∷ ns) t zero j n h = rw zero-add (part-take t m j n h)
cuts-part (m ∷ ns) t (suc k) j n h = cuts-part ns (drop m t) k j n h ∙ ap (take n) (drop-drop (offset ns k + j) m t ∙ ap (λ (x : ℕ). drop x t) (sym (add_assoc m (offset ns k) j)))

pub length_cut : (ns t : List ℕ) (k : ℕ) → length t ≡ offset ns (length ns) → length (get_or (cuts ns t) k []) ≡ get_or ns k 0
unfolding cuts offset
length_cut [] t k h = refl
length_cut (n ∷ ns) t zero h = simp length-take (omega arith)
length_cut (n ∷ ns) t (suc k) h = length_cut ns (drop n t) k (simp length-drop (omega arith))

pub join-cuts : (ns t : List ℕ) → length t ≡ offset ns (length ns) → join (cuts ns t) ≡ t
unfolding cuts offset join
join-cuts [] [] h = refl
join-cuts [] (x ∷ t) h = absurd (omega arith)
join-cuts (n ∷ ns) t h = rw (join-cuts ns (drop n t) (simp length-drop (omega arith))) (take-append-drop n t)

-- section k ends where the whole does, or before
pub offset-inside : (ns : List ℕ) (k : ℕ) → offset ns k + get_or ns k 0 ≤ offset ns (length ns)
unfolding offset
offset-inside [] k = omega arith
offset-inside (n ∷ ns) zero = omega arith
offset-inside (n ∷ ns) (suc k) = omega (arith, offset-inside ns k)
