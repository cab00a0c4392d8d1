-- A part of a run of words, and what a run of stores changes of it.
use Rattle.std.specs.Prelude.{◌≡◌, refl, List, [], ◌∷◌, ◌++◌, ℕ, zero, suc, ◌+◌, ◌-◌, ◌≤◌, ◌<◌, leb, get_or, take, drop, set}
use Rattle.std.proofs.Common.{sym, ap, ◌∙◌, append_assoc, append-nil, add-suc, arith, le-leb, length-take, length-drop, drop_of_length-le, drop-set-lt, take-take, get_or-take, get_or-drop, drop-drop}
use Rattle.std.proofs.lemmas.Bool.{lt-leb}
use borrow.Rule.Slice.PartMut.{put_mid}
use Rattle.std.proofs.Math.ListN.{length}
use Rattle.std.proofs.lemmas.List.Edits.{sets, sets-eq}
use Rattle.std.proofs.lemmas.List.{take-set-le, drop-set-add}
use Rattle.std.proofs.Math.Seq.{take-set-lt}
use Rattle.base.specs.Cases.{pick, cmp, lt, ge}

-- the n words from o on
unfoldable pub part : List ℕ → ℕ → ℕ → List ℕ
part t o n = take n (drop o t)

pub part_at : (t : List ℕ) (o n k : ℕ) → k < n → get_or (part t o n) k 0 ≡ get_or t (o + k) 0
unfolding part
part_at t o n k h = rw (get_or-take, get_or-drop)

pub length_part : (t : List ℕ) (o n : ℕ) → o + n ≤ length t → length (part t o n) ≡ n
unfolding part
length_part t o n h = simp (length-take, length-drop) (omega arith)

-- ---- a run of stores, cut at a place

pub take-sets-le : (vs l : List ℕ) (n i : ℕ) → n ≤ i → take n (sets l i vs) ≡ take n l
take-sets-le [] l n i h = refl
take-sets-le (v ∷ vs) l n i h = take-sets-le vs (set l i v) n (suc i) (omega arith) ∙ take-set-le n l i v h

pub drop-sets-lt : (vs l : List ℕ) (n i : ℕ) → i + length vs ≤ n → drop n (sets l i vs) ≡ drop n l
drop-sets-lt [] l n i h = refl
drop-sets-lt (v ∷ vs) l n i h = drop-sets-lt vs (set l i v) n (suc i) (omega arith) ∙ drop-set-lt n l i v (omega arith)

pub take-sets-lt : (vs l : List ℕ) (n i : ℕ) → i + length vs ≤ n → take n (sets l i vs) ≡ sets (take n l) i vs
take-sets-lt [] l n i h = refl
take-sets-lt (v ∷ vs) l n i h =
    take-sets-lt vs (set l i v) n (suc i) (omega arith) ∙ ap (λ (x : List ℕ). sets x (suc i) vs) (take-set-lt n l i v (omega arith))

pub drop-sets-add : (vs l : List ℕ) (n i : ℕ) → drop n (sets l (n + i) vs) ≡ sets (drop n l) i vs
drop-sets-add [] l n i = refl
drop-sets-add (v ∷ vs) l n i =
    ap (λ (k : ℕ). drop n (sets (set l (n + i) v) k vs)) (sym (add-suc n i))
    ∙ drop-sets-add vs (set l (n + i) v) n (suc i)
    ∙ ap (λ (x : List ℕ). sets x (suc i) vs) (drop-set-add n l i v)

-- ---- a part, after a run of stores before it, after it, or in it

pub part-before : (t vs : List ℕ) (o n i : ℕ) → i + length vs ≤ o → part (sets t i vs) o n ≡ part t o n
unfolding part
part-before t vs o n i h = ap (take n) (drop-sets-lt vs t o i h)

pub part-after : (t vs : List ℕ) (o n i : ℕ) → o + n ≤ i → part (sets t i vs) o n ≡ part t o n
unfolding part
part-after t vs o n i h =
    let e : o + (i - o) ≡ i = omega arith in
    ap (λ (k : ℕ). take n (drop o (sets t k vs))) (sym e)
    ∙ ap (take n) (drop-sets-add vs t o (i - o))
    ∙ take-sets-le vs (drop o t) n (i - o) (omega arith)

pub part_in : (t vs : List ℕ) (o n k : ℕ) → k + length vs ≤ n → part (sets t (o + k) vs) o n ≡ sets (part t o n) k vs
unfolding part
part_in t vs o n k h = ap (take n) (drop-sets-add vs t o k) ∙ take-sets-lt vs (drop o t) n k h

pub get_or-before : (vs t : List ℕ) (j i : ℕ) → j < i → get_or (sets t i vs) j 0 ≡ get_or t j 0
get_or-before vs t j i h =
    sym (get_or-take i (sets t i vs) j 0 h) ∙ ap (λ (x : List ℕ). get_or x j 0) (take-sets-le vs t i i (omega arith)) ∙ get_or-take i t j 0 h

-- all the words of a part are stored: the part is those words
pub sets-all : (vs p : List ℕ) → length p ≡ length vs → sets p 0 vs ≡ vs
sets-all vs p e =
    sets-eq vs p 0 (omega arith)
    ∙ ap (λ (x : List ℕ). vs ++ x) (drop_of_length-le p {i = 0 + length vs} (omega arith))
    ∙ append-nil vs

pub part-take : (t : List ℕ) (m j n : ℕ) → j + n ≤ m → part (take m t) j n ≡ part t j n
unfolding part
part-take t m zero n h = take-take n m t (omega arith)
part-take t zero (suc j) n h = absurd (omega arith)
part-take [] (suc m) (suc j) n h = refl
part-take (x ∷ t) (suc m) (suc j) n h = part-take t m j n (omega arith)

pub part-drop : (t : List ℕ) (a b n : ℕ) → part (drop a t) b n ≡ part t (a + b) n
unfolding part
part-drop t a b n = ap (take n) (drop-drop b a t)

pub part-part : (t : List ℕ) (a w b n : ℕ) → b + n ≤ w → part (part t a w) b n ≡ part t (a + b) n
unfolding part
part-part t a w b n h = part-take (drop a t) w b n h ∙ ap (take n) (drop-drop b a t)

-- what comes back of a part that was lent, as a run of stores
pub lent_back : (t p : List ℕ) (a k n : ℕ) → k ≡ n → length p ≡ n → a + n ≤ length t → put_mid a k t p ≡ sets t a p
lent_back t p a k n e h hl =
    let e₂ : k ≡ length p = omega arith in
    rw (e₂, drop-drop (length p) a t) (sym (sets-eq p t a (omega arith) ∙ append_assoc (take a t) p (drop (a + length p) t)))

-- ---- words fetched and stored, where they all lie in the run

-- the n words from a on
unfoldable pub fetched : List ℕ → ℕ → ℕ → List ℕ
fetched t a n = pick (leb (a + n) (length t)) (part t a n) []

-- the words with vs from a on
unfoldable pub stored : List ℕ → ℕ → List ℕ → List ℕ
stored t a vs = pick (leb (a + length vs) (length t)) (sets t a vs) t

module _ (t : List ℕ) (a : ℕ) where
  pub fetched-in : (n : ℕ) → a + n ≤ length t → fetched t a n ≡ part t a n
  unfolding fetched
  fetched-in n h = rw (le-leb (a + n) (length t) h)

  pub fetched-out : (n : ℕ) → length t < a + n → fetched t a n ≡ []
  unfolding fetched
  fetched-out n h = rw (lt-leb (a + n) (length t) h)

  -- words that are not n are none
  pub none-fetched : (n : ℕ) (p : List ℕ) → p ≡ fetched t a n → (length p ≡ n → ⊥) → p ≡ []
  none-fetched n p e ne =
      elim (cmp (length t) (a + n)) [
        | lt h ↦ e ∙ fetched-out n h
        | ge h ↦ absurd (ne (ap length (e ∙ fetched-in n h) ∙ length_part t a n h))
      ]

  pub stored-in : (vs : List ℕ) → a + length vs ≤ length t → stored t a vs ≡ sets t a vs
  unfolding stored
  stored-in vs h = rw (le-leb (a + length vs) (length t) h)

  pub stored-out : (vs : List ℕ) → length t < a + length vs → stored t a vs ≡ t
  unfolding stored
  stored-out vs h = rw (lt-leb (a + length vs) (length t) h)
