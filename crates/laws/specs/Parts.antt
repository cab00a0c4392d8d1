-- Lists put together from parts: equal wholes whose parts are as long have equal parts. For the laws about the words of the tables.
use Rattle.std.specs.Prelude.{◌≡◌, refl, ℕ, zero, suc, ◌+◌, ◌*◌, ◌≤◌, ◌<◌, length}
use Rattle.std.proofs.Common.{sym, ap, ◌∙◌, arith, zero-mul, suc-mul, length-append}
use mathlib.Core.List.{List, [], ◌∷◌, ◌++◌, map, flat_map, append_assoc, append-nil}
use Rattle.base.specs.Cases.{lt, ge, cmp}
use Rattle.model.specs.Lists.{count_up}

-- all the parts, one after the other; used only in proofs
abbrev pub join : List (List ℕ) → List ℕ
join [] = []
join (a ∷ l) = a ++ join l

-- the same behind a first part, as `◌++◌` without brackets puts them together; used only in proofs
abbrev pub in_turn : List ℕ → List (List ℕ) → List ℕ
in_turn a [] = a
in_turn a (b ∷ l) = in_turn (a ++ b) l

pub in-turn : (a : List ℕ) (l : List (List ℕ)) → in_turn a l ≡ a ++ join l
in-turn a [] = sym (append-nil a)
in-turn a (b ∷ l) = in-turn (a ++ b) l ∙ append_assoc a b (join l)

-- used only in proofs
abbrev pub sum : List ℕ → ℕ
sum [] = 0
sum (n ∷ l) = n + sum l

-- where the first parts are as long
pub cut : (a c b d : List ℕ) → length a ≡ length c → a ++ b ≡ c ++ d → (a ≡ c) × (b ≡ d)
cut [] [] b d h e = (refl, e)
cut [] (y ∷ c) b d h e = absurd (omega arith)
cut (x ∷ a) [] b d h e = absurd (omega arith)
cut (x ∷ a) (y ∷ c) b d h e = let r = cut a c b d (omega arith) (cc) in let p = r.0 in (cc, r.1)

-- parts that are as long, one by one
pub same_parts : (l m : List (List ℕ)) → map length l ≡ map length m → join l ≡ join m → l ≡ m
same_parts [] [] h e = refl
same_parts [] (c ∷ m) h e = cc
same_parts (a ∷ l) [] h e = cc
same_parts (a ∷ l) (c ∷ m) h e = let r = cut a c (join l) (join m) (cc) e in let p = r.0 in let q = same_parts l m (cc) r.1 in cc

pub join-length : (l : List (List ℕ)) → length (join l) ≡ sum (map length l)
join-length [] = refl
join-length (a ∷ l) = omega (arith, length-append a (join l), join-length l)

-- ---- rows for the slots k, k + 1, ..

-- the same for each slot
pub same_map : {A : Type 0} (f g : ℕ → A) (k n : ℕ) → map f (count_up k n) ≡ map g (count_up k n) → (i : ℕ) → k ≤ i → i < k + n → f i ≡ g i
same_map f g k zero e i h j = absurd (omega arith)
same_map f g k (suc n) e i h j = elim (cmp k i) [
  | lt l ↦ same_map f g (suc k) n (cc) i l (omega arith)
  | ge l ↦ let z : i ≡ k = omega arith in rw z (cc)
]

-- `flat_map` puts the rows together
flat-join : (f : ℕ → List ℕ) (l : List ℕ) → flat_map f l ≡ join (map f l)
unfolding flat_map
flat-join f [] = refl
flat-join f (x ∷ l) = rw (flat-join f l)

same-widths : (w : ℕ) (f : ℕ → List ℕ) → ((i : ℕ) → length (f i) ≡ w) → (l : List ℕ) → map length (map f l) ≡ map (λ i. w) l
same-widths w f h [] = refl
same-widths w f h (i ∷ l) = let p = h i in let q = same-widths w f h l in cc

-- rows of one width w
pub same_rows : (w : ℕ) (f g : ℕ → List ℕ) → ((i : ℕ) → length (f i) ≡ w) → ((i : ℕ) → length (g i) ≡ w) → (n : ℕ) → flat_map f (count_up 0 n) ≡ flat_map g (count_up 0 n) → (i : ℕ) → i < n → f i ≡ g i
same_rows w f g hf hg n e i h =
    let l = count_up 0 n in
    let p = same_parts (map f l) (map g l) (same-widths w f hf l ∙ sym (same-widths w g hg l)) (sym (flat-join f l) ∙ e ∙ flat-join g l) in
    same_map f g 0 n p i (omega arith) (omega arith)

pub up-length : (k n : ℕ) → length (count_up k n) ≡ n
up-length k zero = refl
up-length k (suc n) = ap suc (up-length (suc k) n)

pub rows-length : (w : ℕ) (f : ℕ → List ℕ) → ((i : ℕ) → length (f i) ≡ w) → (k n : ℕ) → length (flat_map f (count_up k n)) ≡ n * w
unfolding flat_map
rows-length w f h k zero = sym (zero-mul w)
rows-length w f h k (suc n) = omega (arith, length-append (f k) (flat_map f (count_up (suc k) n)), h k, rows-length w f h (suc k) n, suc-mul n w)
