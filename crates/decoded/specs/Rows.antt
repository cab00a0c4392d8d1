-- Lists with one element for each slot number: read, set, laid out as words and read back.
use Rattle.std.specs.Prelude.{◌≡◌, refl, ◌≢◌, ℕ, zero, suc, ◌+◌, ◌*◌, ◌≤◌, ◌<◌, eqb, length, get_or, set, replicate, if◌then◌else◌}
use Rattle.std.proofs.Common.{sym, ap, ◌∙◌, suc-mul, arith, length-append, length-set, take_at, drop_at, ext_get_or, get_or-set_same, get_or-set_other, eq-eqb, ne_eqb}
use Rattle.std.proofs.Math.Option.{Option, none}
use mathlib.Core.List.{List, [], ◌∷◌, ◌++◌, map, flat_map}
use Rattle.std.proofs.Math.Decide.{ℕ_discrete}
use Rattle.std.proofs.lemmas.List.{length-map}
use Rattle.std.proofs.Math.Seq.{set_out}
use Rattle.base.specs.Cases.{lt, ge, cmp}
use Rattle.model.specs.Lists.{Each, at_slot, count_up}
use Rattle.laws.specs.Parts.{up-length}
use Rattle.words.specs.Rows.{rows, flat}
use Rattle.words.specs.Cuts.{cuts, join}

-- ---- one element for each of n slots

pub map-up-length : {A : Type 0} (f : ℕ → A) (n : ℕ) → length (map f (count_up 0 n)) ≡ n
map-up-length f n = length-map (count_up 0 n) f ∙ up-length 0 n

get_or-from : {A : Type 0} (f : ℕ → A) (k n i : ℕ) (d : A) → i < n → get_or (map f (count_up k n)) i d ≡ f (k + i)
get_or-from f k zero i d h = absurd (omega arith)
get_or-from f k (suc n) zero d h = let e : k + 0 ≡ k = omega arith in rw e
get_or-from f k (suc n) (suc i) d h = let e : k + suc i ≡ suc k + i = omega arith in rw e (get_or-from f (suc k) n i d (omega arith))

pub get_or-up : {A : Type 0} (f : ℕ → A) (n i : ℕ) (d : A) → i < n → get_or (map f (count_up 0 n)) i d ≡ f i
get_or-up f n i d h = get_or-from f 0 n i d h ∙ ap f (omega arith)

same_from : {A : Type 0} (f g : ℕ → A) (k n : ℕ) → ((i : ℕ) → k ≤ i → i < k + n → f i ≡ g i) → map f (count_up k n) ≡ map g (count_up k n)
same_from f g k zero e = refl
same_from f g k (suc n) e =
    let h = e k (omega arith) (omega arith) in
    let t = same_from f g (suc k) n (λ i a b. e i (omega arith) (omega arith)) in
    λ i. h i ∷ t i

pub same_up : {A : Type 0} (f g : ℕ → A) (n : ℕ) → ((i : ℕ) → i < n → f i ≡ g i) → map f (count_up 0 n) ≡ map g (count_up 0 n)
same_up f g n e = same_from f g 0 n (λ i a b. e i (omega arith))

same-all : {A : Type 0} (x : A) (k n : ℕ) → map (λ i. x) (count_up k n) ≡ replicate n x
same-all x k zero = refl
same-all x k (suc n) = ap (λ (l : List _). x ∷ l) (same-all x (suc k) n)

-- all alike
pub replicate-up : {A : Type 0} (f : ℕ → A) (x : A) (n : ℕ) → ((i : ℕ) → i < n → f i ≡ x) → map f (count_up 0 n) ≡ replicate n x
replicate-up f x n e = same_up f (λ i. x) n e ∙ same-all x 0 n

-- element i is set, and the others are as they were
pub set-up : {A : Type 0} (f g : ℕ → A) (n i : ℕ) (x : A) → i < n → g i ≡ x → ((j : ℕ) → j ≢ i → j < n → g j ≡ f j)
    → set (map f (count_up 0 n)) i x ≡ map g (count_up 0 n)
set-up f g n i x h e o =
    ext_get_or x (set (map f (count_up 0 n)) i x) (map g (count_up 0 n)) (length-set (map f (count_up 0 n)) i x ∙ map-up-length f n ∙ sym (map-up-length g n)) (λ j k. at j (omega (arith, length-set (map f (count_up 0 n)) i x, map-up-length f n)))
  where
    other : (j : ℕ) → j < n → j ≢ i → get_or (set (map f (count_up 0 n)) i x) j x ≡ get_or (map g (count_up 0 n)) j x
    other j k ne = get_or-set_other (map f (count_up 0 n)) i j x x ne ∙ get_or-up f n j x k ∙ sym (o j ne k) ∙ sym (get_or-up g n j x k)

    at : (j : ℕ) → j < n → get_or (set (map f (count_up 0 n)) i x) j x ≡ get_or (map g (count_up 0 n)) j x
    at j k = elim (ℕ_discrete j i) [
      | yes p ↦ rw p (get_or-set_same (map f (count_up 0 n)) i x x (omega (arith, map-up-length f n)) ∙ sym e ∙ sym (get_or-up g n i x h))
      | no ne ↦ other j k ne
    ]

-- a row that depends on its slot's number and on what the slot holds
pub set-table : {A B : Type 0} (f : ℕ → Option A → B) (l : List (Option A)) (n i : ℕ) (o : Option A) → length l ≡ n → i < n
    → map (λ j. f j (at_slot (set l i o) j)) (count_up 0 n) ≡ set (map (λ j. f j (at_slot l j)) (count_up 0 n)) i (f i o)
set-table f l n i o e h =
    sym (set-up (λ j. f j (at_slot l j)) (λ j. f j (at_slot (set l i o) j)) n i (f i o) h (ap (f i) (get_or-set_same l i o none (omega arith))) (λ j ne k. ap (f j) (get_or-set_other l i j o none ne)))

-- a row that stays as it was
pub same-table : {A B : Type 0} (f : Option A → B) (l : List (Option A)) (n i : ℕ) (o : Option A) → f o ≡ f (at_slot l i)
    → map (λ j. f (at_slot (set l i o) j)) (count_up 0 n) ≡ map (λ j. f (at_slot l j)) (count_up 0 n)
same-table f l n i o e = same_up (λ j. f (at_slot (set l i o) j)) (λ j. f (at_slot l j)) n (λ j k. at j (ℕ_discrete j i))
  where
    at : (j : ℕ) → Dec (j ≡ i) → f (at_slot (set l i o) j) ≡ f (at_slot l j)
    at j (yes z) = elim (cmp i (length l)) [
      | lt b ↦ rw z (ap f (get_or-set_same l i o none b) ∙ e)
      | ge b ↦ rw (set_out l i o b)
    ]
    at j (no ne) = ap f (get_or-set_other l i j o none ne)

-- two elements are set
pub set-two : {A : Type 0} (f g : ℕ → A) (n i j : ℕ) → i < n → j < n → ((k : ℕ) → k ≢ i → k ≢ j → g k ≡ f k)
    → set (set (map f (count_up 0 n)) j (g j)) i (g i) ≡ map g (count_up 0 n)
set-two f g n i j hi hj o =
    let m : ℕ → _ = λ k. if eqb k j then g j else f k in
    ap (λ l. set l i (g i)) (set-up f m n j (g j) hj (rw (eq-eqb j j refl)) (λ k ne l. rw (ne_eqb k j ne))) ∙ set-up m g n i (g i) hi refl rest
  where
    rest : (k : ℕ) → k ≢ i → k < n → g k ≡ if eqb k j then g j else f k
    rest k ne l = elim (ℕ_discrete k j) [ yes e ↦ rw (eq-eqb k j e) (ap g e) | no d ↦ rw (ne_eqb k j d) (o k ne d) ]

pub each_map : {A B : Type 0} (P : B → Type 0) (f : A → B) (l : List A) → ((a : A) → P (f a)) → Each P (map f l)
each_map P f [] h = tt
each_map P f (a ∷ l) h = (h a, each_map P f l h)

pub each-any : {A : Type 0} (P : A → Type 0) (l : List A) → ((a : A) → P a) → Each P l
each-any P [] h = tt
each-any P (a ∷ l) h = (h a, each-any P l h)

-- ---- the words of rows

pub flat-map : {A : Type 0} (g : A → List ℕ) (f : ℕ → A) (h : ℕ → List ℕ) (l : List ℕ) → ((i : ℕ) → g (f i) ≡ h i) → flat g (map f l) ≡ flat_map h l
unfolding flat flat_map
flat-map g f h [] e = refl
flat-map g f h (i ∷ l) e = let p = e i in let q = flat-map g f h l e in λ t. p t ++ q t

-- each row has its width, and is read back
abbrev pub Read : {A : Type 0} → ℕ → (List ℕ → A) → (A → List ℕ) → A → Type 0
Read w f g x = (length (g x) ≡ w) × (f (g x) ≡ x)

pub flat-length : {A : Type 0} (w : ℕ) (f : List ℕ → A) (g : A → List ℕ) (l : List A) → Each (Read w f g) l → length (flat g l) ≡ length l * w
unfolding flat
flat-length w f g [] e = omega arith
flat-length w f g (x ∷ l) e = omega (arith, length-append (g x) (flat g l), e.0.0, flat-length w f g l e.1, suc-mul (length l) w)

pub rows-flat : {A : Type 0} (w n : ℕ) (f : List ℕ → A) (g : A → List ℕ) (l : List A) → length l ≡ n → Each (Read w f g) l → rows w n f (flat g l) ≡ l
unfolding rows flat
rows-flat w zero f g [] h e = refl
rows-flat w zero f g (x ∷ l) h e = absurd (omega arith)
rows-flat w (suc n) f g [] h e = absurd (omega arith)
rows-flat w (suc n) f g (x ∷ l) h e =
    let a = ap f (take_at (g x) (flat g l) w e.0.0) ∙ e.0.1 in
    let b = ap (rows w n f) (drop_at (g x) (flat g l) w e.0.0) ∙ rows-flat w n f g l (omega arith) e.1 in
    λ i. a i ∷ b i

-- parts put together and cut again
pub cuts-join : (ns : List ℕ) (ps : List (List ℕ)) → map length ps ≡ ns → cuts ns (join ps) ≡ ps
unfolding cuts join
cuts-join [] [] e = refl
cuts-join [] (p ∷ ps) e = cc
cuts-join (n ∷ ns) [] e = cc
cuts-join (n ∷ ns) (p ∷ ps) e =
    let h : length p ≡ n = cc in
    let k : map length ps ≡ ns = cc in
    let a = take_at p (join ps) n h in
    let b = ap (cuts ns) (drop_at p (join ps) n h) ∙ cuts-join ns ps k in
    λ i. a i ∷ b i
