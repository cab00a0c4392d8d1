-- A list that the links spell out is what a walk along them finds.
use Rattle.std.specs.Prelude.{◌≡◌, refl, ℕ, zero, suc, ◌+◌, ◌≤◌, ◌<◌, List, [], ◌∷◌, map, eqb, length, get_or}
use Rattle.std.proofs.Common.{ap, ◌∙◌, arith}
use Rattle.model.specs.Lists.{count_if, count_up, first_of, after_in}
use Rattle.model.specs.Layout.{link, slot_or0}
use Rattle.laws.specs.Stack.{one}
use Rattle.decoded.specs.Links.{after-top, after-under}
use Rattle.decoded.specs.Decode.Read.{stack_from, chain_from}

-- ---- stacks: the last slot is followed by slot 0

abbrev pub Stacked : (ℕ → ℕ) → List ℕ → Type 0
Stacked f [] = Unit {0}
Stacked f (i ∷ l) = (f i ≡ slot_or0 (first_of l)) × Stacked f l

pub stack-walked : (f : ℕ → ℕ) (l : List ℕ) → Stacked f l → stack_from f (length l) (slot_or0 (first_of l)) ≡ l
stack-walked f [] h = refl
stack-walked f (i ∷ l) h = ap (λ m. i ∷ m) (ap (stack_from f (length l)) h.0 ∙ stack-walked f l h.1)

-- without repeats the slot after a slot is the next one
pub stacked-after : (f : ℕ → ℕ) (l : List ℕ) → ((i : ℕ) → count_if (eqb i) l ≤ 1) → ((i : ℕ) → 0 < count_if (eqb i) l → f i ≡ slot_or0 (after_in l i)) → Stacked f l
stacked-after f [] o h = tt
stacked-after f (i ∷ l) o h = (
  h i (omega (arith, one i i refl)) ∙ ap slot_or0 (after-top i l),
  stacked-after f l (λ k. omega (arith, o k)) (λ k p. h k (omega arith) ∙ ap slot_or0 (after-under i k l (λ e. omega (arith, o k, one k i e)))),
)

-- ---- chains: the last slot is followed by the link 0

abbrev pub Chained : (ℕ → ℕ) → List ℕ → Type 0
Chained f [] = Unit {0}
Chained f (i ∷ l) = (f i ≡ link (first_of l)) × Chained f l

pub chain-none : (f : ℕ → ℕ) (n : ℕ) → chain_from f n 0 ≡ []
chain-none f zero = refl
chain-none f (suc n) = refl

pub chain-walked : (f : ℕ → ℕ) (n : ℕ) (l : List ℕ) → length l ≤ n → Chained f l → chain_from f n (link (first_of l)) ≡ l
chain-walked f n [] b h = chain-none f n
chain-walked f zero (i ∷ l) b h = absurd (omega arith)
chain-walked f (suc n) (i ∷ l) b h = ap (λ m. i ∷ m) (ap (chain_from f n) h.0 ∙ chain-walked f n l (omega arith) h.1)

pub chained-after : (f : ℕ → ℕ) (l : List ℕ) → ((i : ℕ) → count_if (eqb i) l ≤ 1) → ((i : ℕ) → 0 < count_if (eqb i) l → f i ≡ link (after_in l i)) → Chained f l
chained-after f [] o h = tt
chained-after f (i ∷ l) o h = (
  h i (omega (arith, one i i refl)) ∙ ap link (after-top i l),
  chained-after f l (λ k. omega (arith, o k)) (λ k p. h k (omega arith) ∙ ap link (after-under i k l (λ e. omega (arith, o k, one k i e)))),
)

-- ---- tables

map-from : {A : Type 0} (f : ℕ → A) (k : ℕ) (l : List A) → ((i : ℕ) → i < length l → (d : A) → f (k + i) ≡ get_or l i d) → map f (count_up k (length l)) ≡ l
map-from f k [] h = refl
map-from f k (x ∷ l) h =
    let z : k ≡ k + 0 = omega arith in
    let a = ap f z ∙ h 0 (omega arith) x in
    let t = map-from f (suc k) l (λ i b d. let w : suc k + i ≡ k + suc i = omega arith in ap f w ∙ h (suc i) (omega arith) d) in
    λ i. a i ∷ t i

-- a list from its elements
pub map-up : {A : Type 0} (f : ℕ → A) (l : List A) → ((i : ℕ) → i < length l → (d : A) → f i ≡ get_or l i d) → map f (count_up 0 (length l)) ≡ l
map-up f l h = map-from f 0 l (λ i b d. let z : 0 + i ≡ i = omega arith in ap f z ∙ h i b d)

pub map-map : {A B C : Type 0} (g : B → C) (f : A → B) (l : List A) → map g (map f l) ≡ map (λ x. g (f x)) l
map-map g f [] = refl
map-map g f (x ∷ l) = ap (λ m. g (f x) ∷ m) (map-map g f l)
