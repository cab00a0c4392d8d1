-- Marks: what a claim does to them, and that a scan of the items with marks is the test of the claims.
use Rattle.std.specs.Prelude.{◌≡◌, refl, ℕ, zero, suc, ◌+◌, ◌-◌, ◌≤◌, ◌<◌, Bool, true, false, not, List, eqb, leb, length, get_or, set, replicate}
use Rattle.std.proofs.Common.{sym, ap, ◌∙◌, arith, eq-eqb, ne_eqb, le-leb, length-set, get_or-set_same, get_or-set_other}
use Rattle.std.proofs.Math.Decide.{ℕ_discrete}
use Rattle.std.proofs.lemmas.Bool.{lt-leb}
use Rattle.base.specs.Cases.{pick, cmp, lt, ge}
use Rattle.base.specs.Tests.{both}
use Rattle.base.specs.Lists.{get_or-zeros}
use Rattle.claims.specs.Claims.{either, claimed, claims_fit, claim_count, claims_hold}

-- nothing, or a number that has a mark to set
unfoldable pub takes : List ℕ → ℕ → Bool
takes m c = either (eqb c 0) (both (leb c (length m)) (eqb (get_or m (c - 1) 0) 0))

unfoldable pub marked : List ℕ → ℕ → List ℕ
marked m c = pick (eqb c 0) m (set m (c - 1) 1)

-- what is left to be claimed
unfoldable pub left_by : ℕ → ℕ → ℕ
left_by left c = pick (eqb c 0) left (left - 1)

-- n items from item k on, with the marks m
unfoldable pub scan : (ℕ → ℕ) → ℕ → ℕ → List ℕ → ℕ → Bool
scan f zero k m left = eqb left 0
scan f (suc n) k m left = pick (takes m (f k)) (scan f n (suc k) (marked m (f k)) (left_by left (f k))) false

-- ---- what the marks stand for

-- claims nothing, or a number that is not marked
abbrev fresh : List ℕ → ℕ → Bool
fresh m c = either (eqb c 0) (eqb (get_or m (c - 1) 0) 0)

abbrev all_fresh : (ℕ → ℕ) → List ℕ → ℕ → ℕ → Bool
all_fresh f m k zero = true
all_fresh f m k (suc n) = both (fresh m (f k)) (all_fresh f m (suc k) n)

fresh_set : (m : List ℕ) (c x : ℕ) → 0 < c → c ≤ length m → fresh (set m (c - 1) 1) x ≡ both (fresh m x) (not (eqb x c))
fresh_set m c x hc hm = elim (ℕ_discrete x 0) [
  | yes e ↦ rw (eq-eqb x 0 e, ne_eqb x c (λ z. omega arith))
  | no ne ↦ elim (ℕ_discrete x c) [
    | yes e ↦
        let g : get_or (set m (c - 1) 1) (x - 1) 0 ≡ 1 = ap (λ k. get_or (set m (c - 1) 1) (k - 1) 0) e ∙ get_or-set_same m (c - 1) 1 0 (omega arith) in
        rw (ne_eqb x 0 ne, g, eq-eqb x c e) (sym (both-no (eqb (get_or m (x - 1) 0) 0)))
    | no e ↦
        let g : get_or (set m (c - 1) 1) (x - 1) 0 ≡ get_or m (x - 1) 0 = get_or-set_other m (c - 1) (x - 1) 1 0 (λ z. e (omega arith)) in
        rw (ne_eqb x 0 ne, g, ne_eqb x c e) (sym (both_yes (eqb (get_or m (x - 1) 0) 0)))
  ]
]
  where
    both-no : (a : Bool) → both a false ≡ false
    both-no true = refl
    both-no false = refl

    both_yes : (a : Bool) → both a true ≡ a
    both_yes true = refl
    both_yes false = refl

step : (a b c d : Bool) → both (both a (not b)) (both c (not d)) ≡ both (both a c) (not (either b d))
step true true true d = refl
step true true false d = refl
step true false c d = refl
step false b c d = refl

all_set : (f : ℕ → ℕ) (m : List ℕ) (c k n : ℕ) → 0 < c → c ≤ length m → all_fresh f (set m (c - 1) 1) k n ≡ both (all_fresh f m k n) (not (claimed f c k n))
all_set f m c k zero hc hm = refl
all_set f m c k (suc n) hc hm =
    (λ i. both (fresh_set m c (f k) hc hm i) (all_set f m c (suc k) n hc hm i))
    ∙ step (fresh m (f k)) (eqb (f k) c) (all_fresh f m (suc k) n) (claimed f c (suc k) n)

turn : (a b c d : Bool) → both (both (both a b) c) d ≡ both (both a (both b c)) d
turn true b c d = refl
turn false b c d = refl

dead : (a b c : Bool) → both (both a (both false b)) c ≡ false
dead true b c = refl
dead false b c = refl

count_left : (left n : ℕ) → leb (left - 1) n ≡ leb left (1 + n)
count_left left n = elim (cmp n (left - 1)) [
  | lt h ↦ lt-leb (left - 1) n h ∙ sym (lt-leb left (1 + n) (omega arith))
  | ge h ↦ le-leb (left - 1) n h ∙ sym (le-leb left (1 + n) (omega arith))
]

none_left : (left : ℕ) → eqb left 0 ≡ leb left 0
none_left left = elim (ℕ_discrete left 0) [
  | yes e ↦ eq-eqb left 0 e ∙ sym (le-leb left 0 (omega arith))
  | no e ↦ ne_eqb left 0 e ∙ sym (lt-leb left 0 (pos left e))
]
  where
    pos : (k : ℕ) → (k ≡ 0 → ⊥) → 0 < k
    pos zero h = absurd (h refl)
    pos (suc k) h = omega arith

abbrev whole : (ℕ → ℕ) → ℕ → ℕ → List ℕ → ℕ → Bool
whole f n k m left = both (both (all_fresh f m k n) (claims_fit f (length m) k n)) (leb left (claim_count f k n))

Whole : (ℕ → ℕ) → ℕ → Type 0
Whole f n = (k : ℕ) (m : List ℕ) (left : ℕ) → scan f n k m left ≡ whole f n k m left

scan-suc : (f : ℕ → ℕ) (n : ℕ) → Whole f n → Whole f (suc n)
unfolding Whole scan takes marked left_by
scan-suc f n ih k m left = elim (ℕ_discrete (f k) 0) [
  | yes e ↦
      let z : claim_count f (suc k) n ≡ 0 + claim_count f (suc k) n = omega arith in
      rw (eq-eqb (f k) 0 e) (ih (suc k) m left ∙ ap (λ c. both (both (all_fresh f m (suc k) n) (claims_fit f (length m) (suc k) n)) (leb left c)) z)
  | no ne ↦ elim (cmp (length m) (f k)) [
    | lt h ↦ rw (ne_eqb (f k) 0 ne, lt-leb (f k) (length m) h) (sym (dead (both (eqb (get_or m (f k - 1) 0) 0) (all_fresh f m (suc k) n)) (claims_fit f (length m) (suc k) n) (leb left (1 + claim_count f (suc k) n))))
    | ge h ↦ elim (ℕ_discrete (get_or m (f k - 1) 0) 0) [
      | no x ↦ rw (ne_eqb (f k) 0 ne, ne_eqb (get_or m (f k - 1) 0) 0 x, le-leb (f k) (length m) h)
      | yes x ↦
          let s = set m (f k - 1) 1 in
          let l : length s ≡ length m = length-set m (f k - 1) 1 in
          rw (ne_eqb (f k) 0 ne, le-leb (f k) (length m) h, eq-eqb (get_or m (f k - 1) 0) 0 x)
          (ih (suc k) s (left - 1)
          ∙ (λ i. both (both (all_set f m (f k) (suc k) n (pos (f k) ne) h i) (claims_fit f (l i) (suc k) n)) (count_left left (claim_count f (suc k) n) i))
          ∙ turn (all_fresh f m (suc k) n) (not (claimed f (f k) (suc k) n)) (claims_fit f (length m) (suc k) n) (leb left (1 + claim_count f (suc k) n)))
    ]
  ]
]
  where
    pos : (k : ℕ) → (k ≡ 0 → ⊥) → 0 < k
    pos zero h = absurd (h refl)
    pos (suc k) h = omega arith

scan-whole : (f : ℕ → ℕ) (n : ℕ) → Whole f n
unfolding Whole scan
scan-whole f zero = λ k m left. none_left left
scan-whole f (suc n) = scan-suc f n (scan-whole f n)

-- ---- no marks at first

none-marked : (f : ℕ → ℕ) (j k n : ℕ) → all_fresh f (replicate j 0) k n ≡ true
none-marked f j k zero = refl
none-marked f j k (suc n) = rw (get_or-zeros j (f k - 1)) (yes (eqb (f k) 0) ∙ none-marked f j (suc k) n)
  where
    yes : (a : Bool) → both (either a true) (all_fresh f (replicate j 0) (suc k) n) ≡ all_fresh f (replicate j 0) (suc k) n
    yes true = refl
    yes false = refl

pub scan-holds : (f : ℕ → ℕ) (m : List ℕ) (n want : ℕ) → m ≡ replicate (length m) 0 → scan f n 0 m want ≡ claims_hold f (length m) n want
unfolding claims_hold Whole
scan-holds f m n want e =
    let z : all_fresh f m 0 n ≡ true = ap (λ l. all_fresh f l 0 n) e ∙ none-marked f (length m) 0 n in
    scan-whole f n 0 m want ∙ ap (λ b. both (both b (claims_fit f (length m) 0 n)) (leb want (claim_count f 0 n))) z
