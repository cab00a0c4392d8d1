-- The list of holders (document 02, request 6): "domain slot rising, each domain once". Each live domain with reach above 0 stands there once and no other does, the
-- list rises, no other list does both, and a run that is too short for it holds the lowest slots.
use Rattle.std.specs.Prelude.{◌≡◌, refl, ℕ, zero, suc, ◌+◌, ◌≤◌, ◌<◌, Bool, true, false, ◌&&◌, List, [], ◌∷◌, eqb, length, take, drop}
use Rattle.std.proofs.Common.{sym, ap, subst, ◌∙◌, arith, eqb→eq, eq-eqb, ne_eqb}
use Rattle.std.proofs.Math.Option.{Option, none}
use Rattle.model.specs.Lists.{one_if, count_if, keep, Each, at_slot, count_up}
use Rattle.model.specs.State.{State, Domain}
use Rattle.model.specs.Readings.{is_holder, holders, fill_run}
use Rattle.base.specs.Tests.{true-is}
use Rattle.base.specs.Cases.{holds, fails, test, lt, ge, cmp}

-- ---- rising lists of slots

-- The numbers are n or above, each above the one before it.
abbrev pub RisingFrom : ℕ → List ℕ → Type 0
RisingFrom n [] = Unit {0}
RisingFrom n (d ∷ l) = (n ≤ d) × RisingFrom (suc d) l

rising-lower : (m n : ℕ) (l : List ℕ) → m ≤ n → RisingFrom n l → RisingFrom m l
rising-lower m n [] h r = tt
rising-lower m n (d ∷ l) h r = (omega (arith, r.0), r.1)

keep-rises : (p : ℕ → Bool) (d n : ℕ) → RisingFrom d (keep p (count_up d n))
keep-rises p d zero = tt
keep-rises p d (suc n) = elim (test (p d)) [
  | holds t ↦ rw t (omega arith, keep-rises p (suc d) n)
  | fails t ↦ rw t (rising-lower d (suc d) (keep p (count_up (suc d) n)) (omega arith) (keep-rises p (suc d) n))
]

-- what is below all of a rising list is not in it
rising-below : (n : ℕ) (l : List ℕ) → RisingFrom n l → (k : ℕ) → k < n → count_if (eqb k) l ≡ 0
rising-below n [] r k h = refl
rising-below n (d ∷ l) r k h = rw (ne_eqb k d (λ e. omega (arith, r.0))) (omega (arith, rising-below (suc d) l r.1 k (omega (arith, r.0))))

-- ---- each once

module _ (p : ℕ → Bool) where
  -- what the number i adds
  head : (k i : ℕ) (l : List ℕ) → count_if (eqb k) (keep p (i ∷ l)) ≡ one_if (eqb k i && p k) + count_if (eqb k) (keep p l)
  head k i l = elim (test (eqb k i)) [
    | holds u ↦ let same : p k ≡ p i = ap p (eqb→eq k i (true-is u)) in elim (test (p i)) [
      | holds t ↦ let e : p k ≡ true = same ∙ t in rw (t, u, e)
      | fails t ↦ let e : p k ≡ false = same ∙ t in rw (t, u, e) (omega arith)
    ]
    | fails u ↦ elim (test (p i)) [ holds t ↦ rw (t, u) | fails t ↦ rw (t, u) (omega arith) ]
  ]

  past : (d n k : ℕ) → d + n ≤ k → count_if (eqb k) (keep p (count_up d n)) ≡ 0
  past d zero k h = refl
  past d (suc n) k h = head k d (count_up (suc d) n) ∙ rw (ne_eqb k d (λ e. omega arith)) (omega (arith, past (suc d) n k (omega arith)))

  from : (d n k : ℕ) → d ≤ k → k < d + n → count_if (eqb k) (keep p (count_up d n)) ≡ one_if (p k)
  from d zero k h l = absurd (omega arith)
  from d (suc n) k h l = head k d (count_up (suc d) n) ∙ elim (cmp d k) [
    | lt u ↦ rw (ne_eqb k d (λ e. omega arith)) (omega (arith, from (suc d) n k u (omega arith)))
    | ge u ↦ rw (eq-eqb k d (omega arith)) (omega (arith, rising-below (suc d) (keep p (count_up (suc d) n)) (keep-rises p (suc d) n) k (omega arith)))
  ]

free-past : (l : List (Option Domain)) (d : ℕ) → length l ≤ d → at_slot l d ≡ none
free-past [] d h = refl
free-past (x ∷ l) zero h = absurd (omega arith)
free-past (x ∷ l) (suc d) h = free-past l d (omega arith)

pub holders-once : (a : ℕ) (s : State) (d : ℕ) → count_if (eqb d) (holders a s) ≡ one_if (is_holder s a d)
unfolding holders
holders-once a s d = elim (cmp d (length s.domains)) [
  | lt h ↦ from (is_holder s a) 0 (length s.domains) d (omega arith) (omega arith)
  | ge h ↦ past (is_holder s a) 0 (length s.domains) d (omega arith) ∙ rw (free-past s.domains d h)
]

-- ---- rising

pub holders-rise : (a : ℕ) (s : State) → RisingFrom 0 (holders a s)
unfolding holders
holders-rise a s = keep-rises (is_holder s a) 0 (length s.domains)

-- ---- no other list

self : (d : ℕ) (l : List ℕ) → count_if (eqb d) (d ∷ l) ≡ suc (count_if (eqb d) l)
self d l = rw (eq-eqb d d refl) (omega arith)

-- rising lists with the same numbers are the same
rising-same : (n : ℕ) (l m : List ℕ) → RisingFrom n l → RisingFrom n m → ((d : ℕ) → count_if (eqb d) l ≡ count_if (eqb d) m) → l ≡ m
rising-same n [] [] r q h = refl
rising-same n [] (y ∷ m) r q h = absurd (omega (arith, h y, self y m))
rising-same n (x ∷ l) [] r q h = absurd (omega (arith, h x, self x l))
rising-same n (x ∷ l) (y ∷ m) r q h = elim (cmp x y) [
  | lt u ↦ absurd (omega (arith, h x, self x l, rising-below (suc x) (y ∷ m) (u, q.1) x (omega arith)))
  | ge u ↦ elim (cmp y x) [
    | lt v ↦ absurd (omega (arith, h y, self y m, rising-below (suc y) (x ∷ l) (v, r.1) y (omega arith)))
    | ge v ↦
        let e : y ≡ x = omega arith in
        let tails : (d : ℕ) → count_if (eqb d) l ≡ count_if (eqb d) m = λ d. let k : one_if (eqb d y) ≡ one_if (eqb d x) = ap (λ z. one_if (eqb d z)) e in omega (arith, h d, k) in
        ap (λ z. z ∷ l) (sym e) ∙ ap (◌∷◌ y) (rising-same (suc x) l m r.1 (subst (λ z. RisingFrom (suc z) m) e q.1) tails)
  ]
]

pub holders-only : (a : ℕ) (s : State) (l : List ℕ) → RisingFrom 0 l → ((d : ℕ) → count_if (eqb d) l ≡ one_if (is_holder s a d)) → l ≡ holders a s
holders-only a s l r h = rising-same 0 l (holders a s) r (holders-rise a s) (λ d. h d ∙ sym (holders-once a s d))

-- ---- a run that is too short

fill-short : (l run : List ℕ) → length run ≤ length l → fill_run l run ≡ take (length run) l
fill-short l [] h = refl
fill-short [] (y ∷ run) h = absurd (omega arith)
fill-short (x ∷ l) (y ∷ run) h = ap (◌∷◌ x) (fill-short l run (omega arith))

rising-above : (k n : ℕ) (l : List ℕ) → RisingFrom n l → k < n → Each (λ d. k < d) l
rising-above k n [] r h = tt
rising-above k n (d ∷ l) r h = (omega (arith, r.0), rising-above k (suc d) l r.1 (omega (arith, r.0)))

rising-drop : (k n i : ℕ) (l : List ℕ) → RisingFrom n l → k < n → Each (λ d. k < d) (drop i l)
rising-drop k n zero l r h = rising-above k n l r h
rising-drop k n (suc i) [] r h = tt
rising-drop k n (suc i) (d ∷ l) r h = rising-drop k (suc d) i l r.1 (omega (arith, r.0))

rising-front : (n i : ℕ) (l : List ℕ) → RisingFrom n l → Each (λ k. Each (λ d. k < d) (drop i l)) (take i l)
rising-front n zero l r = tt
rising-front n (suc i) [] r = tt
rising-front n (suc i) (k ∷ l) r = (rising-drop k (suc k) i l r.1 (omega arith), rising-front (suc k) i l r.1)

-- Its places hold the list's first slots, and each is below all that are left out.
pub run-lowest : (a : ℕ) (s : State) (run : List ℕ) → length run ≤ length (holders a s) → let l = holders a s in let n = length run in
    (fill_run l run ≡ take n l) × Each (λ k. Each (λ d. k < d) (drop n l)) (fill_run l run)
run-lowest a s run h =
    let e = fill-short (holders a s) run h in
    (e, subst (Each (λ k. Each (λ d. k < d) (drop (length run) (holders a s)))) (sym e) (rising-front 0 (length run) (holders a s) (holders-rise a s)))
