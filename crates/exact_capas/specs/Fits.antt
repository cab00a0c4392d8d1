-- What a walk of claims tells: no item claims a number above the last, and no two items claim the same number. As many claims as numbers that may be
-- claimed leave none of these out.
use Rattle.std.specs.Prelude.{◌≡◌, refl, ℕ, zero, suc, ◌+◌, ◌≤◌, ◌<◌, Bool, true, false, not, eqb, leb}
use Rattle.std.proofs.Common.{sym, ap, ◌∙◌, arith, leb-true, le-leb, eq-eqb, ne_eqb}
use Rattle.std.proofs.Math.Decide.{ℕ_discrete}
use Rattle.std.proofs.lemmas.Bool.{not-true}
use Rattle.base.specs.Cases.{pick, lt, ge, cmp}
use Rattle.base.specs.Tests.{both_true, true-false}
use Rattle.model.specs.Lists.{one_if}
use Rattle.laws.specs.Stack.{one, one_at_most}
use Rattle.laws.specs.Tree.Sum.{sum, sum-add, sum-zero, sum_same, sum-at}
use Rattle.claims.specs.Claims.{either, claimed, claim_fits, claims_fit, claim_count, claims_hold}

-- among the n items from item k on
pub record FitFrom (f : ℕ → ℕ) (m k n : ℕ) : Type 0 where
  pub within : (i : ℕ) → k ≤ i → i < k + n → f i ≤ m
  pub once : (i j : ℕ) → k ≤ i → i < j → j < k + n → 0 < f i → f i ≡ f j → ⊥

-- ---- one number

claimed-no : (f : ℕ → ℕ) (c k n : ℕ) → claimed f c k n ≡ false → (i : ℕ) → k ≤ i → i < k + n → f i ≡ c → ⊥
claimed-no f c k zero h i a b e = omega arith
claimed-no f c k (suc n) h i a b e = elim (ℕ_discrete k i) [
  | yes z ↦ true-false refl (rw (eq-eqb (f k) c (ap f z ∙ e)) at h)
  | no ne ↦ claimed-no f c (suc k) n (or-false (eqb (f k) c) (claimed f c (suc k) n) h) i (more k i a ne) (omega arith) e
]
  where
    or-false : (a b : Bool) → either a b ≡ false → b ≡ false
    or-false true b h = absurd (true-false refl h)
    or-false false b h = h

    more : (k i : ℕ) → k ≤ i → (k ≡ i → ⊥) → suc k ≤ i
    more k i a ne = elim (cmp k i) [ lt h ↦ h | ge h ↦ absurd (ne (omega arith)) ]

no-claimed : (f : ℕ → ℕ) (c k n : ℕ) → ((i : ℕ) → k ≤ i → i < k + n → f i ≡ c → ⊥) → claimed f c k n ≡ false
no-claimed f c k zero h = refl
no-claimed f c k (suc n) h = rw (ne_eqb (f k) c (h k (omega arith) (omega arith))) (no-claimed f c (suc k) n (λ i a b. h i (omega arith) (omega arith)))

-- ---- the test

pub fits_out : (f : ℕ → ℕ) (m k n : ℕ) → claims_fit f m k n ≡ true → FitFrom f m k n
fits_out f m k zero h = record { within = λ i a b. absurd (omega arith); once = λ i j a b d. absurd (omega arith) }
fits_out f m k (suc n) h =
    let u = both_true (claim_fits f m k n) (claims_fit f m (suc k) n) h in
    fits_suc f m k n u.0 (fits_out f m (suc k) n u.1)
  where
    first : (f : ℕ → ℕ) (m k n : ℕ) → claim_fits f m k n ≡ true → 0 < f k → (f k ≤ m) × (claimed f (f k) (suc k) n ≡ false)
    first f m k n h p =
        let u = both_true (leb (f k) m) (not (claimed f (f k) (suc k) n)) (rw (ne_eqb (f k) 0 (λ e. omega arith)) at h) in
        (leb-true (f k) m u.0, not-true (claimed f (f k) (suc k) n) u.1)

    fits_suc : (f : ℕ → ℕ) (m k n : ℕ) → claim_fits f m k n ≡ true → FitFrom f m (suc k) n → FitFrom f m k (suc n)
    fits_suc f m k n h r = record {
      within = λ i a b. elim (cmp k i) [
        | lt q ↦ r.within i q (omega arith)
        | ge q ↦ let e : k ≡ i = omega arith in ap-le e (elim (cmp 0 (f k)) [ lt p ↦ (first f m k n h p).0 | ge p ↦ omega arith ])
      ];
      once = λ i j a b d p e. elim (cmp k i) [
        | lt q ↦ r.once i j q b (omega arith) p e
        | ge q ↦
            let z : i ≡ k = omega arith in
            claimed-no f (f k) (suc k) n (first f m k n h (omega (arith, ap f z))).1 j (omega arith) (omega arith) (sym e ∙ ap f z)
      ];
    }
      where
        ap-le : {x y : ℕ} → x ≡ y → f x ≤ m → f y ≤ m
        ap-le e h = omega (arith, ap f e)

pub out-fits : (f : ℕ → ℕ) (m k n : ℕ) → FitFrom f m k n → claims_fit f m k n ≡ true
out-fits f m k zero r = refl
out-fits f m k (suc n) r = rw (first, out-fits f m (suc k) n (record { within = λ i a b. r.within i (omega arith) (omega arith); once = λ i j a b d. r.once i j (omega arith) b (omega arith) }))
  where
    first : claim_fits f m k n ≡ true
    first = elim (cmp 0 (f k)) [
      | lt p ↦ rw (ne_eqb (f k) 0 (λ e. omega arith), le-leb (f k) m (r.within k (omega arith) (omega arith)), no-claimed f (f k) (suc k) n (λ i a b e. r.once k i (omega arith) (omega arith) (omega arith) p (sym e)))
      | ge p ↦ rw (eq-eqb (f k) 0 (omega arith))
    ]

-- ---- how often a number is claimed

abbrev pub times : (ℕ → ℕ) → ℕ → ℕ → ℕ → ℕ
times f c k zero = 0
times f c k (suc n) = one_if (eqb (f k) c) + times f c (suc k) n

pub times_none : (f : ℕ → ℕ) (c k n : ℕ) → ((i : ℕ) → k ≤ i → i < k + n → f i ≡ c → ⊥) → times f c k n ≡ 0
times_none f c k zero h = refl
times_none f c k (suc n) h = omega (arith, ap one_if (ne_eqb (f k) c (h k (omega arith) (omega arith))), times_none f c (suc k) n (λ i a b. h i (omega arith) (omega arith)))

-- an item that claims c
pub record By (f : ℕ → ℕ) (c k n : ℕ) : Type 0 where
  pub item : ℕ
  pub low : k ≤ item
  pub high : item < k + n
  pub claims : f item ≡ c

pub times-by : (f : ℕ → ℕ) (c k n : ℕ) → 0 < times f c k n → By f c k n
times-by f c k zero h = absurd (omega arith)
times-by f c k (suc n) h = elim (ℕ_discrete (f k) c) [
  | yes e ↦ record { item = k; low = omega arith; high = omega arith; claims = e }
  | no ne ↦ later (times-by f c (suc k) n (omega (arith, ap one_if (ne_eqb (f k) c ne))))
]
  where
    later : By f c (suc k) n → By f c k (suc n)
    later b = record { item = b.item; low = omega (arith, b.low); high = omega (arith, b.high); claims = b.claims }

pub by-times : (f : ℕ → ℕ) (c k n i : ℕ) → k ≤ i → i < k + n → f i ≡ c → 0 < times f c k n
by-times f c k zero i a b e = absurd (omega arith)
by-times f c k (suc n) i a b e = elim (cmp k i) [
  | lt q ↦ omega (arith, by-times f c (suc k) n i q (omega arith) e)
  | ge q ↦ let z : k ≡ i = omega arith in omega (arith, one (f k) c (ap f z ∙ e))
]

pub times-once : (f : ℕ → ℕ) (m c k n : ℕ) → FitFrom f m k n → times f (suc c) k n ≤ 1
times-once f m c k zero r = omega arith
times-once f m c k (suc n) r = elim (ℕ_discrete (f k) (suc c)) [
  | yes e ↦ omega (arith, one_at_most (eqb (f k) (suc c)), times_none f (suc c) (suc k) n (λ i a b z. r.once k i (omega arith) (omega arith) (omega arith) (omega arith) (e ∙ sym z)))
  | no ne ↦ omega (arith, ap one_if (ne_eqb (f k) (suc c) ne), times-once f m c (suc k) n (record { within = λ i a b. r.within i (omega arith) (omega arith); once = λ i j a b d. r.once i j (omega arith) b (omega arith) }))
]

-- ---- counted by their numbers

pub count-sum : (f : ℕ → ℕ) (m k n : ℕ) → ((i : ℕ) → k ≤ i → i < k + n → f i ≤ m) → claim_count f k n ≡ sum (λ c. times f (suc c) k n) m
count-sum f m k zero h = sym (sum-zero m)
count-sum f m k (suc n) h =
    omega (arith, first (f k) (h k (omega arith) (omega arith)), count-sum f m (suc k) n (λ i a b. h i (omega arith) (omega arith)), sum-add (λ c. one_if (eqb (f k) (suc c))) (λ c. times f (suc c) (suc k) n) (λ c. times f (suc c) k (suc n)) m (λ c b. refl))
  where
    first : (x : ℕ) → x ≤ m → pick (eqb x 0) 0 1 ≡ sum (λ c. one_if (eqb x (suc c))) m
    first zero b = sym (sum_same (λ c. one_if (eqb 0 (suc c))) (λ c. 0) m (λ c d. ap one_if (ne_eqb 0 (suc c) (λ e. omega arith))) ∙ sum-zero m)
    first (suc x) b =
        let at = sum-at (λ c. one_if (eqb (suc x) (suc c))) m x (omega arith) (λ c ne. ap one_if (ne_eqb (suc x) (suc c) (λ e. ne (omega arith)))) in
        ap (λ b. pick b 0 1) (ne_eqb (suc x) 0 (λ e. omega arith)) ∙ sym (at ∙ one (suc x) (suc x) refl)

-- ---- sums that do not leave room

pub sum_below : (w v : ℕ → ℕ) (n : ℕ) → ((k : ℕ) → k < n → w k ≤ v k) → sum w n ≤ sum v n
sum_below w v zero h = omega arith
sum_below w v (suc n) h = omega (arith, sum_below w v n (λ k b. h k (omega arith)), h n (omega arith))

pub sum-tight : (w v : ℕ → ℕ) (n : ℕ) → ((k : ℕ) → k < n → w k ≤ v k) → sum v n ≤ sum w n → (k : ℕ) → k < n → w k ≡ v k
sum-tight w v zero h t k b = absurd (omega arith)
sum-tight w v (suc n) h t k b = elim (cmp k n) [
  | lt c ↦ sum-tight w v n (λ i d. h i (omega arith)) (omega (arith, h n (omega arith))) k c
  | ge c ↦ let e : n ≡ k = omega arith in omega (arith, sum_below w v n (λ i d. h i (omega arith)), h n (omega arith), ap w e, ap v e)
]

pub sum-split : (w : ℕ → ℕ) (n m : ℕ) → sum w (n + m) ≡ sum w n + sum (λ k. w (n + k)) m
sum-split w n zero = let e : n + 0 ≡ n = omega arith in omega (arith, ap (sum w) e)
sum-split w n (suc m) = let e : n + suc m ≡ suc (n + m) = omega arith in omega (arith, ap (sum w) e, sum-split w n m)

-- ---- the whole test

pub holds-out : (f : ℕ → ℕ) (m n want : ℕ) → claims_hold f m n want ≡ true → FitFrom f m 0 n × (want ≤ claim_count f 0 n)
unfolding claims_hold
holds-out f m n want h =
    let u = both_true (claims_fit f m 0 n) (leb want (claim_count f 0 n)) h in
    (fits_out f m 0 n u.0, leb-true want (claim_count f 0 n) u.1)

pub out-holds : (f : ℕ → ℕ) (m n want : ℕ) → FitFrom f m 0 n → want ≤ claim_count f 0 n → claims_hold f m n want ≡ true
unfolding claims_hold
out-holds f m n want r h = rw (out-fits f m 0 n r) (le-leb want (claim_count f 0 n) h)
