-- One slot more is marked, and no other; what was marked in words that were all zero is cleared again.
use Rattle.std.specs.Prelude.{◌≡◌, refl, ◌≢◌, ℕ, ◌+◌, ◌-◌, ◌*◌, ◌/◌, ◌%◌, ◌^◌, ◌≤◌, ◌<◌, min, Bool, true, false, ◌||◌, List, ◌++◌, eqb, length, get_or, drop}
use Rattle.std.proofs.Common.{sym, ◌∙◌, arith, length-drop, get_or-set_same, get_or-drop, ext_get_or, shl_exact}
use Rattle.std.proofs.Math.Path.{ap}
use Rattle.std.proofs.Math.Nat.{zero-div}
use Rattle.std.proofs.Math.Decide.{ℕ_discrete}
use borrow.Author.Tests.{eq-eqb, ne_eqb, le-leb, lt-leb}
use Rattle.std.proofs.Math.ListN.{replicate, length-set}
use Rattle.std.proofs.lemmas.List.{length-replicate, replicate-append-replicate}
use Rattle.std.proofs.Math.Seq.{get_or-set_other}
use Rattle.base.specs.Lists.{get_or-zeros}
use Rattle.rights.specs.Bits.{bit, bit-or, bit-power}
use Rattle.marks.specs.Marks.{marked, with_mark, words_for, unmarked}

-- 1 shifted by less than 64 loses nothing
pub shifted : (i : ℕ) → (1 * 2 ^ (i % 64)) % 2 ^ 64 ≡ 2 ^ (i % 64)
shifted i = shl_exact {a = 1} 1 (i % 64) 64 (omega arith) (omega arith) ∙ omega arith

-- ---- a mark more

or-false : (b : Bool) → (b || false) ≡ b
or-false true = refl
or-false false = refl

or-true : (b : Bool) → (b || true) ≡ true
or-true true = refl
or-true false = refl

module _ (w : List ℕ) (i : ℕ) where
  pub mark-same : i / 64 < length w → marked (with_mark w i) i ≡ true
  unfolding marked with_mark
  mark-same h =
      ap (bit (i % 64)) (get_or-set_same w (i / 64) _ 0 h) ∙ bit-or (i % 64) (get_or w (i / 64) 0) (2 ^ (i % 64))
      ∙ ap (λ b. bit (i % 64) (get_or w (i / 64) 0) || b) (bit-power (i % 64) (i % 64) ∙ eq-eqb (i % 64) (i % 64) refl) ∙ or-true (bit (i % 64) (get_or w (i / 64) 0))

  pub mark-other : (j : ℕ) → i / 64 < length w → j ≢ i → marked (with_mark w i) j ≡ marked w j
  unfolding marked with_mark
  mark-other j h ne = elim (ℕ_discrete (j / 64) (i / 64)) [
    | no k ↦ ap (bit (j % 64)) (get_or-set_other w (i / 64) (j / 64) _ 0 k)
    | yes e ↦
        let d : j % 64 ≢ i % 64 = λ q. ne (omega arith) in
        ap (λ (n : ℕ). bit (j % 64) (get_or (with_mark w i) n 0)) e
        ∙ ap (bit (j % 64)) (get_or-set_same w (i / 64) _ 0 h) ∙ bit-or (j % 64) (get_or w (i / 64) 0) (2 ^ (i % 64))
        ∙ ap (λ b. bit (j % 64) (get_or w (i / 64) 0) || b) (bit-power (j % 64) (i % 64) ∙ ne_eqb (j % 64) (i % 64) d) ∙ or-false (bit (j % 64) (get_or w (i / 64) 0))
        ∙ ap (λ (n : ℕ). bit (j % 64) (get_or w n 0)) (sym e)
  ]

  -- a mark of one of n slots stands in their words
  pub mark-past : (n j : ℕ) → i < n → words_for n ≤ j → get_or (with_mark w i) j 0 ≡ get_or w j 0
  unfolding with_mark
  mark-past n j h k = get_or-set_other w (i / 64) j _ 0 (λ z. omega arith)

  pub mark-long : length (with_mark w i) ≡ length w
  unfolding with_mark
  mark-long = simp length-set

-- ---- none

-- words that are all 0
pub all-zero : (w : List ℕ) → ((j : ℕ) → get_or w j 0 ≡ 0) → w ≡ replicate (length w) 0
all-zero w h = ext_get_or 0 w (replicate (length w) 0) (sym (length-replicate (length w) 0)) (λ i b. h i ∙ sym (get_or-zeros (length w) i))

pub none-marked : (w : List ℕ) → w ≡ replicate (length w) 0 → (j : ℕ) → marked w j ≡ false
unfolding marked
none-marked w z j =
    ap (bit (j % 64)) (ap (λ (l : List ℕ). get_or l (j / 64) 0) z ∙ get_or-zeros (length w) (j / 64)) ∙ ap (λ (x : ℕ). eqb (x % 2) 1) (zero-div (2 ^ (j % 64)))

-- where nothing stands past the marks of n slots, no word is left
pub unmarked-zero : (w : List ℕ) (n : ℕ) → words_for n ≤ length w → ((j : ℕ) → words_for n ≤ j → get_or w j 0 ≡ 0) → unmarked w n ≡ replicate (length w) 0
unfolding unmarked
unmarked-zero w n b h =
    let k = words_for n in
    let e : k + (length w - k) ≡ length w = omega arith in
    let d : drop k w ≡ replicate (length w - k) 0 = all-zero (drop k w) (λ j. get_or-drop k w j 0 ∙ h (k + j) (omega arith)) ∙ ap (λ m. replicate m 0) (length-drop k w) in
    rw (le-leb k (length w) b) (ap (λ l. replicate k 0 ++ l) d ∙ replicate-append-replicate k (length w - k) 0 ∙ ap (λ m. replicate m 0) e)

-- ---- as the code clears

-- n / 64, rounded up
pub rounded : (n : ℕ) → n / 64 + min 1 (n % 64) ≡ words_for n
rounded n = omega arith

module _ (w : List ℕ) (n k : ℕ) (ek : k ≡ words_for n) where
  pub cleared : (p : List ℕ) → k ≤ length w → p ≡ replicate k 0 → p ++ drop k w ≡ unmarked w n
  unfolding unmarked
  cleared p h ep =
      ap (λ x. x ++ drop k w) ep ∙ ap (λ x. replicate x 0 ++ drop x w) ek ∙ rw (le-leb (words_for n) (length w) (omega arith))

  pub not-cleared : length w < k → w ≡ unmarked w n
  unfolding unmarked
  not-cleared h = rw (lt-leb (words_for n) (length w) (omega arith))
