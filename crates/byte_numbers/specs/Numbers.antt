-- A number of some bytes, byte by byte. Past the end every byte counts as 0, so no law asks how many bytes there are.
use Rattle.std.specs.Prelude.{◌≡◌, refl, ℕ, zero, suc, ◌+◌, ◌-◌, ◌*◌, ◌≤◌, ◌<◌, ◌^◌, List, [], ◌∷◌, get_or, take, drop}
use Rattle.std.proofs.Common.{arith, pow-suc}

-- The lowest byte stands first.
abbrev pub number : List ℕ → ℕ
number [] = 0
number (b ∷ l) = b + 256 * number l

-- Every element is a byte.
abbrev pub Bytes : List ℕ → Type 0
Bytes l = (i : ℕ) → get_or l i 0 < 256

take_none : (n : ℕ) → take {A = ℕ} n [] ≡ []
take_none zero = refl
take_none (suc n) = refl

none-at : (n : ℕ) → 0 ≡ 0 + 256 * number (take n [])
none-at n = rw (take_none n)

-- the byte at a, and those behind it
pub number_at : (n a : ℕ) (l : List ℕ) → number (take (suc n) (drop a l)) ≡ get_or l a 0 + 256 * number (take n (drop (suc a) l))
number_at n zero [] = none-at n
number_at n (suc a) [] = none-at n
number_at n zero (x ∷ l) = refl
number_at n (suc a) (x ∷ l) = number_at n a l

-- read from the last byte on: a byte more in front of e - k bytes
pub number_more : (l : List ℕ) (e k n x : ℕ) → 0 < k → k ≤ e → x ≡ get_or l (k - 1) 0 → n ≡ number (take (e - k) (drop k l)) → 256 * n + x ≡ number (take (e - (k - 1)) (drop (k - 1) l))
number_more l e k n x low high h g =
    let f : e - (k - 1) ≡ suc (e - k) = omega arith in
    let s : suc (k - 1) ≡ k = omega arith in
    let t = number_at (e - k) (k - 1) l in
    rw f (omega (arith, rw s at t))

-- ---- what n bytes can say

module _ (l : List ℕ) (h : Bytes l) where
  pub number_fits : (n a : ℕ) → number (take n (drop a l)) < 256 ^ n
  number_fits zero a = omega arith
  number_fits (suc n) a = rw (number_at n a l, pow-suc) (omega (arith, number_fits n (suc a), h a))

  pub eight_fits : (a : ℕ) → number (take 8 (drop a l)) < 2 ^ 64
  eight_fits a = number_fits 8 a
