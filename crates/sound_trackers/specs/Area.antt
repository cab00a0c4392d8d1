-- Two runs of equal length in a work area, one from its start on and one from its middle on: each is read and replaced by itself, and with both
-- cleared the area is as it was.
use Rattle.std.specs.Prelude.{◌≡◌, refl, ℕ, zero, suc, ◌+◌, ◌-◌, ◌*◌, ◌/◌, ◌≤◌, set, take, drop}
use Rattle.std.proofs.Math.Path.{sym, ap}
use Rattle.std.proofs.Common.{◌∙◌, add-zero}
use mathlib.Core.List.{List}
use native.Mathlib.Omega.{arith}
use borrow.Rule.Slice.PartMut.{put_mid}
use Rattle.std.proofs.Math.ListN.{length}
use Rattle.std.proofs.Math.Seq.{sets, length-sets}
use Rattle.std.proofs.lemmas.List.{set-get_or}
use Rattle.base.specs.Lists.{get_or-zeros}
use Rattle.words.specs.Runs.{part, part_in, part-after, length_part, sets-all, lent_back}
use Rattle.words.specs.Stores.{sets-apart, sets_over}
use Rattle.words.specs.Zeros.{zeros}

-- where the second run begins
abbrev pub middle : List ℕ → ℕ
middle w = 2 * (length w / 4)

unfoldable pub two : List ℕ → List ℕ → List ℕ → List ℕ
two w a b = sets (sets w 0 a) (middle w) b

-- u is w with the runs a and b of k words each
pub record Two (w a b : List ℕ) (k : ℕ) (u : List ℕ) : Type 0 where
  pub is : u ≡ two w a b
  pub first : length a ≡ k
  pub second : length b ≡ k
  pub fits : k ≤ middle w

module _ (w a b : List ℕ) (k : ℕ) (u : List ℕ) (t : Two w a b k u) where
  pub two-long : length u ≡ length w
  unfolding two
  two-long = ap length t.is ∙ length-sets (sets w 0 a) (middle w) b ∙ length-sets w 0 a

  -- what is lent of each run
  pub first-lent : take (k - 0) u ≡ a
  unfolding two part
  first-lent =
      let z : k - 0 ≡ k = omega arith in
      let e : length (part w 0 k) ≡ length a = length_part w 0 k (omega (arith, t.fits)) ∙ sym t.first in
      rw (z, t.is) (part-after (sets w 0 a) b 0 k (middle w) (omega (arith, t.fits)) ∙ part_in w a 0 k 0 (omega (arith, t.first)) ∙ sets-all a (part w 0 k) e)

  pub second-lent : (h : ℕ) → h ≡ middle w → take (h + k - h) (drop h u) ≡ b
  unfolding two part
  second-lent h eh =
      let z : h + k - h ≡ k = omega arith in
      let v = sets w 0 a in
      let e : length (part v (middle w) k) ≡ length b = length_part v (middle w) k (omega (arith, t.fits, length-sets w 0 a)) ∙ sym t.second in
      rw (z, eh, t.is) (rw (add-zero (middle w)) at (part_in v b (middle w) k 0 (omega (arith, t.second))) ∙ sets-all b (part v (middle w) k) e)

  -- other words back for one of them
  module _ (p : List ℕ) where
    pub first_back : length p ≡ k → Two w p b k (put_mid 0 (k - 0) u p)
    unfolding two
    first_back h =
        let z : k - 0 ≡ k = omega arith in
        record {
          is =
              lent_back u p 0 (k - 0) k z h (omega (arith, t.fits, two-long))
              ∙ ap (λ (x : List ℕ). sets x 0 p) t.is
              ∙ sym (sets-apart p b (sets w 0 a) 0 (middle w) (omega (arith, t.fits)))
              ∙ ap (λ (x : List ℕ). sets x (middle w) b) (sets_over a p w 0 (t.first ∙ sym h));
          first = h;
          second = t.second;
          fits = t.fits;
        }

    pub second_back : (m : ℕ) → m ≡ middle w → length p ≡ k → Two w a p k (put_mid m (m + k - m) u p)
    unfolding two
    second_back m em h =
        let z : m + k - m ≡ k = omega arith in
        record {
          is =
              lent_back u p m (m + k - m) k z h (omega (arith, t.fits, two-long))
              ∙ ap (λ (i : ℕ). sets u i p) em
              ∙ ap (λ (x : List ℕ). sets x (middle w) p) t.is
              ∙ sets_over b p (sets w 0 a) (middle w) (t.second ∙ sym h);
          first = t.first;
          second = h;
          fits = t.fits;
        }

-- ---- zeros

set-zero : (n i : ℕ) → set (zeros n) i 0 ≡ zeros n
set-zero n i = ap (set (zeros n) i) (sym (get_or-zeros n i)) ∙ set-get_or (zeros n) i 0

sets-zeros : (n i k : ℕ) → sets (zeros n) i (zeros k) ≡ zeros n
sets-zeros n i zero = refl
sets-zeros n i (suc k) = ap (λ (x : List ℕ). sets x (suc i) (zeros k)) (set-zero n i) ∙ sets-zeros n (suc i) k

pub two-cleared : (w a b : List ℕ) (k : ℕ) (u : List ℕ) → w ≡ zeros (length w) → a ≡ zeros k → b ≡ zeros k → Two w a b k u → u ≡ w
unfolding two
two-cleared w a b k u z ea eb t =
    let n = length w in
    let e : sets (zeros n) 0 a ≡ zeros n = ap (sets (zeros n) 0) ea ∙ sets-zeros n 0 k in
    let f : sets (zeros n) (middle w) b ≡ zeros n = ap (sets (zeros n) (middle w)) eb ∙ sets-zeros n (middle w) k in
    t.is ∙ ap (λ (x : List ℕ). sets (sets x 0 a) (middle w) b) z ∙ ap (λ (x : List ℕ). sets x (middle w) b) e ∙ f ∙ sym z
