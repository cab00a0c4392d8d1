-- The bytes at hand as a list, when more are read behind them and when some are taken.
use Rattle.std.specs.Prelude.{◌≡◌, ℕ, zero, suc, ◌+◌, ◌-◌, ◌≤◌, ◌<◌, List, [], ◌∷◌, ◌++◌, length, get_or, take, drop}
use Rattle.std.proofs.Common.{sym, ap, ◌∙◌, arith, length-take, length-drop, take-append-drop, ext_get_or, get_or-take, get_or-drop, drop-drop}
use Rattle.std.proofs.Math.Seq.{take-nil}
use Rattle.input.specs.declared.Buffered.{Buffered}
use Rattle.input.specs.Buffered.{Within, Keeps}

-- the bytes from `at` up to `end` of b
abbrev pub hand_of : Buffered → List ℕ → List ℕ
hand_of h b = take (h.end - h.at) (drop h.at b)

-- ---- read on: the bytes that were at hand are the first

hand_at : (h : Buffered) (b : List ℕ) (i : ℕ) → i < h.end - h.at → get_or (take (h.end - h.at) (drop h.at b)) i 0 ≡ get_or b (h.at + i) 0
hand_at h b i u = get_or-take (h.end - h.at) (drop h.at b) i 0 u ∙ get_or-drop h.at b i 0

hand-length : (h : Buffered) (b : List ℕ) → Within h (length b) → length (take (h.end - h.at) (drop h.at b)) ≡ h.end - h.at
hand-length h b w = omega (arith, length-take (h.end - h.at) (drop h.at b), length-drop h.at b, w.rising, w.inside)

module _ (h : Buffered) (b : List ℕ) (r : Buffered) (b₁ : List ℕ) (w : Within h (length b)) (v : Within r (length b₁)) (keeps : Keeps h b r b₁) where
  first-same : take (h.end - h.at) (take (r.end - r.at) (drop r.at b₁)) ≡ take (h.end - h.at) (drop h.at b)
  first-same =
      let n = h.end - h.at in
      let l = take (r.end - r.at) (drop r.at b₁) in
      let k = hand-length h b w in
      let e : length (take n l) ≡ length (take n (drop h.at b)) = omega (arith, length-take n l, hand-length r b₁ v, keeps.as_many, k) in
      ext_get_or 0 (take n l) (take n (drop h.at b)) e
      (λ i u.
      let m : i < n = omega (arith, u, e, k) in
      get_or-take n l i 0 m ∙ hand_at r b₁ i (omega (arith, keeps.as_many)) ∙ keeps.same i m ∙ sym (hand_at h b i m))

  pub hand-grows : hand_of r b₁ ≡ hand_of h b ++ drop (h.end - h.at) (hand_of r b₁)
  hand-grows = sym (take-append-drop (h.end - h.at) (take (r.end - r.at) (drop r.at b₁))) ∙ ap (λ (l : List ℕ). l ++ drop (h.end - h.at) (take (r.end - r.at) (drop r.at b₁))) first-same

-- ---- taken off

pub drop-take : (n m : ℕ) (l : List ℕ) → drop n (take m l) ≡ take (m - n) (drop n l)
drop-take zero m l = let e : m ≡ m - 0 = omega arith in ap (λ (j : ℕ). take j l) e
drop-take (suc n) zero l = let e : 0 ≡ 0 - suc n = omega arith in ap (λ (j : ℕ). take j (drop (suc n) l)) e
drop-take (suc n) (suc m) [] = sym (take-nil {A = ℕ} (suc m - suc n))
drop-take (suc n) (suc m) (x ∷ l) = let e : m - n ≡ suc m - suc n = omega arith in drop-take n m l ∙ ap (λ (j : ℕ). take j (drop n l)) e

-- the part that is lent, with `size` bytes taken off
pub hand-taken : (h : Buffered) (b : List ℕ) (size : ℕ) → drop size (hand_of h b) ≡ hand_of (record { at = h.at + size; end = h.end; source = h.source }) b
hand-taken h b size =
    let e : h.end - h.at - size ≡ h.end - (h.at + size) = omega arith in
    drop-take size (h.end - h.at) (drop h.at b) ∙ ap (take (h.end - h.at - size)) (drop-drop size h.at b) ∙ ap (λ (j : ℕ). take j (drop (h.at + size) b)) e

-- nothing at hand
pub hand-none : (h : Buffered) (b : List ℕ) → h.end ≤ h.at → hand_of h b ≡ []
hand-none h b u = let e : h.end - h.at ≡ 0 = omega arith in ap (λ (j : ℕ). take j (drop h.at b)) e

pub hand-some : (h : Buffered) (b : List ℕ) → Within h (length b) → h.at < h.end → 0 < length (hand_of h b)
hand-some h b w u = omega (arith, hand-length h b w)
