-- Numbers that go round: places of a ring of n places from f on, and how far along a place is.
use Rattle.std.specs.Prelude.{◌≡◌, ◌≢◌, ℕ, suc, ◌+◌, ◌-◌, ◌%◌, ◌≤◌, ◌<◌}
use Rattle.std.proofs.Common.{sym, ap, ◌∙◌, arith, mod-eq_of_lt, mod-lt}
use Rattle.std.proofs.Math.Nat.{add-mod_right}
use Rattle.base.specs.Cases.{lt, ge, cmp}

module _ (n : ℕ) where
  wrap-above : (a : ℕ) → n ≤ a → a < n + n → a % n ≡ a - n
  wrap-above a h k = let e : a ≡ a - n + n = omega arith in ap (λ (x : ℕ). x % n) e ∙ add-mod_right (a - n) n ∙ mod-eq_of_lt (omega arith)

  -- going round early or late is the same
  pub wrap-add : (a b : ℕ) → a < n + n → (a % n + b) % n ≡ (a + b) % n
  wrap-add a b h = elim (cmp a n) [
    | lt l ↦ ap (λ (x : ℕ). (x + b) % n) (mod-eq_of_lt l)
    | ge l ↦
        let e : a + b ≡ a - n + b + n = omega arith in
        ap (λ (x : ℕ). (x + b) % n) (wrap-above a l h) ∙ sym (ap (λ (x : ℕ). x % n) e ∙ add-mod_right (a - n + b) n)
  ]

  module _ (f : ℕ) (hf : f < n) where
    -- how far place k is from place f on
    pub along-below : (k : ℕ) → k < f → (k + n - f) % n ≡ k + n - f
    along-below k h = mod-eq_of_lt (omega arith)

    pub along-above : (k : ℕ) → f ≤ k → k < n → (k + n - f) % n ≡ k - f
    along-above k h l = wrap-above (k + n - f) (omega arith) (omega arith) ∙ omega arith

    -- place f + m is m along, and no other place is
    pub along-at : (m : ℕ) → m < n → ((f + m) % n + n - f) % n ≡ m
    along-at m h = elim (cmp (f + m) n) [
      | lt l ↦ rw (mod-eq_of_lt l) (along-above (f + m) (omega arith) l ∙ omega arith)
      | ge l ↦ rw (wrap-above (f + m) l (omega arith)) (along-below (f + m - n) (omega arith) ∙ omega arith)
    ]

    pub along-other : (m k : ℕ) → m < n → k < n → k ≢ (f + m) % n → (k + n - f) % n ≢ m
    along-other m k h l ne e = elim (cmp k f) [
      | lt a ↦ ne (omega (arith, e, along-below k a, wrap-above (f + m) (omega (arith, e, along-below k a)) (omega arith)))
      | ge a ↦ let u : f + m < n = omega (arith, e, along-above k a l) in ne (omega (arith, e, along-above k a l, mod-eq_of_lt u))
    ]

pub along-first : (n f : ℕ) → f < n → (f + n - f) % n ≡ 0
along-first n f hf = along-above n f hf f (omega arith) hf ∙ omega arith

-- only f itself is nothing along
pub round-again : (n f m : ℕ) → f < n → m < n → (f + m) % n ≡ f → m ≡ 0
round-again n f m hf h e =
    sym (along-at n f hf m h) ∙ ap (λ (x : ℕ). (x + n - f) % n) e ∙ along-first n f hf

-- from the next place on place f is the last, and every other is one less along
module _ (n f : ℕ) (hf : f < n) where
  pub next-below : (f + 1) % n < n
  next-below = mod-lt (f + 1) {m = n} (omega arith)

  pub next_last : (f + n - (f + 1) % n) % n ≡ n - 1
  next_last =
      let e : ((f + 1) % n + (n - 1)) % n ≡ f = wrap-add n (f + 1) (n - 1) (omega arith) ∙ ap (λ (x : ℕ). x % n) (omega arith) ∙ add-mod_right f n ∙ mod-eq_of_lt hf in
      ap (λ (x : ℕ). (x + n - (f + 1) % n) % n) (sym e) ∙ along-at n ((f + 1) % n) next-below (n - 1) (omega arith)

  pub next-along : (k : ℕ) → k < n → k ≢ f → (k + n - f) % n ≡ suc ((k + n - (f + 1) % n) % n)
  next-along k l ne = elim (cmp (f + 1) n) [
    | lt a ↦ rw (mod-eq_of_lt a) (elim (cmp k f) [
      | lt b ↦ omega (arith, along-below n f hf k b, along-below n (f + 1) a k (omega arith))
      | ge b ↦ elim (cmp f k) [
        | lt c ↦ omega (arith, along-above n f hf k b l, along-above n (f + 1) a k (omega arith) l)
        | ge c ↦ absurd (ne (omega arith))
      ]
    ])
    | ge a ↦
        let z : (f + 1) % n ≡ 0 = wrap-above n (f + 1) a (omega arith) ∙ omega arith in
        rw z (elim (cmp k f) [
          | lt b ↦ omega (arith, along-below n f hf k b, along-above n 0 (omega arith) k (omega arith) l)
          | ge b ↦ absurd (ne (omega arith))
        ])
  ]
