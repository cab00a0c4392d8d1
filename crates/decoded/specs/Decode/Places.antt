-- The places from the read place up to the write place, in the ring's n places: how many they are, and which. Where the write place lies outside the
-- ring the walk never meets it, and goes on for as many places as it is let.
use Rattle.std.specs.Prelude.{◌≡◌, refl, ℕ, zero, suc, ◌+◌, ◌-◌, ◌%◌, ◌≤◌, ◌<◌, List, [], ◌∷◌, map, length, get_or}
use Rattle.std.proofs.Common.{sym, ap, ◌∙◌, arith, mod-eq_of_lt, mod-lt, eq-eqb, ne_eqb}
use Rattle.std.proofs.Math.Decide.{ℕ_discrete}
use Rattle.base.specs.Rounds.{wrap-add, along-first, next-along}
use Rattle.model.specs.Lists.{count_up}
use Rattle.tables.specs.declared.Update.{Update}
use Rattle.tables.specs.Tables.{no_update}
use Rattle.decoded.specs.Rows.{same_up}
use Rattle.decoded.specs.Decode.Read.{update_from, places_from}
use Rattle.decoded.specs.Decode.Walks.{map-map}

-- how far place k is behind place r, of n places, going round
abbrev pub along : ℕ → ℕ → ℕ → ℕ
along n r k = (k + n - r) % n

up-later : {A : Type 0} (f : ℕ → A) (k n : ℕ) → map f (count_up (suc k) n) ≡ map (λ j. f (suc j)) (count_up k n)
up-later f k zero = refl
up-later f k (suc n) = ap (λ l. f (suc k) ∷ l) (up-later f (suc k) n)

-- nothing stands from a place up to itself
stop : (n w k p : ℕ) → p < n → p ≡ w → places_from n w k p ≡ map (λ j. (p + j) % n) (count_up 0 (along n p w))
stop n w k p h e = none k ∙ sym (ap (λ m. map (λ j. (p + j) % n) (count_up 0 m)) (ap (along n p) (sym e) ∙ along-first n p h))
  where
    none : (k : ℕ) → places_from n w k p ≡ []
    none zero = refl
    none (suc k) = rw (eq-eqb p w e)

-- one place, and then those from the next place on
more : (n w p m : ℕ) → p < n → along n p w ≡ suc m → p ∷ map (λ j. ((p + 1) % n + j) % n) (count_up 0 m) ≡ map (λ j. (p + j) % n) (count_up 0 (along n p w))
more n w p m h e =
    let first : p ≡ (p + 0) % n = let z : p ≡ p + 0 = omega arith in sym (mod-eq_of_lt h) ∙ ap (λ x. x % n) z in
    let rest = same_up (λ j. ((p + 1) % n + j) % n) (λ j. (p + suc j) % n) m (λ j b. let z : p + 1 + j ≡ p + suc j = omega arith in wrap-add n (p + 1) j (omega arith) ∙ ap (λ x. x % n) z) ∙ sym (up-later (λ j. (p + j) % n) 0 m) in
    (λ i. first i ∷ rest i) ∙ sym (ap (λ k. map (λ j. (p + j) % n) (count_up 0 k)) e)

pub places-are : (n w : ℕ) → w < n → (k p : ℕ) → p < n → along n p w ≤ k → places_from n w k p ≡ map (λ j. (p + j) % n) (count_up 0 (along n p w))
places-are n w hw zero p hp b = elim (ℕ_discrete p w) [
  | yes e ↦ stop n w zero p hp e
  | no ne ↦ absurd (omega (arith, next-along n p hp w hw (λ e. ne (sym e))))
]
places-are n w hw (suc k) p hp b = elim (ℕ_discrete p w) [
  | yes e ↦ stop n w (suc k) p hp e
  | no ne ↦
      let m = next-along n p hp w hw (λ e. ne (sym e)) in
      rw (ne_eqb p w ne) (ap (λ l. p ∷ l) (places-are n w hw k ((p + 1) % n) (mod-lt (p + 1) {m = n} (omega arith)) (omega (arith, m))) ∙ more n w p (along n ((p + 1) % n) w) hp m)
]

pub places-outside : (n w : ℕ) → n ≤ w → (k p : ℕ) → p < n → length (places_from n w k p) ≡ k
places-outside n w h zero p hp = refl
places-outside n w h (suc k) p hp = rw (ne_eqb p w (λ e. omega arith)) (ap suc (places-outside n w h k ((p + 1) % n) (mod-lt (p + 1) {m = n} (omega arith))))

-- the queue's updates, by number
pub items-are : (n r w : ℕ) → r < n → w < n → (l : List Update) (ms : List ℕ)
    → map (λ k. update_from (get_or l k no_update) (get_or ms k 0)) (places_from n w n r) ≡ map (λ j. update_from (get_or l ((r + j) % n) no_update) (get_or ms ((r + j) % n) 0)) (count_up 0 (along n r w))
items-are n r w hr hw l ms =
    ap (map (λ k. update_from (get_or l k no_update) (get_or ms k 0))) (places-are n w hw n r hr (omega (arith, mod-lt (w + n - r) {m = n} (omega arith))))
    ∙ map-map (λ k. update_from (get_or l k no_update) (get_or ms k 0)) (λ j. (r + j) % n) (count_up 0 (along n r w))
