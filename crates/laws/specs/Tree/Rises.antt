-- A child list that rises by start, as a chain from a lower bound on; f gives the region of a slot.
-- It is `Ordered`, and it is kept where a child is added after its equals, and where one is removed.
use Rattle.std.specs.Prelude.{◌≡◌, refl, ◌≢◌, ℕ, ◌+◌, ◌≤◌, ◌<◌, List, [], ◌∷◌, map, eqb}
use Rattle.std.proofs.Common.{sym, ap, ◌∙◌, arith, eqb→eq, eq-eqb, ne_eqb, lt-ltb, le-ltb}
use Rattle.std.proofs.Math.Option.{Option}
use Rattle.base.specs.Cases.{lt, ge, cmp, holds, fails, test}
use Rattle.base.specs.Tests.{true-is, false-is}
use Rattle.model.specs.Lists.{one_if, count_if, Each, without}
use Rattle.model.specs.State.{Region, region_in}
use Rattle.model.specs.Tree.{insert_sorted}
use Rattle.model.specs.Sound.{Ordered}
use Rattle.laws.specs.Tree.Facts.{self}

abbrev pub Rises : (ℕ → Region) → ℕ → List ℕ → Type 0
Rises f lo [] = Unit {0}
Rises f lo (k ∷ ks) = (lo ≤ (f k).start) × Rises f (f k).start ks

-- ---- `Ordered` and `Rises`

abbrev pub starts : (ℕ → Region) → List ℕ → List ℕ
starts f ks = map (λ (c : Region). c.start) (map f ks)

pub ordered-rises : (f : ℕ → Region) (lo : ℕ) (ks : List ℕ) → Each (λ y. lo ≤ y) (starts f ks) → Ordered (starts f ks) → Rises f lo ks
ordered-rises f lo [] e o = tt
ordered-rises f lo (k ∷ ks) e o = (e.0, ordered-rises f (f k).start ks o.0 o.1)

pub rises-lower : (f : ℕ → Region) (lo lo' : ℕ) (ks : List ℕ) → lo' ≤ lo → Rises f lo ks → Rises f lo' ks
rises-lower f lo lo' [] h r = tt
rises-lower f lo lo' (k ∷ ks) h r = (omega arith, r.1)

rises-each : (f : ℕ → Region) (lo : ℕ) (ks : List ℕ) → Rises f lo ks → Each (λ y. lo ≤ y) (starts f ks)
rises-each f lo [] r = tt
rises-each f lo (k ∷ ks) r = (r.0, rises-each f lo ks (rises-lower f (f k).start lo ks r.0 r.1))

pub rises-ordered : (f : ℕ → Region) (lo : ℕ) (ks : List ℕ) → Rises f lo ks → Ordered (starts f ks)
rises-ordered f lo [] r = tt
rises-ordered f lo (k ∷ ks) r = (rises-each f (f k).start ks r.1, rises-ordered f (f k).start ks r.1)

zero-each : (l : List ℕ) → Each (λ y. 0 ≤ y) l
zero-each [] = tt
zero-each (x ∷ l) = (omega arith, zero-each l)

pub ordered-from : (f : ℕ → Region) (ks : List ℕ) → Ordered (starts f ks) → Rises f 0 ks
ordered-from f ks o = ordered-rises f 0 ks (zero-each (starts f ks)) o

pub rises-all : (f : ℕ → Region) (lo k : ℕ) (ks : List ℕ) → Rises f lo ks → 0 < count_if (eqb k) ks → lo ≤ (f k).start
rises-all f lo k [] r h = absurd (omega arith)
rises-all f lo k (c ∷ ks) r h = elim (test (eqb k c)) [
  | holds t ↦ rw (eqb→eq k c (true-is t)) r.0
  | fails t ↦ omega (arith, rises-all f (f c).start k ks r.1 (omega (arith, rw t at h)))
]

-- ---- the same list where no member's start changed

pub rises-same : (f g : ℕ → Region) (lo : ℕ) (ks : List ℕ) → ((k : ℕ) → 0 < count_if (eqb k) ks → (g k).start ≡ (f k).start) → Rises f lo ks → Rises g lo ks
rises-same f g lo [] e r = tt
rises-same f g lo (c ∷ ks) e r =
    let h = e c (omega (arith, self c)) in
    (omega arith, rises-lower g (f c).start (g c).start ks (omega arith) (rises-same f g (f c).start ks (λ k o. e k (omega arith)) r.1))

-- ---- a child is added, a child is removed

module _ (rs : List (Option Region)) (i a : ℕ) where
  pub insert-count : (k : ℕ) (ks : List ℕ) → count_if (eqb k) (insert_sorted rs i a ks) ≡ one_if (eqb k i) + count_if (eqb k) ks
  insert-count k [] = refl
  insert-count k (c ∷ ks) = elim (cmp a (region_in rs c).start) [
    | lt u ↦ rw (lt-ltb a (region_in rs c).start u)
    | ge u ↦ rw (le-ltb a (region_in rs c).start u) (omega (arith, insert-count k ks))
  ]

  pub insert-rises : (lo : ℕ) (ks : List ℕ) → (region_in rs i).start ≡ a → lo ≤ a → Rises (region_in rs) lo ks → Rises (region_in rs) lo (insert_sorted rs i a ks)
  insert-rises lo [] e l r = (omega arith, tt)
  insert-rises lo (c ∷ ks) e l r = elim (cmp a (region_in rs c).start) [
    | lt u ↦ rw (lt-ltb a (region_in rs c).start u) (omega arith, (omega arith, r.1))
    | ge u ↦ rw (le-ltb a (region_in rs c).start u) (r.0, insert-rises (region_in rs c).start ks e u r.1)
  ]

pub without-count : (i k : ℕ) (ks : List ℕ) → k ≢ i → count_if (eqb k) (without i ks) ≡ count_if (eqb k) ks
without-count i k [] h = refl
without-count i k (c ∷ ks) h = elim (test (eqb c i)) [
  | holds t ↦ rw t (omega (arith, without-count i k ks h, ap one_if (ne_eqb k c (λ e. h (e ∙ eqb→eq c i (true-is t))))))
  | fails t ↦ rw t (omega (arith, without-count i k ks h))
]

pub without_gone : (i : ℕ) (ks : List ℕ) → count_if (eqb i) (without i ks) ≡ 0
without_gone i [] = refl
without_gone i (c ∷ ks) = elim (test (eqb c i)) [
  | holds t ↦ rw t (without_gone i ks)
  | fails t ↦ rw t (omega (arith, without_gone i ks, ap one_if (ne_eqb i c (λ e. false-is t (true-is (eq-eqb c i (sym e)))))))
]

pub without-rises : (f : ℕ → Region) (lo i : ℕ) (ks : List ℕ) → Rises f lo ks → Rises f lo (without i ks)
without-rises f lo i [] r = tt
without-rises f lo i (c ∷ ks) r = elim (test (eqb c i)) [
  | holds t ↦ rw t (without-rises f lo i ks (rises-lower f (f c).start lo ks r.0 r.1))
  | fails t ↦ rw t (r.0, without-rises f (f c).start i ks r.1)
]
