-- The loops' own laws, for code that runs them: one round and the stop of each, with the bound on the rounds as it was, and what keeps sums
-- and differences inside a word. None of them asks for sorted events.
use Rattle.std.specs.Prelude.{◌≡◌, Bool, true, false, ◌&&◌, List, [], ◌∷◌, leb, eqb, length, drop, set, if◌then◌else◌}
use Rattle.std.proofs.Math.Path.{refl}
use Rattle.std.proofs.Common.{sym, ◌∙◌, arith, eqb→eq, add-one, drop_of_length-le, drop-cons}
use Prim.Native.Nat.{ℕ, zero, suc, ◌+◌, ◌-◌, ◌≤◌, ◌<◌, min}
use borrow.Author.Tests.{lt-ltb, le-ltb, eq-eqb, ne_eqb, le-leb, lt-leb}
use Rattle.base.specs.Cases.{lt, ge, cmp, holds, fails, test}
use Rattle.base.specs.Tests.{true-is, false-is}
use Rattle.model.specs.State.{Counts, Record}
use Rattle.model.specs.Fields.{Field, get, passes}
use Rattle.model.specs.Tracker.{raise}
use Rattle.laws.specs.Stack.{one_at_most}
use Rattle.laws.specs.Fields.{get-raise}
use Rattle.sweep.specs.Events.{Event}
use Rattle.sweep.specs.Sweep.{Cursor, pass, upto, next, next_of, agrees, inside}
use Rattle.sweep.proofs.Cursor.{left, round-shorter}
use Rattle.sweep.specs.Sort.{no_event, at, sift}

-- ---- a cursor moves

pub pass-go : (x : ℕ) (k : Counts) (e : Event) (l : List Event) → e.at ≤ x → pass x k (e ∷ l) ≡ pass x (raise e.rights k) l
unfolding pass
pass-go x k e l h = rw (le-leb e.at x h)

pub pass-stop : (x : ℕ) (k : Counts) (e : Event) (l : List Event) → x < e.at → pass x k (e ∷ l) ≡ record { sums = k; ahead = e ∷ l }
unfolding pass
pass-stop x k e l h = rw (lt-leb e.at x h)

-- a cursor in place i of a table of events
module _ (l : List Event) (i : ℕ) where
  pub place-go : (x : ℕ) (k : Counts) → i < length l → (at l i).at ≤ x → pass x k (drop i l) ≡ pass x (raise (at l i).rights k) (drop (i + 1) l)
  place-go x k h u = rw (add-one i, drop-cons l i no_event h) (pass-go x k (at l i) (drop (suc i) l) u)

  pub place-stop : (x : ℕ) (k : Counts) → i < length l → x < (at l i).at → pass x k (drop i l) ≡ record { sums = k; ahead = drop i l }
  place-stop x k h u = rw (drop-cons l i no_event h) (pass-stop x k (at l i) (drop (suc i) l) u)

  pub place_end : (x : ℕ) (k : Counts) → length l ≤ i → pass x k (drop i l) ≡ record { sums = k; ahead = drop i l }
  unfolding pass
  place_end x k h = rw (drop_of_length-le l h)

  pub place-next : (y : ℕ) → i < length l → next (drop i l) y ≡ min (at l i).at y
  place-next y h = rw (drop-cons l i no_event h)

  pub place_none : (y : ℕ) → length l ≤ i → next (drop i l) y ≡ y
  place_none y h = rw (drop_of_length-le l h)

-- a move to x passes what a move to less would
pass-twice : (lo x : ℕ) (k : Counts) (l : List Event) → lo ≤ x → pass x (pass lo k l).sums (pass lo k l).ahead ≡ pass x k l
unfolding pass
pass-twice lo x k [] h = refl
pass-twice lo x k (e ∷ l) h = elim (cmp lo e.at) [
  | lt i ↦ rw (lt-leb e.at lo i)
  | ge i ↦ rw (le-leb e.at lo i, le-leb e.at x (omega arith)) (pass-twice lo x (raise e.rights k) l h)
]

pub upto-twice : (lo x : ℕ) (c : Cursor) → lo ≤ x → upto x (upto lo c) ≡ upto x c
unfolding upto
upto-twice lo x c h = pass-twice lo x c.sums c.ahead h

-- no sum grows by more than the number of events passed
pass-bound : (f : Field) (x : ℕ) (k : Counts) (l : List Event) → get f (pass x k l).sums + length (pass x k l).ahead ≤ get f k + length l
unfolding pass
pass-bound f x k [] = omega arith
pass-bound f x k (e ∷ l) = elim (cmp x e.at) [
  | lt i ↦ rw (lt-leb e.at x i) (omega arith)
  | ge i ↦ rw (le-leb e.at x i) (omega (arith, pass-bound f x (raise e.rights k) l, get-raise f e.rights k, one_at_most (passes f e.rights)))
]

pub upto-bound : (f : Field) (x : ℕ) (c : Cursor) → get f (upto x c).sums + length (upto x c).ahead ≤ get f c.sums + length c.ahead
unfolding upto
upto-bound f x c = pass-bound f x c.sums c.ahead

-- the test of one field by a difference
pub by_difference : (p m k : ℕ) → (if leb m p then eqb (p - m) k else false) ≡ eqb p (m + k)
by_difference p m k = elim (cmp p m) [
  | lt h ↦ rw (lt-leb m p h) (sym (ne_eqb p (m + k) (λ e. omega arith)))
  | ge h ↦ rw (le-leb m p h) (elim (test (eqb p (m + k))) [
    | holds t ↦ let e = eqb→eq p (m + k) (true-is t) in rw t (eq-eqb (p - m) k (omega arith))
    | fails t ↦ rw t (ne_eqb (p - m) k (λ e. false-is t (true-is (eq-eqb p (m + k) (omega arith)))))
  ])
]

-- ---- the rounds inside a record

none-next : (l : List Event) (y : ℕ) → length l ≤ 0 → next l y ≡ y
none-next [] y h = refl
none-next (e ∷ l) y h = absurd (omega arith)

none_left : (p m : Cursor) (y : ℕ) → left p m ≤ 0 → next_of p m y ≡ y
none_left p m y h = none-next m.ahead (next p.ahead y) (omega arith) ∙ none-next p.ahead y (omega arith)

not-second : {A : Type 0} (c d : Bool) (x y : A) → d ≡ false → (if c && d then x else y) ≡ y
not-second true d x y e = rw e
not-second false d x y e = refl

module _ (q : Record) where
  -- the sums differ by other counts
  pub inside-fail : (n : ℕ) (p m : Cursor) → agrees p.sums m.sums q.counts ≡ false → inside n q p m ≡ record { p = p; m = m; ok = false }
  unfolding inside
  inside-fail zero p m e = rw e
  inside-fail (suc n) p m e = rw e

  -- no event is left inside
  pub inside-stop : (n : ℕ) (p m : Cursor) → q.end ≤ next_of p m q.end → inside n q p m ≡ record { p = p; m = m; ok = agrees p.sums m.sums q.counts }
  unfolding inside
  inside-stop zero p m h = refl
  inside-stop (suc n) p m h = not-second (agrees p.sums m.sums q.counts) _ _ _ (le-ltb (next_of p m q.end) q.end h)

  inside-step : (n : ℕ) (p m : Cursor) → agrees p.sums m.sums q.counts ≡ true → next_of p m q.end < q.end → inside (suc n) q p m ≡ inside n q (upto (next_of p m q.end) p) (upto (next_of p m q.end) m)
  unfolding inside
  inside-step n p m e i = rw (e, lt-ltb (next_of p m q.end) q.end i)

  -- the bound does not matter where it is enough
  pub inside-same : (n k : ℕ) (p m : Cursor) → left p m ≤ n → left p m ≤ k → inside n q p m ≡ inside k q p m
  inside-same zero k p m h i = let z = none_left p m q.end h in inside-stop zero p m (omega arith) ∙ sym (inside-stop k p m (omega arith))
  inside-same (suc n) zero p m h i = let z = none_left p m q.end i in inside-stop (suc n) p m (omega arith) ∙ sym (inside-stop zero p m (omega arith))
  inside-same (suc n) (suc k) p m h i = elim (test (agrees p.sums m.sums q.counts)) [
    | fails e ↦ inside-fail (suc n) p m e ∙ sym (inside-fail (suc k) p m e)
    | holds e ↦ elim (cmp (next_of p m q.end) q.end) [
      | lt u ↦
          let v = round-shorter q.end p m u in
          inside-step n p m e u ∙ inside-same n k (upto (next_of p m q.end) p) (upto (next_of p m q.end) m) (omega arith) (omega arith) ∙ sym (inside-step k p m e u)
      | ge u ↦ inside-stop (suc n) p m u ∙ sym (inside-stop (suc k) p m u)
    ]
  ]

  -- one round
  pub inside-go : (n : ℕ) (p m : Cursor) → left p m ≤ n → agrees p.sums m.sums q.counts ≡ true → next_of p m q.end < q.end → inside n q p m ≡ inside n q (upto (next_of p m q.end) p) (upto (next_of p m q.end) m)
  inside-go zero p m h e i = absurd (omega (arith, none_left p m q.end h))
  inside-go (suc n) p m h e i =
      let v = round-shorter q.end p m i in
      inside-step n p m e i ∙ inside-same n (suc n) (upto (next_of p m q.end) p) (upto (next_of p m q.end) m) (omega arith) (omega arith)

-- ---- an element goes down to its place; the gap is above 0

module _ (g : ℕ) (x : Event) (above : 0 < g) where
  pub sift-stop : (n j : ℕ) (l : List Event) → j ≤ n → (g ≤ j → (at l (j - g)).at ≤ x.at) → sift n g j x l ≡ set l j x
  unfolding sift
  sift-stop zero j l h k = refl
  sift-stop (suc n) j l h k = elim (cmp j g) [
    | lt u ↦ rw (lt-leb g j u)
    | ge u ↦ not-second (leb g j) _ _ _ (le-ltb x.at (at l (j - g)).at (k u))
  ]

  sift-step : (n j : ℕ) (l : List Event) → g ≤ j → x.at < (at l (j - g)).at → sift (suc n) g j x l ≡ sift n g (j - g) x (set l j (at l (j - g)))
  unfolding sift
  sift-step n j l u v = rw (le-leb g j u, lt-ltb x.at (at l (j - g)).at v)

  -- the bound does not matter where it is enough
  pub sift-same : (n k j : ℕ) (l : List Event) → j ≤ n → j ≤ k → sift n g j x l ≡ sift k g j x l
  sift-same zero k j l h i = sift-stop zero j l h (λ u. absurd (omega arith)) ∙ sym (sift-stop k j l i (λ u. absurd (omega arith)))
  sift-same (suc n) zero j l h i = sift-stop (suc n) j l h (λ u. absurd (omega arith)) ∙ sym (sift-stop zero j l i (λ u. absurd (omega arith)))
  sift-same (suc n) (suc k) j l h i = elim (cmp j g) [
    | lt u ↦ sift-stop (suc n) j l h (λ v. absurd (omega arith)) ∙ sym (sift-stop (suc k) j l i (λ v. absurd (omega arith)))
    | ge u ↦ elim (cmp x.at (at l (j - g)).at) [
      | lt v ↦ sift-step n j l u v ∙ sift-same n k (j - g) (set l j (at l (j - g))) (omega arith) (omega arith) ∙ sym (sift-step k j l u v)
      | ge v ↦ sift-stop (suc n) j l h (λ w. v) ∙ sym (sift-stop (suc k) j l i (λ w. v))
    ]
  ]

  -- one step
  pub sift-go : (n j : ℕ) (l : List Event) → j ≤ n → g ≤ j → x.at < (at l (j - g)).at → sift n g j x l ≡ sift n g (j - g) x (set l j (at l (j - g)))
  sift-go zero j l h u v = absurd (omega arith)
  sift-go (suc n) j l h u v = sift-step n j l u v ∙ sift-same n (suc n) (j - g) (set l j (at l (j - g))) (omega arith) (omega arith)
