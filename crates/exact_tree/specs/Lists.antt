-- All child lists together: the test counts the children that are left down to 0, so the lists have as many members as there are children.
use Rattle.std.specs.Prelude.{◌≡◌, refl, Bool, true, false, ℕ, zero, suc, ◌+◌, ◌-◌, ◌≤◌, ◌<◌, eqb, ltb}
use Rattle.std.proofs.Common.{sym, ◌∙◌, arith, eqb-true, ltb-true, lt-ltb, eq-eqb}
use Rattle.std.proofs.Math.Path.{ap}
use mathlib.Core.List.{List, ◌∷◌}
use Rattle.std.proofs.Math.ListN.{length}
use Rattle.base.specs.Cases.{holds, fails, test, lt, ge, cmp}
use Rattle.model.specs.Lists.{count_if}
use Rattle.laws.specs.Tree.Sum.{sum, sum_same, sum-swap}
use Rattle.laws.specs.Stack.{stack-length}
use Rattle.tables.specs.declared.RegionCapa.{RegionCapa}
use Rattle.decoded.specs.Decode.Read.{chain_from}
use Rattle.decoded.specs.Decode.Walks.{chain-none}
use Rattle.decoded.specs.Canonical.Ends.{chain_end, end_none}
use Rattle.sound_tree.specs.Tree.{one_if, tally_from, no_run, walked, lists_from, is_child, child_count}
use Rattle.exact_tree.specs.Walks.{next_of, FitAll, walk-facts, facts-walk}

-- ---- a chain that ends within n steps is the same chain for more steps

pub chain_more : (f : ℕ → ℕ) (n m l : ℕ) → n ≤ m → chain_end f n l ≡ 0 → (chain_end f m l ≡ 0) × (chain_from f m l ≡ chain_from f n l)
chain_more f zero m l h e = (ap (chain_end f m) e ∙ end_none f m, ap (chain_from f m) e ∙ chain-none f m)
chain_more f (suc n) zero l h e = absurd (omega arith)
chain_more f (suc n) (suc m) zero h e = (refl, refl)
chain_more f (suc n) (suc m) (suc i) h e = let r = chain_more f n m (f i) (omega arith) e in (r.0, ap (λ k. i ∷ k) r.1)

-- and for as many steps as it is long
pub chain-less : (f : ℕ → ℕ) (n m l : ℕ) → chain_end f m l ≡ 0 → length (chain_from f m l) ≤ n → (chain_end f n l ≡ 0) × (chain_from f n l ≡ chain_from f m l)
chain-less f n zero l e h = (ap (chain_end f n) e ∙ end_none f n, ap (chain_from f n) e ∙ chain-none f n)
chain-less f zero (suc m) zero e h = (refl, refl)
chain-less f zero (suc m) (suc i) e h = absurd (omega arith)
chain-less f (suc n) (suc m) zero e h = (refl, refl)
chain-less f (suc n) (suc m) (suc i) e h = let r = chain-less f n m (f i) e (omega arith) in (r.0, ap (λ k. i ∷ k) r.1)

pub sum_mono : (w : ℕ → ℕ) (k n : ℕ) → k ≤ n → sum w k ≤ sum w n
sum_mono w k zero h = let z : k ≡ 0 = omega arith in rw z (omega arith)
sum_mono w k (suc n) h = elim (cmp n k) [
  | lt u ↦ let z : k ≡ suc n = omega arith in rw z (omega arith)
  | ge u ↦ omega (arith, sum_mono w k n u)
]

-- ---- n regions

module _ (row : ℕ → RegionCapa) (n : ℕ) where
  abbrev pub kids : ℕ → List ℕ
  kids k = chain_from (next_of row) n (row k).child

  abbrev pub many : ℕ → ℕ
  many k = length (kids k)

  -- the list of region k
  pub record Listed (k : ℕ) : Type 0 where
    pub ends : chain_end (next_of row) n (row k).child ≡ 0
    pub fits : FitAll row (k + 1) no_run (kids k)

  list-facts : (left k x : ℕ) → left ≤ n → walked row left k ≡ suc x → Listed k × (many k + x ≡ left)
  unfolding walked
  list-facts left k x h e =
      let w = walk-facts row (k + 1) left (row k).child no_run x e in
      let c = chain_more (next_of row) left n (row k).child h w.ends in
      (record { ends = c.0; fits = rw c.1 w.fits }, ap (λ (l : List ℕ). length l + x) c.1 ∙ w.long)

  facts-list : (left k : ℕ) → Listed k → many k ≤ left → walked row left k ≡ suc (left - many k)
  unfolding walked
  facts-list left k h b =
      let c = chain-less (next_of row) left n (row k).child h.ends b in
      facts-walk row (k + 1) left (row k).child no_run (left - many k) c.0 (omega (arith, ap length c.1)) (rw c.1 h.fits)

  -- ---- all lists

  abbrev AllFacts : ℕ → ℕ → Type 0
  AllFacts k total = (sum many n ≡ total) × ((j : ℕ) → k ≤ j → j < n → Listed j)

  lists-end : (k left total : ℕ) → eqb left 0 ≡ true → left + sum many k ≡ total → k ≡ n → AllFacts k total
  lists-end k left total e s b = (ap (sum many) (sym b) ∙ omega (arith, eqb-true left 0 e), λ j h u. absurd (omega arith))

  lists-step : (m k left total : ℕ) → left ≤ n → lists_from row left (suc m) k ≡ true → left + sum many k ≡ total
      → ((x : ℕ) → x ≤ n → lists_from row x m (suc k) ≡ true → x + sum many (suc k) ≡ total → AllFacts (suc k) total) → AllFacts k total
  lists-step m k left total h e s ih = elim (test (ltb 0 (walked row left k))) [
    | fails t ↦ let z : ◌≡◌ {A = Bool} false true = rw t at e in let o : ◌≡◌ {A = ℕ} 0 1 = cc in absurd (omega arith)
    | holds t ↦
        let x = walked row left k - 1 in
        let f = list-facts left k x h (omega (arith, ltb-true 0 (walked row left k) t)) in
        let r = ih x (omega (arith, f.1)) (rw t at e) (omega (arith, f.1)) in (
          r.0,
          λ j a b. elim (cmp k j) [
            | lt u ↦ r.1 j u b
            | ge u ↦ let z : j ≡ k = omega arith in rw z f.0
          ],
        )
  ]

  pub lists-facts : (m k left total : ℕ) → left ≤ n → lists_from row left m k ≡ true → left + sum many k ≡ total → k + m ≡ n → AllFacts k total
  lists-facts zero k left total h e s b = lists-end k left total e s (omega arith)
  lists-facts (suc m) k left total h e s b = lists-step m k left total h e s (λ x u f g. lists-facts m (suc k) x total u f g (omega arith))

  pub facts-lists : (m k left : ℕ) → ((j : ℕ) → j < n → Listed j) → left + sum many k ≡ sum many n → k + m ≡ n → lists_from row left m k ≡ true
  facts-lists zero k left h s b = let z : k ≡ n = omega arith in eq-eqb left 0 (omega (arith, ap (sum many) z))
  facts-lists (suc m) k left h s b =
      let c : many k ≤ left = omega (arith, sum_mono many (suc k) n (omega arith)) in
      let e = facts-list left k (h k (omega arith)) c in
      let z : suc (left - many k) - 1 ≡ left - many k = omega arith in
      rw (e, lt-ltb 0 (suc (left - many k)) (omega arith), z) (facts-lists m (suc k) (left - many k) h (omega arith) (omega arith))

  -- ---- members counted by the child: in how many lists it is

  abbrev pub uses : ℕ → ℕ
  uses i = sum (λ k. count_if (eqb i) (kids k)) n

  pub many-uses : ((k : ℕ) → k < n → (i : ℕ) → n ≤ i → count_if (eqb i) (kids k) ≡ 0) → sum many n ≡ sum uses n
  many-uses h =
      sum_same many (λ k. sum (λ i. count_if (eqb i) (kids k)) n) n (λ k b. sym (stack-length n (kids k) (h k b)))
      ∙ sum-swap (λ k i. count_if (eqb i) (kids k)) n n

-- ---- the number of children

abbrev pub tells : (ℕ → Bool) → ℕ → ℕ
tells f i = one_if (f i)

tally-sum : (f : ℕ → Bool) (m k : ℕ) → tally_from f m k + sum (tells f) k ≡ sum (tells f) (k + m)
tally-sum f zero k = let z : k + 0 ≡ k = omega arith in rw z (omega arith)
tally-sum f (suc m) k = let z : k + suc m ≡ suc k + m = omega arith in rw z (omega (arith, tally-sum f m (suc k)))

pub child-sum : (row : ℕ → RegionCapa) (n : ℕ) → child_count row n ≡ sum (tells (is_child row)) n
unfolding child_count
child-sum row n = let z : 0 + n ≡ n = omega arith in omega (arith, tally-sum (is_child row) n 0, ap (sum (tells (is_child row))) z)

pub one-t : (b : Bool) → b ≡ true → one_if b ≡ 1
unfolding one_if
one-t b e = rw e

pub one-f : (b : Bool) → b ≡ false → one_if b ≡ 0
unfolding one_if
one-f b e = rw e
