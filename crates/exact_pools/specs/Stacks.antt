-- The walk along a free stack: links are slots plus 1, and the last leads to slot 0. The test of a stack holds exactly where the walk ends at slot 0
-- and the stack has each slot that is free, once.
use Rattle.std.specs.Prelude.{◌≡◌, refl, ◌⊎◌, ℕ, zero, suc, ◌+◌, ◌-◌, ◌≤◌, ◌<◌, Bool, true, List, [], ◌∷◌, eqb, ltb, leb}
use Rattle.std.proofs.Common.{sym, ap, ◌∙◌, inl, inr, arith, leb-true, le-leb, lt-ltb}
use Rattle.std.proofs.Math.Option.{Option, none, some}
use Rattle.base.specs.Cases.{lt, ge, cmp, holds, fails, test}
use Rattle.base.specs.Tests.{both, both_true, true-false}
use Rattle.model.specs.Lists.{one_if, count_if}
use Rattle.laws.specs.Stack.{one, one_at_most}
use Rattle.decoded.specs.Decode.Read.{stack_from, chain_from}
use Rattle.decoded.specs.Canonical.Ends.{stack_end, chain_end, end_none}
use Rattle.list_links.specs.Walk.{link_to, met, covered, covers}
use Rattle.sound_lists.specs.Counting.{covers_at, at-covers}
use Rattle.exact_pools.specs.Walks.{marked-once, once-marked, met-is, is-met}

-- ---- links and slots

module _ (f g : ℕ → ℕ) where
  abbrev Alike : ℕ → ℕ → ℕ → Type 0
  Alike m l h = (chain_from f m l ≡ stack_from g m h) × (stack_end g m h ≡ 0)

  -- a link that is 0 leads to no slot, and so not to slot 0
  from-link : (m l h : ℕ) → (l ≡ suc h) ⊎ (l ≡ 0) → (chain_end f m (suc h) ≡ 1 → Alike m (suc h) h) → chain_end f m l ≡ 1 → Alike m l h
  from-link m l h (inl y) k e = let r = k (ap (chain_end f m) (sym y) ∙ e) in (ap (chain_from f m) y ∙ r.0, r.1)
  from-link m l h (inr y) k e = absurd (omega (arith, end_none f m, sym e ∙ ap (chain_end f m) y))

  chain-suc : ((i : ℕ) → (f i ≡ suc (g i)) ⊎ (f i ≡ 0)) → (m h : ℕ) → chain_end f m (suc h) ≡ 1 → Alike m (suc h) h
  chain-suc k zero h e = (refl, omega arith)
  chain-suc k (suc m) h e = let r = from-link m (f h) (g h) (k h) (chain-suc k m (g h)) e in (ap (λ l. h ∷ l) r.0, r.1)

  chain-stack : ((i : ℕ) → (f i ≡ suc (g i)) ⊎ (f i ≡ 0)) → (m l h : ℕ) → (l ≡ suc h) ⊎ (l ≡ 0) → chain_end f m l ≡ 1 → Alike m l h
  chain-stack k m l h y e = from-link m l h y (chain-suc k m h) e

  -- the other way, for a stack of slots below n
  stack-chain : (n m h : ℕ) → 0 < n → ((i : ℕ) → 0 < count_if (eqb i) (stack_from g m h) → (i < n) × (g i < n → f i ≡ suc (g i))) → stack_end g m h ≡ 0 → (h < n) × (chain_from f m (suc h) ≡ stack_from g m h) × (chain_end f m (suc h) ≡ 1)
  stack-chain n zero h z k e = (omega arith, refl, omega arith)
  stack-chain n (suc m) h z k e =
      let r = stack-chain n m (g h) z (λ i o. k i (omega arith)) e in
      let q = k h (omega (arith, one h h refl)) in
      let y = q.1 r.0 in
      (q.0, ap (λ l. h ∷ chain_from f m l) y ∙ ap (λ l. h ∷ l) r.1, ap (chain_end f m) y ∙ r.2)

-- ---- the test of a stack of n slots, c of them in use, with head h

pub record StackGood (g : ℕ → ℕ) (ok : ℕ → Bool) (n c h : ℕ) : Type 0 where
  pub fits : c ≤ n
  pub ends : stack_end g (n - c) h ≡ 0
  pub once : (i : ℕ) → count_if (eqb i) (stack_from g (n - c) h) ≡ one_if (ok i)

link-is : (n h : ℕ) → (link_to n h ≡ suc h) ⊎ (link_to n h ≡ 0)
link-is n h = elim (test (ltb h n)) [ holds t ↦ inl (rw t) | fails t ↦ inr (rw t) ]

abbrev pub test_of : (ℕ → ℕ) → (ℕ → Bool) → ℕ → ℕ → ℕ → Bool
test_of f ok n c h = both (leb c n) (covered ok n (met f ok 1 (n - c) (link_to n h) []))

module _ (f g : ℕ → ℕ) (ok : ℕ → Bool) (n c h : ℕ) (inside : (i : ℕ) → ok i ≡ true → i < n) where
  -- what was met is what may be met
  counted : (l us : List ℕ) → ((i : ℕ) → count_if (eqb i) us ≡ count_if (eqb i) l + 0) → ((i : ℕ) → 0 < count_if (eqb i) l → ok i ≡ true) → ((i : ℕ) → count_if (eqb i) l ≤ 1) → covers ok n us ≡ true → (i : ℕ) → count_if (eqb i) l ≡ one_if (ok i)
  counted l us e p o v i = elim (cmp i n) [
    | lt b ↦ omega (arith, e i, marked-once i us (ok i) (omega (arith, e i, o i)) (covers_at ok n us v i b))
    | ge b ↦ elim (test (ok i)) [
      | holds t ↦ absurd (omega (arith, inside i t))
      | fails t ↦ elim (cmp 0 (count_if (eqb i) l)) [ lt q ↦ absurd (true-false (p i q) t) | ge q ↦ omega (arith, ap one_if t) ]
    ]
  ]

  single : (l : List ℕ) → ((i : ℕ) → 0 < count_if (eqb i) l → count_if (eqb i) l + 0 ≡ 1) → (i : ℕ) → count_if (eqb i) l ≤ 1
  single l k i = elim (cmp 0 (count_if (eqb i) l)) [ lt q ↦ omega (arith, k i q) | ge q ↦ omega arith ]

  good-from : ((i : ℕ) → (f i ≡ suc (g i)) ⊎ (f i ≡ 0)) → c ≤ n → (o : Option (List ℕ)) → met f ok 1 (n - c) (link_to n h) [] ≡ o → covered ok n o ≡ true → StackGood g ok n c h
  good-from k b none e v = absurd (true-false v refl)
  good-from k b (some us) e v =
      let m = met-is f ok 1 (n - c) (link_to n h) [] us e in
      let r = chain-stack f g k (n - c) (link_to n h) h (link-is n h) m.ends in
      let w = counted (chain_from f (n - c) (link_to n h)) us m.counts m.passed (single (chain_from f (n - c) (link_to n h)) m.single) v in
      record { fits = b; ends = r.1; once = λ i. sym (ap (count_if (eqb i)) r.0) ∙ w i }

  pub stack-good : ((i : ℕ) → (f i ≡ suc (g i)) ⊎ (f i ≡ 0)) → test_of f ok n c h ≡ true → StackGood g ok n c h
  stack-good k t =
      let y = both_true (leb c n) (covered ok n (met f ok 1 (n - c) (link_to n h) [])) t in
      good-from k (leb-true c n y.0) (met f ok 1 (n - c) (link_to n h) []) refl y.1

  pub good-stack : 0 < n → ((i : ℕ) → ok i ≡ true → g i < n → f i ≡ suc (g i)) → StackGood g ok n c h → test_of f ok n c h ≡ true
  good-stack z k s =
      let l = stack_from g (n - c) h in
      let on : (i : ℕ) → 0 < count_if (eqb i) l → ok i ≡ true = λ i q. elim (test (ok i)) [ holds t ↦ t | fails t ↦ absurd (omega (arith, s.once i, ap one_if t)) ] in
      let r = stack-chain f g n (n - c) h z (λ i q. (inside i (on i q), k i (on i q))) s.ends in
      let e : chain_from f (n - c) (suc h) ≡ l = r.1 in
      let w = is-met f ok 1 (n - c) (suc h) [] (λ i q. on i (omega (arith, ap (count_if (eqb i)) e))) (λ i q. omega (arith, ap (count_if (eqb i)) e, s.once i, one_at_most (ok i))) r.2 in
      let y : link_to n h ≡ suc h = rw (lt-ltb h n r.0) in
      let v = at-covers ok n w.us (λ i b. once-marked i w.us (ok i) (omega (arith, w.counts i, ap (count_if (eqb i)) e, s.once i))) in
      rw (le-leb c n s.fits, y, w.finds) v
