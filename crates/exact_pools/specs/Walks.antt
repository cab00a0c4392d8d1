-- A walk that meets no slot twice, and the list of slots along the links: the walk succeeds exactly where the list has what it may have, each once,
-- and ends where it should.
use Rattle.std.specs.Prelude.{◌≡◌, Bool, false, not, List, [], ◌∷◌, eqb, ltb}
use Rattle.std.proofs.Math.Path.{refl, ap}
use Rattle.std.proofs.Common.{sym, ◌∙◌, zero-add, arith, eqb-true, lt-ltb, le-ltb, eq-eqb, ne_eqb}
use Prim.Native.Nat.{ℕ, zero, suc, ◌+◌, ◌≤◌, ◌<◌}
use Rattle.std.proofs.Math.Bool.{true}
use Rattle.std.proofs.Math.Option.{none, some}
use Rattle.std.proofs.Math.Decide.{ℕ_discrete}
use Rattle.base.specs.Cases.{lt, ge, cmp, holds, fails, test, pick}
use Rattle.base.specs.Tests.{both_true, true-false}
use Rattle.base.specs.Options.{none-some, some_same}
use Rattle.model.specs.Lists.{one_if, count_if}
use Rattle.laws.specs.Stack.{one}
use Rattle.decoded.specs.Decode.Read.{chain_from}
use Rattle.decoded.specs.Canonical.Ends.{chain_end}
use Rattle.list_links.specs.Walk.{seen, fresh, met, ended}

-- ---- what was met, counted

pub seen-count : (i : ℕ) (l : List ℕ) → seen i l ≡ ltb 0 (count_if (eqb i) l)
seen-count i [] = refl
seen-count i (h ∷ l) = elim (test (eqb i h)) [
  | holds t ↦ rw t (sym (lt-ltb 0 (1 + count_if (eqb i) l) (omega arith)))
  | fails t ↦ rw t (seen-count i l ∙ ap (ltb 0) (sym (zero-add (count_if (eqb i) l))))
]

pub seen-in : (i : ℕ) (l : List ℕ) → 0 < count_if (eqb i) l → seen i l ≡ true
seen-in i l h = seen-count i l ∙ lt-ltb 0 (count_if (eqb i) l) h

pub seen-not : (i : ℕ) (l : List ℕ) → count_if (eqb i) l ≡ 0 → seen i l ≡ false
seen-not i l h = seen-count i l ∙ le-ltb 0 (count_if (eqb i) l) (omega arith)

-- it is met as often as it is counted
pub marked-once : (i : ℕ) (l : List ℕ) (b : Bool) → count_if (eqb i) l ≤ 1 → seen i l ≡ b → count_if (eqb i) l ≡ one_if b
marked-once i l b h e = elim (cmp 0 (count_if (eqb i) l)) [
  | lt k ↦ let z : one_if b ≡ 1 = ap one_if (sym e ∙ seen-in i l k) in omega arith
  | ge k ↦ let z : one_if b ≡ 0 = ap one_if (sym e ∙ seen-not i l (omega arith)) in omega arith
]

pub once-marked : (i : ℕ) (l : List ℕ) (b : Bool) → count_if (eqb i) l ≡ one_if b → seen i l ≡ b
once-marked i l true e = seen-in i l (omega arith)
once-marked i l false e = seen-not i l e

-- ---- the walk and the list

-- the walk found us: vs, and what is along the links, each slot once
pub record Met (next : ℕ → ℕ) (ok : ℕ → Bool) (e k l : ℕ) (vs us : List ℕ) : Type 0 where
  pub counts : (i : ℕ) → count_if (eqb i) us ≡ count_if (eqb i) (chain_from next k l) + count_if (eqb i) vs
  pub passed : (i : ℕ) → 0 < count_if (eqb i) (chain_from next k l) → ok i ≡ true
  pub single : (i : ℕ) → 0 < count_if (eqb i) (chain_from next k l) → count_if (eqb i) (chain_from next k l) + count_if (eqb i) vs ≡ 1
  pub ends : chain_end next k l ≡ e

module _ (next : ℕ → ℕ) (ok : ℕ → Bool) (e : ℕ) where
  end-met : (k l : ℕ) (vs us : List ℕ) → chain_from next k l ≡ [] → chain_end next k l ≡ l → ended e l vs ≡ some us → Met next ok e k l vs us
  end-met k l vs us c d h = elim (test (eqb l e)) [
    | holds t ↦
        let z : vs ≡ us = some_same (some vs) vs us refl (ap (λ b. pick b (some vs) none) (sym t) ∙ h) in
        record {
          counts = λ i. omega (arith, ap (count_if (eqb i)) c, ap (count_if (eqb i)) z);
          passed = λ i o. absurd (omega (arith, ap (count_if (eqb i)) c));
          single = λ i o. absurd (omega (arith, ap (count_if (eqb i)) c));
          ends = d ∙ eqb-true l e t;
        }
    | fails t ↦ absurd (none-some none us refl (ap (λ b. pick b (some vs) none) (sym t) ∙ h))
  ]

  -- one slot more in front
  front : (k i : ℕ) (vs us : List ℕ) → ok i ≡ true → count_if (eqb i) vs ≡ 0 → Met next ok e k (next i) (i ∷ vs) us → Met next ok e (suc k) (suc i) vs us
  front k i vs us o z m = record {
    counts = λ j. omega (arith, m.counts j);
    passed = λ j p. elim (ℕ_discrete j i) [
      | yes q ↦ ap ok q ∙ o
      | no ne ↦ m.passed j (omega (arith, ap one_if (ne_eqb j i ne)))
    ];
    single = λ j p. elim (cmp 0 (count_if (eqb j) (chain_from next k (next i)))) [
      | lt y ↦ omega (arith, m.single j y)
      | ge y ↦ elim (ℕ_discrete j i) [
        | yes q ↦ omega (arith, one j i q, ap (λ x. count_if (eqb x) vs) q)
        | no ne ↦ absurd (omega (arith, ap one_if (ne_eqb j i ne)))
      ]
    ];
    ends = m.ends;
  }

  unseen : (i : ℕ) (vs : List ℕ) → not (seen i vs) ≡ true → count_if (eqb i) vs ≡ 0
  unseen i vs y = elim (cmp 0 (count_if (eqb i) vs)) [
    | lt o ↦ absurd (true-false y (ap not (seen-in i vs o)))
    | ge o ↦ omega arith
  ]

  step_is : (k i : ℕ) (vs us : List ℕ) (b : Bool) → fresh ok i vs ≡ b → (met next ok e k (next i) (i ∷ vs) ≡ some us → Met next ok e k (next i) (i ∷ vs) us) → pick b (met next ok e k (next i) (i ∷ vs)) none ≡ some us → Met next ok e (suc k) (suc i) vs us
  step_is k i vs us true f rest h = let g = both_true (ok i) (not (seen i vs)) f in front k i vs us g.0 (unseen i vs g.1) (rest h)
  step_is k i vs us false f rest h = absurd (none-some none us refl h)

  pub met-is : (k l : ℕ) (vs us : List ℕ) → met next ok e k l vs ≡ some us → Met next ok e k l vs us
  unfolding met
  met-is zero l vs us h = end-met zero l vs us refl refl h
  met-is (suc k) zero vs us h = end-met (suc k) zero vs us refl refl h
  met-is (suc k) (suc i) vs us h = step_is k i vs us (fresh ok i vs) refl (met-is k (next i) (i ∷ vs) us) h

  -- and back: where the list has what it may have, each once, the walk goes
  pub record Goes (k l : ℕ) (vs : List ℕ) : Type 0 where
    pub us : List ℕ
    pub finds : met next ok e k l vs ≡ some us
    pub counts : (i : ℕ) → count_if (eqb i) us ≡ count_if (eqb i) (chain_from next k l) + count_if (eqb i) vs

  goes_end : (k l : ℕ) (vs : List ℕ) → met next ok e k l vs ≡ ended e l vs → chain_from next k l ≡ [] → l ≡ e → Goes k l vs
  goes_end k l vs m c h = record { us = vs; finds = m ∙ ap (λ b. pick b (some vs) none) (eq-eqb l e h); counts = λ i. omega (arith, ap (count_if (eqb i)) c) }

  goes-front : (k i : ℕ) (vs : List ℕ) → ok i ≡ true → count_if (eqb i) vs ≡ 0 → Goes k (next i) (i ∷ vs) → Goes (suc k) (suc i) vs
  unfolding met
  goes-front k i vs o z g =
      let f : fresh ok i vs ≡ true = rw (o, seen-not i vs z) in
      record { us = g.us; finds = ap (λ b. pick b (met next ok e k (next i) (i ∷ vs)) none) f ∙ g.finds; counts = λ j. omega (arith, g.counts j) }

  pub is-met : (k l : ℕ) (vs : List ℕ) → ((i : ℕ) → 0 < count_if (eqb i) (chain_from next k l) → ok i ≡ true) → ((i : ℕ) → 0 < count_if (eqb i) (chain_from next k l) → count_if (eqb i) (chain_from next k l) + count_if (eqb i) vs ≤ 1) → chain_end next k l ≡ e → Goes k l vs
  unfolding met
  is-met zero l vs p o h = goes_end zero l vs refl refl h
  is-met (suc k) zero vs p o h = goes_end (suc k) zero vs refl refl h
  is-met (suc k) (suc i) vs p o h =
      let c : 0 < count_if (eqb i) (chain_from next (suc k) (suc i)) = omega (arith, one i i refl) in
      goes-front k i vs (p i c) (omega (arith, o i c, one i i refl))
      (is-met k (next i) (i ∷ vs) (λ j q. p j (omega arith)) (λ j q. omega (arith, o j (omega arith))) h)
