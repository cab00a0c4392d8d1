-- Where a walk ends. Once the walk of a stack has come to slot 0 and that of a chain to link 0, the walked list spells out the links that were
-- followed: its first slot is where the walk began, and the slot after a member is what the member's link says.
use Rattle.std.specs.Prelude.{◌≡◌, refl, ℕ, zero, suc, ◌≤◌, ◌<◌, List, [], ◌∷◌, eqb, length}
use Rattle.std.proofs.Common.{sym, ap, subst, ◌∙◌, arith, ne_eqb}
use Rattle.std.proofs.Math.Decide.{ℕ_discrete}
use Rattle.base.specs.Cases.{lt, ge, cmp}
use Rattle.model.specs.Lists.{one_if, count_if, first_of, after_in}
use Rattle.model.specs.Layout.{link, slot_or0}
use Rattle.laws.specs.Stack.{one_at_most}
use Rattle.decoded.specs.Links.{after-top, after-under}
use Rattle.decoded.specs.Decode.Read.{stack_from, chain_from}
use Rattle.decoded.specs.Decode.Walks.{Stacked, chain-none}

-- ---- stacks

-- the slot after n slots
abbrev pub stack_end : (ℕ → ℕ) → ℕ → ℕ → ℕ
stack_end f zero h = h
stack_end f (suc n) h = stack_end f n (f h)

pub stack-long : (f : ℕ → ℕ) (n h : ℕ) → length (stack_from f n h) ≡ n
stack-long f zero h = refl
stack-long f (suc n) h = ap suc (stack-long f n (f h))

pub stack-first : (f : ℕ → ℕ) (n h : ℕ) → stack_end f n h ≡ 0 → slot_or0 (first_of (stack_from f n h)) ≡ h
stack-first f zero h e = sym e
stack-first f (suc n) h e = refl

pub stack-after : (f : ℕ → ℕ) (n h : ℕ) → stack_end f n h ≡ 0 → (i : ℕ) → 0 < count_if (eqb i) (stack_from f n h) → slot_or0 (after_in (stack_from f n h) i) ≡ f i
stack-after f zero h e i o = absurd (omega arith)
stack-after f (suc n) h e i o = elim (ℕ_discrete i h) [
  | yes z ↦ rw z (ap slot_or0 (after-top h (stack_from f n (f h))) ∙ stack-first f n (f h) e)
  | no ne ↦ ap slot_or0 (after-under h i (stack_from f n (f h)) ne) ∙ stack-after f n (f h) e i (omega (arith, ap one_if (ne_eqb i h ne)))
]

-- a stack that the links spell out ends
pub stacked-ends : (f : ℕ → ℕ) (l : List ℕ) → Stacked f l → stack_end f (length l) (slot_or0 (first_of l)) ≡ 0
stacked-ends f [] h = refl
stacked-ends f (i ∷ l) h = ap (stack_end f (length l)) h.0 ∙ stacked-ends f l h.1

-- ---- chains

-- the link after at most n slots; 0 is the end
abbrev pub chain_end : (ℕ → ℕ) → ℕ → ℕ → ℕ
chain_end f zero l = l
chain_end f (suc n) zero = 0
chain_end f (suc n) (suc i) = chain_end f n (f i)

pub chain_first : (f : ℕ → ℕ) (n l : ℕ) → chain_end f n l ≡ 0 → link (first_of (chain_from f n l)) ≡ l
chain_first f zero l e = sym e
chain_first f (suc n) zero e = refl
chain_first f (suc n) (suc i) e = refl

pub chain-after : (f : ℕ → ℕ) (n l : ℕ) → chain_end f n l ≡ 0 → (i : ℕ) → 0 < count_if (eqb i) (chain_from f n l) → link (after_in (chain_from f n l) i) ≡ f i
chain-after f zero l e i o = absurd (omega arith)
chain-after f (suc n) zero e i o = absurd (omega arith)
chain-after f (suc n) (suc h) e i o = elim (ℕ_discrete i h) [
  | yes z ↦ rw z (ap link (after-top h (chain_from f n (f h))) ∙ chain_first f n (f h) e)
  | no ne ↦ ap link (after-under h i (chain_from f n (f h)) ne) ∙ chain-after f n (f h) e i (omega (arith, ap one_if (ne_eqb i h ne)))
]

-- one that does not end has n slots
pub chain-full : (f : ℕ → ℕ) (n l : ℕ) → 0 < chain_end f n l → length (chain_from f n l) ≡ n
chain-full f zero l h = refl
chain-full f (suc n) zero h = absurd (omega arith)
chain-full f (suc n) (suc i) h = ap suc (chain-full f n (f i) h)

pub end_none : (f : ℕ → ℕ) (n : ℕ) → chain_end f n 0 ≡ 0
end_none f zero = refl
end_none f (suc n) = refl

-- ---- a chain that ends has no slot twice: from such a slot it would have a shorter and a longer way to its end

ended_same : (f : ℕ → ℕ) (n m l : ℕ) → chain_end f n l ≡ 0 → chain_end f m l ≡ 0 → chain_from f n l ≡ chain_from f m l
ended_same f zero m l e e' = sym (ap (chain_from f m) e ∙ chain-none f m)
ended_same f (suc n) zero l e e' = ap (chain_from f (suc n)) e'
ended_same f (suc n) (suc m) zero e e' = refl
ended_same f (suc n) (suc m) (suc i) e e' = ap (λ k. i ∷ k) (ended_same f n m (f i) e e')

-- a walk of m steps from the member i on ends, and is no longer
record Onward (f : ℕ → ℕ) (i long : ℕ) : Type 0 where
  steps : ℕ
  ends : chain_end f steps (suc i) ≡ 0
  within : length (chain_from f steps (suc i)) ≤ long

onward : (f : ℕ → ℕ) (n l : ℕ) → chain_end f n l ≡ 0 → (i : ℕ) → 0 < count_if (eqb i) (chain_from f n l) → Onward f i (length (chain_from f n l))
onward f zero l e i o = absurd (omega arith)
onward f (suc n) zero e i o = absurd (omega arith)
onward f (suc n) (suc h) e i o = elim (ℕ_discrete i h) [
  | yes z ↦ subst (λ k. Onward f k (suc (length (chain_from f n (f h))))) (sym z) (record { steps = suc n; ends = e; within = omega arith })
  | no ne ↦ let w = onward f n (f h) e i (omega (arith, ap one_if (ne_eqb i h ne))) in record { steps = w.steps; ends = w.ends; within = omega (arith, w.within) }
]

pub ended-once : (f : ℕ → ℕ) (n l : ℕ) → chain_end f n l ≡ 0 → (i : ℕ) → count_if (eqb i) (chain_from f n l) ≤ 1
ended-once f zero l e i = omega arith
ended-once f (suc n) zero e i = omega arith
ended-once f (suc n) (suc h) e i = elim (ℕ_discrete i h) [
  | yes z ↦ elim (cmp 0 (count_if (eqb i) (chain_from f n (f h)))) [
    | lt o ↦
        let w = onward f n (f h) e i o in
        let s = ap length (ended_same f (suc n) w.steps (suc h) e (ap (λ k. chain_end f w.steps (suc k)) (sym z) ∙ w.ends)) in
        absurd (omega (arith, s, w.within, ap (λ k. length (chain_from f w.steps (suc k))) z))
    | ge o ↦ omega (arith, one_at_most (eqb i h))
  ]
  | no ne ↦ omega (arith, ended-once f n (f h) e i, ap one_if (ne_eqb i h ne))
]
