-- Record slots between a list and the pool. Invariant: every slot is as often in the list and on the free stack together as before;
-- generations only rise. Slots are counted, so that steps compose by arithmetic.
use Rattle.std.specs.Prelude.{◌≡◌, refl, ◌⊎◌, ℕ, zero, suc, ◌+◌, ◌-◌, ◌^◌, ◌≤◌, not, List, [], ◌∷◌, ◌++◌, eqb, length, get_or, set}
use Rattle.std.proofs.Common.{ap, ◌∙◌, inl, inr, arith, le_refl, T_not, length-set, eq-eqb}
use Rattle.model.specs.Lists.{one_if, count_if, Each}
use Rattle.refusals.specs.declared.Refusal.{Refusal}
use Rattle.refusals.specs.Refusals.{no_tracker, spent}
use Rattle.model.specs.State.{Word, Record, Pool}
use Rattle.model.specs.Pool.{allocate, free}
use Rattle.laws.specs.Answers.{Gives, gives, refuses, gives-checked}
use Rattle.laws.specs.Words.SameTrackers.{uses}

-- From pool p to pool p', with the records l made into m.
pub record Moved (p p' : Pool) (l m : List Record) : Type 0 where
  pub slots : (i : ℕ) → uses i m + count_if (eqb i) p'.free ≡ uses i l + count_if (eqb i) p.free
  pub gens_length : length p'.gens ≡ length p.gens
  pub gens_rise : (i : ℕ) → get_or p.gens i 0 ≤ get_or p'.gens i 0
  pub gens_words : Each Word p.gens → Each Word p'.gens

-- 13 and 16
abbrev pub NoRecord : Refusal → Type 0
NoRecord r = (r ≡ no_tracker) ⊎ (r ≡ spent)

pub uses-append : (i : ℕ) (l m : List Record) → uses i (l ++ m) ≡ uses i l + uses i m
uses-append i [] m = omega arith
uses-append i (q ∷ l) m = omega (arith, uses-append i l m)

-- ---- composition

pub moved_none : (p : Pool) (l : List Record) → Moved p p l l
moved_none p l = record { slots = λ i. refl; gens_length = refl; gens_rise = λ i. le_refl _; gens_words = λ h. h }

-- two steps, on other records each or on the same
pub moved_then : {p p₁ p₂ : Pool} {l m l₁ m₁ l₂ m₂ : List Record} → Moved p p₁ l m → Moved p₁ p₂ l₁ m₁ → ((i : ℕ) → uses i l₂ + uses i m + uses i m₁ ≡ uses i m₂ + uses i l + uses i l₁) → Moved p p₂ l₂ m₂
moved_then h k e = record {
  slots = λ i. omega (arith, h.slots i, k.slots i, e i);
  gens_length = k.gens_length ∙ h.gens_length;
  gens_rise = λ i. omega (arith, h.gens_rise i, k.gens_rise i);
  gens_words = λ w. k.gens_words (h.gens_words w);
}

-- one step, with other records beside
pub frame : {p p₁ : Pool} {l m l₂ m₂ : List Record} → Moved p p₁ l m → ((i : ℕ) → uses i l₂ + uses i m ≡ uses i m₂ + uses i l) → Moved p p₁ l₂ m₂
frame h e = moved_then h (moved_none _ []) (λ i. omega (arith, e i))

-- ---- a slot is taken

allocate-from : (gs fs : List ℕ) → Gives (λ (x : ℕ × Pool). (q : Record) → q.slot ≡ x.0 → Moved (record { gens = gs; free = fs }) x.1 [] (q ∷ [])) NoRecord (allocate no_tracker (record { gens = gs; free = fs }))
unfolding allocate
allocate-from gs [] = refuses (inl refl)
allocate-from gs (j ∷ fs) = gives {a = (j, record { gens = gs; free = fs })} (λ q e. record {
  slots = λ i. omega (arith, ap (λ k. one_if (eqb i k)) e);
  gens_length = refl;
  gens_rise = λ i. le_refl _;
  gens_words = λ h. h;
})

pub allocate-moves : (p : Pool) → Gives (λ (x : ℕ × Pool). (q : Record) → q.slot ≡ x.0 → Moved p x.1 [] (q ∷ [])) NoRecord (allocate no_tracker p)
allocate-moves p = allocate-from p.gens p.free

-- ---- a slot is freed: its generation rises by one, and is not the largest word

rise-at : (gs : List ℕ) (j i : ℕ) → get_or gs i 0 ≤ get_or (set gs j (suc (get_or gs j 0))) i 0
rise-at [] j i = omega arith
rise-at (g ∷ gs) zero zero = omega arith
rise-at (g ∷ gs) zero (suc i) = le_refl _
rise-at (g ∷ gs) (suc j) zero = le_refl _
rise-at (g ∷ gs) (suc j) (suc i) = rise-at gs j i

words-at : (gs : List ℕ) (j : ℕ) → (get_or gs j 0 ≡ 2 ^ 64 - 1 → ⊥) → Each Word gs → Each Word (set gs j (suc (get_or gs j 0)))
words-at [] j n h = tt
words-at (g ∷ gs) zero n h = (omega arith, h.1)
words-at (g ∷ gs) (suc j) n h = (h.0, words-at gs j n h.1)

pub free-moves : (q : Record) (p : Pool) → Gives (λ p'. Moved p p' (q ∷ []) []) NoRecord (free q.slot p)
unfolding free
free-moves q p = gives-checked (not (eqb (get_or p.gens q.slot 0) (2 ^ 64 - 1))) spent (inr refl) (λ t. gives (record {
  slots = λ i. omega arith;
  gens_length = length-set p.gens q.slot _;
  gens_rise = rise-at p.gens q.slot;
  gens_words = words-at p.gens q.slot (λ e. T_not (eqb (get_or p.gens q.slot 0) (2 ^ 64 - 1)) t (rw (eq-eqb _ _ e) tt));
}))
