-- Record slots in a gain and a loss. Invariant: what leaves the free stack is in the list, and what leaves the list is on the stack, and a refusal
-- says that no slot is free or that a generation is spent. No form of the list is needed.
use Rattle.std.specs.Prelude.{max, ◌≡◌, refl, ◌⊎◌, ℕ, List, [], ◌∷◌, ◌++◌, eqb, ltb}
use Rattle.std.proofs.Common.{arith}
use Rattle.model.specs.Outcome.{Outcome, refuse}
use Rattle.refusals.specs.declared.Refusal.{Refusal}
use Rattle.refusals.specs.Refusals.{no_tracker, spent}
use Rattle.model.specs.State.{Record, Pool}
use Rattle.model.specs.Tracker.{Walk, raise, with_end, with_counts, split_at, cut_before, cut_after, fill_gap, add_to, add_region, keep_or_drop, remove_from, remove_region, meets, mergeable, merge_into, coalesce, merged, gain, lose}
use Rattle.laws.specs.Accepted.{All}
use Rattle.laws.specs.Answers.{Gives, gives, gives_then, gives-weaken, gives-branch, answer, refusal}
use Rattle.laws.specs.Tracker.Pools.{Moved, NoRecord, uses-append, moved_none, moved_then, frame, allocate-moves, free-moves}

-- a walk on the records l
abbrev pub Walks : Pool → List Record → Walk → Type 0
Walks p l w = Moved p w.pool l w.records

-- ---- the pieces

split_moves : (a : ℕ) (q : Record) (p : Pool) → Gives (λ (x : Record × Record × Pool). Moved p x.2 (q ∷ []) (x.0 ∷ x.1 ∷ [])) NoRecord (split_at a q p)
unfolding split_at
split_moves a q p = gives_then (allocate-moves p) (λ x h. gives (frame (h (record { slot = x.0; start = a; end = q.end; counts = q.counts }) refl) (λ i. omega arith)))

before-moves : (s : ℕ) (q : Record) (p : Pool) → Gives (λ (x : List Record × Record × Pool). Moved p x.2 (q ∷ []) (x.0 ++ (x.1 ∷ []))) NoRecord (cut_before s q p)
unfolding cut_before
before-moves s q p = gives-branch (ltb q.start s) (gives_then (split_moves s q p) (λ x h. gives h)) (gives (moved_none p (q ∷ [])))

after-moves : (e : ℕ) (q : Record) (p : Pool) → Gives (λ (x : Record × List Record × Pool). Moved p x.2 (q ∷ []) (x.0 ∷ x.1)) NoRecord (cut_after e q p)
unfolding cut_after
after-moves e q p = gives-branch (ltb e q.end) (gives_then (split_moves e q p) (λ x h. gives h)) (gives (moved_none p (q ∷ [])))

gap-moves : (r s e : ℕ) (p : Pool) → Gives (λ (x : List Record × Pool). Moved p x.1 [] x.0) NoRecord (fill_gap r s e p)
unfolding fill_gap
gap-moves r s e p = gives-branch (ltb s e) (gives_then (allocate-moves p) (λ x h. gives (h _ refl))) (gives (moved_none p []))

drop-moves : (q : Record) (p : Pool) → Gives (λ (x : List Record × Pool). Moved p x.1 (q ∷ []) x.0) NoRecord (keep_or_drop q p)
unfolding keep_or_drop
drop-moves q p = gives-branch (eqb q.counts.reach 0) (gives_then (free-moves q p) (λ p' h. gives h)) (gives (moved_none p (q ∷ [])))

-- ---- the walks

add-to-moves : (r s e : ℕ) (q : Record) (p : Pool) → Gives (Walks p (q ∷ [])) NoRecord (add_to r s e q p)
unfolding add_to
add-to-moves r s e q p =
    gives-branch (meets s e q)
    (gives_then (before-moves s q p) (λ x h. gives_then (after-moves e x.1 x.2) (λ y k.
    gives (moved_then h k (λ i. omega (arith, uses-append i x.0 (x.1 ∷ []), uses-append i x.0 (with_counts (raise r y.0.counts) y.0 ∷ y.1)))))))
    (gives (moved_none p (q ∷ [])))

pub add-moves : (r s e : ℕ) (l : List Record) (p : Pool) → Gives (Walks p l) NoRecord (add_region r s e l p)
unfolding add_region
add-moves r s e [] p = gives_then (gap-moves r s e p) (λ x h. gives h)
add-moves r s e (q ∷ l) p =
    gives_then (gap-moves _ _ _ p) (λ x h.
    gives_then (add-to-moves _ _ _ q x.1) (λ w k.
    gives_then (add-moves _ (max s q.end) _ l w.pool) (λ v j.
    gives (moved_then (moved_then {l₂ = q ∷ []} {m₂ = x.0 ++ w.records} h k (λ i. omega (arith, uses-append i x.0 w.records))) j (λ i. omega (arith, uses-append i (x.0 ++ w.records) v.records))))))

remove-from-moves : (r s e : ℕ) (q : Record) (p : Pool) → Gives (Walks p (q ∷ [])) NoRecord (remove_from r s e q p)
unfolding remove_from
remove-from-moves r s e q p =
    gives-branch (meets s e q)
    (gives_then (before-moves s q p) (λ x h. gives_then (after-moves e x.1 x.2) (λ y k. gives_then (drop-moves _ y.2) (λ u j.
    gives (moved_then (moved_then {l₂ = q ∷ []} {m₂ = x.0 ++ (y.0 ∷ y.1)} h k (λ i. omega (arith, uses-append i x.0 (x.1 ∷ []), uses-append i x.0 (y.0 ∷ y.1)))) j
    (λ i. omega (arith, uses-append i x.0 (y.0 ∷ y.1), uses-append i x.0 u.0, uses-append i (x.0 ++ u.0) y.1)))))))
    (gives (moved_none p (q ∷ [])))

pub remove-moves : (r s e : ℕ) (l : List Record) (p : Pool) → Gives (Walks p l) NoRecord (remove_region r s e l p)
unfolding remove_region
remove-moves r s e [] p = gives (moved_none p [])
remove-moves r s e (q ∷ l) p = gives_then (remove-from-moves r s e q p) (λ w k. gives_then (remove-moves r s e l w.pool) (λ v j. gives (moved_then k j (λ i. omega (arith, uses-append i w.records v.records)))))

-- ---- the merge

merge-moves : (q : Record) (l : List Record) (p : Pool) → Gives (λ (x : List Record × Pool). Moved p x.1 (q ∷ l) x.0) NoRecord (merge_into q l p)
unfolding merge_into
merge-moves q [] p = gives (moved_none p (q ∷ []))
merge-moves q (n ∷ l) p =
    gives-branch (mergeable q n)
    (gives_then (free-moves n p) (λ p₁ h. gives-weaken (merge-moves (with_end n.end q) l p₁) (λ x k. moved_then h k (λ i. omega arith))))
    (gives_then (merge-moves n l p) (λ x h. gives (frame h (λ i. omega arith))))

coalesce-moves : (l : List Record) (p : Pool) → Gives (λ (x : List Record × Pool). Moved p x.1 l x.0) NoRecord (coalesce l p)
unfolding coalesce
coalesce-moves [] p = gives (moved_none p [])
coalesce-moves (q ∷ l) p = merge-moves q l p

merged-moves : (p : Pool) (l : List Record) (m : Outcome Walk) → Gives (Walks p l) NoRecord m → Gives (Walks p l) NoRecord (merged m)
unfolding merged
merged-moves p l m h = gives_then h (λ w k. gives_then (coalesce-moves w.records w.pool) (λ x j. gives (moved_then k j (λ i. omega arith))))

-- ---- gain and loss

module _ (r s e : ℕ) (l : List Record) (p : Pool) where
  gain-moves : Gives (Walks p l) NoRecord (gain r s e l p)
  unfolding gain
  gain-moves = merged-moves p l _ (add-moves r s e l p)

  lose-moves : Gives (Walks p l) NoRecord (lose r s e l p)
  unfolding lose
  lose-moves = merged-moves p l _ (remove-moves r s e l p)

  pub gain-slots : All (λ w. Moved p w.pool l w.records) (gain r s e l p)
  gain-slots = answer gain-moves

  pub lose-slots : All (λ w. Moved p w.pool l w.records) (lose r s e l p)
  lose-slots = answer lose-moves

  -- nothing else is refused
  pub gain-refusals : (x : Refusal) → gain r s e l p ≡ refuse x → (x ≡ no_tracker) ⊎ (x ≡ spent)
  gain-refusals = refusal gain-moves

  pub lose-refusals : (x : Refusal) → lose r s e l p ≡ refuse x → (x ≡ no_tracker) ⊎ (x ≡ spent)
  lose-refusals = refusal lose-moves
