-- A region and all below it are revoked, head child by head child, with the same bound on both sides. The bound is the number of live regions, which the
-- pool counts; less the regions above it is never used up (the rank of a live region lies below that number), so that the code never answers 1 there.
use Rattle.std.specs.Prelude.{◌≡◌, eqb}
use Rattle.std.proofs.Math.Path.{refl, ap}
use Rattle.std.proofs.Common.{sym, ◌∙◌}
use Prim.Native.Nat.{ℕ, zero, suc, ◌+◌, ◌-◌, ◌≤◌}
use Rattle.std.proofs.Math.Option.{some}
use mathlib.Core.List.{List, [], ◌∷◌}
use native.Mathlib.Omega.{arith}
use borrow.Author.Tests.{ne_eqb}
use Rattle.model.specs.Lists.{is_some, count_if, In, first_of}
use Rattle.model.specs.Outcome.{ok, ◌>>=◌}
use Rattle.model.specs.State as state
use Rattle.model.specs.State.{State, parent_of}
use Rattle.model.specs.Regions as model
use Rattle.model.specs.Regions.{live_count}
use Rattle.model.specs.Layout.{link}
use Rattle.laws.specs.Stack.{one}
use Rattle.laws.specs.Tree.Facts.{under}
use Rattle.laws.specs.Tree.Shape.{child-of}
use Rattle.laws.specs.Tree.Rank.{Ranked, rank, ranked, rank-low}
use Rattle.laws.specs.Tree.Below.{was, not-below}
use Rattle.laws.specs.Tree.Revoke.{Ok, ok-all, fewer, ranked-left}
use Rattle.laws.specs.Tree.Steps.{region-at}
use Rattle.laws.specs.Keep.SameDomains.{SameDomains, same-domains-self}
use Rattle.laws.specs.Keep.Whole.{Whole}
use Rattle.laws.specs.Keep.RevokeRegion.{leaves-whole}
use Rattle.tables.specs.declared.RegionCapa.{RegionCapa}
use Rattle.tables.specs.Tables.{Tables, region_at}
use Rattle.answers.specs.Answers.{and_then}
use Rattle.leaf_revocation.specs.Leaf.{revoke_leaf}
use Rattle.revocation.specs.Revoke.{revoke_region, revoke}
use Rattle.refine.specs.Agrees.{Agrees, agrees-step, agrees-call, agrees-state, bind_assoc}
use Rattle.decoded.specs.Tree.Regions.{region-read}
use Rattle.refine.specs.Arenas.Pools.{count-is}
use Rattle.refine.specs.Tree.Search.{regions-children}
use Rattle.laws.specs.Accepted.{all-ok}
use Rattle.refine.specs.Calls.ClosingSet.{SameClosing}
use Rattle.refine.specs.Calls.RevokeLeaf.{revoke-leaf-refines}
use Rattle.decoded.specs.Tables.{tables_of}
use Rattle.refine.specs.Calls.Activate.{plain}

-- ---- one turn

module _ (closing : ℕ) (ls : List ℕ) (n i : ℕ) where
  code-last : (t : Tables) → (region_at t i).child ≡ 0 → revoke_region closing (suc n) i t ≡ revoke_leaf closing i t
  unfolding revoke_region
  code-last t e = rw (revoke_region, e)

  code-first : (t : Tables) (c : ℕ) → (region_at t i).child ≡ suc c → revoke_region closing (suc n) i t ≡ and_then (revoke_region closing n c t) (λ v. revoke_region closing n i)
  unfolding revoke_region
  code-first t c e = let z : suc c - 1 ≡ c = omega arith in rw (revoke_region, e, ne_eqb (suc c) 0 (λ q. omega arith), z)

  model-last : (s : State) → (state.region_at s i).children ≡ [] → model.revoke_region ls (suc n) i s ≡ model.revoke_leaf ls i s
  unfolding model.revoke_region
  model-last s e = ap (λ (l : List ℕ). elim l [ [] ↦ model.revoke_leaf ls i s | c ∷ cs ↦ model.revoke_region ls n c s >>= λ s₁. model.revoke_region ls n i s₁ ]) e

  model-first : (s : State) (c : ℕ) (cs : List ℕ) → (state.region_at s i).children ≡ c ∷ cs → model.revoke_region ls (suc n) i s ≡ (model.revoke_region ls n c s >>= λ s₁. model.revoke_region ls n i s₁)
  unfolding model.revoke_region
  model-first s c cs e = ap (λ (l : List ℕ). elim l [ [] ↦ model.revoke_leaf ls i s | c ∷ cs ↦ model.revoke_region ls n c s >>= λ s₁. model.revoke_region ls n i s₁ ]) e

-- ---- all turns

module _ (closing : ℕ) (ls : List ℕ) (same : SameClosing closing ls) (r : ℕ → ℕ) where
  -- what is to be shown of the bound m; r is the rank
  unfoldable Turns : ℕ → Type 0
  Turns m = (s : State) (i p : ℕ) (g : state.Region) → Whole s → Ranked s.regions r → In s.regions i g → parent_of g.kind ≡ some p → count_if is_some s.regions ≤ m + r i
      → Agrees (revoke_region closing m i (tables_of s)) (plain (model.revoke_region ls m i s))

  turns-zero : Turns 0
  unfolding Turns
  turns-zero s i p g k q e n f = absurd (omega (arith, rank-low s.regions k.0.regions r q i g e))

  module _ (m : ℕ) (turns : Turns m) (s : State) (i p : ℕ) (g : state.Region) (k : Whole s) (q : Ranked s.regions r) (e : In s.regions i g) (n : parent_of g.kind ≡ some p) (f : count_if is_some s.regions ≤ suc m + r i) where
    child-read : (region_at (tables_of s) i).child ≡ link (first_of g.children)
    child-read = ap (λ (w : RegionCapa). w.child) (region-read s k.1.regions.size i g e)

    children-at : (state.region_at s i).children ≡ g.children
    children-at = ap (λ (w : state.Region). w.children) (region-at s i g e)

    last : g.children ≡ [] → Agrees (revoke_region closing (suc m) i (tables_of s)) (plain (model.revoke_region ls (suc m) i s))
    last empty =
        let u = under s.regions k.0.regions i p g e (child-of g.kind p n) in
        agrees-step _ _ (plain (model.revoke_region ls (suc m) i s)) (code-last closing ls m i (tables_of s) (child-read ∙ ap (λ (l : List ℕ). link (first_of l)) empty))
        (agrees-call _ (plain (model.revoke_region ls (suc m) i s)) _ (ap plain (model-last closing ls m i s (children-at ∙ empty)))
        (revoke-leaf-refines closing ls same s k i p g u.parent e empty n u.is))

    module _ (c : ℕ) (cs : List ℕ) (l : g.children ≡ c ∷ cs) where
      head : (y : state.Region) × In s.regions c y × (parent_of y.kind ≡ some i)
      head = (regions-children s.regions k.0.regions i g e).under c (omega (arith, ap (count_if (eqb c)) l, one c c refl))

      lower : count_if is_some s.regions ≤ m + r c
      lower = let (y, ey, ny) = head in omega (arith, q.child c i y ey ny)

      -- the first child is gone, with all below it
      then : (t : State) → model.revoke_region ls m c s ≡ ok t → Agrees (revoke_region closing m i (tables_of t)) (plain (model.revoke_region ls m i t))
      unfolding Turns Ok
      then t o =
          let (y, ey, ny) = head in
          let ((k', a), u) = all-ok _ _ t (ok-all ls (λ v. Whole v × SameDomains s v) (leaves-whole ls s) r m s c i y (k, same-domains-self s) k.0.regions q ey ny lower) o in
          let w = was t.regions s.regions i g (sym (u.kept i (not-below s.regions t.regions t.regions r i c q y ey ny u))) e in
          turns t i p w.0 k' (ranked-left s.regions t.regions r c q u) w.1 (w.2 ∙ n) (omega (arith, fewer s.regions t.regions c y ey u))

      first : Agrees (revoke_region closing (suc m) i (tables_of s)) (plain (model.revoke_region ls (suc m) i s))
      unfolding Turns
      first =
          let (y, ey, ny) = head in
          agrees-step _ _ (plain (model.revoke_region ls (suc m) i s)) (code-first closing ls m i (tables_of s) c (child-read ∙ ap (λ (x : List ℕ). link (first_of x)) l))
          (agrees-call _ (plain (model.revoke_region ls (suc m) i s)) _ (ap plain (model-first closing ls m i s c cs (children-at ∙ l)) ∙ bind_assoc _ _ _)
          (agrees-state (revoke_region closing m c (tables_of s)) (revoke_region closing m i) (model.revoke_region ls m c s) (λ t. plain (model.revoke_region ls m i t)) (turns s c i y k q ey ny lower) then))

    by-list : (ks : List ℕ) → g.children ≡ ks → Agrees (revoke_region closing (suc m) i (tables_of s)) (plain (model.revoke_region ls (suc m) i s))
    by-list [] l = last l
    by-list (c ∷ cs) l = first c cs l

  turns-suc : (m : ℕ) → Turns m → Turns (suc m)
  unfolding Turns
  turns-suc m turns s i p g k q e n f = by-list m turns s i p g k q e n f g.children refl

  turns-all : (m : ℕ) → Turns m
  turns-all zero = turns-zero
  turns-all (suc m) = turns-suc m (turns-all m)

-- ---- from the number of live regions

module _ (closing : ℕ) (ls : List ℕ) (same : SameClosing closing ls) (s : State) (whole : Whole s) (i p : ℕ) (g : state.Region) (e : In s.regions i g) (n : parent_of g.kind ≡ some p) where
  count_word : (tables_of s).region_pool.count ≡ live_count s
  unfolding tables_of
  count_word = count-is s.sizes.regions s.regions s.region_pool whole.1.regions.pool whole.1.regions.size

  pub revoke-region-refines : Agrees (revoke closing i (tables_of s)) (model.revoke_region ls (live_count s) i s >>= λ s₁. ok (0, s₁))
  unfolding revoke Turns
  revoke-region-refines =
      agrees-step (revoke closing i (tables_of s)) (revoke_region closing (live_count s) i (tables_of s)) (plain (model.revoke_region ls (live_count s) i s)) (ap (λ (m : ℕ). revoke_region closing m i (tables_of s)) count_word)
      (turns-all closing ls same (rank s.regions whole.0.regions) (live_count s) s i p g whole (ranked s.regions whole.0.regions) e n (omega arith))
