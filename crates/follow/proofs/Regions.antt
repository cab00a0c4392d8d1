-- The steps on regions keep `Tracks`: regions come, go and change hands with proper ranges, the ranges of a send are not empty, and the trackers change by
-- gains and losses alone.
use Rattle.std.specs.Prelude.{◌≡◌, ltb, if◌then◌else◌}
use Rattle.std.proofs.Math.Path.{refl}
use Prim.Native.Nat.{ℕ, zero, suc, ◌<◌}
use Rattle.std.proofs.Math.Option.{Option, none, some}
use mathlib.Core.List.{List, [], ◌∷◌, ◌++◌}
use Rattle.std.proofs.Common.{arith, ltb→lt}
use Rattle.base.specs.Cases.{holds, fails, test}
use Rattle.base.specs.Tests.{true-is}
use Rattle.model.specs.Lists.{Each}
use Rattle.rights.specs.Rights.{has, CLEANUP}
use Rattle.model.specs.State.{State, Region, Kind, Root, Alias, Carve, Access, SendOptions, region_at}
use Rattle.model.specs.Tree.{Range, is_carve, piece, effective_from, insert_child, remove_child, children_of}
use Rattle.model.specs.Regions.{new_region, free_region, send_ranges, send_region, apply_options, give_back, leave_parent, revoke_leaf, revoke_region}
use Rattle.laws.specs.Accepted.{All, accepted, bind, bind-any, branch}
use Rattle.laws.specs.Lists.{each-join}
use Rattle.follow.specs.Writer.{Seen}
use Rattle.follow.proofs.Steps.{Tracks, Apart, none-closing, Proper, region-tracks, push-tracks, activate-tracks, deactivate-tracks}

-- ---- the ranges of a send

abbrev Wide : Range → Type 0
Wide x = x.0 < x.1

piece-wide : (a b : ℕ) → Each Wide (piece a b)
piece-wide a b = elim (test (ltb a b)) [ holds e ↦ rw e (ltb→lt a b (true-is e), tt) | fails e ↦ rw e tt ]

each-pick : (l m : List Range) (c : Kind) → Each Wide l → Each Wide m → Each Wide (if is_carve c then l else m)
each-pick l m Root h k = k
each-pick l m (Alias p) h k = k
each-pick l m (Carve p) h k = h

effective-wide : (a e : ℕ) (cs : List Region) → Each Wide (effective_from a e cs)
effective-wide a e [] = piece-wide a e
effective-wide a e (c ∷ cs) = each-pick (piece a c.start ++ effective_from c.end e cs) (effective_from a e cs) c.kind (each-join Wide (piece a c.start) (effective_from c.end e cs) (piece-wide a c.start) (effective-wide c.end e cs)) (effective-wide a e cs)

module _ {claimed : ℕ → Type 0} (v : Seen) where
  ranges-tracks : (old new r : ℕ) (xs : List Range) (s : State) → Each Wide xs → Tracks claimed v s → All (Tracks claimed v) (send_ranges old new r xs s)
  unfolding send_ranges
  ranges-tracks old new r [] s w h = accepted h
  ranges-tracks old new r (x ∷ xs) s w h =
      bind (deactivate-tracks [] (none-closing claimed) v s h old _ (λ i. w.0)) (λ s₁ h₁.
      bind (activate-tracks [] (none-closing claimed) v s₁ h₁ new _ w.0) (λ s₂ h₂.
      ranges-tracks old new r xs s₂ w.1 h₂))

  pub send-tracks : (i new : ℕ) (s : State) → Tracks claimed v s → All (Tracks claimed v) (send_region i new s)
  unfolding send_region
  send-tracks i new s h = ranges-tracks _ new _ _ _ (effective-wide (region_at s i).start (region_at s i).end (children_of s.regions (region_at s i))) (region-tracks v s h s.region_pool i _ (h.ranges i))

  -- a send's options change rights and hash alone
  pub options-tracks : (i : ℕ) (o : SendOptions) (s : State) → Tracks claimed v s → Tracks claimed v (apply_options i o s)
  unfolding apply_options
  options-tracks i o s h = go o.flags
    where
      go : (x : Option ℕ) → Tracks claimed v (apply_options i (record { flags = x; hash = o.hash }) s)
      go none = h
      go (some f) = region-tracks v s h s.region_pool i _ (h.ranges i)

  -- ---- a region comes, and goes

  pub new-tracks : (d : ℕ) (k : Kind) (a : Access) (s : State) → a.start < a.end → Tracks claimed v s → All (λ (x : ℕ × State). Tracks claimed v x.1) (new_region d k a s)
  unfolding new_region
  new-tracks d k a s z h = bind-any _ (λ (i, p). accepted (region-tracks v s h p i _ (λ w. z, λ w. z)))

  free-tracks : (i : ℕ) (s : State) → Tracks claimed v s → All (Tracks claimed v) (free_region i s)
  unfolding free_region
  free-tracks i s h = bind-any _ (λ p. accepted (region-tracks v s h p i none (λ w. absurd (omega arith), λ w. absurd w)))

  pub insert-tracks : (p i : ℕ) (s : State) → Tracks claimed v s → Tracks claimed v (insert_child p i s)
  unfolding insert_child
  insert-tracks p i s h = region-tracks v s h s.region_pool p _ (h.ranges p)

  remove-tracks : (p i : ℕ) (s : State) → Tracks claimed v s → Tracks claimed v (remove_child p i s)
  unfolding remove_child
  remove-tracks p i s h = region-tracks v s h s.region_pool p _ (h.ranges p)

  -- ---- revoke

  leave-tracks : (i : ℕ) (k : Kind) (s : State) → (region_at s i).kind ≡ k → Tracks claimed v s → Tracks claimed v (leave_parent i s)
  unfolding leave_parent
  leave-tracks i Root s e h = rw (e, leave_parent) h
  leave-tracks i (Alias p) s e h = rw (e, leave_parent) (remove-tracks p i s h)
  leave-tracks i (Carve p) s e h = rw (e, leave_parent) (remove-tracks p i s h)

  module _ (closing : List ℕ) (apart : Apart claimed closing) where
    -- what goes back to the parent is a carve's range: not empty
    give-tracks : (g : Region) (k : Kind) (s : State) → g.kind ≡ k → Proper g → Tracks claimed v s → All (Tracks claimed v) (give_back closing g s)
    unfolding give_back
    give-tracks g Root s e z h = rw (e, give_back) (accepted h)
    give-tracks g (Alias p) s e z h = rw (e, give_back) (accepted h)
    give-tracks g (Carve p) s e z h = rw (e, give_back) (activate-tracks closing apart v s h _ _ (z.1 (rw e tt)))

    leaf-tracks : (i : ℕ) (s : State) → Tracks claimed v s → All (Tracks claimed v) (revoke_leaf closing i s)
    unfolding revoke_leaf
    leaf-tracks i s h =
        bind (deactivate-tracks closing apart v (leave_parent i s) (leave-tracks i _ s refl h) (region_at s i).owner _ (h.ranges i).0) (λ s₁ h₁.
        bind (give-tracks (region_at s i) _ s₁ refl (h.ranges i) h₁) (λ s₂ h₂.
        bind (free-tracks i s₂ h₂) (λ s₃ h₃.
        branch (has (region_at s i).rights CLEANUP) (push-tracks v _ s₃ h₃) (accepted h₃))))

    pub revoke-tracks : (n i : ℕ) (s : State) → Tracks claimed v s → All (Tracks claimed v) (revoke_region closing n i s)
    unfolding revoke_region
    revoke-tracks zero i s h = accepted h
    revoke-tracks (suc n) i s h = go (region_at s i).children refl (λ j t k. revoke-tracks n j t k)
      where
        go : (cs : List ℕ) → (region_at s i).children ≡ cs → ((j : ℕ) (t : State) → Tracks claimed v t → All (Tracks claimed v) (revoke_region closing n j t)) → All (Tracks claimed v) (revoke_region closing (suc n) i s)
        go [] e ih = rw (e, revoke_region) (leaf-tracks i s h)
        go (c ∷ cs) e ih = rw (e, revoke_region) (bind (ih c s h) (λ s₁ k. ih i s₁ k))
