-- On two states that are the same but for marks the revoke of a capability does the same, the close of a domain included.
use Rattle.std.specs.Prelude.{◌≡◌, refl, not, ℕ, zero, suc}
use Rattle.std.proofs.Common.{sym, ap, subst}
use Rattle.std.proofs.Math.Option.{Option, none, some}
use mathlib.Core.List.{List, [], ◌∷◌}
use Rattle.refusals.specs.Refusals.{holds_root}
use Rattle.rights.specs.Rights.{has, CLEANUP}
use Rattle.model.specs.Outcome.{Outcome, require}
use Rattle.model.specs.State.{State, Handle, Capa, no_capa, region, region_revoke, management, channel, Region, Kind, Root, Alias, Carve, Queue, with_queue, domain_at, region_at}
use Rattle.model.specs.Pool.{is_live}
use Rattle.model.specs.Tree.{access_of, remove_child}
use Rattle.model.specs.Regions.{live_count, deactivate, free_region, give_back, leave_parent, revoke_leaf, revoke_region}
use Rattle.model.specs.Closing.{root_to_close, closes_root, closes_running, revoke_live, revoke_slot, revoke_slots, free_domain, close_domain, live_domains}
use Rattle.model.specs.Calls.{close_managed, live_domain, live_region, revoke_unless_root, revoke_capa}
use Rattle.interface.proofs.Outcomes.{Both, accepted, bind-same, and_same, branch}
use Rattle.interface.proofs.Closing.{exists-same}
use Rattle.converted.proofs.Alike.{SameQueue, Alike, Same, bind-alike, push-alike, activate-alike, deactivate-alike}

-- ---- a region and all below it

leave-alike : (i : ℕ) (k : Kind) (s : State) (q : Queue) → (region_at s i).kind ≡ k → leave_parent i (with_queue q s) ≡ with_queue q (leave_parent i s)
unfolding leave_parent remove_child
leave-alike i Root s q e = rw (e, leave_parent)
leave-alike i (Alias p) s q e = rw (e, leave_parent)
leave-alike i (Carve p) s q e = rw (e, leave_parent)

leave-queue : (i : ℕ) (k : Kind) (s : State) → (region_at s i).kind ≡ k → (leave_parent i s).queue ≡ s.queue
unfolding leave_parent remove_child
leave-queue i Root s e = rw (e, leave_parent)
leave-queue i (Alias p) s e = rw (e, leave_parent)
leave-queue i (Carve p) s e = rw (e, leave_parent)

give-alike : (closing : List ℕ) → (g : Region) (k : Kind) → g.kind ≡ k → Same (give_back closing g)
unfolding give_back
give-alike closing g Root k s q e = rw (k, give_back) (accepted (q, e, refl))
give-alike closing g (Alias p) k s q e = rw (k, give_back) (accepted (q, e, refl))
give-alike closing g (Carve p) k s q e = rw (k, give_back) (activate-alike closing _ _ s q e)

free-alike : (i : ℕ) → Same (free_region i)
unfolding free_region
free-alike i s q e = bind-same refl (λ p. accepted (q, e, refl))

leaf-alike : (closing : List ℕ) → (i : ℕ) → Same (revoke_leaf closing i)
unfolding revoke_leaf
leaf-alike closing i s q e =
    let g = region_at s i in
    let out = leave_parent i s in
    let f = deactivate closing g.owner (access_of g) in
    let left : Both Alike (f out) (f (leave_parent i (with_queue q s))) =
    subst (λ t. Both Alike (f out) (f t)) (sym (leave-alike i g.kind s q refl)) (deactivate-alike closing g.owner (access_of g) out q (subst (λ r. SameQueue r q) (sym (leave-queue i g.kind s refl)) e)) in
    bind-alike _ left (λ s₁ q₁ e₁.
    bind-alike _ (give-alike closing g _ refl s₁ q₁ e₁) (λ s₂ q₂ e₂.
    bind-alike _ (free-alike i s₂ q₂ e₂) (λ s₃ q₃ e₃.
    branch (has g.rights CLEANUP) (push-alike _ s₃ q₃ e₃) (accepted (q₃, e₃, refl)))))

revoke-region-alike : (closing : List ℕ) → (n i : ℕ) → Same (revoke_region closing n i)
unfolding revoke_region
revoke-region-alike closing zero i s q e = accepted (q, e, refl)
revoke-region-alike closing (suc n) i s q e = go (region_at s i).children refl (revoke-region-alike closing n)
  where
    go : (cs : List ℕ) → (region_at s i).children ≡ cs → ((j : ℕ) → Same (revoke_region closing n j)) → Both Alike (revoke_region closing (suc n) i s) (revoke_region closing (suc n) i (with_queue q s))
    go [] k ih = rw (k, revoke_region) (leaf-alike closing i s q e)
    go (c ∷ cs) k ih = rw (k, revoke_region) (bind-alike _ (ih c s q e) (λ s₁ q₁ e₁. ih i s₁ q₁ e₁))

-- ---- a close

live_alike : (closing : List ℕ) (h : Handle) → Same (revoke_live closing h)
unfolding revoke_live
live_alike closing h s q e = branch (is_live s.region_pool s.regions h) (revoke-region-alike closing (live_count s) h.slot s q e) (accepted (q, e, refl))

free-domain-alike : (d : ℕ) → Same (free_domain d)
unfolding free_domain
free-domain-alike d s q e = bind-same refl (λ p. accepted (q, e, refl))

module _ (close : ℕ → State → Outcome State) (alike : (d : ℕ) → Same (close d)) (closing : List ℕ) where
  slot-alike : (c : Option Capa) → Same (revoke_slot close closing c)
  unfolding revoke_slot
  slot-alike none s q e = accepted (q, e, refl)
  slot-alike (some no_capa) s q e = accepted (q, e, refl)
  slot-alike (some (region h)) s q e = live_alike closing h s q e
  slot-alike (some (region_revoke h)) s q e = live_alike closing h s q e
  slot-alike (some (management h)) s q e = branch (is_live s.domain_pool s.domains h) (alike h.slot s q e) (accepted (q, e, refl))
  slot-alike (some (channel h)) s q e = accepted (q, e, refl)

  slots-alike : (cs : List (Option Capa)) → Same (revoke_slots (revoke_slot close closing) cs)
  unfolding revoke_slots
  slots-alike [] s q e = accepted (q, e, refl)
  slots-alike (c ∷ cs) s q e = bind-alike _ (slot-alike c s q e) (λ s₁ q₁ e₁. slots-alike cs s₁ q₁ e₁)

close-alike : (n : ℕ) (closing : List ℕ) (d : ℕ) → Same (close_domain n closing d)
unfolding close_domain
close-alike zero closing d s q e = accepted (q, e, refl)
close-alike (suc n) closing d s q e = bind-alike _ (slots-alike (close_domain n (d ∷ closing)) (close-alike n (d ∷ closing)) (d ∷ closing) (domain_at s d).locals.held s q e) (λ s₁ q₁ e₁. free-domain-alike d s₁ q₁ e₁)

-- 3, 22 and 23 read no update
root_alike : (s : State) (q : Queue) (d : ℕ) (o : Option Region) → root_to_close (with_queue q s) d o ≡ root_to_close s d o
root_alike s q d none = refl
root_alike s q d (some g) = refl

close-managed-alike : (h : Handle) → Same (close_managed h)
unfolding close_managed live_domain closes_root closes_running
close-managed-alike h s q e = bind-same refl (λ d. and_same (ap (λ b. require (not b) holds_root) (exists-same (root_to_close (with_queue q s) d) (root_to_close s d) s.regions (root_alike s q d))) (and_same refl (close-alike (live_domains s) [] d s q e)))

-- ---- a capability

unless-alike : (i : ℕ) → Same (revoke_unless_root i)
unfolding revoke_unless_root
unless-alike i s q e = and_same refl (revoke-region-alike [] _ i s q e)

pub revoke-capa-alike : (c : Capa) → Same (revoke_capa c)
unfolding revoke_capa live_region
revoke-capa-alike no_capa s q e = accepted (q, e, refl)
revoke-capa-alike (region h) s q e = bind-same refl (λ i. unless-alike i s q e)
revoke-capa-alike (region_revoke h) s q e = branch (is_live s.region_pool s.regions h) (unless-alike h.slot s q e) (accepted (q, e, refl))
revoke-capa-alike (management h) s q e = close-managed-alike h s q e
revoke-capa-alike (channel h) s q e = accepted (q, e, refl)
