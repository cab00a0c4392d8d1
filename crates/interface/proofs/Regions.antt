-- The steps on regions do the same without the bits of domains' words: regions, their pool and the ring are the same there.
use Rattle.std.specs.Prelude.{◌≡◌, refl, ℕ, zero, suc, List, [], ◌∷◌, eqb}
use Rattle.std.proofs.Common.{sym, subst}
use Rattle.std.proofs.Math.Option.{Option, none, some}
use Rattle.rights.specs.Rights.{has, CLEANUP}
use Rattle.model.specs.State.{State, Region, Kind, Root, Alias, Carve, Access, SendOptions, Capa, no_capa, region, region_revoke, management, channel, Handle, region_at, put_region, with_owner}
use Rattle.model.specs.Tree.{Range, access_of, effective_ranges, insert_child, remove_child}
use Rattle.model.specs.Regions.{deactivate, new_region, free_region, send_ranges, send_region, apply_options, give_back, leave_parent, revoke_leaf, revoke_region}
use Rattle.model.specs.Calls.{live_region, room_for_region, add_child, exchange_rights, send_capa}
use Rattle.interface.proofs.Outcomes.{Both, accepted, refused, By, bind-by, bind-same, and_same, branch}
use Rattle.interface.proofs.NoBits.{no_bits, no_bits₁, capacity-same, insert-same, push-same, activate-same, deactivate-same}

pub live-region-same : (s : State) (h : Handle) → live_region (no_bits s) h ≡ live_region s h
unfolding live_region
live-region-same s h = refl

-- ---- a region comes, and goes

pub new-same : (d : ℕ) (k : Kind) (a : Access) (s : State) → Both (By no_bits₁) (new_region d k a s) (new_region d k a (no_bits s))
unfolding new_region
new-same d k a s = bind-same refl (λ x. accepted refl)

free-same : (i : ℕ) (s : State) → Both (By no_bits) (free_region i s) (free_region i (no_bits s))
unfolding free_region
free-same i s = bind-same refl (λ p. accepted refl)

insert-child-same : (p i : ℕ) (s : State) → insert_child p i (no_bits s) ≡ no_bits (insert_child p i s)
unfolding insert_child
insert-child-same p i s = refl

leave_same : (i : ℕ) (k : Kind) (s : State) → (region_at s i).kind ≡ k → leave_parent i (no_bits s) ≡ no_bits (leave_parent i s)
unfolding leave_parent remove_child
leave_same i Root s e = rw (e, leave_parent)
leave_same i (Alias p) s e = rw (e, leave_parent)
leave_same i (Carve p) s e = rw (e, leave_parent)

pub child-same : (d p : ℕ) (k : Kind) (a : Access) (s : State) → Both (By no_bits₁) (add_child d p k a s) (add_child d p k a (no_bits s))
unfolding add_child insert_child
child-same d p k a s = bind-by _ (new-same d k a s) (λ (i, s₁). insert-same d _ (insert_child p i s₁))

pub room-same : (d : ℕ) (a : Access) (s : State) → Both (By no_bits) (room_for_region d a s) (room_for_region d a (no_bits s))
unfolding room_for_region
room-same d a s = and_same refl (bind-by _ (capacity-same d s) (λ s₁. and_same refl (accepted refl)))

pub exchange-same : (d old : ℕ) (a : Access) (s : State) → Both (By no_bits) (exchange_rights d old a s) (exchange_rights d old a (no_bits s))
unfolding exchange_rights
exchange-same d old a s = branch (eqb old a.rights) (accepted refl) (bind-by _ (deactivate-same [] d _ s) (λ s₁. activate-same [] d a s₁))

-- ---- send

ranges-same : (old new r : ℕ) (xs : List Range) (s : State) → Both (By no_bits) (send_ranges old new r xs s) (send_ranges old new r xs (no_bits s))
unfolding send_ranges
ranges-same old new r [] s = accepted refl
ranges-same old new r (x ∷ xs) s =
    bind-by _ (deactivate-same [] old _ s) (λ s₁.
    bind-by _ (activate-same [] new _ s₁) (λ s₂.
    ranges-same old new r xs s₂))

send-region-same : (i new : ℕ) (s : State) → Both (By no_bits) (send_region i new s) (send_region i new (no_bits s))
unfolding send_region
send-region-same i new s = let g = region_at s i in ranges-same g.owner new g.rights (effective_ranges s g) (put_region i (with_owner new g) s)

options-same : (i : ℕ) (o : SendOptions) (s : State) → apply_options i o (no_bits s) ≡ no_bits (apply_options i o s)
unfolding apply_options
options-same i o s = go o.flags
  where
    go : (x : Option ℕ) → apply_options i (record { flags = x; hash = o.hash }) (no_bits s) ≡ no_bits (apply_options i (record { flags = x; hash = o.hash }) s)
    go none = refl
    go (some f) = refl

pub send-capa-same : (c : Capa) (to : ℕ) (o : SendOptions) (s : State) → Both (By no_bits) (send_capa c to o s) (send_capa c to o (no_bits s))
unfolding send_capa
send-capa-same no_capa to o s = accepted refl
send-capa-same (region h) to o s = bind-same (live-region-same s h) (λ i. and_same refl (bind-by _ (send-region-same i to s) (λ s₁. accepted (options-same i o s₁))))
send-capa-same (region_revoke h) to o s = accepted refl
send-capa-same (management h) to o s = refused
send-capa-same (channel h) to o s = accepted refl

-- ---- revoke

give-same : (closing : List ℕ) → (g : Region) (k : Kind) (s : State) → g.kind ≡ k → Both (By no_bits) (give_back closing g s) (give_back closing g (no_bits s))
unfolding give_back
give-same closing g Root s e = rw (e, give_back) (accepted refl)
give-same closing g (Alias p) s e = rw (e, give_back) (accepted refl)
give-same closing g (Carve p) s e = rw (e, give_back) (activate-same closing _ _ s)

leaf-same : (closing : List ℕ) → (i : ℕ) (s : State) → Both (By no_bits) (revoke_leaf closing i s) (revoke_leaf closing i (no_bits s))
unfolding revoke_leaf
leaf-same closing i s =
    let g = region_at s i in
    let left : Both (By no_bits) (deactivate closing g.owner (access_of g) (leave_parent i s)) (deactivate closing g.owner (access_of g) (leave_parent i (no_bits s))) = subst (λ t. Both (By no_bits) (deactivate closing g.owner (access_of g) (leave_parent i s)) (deactivate closing g.owner (access_of g) t)) (sym (leave_same i g.kind s refl)) (deactivate-same closing g.owner (access_of g) (leave_parent i s)) in
    bind-by _ left (λ s₁.
    bind-by _ (give-same closing g _ s₁ refl) (λ s₂.
    bind-by _ (free-same i s₂) (λ s₃.
    branch (has g.rights CLEANUP) (push-same _ s₃) (accepted refl))))

pub revoke-region-same : (closing : List ℕ) → (n i : ℕ) (s : State) → Both (By no_bits) (revoke_region closing n i s) (revoke_region closing n i (no_bits s))
unfolding revoke_region
revoke-region-same closing zero i s = accepted refl
revoke-region-same closing (suc n) i s = go (region_at s i).children refl (λ j t. revoke-region-same closing n j t)
  where
    go : (cs : List ℕ) → (region_at s i).children ≡ cs → ((j : ℕ) (t : State) → Both (By no_bits) (revoke_region closing n j t) (revoke_region closing n j (no_bits t))) → Both (By no_bits) (revoke_region closing (suc n) i s) (revoke_region closing (suc n) i (no_bits s))
    go [] e ih = rw (e, revoke_region) (leaf-same closing i s)
    go (c ∷ cs) e ih = rw (e, revoke_region) (bind-by _ (ih c s) (λ s₁. ih i s₁))
