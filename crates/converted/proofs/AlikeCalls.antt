-- On two states that are the same but for marks each step of a call does the same: no check reads a mark.
use Rattle.std.specs.Prelude.{refl, ℕ, [], eqb}
use Rattle.std.proofs.Common.{sym, subst}
use Rattle.std.proofs.Math.Option.{Option, none, some}
use Rattle.model.specs.State.{Handle, Capa, no_capa, region, region_revoke, management, channel, Kind, Root, Alias, Carve, Access, SendOptions}
use Rattle.model.specs.Locals.{capa_at, remove_capa, empty_capa}
use Rattle.model.specs.Tree.{insert_child}
use Rattle.model.specs.Calls.{live_domain, caller_with, live_region, region_held, room_for_region, new_domain, open_domain, open_channel, set_core_map, set_interface, freeze_interface, create_root_region, add_child, alias_region, exchange_rights, carve_region, send_capa, send, revoke, create_revoke_capa}
use Rattle.interface.proofs.Outcomes.{accepted, refused, bind-same, and_same, branch}
use Rattle.converted.proofs.AlikeRevoke.{revoke-capa-alike}
use Rattle.converted.proofs.Alike.{SameQueue, Same, Same₁, bind-alike, bind-alike₁, capacity-alike, insert-alike, activate-alike, deactivate-alike, new-alike, send-region-alike, options-alike, options-queue}

-- ---- domains and channels

new-domain-alike : (m : Option ℕ) (cores : ℕ) → Same₁ (new_domain m cores)
unfolding new_domain
new-domain-alike m cores s q e = bind-same refl (λ x. accepted (q, e, refl))

pub open-alike : (m : Option Handle) (cores : ℕ) → Same₁ (open_domain m cores)
unfolding open_domain live_domain
open-alike none cores s q e = bind-alike₁ _ (new-domain-alike none cores s q e) (λ x q₁ e₁. accepted (q₁, e₁, refl))
open-alike (some h) cores s q e =
    bind-same refl (λ m.
    bind-alike₁ _ (new-domain-alike (some m) cores s q e) (λ (i, s₁) q₁ e₁.
    bind-alike _ (capacity-alike m s₁ q₁ e₁) (λ s₂ q₂ e₂.
    bind-alike₁ _ (insert-alike m _ s₂ q₂ e₂) (λ x q₃ e₃. accepted (q₃, e₃, refl)))))

pub channel-alike : (h k : Handle) → Same₁ (open_channel h k)
unfolding open_channel live_domain
channel-alike h k s q e = bind-same refl (λ d. bind-same refl (λ t. bind-alike _ (capacity-alike d s q e) (λ s₁ q₁ e₁. insert-alike d _ s₁ q₁ e₁)))

pub cores-alike : (h : Handle) (cores : ℕ) → Same (set_core_map h cores)
unfolding set_core_map live_domain
cores-alike h cores s q e = bind-same refl (λ d. accepted (q, e, refl))

pub interface-alike : (h : Handle) (word : ℕ) → Same (set_interface h word)
unfolding set_interface live_domain
interface-alike h word s q e = bind-same refl (λ d. and_same refl (accepted (q, e, refl)))

pub freeze-alike : (h : Handle) → Same (freeze_interface h)
unfolding freeze_interface live_domain
freeze-alike h s q e = bind-same refl (λ d. accepted (q, e, refl))

-- ---- regions

room-alike : (d : ℕ) (a : Access) → Same (room_for_region d a)
unfolding room_for_region
room-alike d a s q e = and_same refl (bind-alike _ (capacity-alike d s q e) (λ s₁ q₁ e₁. and_same refl (accepted (q₁, e₁, refl))))

pub root_alike : (h : Handle) (a : Access) → Same₁ (create_root_region h a)
unfolding create_root_region live_domain
root_alike h a s q e =
    bind-same refl (λ d.
    bind-alike _ (room-alike d a s q e) (λ s₁ q₁ e₁.
    bind-alike₁ _ (new-alike d Root a s₁ q₁ e₁) (λ (i, s₂) q₂ e₂.
    bind-alike₁ _ (insert-alike d _ s₂ q₂ e₂) (λ (l, s₃) q₃ e₃.
    bind-alike _ (activate-alike [] d a s₃ q₃ e₃) (λ s₄ q₄ e₄. accepted (q₄, e₄, refl))))))

child-alike : (d p : ℕ) (k : Kind) (a : Access) → Same₁ (add_child d p k a)
unfolding add_child insert_child
child-alike d p k a s q e = bind-alike₁ _ (new-alike d k a s q e) (λ (i, s₁) q₁ e₁. insert-alike d _ (insert_child p i s₁) q₁ e₁)

exchange-alike : (d old : ℕ) (a : Access) → Same (exchange_rights d old a)
unfolding exchange_rights
exchange-alike d old a s q e = branch (eqb old a.rights) (accepted (q, e, refl)) (bind-alike _ (deactivate-alike [] d _ s q e) (λ s₁ q₁ e₁. activate-alike [] d a s₁ q₁ e₁))

pub alias-alike : (h : Handle) (l : ℕ) (a : Access) → Same₁ (alias_region h l a)
unfolding alias_region caller_with live_domain region_held capa_at live_region
alias-alike h l a s q e =
    bind-same refl (λ d.
    bind-same refl (λ p.
    bind-alike _ (room-alike d a s q e) (λ s₁ q₁ e₁.
    and_same refl (bind-alike₁ _ (child-alike d p (Alias p) a s₁ q₁ e₁) (λ (n, s₂) q₂ e₂.
    bind-alike _ (activate-alike [] d a s₂ q₂ e₂) (λ s₃ q₃ e₃. accepted (q₃, e₃, refl)))))))

pub carve-alike : (h : Handle) (l : ℕ) (a : Access) → Same₁ (carve_region h l a)
unfolding carve_region caller_with live_domain region_held capa_at live_region
carve-alike h l a s q e =
    bind-same refl (λ d.
    bind-same refl (λ p.
    bind-alike _ (room-alike d a s q e) (λ s₁ q₁ e₁.
    and_same refl (bind-alike₁ _ (child-alike d p (Carve p) a s₁ q₁ e₁) (λ (n, s₂) q₂ e₂.
    bind-alike _ (exchange-alike d _ a s₂ q₂ e₂) (λ s₃ q₃ e₃. accepted (q₃, e₃, refl)))))))

-- ---- send

send-capa-alike : (c : Capa) (to : ℕ) (o : SendOptions) → Same (send_capa c to o)
unfolding send_capa live_region
send-capa-alike no_capa to o s q e = accepted (q, e, refl)
send-capa-alike (region h) to o s q e = bind-same refl (λ i. and_same refl (bind-alike _ (send-region-alike i to s q e) (λ s₁ q₁ e₁. accepted (q₁, subst (λ r. SameQueue r q₁) (sym (options-queue i o s₁)) e₁, options-alike i o s₁ q₁))))
send-capa-alike (region_revoke h) to o s q e = accepted (q, e, refl)
send-capa-alike (management h) to o s q e = refused
send-capa-alike (channel h) to o s q e = accepted (q, e, refl)

pub send-alike : (h : Handle) (l target : ℕ) (o : SendOptions) → Same₁ (send h l target o)
unfolding send caller_with live_domain capa_at remove_capa
send-alike h l target o s q e =
    bind-same refl (λ d.
    bind-same refl (λ t.
    bind-same refl (λ k.
    bind-same refl (λ to.
    bind-alike _ (capacity-alike to s q e) (λ s₁ q₁ e₁.
    bind-same refl (λ c.
    bind-alike _ (send-capa-alike c to o s₁ q₁ e₁) (λ s₂ q₂ e₂.
    insert-alike to c (remove_capa d l s₂) q₂ e₂)))))))

-- ---- revoke

pub revoke-alike : (h : Handle) (l : ℕ) → Same (revoke h l)
unfolding revoke live_domain capa_at empty_capa
revoke-alike h l s q e = bind-same refl (λ d. bind-same refl (λ c. bind-alike _ (revoke-capa-alike c s q e) (λ s₁ q₁ e₁. accepted (q₁, e₁, refl))))

pub make-revoke-alike : (h : Handle) (l : ℕ) → Same₁ (create_revoke_capa h l)
unfolding create_revoke_capa live_domain region_held capa_at live_region
make-revoke-alike h l s q e =
    bind-same refl (λ d.
    bind-same refl (λ i.
    and_same refl (bind-alike _ (capacity-alike d s q e) (λ s₁ q₁ e₁. insert-alike d _ s₁ q₁ e₁))))
