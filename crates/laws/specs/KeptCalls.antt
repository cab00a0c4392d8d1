-- A law: no call but making changes the sizes or the length of a table.
use Rattle.std.specs.Prelude.{◌≡◌, refl, ℕ, List, [], ◌∷◌, eqb}
use Rattle.std.proofs.Math.Option.{Option, none, some}
use Rattle.std.proofs.Common.{length-set}
use Rattle.model.specs.Lists.{Each}
use Rattle.model.specs.Outcome.{Outcome, ok, refuse}
use Rattle.laws.specs.Accepted.{All, accepted, refused, bind, bind-any, and_then, branch}
use Rattle.model.specs.State.{State, Handle, Capa, no_capa, region, region_revoke, management, channel, Kind, Root, Alias, Carve, Access, SendOptions, Update}
use Rattle.model.specs.Pool.{is_live}
use Rattle.model.specs.Updates.{pop}
use Rattle.model.specs.Tree.{insert_child}
use Rattle.model.specs.Calls.{room_for_region, new_domain, open_domain, open_channel, set_core_map, set_interface, freeze_interface, create_root_region, add_child, alias_region, exchange_rights, carve_region, send_capa, send, revoke_unless_root, close_managed, revoke_capa, revoke, create_revoke_capa}
use Rattle.model.specs.Closing.{free_domain}
use Rattle.model.specs.Perform.{Step, Call, Value, perform_step, perform, after, step, run}
use Rattle.model.specs.Memory.{NotMake}
use Rattle.laws.specs.Kept.{Kept, allocate-same, free-same, same, trans, Kept₁, put-domain, put-region, capacity-kept, insert-kept, remove-kept, empty-kept, activate-kept, deactivate-kept, and_so, and-so₁, new-region-kept, send-region-kept, options-kept, revoke-region-kept}
use Rattle.laws.specs.Close.AnyTables.{close-any}

room-kept : (d : ℕ) (a : Access) (s : State) → All (Kept s) (room_for_region d a s)
unfolding room_for_region
room-kept d a s = and_then _ (bind (capacity-kept d s) (λ s₁ k. and_then _ (accepted k)))

new-domain-kept : (m : Option ℕ) (c : ℕ) (s : State) → All (Kept₁ s) (new_domain m c s)
unfolding new_domain
new-domain-kept m c s = bind (allocate-same _ s.domain_pool.gens s.domain_pool.free) (λ x h. accepted (record { sizes = refl; domains = length-set s.domains x.0 _; regions = refl; domain_gens = h; region_gens = refl; record_gens = refl }))

open_kept : (m : Option Handle) (c : ℕ) (s : State) → All (Kept₁ s) (open_domain m c s)
unfolding open_domain
open_kept none c s = bind (new-domain-kept none c s) (λ x k. accepted k)
open_kept (some h) c s =
    bind-any _ (λ m.
    bind (new-domain-kept (some m) c s) (λ x j.
    bind (and_so j (capacity-kept m x.1)) (λ s₂ k.
    bind (and-so₁ k (insert-kept m _ s₂)) (λ y l. accepted l))))

channel-kept : (h to : Handle) (s : State) → All (Kept₁ s) (open_channel h to s)
unfolding open_channel
channel-kept h to s = bind-any _ (λ d. bind-any _ (λ t. bind (capacity-kept d s) (λ s₁ k. and-so₁ k (insert-kept d _ s₁))))

set-core-map-kept : (h : Handle) (c : ℕ) (s : State) → All (Kept s) (set_core_map h c s)
unfolding set_core_map
set-core-map-kept h c s = bind-any _ (λ d. accepted (put-domain d _ s))

set-interface-kept : (h : Handle) (word : ℕ) (s : State) → All (Kept s) (set_interface h word s)
unfolding set_interface
set-interface-kept h word s = bind-any _ (λ d. and_then _ (accepted (put-domain d _ s)))

freeze-interface-kept : (h : Handle) (s : State) → All (Kept s) (freeze_interface h s)
unfolding freeze_interface
freeze-interface-kept h s = bind-any _ (λ d. accepted (put-domain d _ s))

root_kept : (h : Handle) (a : Access) (s : State) → All (Kept₁ s) (create_root_region h a s)
unfolding create_root_region
root_kept h a s =
    bind-any _ (λ d.
    bind (room-kept d a s) (λ s₁ i.
    bind (and-so₁ i (new-region-kept d Root a s₁)) (λ x j.
    bind (and-so₁ j (insert-kept d _ x.1)) (λ y k.
    bind (and_so k (activate-kept [] d a y.1)) (λ s₄ l. accepted l)))))

child-kept : (d p : ℕ) (k : Kind) (a : Access) (s : State) → All (Kept₁ s) (add_child d p k a s)
unfolding add_child insert_child
child-kept d p k a s = bind (new-region-kept d k a s) (λ x j. and-so₁ (trans s x.1 _ (put-region p _ x.1) j) (insert-kept d _ _))

alias-kept : (h : Handle) (l : ℕ) (a : Access) (s : State) → All (Kept₁ s) (alias_region h l a s)
unfolding alias_region
alias-kept h l a s =
    bind-any _ (λ d.
    bind-any _ (λ p.
    bind (room-kept d a s) (λ s₁ i.
    and_then _ (bind (and-so₁ i (child-kept d p (Alias p) a s₁)) (λ x j.
    bind (and_so j (activate-kept [] d a x.1)) (λ s₃ k. accepted k))))))

exchange-kept : (d old : ℕ) (a : Access) (s : State) → All (Kept s) (exchange_rights d old a s)
unfolding exchange_rights
exchange-kept d old a s = branch (eqb old a.rights) (accepted (same s)) (bind (deactivate-kept [] d _ s) (λ s₁ k. and_so k (activate-kept [] d a s₁)))

carve-kept : (h : Handle) (l : ℕ) (a : Access) (s : State) → All (Kept₁ s) (carve_region h l a s)
unfolding carve_region
carve-kept h l a s =
    bind-any _ (λ d.
    bind-any _ (λ p.
    bind (room-kept d a s) (λ s₁ i.
    and_then _ (bind (and-so₁ i (child-kept d p (Carve p) a s₁)) (λ x j.
    bind (and_so j (exchange-kept d _ a x.1)) (λ s₃ k. accepted k))))))

send-capa-kept : (c : Capa) (to : ℕ) (o : SendOptions) (s : State) → All (Kept s) (send_capa c to o s)
unfolding send_capa
send-capa-kept no_capa to o s = accepted (same s)
send-capa-kept (region h) to o s = bind-any _ (λ i. and_then _ (bind (send-region-kept i to s) (λ t k. accepted (trans s t _ (options-kept i o t) k))))
send-capa-kept (region_revoke h) to o s = accepted (same s)
send-capa-kept (management h) to o s = refused
send-capa-kept (channel h) to o s = accepted (same s)

send-kept : (h : Handle) (l t : ℕ) (o : SendOptions) (s : State) → All (Kept₁ s) (send h l t o s)
unfolding send
send-kept h l t o s =
    bind-any _ (λ d.
    bind-any _ (λ c.
    bind-any _ (λ k.
    bind-any _ (λ to.
    bind (capacity-kept to s) (λ s₁ i.
    bind-any _ (λ c'.
    bind (and_so i (send-capa-kept c' to o s₁)) (λ s₂ j.
    and-so₁ (trans s s₂ _ (remove-kept d l s₂) j) (insert-kept to c' _))))))))

unless-root-kept : (i : ℕ) (s : State) → All (Kept s) (revoke_unless_root i s)
unfolding revoke_unless_root
unless-root-kept i s = and_then _ (revoke-region-kept [] _ i s)

free-domain-kept : (d : ℕ) (s : State) → All (Kept s) (free_domain d s)
unfolding free_domain
free-domain-kept d s = bind (free-same d s.domain_pool) (λ p h. accepted (record { sizes = refl; domains = length-set s.domains d none; regions = refl; domain_gens = h; region_gens = refl; record_gens = refl }))

close-managed-kept : (h : Handle) (s : State) → All (Kept s) (close_managed h s)
unfolding close_managed
close-managed-kept h s = bind-any _ (λ d. and_then _ (and_then _ (close-any (Kept s) (λ closing n i t k. and_so k (revoke-region-kept closing n i t)) (λ e t k. and_so k (free-domain-kept e t)) _ [] d s (same s))))

revoke-capa-kept : (c : Capa) (s : State) → All (Kept s) (revoke_capa c s)
unfolding revoke_capa
revoke-capa-kept no_capa s = accepted (same s)
revoke-capa-kept (region h) s = bind-any _ (λ i. unless-root-kept i s)
revoke-capa-kept (region_revoke h) s = branch (is_live s.region_pool s.regions h) (unless-root-kept h.slot s) (accepted (same s))
revoke-capa-kept (management h) s = close-managed-kept h s
revoke-capa-kept (channel h) s = accepted (same s)

revoke-kept : (h : Handle) (l : ℕ) (s : State) → All (Kept s) (revoke h l s)
unfolding revoke
revoke-kept h l s = bind-any _ (λ d. bind-any _ (λ c. bind (revoke-capa-kept c s) (λ s₁ k. accepted (trans s s₁ _ (empty-kept d l s₁) k))))

create-revoke-capa-kept : (h : Handle) (l : ℕ) (s : State) → All (Kept₁ s) (create_revoke_capa h l s)
unfolding create_revoke_capa
create-revoke-capa-kept h l s = bind-any _ (λ d. bind-any _ (λ i. and_then _ (bind (capacity-kept d s) (λ s₁ k. and-so₁ k (insert-kept d _ s₁)))))

pop_kept : (s : State) (us : List Update) → s.queue.items ≡ us → Kept s (pop s).1
unfolding pop
pop_kept s [] e = rw (e, pop) (record { sizes = refl; domains = refl; regions = refl; domain_gens = refl; region_gens = refl; record_gens = refl })
pop_kept s (u ∷ us) e = rw (e, pop) (record { sizes = refl; domains = refl; regions = refl; domain_gens = refl; region_gens = refl; record_gens = refl })

perform-step-kept : (s : State) (c : Step) → All (Kept₁ s) (perform_step s c)
unfolding perform_step
perform-step-kept s (Step.Open m c) = bind (open_kept m c s) (λ x k. accepted k)
perform-step-kept s (Step.Channel h to) = bind (channel-kept h to s) (λ x k. accepted k)
perform-step-kept s (Step.SetCoreMap h c) = bind (set-core-map-kept h c s) (λ x k. accepted k)
perform-step-kept s (Step.SetInterface h word) = bind (set-interface-kept h word s) (λ x k. accepted k)
perform-step-kept s (Step.FreezeInterface h) = bind (freeze-interface-kept h s) (λ x k. accepted k)
perform-step-kept s (Step.Root h a) = bind (root_kept h a s) (λ x k. accepted k)
perform-step-kept s (Step.Alias h l a) = bind (alias-kept h l a s) (λ x k. accepted k)
perform-step-kept s (Step.Carve h l a) = bind (carve-kept h l a s) (λ x k. accepted k)
perform-step-kept s (Step.Send h l t o) = bind (send-kept h l t o s) (λ x k. accepted k)
perform-step-kept s (Step.Revoke h l) = bind (revoke-kept h l s) (λ x k. accepted k)
perform-step-kept s (Step.CreateRevokeCapa h l) = bind (create-revoke-capa-kept h l s) (λ x k. accepted k)

-- No call but making changes the sizes or the length of a table.
pub perform_kept : (s : State) (c : Call) → NotMake c → All (Kept₁ s) (perform s c)
unfolding perform
perform_kept s (Call.Make z) n = absurd n
perform_kept s (Call.Do c) n = perform-step-kept s c
perform_kept s Call.Pop n = bind {P = Kept₁ s} (accepted (pop_kept s _ refl)) (λ x k. accepted k)
perform_kept s (Call.Read r) n = bind-any _ (λ x. accepted (same s))

after_kept : (s : State) (m : Outcome (Value × State)) → All (Kept₁ s) m → Kept s (after s m).1
after_kept s (ok x) (accepted h) = h
after_kept s (refuse r) refused = same s

pub step_kept : (s : State) (c : Call) → NotMake c → Kept s (step s c).1
unfolding step
step_kept s c n = after_kept s _ (perform_kept s c n)

pub run-kept : (s : State) (cs : List Call) → Each NotMake cs → Kept s (run s cs).1
unfolding run
run-kept s [] n = same s
run-kept s (c ∷ cs) n = trans s (step s c).1 _ (run-kept (step s c).1 cs n.1) (step_kept s c n.0)
