-- A slot that was closed is opened again: an update that names the closed domain is older than its slot's generation, so it is not the new domain's.
use Rattle.std.specs.Prelude.{◌≡◌, refl, ℕ, false, List}
use Rattle.std.proofs.Common.{sym, subst}
use Rattle.std.proofs.Math.Option.{Option, none}
use Rattle.refusals.specs.Refusals.{no_domain_room}
use Rattle.model.specs.Lists.{count_if, at_slot}
use Rattle.model.specs.State.{State, Pool, Domain, Update, permission, cleanup}
use Rattle.model.specs.Pool.{handle_of}
use Rattle.model.specs.Updates.{is_permission_of}
use Rattle.model.specs.Sound.{Sound, LiveOrOlder, QueuedFit}
use Rattle.model.specs.Calls.{new_domain}
use Rattle.laws.specs.Accepted.{All, accepted, bind}
use Rattle.laws.specs.Capas.Slots.{next-slot, count_none}
use Rattle.laws.specs.Capas.Live.{handle-differs, no-handle}
use Rattle.laws.specs.Capas.NewDomain.{taken}

not-queued : (p : Pool) (ds : List (Option Domain)) (i : ℕ) → at_slot ds i ≡ none → (u : Update) → QueuedFit p ds u → is_permission_of (handle_of p i) u ≡ false
not-queued p ds i e (permission k cores marks) t = handle-differs (λ h. LiveOrOlder p ds h → ⊥) (handle_of p i) k (no-handle p ds i e) (λ n. n t)
not-queued p ds i e (cleanup a b) t = refl

-- the queue stays, and the new domain is not queued
pub reopen-queue : (m : Option ℕ) (cores : ℕ) (s : State) → Sound s → All (λ (x : ℕ × State). (x.1.queue ≡ s.queue) × (count_if (is_permission_of (handle_of x.1.domain_pool x.0)) x.1.queue.items ≡ 0)) (new_domain m cores s)
unfolding new_domain
reopen-queue m cores s h = bind (taken no_domain_room s.domain_pool) (λ (i, p) t.
    let n = next-slot s.sizes.domains s.domains s.domain_pool.free i t.rest h.outside.domains_length h.outside.domain_pool.once t.was_next in
    accepted (refl, subst (λ (q : Pool). count_if (is_permission_of (handle_of q i)) s.queue.items ≡ 0) (sym t.is) (count_none (QueuedFit s.domain_pool s.domains) (is_permission_of (handle_of s.domain_pool i)) s.queue.items (not-queued s.domain_pool s.domains i n.was_free) h.queue.handles_fit)))
