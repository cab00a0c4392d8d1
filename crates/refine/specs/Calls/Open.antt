-- Open: a domain is made, without a manager (`open_domain`) or under one (`open_under`), which gets a Management capability for it.
use Rattle.std.specs.Prelude.{refl, ◌≡◌, ℕ}
use Rattle.std.proofs.Common.{ap, ◌∙◌}
use Rattle.std.proofs.Math.Option.{none, some, Option}
use Rattle.model.specs.Outcome.{ok, ◌>>=◌}
use Rattle.model.specs.State as state
use Rattle.model.specs.State.{State, Word, management}
use Rattle.model.specs.Pool.{handle_of}
use Rattle.model.specs.Locals.{has_capacity, insert_capa}
use Rattle.model.specs.Calls as model
use Rattle.model.specs.Sound.{Sound}
use Rattle.laws.specs.Accepted.{both, All, accepted, bind-any}
use Rattle.laws.specs.Tree.Slots.{is_live_lem}
use Rattle.laws.specs.Keep.Base.{Base, sound-base}
use Rattle.laws.specs.Keep.Open.{domain-whole}
use Rattle.tables.specs.declared.Handle.{Handle}
use Rattle.new_domain.specs.Opened.{new_domain}
use Rattle.checks.specs.Checks.{live_domain}
use Rattle.domain_calls.specs.Calls.{open_domain, open_under}
use Rattle.decoded.specs.Sizes.{good-limits}
use Rattle.decoded.specs.Tables.{tables_of}
use Rattle.refine.specs.Arenas.Pools.{handle_in}
use Rattle.refine.specs.Agrees.{Agrees, agrees-call, agrees-step, agrees-then, ok-then, bind_assoc, bind-same, bind_ok}
use Rattle.refine.specs.Calls.Sequence.{agrees-next}
use Rattle.refine.specs.Tree.ChildLists.{link-to}
use Rattle.refine.specs.Slots.Opening.{open-refines}
use Rattle.refine.specs.Calls.Checks.{Lists}
use Rattle.refine.specs.Calls.KeptLists.{sound-lists, domain-small, open-lists}
use Rattle.refine.specs.Calls.SharedSteps.{from-domain, from-room, insert-here, management-of}

module _ (s : State) (sound : Sound s) where
  base : Base s
  base = sound-base s sound

  lists : Lists s
  lists = sound-lists s sound

  pub open-domain-refines : (cores : ℕ) → Agrees (open_domain cores (tables_of s)) (model.open_domain none cores s >>= λ y. ok (y.0.slot, y.1))
  unfolding open_domain model.open_domain
  open-domain-refines cores =
      agrees-call _ _ (model.new_domain none cores s) (bind_assoc (model.new_domain none cores s) _ _ ∙ bind-same (model.new_domain none cores s) _ ok (λ y. ok-then _ _) ∙ bind_ok (model.new_domain none cores s))
      (open-refines s base.domains.size base.domains.pool (good-limits s.sizes sound.outside.sizes_good).slots-high none cores)

  pub open-under-refines : (h : Handle) (cores : ℕ) → Word cores → Agrees (open_under h cores (tables_of s)) (model.open_domain (some (handle_in h)) cores s >>= λ y. ok (y.0.slot, y.1))
  unfolding open_under model.open_domain
  open-under-refines h cores w =
      agrees-call _ _ _ (bind_assoc (model.live_domain s (handle_in h)) _ _) (
      from-domain s base h _ _ (λ m x e.
      agrees-call _ _ _ (bind_assoc (model.new_domain (some m) cores s) _ _) (
      agrees-next _ _ (model.new_domain (some m) cores s) _
      (agrees-step _ _ (model.new_domain (some m) cores s) (ap (λ (k : ℕ). new_domain k cores (tables_of s)) (link-to m (domain-small s base m x e)))
      (open-refines s base.domains.size base.domains.pool (good-limits s.sizes sound.outside.sizes_good).slots-high (some m) cores))
      (both (domain-whole s sound (some m) cores w) (open-lists s base lists (some m) cores)) (λ i s₁ ((k, live), l).
      agrees-call _ _ _ (bind_assoc (has_capacity m s₁) _ _) (
      from-room s₁ m (k.1, l, live m (is_live_lem _ x e)) _ _ (λ s₂ fit.
      agrees-call _ _ _ (bind_assoc (insert_capa m (management (handle_of s₂.domain_pool i)) s₂) _ _) (
      agrees-then _ _ (insert_capa m (management (handle_of s₂.domain_pool i)) s₂) _ (insert-here s₂ m fit (management (handle_of s₂.domain_pool i)) _ (management-of s₂ i))
      (λ v s₃ q. agrees-call _ _ _ (ok-then _ _) (refl, refl)))))))))

-- the handle that opening answers is its slot's in the tables that it leaves
pub opened-handle : (m : Option state.Handle) (cores : ℕ) (s : State) → All (λ y. y.0 ≡ handle_of y.1.domain_pool y.0.slot) (model.open_domain m cores s)
unfolding model.open_domain
opened-handle none cores s = bind-any _ (λ y. accepted {a = (handle_of y.1.domain_pool y.0, y.1)} refl)
opened-handle (some h) cores s = bind-any _ (λ d. bind-any _ (λ y. bind-any _ (λ t. bind-any _ (λ z. accepted {a = (handle_of z.1.domain_pool y.0, z.1)} refl))))
