-- SetCoreMap: a domain's core map is set, and nothing else.
use Rattle.std.proofs.Math.Path.{refl, sym, ap}
use Rattle.std.proofs.Common.{◌∙◌}
use Rattle.std.specs.Prelude.{ℕ}
use Rattle.model.specs.Outcome.{ok, ◌>>=◌}
use Rattle.model.specs.State as state
use Rattle.model.specs.State.{State, Domain}
use Rattle.model.specs.Calls as model
use Rattle.model.specs.Sound.{Sound}
use Rattle.laws.specs.Tree.Steps.{domain-at}
use Rattle.laws.specs.Keep.Base.{Base, sound-base}
use Rattle.tables.specs.declared.Handle.{Handle}
use Rattle.tables.specs.declared.DomainHead.{DomainHead}
use Rattle.tables.specs.Tables.{with_head}
use Rattle.checks.specs.Checks.{live_domain}
use Rattle.domain_calls.specs.Calls.{set_core_map}
use Rattle.decoded.specs.Tables.{tables_of}
use Rattle.refine.specs.Arenas.Pools.{handle_in}
use Rattle.refine.specs.Agrees.{Agrees, agrees-call, ok-then, bind_assoc}
use Rattle.decoded.specs.Slots.Domains.{head_read, head-put}
use Rattle.refine.specs.Calls.SharedSteps.{from-domain}

module _ (s : State) (sound : Sound s) where
  base : Base s
  base = sound-base s sound

  pub set-core-map-refines : (h : Handle) (cores : ℕ) → Agrees (set_core_map h cores (tables_of s)) (model.set_core_map (handle_in h) cores s >>= λ t. ok (0, t))
  unfolding set_core_map model.set_core_map
  set-core-map-refines h cores =
      agrees-call _ _ _ (bind_assoc (model.live_domain s (handle_in h)) _ _) (
      from-domain s base h _ _ (λ d x e.
      agrees-call _ _ _ (ok-then _ _) (
        refl,
        ap (λ (k : DomainHead). with_head (tables_of s) d (record { manager = k.manager; cores = cores; tracker = k.tracker; head = k.head; count = k.count })) (head_read s base.domains.size d x e)
            ∙ sym (head-put s base.domains.size d x e (state.with_cores cores x) refl refl refl)
            ∙ ap (λ (y : Domain). tables_of (state.put_domain d (state.with_cores cores y) s)) (sym (domain-at s d x e)),
      )))
