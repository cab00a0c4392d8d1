-- SetInterface and FreezeInterface (document 02, request 2): a domain's interface is put back, and nothing else.
use Rattle.std.specs.Prelude.{◌≡◌, ℕ, Bool, not, eqb}
use Rattle.std.proofs.Math.Path.{refl, ap}
use Rattle.std.proofs.Common.{sym, ◌∙◌}
use Rattle.std.proofs.Math.Bool.{true, false}
use Rattle.model.specs.Lists.{one_if, In}
use Rattle.model.specs.Outcome.{ok, ◌>>=◌, require}
use Rattle.refusals.specs.Refusals.{is_frozen}
use Rattle.model.specs.State as state
use Rattle.model.specs.State.{State, Domain}
use Rattle.model.specs.Calls as model
use Rattle.model.specs.Sound.{Sound}
use Rattle.laws.specs.Tree.Steps.{domain-at}
use Rattle.laws.specs.Keep.Base.{Base, sound-base}
use Rattle.tables.specs.declared.Handle.{Handle}
use Rattle.tables.specs.declared.Interface.{Interface}
use Rattle.tables.specs.Tables.{interface_at, with_interface}
use Rattle.interface_calls.specs.Calls.{set_interface, freeze_interface}
use Rattle.decoded.specs.Tables.{interface_for, tables_of}
use Rattle.refine.specs.Arenas.Pools.{handle_in}
use Rattle.refine.specs.Agrees.{Agrees, agrees-call, ok-then, bind_assoc, then-bind}
use Rattle.refine.specs.Calls.Sequence.{agrees-check}
use Rattle.decoded.specs.Slots.Domains.{interface-read, interface-put}
use Rattle.refine.specs.Calls.SharedSteps.{from-domain}

not-frozen : (b : Bool) → eqb (one_if b) 0 ≡ not b
not-frozen true = refl
not-frozen false = refl

module _ (s : State) (sound : Sound s) where
  base : Base s
  base = sound-base s sound

  module _ (d : ℕ) (x : Domain) (e : In s.domains d x) where
    open-test : eqb (interface_at (tables_of s) d).frozen 0 ≡ not (state.domain_at s d).interface.frozen
    open-test =
        ap (λ (f : Interface). eqb f.frozen 0) (interface-read s base.domains.size d x e) ∙ not-frozen x.interface.frozen
        ∙ ap (λ (y : Domain). not y.interface.frozen) (sym (domain-at s d x e))

    -- f tells the new interface from the domain
    put_is : (f : Domain → state.Interface) → with_interface (tables_of s) d (interface_for (f x)) ≡ tables_of (state.put_domain d (state.with_interface (f (state.domain_at s d)) (state.domain_at s d)) s)
    put_is f = sym (interface-put s base.domains.size d x e (f x)) ∙ ap (λ (y : Domain). tables_of (state.put_domain d (state.with_interface (f y) y) s)) (sym (domain-at s d x e))

  pub set-interface-refines : (h : Handle) (word : ℕ) → Agrees (set_interface h word (tables_of s)) (model.set_interface (handle_in h) word s >>= λ t. ok (0, t))
  unfolding set_interface model.set_interface
  set-interface-refines h word =
      agrees-call _ _ _ (bind_assoc (model.live_domain s (handle_in h)) _ _) (
      from-domain s base h _ _ (λ d x e.
      agrees-call _ _ _ (then-bind (require (not (state.domain_at s d).interface.frozen) is_frozen) _ _) (
      agrees-check is_frozen _ (tables_of s) _ _ _ (open-test d x e) (λ t.
      agrees-call _ _ _ (ok-then _ _) (refl, put_is d x e (λ y. record { word = word; frozen = false }))))))

  pub freeze-interface-refines : (h : Handle) → Agrees (freeze_interface h (tables_of s)) (model.freeze_interface (handle_in h) s >>= λ t. ok (0, t))
  unfolding freeze_interface model.freeze_interface
  freeze-interface-refines h =
      agrees-call _ _ _ (bind_assoc (model.live_domain s (handle_in h)) _ _) (
      from-domain s base h _ _ (λ d x e.
      agrees-call _ _ _ (ok-then _ _) (
        refl,
        ap (λ (f : Interface). with_interface (tables_of s) d (record { word = f.word; frozen = 1 })) (interface-read s base.domains.size d x e)
            ∙ put_is d x e (λ y. record { word = y.interface.word; frozen = true }),
      )))
