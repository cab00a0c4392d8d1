-- SetInterface and FreezeInterface: an interface is put back, with the tracker and the core map as they were.
use Rattle.std.specs.Prelude.{refl, ℕ}
use Rattle.model.specs.Lists.{In}
use Rattle.model.specs.State.{State, Interface, Domain, Handle, domain_at, put_domain, with_interface}
use Rattle.model.specs.Calls.{set_interface, freeze_interface}
use Rattle.laws.specs.Accepted.{All, accepted, bind, and_then}
use Rattle.laws.specs.Tree.Slots.{is_live_lem}
use Rattle.laws.specs.Keep.BaseSteps.{own-cores}
use Rattle.laws.specs.Keep.Checks.{domain-live}
use Rattle.laws.specs.Keep.Whole.{Whole, written-whole}

module _ (s : State) (whole : Whole s) (h : Handle) where
  interface-whole : (d : ℕ) (x : Domain) → In s.domains d x → (f : Interface) → Whole (put_domain d (with_interface f (domain_at s d)) s)
  interface-whole d x e f = written-whole s whole d x e (with_interface f (domain_at s d)) refl (own-cores s d whole.1 (is_live_lem _ x e))

  pub set-interface-keeps : (word : ℕ) → All Whole (set_interface h word s)
  unfolding set_interface
  set-interface-keeps word = bind (domain-live s h) (λ d (x, e). and_then _ (accepted (interface-whole d x e _)))

  pub freeze-interface-keeps : All Whole (freeze_interface h s)
  unfolding freeze_interface
  freeze-interface-keeps = bind (domain-live s h) (λ d (x, e). accepted (interface-whole d x e _))
