-- Alias: the child joins its parent's list, and its domain gains the range a second time.
use Rattle.std.specs.Prelude.{◌≡◌, ℕ, true, T}
use Rattle.std.proofs.Math.Path.{refl}
use Rattle.std.proofs.Common.{sym, ap, ◌∙◌, lit<}
use mathlib.Core.List.{[]}
use Rattle.model.specs.Outcome.{ok}
use Rattle.refusals.specs.Refusals.{beyond}
use Rattle.model.specs.State as state
use Rattle.model.specs.State.{State, Alias}
use Rattle.model.specs.Tree as tree
use Rattle.model.specs.Regions as steps
use Rattle.model.specs.Calls as model
use Rattle.model.specs.Sound.{Sound}
use Rattle.laws.specs.Accepted.{All, weaken, both}
use Rattle.laws.specs.Tree.Slots.{is_live_lem}
use Rattle.laws.specs.Tree.Steps.{region-at}
use Rattle.laws.specs.Keep.BaseSteps.{child-base}
use Rattle.laws.specs.Keep.Alias.{alias-agree}
use Rattle.tables.specs.declared.Handle.{Handle}
use Rattle.tables.specs.Tables.{region_at}
use Rattle.answers.specs.Answers.{done}
use Rattle.region.specs.declared.AccessRights.{AccessRights}
use Rattle.domain.specs.Activate.{activate}
use Rattle.children.specs.Children.{check_child}
use Rattle.region_calls.specs.Calls.{add_child, alias_region}
use Rattle.decoded.specs.Tables.{tables_of}
use Rattle.refine.specs.Arenas.Pools.{handle_in}
use Rattle.refine.specs.Agrees.{Agrees, agrees-state}
use Rattle.refine.specs.Calls.Sequence.{agrees-next, agrees-check}
use Rattle.refine.specs.Tree.ChildChecks.{access_for, check-alias-is}
use Rattle.refine.specs.Calls.Bounds.{bounded-raisable}
use Rattle.refine.specs.Calls.Activate.{gain-refines}
use Rattle.refine.specs.Calls.Child.{add-child-refines, Parent, with-parent, parent-children, parent-byte, Next, next-bounded}

module _ (s : State) (sound : Sound s) (h : Handle) (a : AccessRights) (l : ℕ) where
  module _ (d p : ℕ) (t : State) (k : Parent s sound a d p t) where
    alias-test : check_child true (tables_of t) p a ≡ tree.check_alias t (state.region_at t p) (access_for a)
    alias-test = check-alias-is t k.room.base.regions.size p k.parent k.at (parent-children s sound a d p t k) (parent-byte s sound a d p t k) a ∙ ap (λ (r : state.Region). tree.check_alias t r (access_for a)) (sym (region-at t p k.parent k.at))

    aliased : T (tree.check_alias t (state.region_at t p) (access_for a)) → All (Next s sound a d p t k) (model.add_child d p (Alias p) (access_for a) t)
    aliased c =
        weaken (both (alias-agree t k.room.agree k.room.base.regions.size k.room.base.regions.pool d k.room.domain k.room.at (access_for a) p k.parent k.at k.room.nonempty (rw (region-at t p k.parent k.at) at c)) (child-base t d (k.room.base, is_live_lem _ _ k.room.at) p (is_live_lem _ _ k.at) (Alias p) (access_for a)))
        (λ y (b, r). (b.0, r))

  pub alias-region-refines : Agrees (alias_region h l a (tables_of s)) (model.alias_region (handle_in h) l (access_for a) s)
  unfolding alias_region model.alias_region
  alias-region-refines = with-parent s sound a _ h l _ _ (λ d p t k.
      agrees-check beyond _ (tables_of t) _ _ _ (alias-test d p t k) (λ c.
      agrees-next _ _ (model.add_child d p (Alias p) (access_for a) t) _ (add-child-refines t k.room.agree k.room.base k.lists d (is_live_lem _ _ k.room.at) p k.parent k.at (Alias p) refl a) (aliased d p t k c) (λ n u (b, (j, v)).
      agrees-state (activate 0 d a (tables_of u)) (done n) (steps.activate [] d (access_for a) u) (λ z. ok (n, z))
      (gain-refines u d a (bounded-raisable 1024 u (lit< tt) (next-bounded s sound a d p t k u b j)) v k.room.nonempty) (λ z e. (refl, refl)))))
