-- Carve: the child joins its parent's list, and where its rights differ the domain loses the range with the parent's rights and gains it with the child's.
use Rattle.std.specs.Prelude.{◌≡◌, ℕ, ◌<◌, false, [], T, eqb}
use Rattle.std.proofs.Math.Path.{refl}
use Rattle.std.proofs.Common.{sym, ap, ◌∙◌, lit<}
use Rattle.model.specs.Outcome.{ok, ◌>>=◌}
use Rattle.refusals.specs.Refusals.{beyond}
use Rattle.model.specs.State as state
use Rattle.model.specs.State.{State, Carve}
use Rattle.model.specs.Tree as tree
use Rattle.model.specs.Regions as steps
use Rattle.model.specs.Calls as model
use Rattle.model.specs.Sound.{Sound}
use Rattle.laws.specs.Accepted.{All, weaken, both}
use Rattle.base.specs.Cases.{holds, fails, test}
use Rattle.laws.specs.Tree.Slots.{is_live_lem}
use Rattle.laws.specs.Tree.Steps.{region-at}
use Rattle.laws.specs.Keep.SameDomains.{SameOutside, same-domains-live}
use Rattle.laws.specs.Keep.BaseSteps.{Live, child-base}
use Rattle.laws.specs.Keep.Carve.{carve-agree}
use Rattle.tables.specs.declared.Handle.{Handle}
use Rattle.tables.specs.declared.RegionCapa.{RegionCapa}
use Rattle.tables.specs.Tables.{region_at}
use Rattle.answers.specs.Answers.{done}
use Rattle.region.specs.declared.AccessRights.{AccessRights}
use Rattle.domain.specs.Activate.{activate, deactivate}
use Rattle.children.specs.Children.{check_child}
use Rattle.segment.specs.Regions.{access}
use Rattle.region_calls.specs.Calls.{add_child}
use Rattle.carve_calls.specs.Calls.{exchange_rights, carve_region}
use Rattle.decoded.specs.Tables.{tables_of}
use Rattle.refine.specs.Arenas.Pools.{handle_in}
use Rattle.refine.specs.Agrees.{Agrees, agrees-call, agrees-state, bind_assoc}
use Rattle.refine.specs.Calls.Sequence.{agrees_on, agrees-next, agrees-check}
use Rattle.decoded.specs.Tree.Regions.{region-read}
use Rattle.refine.specs.Tree.ChildChecks.{access_for, check-carve-is}
use Rattle.refine.specs.Calls.Bounds.{Bounded, bounded-raisable, loss-bounded}
use Rattle.refine.specs.Calls.Activate.{plain, follows_range, gain-refines, loss-refines}
use Rattle.refine.specs.Calls.Child.{add-child-refines, Parent, with-parent, parent-children, parent-byte, Next, next-bounded}

-- ---- the range with other rights

exchange-rights-refines : (s : State) → Bounded 1024 s → (d : ℕ) → Live s d → (old : ℕ) → old < 256 → (a : AccessRights) → a.start < a.end
    → Agrees (exchange_rights d old a (tables_of s)) (plain (model.exchange_rights d old (access_for a) s))
unfolding exchange_rights model.exchange_rights ◌>>=◌
exchange-rights-refines s k d live old byte a z =
    let had : state.Access = record { start = a.start; end = a.end; rights = old } in
    elim (test (eqb old a.ops.0)) [
      | holds t ↦ rw t (refl, refl)
      | fails t ↦ rw t (
          agrees-call _ _ _ (bind_assoc (steps.deactivate [] d had s) _ _) (
          agrees_on {P = λ u. Bounded 1024 u × SameOutside s u} (deactivate 0 d (access a.start a.end old) (tables_of s)) (λ v. activate 0 d a) (steps.deactivate [] d had s) (λ u. (0, u)) _
          (follows_range (deactivate 0) (steps.deactivate []) loss-refines s d a.start a.end old byte (bounded-raisable 1024 s (lit< tt) k) live z)
          (loss-bounded [] 1024 s k d live had z) (λ u (j, b). gain-refines u d a (bounded-raisable 1024 u (lit< tt) j) (same-domains-live b.same_domains d live) z)))
    ]

-- ---- the call

module _ (s : State) (sound : Sound s) (h : Handle) (a : AccessRights) (l : ℕ) where
  module _ (d p : ℕ) (t : State) (k : Parent s sound a d p t) where
    carve-test : check_child false (tables_of t) p a ≡ tree.check_carve t (state.region_at t p) (access_for a)
    carve-test = check-carve-is t k.room.base.regions.size p k.parent k.at (parent-children s sound a d p t k) (parent-byte s sound a d p t k) a ∙ ap (λ (r : state.Region). tree.check_carve t r (access_for a)) (sym (region-at t p k.parent k.at))

    carved : T (tree.check_carve t (state.region_at t p) (access_for a)) → All (Next s sound a d p t k) (model.add_child d p (Carve p) (access_for a) t)
    carved c =
        weaken (both (carve-agree t k.room.agree k.room.base.regions.size k.room.base.regions.pool d k.room.domain k.room.at (access_for a) p k.parent k.at k.room.nonempty (rw (region-at t p k.parent k.at) at c)) (child-base t d (k.room.base, is_live_lem _ _ k.room.at) p (is_live_lem _ _ k.at) (Carve p) (access_for a)))
        (λ y (b, r). (b.0, r))

    same-rights : (region_at (tables_of t) p).rights ≡ k.parent.rights
    same-rights = ap (λ (r : RegionCapa). r.rights) (region-read t k.room.base.regions.size p k.parent k.at)

  pub carve-region-refines : Agrees (carve_region h l a (tables_of s)) (model.carve_region (handle_in h) l (access_for a) s)
  unfolding carve_region model.carve_region
  carve-region-refines = with-parent s sound a _ h l _ _ (λ d p t k.
      agrees-check beyond _ (tables_of t) _ _ _ (carve-test d p t k) (λ c.
      agrees-next _ _ (model.add_child d p (Carve p) (access_for a) t) _ (add-child-refines t k.room.agree k.room.base k.lists d (is_live_lem _ _ k.room.at) p k.parent k.at (Carve p) refl a) (carved d p t k c) (λ n u (b, (j, v)).
      agrees-state (exchange_rights d (region_at (tables_of t) p).rights a (tables_of u)) (done n) (model.exchange_rights d (state.region_at t p).rights (access_for a) u) (λ z. ok (n, z))
      (rw (same-rights d p t k, region-at t p k.parent k.at) (exchange-rights-refines u (next-bounded s sound a d p t k u b j) d v k.parent.rights (parent-byte s sound a d p t k) a k.room.nonempty)) (λ z e. (refl, refl)))))
