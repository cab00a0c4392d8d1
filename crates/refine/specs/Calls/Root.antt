-- Root: room is made, the region takes a slot and gets its capability, and the tracker follows.
use Rattle.std.specs.Prelude.{refl}
use Prim.Native.Nat.{ℕ}
use mathlib.Core.List.{[]}
use Rattle.std.proofs.Common.{lit<}
use Rattle.model.specs.Outcome.{ok}
use Rattle.model.specs.State.{State, Root, region}
use Rattle.model.specs.Pool.{handle_of}
use Rattle.model.specs.Locals.{insert_capa}
use Rattle.model.specs.Regions as steps
use Rattle.model.specs.Calls as model
use Rattle.model.specs.CallWords.{AccessWords}
use Rattle.model.specs.Sound.{Sound}
use Rattle.laws.specs.Accepted.{both}
use Rattle.laws.specs.Tree.Slots.{is_live_lem}
use Rattle.laws.specs.Keep.Agreement.{TrackersAgreeWith}
use Rattle.laws.specs.Keep.Base.{sound-base}
use Rattle.laws.specs.Keep.BaseSteps.{new-base, insert-base}
use Rattle.laws.specs.Keep.Locals.{listed-agree, insert_all, new-all}
use Rattle.laws.specs.Keep.Root.{root-agree}
use Rattle.laws.specs.Keep.Checks.{room-agree}
use Rattle.tables.specs.declared.Handle.{Handle}
use Rattle.answers.specs.Answers.{done}
use Rattle.region.specs.declared.AccessRights.{AccessRights}
use Rattle.domain.specs.Activate.{activate}
use Rattle.segment.specs.Regions.{new_region}
use Rattle.checks.specs.Checks.{room_for_region}
use Rattle.region_calls.specs.Calls.{held_region, create_root_region}
use Rattle.decoded.specs.Tables.{tables_of}
use Rattle.refine.specs.Arenas.Pools.{handle_in}
use Rattle.refine.specs.Agrees.{Agrees, agrees-state}
use Rattle.refine.specs.Calls.Sequence.{agrees_on, agrees-next}
use Rattle.refine.specs.Tree.ChildChecks.{access_for}
use Rattle.refine.specs.Tree.RegionSteps.{new-region-refines}
use Rattle.refine.specs.Calls.Bounds.{bounded-raisable}
use Rattle.refine.specs.Calls.Checks.{Lists, room-refines}
use Rattle.refine.specs.Calls.KeptLists.{sound-lists, domain-small, room-lists}
use Rattle.refine.specs.Calls.SharedSteps.{from-domain, insert-here, region-of}
use Rattle.refine.specs.Calls.Activate.{gain-refines}
use Rattle.refine.specs.Calls.NewRegion.{agree-children, agree-bounded}

module _ (s : State) (sound : Sound s) (h : Handle) (a : AccessRights) where
  pub create-root-region-refines : AccessWords (access_for a) → Agrees (create_root_region h a (tables_of s)) (model.create_root_region (handle_in h) (access_for a) s)
  unfolding create_root_region held_region model.create_root_region
  create-root-region-refines w =
      let base = sound-base s sound in
      let lists = sound-lists s sound in
      from-domain s base h _ _ (λ d x e.
      agrees_on _ _ (model.room_for_region d (access_for a) s) (λ t. (0, t)) _ (room-refines s base d x e lists a)
      (both (room-agree s sound d x e (access_for a)) (room-lists s lists d x e base (access_for a))) (λ s₁ (r, l₁).
      let size = r.base.regions.size in
      let pool = r.base.regions.pool in
      agrees-next _ _ (steps.new_region d Root (access_for a) s₁) _
      (new-region-refines s₁ size pool (agree-children s₁ r.agree) d (domain-small s base d x e) Root a)
      (both (both (root-agree s₁ r.agree size pool d r.domain r.at (access_for a) (record { nonempty = r.nonempty; start_word = w.0; end_word = w.1; rights_byte = w.2; hash_words = tt })) (new-base s₁ d r.base (is_live_lem _ _ r.at) Root (access_for a)))
      (new-all s₁ size pool d Root (access_for a) (λ y. Lists y.1) (λ i p l free. l₁))) (λ i s₂ (((b, gains, at), ((k, live), still)), l₂).
      agrees-next _ _ (insert_capa d (region (handle_of s₂.region_pool i)) s₂) _
      (insert-here s₂ d (k, l₂, live) (region (handle_of s₂.region_pool i)) _ (region-of s₂ i))
      (both (insert_all d s₂ _ (λ (y : ℕ × State). TrackersAgreeWith s₁.regions y.1) (λ n l. listed-agree s₂ d _ at l s₁.regions b)) (insert-base s₂ d k live _)) (λ n s₃ (b₃, (k₃, live₃)).
      agrees-state (activate 0 d a (tables_of s₃)) (done n) (steps.activate [] d (access_for a) s₃) (λ t. ok (n, t))
      (gain-refines s₃ d a (bounded-raisable 1024 s₃ (lit< tt) (agree-bounded s₁ s₃ r.base b₃ k₃)) live₃ r.nonempty) (λ s₄ e₄. (refl, refl))))))
