-- CreateRevokeCapa: a RegionRevoke for a held region that is no root goes into the list.
use Rattle.std.specs.Prelude.{ℕ}
use Rattle.refusals.specs.Refusals.{is_root}
use Rattle.model.specs.State as state
use Rattle.model.specs.State.{State, region_revoke}
use Rattle.model.specs.Pool.{handle_of}
use Rattle.model.specs.Tree.{is_root_kind}
use Rattle.model.specs.Calls as model
use Rattle.model.specs.Sound.{Sound}
use Rattle.laws.specs.Tree.Slots.{is_live_lem}
use Rattle.laws.specs.Keep.Base.{Base, sound-base}
use Rattle.tables.specs.declared.Handle.{Handle}
use Rattle.tables.specs.Tables.{region_at}
use Rattle.revoke_calls.specs.Calls.{create_revoke_capa}
use Rattle.decoded.specs.Tables.{tables_of}
use Rattle.refine.specs.Arenas.Pools.{handle_in}
use Rattle.refine.specs.Agrees.{Agrees}
use Rattle.refine.specs.Calls.Sequence.{agrees-unless}
use Rattle.refine.specs.Calls.Checks.{Lists}
use Rattle.refine.specs.Calls.KeptLists.{sound-lists}
use Rattle.refine.specs.Calls.SharedSteps.{from-domain, from-room, from-held, insert-here, revoke-of, root-test}

module _ (s : State) (sound : Sound s) where
  base : Base s
  base = sound-base s sound

  lists : Lists s
  lists = sound-lists s sound

  pub create-revoke-capa-refines : (h : Handle) (l : ℕ) → Agrees (create_revoke_capa h l (tables_of s)) (model.create_revoke_capa (handle_in h) l s)
  unfolding create_revoke_capa model.create_revoke_capa
  create-revoke-capa-refines h l =
      from-domain s base h _ _ (λ d x e.
      from-held s sound d x e l _ _ (λ i g m o.
      agrees-unless is_root _ (tables_of s) _ _ (is_root_kind (state.region_at s i).kind) (root-test s base i g m) (λ t.
      from-room s d (base, lists, is_live_lem _ x e) _ _ (λ s₁ fit.
      insert-here s₁ d fit (region_revoke (handle_of s₁.region_pool i)) _ (revoke-of s₁ i)))))
