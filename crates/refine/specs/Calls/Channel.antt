-- Channel: a Channel capability of a live domain goes into the caller's list.
use Rattle.std.specs.Prelude.{refl}
use Rattle.model.specs.State.{State, channel}
use Rattle.model.specs.Calls as model
use Rattle.model.specs.Sound.{Sound}
use Rattle.laws.specs.Tree.Slots.{is_live_lem}
use Rattle.laws.specs.Keep.Base.{Base, sound-base}
use Rattle.tables.specs.declared.Handle.{Handle}
use Rattle.domain_calls.specs.Calls.{open_channel}
use Rattle.decoded.specs.Tables.{tables_of}
use Rattle.refine.specs.Arenas.Pools.{handle_in}
use Rattle.refine.specs.Agrees.{Agrees}
use Rattle.refine.specs.Calls.Checks.{Lists}
use Rattle.refine.specs.Calls.KeptLists.{sound-lists}
use Rattle.refine.specs.Calls.SharedSteps.{from-domain, from-room, insert-here}

module _ (s : State) (sound : Sound s) where
  base : Base s
  base = sound-base s sound

  lists : Lists s
  lists = sound-lists s sound

  pub open-channel-refines : (h to : Handle) → Agrees (open_channel h to (tables_of s)) (model.open_channel (handle_in h) (handle_in to) s)
  unfolding open_channel model.open_channel
  open-channel-refines h to =
      from-domain s base h _ _ (λ d x e.
      from-domain s base to _ _ (λ t y i.
      from-room s d (base, lists, is_live_lem _ x e) _ _ (λ s₁ fit.
      insert-here s₁ d fit (channel (handle_in to)) _ refl)))
