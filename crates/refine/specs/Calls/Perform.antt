-- The steps as one statement: on the tables of a sound state the code's step answers what the model's answers, and leaves its state.
-- A step answers one number: the new domain's slot, the local slot, or 0. The generation of a new domain is the one that its slot then has.
use Rattle.std.specs.Prelude.{◌≡◌, ℕ, get_or}
use Rattle.std.proofs.Common.{◌∙◌}
use Rattle.std.proofs.Math.Option.{none, some}
use Rattle.model.specs.Outcome.{Outcome, ok, ◌>>=◌}
use Rattle.model.specs.State.{State, Access}
use Rattle.model.specs.Perform as model
use Rattle.model.specs.Perform.{Value, values, perform_step}
use Rattle.model.specs.CallWords.{StepWords}
use Rattle.model.specs.Sound.{Sound}
use Rattle.tables.specs.Tables.{Tables}
use Rattle.answers.specs.Answers.{Effect}
use Rattle.region.specs.declared.AccessRights.{AccessRights}
use Rattle.domain_calls.specs.Calls.{open_domain, open_under, open_channel, set_core_map}
use Rattle.interface_calls.specs.Calls.{set_interface, freeze_interface}
use Rattle.region_calls.specs.Calls.{create_root_region, alias_region}
use Rattle.carve_calls.specs.Calls.{carve_region}
use Rattle.send_calls.specs.Calls.{send}
use Rattle.revoke_calls.specs.Calls.{revoke_local, create_revoke_capa}
use Rattle.decoded.specs.Tables.{handle_for, tables_of}
use Rattle.refine.specs.Agrees.{Agrees, agrees-call, ok-then, bind_assoc, bind-same, bind_ok}
use Rattle.refine.specs.Calls.Open.{open-domain-refines, open-under-refines}
use Rattle.refine.specs.Calls.Channel.{open-channel-refines}
use Rattle.refine.specs.Calls.SetCoreMap.{set-core-map-refines}
use Rattle.refine.specs.Calls.Interface.{set-interface-refines, freeze-interface-refines}
use Rattle.refine.specs.Calls.Root.{create-root-region-refines}
use Rattle.refine.specs.Calls.Alias.{alias-region-refines}
use Rattle.refine.specs.Calls.Carve.{carve-region-refines}
use Rattle.refine.specs.Calls.SendOptions.{options_in}
use Rattle.refine.specs.Calls.Send.{send-refines}
use Rattle.refine.specs.Calls.Revoke.{revoke-refines}
use Rattle.refine.specs.Calls.CreateRevokeCapa.{create-revoke-capa-refines}

-- a range with rights, as the code is given it
abbrev pub access_in : Access → AccessRights
access_in a = record { start = a.start; end = a.end; ops = record { 0 = a.rights } }

-- the code's step
abbrev pub step_for : model.Step → Tables → Effect
step_for (model.Open none cores) t = open_domain cores t
step_for (model.Open (some h) cores) t = open_under (handle_for h) cores t
step_for (model.Channel h to) t = open_channel (handle_for h) (handle_for to) t
step_for (model.SetCoreMap h cores) t = set_core_map (handle_for h) cores t
step_for (model.SetInterface h word) t = set_interface (handle_for h) word t
step_for (model.FreezeInterface h) t = freeze_interface (handle_for h) t
step_for (model.Root h a) t = create_root_region (handle_for h) (access_in a) t
step_for (model.Alias h l a) t = alias_region (handle_for h) l (access_in a) t
step_for (model.Carve h l a) t = carve_region (handle_for h) l (access_in a) t
step_for (model.Send h l target o) t = send (handle_for h) l target (options_in o) t
step_for (model.Revoke h l) t = revoke_local (handle_for h) l t
step_for (model.CreateRevokeCapa h l) t = create_revoke_capa (handle_for h) l t

-- the number of a reply: its first value, 0 if it has none
abbrev pub slot_from : Value → ℕ
slot_from r = get_or (values r) 0 0

-- ---- a call's outcome, as `perform_step` gives it

abbrev numbered : Outcome (Value × State) → Outcome (ℕ × State)
numbered m = m >>= λ y. ok (slot_from y.0, y.1)

replied : {A : Type 0} (m : Outcome (A × State)) (f : A → Value) → numbered (m >>= λ (a, t). ok (f a, t)) ≡ (m >>= λ y. ok (slot_from (f y.0), y.1))
replied m f = bind_assoc m _ _ ∙ bind-same m _ _ (λ y. ok-then _ _)

local-is : (m : Outcome (ℕ × State)) → numbered (m >>= λ (a, t). ok (Value.local a, t)) ≡ m
local-is m = replied m Value.local ∙ bind_ok m

silent-is : (m : Outcome State) → numbered (m >>= λ t. ok (Value.done, t)) ≡ (m >>= λ t. ok (0, t))
silent-is m = bind_assoc m _ _ ∙ bind-same m _ _ (λ t. ok-then _ _)

module _ (s : State) (sound : Sound s) where
  pub call-refines : (c : model.Step) → StepWords c → Agrees (step_for c (tables_of s)) (perform_step s c >>= λ y. ok (slot_from y.0, y.1))
  unfolding perform_step
  call-refines (model.Open none cores) w = agrees-call _ _ _ (replied _ Value.domain) (open-domain-refines s sound cores)
  call-refines (model.Open (some h) cores) w = agrees-call _ _ _ (replied _ Value.domain) (open-under-refines s sound (handle_for h) cores w.1)
  call-refines (model.Channel h to) w = agrees-call _ _ _ (local-is _) (open-channel-refines s sound (handle_for h) (handle_for to))
  call-refines (model.SetCoreMap h cores) w = agrees-call _ _ _ (silent-is _) (set-core-map-refines s sound (handle_for h) cores)
  call-refines (model.SetInterface h word) w = agrees-call _ _ _ (silent-is _) (set-interface-refines s sound (handle_for h) word)
  call-refines (model.FreezeInterface h) w = agrees-call _ _ _ (silent-is _) (freeze-interface-refines s sound (handle_for h))
  call-refines (model.Root h a) w = agrees-call _ _ _ (local-is _) (create-root-region-refines s sound (handle_for h) (access_in a) w.1)
  call-refines (model.Alias h l a) w = agrees-call _ _ _ (local-is _) (alias-region-refines s sound (handle_for h) (access_in a) l)
  call-refines (model.Carve h l a) w = agrees-call _ _ _ (local-is _) (carve-region-refines s sound (handle_for h) (access_in a) l)
  call-refines (model.Send h l target o) w = agrees-call _ _ _ (local-is _) (send-refines s sound (handle_for h) l target o w.3.1)
  call-refines (model.Revoke h l) w = agrees-call _ _ _ (silent-is _) (revoke-refines s sound (handle_for h) l)
  call-refines (model.CreateRevokeCapa h l) w = agrees-call _ _ _ (local-is _) (create-revoke-capa-refines s sound (handle_for h) l)
