-- Every accepted call on sound tables leaves all clauses of `Sound` but four: the trackers, the three pools, the regions, that their owners are live,
-- the ring, the sizes, and that core maps are words. Three of the four are about capability lists: one slot for each region, managers, and the lists
-- themselves. The fourth: that interfaces are words.
use Rattle.std.proofs.Math.Option.{Option, none, some}
use Rattle.model.specs.State.{State, Update}
use Rattle.model.specs.Making.{make_in}
use Rattle.model.specs.Perform.{Step, Call, perform_step, perform}
use Rattle.model.specs.CallWords.{StepWords, CallWords}
use Rattle.model.specs.Sound.{Sound}
use Rattle.laws.specs.Accepted.{All, accepted, bind, bind-any, and_then}
use Rattle.laws.specs.Empty.{empty-sound}
use Rattle.laws.specs.Keep.Agreement.{sound-agree}
use Rattle.laws.specs.Keep.Base.{sound-base}
use Rattle.laws.specs.Keep.Whole.{Whole, After}
use Rattle.laws.specs.Keep.Root.{root-keeps}
use Rattle.laws.specs.Keep.Alias.{alias-keeps}
use Rattle.laws.specs.Keep.Carve.{carve-keeps}
use Rattle.laws.specs.Keep.Send.{send-keeps}
use Rattle.laws.specs.Close.Call.{revoke-call-sound}
use Rattle.laws.specs.Keep.Open.{open-keeps}
use Rattle.laws.specs.Keep.Channel.{channel-keeps}
use Rattle.laws.specs.Keep.SetCoreMap.{set-core-map-keeps}
use Rattle.laws.specs.Keep.Interface.{set-interface-keeps, freeze-interface-keeps}
use Rattle.laws.specs.Keep.CreateRevokeCapa.{create-revoke-capa-keeps}
use Rattle.laws.specs.Keep.Pop.{pop-keeps}

module _ (s : State) (sound : Sound s) where
  whole : Whole s
  whole = (sound-agree s sound, sound-base s sound)

  step_keeps : (c : Step) → StepWords c → All After (perform_step s c)
  unfolding perform_step
  step_keeps (Step.Open none cores) w = bind (open-keeps s sound none cores w) (λ (a, t) k. accepted k)
  step_keeps (Step.Open (some h) cores) w = bind (open-keeps s sound (some h) cores w.1) (λ (a, t) k. accepted k)
  step_keeps (Step.Channel h to) w = bind (channel-keeps s whole h to) (λ (a, t) k. accepted k)
  step_keeps (Step.SetCoreMap h cores) w = bind (set-core-map-keeps s whole h cores w.1) (λ t k. accepted k)
  step_keeps (Step.SetInterface h word) w = bind (set-interface-keeps s whole h word) (λ t k. accepted k)
  step_keeps (Step.FreezeInterface h) w = bind (freeze-interface-keeps s whole h) (λ t k. accepted k)
  step_keeps (Step.Root h a) w = bind (root-keeps s sound h a w.1) (λ (n, t) k. accepted k)
  step_keeps (Step.Alias h l a) w = bind (alias-keeps s sound h a l) (λ (n, t) k. accepted k)
  step_keeps (Step.Carve h l a) w = bind (carve-keeps s sound h a l) (λ (n, t) k. accepted k)
  step_keeps (Step.Send h l target p) w = bind (send-keeps s whole h l target p w.3.1) (λ (n, t) k. accepted k)
  step_keeps (Step.Revoke h l) w = bind (revoke-call-sound h l s sound) (λ t k. accepted (sound-agree t k, sound-base t k))
  step_keeps (Step.CreateRevokeCapa h l) w = bind (create-revoke-capa-keeps s whole h l) (λ (n, t) k. accepted k)

  pub perform-keeps : (c : Call) → CallWords c → All After (perform s c)
  unfolding perform make_in
  perform-keeps (Call.Make z) w = bind (bind (empty-sound z) (λ t k. and_then {Q = Whole} _ (accepted (sound-agree t k, sound-base t k)))) (λ t k. accepted k)
  perform-keeps (Call.Do c) w = step_keeps c w
  perform-keeps Call.Pop w = bind {P = λ (y : Option Update × State). Whole y.1} (accepted (pop-keeps s sound)) (λ (a, t) k. accepted k)
  perform-keeps (Call.Read r) w = bind-any _ (λ a. accepted whole)
