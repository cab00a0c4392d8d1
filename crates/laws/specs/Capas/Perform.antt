-- Every accepted call keeps the clauses about pools of domains and regions, lists, owners, managers and the queue; a call that changes
-- neither a region nor a tracker keeps Sound whole.
use Rattle.std.proofs.Math.Option.{none, some}
use Rattle.model.specs.Outcome.{Outcome}
use Rattle.model.specs.State.{State}
use Rattle.model.specs.Perform.{Step, Call, perform_step, perform}
use Rattle.model.specs.CallWords.{StepWords, CallWords}
use Rattle.model.specs.Sound.{Sound}
use Rattle.laws.specs.Accepted.{All, accepted, bind, bind-any, weaken, both}
use Rattle.laws.specs.Empty.{made-sound}
use Rattle.laws.specs.Capas.Pop.{pop-sound}
use Rattle.laws.specs.Capas.Held.{CapasSound, OthersSound, capas-sound, sound-of}
use Rattle.laws.specs.Capas.SetCoreMap.{set-core-map-sound}
use Rattle.laws.specs.Capas.Interface.{set-interface-sound, freeze-interface-sound}
use Rattle.laws.specs.Capas.Channel.{channel-sound}
use Rattle.laws.specs.Capas.CreateRevokeCapa.{create-revoke-capa-sound}
use Rattle.laws.specs.Capas.Open.{open-sound}
use Rattle.laws.specs.Capas.Root.{root-capas}
use Rattle.laws.specs.Capas.Alias.{alias-capas}
use Rattle.laws.specs.Capas.Carve.{carve-capas}
use Rattle.laws.specs.Capas.Send.{send-capas}
use Rattle.laws.specs.Close.Call.{revoke-call-sound}

-- a state that is sound whole has these clauses
whole : {A : Type 0} {m : Outcome (A × State)} → All (λ x. Sound x.1) m → All (λ x. CapasSound x.1) m
whole k = weaken k (λ x h. capas-sound x.1 h)

-- A step that changes no region and no tracker keeps Sound whole.
step-capas : (s : State) (c : Step) → Sound s → StepWords c → All (λ x. CapasSound x.1) (perform_step s c)
unfolding perform_step
step-capas s (Step.Open none c) h w = bind (whole (open-sound s none c h w)) (λ x k. accepted k)
step-capas s (Step.Open (some m) c) h w = bind (whole (open-sound s (some m) c h w.1)) (λ x k. accepted k)
step-capas s (Step.Channel m to) h w = bind (whole (channel-sound s m to h)) (λ x k. accepted k)
step-capas s (Step.SetCoreMap m c) h w = bind (set-core-map-sound s m c h w.1) (λ x k. accepted (capas-sound x k))
step-capas s (Step.SetInterface m n) h w = bind (set-interface-sound s m h n w.1) (λ x k. accepted (capas-sound x k))
step-capas s (Step.FreezeInterface m) h w = bind (freeze-interface-sound s m h) (λ x k. accepted (capas-sound x k))
step-capas s (Step.Root m a) h w = bind (root-capas m a s (capas-sound s h)) (λ x k. accepted k)
step-capas s (Step.Alias m l a) h w = bind (alias-capas m l a s (capas-sound s h)) (λ x k. accepted k)
step-capas s (Step.Carve m l a) h w = bind (carve-capas m l a s (capas-sound s h)) (λ x k. accepted k)
step-capas s (Step.Send m l t p) h w = bind (send-capas m l t p s (capas-sound s h)) (λ x k. accepted k)
step-capas s (Step.Revoke m l) h w = bind (revoke-call-sound m l s h) (λ x k. accepted (capas-sound x k))
step-capas s (Step.CreateRevokeCapa m l) h w = bind (whole (create-revoke-capa-sound s m l h)) (λ x k. accepted k)

pub perform-capas : (s : State) (c : Call) → Sound s → CallWords c → All (λ x. CapasSound x.1) (perform s c)
unfolding perform
perform-capas s (Call.Make z) h w = bind (made-sound _ _ z) (λ t k. accepted (capas-sound t k))
perform-capas s (Call.Do c) h w = step-capas s c h w
perform-capas s Call.Pop h w = bind {P = λ x. Sound x.1} (accepted (pop-sound s h)) (λ x k. accepted (capas-sound x.1 k))
perform-capas s (Call.Read r) h w = bind-any _ (λ x. accepted (capas-sound s h))

-- So Sound is kept where the other clauses are: the regions, the trackers and the record pool.
pub perform-sound : (s : State) (c : Call) → Sound s → CallWords c → All (λ x. OthersSound x.1) (perform s c) → All (λ x. Sound x.1) (perform s c)
perform-sound s c h w k = weaken (both (perform-capas s c h w) k) (λ x (a, b). sound-of x.1 a b)
