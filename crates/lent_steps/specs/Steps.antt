-- A step that was run is the model's.
use Rattle.std.specs.Prelude.{◌≡◌, refl, ℕ, List}
use Rattle.std.proofs.Common.{ap, subst, ◌∙◌}
use Rattle.tables.specs.Tables.{Tables}
use Rattle.tables.specs.View.{Left}
use Rattle.answers.specs.Answers.{Answer, Effect}
use Rattle.send_options.specs.declared.SendOptions.TheVariants as options
use Rattle.call.specs.declared.Call.{Call}
use Rattle.call.specs.declared.Call.TheVariants.{Open, OpenUnder, Channel, SetCoreMap, SetInterface, FreezeInterface, Root, Alias, Carve, Send, Revoke, CreateRevokeCapa}
use Rattle.call.specs.Steps.{step_named}
use Rattle.calls.specs.Steps.{step_of}
use Rattle.refine.specs.Calls.Perform.{step_for}

same_step : (c : Call) (v : Tables) → step_of c v ≡ step_for (step_named c) v
same_step (Open cores) v = refl
same_step (OpenUnder h cores) v = refl
same_step (Channel h to) v = refl
same_step (SetCoreMap h cores) v = refl
same_step (SetInterface h word) v = refl
same_step (FreezeInterface h) v = refl
same_step (Root h a) v = refl
same_step (Alias x) v = refl
same_step (Carve x) v = refl
same_step (Send h l target options.None) v = refl
same_step (Send h l target (options.Flags f)) v = refl
same_step (Send h l target (options.Hashed f x)) v = refl
same_step (Revoke h l) v = refl
same_step (CreateRevokeCapa h l) v = refl

-- as `run` cites it: a is what the step answered, u what it left
pub ran-step : (c : Call) (v : Tables) (a : Answer) (u : List ℕ) → a ≡ (step_of c v).answer → Left u (step_of c v).tables
    → (a ≡ (step_for (step_named c) v).answer) × Left u (step_for (step_named c) v).tables
ran-step c v a u e l = (e ∙ ap (λ (x : Effect). x.answer) (same_step c v), subst (λ (x : Effect). Left u x.tables) (same_step c v) l)
