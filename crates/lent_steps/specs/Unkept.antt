-- Calls that are refused before their first change. What was found is then still there, so that no copy has to be kept.
use Rattle.std.specs.Prelude.{Bool, true, false}
use Rattle.model.specs.Perform as model
use Rattle.call.specs.declared.Call.TheVariants.{Open, Channel, SetCoreMap, SetInterface, FreezeInterface, Root, Alias, Carve, Send, Revoke, CreateRevokeCapa}

-- Is the call refused, if at all, before it changes anything?
abbrev pub checks_first : model.Step → Bool
checks_first (model.SetCoreMap h cores) = true
checks_first (model.SetInterface h word) = true
checks_first (model.FreezeInterface h) = true
checks_first (model.Open m cores) = false
checks_first (model.Channel h to) = false
checks_first (model.Root h a) = false
checks_first (model.Alias h l a) = false
checks_first (model.Carve h l a) = false
checks_first (model.Send h l target o) = false
checks_first (model.Revoke h l) = false
checks_first (model.CreateRevokeCapa h l) = false
