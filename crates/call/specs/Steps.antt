-- The model's step that a call of the code names.
use Rattle.std.proofs.Math.Option.{none, some}
use Rattle.model.specs.State as state
use Rattle.model.specs.Perform as model
use Rattle.tables.specs.declared.Handle.{Handle}
use Rattle.tables.specs.declared.Hash.{Hash}
use Rattle.region.specs.declared.AccessRights.{AccessRights}
use Rattle.send_options.specs.declared.SendOptions.{SendOptions}
use Rattle.send_options.specs.declared.SendOptions.TheVariants as options
use Rattle.call.specs.declared.Call.{Call}
use Rattle.call.specs.declared.Call.TheVariants.{Open, OpenUnder, Channel, SetCoreMap, SetInterface, FreezeInterface, Root, Alias, Carve, Send, Revoke, CreateRevokeCapa}

abbrev handle_from : Handle → state.Handle
handle_from h = record { slot = h.slot; generation = h.generation }

abbrev access_in : AccessRights → state.Access
access_in a = record { start = a.start; end = a.end; rights = a.ops.0 }

abbrev hash_from : Hash → state.Hash
hash_from h = record { word0 = h.word0; word1 = h.word1; word2 = h.word2; word3 = h.word3 }

abbrev options_in : SendOptions → state.SendOptions
options_in options.None = state.no_options
options_in (options.Flags f) = record { flags = some f.0; hash = none }
options_in (options.Hashed f h) = record { flags = some f.0; hash = some (hash_from h) }

abbrev pub step_named : Call → model.Step
step_named (Open cores) = model.Open none cores
step_named (OpenUnder h cores) = model.Open (some (handle_from h)) cores
step_named (Channel h to) = model.Channel (handle_from h) (handle_from to)
step_named (SetCoreMap h cores) = model.SetCoreMap (handle_from h) cores
step_named (SetInterface h word) = model.SetInterface (handle_from h) word
step_named (FreezeInterface h) = model.FreezeInterface (handle_from h)
step_named (Root h a) = model.Root (handle_from h) (access_in a)
step_named (Alias x) = model.Alias (handle_from x.domain) x.local (access_in x.access)
step_named (Carve x) = model.Carve (handle_from x.domain) x.local (access_in x.access)
step_named (Send h l target o) = model.Send (handle_from h) l target (options_in o)
step_named (Revoke h l) = model.Revoke (handle_from h) l
step_named (CreateRevokeCapa h l) = model.CreateRevokeCapa (handle_from h) l
