-- The step that a call names.
use Rattle.tables.specs.Tables.{Tables}
use Rattle.answers.specs.Answers.{Effect}
use Rattle.domain_calls.specs.Calls.{open_domain, open_under, open_channel, set_core_map}
use Rattle.interface_calls.specs.Calls.{set_interface, freeze_interface}
use Rattle.region_calls.specs.Calls.{create_root_region, alias_region}
use Rattle.carve_calls.specs.Calls.{carve_region}
use Rattle.send_calls.specs.Calls.{send}
use Rattle.revoke_calls.specs.Calls.{revoke_local, create_revoke_capa}
use Rattle.call.specs.declared.Call.{Call}
use Rattle.call.specs.declared.Call.TheVariants.{Open, OpenUnder, Channel, SetCoreMap, SetInterface, FreezeInterface, Root, Alias, Carve, Send, Revoke, CreateRevokeCapa}

abbrev pub step_of : Call → Tables → Effect
step_of (Open cores) s = open_domain cores s
step_of (OpenUnder h cores) s = open_under h cores s
step_of (Channel h to) s = open_channel h to s
step_of (SetCoreMap h cores) s = set_core_map h cores s
step_of (SetInterface h word) s = set_interface h word s
step_of (FreezeInterface h) s = freeze_interface h s
step_of (Root h a) s = create_root_region h a s
step_of (Alias x) s = alias_region x.domain x.local x.access s
step_of (Carve x) s = carve_region x.domain x.local x.access s
step_of (Send h l target o) s = send h l target o s
step_of (Revoke h l) s = revoke_local h l s
step_of (CreateRevokeCapa h l) s = create_revoke_capa h l s
