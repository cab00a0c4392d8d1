-- Each call has its own step.
use borrow.Author.Rules.{rules}
use Rattle.calls.proofs.step.Goals as goal

pub returns-in-Open : goal.returns-in-Open
returns-in-Open c = rw c.in-Open.is record { value = c.open_domain.ensures.value; left = c.open_domain.ensures.left }

pub returns-in-OpenUnder : goal.returns-in-OpenUnder
returns-in-OpenUnder c = rw c.in-OpenUnder.is record { value = c.open_under.ensures.value; left = c.open_under.ensures.left }

pub returns-in-Channel : goal.returns-in-Channel
returns-in-Channel c = rw c.in-Channel.is record { value = c.open_channel.ensures.value; left = c.open_channel.ensures.left }

pub returns-in-SetCoreMap : goal.returns-in-SetCoreMap
returns-in-SetCoreMap c = rw c.in-SetCoreMap.is record { value = c.set_core_map.ensures.value; left = c.set_core_map.ensures.left }

pub returns-in-SetInterface : goal.returns-in-SetInterface
returns-in-SetInterface c = rw c.in-SetInterface.is record { value = c.set_interface.ensures.value; left = c.set_interface.ensures.left }

pub returns-in-FreezeInterface : goal.returns-in-FreezeInterface
returns-in-FreezeInterface c = rw c.in-FreezeInterface.is record { value = c.freeze_interface.ensures.value; left = c.freeze_interface.ensures.left }

pub returns-in-Root : goal.returns-in-Root
returns-in-Root c = rw c.in-Root.is record { value = c.create_root_region.ensures.value; left = c.create_root_region.ensures.left }

pub returns-in-Alias : goal.returns-in-Alias
returns-in-Alias c = rw c.in-Alias.is record { value = c.alias_region.ensures.value; left = c.alias_region.ensures.left }

pub returns-in-Carve : goal.returns-in-Carve
returns-in-Carve c = rw c.in-Carve.is record { value = c.carve_region.ensures.value; left = c.carve_region.ensures.left }

pub returns-in-Send : goal.returns-in-Send
returns-in-Send c = rw c.in-Send.is record { value = c.send.ensures.value; left = c.send.ensures.left }

pub returns-in-Revoke : goal.returns-in-Revoke
returns-in-Revoke c = rw c.in-Revoke.is record { value = c.revoke.ensures.value; left = c.revoke.ensures.left }

pub returns-in-CreateRevokeCapa : goal.returns-in-CreateRevokeCapa
returns-in-CreateRevokeCapa c = rw c.in-CreateRevokeCapa.is record { value = c.create_revoke_capa.ensures.value; left = c.create_revoke_capa.ensures.left }
