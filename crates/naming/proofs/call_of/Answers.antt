-- By the kind.
use Rattle.std.proofs.Common.{◌<◌, ap, refl, rules}
use Rattle.model.specs.Perform.{Call}
use Rattle.script_records.specs.declared.Kind.TheVariants as kind
use Rattle.naming.specs.Named.{rights-at, names_at}
use Rattle.naming.proofs.call_of.Goals as goal

pub access-requires : goal.access-requires
access-requires c = rights-at kind.Root c.args.r c.in-Root.is c.requires

pub access-requires-in-Alias : goal.access-requires-in-Alias
access-requires-in-Alias c = rights-at kind.Alias c.args.r c.in-Alias.is c.requires

pub access-requires-in-Carve : goal.access-requires-in-Carve
access-requires-in-Carve c = rights-at kind.Carve c.args.r c.in-Carve.is c.requires

pub returns-in-Open : goal.returns-in-Open
returns-in-Open c = names_at kind.Open c.args.r c.in-Open.is _ (ap Call.Do c.opening.ensures.0) c.opening.ensures.1

pub returns-in-Root : goal.returns-in-Root
returns-in-Root c =
    let g : c.args.r.e < 256 = rights-at kind.Root c.args.r c.in-Root.is c.requires in
    names_at kind.Root c.args.r c.in-Root.is _ (rw c.access.ensures) (rw c.access.ensures (search rules))

pub returns-in-Alias : goal.returns-in-Alias
returns-in-Alias c =
    let g : c.args.r.f < 256 = rights-at kind.Alias c.args.r c.in-Alias.is c.requires in
    names_at kind.Alias c.args.r c.in-Alias.is _ (rw c.access-in-Alias.ensures) (rw c.access-in-Alias.ensures (search rules))

pub returns-in-Carve : goal.returns-in-Carve
returns-in-Carve c =
    let g : c.args.r.f < 256 = rights-at kind.Carve c.args.r c.in-Carve.is c.requires in
    names_at kind.Carve c.args.r c.in-Carve.is _ (rw c.access-in-Carve.ensures) (rw c.access-in-Carve.ensures (search rules))

pub returns-in-Send : goal.returns-in-Send
returns-in-Send c = names_at kind.Send c.args.r c.in-Send.is _ refl (search rules)

pub returns-in-Revoke : goal.returns-in-Revoke
returns-in-Revoke c = names_at kind.Revoke c.args.r c.in-Revoke.is _ refl (search rules)

pub returns-in-CreateRevokeCapa : goal.returns-in-CreateRevokeCapa
returns-in-CreateRevokeCapa c = names_at kind.CreateRevokeCapa c.args.r c.in-CreateRevokeCapa.is _ refl (search rules)
