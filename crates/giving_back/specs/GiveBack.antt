-- What a revoked carve held goes back (document 01, **Revoke**; segment.rs), while the domains in `closing` are closing.
use Rattle.std.specs.Prelude.{ℕ, eqb}
use Rattle.base.specs.Cases.{pick}
use Rattle.tables.specs.declared.RegionCapa.{RegionCapa}
use Rattle.tables.specs.Kinds.{CARVE}
use Rattle.tables.specs.Links.{slot_to}
use Rattle.tables.specs.Tables.{Tables, region_at}
use Rattle.answers.specs.Answers.{Effect, done}
use Rattle.domain.specs.Activate.{activate}
use Rattle.segment.specs.Regions.{access}

-- what a carve held goes back to its parent's domain with the parent's rights (the model's give_back)
unfoldable pub give_back : ℕ → RegionCapa → Tables → Effect
give_back closing g s =
    let p = region_at s (slot_to g.parent) in
    pick (eqb g.kind CARVE) (activate closing (slot_to p.owner) (access g.start g.end p.rights) s) (done 0 s)
