-- A region without children revoked (document 01, **Revoke**; segment.rs), while the domains in `closing` are closing.
use Rattle.std.specs.Prelude.{ℕ, ◌%◌, eqb}
use Rattle.base.specs.Cases.{pick}
use Rattle.rights.specs.Rights.{has, CLEANUP}
use Rattle.tables.specs.declared.RegionCapa.{RegionCapa}
use Rattle.tables.specs.Kinds.{ROOT}
use Rattle.tables.specs.Links.{slot_to}
use Rattle.tables.specs.Tables.{Tables, region_at}
use Rattle.answers.specs.Answers.{Effect, done, and_then}
use Rattle.domain.specs.Activate.{deactivate, cleanup}
use Rattle.children.specs.Children.{remove_child}
use Rattle.segment.specs.Regions.{access, freed_region}
use Rattle.giving_back.specs.GiveBack.{give_back}

-- a root is in no list (the model's leave_parent)
unfoldable pub leave_parent : ℕ → Tables → Tables
leave_parent i s = pick (eqb (region_at s i).kind ROOT) s (remove_child s (slot_to (region_at s i).parent) i)

unfoldable pub cleanup_if : RegionCapa → Tables → Effect
cleanup_if g s = pick (has (g.rights % 256) CLEANUP) (cleanup g.start g.end s) (done 0 s)

-- what is left once the region is in no list and on no tracker
abbrev pub free_leaf : ℕ → ℕ → RegionCapa → Tables → Effect
free_leaf closing i g s = and_then (give_back closing g s) (λ v s₁. and_then (freed_region i s₁) (λ w. cleanup_if g))

-- a region without children (the model's revoke_leaf)
unfoldable pub revoke_leaf : ℕ → ℕ → Tables → Effect
revoke_leaf closing i s =
    let g = region_at s i in
    and_then (deactivate closing (slot_to g.owner) (access g.start g.end g.rights) (leave_parent i s)) (λ u. free_leaf closing i g)
