-- Regions made and sent (document 01, **Send**; segment.rs).
use Rattle.std.specs.Prelude.{ℕ, zero, suc, ◌%◌, eqb, ltb, Option, Some, None}
use Rattle.base.specs.Cases.{pick}
use Rattle.tables.specs.declared.RegionCapa.{RegionCapa}
use Rattle.tables.specs.Kinds.{CARVE}
use Rattle.tables.specs.Tables.{Tables, region_at, with_region, with_region_pool, with_owner}
use Rattle.tables.specs.declared.Handle.{Handle}
use Rattle.arena.specs.Arena.{given, allocated, answer_to}
use Rattle.pools.specs.declared.Pool.TheVariants as pool
use Rattle.pools.specs.Wiping.{slot_freed}
use Rattle.refusals.specs.Refusals.{memory, no_region}
use Rattle.answers.specs.Answers.{Effect, done, refused, and_then}
use Rattle.region.specs.declared.AccessRights.{AccessRights}
use Rattle.tables.specs.Links.{link_to, slot_to}
use Rattle.tracker_records.specs.Links.{freed_answer}
use Rattle.domain.specs.Activate.{activate, deactivate}

-- a range with the rights of a stored word
abbrev pub access : ℕ → ℕ → ℕ → AccessRights
access a b rights = record { start = a; end = b; ops = record { 0 = rights % 256 } }

-- ---- a region comes and goes

-- region of domain d, with that kind and that link to its parent
abbrev pub capa_for : ℕ → ℕ → ℕ → AccessRights → RegionCapa
capa_for d kind parent a =
    record { kind = kind; owner = link_to d; parent = parent; start = a.start; end = a.end; rights = a.ops.0; child = 0; next = 0 }

abbrev pub taken : Tables → Tables
taken s = with_region_pool s (allocated s.region_pool)

abbrev made_at : Tables → RegionCapa → Option Handle → Effect
made_at s r (Some h) = done h.slot (with_region (taken s) h.slot r)
made_at s r None = refused no_region (taken s)

-- a region in a slot of its own; the answer is the slot (the model's new_region)
unfoldable pub new_region : RegionCapa → Tables → Effect
new_region r s = made_at s r (given s.region_pool)

-- region i leaves its slot (the model's free_region)
unfoldable pub freed_region : ℕ → Tables → Effect
freed_region i s = record { answer = freed_answer (answer_to s.region_pool i); tables = slot_freed s pool.Regions i }

-- ---- send: no domain is closing

-- the range from x up to y, where it is not empty, leaves domain old and joins domain new
unfoldable pub move_piece : ℕ → ℕ → ℕ → ℕ → ℕ → Tables → Effect
move_piece old new r x y s = pick (ltb x y) (and_then (deactivate 0 old (access x y r) s) (λ v. activate 0 new (access x y r))) (done 0 s)

-- the range from x up to e less the carved children from link k on, n at most (the model's send_ranges over effective_from)
unfoldable pub send_from : ℕ → ℕ → ℕ → ℕ → ℕ → ℕ → ℕ → Tables → Effect
send_from old new r e zero x k s = refused memory s
send_from old new r e (suc n) x k s =
    let c = region_at s (slot_to k) in
    pick (eqb k 0) (move_piece old new r x e s)
    (pick (eqb c.kind CARVE) (and_then (move_piece old new r x c.start s) (λ v. send_from old new r e n c.end c.next)) (send_from old new r e n x c.next s))

-- region i becomes domain new's, with its effective ranges (the model's send_region)
unfoldable pub send_region : ℕ → ℕ → Tables → Effect
send_region i new s =
    let g = region_at s i in
    send_from (slot_to g.owner) new g.rights g.end (suc s.sizes.regions) g.start g.child (with_region s i (with_owner g (link_to new)))
