-- The test of the rows of a pool: those of free slots are clear, and a domain in use has a list that holds.
use Rattle.std.specs.Prelude.{ℕ, Bool, true, false}
use Rattle.base.specs.Cases.{pick}
use Rattle.base.specs.Tests.{both, all_from}
use Rattle.tables.specs.Tables.{Tables, head_at, slot_at, region_at, record_at}
use Rattle.list_links.specs.declared.Stack.{Stack}
use Rattle.list_links.specs.declared.Stack.TheVariants.{Domains, Regions, Records, Slots, Trackers}
use Rattle.list_links.specs.Stacks.{slots_of, may_meet, stack_holds}
use Rattle.clear_rows.specs.Clear.{head_clear, slot_fits, region_clear, record_clear}

unfoldable pub slots_hold : Tables → ℕ → Bool → Bool
slots_hold v d free = all_from (λ j. slot_fits free (slot_at v d j)) 0 v.sizes.slots

unfoldable pub domain_holds : Tables → ℕ → Bool
domain_holds v d =
    pick (may_meet v Domains d) (both (head_clear (head_at v d)) (slots_hold v d true)) (both (slots_hold v d false) (stack_holds v (Slots d)))

-- row i of a pool's table is clear where it is free
unfoldable pub row_holds : Tables → Stack → ℕ → Bool
row_holds v Domains i = domain_holds v i
row_holds v Regions i = pick (may_meet v Regions i) (region_clear (region_at v i)) true
row_holds v Records i = pick (may_meet v Records i) (record_clear (record_at v i)) true
row_holds v (Slots d) i = true
row_holds v Trackers i = true

unfoldable pub rows_hold : Tables → Stack → Bool
rows_hold v s = all_from (row_holds v s) 0 (slots_of v s)
