-- Past the places `set` changes nothing.
use Rattle.sizes.specs.Limits.{most_slots}
use Prim.Native.Nat.{◌≤◌}
use Rattle.slot_list.specs.Arrays.{length-mapped}
use borrow.Author.Rules.{rules}
use lib.ListN.{length}
use lib.Seq.{set_out}
use mathlib.Core.Path.{◌≡◌}
use native.Mathlib.Omega.{arith}
use Rattle.slot_list.proofs.put.Goals as goal

pub returns-else-i-lt-MOST_SLOTS : goal.returns-else-i-lt-MOST_SLOTS
returns-else-i-lt-MOST_SLOTS c = let n : length c.args.list.slots ≡ most_slots = search length-mapped in let h : length c.args.list.slots ≤ c.args.i = omega arith in simp set_out
