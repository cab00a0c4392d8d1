-- What the functions of the rights word answer that the model does not ask for; that the counters are the model's `new_counts` is proved in crate refine.
use Rattle.std.specs.Prelude.{ℕ, Bool, true, false, not, eqb}
use Rattle.std.specs.Int.Bits.{bit_and}
use Rattle.rights.specs.declared.Counters.{Counters}
use Rattle.rights.specs.Rights.{READ, WRITE, EXEC, SUPER, UNCACHEABLE, has}

-- Is there a flag in both words?
abbrev pub intersects : ℕ → ℕ → Bool
intersects a b = not (eqb (bit_and a b) 0)

-- 1 if the test holds, else 0.
abbrev pub one_if : Bool → ℕ
one_if true = 1
one_if false = 0

-- The counts of a record that a gain with these rights makes (**Tracker**; `as_counters` of region.rs).
abbrev pub counters_of : ℕ → Counters
counters_of rights =
    record {
      read_count = one_if (has rights READ);
      write_count = one_if (has rights WRITE);
      exec_count = one_if (has rights EXEC);
      super_count = one_if (has rights SUPER);
      uncache_count = one_if (has rights UNCACHEABLE);
    }
