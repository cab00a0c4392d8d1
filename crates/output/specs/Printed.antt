-- What a program has printed, in order, where it gathers lines in a run of bytes and hands the run over when the next line might not fit.
use Rattle.std.specs.Prelude.{◌≡◌, true, false, List, ◌++◌, ℕ, take}
use Rattle.output.specs.declared.Pending.{Pending}

-- All that was printed so far is `out`. The bytes `handed` went out, one run after another: of a writer that says what it holds, the contracts of `write` and
-- `room` of src/lib.rt say so (Sent.antt). While no write failed, the others are those pending, the first n of the run.
pub record Printed (out run : List ℕ) (p : Pending) : Type 0 where
  pub handed : List ℕ
  pub others : List ℕ
  pub whole : out ≡ handed ++ others
  pub pending : p.failed ≡ false → others ≡ take p.n run

-- Behind whatever was printed before, l is printed. That a write failed is not forgotten.
pub record Prints (run : List ℕ) (p : Pending) (l run' : List ℕ) (r : Pending) : Type 0 where
  pub failed : p.failed ≡ true → r.failed ≡ true
  pub behind : (out : List ℕ) → Printed out run p → Printed (out ++ l) run' r
