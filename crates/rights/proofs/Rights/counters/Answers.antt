-- `rights::Rights::counters` meets its contract: to contain a flag is to have its bit. Assumes nothing.
use Prim.Native.Nat.{ℕ, ◌^◌}
use mathlib.Core.Path.{◌≡◌, ap, ◌∙◌}
use Rattle.rights.specs.Rights.{contains}
use Rattle.rights.specs.Counters.{one_if}
use Rattle.rights.specs.Bits.{bit}
use Rattle.rights.specs.Laws.{contains-flag}
use Rattle.rights.proofs.Rights.counters.Goals as goal

pub returns : goal.returns
returns c =
    let word = c.args.self.0 in
    let flag : (k : ℕ) → one_if (contains word (2 ^ k)) ≡ one_if (bit k word) = λ k. ap one_if (contains-flag k word) in
    λ t. record {
      read_count = (c.count.ensures ∙ flag 0) t;
      write_count = (c.count-2.ensures ∙ flag 1) t;
      exec_count = (c.count-3.ensures ∙ flag 2) t;
      super_count = (c.count-4.ensures ∙ flag 3) t;
      uncache_count = (c.count-5.ensures ∙ flag 7) t;
    }
