-- Each flag is a bit of its own, so that the union of a record's flags is their sum.
use Prim.Native.Nat.{ℕ, ◌+◌, ◌*◌, ◌^◌, ◌<◌, ◌≤◌}
use mathlib.Core.Path.{◌≡◌, ◌∙◌}
use mathlib.Core.Bool.{Bool, true, false}
use native.Mathlib.Omega.{arith}
use lib.Dec.{ltb}
use lib.Bits.{or_shifted_r, or_zero_r}
use Rattle.base.specs.Cases.{pick}
use Rattle.rights.specs.Rights.{READ, WRITE, EXEC, SUPER, UNCACHEABLE, union}
use Rattle.readings.specs.Readings.{flag_if, rights_of}
use Rattle.tables.specs.declared.Region.{Region}

pick-most : (b : Bool) (flag : ℕ) → pick b flag 0 ≤ flag
pick-most true flag = omega arith
pick-most false flag = omega arith

-- bit k joins a word whose bits lie below it
joins : (b : Bool) (k x y : ℕ) → x < 2 ^ k → y ≡ pick b (2 ^ k) 0 → union x y ≡ x + y
joins true k x y h e = let o = or_shifted_r 1 k x h in let s : 1 * 2 ^ k ≡ y = omega arith in (rw s at o) ∙ omega arith
joins false k x y h e = rw e (or_zero_r x ∙ omega arith)

module _ (q : Region) where
  -- the flags in the order in which the code joins them
  pub flags-join : (r w x s u a b c o : ℕ) → r ≡ flag_if READ q.read_count → w ≡ flag_if WRITE q.write_count → a ≡ union r w → x ≡ flag_if EXEC q.exec_count → b ≡ union a x
      → s ≡ flag_if SUPER q.super_count → c ≡ union b s → u ≡ flag_if UNCACHEABLE q.uncache_count → o ≡ union c u → o ≡ rights_of q
  unfolding rights_of
  flags-join r w x s u a b c o er ew ea ex eb es ec eu eo =
      let hr = pick-most (ltb 0 q.read_count) READ in
      let hw = pick-most (ltb 0 q.write_count) WRITE in
      let hx = pick-most (ltb 0 q.exec_count) EXEC in
      let hs = pick-most (ltb 0 q.super_count) SUPER in
      let ja : a ≡ r + w = ea ∙ joins (ltb 0 q.write_count) 1 r w (omega arith) ew in
      let jb : b ≡ a + x = eb ∙ joins (ltb 0 q.exec_count) 2 a x (omega arith) ex in
      let jc : c ≡ b + s = ec ∙ joins (ltb 0 q.super_count) 3 b s (omega arith) es in
      let jo : o ≡ c + u = eo ∙ joins (ltb 0 q.uncache_count) 7 c u (omega arith) eu in
      omega arith
