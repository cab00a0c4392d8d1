-- The code's five sums and a record's six counts as the sweep's counts, and what keeps the sums inside a word.
use Rattle.std.specs.Prelude.{◌≡◌, refl, Bool, true, false, ℕ, suc, ◌+◌, ◌/◌, ◌%◌, ◌^◌, ◌≤◌}
use Rattle.std.proofs.Common.{ap, ◌∙◌, arith, pow-suc}
use Rattle.std.proofs.Math.Nat.{dvd-mul_left, mod-mod_of_dvd}
use Rattle.std.proofs.Math.Pow.{field}
use Rattle.rights.specs.Rights as rights
use Rattle.rights.specs.Counters as counters
use Rattle.rights.specs.declared.Counters.{Counters}
use Rattle.model.specs.Lists.{one_if}
use Rattle.model.specs.State.{Counts}
use Rattle.model.specs.Fields.{Field, get, passes}
use Rattle.model.specs.Tracker.{no_counts, raise}
use Rattle.tables.specs.declared.Region.{Region}
use Rattle.laws.specs.Stack.{one_at_most}
use Rattle.laws.specs.Fields.{get_none, get-raise}
use Rattle.sweep_cursors.specs.declared.Sums.{Sums}

abbrev pub counts_of : Sums → Counts
counts_of s = record { reach = s.ref_count; read = s.read_count; write = s.write_count; exec = s.exec_count; super = s.super_count; uncacheable = 0 }

abbrev pub counts_from : Region → Counts
counts_from q =
    record { reach = q.ref_count; read = q.read_count; write = q.write_count; exec = q.exec_count; super = q.super_count; uncacheable = q.uncache_count }

-- no sum is above n
abbrev pub Low : ℕ → Sums → Type 0
Low n s = (f : Field) → get f (counts_of s) ≤ n

-- more events than a slice has: one more of any sum still fits
abbrev pub most : ℕ
most = 2 ^ 63

pub none-low : (s : Sums) (n : ℕ) → counts_of s ≡ no_counts → Low n s
none-low s n e f = omega (arith, ap (get f) e, get_none f)

pub raise-low : (s t : Sums) (r n : ℕ) → Low n s → counts_of t ≡ raise r (counts_of s) → Low (n + 1) t
raise-low s t r n h e f = omega (arith, ap (get f) e, get-raise f r (counts_of s), one_at_most (passes f r), h f)

pub low-most : (s : Sums) (n : ℕ) → n ≤ most → Low n s → Low most s
low-most s n h l f = omega (arith, l f)

-- ---- the rights word

-- a flag lies in the lowest eight bits of the word
low_bit : (j k r : ℕ) → r % 2 ^ (suc j + k) / 2 ^ k % 2 ≡ r / 2 ^ k % 2
low_bit j k r = ap (λ (x : ℕ). x % 2) (field r (suc j) k) ∙ mod-mod_of_dvd 2 (r / 2 ^ k) (rw (pow-suc 2 j) (dvd-mul_left 2 (2 ^ j)))

count-one : (b : Bool) → counters.one_if b ≡ one_if b
count-one true = refl
count-one false = refl

-- the counts of a rights word, each with its sum
pub raised : (s : Sums) (r : ℕ) (k : Counters) → k ≡ counters.counters_of (r % 256)
    → record { reach = s.ref_count + 1; read = s.read_count + k.read_count; write = s.write_count + k.write_count; exec = s.exec_count + k.exec_count; super = s.super_count + k.super_count; uncacheable = 0 } ≡ raise r (counts_of s)
raised s r k e = rw (e, low_bit 7 0 r, low_bit 6 1 r, low_bit 5 2 r, low_bit 4 3 r, count-one (rights.has r rights.READ), count-one (rights.has r rights.WRITE), count-one (rights.has r rights.EXEC), count-one (rights.has r rights.SUPER))

-- none is above 1
pub record Ones (k : Counters) : Type 0 where
  pub read : k.read_count ≤ 1
  pub write : k.write_count ≤ 1
  pub exec : k.exec_count ≤ 1
  pub super : k.super_count ≤ 1

count_low : (b : Bool) → counters.one_if b ≤ 1
count_low b = omega (arith, count-one b, one_at_most b)

pub ones : (k : Counters) (r : ℕ) → k ≡ counters.counters_of r → Ones k
ones k r e = rw e (record { read = count_low (rights.has r rights.READ); write = count_low (rights.has r rights.WRITE); exec = count_low (rights.has r rights.EXEC); super = count_low (rights.has r rights.SUPER) })
