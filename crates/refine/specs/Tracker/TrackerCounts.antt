-- The counts of a tracker record in its row: made, raised, lowered, compared as the model says. A count is raised where the sum is a word.
use Rattle.std.specs.Prelude.{◌≡◌, refl, ℕ, ◌+◌, ◌-◌, ◌*◌, ◌^◌, ◌≤◌, ◌<◌, Bool, true, false, not, ◌&&◌, eqb, if◌then◌else◌}
use Rattle.std.proofs.Common.{ap, ◌∙◌, arith, le-leb}
use Rattle.std.proofs.Math.Option.{Option, none}
use Rattle.base.specs.Cases.{pick}
use Rattle.base.specs.Tests.{both}
use Rattle.rights.specs.Rights as rights
use Rattle.rights.specs.Counters as counters
use Rattle.rights.specs.Rights.{has, READ, WRITE, EXEC, SUPER, UNCACHEABLE}
use Rattle.rights.specs.Counters.{counters_of}
use Rattle.model.specs.Lists.{one_if}
use Rattle.model.specs.State.{Counts, Record}
use Rattle.model.specs.Fields.{Field, get, passes, counter}
use Rattle.model.specs.Layout.{link}
use Rattle.model.specs.Tracker.{lower, no_counts, crosses, crossings, mergeable, with_counts}
use Rattle.laws.specs.Stack.{one_at_most}
use Rattle.tables.specs.declared.Region.{Region}
use Rattle.tables.specs.Tables.{no_record}
use Rattle.counts.specs.Counts.{up, made, raised, lowered, crosses_b, mark_if, crossings_of, mergeable_b}
use Rattle.decoded.specs.Tables.{record_for}
use Rattle.refine.specs.Tracker.GainSteps.{new_record, raised_record, fills}

-- ---- tests

pick-if : {A : Type 0} (b : Bool) (x y : A) → pick b x y ≡ if b then x else y
pick-if true x y = refl
pick-if false x y = refl

count-one : (b : Bool) → counters.one_if b ≡ one_if b
count-one true = refl
count-one false = refl

-- ---- the counters of the rights word

-- what the code adds in a field for a range with rights r
abbrev added : Field → ℕ → ℕ
added Field.Reach r = 1
added Field.Read r = (counters_of r).read_count
added Field.Write r = (counters_of r).write_count
added Field.Exec r = (counters_of r).exec_count
added Field.Super r = (counters_of r).super_count

added_is : (f : Field) (r : ℕ) → added f r ≡ counter f r
added_is Field.Reach r = refl
added_is Field.Read r = count-one (has r READ)
added_is Field.Write r = count-one (has r WRITE)
added_is Field.Exec r = count-one (has r EXEC)
added_is Field.Super r = count-one (has r SUPER)

-- a row with n f in each field f, and the uncacheable count u
abbrev row : ℕ → ℕ → (Field → ℕ) → ℕ → ℕ → Region
row s e n u next = record { start = s; end = e; ref_count = n Field.Reach; read_count = n Field.Read; write_count = n Field.Write; exec_count = n Field.Exec; super_count = n Field.Super; uncache_count = u; next = next }

-- ---- a new record

pub made-is : (r s e i : ℕ) (f : Option ℕ) → made s e r (link f) ≡ record_for (new_record r s e i) f
made-is r s e i f = λ t. row s e (λ c. added_is c r t) (count-one (has r UNCACHEABLE) t) (link f)

-- ---- counts raised and lowered

-- one more is a word
abbrev pub Raisable : Counts → Type 0
Raisable k = (f : Field) → get f k < 2 ^ 64 - 1

up_by : (n k : ℕ) → n < 2 ^ 64 - 1 → k ≤ 1 → up n k ≡ n + k
unfolding up
up_by n k h l = rw (le-leb k (2 ^ 64 - 1 - n) (omega arith))

module _ (r : ℕ) (q : Record) (f : Option ℕ) where
  pub raised_is : Raisable q.counts → raised r (record_for q f) ≡ record_for (raised_record r q) f
  raised_is h =
      let more : (c : Field) → up (get c q.counts) (added c r) ≡ get c q.counts + counter c r = λ c. ap (up (get c q.counts)) (added_is c r) ∙ up_by (get c q.counts) (counter c r) (h c) (one_at_most (passes c r)) in
      λ t. row q.start q.end (λ c. more c t) q.counts.uncacheable (link f)

  pub lowered_is : lowered r (record_for q f) ≡ record_for (with_counts (lower r q.counts) q) f
  lowered_is = λ t. row q.start q.end (λ c. get c q.counts - added_is c r t) q.counts.uncacheable (link f)

-- ---- the marks of the counts that left or came to 0

cross-is : (a b : ℕ) → crosses_b a b ≡ crosses a b
cross-is a b = pick-if (eqb a 0) (not (eqb b 0)) (eqb b 0)

mark-if : (b : Bool) (m : ℕ) → pick b m 0 ≡ one_if b * m
mark-if true m = omega arith
mark-if false m = omega arith

mark-is : (a b m : ℕ) → mark_if a b m ≡ one_if (crosses a b) * m
mark-is a b m = mark-if (crosses_b a b) m ∙ ap (λ (c : Bool). one_if c * m) (cross-is a b)

pub crossings-is : (q n : Record) (f g : Option ℕ) → crossings_of (record_for q f) (record_for n g) ≡ crossings q.counts n.counts
unfolding crossings_of
crossings-is q n f g =
    let j = q.counts in
    let k = n.counts in
    λ t. mark-is j.reach k.reach 1 t + mark-is j.read k.read 2 t + mark-is j.write k.write 4 t + mark-is j.exec k.exec 8 t + mark-is j.super k.super 16 t

-- a free slot's row is that of a record without counts
abbrev none_there : Record
none_there = record { slot = 0; start = 0; end = 0; counts = no_counts }

-- a record comes where none was; a record leaves
pub fills-is : (r s e i : ℕ) (f : Option ℕ) → crossings_of no_record (record_for (new_record r s e i) f) ≡ fills r
fills-is r s e i f = crossings-is none_there (new_record r s e i) none f

pub drops-is : (q : Record) (f : Option ℕ) → crossings_of (record_for q f) no_record ≡ crossings q.counts no_counts
drops-is q f = crossings-is q none_there f none

-- ---- neighbours that may be one record

-- the seven tests in the code's order and in the model's
seven : (t a u b c d e : Bool) → both (both t (both a u)) (both (both b c) (both d e)) ≡ (t && ((a && (b && (c && (d && (e && true))))) && u))
seven false a u b c d e = refl
seven true false u b c d e = refl
seven true true true false c d e = refl
seven true true true true false d e = refl
seven true true true true true false e = refl
seven true true true true true true true = refl
seven true true true true true true false = refl
seven true true false false c d e = refl
seven true true false true false d e = refl
seven true true false true true false e = refl
seven true true false true true true true = refl
seven true true false true true true false = refl

pub mergeable-is : (q n : Record) (f g : Option ℕ) → mergeable_b (record_for q f) (record_for n g) ≡ mergeable q n
unfolding mergeable_b
mergeable-is q n f g =
    let j = q.counts in
    let k = n.counts in
    seven (eqb q.end n.start) (eqb j.reach k.reach) (eqb j.uncacheable k.uncacheable)
    (eqb j.read k.read) (eqb j.write k.write) (eqb j.exec k.exec) (eqb j.super k.super)
