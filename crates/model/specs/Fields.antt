-- The counts of a tracker record by field (document 01, **Tracker**: "with reach, four right counts and an uncacheable count").
use Rattle.std.specs.Prelude.{ℕ, ◌+◌, ◌*◌, Bool, true, List, [], ◌∷◌}
use Rattle.rights.specs.Rights.{has, READ, WRITE, EXEC, SUPER}
use Rattle.model.specs.Lists.{one_if}
use Rattle.model.specs.State.{Counts}

-- What gains and losses change and demand 3 compares: the reach and four right counts. The uncacheable count is no field: "later gains and
-- losses don't change it".
pub data Field : Type 0 where
  Reach Read Write Exec Super : Field

-- all fields
abbrev pub fields : List Field
fields = Field.Reach ∷ Field.Read ∷ Field.Write ∷ Field.Exec ∷ Field.Super ∷ []

-- the count that a field names
abbrev pub get : Field → Counts → ℕ
get Field.Reach k = k.reach
get Field.Read k = k.read
get Field.Write k = k.write
get Field.Exec k = k.exec
get Field.Super k = k.super

-- Does a range with these rights count in the field? Every range counts in the reach.
abbrev pub passes : Field → ℕ → Bool
passes Field.Reach r = true
passes Field.Read r = has r READ
passes Field.Write r = has r WRITE
passes Field.Exec r = has r EXEC
passes Field.Super r = has r SUPER

-- 1 for a range that counts in the field, else 0 (`as_counters`)
abbrev pub counter : Field → ℕ → ℕ
counter f r = one_if (passes f r)

-- Counts with n f in each field f, and the uncacheable count u. (`Each`, of Lists, is a fact about a list.)
abbrev pub each : (Field → ℕ) → ℕ → Counts
each n u = record { reach = n Field.Reach; read = n Field.Read; write = n Field.Write; exec = n Field.Exec; super = n Field.Super; uncacheable = u }

-- ---- marks (document 02, request 4): a set of fields as a number

-- "as bits 0 to 4, in that order": "reach and each of the four rights". So a right's mark is twice its flag: a first gain with rights 3 marks 1 + 2 + 4.
abbrev pub mark : Field → ℕ
mark Field.Reach = 1
mark Field.Read = 2
mark Field.Write = 4
mark Field.Exec = 8
mark Field.Super = 16

-- the marks of the fields f where b f holds
abbrev pub marks_where : (Field → Bool) → ℕ
marks_where b =
    one_if (b Field.Reach) * mark Field.Reach + one_if (b Field.Read) * mark Field.Read + one_if (b Field.Write) * mark Field.Write
    + one_if (b Field.Exec) * mark Field.Exec + one_if (b Field.Super) * mark Field.Super

-- all five
abbrev pub all_marks : ℕ
all_marks = marks_where (λ f. true)

-- Is the field among the marks?
abbrev pub is_marked : Field → ℕ → Bool
is_marked f m = has m (mark f)
