-- A record's six counts, raised and lowered (document 01, **Tracker**).
use Rattle.std.specs.Prelude.{Bool, not, ℕ, ◌+◌, ◌-◌, ◌^◌, eqb, leb}
use Rattle.rights.specs.Counters.{counters_of}
use Rattle.base.specs.Cases.{pick}
use Rattle.base.specs.Tests.{both}
use Rattle.tables.specs.declared.Region.{Region}

-- k more, where that is a word; k less, or 0
unfoldable pub up : ℕ → ℕ → ℕ
up n k = pick (leb k (2 ^ 64 - 1 - n)) (n + k) n

abbrev pub down : ℕ → ℕ → ℕ
down n k = n - k

-- a new record (the model's new_counts)
abbrev pub made : ℕ → ℕ → ℕ → ℕ → Region
made s e rights next =
    let c = counters_of rights in
    record { start = s; end = e; ref_count = 1; read_count = c.read_count; write_count = c.write_count; exec_count = c.exec_count; super_count = c.super_count; uncache_count = c.uncache_count; next = next }

-- a gain, and a loss (the model's raise and lower)
abbrev pub raised : ℕ → Region → Region
raised rights q =
    let c = counters_of rights in
    record { start = q.start; end = q.end; ref_count = up q.ref_count 1; read_count = up q.read_count c.read_count; write_count = up q.write_count c.write_count; exec_count = up q.exec_count c.exec_count; super_count = up q.super_count c.super_count; uncache_count = q.uncache_count; next = q.next }

abbrev pub lowered : ℕ → Region → Region
lowered rights q =
    let c = counters_of rights in
    record { start = q.start; end = q.end; ref_count = down q.ref_count 1; read_count = down q.read_count c.read_count; write_count = down q.write_count c.write_count; exec_count = down q.exec_count c.exec_count; super_count = down q.super_count c.super_count; uncache_count = q.uncache_count; next = q.next }

-- a count left or came to 0 (the model's crosses)
abbrev pub crosses_b : ℕ → ℕ → Bool
crosses_b a b = pick (eqb a 0) (not (eqb b 0)) (eqb b 0)

-- its mark then, else 0
abbrev pub mark_if : ℕ → ℕ → ℕ → ℕ
mark_if a b mark = pick (crosses_b a b) mark 0

-- the marks of reach and the four rights, bits 0 to 4 (the model's crossings; document 02, request 4)
unfoldable pub crossings_of : Region → Region → ℕ
crossings_of p q =
    mark_if p.ref_count q.ref_count 1 + mark_if p.read_count q.read_count 2 + mark_if p.write_count q.write_count 4 + mark_if p.exec_count q.exec_count 8 + mark_if p.super_count q.super_count 16

-- touching neighbours with six equal counts (the model's mergeable)
unfoldable pub mergeable_b : Region → Region → Bool
mergeable_b q n =
    both (both (eqb q.end n.start) (both (eqb q.ref_count n.ref_count) (eqb q.uncache_count n.uncache_count)))
    (both (both (eqb q.read_count n.read_count) (eqb q.write_count n.write_count)) (both (eqb q.exec_count n.exec_count) (eqb q.super_count n.super_count)))
