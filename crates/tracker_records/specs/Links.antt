-- The links of a domain's records: one more, one cut in two, one less.
use Rattle.std.specs.Prelude.{ℕ, eqb, Option, Some, None, Ok, Err}
use Rattle.base.specs.Cases.{pick}
use Rattle.tables.specs.declared.Region.{Region}
use Rattle.tables.specs.declared.DomainHead.{DomainHead}
use Rattle.tables.specs.Links.{link_to, slot_to}
use Rattle.tables.specs.Tables.{Tables, head_at, record_at, with_head, with_record, with_record_pool}
use Rattle.tables.specs.declared.Handle.{Handle}
use Rattle.arena.specs.Arena.{Freed, given, allocated, answer_to}
use Rattle.pools.specs.declared.Pool.TheVariants.{Records}
use Rattle.pools.specs.Wiping.{slot_freed}
use Rattle.answers.specs.Answers.{Answer, Effect, done, refused}
use Rattle.refusals.specs.Refusals.{no_tracker}

-- another end and another link; another start
abbrev pub with_end : Region → ℕ → ℕ → Region
with_end q e k =
    record { start = q.start; end = e; ref_count = q.ref_count; read_count = q.read_count; write_count = q.write_count; exec_count = q.exec_count; super_count = q.super_count; uncache_count = q.uncache_count; next = k }

abbrev pub with_start : Region → ℕ → Region
with_start q s =
    record { start = s; end = q.end; ref_count = q.ref_count; read_count = q.read_count; write_count = q.write_count; exec_count = q.exec_count; super_count = q.super_count; uncache_count = q.uncache_count; next = q.next }

-- a domain's words with another first record
abbrev pub with_first : DomainHead → ℕ → DomainHead
with_first h k = record { manager = h.manager; cores = h.cores; tracker = k; head = h.head; count = h.count }

-- the link of domain d's first record
unfoldable pub first_link : Tables → ℕ → ℕ
first_link s d = (head_at s d).tracker

-- link k behind the record prev, or first in domain d where prev is 0
unfoldable pub with_next : Tables → ℕ → ℕ → ℕ → Tables
with_next s d prev k =
    pick (eqb prev 0) (with_head s d (with_first (head_at s d) k)) (with_record s (slot_to prev) (with_end (record_at s (slot_to prev)) (record_at s (slot_to prev)).end k))

-- the tables with a record's slot taken
abbrev pub taken : Tables → Tables
taken s = with_record_pool s (allocated s.record_pool)

abbrev inserted_at : Tables → ℕ → ℕ → Region → Option Handle → Effect
inserted_at s d prev q (Some h) = done (link_to h.slot) (with_next (with_record (taken s) h.slot q) d prev (link_to h.slot))
inserted_at s d prev q None = refused no_tracker (taken s)

-- record q in a slot of its own behind prev; the answer is its link
unfoldable pub inserted : Tables → ℕ → ℕ → Region → Effect
inserted s d prev q = inserted_at s d prev q (given s.record_pool)

abbrev split_at : Tables → ℕ → ℕ → Option Handle → Effect
split_at s i a (Some h) =
    let q = record_at (taken s) i in
    done (link_to h.slot) (with_record (with_record (taken s) h.slot (with_start q a)) i (with_end q a (link_to h.slot)))
split_at s i a None = refused no_tracker (taken s)

-- record i is cut in two at a; the answer is the right half's link (the model's split_at)
unfoldable pub split : Tables → ℕ → ℕ → Effect
split s i a = split_at s i a (given s.record_pool)

-- what freeing a slot answers, as the answer of a step
abbrev pub freed_answer : Freed → Answer
freed_answer (Ok u) = Ok 0
freed_answer (Err r) = Err r

-- record i is freed and wiped
unfoldable pub freed_record : Tables → ℕ → Effect
freed_record s i = record { answer = freed_answer (answer_to s.record_pool i); tables = slot_freed s Records i }
