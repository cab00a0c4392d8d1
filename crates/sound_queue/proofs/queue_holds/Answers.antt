-- Each test leaves the answer to those behind it.
use Rattle.std.proofs.Common.{◌+◌, ap, ◌∙◌, arith}
use Rattle.tables.specs.View.{view}
use Rattle.sizes.specs.Sizes.{sizes_of}
use Rattle.sound_queue.specs.Steps.{updates_seen, queued-fits, read-outside, write-outside, ring-go, ring-stop}
use Rattle.sound_queue.proofs.queue_holds.Goals as goal
use Rattle.sound_queue.proofs.queue_holds.Goals.{then-n-read-via-then-n-read, then-n-read-via-else-n-read+then-n-write}

pub overflow_add-n : goal.overflow_add-n
unfolding sizes_of
overflow_add-n c = omega (arith, c.size-n.ensures, c.requires.limits.updates-high)

pub returns-then-n-read : goal.returns-then-n-read
returns-then-n-read c =
    let n = ap (λ x. x + 1) (c.size-n.ensures ∙ updates_seen c.args.t.now) in
    elim c.then-n-read.branch [
      | then-n-read-via-then-n-read w ↦ read-outside (view c.args.t.now) _ _ _ n c.read_place-read.ensures c.write_place-write.ensures w.if-n-read.true
      | then-n-read-via-else-n-read+then-n-write w ↦ write-outside (view c.args.t.now) _ _ _ n c.read_place-read.ensures c.write_place-write.ensures (omega arith) w.if-n-write.true
    ]

pub overflow_add-m : goal.overflow_add-m
unfolding sizes_of
overflow_add-m c = omega (arith, c.size-n.ensures, c.requires.limits.updates-high)

pub numbers_hold-requires-clause-n_bound : goal.numbers_hold-requires-clause-n_bound
unfolding sizes_of
numbers_hold-requires-clause-n_bound c = omega (arith, c.size-n.ensures, c.requires.limits.updates-high)

pub is_singly-requires-clause-m_bound : goal.is_singly-requires-clause-m_bound
unfolding sizes_of
is_singly-requires-clause-m_bound c = queued-fits _ _ _ (omega arith) (omega (arith, c.size-n.ensures, c.requires.limits.updates-high))

pub returns-then-numbers_hold : goal.returns-then-numbers_hold
returns-then-numbers_hold c =
    let n = ap (λ x. x + 1) (c.size-n.ensures ∙ updates_seen c.args.t.now) in
    ring-go (view c.args.t.now) _ _ _ n c.read_place-read.ensures c.write_place-write.ensures (omega arith) (omega arith) _ c.numbers_hold.ensures _ c.if-numbers_hold.true c.is_singly.ensures

pub returns-else-numbers_hold : goal.returns-else-numbers_hold
returns-else-numbers_hold c =
    let n = ap (λ x. x + 1) (c.size-n.ensures ∙ updates_seen c.args.t.now) in
    ring-stop (view c.args.t.now) _ _ _ n c.read_place-read.ensures c.write_place-write.ensures (omega arith) (omega arith) _ c.numbers_hold.ensures c.if-numbers_hold.false
