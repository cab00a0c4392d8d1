-- Steps on a domain: room in its list, a capability put there, and a range gained or lost with the update that this queues (domain.rs).
use Rattle.std.specs.Prelude.{Bool, true, false, ◌||◌, ℕ, eqb, get_or, Ok, Err, Option, Some, None}
use Rattle.base.specs.Cases.{pick}
use Rattle.tables.specs.declared.Slot.{Slot}
use Rattle.tables.specs.Tables.{Tables, head_at}
use Rattle.ring.specs.Ring.{push_of, cleanup_of}
use Rattle.ring_search.specs.Queueing.{queue_of}
use Rattle.stored_ring.specs.Stored.{ring_of, with_ring_of}
use Rattle.region.specs.declared.AccessRights.{AccessRights}
use Rattle.tracker.specs.Walks.{add_region, remove_region}
use Rattle.answers.specs.Answers.{Answer, Effect, done, and_then}
use Rattle.refusals.specs.declared.Refusal.{Refusal}
use Rattle.refusals.specs.Refusals.{no_local, ring_full}
use Rattle.slot_list.specs.Lists.{give_slot}
use Rattle.stored_slots.specs.Record.{list_at}
use Rattle.closing_set.specs.Closing.{closing_b}
use Rattle.slots.specs.Capas.{room_b, with_capacity, with_capa}

-- done where the test holds
abbrev pub or_refused : Refusal → Bool → Answer
or_refused r true = Ok 0
or_refused r false = Err r

-- a free slot in domain d's list, which is swept where it is full (the model's has_capacity)
unfoldable pub reserve : ℕ → Tables → Effect
reserve d s = record { answer = or_refused no_local (room_b (with_capacity s d) d); tables = with_capacity s d }

abbrev pub inserted_answer : Option ℕ → Answer
inserted_answer (Some i) = Ok i
inserted_answer None = Err no_local

-- a capability in the first free slot; the answer is the slot (the model's insert_capa)
unfoldable pub insert : ℕ → Slot → Tables → Effect
insert d x s = record { answer = inserted_answer (give_slot (list_at s d)).at; tables = with_capa s d x }

-- domain d is queued with its core map and marks m, or gathers them (the model's push_permission)
unfoldable pub notify : ℕ → ℕ → Tables → Effect
notify d m s =
    let p = queue_of (ring_of s) d (get_or s.domain_pool.gens d 0) (head_at s d).cores m in
    record { answer = or_refused ring_full p.ok; tables = with_ring_of s p.ring }

-- start and end are queued for cleanup (the model's push)
unfoldable pub cleanup : ℕ → ℕ → Tables → Effect
cleanup a b s =
    let p = push_of (ring_of s) (cleanup_of a b) in
    record { answer = or_refused ring_full p.ok; tables = with_ring_of s p.ring }

-- any mark queues domain d, unless it is closing
abbrev pub notify_if : ℕ → ℕ → ℕ → Tables → Effect
notify_if closing d m s = pick (closing_b closing d || eqb m 0) (done 0 s) (notify d m s)

-- domain d gains, or loses, the range, while the domains in `closing` are closing (the model's activate and deactivate)
unfoldable pub activate : ℕ → ℕ → AccessRights → Tables → Effect
activate closing d a s = and_then (add_region d a s) (notify_if closing d)

unfoldable pub deactivate : ℕ → ℕ → AccessRights → Tables → Effect
deactivate closing d a s = and_then (remove_region d a s) (notify_if closing d)
