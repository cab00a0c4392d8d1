-- **Update ring** (document 01). "It has one place more than it can hold."
use Rattle.std.specs.Prelude.{ℕ, ◌+◌, ◌%◌, Bool, false, [], ◌∷◌, ◌++◌, map, ltb, length, if◌then◌else◌}
use Rattle.std.proofs.Math.Option.{Option, none, some}
use Rattle.model.specs.Lists.{exists}
use Rattle.model.specs.Outcome.{Outcome, ok, ◌>>◌, require}
use Rattle.refusals.specs.Refusals.{ring_full}
use Rattle.rights.specs.Rights.{union}
use Rattle.model.specs.State.{State, Handle, Update, permission, cleanup, with_queue, domain_at}
use Rattle.model.specs.Pool.{handle_of, same_handle}

-- An update joins the end; 14 where the ring holds as many as it can.
unfoldable pub push : Update → State → Outcome State
push u s = do
  require (ltb (length s.queue.items) s.sizes.updates) ring_full  -- 14
  ok (with_queue (record { read_place = s.queue.read_place; items = s.queue.items ++ (u ∷ []) }) s)

-- Is this a queued update of the domain with that handle?
abbrev pub is_permission_of : Handle → Update → Bool
is_permission_of h (permission k cores marks) = same_handle h k
is_permission_of h (cleanup a b) = false

-- Document 02, request 4: "A queued update gathers these marks until it is popped, by union with those of later changes." m are the marks of a later change
-- of the domain with handle h; "Domain, core map and place in the queue are as before".
abbrev pub gather : Handle → ℕ → Update → Update
gather h m (permission k cores marks) = permission k cores (if same_handle h k then union marks m else marks)
gather h m (cleanup a b) = cleanup a b

-- "A change queues the domain with its core map unless it is queued already." It is the core map of that moment: a later one does not reach the queue.
-- A domain that is queued already needs no room.
unfoldable pub push_permission : ℕ → ℕ → State → Outcome State
push_permission d m s =
    let h = handle_of s.domain_pool d in
    if exists (is_permission_of h) s.queue.items
    then ok (with_queue (record { read_place = s.queue.read_place; items = map (gather h m) s.queue.items }) s)
    else push (permission h (domain_at s d).cores m) s

-- The oldest update leaves; "Pop of an empty ring answers none."
unfoldable pub pop : State → Option Update × State
pop s = elim s.queue.items [
  | [] ↦ (none, s)
  | u ∷ us ↦ (some u, with_queue (record { read_place = (s.queue.read_place + 1) % (s.sizes.updates + 1); items = us }) s)
]
