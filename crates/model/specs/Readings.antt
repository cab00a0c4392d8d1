-- The readings (document 01, **Reading**). They change nothing.
use Rattle.std.specs.Prelude.{ℕ, ◌+◌, max, Bool, ◌&&◌, List, [], ◌∷◌, map, ltb, length, if◌then◌else◌}
use Rattle.rights.specs.Rights.{READ, WRITE, EXEC, SUPER, UNCACHEABLE}
use Rattle.model.specs.Lists.{is_some, keep, at_slot, count_up}
use Rattle.model.specs.Outcome.{Outcome, ok, ◌>>=◌}
use Rattle.model.specs.State.{State, Access, Counts, Record, Handle, domain_at}
use Rattle.model.specs.Tracker.{meets}
use Rattle.model.specs.Calls.{live_domain}
use Rattle.model.specs.Counts.{stored_counts}

-- ---- the permission list

-- a flag where its count is above 0
abbrev pub flag_if : ℕ → ℕ → ℕ
flag_if flag n = if ltb 0 n then flag else 0

-- "the rights whose count is above 0, UNCACHEABLE included" (`get_ops`)
abbrev pub rights_of : Counts → ℕ
rights_of k = flag_if READ k.read + flag_if WRITE k.write + flag_if EXEC k.exec + flag_if SUPER k.super + flag_if UNCACHEABLE k.uncacheable

-- "one record for each tracker record, rising: start, end and the rights" (`PermissionIterator`)
abbrev pub permission_of : Record → Access
permission_of q = record { start = q.start; end = q.end; rights = rights_of q.counts }

-- A domain's permission list, whole.
unfoldable pub permissions : Handle → State → Outcome (List Access)
permissions h s = do
  d ← live_domain s h  -- 3
  ok (map permission_of (domain_at s d).tracker)

-- ---- numbers

-- "`get_refcount` takes any two numbers": the largest reach of a record that starts before `to` and ends after `from`.
abbrev pub largest_reach : ℕ → ℕ → List Record → ℕ
largest_reach from to [] = 0
largest_reach from to (q ∷ l) = max (if meets from to q then q.counts.reach else 0) (largest_reach from to l)

-- for a domain
unfoldable pub get_refcount : Handle → ℕ → ℕ → State → Outcome ℕ
get_refcount h from to s = do
  d ← live_domain s h  -- 3
  ok (largest_reach from to (domain_at s d).tracker)

-- a domain's core map
unfoldable pub core_map : Handle → State → Outcome ℕ
core_map h s = do
  d ← live_domain s h  -- 3
  ok (domain_at s d).cores

-- ---- the holders of an address

-- "live domains with reach above 0 there": is domain d one, at address a?
abbrev pub is_holder : State → ℕ → ℕ → Bool
is_holder s a d = is_some (at_slot s.domains d) && ltb 0 (stored_counts s d a).reach

-- "domain slot rising, each domain once" (document 02, request 6); `holders-once` and `holders-rise` (crate laws) say so of it.
unfoldable pub holders : ℕ → State → List ℕ
holders a s = keep (is_holder s a) (count_up 0 (length s.domains))

-- ---- a lent run

-- What a run of places holds once a list is written into it: the list's first elements, as many as there are places. "those past the run are
-- not written and unused places stay untouched"
abbrev pub fill_run : {A : Type 0} → List A → List A → List A
fill_run l [] = []
fill_run [] (y ∷ run) = y ∷ run
fill_run (x ∷ l) (y ∷ run) = x ∷ fill_run l run
