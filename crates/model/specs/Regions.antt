-- The steps on regions (document 01, **Alias** to **Revoke**; `segment`, and `activate_region`, `deactivate_region` of `domain`).
-- `closing`: the slots of the domains that are closing (Closing.antt), none where no domain is closed.
use Rattle.std.specs.Prelude.{ℕ, zero, suc, ◌||◌, List, [], ◌∷◌, eqb, set, if◌then◌else◌}
use Rattle.std.proofs.Math.Option.{none, some}
use Rattle.model.specs.Lists.{is_some, exists, count_if}
use Rattle.model.specs.Outcome.{Outcome, ok, ◌>>=◌}
use Rattle.refusals.specs.Refusals.{no_region}
use Rattle.rights.specs.Rights.{has, union, CLEANUP}
use Rattle.model.specs.State.{State, Region, Kind, Root, Alias, Carve, Access, SendOptions, cleanup, domain_at, region_at, put_domain, put_region, with_tracker, with_record_pool, with_regions, with_owner, with_rights_hash}
use Rattle.model.specs.Pool.{allocate, free}
use Rattle.model.specs.Tracker.{Walk, gain, lose}
use Rattle.model.specs.Updates.{push, push_permission}
use Rattle.model.specs.Tree.{Range, access_of, remove_child, effective_ranges}

-- A domain's new tracker and the record pool are put back; a change, that is any mark, queues the domain (**Update ring**). Document 02, request 5: a closing
-- domain's "tracker then gains and loses as in any revoke, but queues nothing"; an update of it that is queued already gathers nothing either.
unfoldable pub put_walk : List ℕ → ℕ → Walk → State → Outcome State
put_walk closing d w s =
    let s₁ = with_record_pool w.pool (put_domain d (with_tracker w.records (domain_at s d)) s) in
    if exists (eqb d) closing || eqb w.marks 0 then ok s₁ else push_permission d w.marks s₁

-- Domain d gains, or loses, a range with its rights (`activate_region`, `deactivate_region`). `closing` is [] in every call but a close.
unfoldable pub activate : List ℕ → ℕ → Access → State → Outcome State
activate closing d a s = do
  w ← gain a.rights a.start a.end (domain_at s d).tracker s.record_pool
  put_walk closing d w s

unfoldable pub deactivate : List ℕ → ℕ → Access → State → Outcome State
deactivate closing d a s = do
  w ← lose a.rights a.start a.end (domain_at s d).tracker s.record_pool
  put_walk closing d w s

-- A new region of domain d, without a hash, in a slot of its own; 11 where none is free.
unfoldable pub new_region : ℕ → Kind → Access → State → Outcome (ℕ × State)
new_region d k a s = do
  (i, p) ← allocate no_region s.region_pool
  ok (i, with_regions p (set s.regions i (some (record { owner = d; kind = k; start = a.start; end = a.end; rights = a.rights; children = []; hash = none }))) s)

-- Region i leaves its slot (16). No capability list is looked at: a Region or RegionRevoke of it stays in its slot, dead, until a sweep; `revoke` empties the
-- caller's slot alone.
unfoldable pub free_region : ℕ → State → Outcome State
free_region i s = do
  p ← free i s.region_pool
  ok (with_regions p (set s.regions i none) s)

-- **Send**: "each effective range in turn leaves the old domain and joins the new".
unfoldable pub send_ranges : ℕ → ℕ → ℕ → List Range → State → Outcome State
send_ranges old new r [] s = ok s
send_ranges old new r (x ∷ xs) s = do
  s₁ ← deactivate [] old (record { start = x.0; end = x.1; rights = r }) s
  s₂ ← activate [] new (record { start = x.0; end = x.1; rights = r }) s₁
  send_ranges old new r xs s₂

-- Region i becomes domain `new`'s, with its effective ranges.
unfoldable pub send_region : ℕ → ℕ → State → Outcome State
send_region i new s = let g = region_at s i in send_ranges g.owner new g.rights (effective_ranges s g) (put_region i (with_owner new g) s)

-- Request 1: "With a flag word given for a region, the flags join the region's rights .. and the hash is stored, or cleared when absent. Without one the
-- stored hash stays." The tracker counts none of the flags that may join. HASH among the rights and a stored
-- hash are two things: neither asks for the other.
unfoldable pub apply_options : ℕ → SendOptions → State → State
apply_options i o s = elim o.flags [ none ↦ s | some f ↦ let g = region_at s i in put_region i (with_rights_hash (union g.rights f) o.hash g) s ]

-- "a carve's parent's domain gains it with the parent's rights"
unfoldable pub give_back : List ℕ → Region → State → Outcome State
give_back closing g s = elim g.kind [
  | Root ↦ ok s
  | Alias p ↦ ok s
  | Carve p ↦ activate closing (region_at s p).owner (record { start = g.start; end = g.end; rights = (region_at s p).rights }) s
]

-- "the region leaves its list"
unfoldable pub leave_parent : ℕ → State → State
leave_parent i s = elim (region_at s i).kind [ Root ↦ s | Alias p ↦ remove_child p i s | Carve p ↦ remove_child p i s ]

-- **Revoke** of a region without children, in document 01's order; "CLEANUP queues start and end". Without children its whole range is effective. Queued at
-- most, in this order: the owner, a carve's parent's domain, the clean-up.
unfoldable pub revoke_leaf : List ℕ → ℕ → State → Outcome State
revoke_leaf closing i s = do
  let g = region_at s i
  s₁ ← deactivate closing g.owner (access_of g) (leave_parent i s)  -- 13, 14, 16
  s₂ ← give_back closing g s₁  -- 13, 14, 16
  s₃ ← free_region i s₂  -- 16
  if has g.rights CLEANUP then push (cleanup g.start g.end) s₃ else ok s₃  -- 14

-- **Revoke**: "Children go first, head child by head child, to any depth": the head child, and then i again without it. Where B owns a carve of A's root, and C
-- an alias of that carve, C loses, then B loses, then A gains. n only limits how far this calls itself: calls give the number of all live regions, which
-- suffices, so that the first equation is never reached (`revoke-all`, crate laws).
unfoldable pub revoke_region : List ℕ → ℕ → ℕ → State → Outcome State
revoke_region closing zero i s = ok s
revoke_region closing (suc n) i s = elim (region_at s i).children [
  | [] ↦ revoke_leaf closing i s
  | c ∷ cs ↦ revoke_region closing n c s >>= λ s₁. revoke_region closing n i s₁
]

-- the number of all live regions
abbrev pub live_count : State → ℕ
live_count s = count_if is_some s.regions
