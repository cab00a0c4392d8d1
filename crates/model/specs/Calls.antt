-- The calls (document 01, **Order of checks**; `CapaEngine`). Each `do` block has the checks in that order, the refusal's number beside each.
-- Where room was found first (`room_for_region`, `has_capacity`), `new_region` and `insert_capa` find it too, so that no 11 or 12 stands beside them.
-- 13, 14, 16 are what may come, not an order: a gain or loss gives 13 or 16 where it meets them, and 14 when it is done; a close or a revoke has several.
use Rattle.std.specs.Prelude.{ℕ, true, false, not, ◌||◌, [], eqb, ltb, set, if◌then◌else◌}
use Rattle.std.proofs.Math.Option.{Option, none, some}
use Rattle.model.specs.Lists.{is_some, is_empty}
use Rattle.model.specs.Outcome.{Outcome, ok, refuse, ◌>>=◌, ◌>>◌, require}
use Rattle.refusals.specs.Refusals.{no_domain, wrong_kind, stale, bad_range, beyond, is_root, not_carried, no_region, no_domain_room, bad_flag, no_hash, not_allowed, is_frozen, holds_root, running}
use Rattle.rights.specs.Rights.{has, allowed, HASH}
use Rattle.model.specs.State.{Handle, Capa, no_capa, region, region_revoke, management, channel, Access, SendOptions, Kind, Root, Alias, Carve, SEND, ALIAS, CARVE, open_interface, State, with_domains, with_cores, with_interface, domain_at, region_at, put_domain}
use Rattle.model.specs.Pool.{allocate, handle_of, is_live}
use Rattle.model.specs.Locals.{fresh_locals, has_capacity, capa_at, insert_capa, remove_capa, empty_capa}
use Rattle.model.specs.Tree.{is_root_kind, check_alias, check_carve, insert_child}
use Rattle.model.specs.Regions.{activate, deactivate, new_region, send_region, apply_options, revoke_region, live_count}
use Rattle.model.specs.Closing.{live_domains, closes_root, closes_running, close_domain}

-- ---- checks that several calls share

-- 3: "slot number too large, generation not the slot's, or slot free". The answer is the domain's slot. A domain's handle stays live until the domain is
-- closed or tables are made anew.
unfoldable pub live_domain : State → Handle → Outcome ℕ
live_domain s h = do
  require (is_live s.domain_pool s.domains h) no_domain  -- 3
  ok h.slot

-- Request 2: "20 for a missing bit, right after the caller's 3". The answer is the caller's slot. No other domain's word is read.
-- Asked by `alias_region`, `carve_region` and `send` alone.
unfoldable pub caller_with : ℕ → State → Handle → Outcome ℕ
caller_with bit s h = do
  d ← live_domain s h  -- 3
  require (has (domain_at s d).interface.word bit) not_allowed  -- 20
  ok d

-- 6: "region dead". The answer is the region's slot.
unfoldable pub live_region : State → Handle → Outcome ℕ
live_region s h = do
  require (is_live s.region_pool s.regions h) stale  -- 6
  ok h.slot

-- 5 where the capability is no region (`as_region`).
abbrev pub as_region : Capa → Outcome Handle
as_region no_capa = refuse wrong_kind
as_region (region h) = ok h
as_region (region_revoke h) = refuse wrong_kind
as_region (management h) = refuse wrong_kind
as_region (channel h) = refuse wrong_kind

-- 5 where the capability names no domain to send to (`as_channel`)
abbrev pub as_target : Capa → Outcome Handle
as_target no_capa = refuse wrong_kind
as_target (region h) = refuse wrong_kind
as_target (region_revoke h) = refuse wrong_kind
as_target (management h) = ok h
as_target (channel h) = ok h

-- 4, 5, 6: the live region that local slot l of domain d holds.
unfoldable pub region_held : State → ℕ → ℕ → Outcome ℕ
region_held s d l = do
  c ← capa_at s d l  -- 4
  h ← as_region c  -- 5
  live_region s h  -- 6

-- 11, 12, 7: room for a region and for its slot, and a range that is not empty.
unfoldable pub room_for_region : ℕ → Access → State → Outcome State
room_for_region d a s = do
  require (not (is_empty s.region_pool.free)) no_region  -- 11
  s₁ ← has_capacity d s  -- 12
  require (ltb a.start a.end) bad_range  -- 7
  ok s₁

-- ---- domains and channels ("Added by us")

-- A domain with an empty list and an empty tracker in a slot of its own, whatever its manager's interface; 15.
unfoldable pub new_domain : Option ℕ → ℕ → State → Outcome (ℕ × State)
new_domain m cores s = do
  (i, p) ← allocate no_domain_room s.domain_pool  -- 15
  ok (i, with_domains p (set s.domains i (some (record { manager = m; cores = cores; locals = fresh_locals s.sizes.slots; tracker = []; interface = open_interface }))) s)

-- "open a domain (manager or none, 64-bit core map; a manager gets a Management capability; nothing is queued)". The answer is the new domain's handle.
unfoldable pub open_domain : Option Handle → ℕ → State → Outcome (Handle × State)
open_domain none cores s = do
  (i, s₁) ← new_domain none cores s  -- 15
  ok (handle_of s₁.domain_pool i, s₁)
open_domain (some h) cores s = do
  m ← live_domain s h  -- 3
  (i, s₁) ← new_domain (some m) cores s  -- 15
  s₂ ← has_capacity m s₁  -- 12
  (l, s₃) ← insert_capa m (management (handle_of s₂.domain_pool i)) s₂
  ok (handle_of s₃.domain_pool i, s₃)

-- "open a channel (a Channel capability to a domain, put in another's list or its own; platform only)": to domain k, in h's list. Here and below a
-- call that gives a slot answers the local slot.
unfoldable pub open_channel : Handle → Handle → State → Outcome (ℕ × State)
open_channel h k s = do
  d ← live_domain s h  -- 3
  to ← live_domain s k  -- 3
  s₁ ← has_capacity d s  -- 12
  insert_capa d (channel k) s₁

-- "set a core map"
unfoldable pub set_core_map : Handle → ℕ → State → Outcome State
set_core_map h cores s = do
  d ← live_domain s h  -- 3
  ok (put_domain d (with_cores cores (domain_at s d)) s)

-- Request 2: the word "set by the platform to any value"; "21 for setting a frozen word, right after 3" (`set_domain_permission`)
unfoldable pub set_interface : Handle → ℕ → State → Outcome State
set_interface h word s = do
  d ← live_domain s h  -- 3
  require (not (domain_at s d).interface.frozen) is_frozen  -- 21
  ok (put_domain d (with_interface (record { word = word; frozen = false }) (domain_at s d)) s)

-- "a freeze that can't be lifted. Freezing twice is accepted" (`freeze_permissions`)
unfoldable pub freeze_interface : Handle → State → Outcome State
freeze_interface h s = do
  d ← live_domain s h  -- 3
  ok (put_domain d (with_interface (record { word = (domain_at s d).interface.word; frozen = true }) (domain_at s d)) s)

-- ---- regions

-- A root (`create_root_region`): no parent, any range and rights. The answer is the local slot.
unfoldable pub create_root_region : Handle → Access → State → Outcome (ℕ × State)
create_root_region h a s = do
  d ← live_domain s h  -- 3
  s₁ ← room_for_region d a s  -- 11, 12, 7
  (i, s₂) ← new_region d Root a s₁
  (l, s₃) ← insert_capa d (region (handle_of s₂.region_pool i)) s₂
  s₄ ← activate [] d a s₃  -- 13, 14, 16
  ok (l, s₄)

-- A child of region p, in p's child list and in a slot of domain d's list: the answer is that slot. It is in the region table before `insert_child` reads its
-- start there.
unfoldable pub add_child : ℕ → ℕ → Kind → Access → State → Outcome (ℕ × State)
add_child d p k a s = do
  (i, s₁) ← new_region d k a s
  insert_capa d (region (handle_of s₁.region_pool i)) (insert_child p i s₁)

-- **Alias** (`alias_region`): "The new region has the parent's domain, which gains the range." The parent's domain is the caller's.
unfoldable pub alias_region : Handle → ℕ → Access → State → Outcome (ℕ × State)
alias_region h l a s = do
  d ← caller_with ALIAS s h  -- 3, 20
  p ← region_held s d l  -- 4, 5, 6
  s₁ ← room_for_region d a s  -- 11, 12, 7
  require (check_alias s₁ (region_at s₁ p) a) beyond  -- 8
  (n, s₂) ← add_child d p (Alias p) a s₁
  s₃ ← activate [] d a s₂  -- 13, 14, 16
  ok (n, s₃)

-- **Carve**: "the domain loses the range with the parent's rights and gains it with the new ones; if equal, the tracker isn't touched". The whole words
-- are compared: 35 and 3 differ, though the tracker counts alike. Loss and gain mark each for itself: where nothing else counts there, the reach goes to 0
-- and back and is marked, though it is as before. With one record 0 to 16 of reach 1, a carve of 4 to 8 with other rights needs two free record slots (13):
-- the loss takes both and frees the first again, which the gain takes: records 0 to 4, 4 to 8, 8 to 16.
unfoldable pub exchange_rights : ℕ → ℕ → Access → State → Outcome State
exchange_rights d old a s = if eqb old a.rights then ok s else (do
  s₁ ← deactivate [] d (record { start = a.start; end = a.end; rights = old }) s
  activate [] d a s₁)

-- **Carve** (`carve_region`).
unfoldable pub carve_region : Handle → ℕ → Access → State → Outcome (ℕ × State)
carve_region h l a s = do
  d ← caller_with CARVE s h  -- 3, 20
  p ← region_held s d l  -- 4, 5, 6
  s₁ ← room_for_region d a s  -- 11, 12, 7
  require (check_carve s₁ (region_at s₁ p) a) beyond  -- 8
  (n, s₂) ← add_child d p (Carve p) a s₁
  s₃ ← exchange_rights d (region_at s₁ p).rights a s₂  -- 13, 14, 16
  ok (n, s₃)

-- ---- send and revoke

-- Request 1: "18 for a flag other than HASH, CLEANUP or VITAL" (these are what a child may add to no rights at all), "then 19 for HASH without a hash":
-- HASH of the flag word. Without a flag word there is nothing to check.
unfoldable pub check_options : SendOptions → Outcome (Unit {0})
check_options o = elim o.flags [
  | none ↦ ok tt
  | some f ↦ (do
    require (allowed 0 f) bad_flag  -- 18
    require (not (has f HASH) || is_some o.hash) no_hash)  -- 19
]

-- 10, 6, and for a region, a root as any other, its effective ranges; "A channel, RegionRevoke or Capa::None only moves." Request 1: "For other
-- capabilities both are ignored."
unfoldable pub send_capa : Capa → ℕ → SendOptions → State → Outcome State
send_capa no_capa to o s = ok s
send_capa (region h) to o s = do
  i ← live_region s h  -- 6
  check_options o  -- 18, 19
  s₁ ← send_region i to s  -- 13, 14, 16
  ok (apply_options i o s₁)
send_capa (region_revoke h) to o s = ok s
send_capa (management h) to o s = refuse not_carried  -- 10
send_capa (channel h) to o s = ok s

-- **Send**: "Moves the slot". The target's list is swept, if full, before the sent slot is looked at; where it is the sender's own, the sweep may free that
-- slot: a dead region gives 4 then, not 6, and so does a None or any other dead capability. The sent slot is freed before one is taken, so that what is sent
-- to oneself comes back to its slot. Room is asked for before that: a list still full after the sweep gives 12, its own too.
unfoldable pub send : Handle → ℕ → ℕ → SendOptions → State → Outcome (ℕ × State)
send h l target o s = do
  d ← caller_with SEND s h  -- 3, 20
  t ← capa_at s d target  -- 4
  k ← as_target t  -- 5
  to ← live_domain s k  -- 3
  s₁ ← has_capacity to s  -- 12
  c ← capa_at s₁ d l  -- 4
  s₂ ← send_capa c to o s₁  -- 10, 6, 18, 19, then 13, 14, 16
  insert_capa to c (remove_capa d l s₂)

-- 9, and the region with all below it.
unfoldable pub revoke_unless_root : ℕ → State → Outcome State
revoke_unless_root i s = do
  require (not (is_root_kind (region_at s i).kind)) is_root  -- 9
  revoke_region [] (live_count s) i s  -- 13, 14, 16

-- Document 02, request 5: "Revoking a Management capability closes that domain"; 22 and 23 "both after 3 for the target and before any change".
unfoldable pub close_managed : Handle → State → Outcome State
close_managed h s = do
  d ← live_domain s h  -- 3
  require (not (closes_root s d)) holds_root  -- 22
  require (not (closes_running s d)) running  -- 23
  close_domain (live_domains s) [] d s  -- 13, 14, 16

-- 6, 9; "a RegionRevoke of a dead region succeeds", and "For a channel, a None or a dead RegionRevoke that is all."
unfoldable pub revoke_capa : Capa → State → Outcome State
revoke_capa no_capa s = ok s
revoke_capa (region h) s = do
  i ← live_region s h  -- 6
  revoke_unless_root i s  -- 9, then 13, 14, 16
revoke_capa (region_revoke h) s = if is_live s.region_pool s.regions h then revoke_unless_root h.slot s else ok s
revoke_capa (management h) s = close_managed h s  -- 3, 22, 23, then 13, 14, 16
revoke_capa (channel h) s = ok s

-- **Revoke** (`revoke`). The caller is live still when its slot is emptied: no domain closes itself (`caller-stays`, crate laws).
unfoldable pub revoke : Handle → ℕ → State → Outcome State
revoke h l s = do
  d ← live_domain s h  -- 3
  c ← capa_at s d l  -- 4
  s₁ ← revoke_capa c s  -- 6, 9 or 3, 22, 23, then 13, 14, 16
  ok (empty_capa d l s₁)

-- "make a RegionRevoke for a held region in the holder's own list"
unfoldable pub create_revoke_capa : Handle → ℕ → State → Outcome (ℕ × State)
create_revoke_capa h l s = do
  d ← live_domain s h  -- 3
  i ← region_held s d l  -- 4, 5, 6
  require (not (is_root_kind (region_at s i).kind)) is_root  -- 9
  s₁ ← has_capacity d s  -- 12
  insert_capa d (region_revoke (handle_of s₁.region_pool i)) s₁
