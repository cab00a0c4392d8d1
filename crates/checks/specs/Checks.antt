-- Checks that several calls share (document 01, **Order of checks**), the refusal's number beside each.
use Rattle.std.specs.Prelude.{ℕ, eqb, ltb, get_or}
use Rattle.base.specs.Cases.{pick}
use Rattle.tables.specs.declared.Handle.{Handle}
use Rattle.tables.specs.declared.Slot.{Slot}
use Rattle.tables.specs.Kinds.{FREE, REGION, MANAGEMENT, CHANNEL}
use Rattle.tables.specs.Tables.{Tables, Arena, interface_at}
use Rattle.arena.specs.Arena.{live_b, capacity_of}
use Rattle.rights.specs.Rights.{has}
use Rattle.refusals.specs.Refusals.{no_domain, no_slot, wrong_kind, stale, bad_range, no_region, not_allowed}
use Rattle.answers.specs.Answers.{Effect, done, refused, and_then}
use Rattle.region.specs.declared.AccessRights.{AccessRights}
use Rattle.slots.specs.Capas.{capa_at}
use Rattle.domain.specs.Activate.{reserve}

-- 3; the answer is the domain's slot
unfoldable pub live_domain : Handle → Tables → Effect
live_domain h s = pick (live_b s.domain_pool h) (done h.slot s) (refused no_domain s)

-- 3, 20: a domain whose interface has that bit; the answer is its slot (the model's caller_with)
unfoldable pub caller_with : ℕ → Handle → Tables → Effect
caller_with bit h s = and_then (live_domain h s) (λ d s₁. pick (has (interface_at s₁ d).word bit) (done d s₁) (refused not_allowed s₁))

-- 6; the answer is the region's slot
unfoldable pub live_region : Handle → Tables → Effect
live_region h s = pick (live_b s.region_pool h) (done h.slot s) (refused stale s)

-- 5, 6: a capability that is in use, as a live region
unfoldable pub as_region : Slot → Tables → Effect
as_region x s = pick (eqb x.kind REGION) (live_region x.handle s) (refused wrong_kind s)

-- 5, 3: as a live domain to send to, by a Management or a Channel capability
unfoldable pub as_target : Slot → Tables → Effect
as_target x s = pick (eqb x.kind MANAGEMENT) (live_domain x.handle s) (pick (eqb x.kind CHANNEL) (live_domain x.handle s) (refused wrong_kind s))

-- 4, 5, 6: the live region that local slot l of domain d holds (the model's region_held)
unfoldable pub region_held : ℕ → ℕ → Tables → Effect
region_held d l s = pick (eqb (capa_at s d l).kind FREE) (refused no_slot s) (as_region (capa_at s d l) s)

-- 4, 5, 3: the live domain that it names
unfoldable pub target_held : ℕ → ℕ → Tables → Effect
target_held d l s = pick (eqb (capa_at s d l).kind FREE) (refused no_slot s) (as_target (capa_at s d l) s)

-- 11, 12, 7 (the model's room_for_region)
unfoldable pub room_for_region : ℕ → AccessRights → Tables → Effect
room_for_region d a s =
    pick (eqb (capacity_of s.region_pool) 0) (refused no_region s)
    (and_then (reserve d s) (λ v s₁. pick (ltb a.start a.end) (done 0 s₁) (refused bad_range s₁)))

-- a capability of that kind for slot i of a pool, as it is now
abbrev pub capa_of : ℕ → Arena → ℕ → Slot
capa_of kind p i = record { kind = kind; handle = record { slot = i; generation = get_or p.gens i 0 } }
