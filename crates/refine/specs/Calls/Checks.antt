-- The checks that calls share: the code's tests of a handle, of a slot's kind and of the room left are the model's, and each refuses with its number.
use Rattle.std.specs.Prelude.{◌≡◌, ℕ, suc, ltb, length}
use Rattle.std.proofs.Math.Path.{refl, ap}
use Rattle.std.proofs.Common.{◌∙◌, arith}
use Rattle.std.proofs.Math.Option.{Option, none, some}
use mathlib.Core.List.{List, [], ◌∷◌}
use Rattle.std.proofs.Math.Dec.{eqb}
use borrow.Author.Tests.{ne_eqb}
use Rattle.base.specs.Cases.{pick}
use Rattle.model.specs.Lists.{at_slot, is_empty, In}
use Rattle.model.specs.Outcome.{Outcome, ok, ◌>>=◌, require, ok_or}
use Rattle.refusals.specs.Refusals.{no_domain, no_slot, stale, bad_range, no_region}
use Rattle.model.specs.State as state
use Rattle.model.specs.State.{State, Capa, no_capa, region, region_revoke, management, channel}
use Rattle.model.specs.Pool.{is_live}
use Rattle.model.specs.Locals as locals
use Rattle.model.specs.Locals.{has_capacity}
use Rattle.model.specs.Calls as model
use Rattle.laws.specs.Words.SameDomains.{Listed}
use Rattle.laws.specs.Keep.Base.{Base}
use Rattle.laws.specs.Tree.Steps.{domain-at}
use Rattle.tables.specs.declared.Handle.{Handle}
use Rattle.tables.specs.declared.Slot.{Slot}
use Rattle.arena.specs.Arena.{live_b, capacity_of}
use Rattle.answers.specs.Answers.{Effect, done, refused}
use Rattle.region.specs.declared.AccessRights.{AccessRights}
use Rattle.slots.specs.Capas.{capa_at}
use Rattle.domain.specs.Activate.{reserve}
use Rattle.checks.specs.Checks.{live_domain, live_region, as_region, as_target, region_held, target_held, room_for_region}
use Rattle.decoded.specs.Tables.{handle_for, capa_slot, tables_of}
use Rattle.refine.specs.Agrees.{Agrees, agrees-call, agrees-state, ok-then, bind_assoc, then-bind}
use Rattle.refine.specs.Calls.Sequence.{agrees-check, agrees-unless}
use Rattle.refine.specs.Arenas.Pools.{handle_in, live-is, capacity-is}
use Rattle.refine.specs.Tree.ChildChecks.{access_for}
use Rattle.refine.specs.Slots.ListSteps.{capa-read, capa-none}
use Rattle.refine.specs.Slots.Sweep.{reserve-refines}

-- every list has its slots, each in use or free once
abbrev pub Lists : State → Type 0
Lists s = (d : ℕ) (x : state.Domain) → In s.domains d x → Listed s.sizes.slots x.locals

module _ (s : State) (base : Base s) where
  -- ---- handles

  pub domain-test : (h : Handle) → live_b (tables_of s).domain_pool h ≡ is_live s.domain_pool s.domains (handle_in h)
  unfolding tables_of
  domain-test h = live-is s.sizes.domains s.domains s.domain_pool base.domains.pool h

  pub region-test : (h : Handle) → live_b (tables_of s).region_pool h ≡ is_live s.region_pool s.regions (handle_in h)
  unfolding tables_of
  region-test h = live-is s.sizes.regions s.regions s.region_pool base.regions.pool h

  pub live-domain-refines : (h : Handle) → Agrees (live_domain h (tables_of s)) (model.live_domain s (handle_in h) >>= λ d. ok (d, s))
  unfolding live_domain model.live_domain ◌>>=◌
  live-domain-refines h =
      agrees-call _ _ _ (then-bind (require (is_live s.domain_pool s.domains (handle_in h)) no_domain) (ok h.slot) (λ d. ok (d, s)))
      (agrees-check no_domain (done h.slot (tables_of s)) (tables_of s) (ok (h.slot, s)) _ _ (domain-test h) (λ t. (refl, refl)))

  pub live-region-refines : (h : Handle) → Agrees (live_region h (tables_of s)) (model.live_region s (handle_in h) >>= λ i. ok (i, s))
  unfolding live_region model.live_region ◌>>=◌
  live-region-refines h =
      agrees-call _ _ _ (then-bind (require (is_live s.region_pool s.regions (handle_in h)) stale) (ok h.slot) (λ i. ok (i, s)))
      (agrees-check stale (done h.slot (tables_of s)) (tables_of s) (ok (h.slot, s)) _ _ (region-test h) (λ t. (refl, refl)))

  -- ---- what a slot holds

  module _ (d : ℕ) (x : state.Domain) (at : In s.domains d x) (lists : Lists s) where
    abbrev held : ℕ → Option Capa
    held l = at_slot x.locals.held l

    capa-is : (l : ℕ) → locals.capa_at s d l ≡ ok_or (held l) no_slot
    unfolding locals.capa_at
    capa-is l = ap (λ (y : state.Domain). ok_or (at_slot y.locals.held l) no_slot) (domain-at s d x at)

    module _ (l : ℕ) (f : Slot → Effect) (k : Capa → Outcome (ℕ × State)) (h : (c : Capa) → held l ≡ some c → Agrees (f (capa_slot c)) (k c)) where
      looked : (o : Option Capa) → held l ≡ o → Agrees (pick (eqb (capa_at (tables_of s) d l).kind 1) (refused no_slot (tables_of s)) (f (capa_at (tables_of s) d l))) (ok_or o no_slot >>= k)
      unfolding ok_or ◌>>=◌
      looked none e = rw (capa-none s base.domains.size d x at l e)
      looked (some c) e = rw (capa-read s base.domains.size d x at l c (lists d x at).held_length e) (used c (h c e))
        where
          used : (c : Capa) → Agrees (f (capa_slot c)) (k c) → Agrees (pick (eqb (capa_slot c).kind 1) (refused no_slot (tables_of s)) (f (capa_slot c))) (k c)
          used no_capa j = j
          used (region n) j = j
          used (region_revoke n) j = j
          used (management n) j = j
          used (channel n) j = j

      -- 4, and what follows for the capability in slot l
      pub capa-refines : Agrees (pick (eqb (capa_at (tables_of s) d l).kind 1) (refused no_slot (tables_of s)) (f (capa_at (tables_of s) d l))) (locals.capa_at s d l >>= k)
      capa-refines = agrees-call _ _ (ok_or (held l) no_slot >>= k) (ap (λ m. m >>= k) (capa-is l)) (looked (held l) refl)

    as-region : (c : Capa) → Agrees (as_region (capa_slot c) (tables_of s)) ((model.as_region c >>= λ h. model.live_region s h) >>= λ i. ok (i, s))
    unfolding as_region ◌>>=◌
    as-region no_capa = refl
    as-region (region h) = live-region-refines (handle_for h)
    as-region (region_revoke h) = refl
    as-region (management h) = refl
    as-region (channel h) = refl

    as-target : (c : Capa) → Agrees (as_target (capa_slot c) (tables_of s)) ((model.as_target c >>= λ h. model.live_domain s h) >>= λ i. ok (i, s))
    unfolding as_target ◌>>=◌
    as-target no_capa = refl
    as-target (region h) = refl
    as-target (region_revoke h) = refl
    as-target (management h) = live-domain-refines (handle_for h)
    as-target (channel h) = live-domain-refines (handle_for h)

    pub region-held-refines : (l : ℕ) → Agrees (region_held d l (tables_of s)) (model.region_held s d l >>= λ i. ok (i, s))
    unfolding region_held model.region_held
    region-held-refines l =
        agrees-call _ _ _ (bind_assoc (locals.capa_at s d l) _ _)
        (capa-refines l (λ c. as_region c (tables_of s)) _ (λ c e. as-region c))

    -- the model's send looks at the slot, its kind and the domain one by one
    pub target-held-refines : (l : ℕ) → Agrees (target_held d l (tables_of s)) ((locals.capa_at s d l >>= λ c. model.as_target c >>= λ h. model.live_domain s h) >>= λ i. ok (i, s))
    unfolding target_held
    target-held-refines l =
        agrees-call _ _ _ (bind_assoc (locals.capa_at s d l) _ _)
        (capa-refines l (λ c. as_target c (tables_of s)) _ (λ c e. as-target c))

    -- ---- room

    full-test : eqb (capacity_of (tables_of s).region_pool) 0 ≡ is_empty s.region_pool.free
    unfolding tables_of
    full-test = ap (λ (n : ℕ). eqb n 0) (capacity-is s.sizes.regions _ s.region_pool base.regions.pool) ∙ go s.region_pool.free
      where
        go : (f : List ℕ) → eqb (length f) 0 ≡ is_empty f
        go [] = refl
        go (i ∷ f) = ne_eqb (suc (length f)) 0 (λ e. omega arith)

    pub room-here : Agrees (reserve d (tables_of s)) (has_capacity d s >>= λ t. ok (0, t))
    room-here = reserve-refines s base.domains.size d x at (lists d x at) base.domains.pool base.regions.pool

    pub room-refines : (a : AccessRights) → Agrees (room_for_region d a (tables_of s)) (model.room_for_region d (access_for a) s >>= λ t. ok (0, t))
    unfolding room_for_region model.room_for_region
    room-refines a =
        agrees-call _ _ _ (then-bind (require _ no_region) _ _) (
        agrees-unless no_region _ (tables_of s) _ _ (is_empty s.region_pool.free) full-test (λ t.
        agrees-call _ _ _ (bind_assoc (has_capacity d s) _ _) (
        agrees-state (reserve d (tables_of s)) _ (has_capacity d s) _ room-here (λ u e.
        agrees-call _ _ _ (then-bind (require (ltb a.start a.end) bad_range) (ok u) _) (
        agrees-check bad_range (done 0 (tables_of u)) (tables_of u) _ _ _ refl (λ z. agrees-call _ _ _ (ok-then u _) (refl, refl)))))))
