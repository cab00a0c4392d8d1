-- Revoke: the region of a Region or a RegionRevoke goes, with all below it, unless it is a root; the domain of a Management is closed; the slot is emptied.
use Rattle.std.specs.Prelude.{◌≡◌, refl, ℕ, not, eqb}
use Rattle.std.proofs.Common.{ap, subst, ◌∙◌}
use mathlib.Core.List.{[]}
use Rattle.model.specs.Lists.{In}
use Rattle.model.specs.Outcome.{Outcome, ok, ◌>>=◌, require}
use Rattle.refusals.specs.Refusals.{is_root, holds_root, running}
use Rattle.model.specs.State as state
use Rattle.model.specs.State.{State, Capa, no_capa, region, region_revoke, management, channel}
use Rattle.model.specs.Pool.{is_live}
use Rattle.model.specs.Locals as locals
use Rattle.model.specs.Locals.{empty_capa}
use Rattle.model.specs.Tree.{is_root_kind}
use Rattle.model.specs.Regions as steps
use Rattle.model.specs.Regions.{live_count}
use Rattle.model.specs.Closing.{closes_root, closes_running}
use Rattle.model.specs.Calls as model
use Rattle.model.specs.Sound.{Sound}
use Rattle.base.specs.Tests.{true-is}
use Rattle.base.specs.Cases.{holds, fails, test, pick}
use Rattle.laws.specs.Accepted.{All, accepted, bind}
use Rattle.laws.specs.Tree.Facts.{not_root}
use Rattle.laws.specs.Tree.Slots.{is_live_lem}
use Rattle.laws.specs.Tree.Steps.{region-at, domain-at}
use Rattle.laws.specs.Capas.Checks.{capa-at}
use Rattle.laws.specs.Keep.Base.{Base, sound-base}
use Rattle.laws.specs.Keep.Whole.{Whole, live-slot}
use Rattle.laws.specs.Close.Call.{Emptiable, empties}
use Rattle.tables.specs.declared.Handle.{Handle}
use Rattle.tables.specs.declared.Slot.{Slot}
use Rattle.arena.specs.Arena.{live_b}
use Rattle.answers.specs.Answers.{Effect, done, and_then}
use Rattle.slots.specs.Capas.{with_empty}
use Rattle.revocation.specs.Revoke.{revoke}
use Rattle.closing.specs.Close.{close}
use Rattle.checks.specs.Checks.{live_region}
use Rattle.close_calls.specs.Calls.{close_unless_held, close_managed}
use Rattle.revoke_calls.specs.Calls.{revoke_unless_root, revoke_capa, revoke_local}
use Rattle.decoded.specs.Tables.{handle_for, capa_slot, tables_of}
use Rattle.refine.specs.Arenas.Pools.{handle_in}
use Rattle.refine.specs.Agrees.{Agrees, agrees-call, ok-then, bind_assoc, then-bind}
use Rattle.refine.specs.Slots.ListSteps.{empty-is}
use Rattle.refine.specs.Calls.Sequence.{agrees_on, agrees-unless}
use Rattle.refine.specs.Calls.Activate.{plain}
use Rattle.refine.specs.Calls.Checks.{region-test}
use Rattle.refine.specs.Calls.KeptLists.{sound-lists}
use Rattle.refine.specs.Calls.SharedSteps.{from-domain, root-test}
use Rattle.refine.specs.Calls.HeldSlot.{pair_then, sound-whole, from-region, both_of, looked}
use Rattle.refine.specs.Calls.ClosingSet.{none-same}
use Rattle.refine.specs.Calls.RevokeRegion.{revoke-region-refines}
use Rattle.refine.specs.Calls.CloseChecks.{closes-root-is, closes-running-is}
use Rattle.refine.specs.Calls.Close.{close-refines}

module _ (s : State) (sound : Sound s) where
  whole : Whole s
  whole = sound-whole s sound

  base : Base s
  base = sound-base s sound

  -- 9
  unless-root : (i : ℕ) (g : state.Region) → In s.regions i g → Agrees (revoke_unless_root i (tables_of s)) (plain (model.revoke_unless_root i s))
  unfolding revoke_unless_root model.revoke_unless_root
  unless-root i g e =
      agrees-call _ _ _ (then-bind (require (not (is_root_kind (state.region_at s i).kind)) is_root) (steps.revoke_region [] (live_count s) i s) _)
      (agrees-unless is_root (revoke 0 i (tables_of s)) (tables_of s) _ _ (is_root_kind (state.region_at s i).kind) (root-test s base i g e) (λ t.
      let (p, n) = not_root g.kind (rw (region-at s i g e) at t) in
      revoke-region-refines 0 [] none-same s whole i p g e n))

  -- 3, 22, 23
  close-managed-refines : (h : state.Handle) → Agrees (close_managed (handle_for h) (tables_of s)) (plain (model.close_managed h s))
  unfolding close_managed close_unless_held model.close_managed
  close-managed-refines h =
      agrees-call _ _ _ (bind_assoc (model.live_domain s h) _ _) (
      from-domain s base (handle_for h) _ _ (λ d x e.
      agrees-call _ _ _ (then-bind (require (not (closes_root s d)) holds_root) _ _) (
      agrees-unless holds_root _ (tables_of s) _ _ (closes_root s d) (closes-root-is s base d) (λ t.
      agrees-call _ _ _ (then-bind (require (not (closes_running s d)) running) _ _) (
      agrees-unless running (close d (tables_of s)) (tables_of s) _ _ (closes_running s d) (closes-running-is s base d) (λ z. close-refines s sound d x e t))))))

  -- by what the slot holds
  abbrev pub revoked : Slot → Effect
  revoked x =
      pick (eqb x.kind 4) (close_managed x.handle (tables_of s))
      (pick (eqb x.kind 2) (and_then (live_region x.handle (tables_of s)) revoke_unless_root)
      (pick (eqb x.kind 3) (pick (live_b (tables_of s).region_pool x.handle) (revoke_unless_root x.handle.slot (tables_of s)) (done 0 (tables_of s))) (done 0 (tables_of s))))

  pub revoke-capa-refines : (c : Capa) → Agrees (revoked (capa_slot c)) (plain (model.revoke_capa c s))
  unfolding model.revoke_capa ◌>>=◌
  revoke-capa-refines no_capa = (refl, refl)
  revoke-capa-refines (region h) = from-region s whole h _ _ (λ i g e. unless-root i g e)
  revoke-capa-refines (region_revoke h) =
      elim (test (is_live s.region_pool s.regions h)) [
        | holds t ↦ rw (region-test s base (handle_for h) ∙ t, t) (let (g, e) = live-slot s h (true-is t) in unless-root h.slot g e)
        | fails t ↦ rw (region-test s base (handle_for h) ∙ t, t) (refl, refl)
      ]
  revoke-capa-refines (management h) = close-managed-refines h
  revoke-capa-refines (channel h) = (refl, refl)

  -- the caller has its list, and the slot can be emptied
  module _ (d : ℕ) (x : state.Domain) (e : In s.domains d x) (l : ℕ) where
    abbrev both : Outcome (Capa × State)
    both = both_of s whole (sound-lists s sound) d (is_live_lem _ x e) l (λ c. model.revoke_capa c s)

    left : All (λ (y : Capa × State). Emptiable s d l y.0 y.1) both
    left = bind (capa-at s d l) (λ c i. bind (empties s sound d l x e c (subst (λ (y : state.Domain). In y.locals.held l c) (domain-at s d x e) i)) (λ t n. accepted n))

    emptied : (c : Capa) (t : State) → Emptiable s d l c t → with_empty (tables_of t) d l ≡ tables_of (empty_capa d l t)
    emptied c t n = empty-is t n.sound.outside.domains_length d n.domain n.is (sound-lists t n.sound d n.domain n.is) l c n.at

module _ (s : State) (sound : Sound s) (h : Handle) (l : ℕ) where
  pub revoke-refines : Agrees (revoke_local h l (tables_of s)) (model.revoke (handle_in h) l s >>= λ t. ok (0, t))
  unfolding revoke_local model.revoke revoke_capa
  revoke-refines =
      agrees-call _ _ _ (bind_assoc (model.live_domain s (handle_in h)) _ _) (
      from-domain s (sound-base s sound) h _ _ (λ d x e.
      let m : Capa → Outcome State = λ c. model.revoke_capa c s in
      agrees-call _ _ _ (ap plain (pair_then (locals.capa_at s d l) m (λ c t. ok (empty_capa d l t))) ∙ bind_assoc (both s sound d x e l) _ _) (
      agrees_on _ _ (both s sound d x e l) (λ v. (0, v.1)) _ (looked s (sound-whole s sound) (sound-lists s sound) d (is_live_lem _ x e) l m (revoked s sound) (revoke-capa-refines s sound))
      (left s sound d x e l) (λ (c, t) n.
      agrees-call _ _ _ (ok-then _ _) (refl, emptied s sound d x e l c t n)))))
