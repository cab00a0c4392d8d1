-- Room in a domain's list, which is swept where it is full. The sweep by value goes over all places of the record, rising, and frees in place; the
-- model frees the invalid slots that it finds first. From slot i on both come to the same, since freeing slot i changes nothing behind it.
use Rattle.std.specs.Prelude.{◌≡◌, ℕ, zero, suc, ◌+◌, ◌-◌, ◌≤◌, ◌<◌, Bool, List, [], ◌∷◌, ltb, set, drop, replicate, if◌then◌else◌}
use Rattle.std.proofs.Math.Path.{refl, ap}
use Rattle.std.proofs.Common.{sym, ◌∙◌, arith, length-set, drop_of_length-le, drop-cons, drop-set-lt, get_or-set_same, lt-ltb, le-ltb}
use Rattle.std.proofs.Math.Bool.{true, false, not}
use Rattle.std.proofs.Math.Option.{Option, none, some}
use Rattle.std.proofs.Math.ListN.{length, length-append}
use Rattle.std.proofs.lemmas.List.{set-get_or}
use Rattle.base.specs.Cases.{lt, ge, cmp, holds, fails, test}
use Rattle.model.specs.Lists.{is_empty, at_slot, In}
use Rattle.model.specs.State as state
use Rattle.model.specs.State.{State, Capa, no_capa, region, region_revoke, management, channel, LocalList, put_domain, with_locals}
use Rattle.model.specs.Outcome.{Outcome, ok, ◌>>=◌, ◌>>◌, require}
use Rattle.refusals.specs.Refusals.{no_local}
use Rattle.model.specs.Locals.{free_local, free_locals, is_invalid, invalid_slots, free_invalid_capas, has_capacity}
use Rattle.model.specs.Sound.{PoolSound, slot_uses}
use Rattle.sizes.specs.Limits.{most_slots}
use Rattle.laws.specs.Capas.Slots.{once-give}
use Rattle.laws.specs.Words.SameDomains.{Listed}
use Rattle.laws.specs.Tree.Slots.{in-length}
use Rattle.laws.specs.Tree.Steps.{domain-at}
use Rattle.tables.specs.declared.Slot.{Slot}
use Rattle.tables.specs.Tables.{Tables, no_slot}
use Rattle.slot_list.specs.declared.SlotList.{SlotList}
use Rattle.slot_sweep.specs.Sweep.{sweep_slot, sweep_from, sweep, is_invalid_b, swept}
use Rattle.stored_slots.specs.Record.{padded}
use Rattle.slots.specs.Capas.{room_b, with_capacity}
use Rattle.domain.specs.Activate.{or_refused, reserve}
use Rattle.decoded.specs.Tables.{capa_slot, free_slot, slot_for, slots_for, tables_of}
use Rattle.refine.specs.Agrees.{Agrees, agrees-call}
use Rattle.refine.specs.Arenas.Pools.{live-is}
use Rattle.refine.specs.Slots.ListSteps.{list_for, slot-for, slots-long, freed-for, room_for, list-for, list-step}

-- ---- the sweep by value

pub freed-listed : (n : ℕ) (l : LocalList) (i : ℕ) (c : Capa) → at_slot l.held i ≡ some c → Listed n l → Listed n (free_local i l)
freed-listed n l i c e h =
    record { held_length = length-set l.held i none ∙ h.held_length; once = once-give n l.held h.held_length i l.free c e h.once }

-- a test of slots that says of each capability what the model does, and finds no free slot bad
module _ (s : State) (bad : Slot → Bool) (kept : (k : ℕ) → bad (free_slot k) ≡ false) (same : (c : Capa) → bad (capa_slot c) ≡ is_invalid s c) (n : ℕ) where
  -- m places from i on
  unfoldable SweepOk : ℕ → ℕ → Type 0
  SweepOk m i =
      (l : LocalList) → Listed n l → n ≤ m + i
      → (sweep_from bad m i (list_for n l) ≡ list_for n (free_locals (invalid_slots s i (drop i l.held)) l)) × Listed n (free_locals (invalid_slots s i (drop i l.held)) l)

  -- nothing is left behind the last slot
  none_left : (l : LocalList) (i : ℕ) → Listed n l → n ≤ i → drop i l.held ≡ []
  none_left l i h q = drop_of_length-le l.held {i = i} (omega (arith, h.held_length))

  sweep-none : (i : ℕ) → SweepOk zero i
  unfolding SweepOk sweep_from
  sweep-none i l h q = rw (none_left l i h (omega arith)) (refl, h)

  module _ (m i : ℕ) (ih : SweepOk m (suc i)) (l : LocalList) (h : Listed n l) (q : n ≤ suc m + i) where
    slot_kept : i < n → bad (slot_for l.free i (at_slot l.held i)) ≡ false → sweep_slot bad (list_for n l) i ≡ list_for n l
    unfolding sweep_slot
    slot_kept b e = rw (lt-ltb i n b, slot-for n l i no_slot b, e)

    slot-past : n ≤ i → sweep_slot bad (list_for n l) i ≡ list_for n l
    unfolding sweep_slot
    slot-past b = rw (le-ltb i n b)

    slot-hit : i < n → bad (slot_for l.free i (at_slot l.held i)) ≡ true → sweep_slot bad (list_for n l) i ≡ list_for n (free_local i l)
    unfolding sweep_slot
    slot-hit b e = rw (lt-ltb i n b, slot-for n l i no_slot b, e) (freed-for n l h.held_length i b)

    -- what follows, whatever slot i does
    abbrev Rest : LocalList → List ℕ → Type 0
    Rest o is = (sweep_from bad m (suc i) (list_for n o) ≡ list_for n (free_locals is o)) × Listed n (free_locals is o)

    go-kept : Rest l (invalid_slots s (suc i) (drop (suc i) l.held))
    unfolding SweepOk
    go-kept = ih l h (omega arith)

    go-hit : (c : Capa) → at_slot l.held i ≡ some c → Rest (free_local i l) (invalid_slots s (suc i) (drop (suc i) l.held))
    unfolding SweepOk
    go-hit c e = rw (drop-set-lt (suc i) l.held i none (omega arith)) at (ih (free_local i l) (freed-listed n l i c e h) (omega arith))

    abbrev Here : List (Option Capa) → Type 0
    Here o = (sweep_from bad m (suc i) (sweep_slot bad (list_for n l) i) ≡ list_for n (free_locals (invalid_slots s i o) l)) × Listed n (free_locals (invalid_slots s i o) l)

    -- slot i holds o
    sweep-one : i < n → (o : Option Capa) → at_slot l.held i ≡ o → Here (o ∷ drop (suc i) l.held)
    sweep-one b none e = rw (slot_kept b (ap (λ o. bad (slot_for l.free i o)) e ∙ kept _)) go-kept
    sweep-one b (some c) e =
        let f : bad (slot_for l.free i (at_slot l.held i)) ≡ is_invalid s c = ap (λ o. bad (slot_for l.free i o)) e ∙ same c in
        elim (test (is_invalid s c)) [
          | holds t ↦ rw (slot-hit b (f ∙ t), t) (go-hit c e)
          | fails t ↦ rw (slot_kept b (f ∙ t), t) go-kept
        ]

    sweep-here : Here (drop i l.held)
    sweep-here =
        elim (cmp i n) [
          | lt b ↦ rw (drop-cons l.held i none (omega (arith, h.held_length))) (sweep-one b (at_slot l.held i) refl)
          | ge b ↦ rw (slot-past b, none_left l i h b) (rw (none_left l (suc i) h (omega arith)) at go-kept)
        ]

  sweep-more : (m i : ℕ) → SweepOk m (suc i) → SweepOk (suc m) i
  unfolding SweepOk sweep_from
  sweep-more m i ih l h q = sweep-here m i ih l h q

  sweep-all : (m i : ℕ) → SweepOk m i
  sweep-all zero i = sweep-none i
  sweep-all (suc m) i = sweep-more m i (sweep-all m (suc i))

  pub sweep-for : (l : LocalList) → Listed n l → (sweep bad (list_for n l) ≡ list_for n (free_invalid_capas s l)) × Listed n (free_invalid_capas s l)
  unfolding SweepOk sweep free_invalid_capas
  sweep-for l h =
      let ss = slots_for n l in
      sweep-all (length (padded ss)) 0 l h (omega (arith, length-append ss (replicate (most_slots - length ss) no_slot), slots-long n l))

-- ---- the tables

module _ (s : State) (domains : PoolSound s.sizes.domains (slot_uses s.domains) s.domain_pool) (regions : PoolSound s.sizes.regions (slot_uses s.regions) s.region_pool) where
  -- "None or a dead handle"
  pub invalid-is : (c : Capa) → is_invalid_b (tables_of s) (capa_slot c) ≡ is_invalid s c
  unfolding is_invalid_b tables_of
  invalid-is no_capa = refl
  invalid-is (region h) = ap not (live-is s.sizes.regions s.regions s.region_pool regions _)
  invalid-is (region_revoke h) = ap not (live-is s.sizes.regions s.regions s.region_pool regions _)
  invalid-is (management h) = ap not (live-is s.sizes.domains s.domains s.domain_pool domains _)
  invalid-is (channel h) = ap not (live-is s.sizes.domains s.domains s.domain_pool domains _)

  invalid-kept : (k : ℕ) → is_invalid_b (tables_of s) (free_slot k) ≡ false
  unfolding is_invalid_b
  invalid-kept k = refl

  pub swept-for : (l : LocalList) → Listed s.sizes.slots l
      → (swept (tables_of s) (list_for s.sizes.slots l) ≡ list_for s.sizes.slots (free_invalid_capas s l)) × Listed s.sizes.slots (free_invalid_capas s l)
  swept-for l h = sweep-for s (is_invalid_b (tables_of s)) invalid-kept invalid-is s.sizes.slots l h

pub room-is : (s : State) (d : ℕ) (x : state.Domain) → length s.domains ≡ s.sizes.domains → In s.domains d x → Listed s.sizes.slots x.locals
    → room_b (tables_of s) d ≡ not (is_empty x.locals.free)
unfolding room_b
room-is s d x long at listed = ap (λ (l : SlotList). ltb l.count l.size) (list-for s long d x at) ∙ room_for s.sizes.slots x.locals listed

module _ (s : State) (long : length s.domains ≡ s.sizes.domains) (d : ℕ) (x : state.Domain) (at : In s.domains d x) (listed : Listed s.sizes.slots x.locals) where
  -- the state with list l in domain d
  abbrev relisted : LocalList → State
  relisted l = put_domain d (with_locals l x) s

  pub room_after : (l : LocalList) → Listed s.sizes.slots l → room_b (tables_of (relisted l)) d ≡ not (is_empty l.free)
  room_after l h =
      room-is (relisted l) d (with_locals l x) (length-set s.domains d (some (with_locals l x)) ∙ long) (get_or-set_same s.domains d (some (with_locals l x)) none (in-length s.domains d x at)) h

  -- the list as it is, put back
  same-put : relisted x.locals ≡ s
  same-put =
      let e : set s.domains d (some x) ≡ s.domains = ap (set s.domains d) (sym at) ∙ set-get_or s.domains d none in
      λ i. state.with_domains s.domain_pool (e i) s

  -- the model's list with room, if it can be had
  abbrev roomy : LocalList
  roomy = if is_empty x.locals.free then free_invalid_capas s x.locals else x.locals

  abbrev capacity : Outcome (ℕ × State)
  capacity = (require (not (is_empty roomy.free)) no_local >> ok (relisted roomy)) >>= (λ t. ok (0, t))

  capacity-is : (has_capacity d s >>= λ t. ok (0, t)) ≡ capacity
  unfolding has_capacity
  capacity-is = rw (domain-at s d x at)

  module _ (domains : PoolSound s.sizes.domains (slot_uses s.domains) s.domain_pool) (regions : PoolSound s.sizes.regions (slot_uses s.regions) s.region_pool) where
    -- the tables that are left, and the list in them
    left_is : (with_capacity (tables_of s) d ≡ tables_of (relisted roomy)) × Listed s.sizes.slots roomy
    unfolding with_capacity
    left_is =
        let r = room-is s d x long at listed in
        let w = swept-for s domains regions x.locals listed in
        elim (test (is_empty x.locals.free)) [
          | holds t ↦ rw (r ∙ ap not t, t) (list-step s long d x at (swept (tables_of s)) (free_invalid_capas s x.locals) w.0, w.1)
          | fails t ↦ rw (r ∙ ap not t, t) (ap tables_of (sym same-put), listed)
        ]

    answer-for : (b : Bool) → room_b (with_capacity (tables_of s) d) d ≡ b → Agrees (reserve d (tables_of s)) ((require b no_local >> ok (relisted roomy)) >>= (λ t. ok (0, t)))
    unfolding reserve require ◌>>◌ ◌>>=◌
    answer-for true e = (ap (or_refused no_local) e, left_is.0)
    answer-for false e = ap (or_refused no_local) e

    pub reserve-refines : Agrees (reserve d (tables_of s)) (has_capacity d s >>= λ t. ok (0, t))
    reserve-refines =
        agrees-call (reserve d (tables_of s)) _ capacity capacity-is
        (answer-for (not (is_empty roomy.free)) (ap (λ (t : Tables). room_b t d) left_is.0 ∙ room_after roomy left_is.1))
