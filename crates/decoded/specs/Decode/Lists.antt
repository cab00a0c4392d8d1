-- A domain's capability list read from its words: the kind of a slot tells what it holds, and a free slot has the slot after it on the free stack.
use Rattle.std.specs.Prelude.{◌≡◌, refl, ℕ, ◌-◌, ◌<◌, List, map, eqb, length}
use Rattle.std.proofs.Common.{sym, ap, ◌∙◌, arith}
use Rattle.std.proofs.Math.Option.{Option, none, some}
use Rattle.base.specs.Lists.{get_d_any}
use Rattle.model.specs.Lists.{count_if, at_slot, count_up, first_of, after_in}
use Rattle.model.specs.State as state
use Rattle.model.specs.State.{Capa, no_capa, region, region_revoke, management, channel, LocalList}
use Rattle.model.specs.Layout.{slot_or0}
use Rattle.model.specs.Sound.{slot_uses}
use Rattle.laws.specs.Stack.{once-at-most}
use Rattle.laws.specs.Words.SameDomains.{Listed}
use Rattle.laws.specs.Lists.{not-used}
use Rattle.tables.specs.declared.Slot.{Slot}
use Rattle.tables.specs.Tables.{no_slot}
use Rattle.decoded.specs.Rows.{get_or-up}
use Rattle.decoded.specs.Free.{free-fits, free-below}
use Rattle.decoded.specs.Tables.{slot_for, slots_for, domain_for}
use Rattle.decoded.specs.Decode.Read.{stack_from, held_in, after_slot, list_from}
use Rattle.decoded.specs.Decode.Walks.{Stacked, stack-walked, stacked-after, map-up, map-map}

held-read : (free : List ℕ) (i : ℕ) (o : Option Capa) → held_in (slot_for free i o) ≡ o
held-read free i none = refl
held-read free i (some no_capa) = refl
held-read free i (some (region h)) = refl
held-read free i (some (region_revoke h)) = refl
held-read free i (some (management h)) = refl
held-read free i (some (channel h)) = refl

module _ (n : ℕ) (l : LocalList) (h : Listed n l) where
  all_held : map held_in (slots_for n l) ≡ l.held
  all_held =
      map-map held_in (λ i. slot_for l.free i (at_slot l.held i)) (count_up 0 n)
      ∙ ap (λ k. map (λ i. held_in (slot_for l.free i (at_slot l.held i))) (count_up 0 k)) (sym h.held_length)
      ∙ map-up (λ i. held_in (slot_for l.free i (at_slot l.held i))) l.held (λ i b d. held-read l.free i (at_slot l.held i) ∙ get_d_any l.held i none d b)

  next : (i : ℕ) → 0 < count_if (eqb i) l.free → after_slot (slots_for n l) i ≡ slot_or0 (after_in l.free i)
  next i o =
      let b = free-below n (slot_uses l.held) l.free h.once i o in
      let e = not-used (at_slot l.held i) (omega (arith, once-at-most n (slot_uses l.held) l.free h.once i)) in
      ap (λ (x : Slot). x.handle.slot) (get_or-up (λ j. slot_for l.free j (at_slot l.held j)) n i no_slot b ∙ ap (slot_for l.free i) e)

  -- the slots spell out the free stack
  pub list-stacked : Stacked (after_slot (slots_for n l)) l.free
  list-stacked = stacked-after (after_slot (slots_for n l)) l.free (λ i. omega (arith, once-at-most n (slot_uses l.held) l.free h.once i)) next

  pub list_steps : n - (n - length l.free) ≡ length l.free
  list_steps = omega (arith, free-fits n (slot_uses l.held) l.free h.once)

  free-read : stack_from (after_slot (slots_for n l)) (n - (n - length l.free)) (slot_or0 (first_of l.free)) ≡ l.free
  free-read =
      ap (λ k. stack_from (after_slot (slots_for n l)) k (slot_or0 (first_of l.free))) list_steps
      ∙ stack-walked (after_slot (slots_for n l)) l.free list-stacked

pub list_read : (n : ℕ) (x : state.Domain) → Listed n x.locals → list_from n (domain_for n (some x)) ≡ x.locals
list_read n x h = λ i. record { held = all_held n x.locals h i; free = free-read n x.locals h i }
