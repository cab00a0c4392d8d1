-- A change of one slot of a domain's list changes that slot's words: a capability goes in, is emptied, or its slot is freed.
use Rattle.std.specs.Prelude.{◌≡◌, refl, ◌≢◌, ℕ, ◌<◌, List, [], ◌∷◌, length, set}
use Rattle.std.proofs.Common.{sym, ap, ◌∙◌, arith, get_or-set_same, get_or-set_other}
use Rattle.std.proofs.Math.Option.{Option, none, some, get_or}
use Rattle.model.specs.Lists.{at_slot, In, first_of, after_in}
use Rattle.model.specs.State as state
use Rattle.model.specs.State.{State, Capa, LocalList, none_domain, domain_at, put_domain, with_locals}
use Rattle.model.specs.Outcome.{ok, refuse, ◌>>=◌}
use Rattle.refusals.specs.Refusals.{no_local}
use Rattle.model.specs.Locals.{free_local, insert_local, insert_capa}
use Rattle.laws.specs.Words.SameDomains.{Listed}
use Rattle.model.specs.Layout.{slot_or0}
use Rattle.decoded.specs.Rows.{set-up}
use Rattle.decoded.specs.Links.{after-top, after-under}
use Rattle.decoded.specs.Tables.{capa_slot, free_slot, slot_for, slots_for}

-- what a slot holds matters to it alone; the stack matters to a slot by the slot after it
slot_same : (f g : List ℕ) (j : ℕ) (o : Option Capa) → after_in f j ≡ after_in g j → slot_for f j o ≡ slot_for g j o
slot_same f g j none e = ap (λ k. free_slot (slot_or0 k)) e
slot_same f g j (some c) e = refl

-- n slots; slot i holds o from now on, and the stack is f
module _ (n : ℕ) (l : LocalList) (i : ℕ) (h : i < n) (long : length l.held ≡ n) where
  slots_set : (o : Option Capa) (f : List ℕ) → ((j : ℕ) → j ≢ i → after_in f j ≡ after_in l.free j)
      → slots_for n (record { held = set l.held i o; free = f }) ≡ set (slots_for n l) i (slot_for f i o)
  slots_set o f e =
      sym (set-up (λ j. slot_for l.free j (at_slot l.held j)) (λ j. slot_for f j (at_slot (set l.held i o) j)) n i (slot_for f i o) h
      (ap (slot_for f i) (get_or-set_same l.held i o none (omega arith)))
      (λ j ne k. ap (slot_for f j) (get_or-set_other l.held i j o none ne) ∙ slot_same f l.free j (at_slot l.held j) (e j ne)))

  pub slots_filled : (c : Capa) (is : List ℕ) → l.free ≡ i ∷ is → slots_for n (record { held = set l.held i (some c); free = is }) ≡ set (slots_for n l) i (capa_slot c)
  slots_filled c is e = slots_set (some c) is (λ j ne. sym (ap (λ f. after_in f j) e ∙ after-under i j is ne))

  pub slots_kept : (c : Capa) → slots_for n (record { held = set l.held i (some c); free = l.free }) ≡ set (slots_for n l) i (capa_slot c)
  slots_kept c = slots_set (some c) l.free (λ j ne. refl)

  pub slots-freed : slots_for n (free_local i l) ≡ set (slots_for n l) i (free_slot (slot_or0 (first_of l.free)))
  slots-freed = slots_set none (i ∷ l.free) (λ j ne. after-under i j l.free ne) ∙ ap (λ k. set (slots_for n l) i (free_slot (slot_or0 k))) (after-top i l.free)

-- ---- the model's changes of a list

-- capability c in slot i of domain x's list, with the stack is
abbrev pub inserted : State → ℕ → state.Domain → Capa → ℕ → List ℕ → State
inserted s d x c i is = put_domain d (with_locals (record { held = set x.locals.held i (some c); free = is }) x) s

module _ (s : State) (long : length s.domains ≡ s.sizes.domains) (d : ℕ) (x : state.Domain) (at : In s.domains d x) (listed : Listed s.sizes.slots x.locals) where
  here : domain_at s d ≡ x
  here = ap (λ o. get_or o none_domain) at

  pub insert-refused : (c : Capa) → x.locals.free ≡ [] → insert_capa d c s ≡ refuse no_local
  unfolding insert_capa insert_local ◌>>=◌
  insert-refused c e = rw (here, e)

  -- slot i is the first of the stack
  module _ (c : Capa) (i : ℕ) (is : List ℕ) (e : x.locals.free ≡ i ∷ is) where
    pub insert-is : insert_capa d c s ≡ ok (i, inserted s d x c i is)
    unfolding insert_capa insert_local ◌>>=◌
    insert-is = rw (here, e)
