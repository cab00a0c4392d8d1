-- A domain's list as the record that is read out, changed and put back. `list_for` is that record for a list of the model; each step by value is the
-- model's step under it, and a list put back is the model's domain with that list. So a step on the tables is three equations: read, step, put.
use Rattle.std.specs.Prelude.{◌≡◌, ℕ, suc, ◌+◌, ◌-◌, ◌≤◌, ◌<◌, Bool, replicate, ltb, Err, Some, None}
use Rattle.std.proofs.Math.Path.{refl, sym, ap}
use Rattle.std.proofs.Common.{subst, ◌∙◌, arith, length-set, set-set, lt-ltb, le-ltb}
use Rattle.std.proofs.Math.Bool.{true, false, not}
use Rattle.std.proofs.Math.Option.{none, some}
use mathlib.Core.List.{List, [], ◌∷◌, ◌++◌}
use Rattle.std.proofs.Math.ListN.{length, get_or, set, take, get_or-append, get_or-eq_default}
use Rattle.std.proofs.Math.Seq.{take_at, get_or-take}
use Rattle.std.proofs.lemmas.List.{set-append_left}
use Rattle.base.specs.Cases.{lt, ge, cmp, pick}
use Rattle.base.specs.Tests.{both}
use Rattle.model.specs.Lists.{at_slot, is_empty, In, first_of, after_in}
use Rattle.model.specs.State as state
use Rattle.model.specs.State.{State, Capa, no_capa, region, region_revoke, management, channel, LocalList, put_domain, with_locals}
use Rattle.model.specs.Outcome.{ok, refuse}
use Rattle.refusals.specs.Refusals.{no_local}
use Rattle.model.specs.Layout.{slot_or0}
use Rattle.model.specs.Locals.{free_local, insert_capa, remove_capa, empty_capa}
use Rattle.model.specs.Sound.{OnceEach, slot_uses}
use Rattle.sizes.specs.Limits.{most_slots}
use Rattle.laws.specs.Capas.Slots.{next-free}
use Rattle.laws.specs.Words.SameDomains.{Listed}
use Rattle.laws.specs.Tree.Slots.{in-length}
use Rattle.laws.specs.Tree.Steps.{domain-at}
use Rattle.tables.specs.declared.Slot.{Slot}
use Rattle.tables.specs.Tables.{Domain, no_slot, with_domains}
use Rattle.slot_list.specs.declared.SlotList.{SlotList}
use Rattle.slot_list.specs.declared.Given.{Given}
use Rattle.slot_list.specs.Lists.{is_free_b, slot_in, put_in, empty_slot, gives_b, allocated, give_slot, freed, take_slot}
use Rattle.stored_slots.specs.Record.{padded, list_of, put_list, list_at, with_list}
use Rattle.slots.specs.Capas.{with_capa, without_capa, with_empty, capa_at}
use Rattle.domain.specs.Activate.{insert, inserted_answer}
use Rattle.decoded.specs.Rows.{map-up-length, get_or-up}
use Rattle.decoded.specs.Links.{after-top}
use Rattle.decoded.specs.Free.{free-fits}
use Rattle.decoded.specs.Tables.{capa_slot, free_slot, slot_for, slots_for, head_for, tables_of}
use Rattle.refine.specs.Agrees.{Agrees, agrees-call}
use Rattle.decoded.specs.Slots.Domains.{domain-row, domain-put}
use Rattle.refine.specs.Slots.Locals.{slots_filled, slots_kept, slots-freed, inserted, insert-refused, insert-is}

-- the record of a list of n slots
abbrev pub list_for : ℕ → LocalList → SlotList
list_for n l = record { slots = padded (slots_for n l); head = slot_or0 (first_of l.free); count = n - length l.free; size = n }

-- a capability's slot is in use
capa-used : (c : Capa) → is_free_b (capa_slot c) ≡ false
capa-used no_capa = refl
capa-used (region h) = refl
capa-used (region_revoke h) = refl
capa-used (management h) = refl
capa-used (channel h) = refl

-- ---- slots in the record's places

padded-set : (ss : List Slot) (i : ℕ) (x : Slot) → i < length ss → set (padded ss) i x ≡ padded (set ss i x)
padded-set ss i x h =
    set-append_left ss (replicate (most_slots - length ss) no_slot) i x h
    ∙ ap (λ (k : ℕ). set ss i x ++ replicate (most_slots - k) no_slot) (sym (length-set ss i x))

module _ (n : ℕ) (l : LocalList) where
  pub slots-long : length (slots_for n l) ≡ n
  slots-long = map-up-length (λ i. slot_for l.free i (at_slot l.held i)) n

  -- one slot read, and set
  pub slot-for : (i : ℕ) (d : Slot) → i < n → get_or (padded (slots_for n l)) i d ≡ slot_for l.free i (at_slot l.held i)
  slot-for i d h =
      get_or-append (slots_for n l) (replicate (most_slots - length (slots_for n l)) no_slot) d i (omega (arith, slots-long))
      ∙ get_or-up (λ j. slot_for l.free j (at_slot l.held j)) n i d h

  slot-in : (i : ℕ) → i < n → slot_in (list_for n l) i ≡ slot_for l.free i (at_slot l.held i)
  unfolding slot_in
  slot-in i h = get_or-take n (padded (slots_for n l)) i (free_slot 0) h ∙ slot-for i (free_slot 0) h

  slots-put : (i : ℕ) (x : Slot) (m : LocalList) → i < n → slots_for n m ≡ set (slots_for n l) i x → set (padded (slots_for n l)) i x ≡ padded (slots_for n m)
  slots-put i x m h e = padded-set (slots_for n l) i x (omega (arith, slots-long)) ∙ ap padded (sym e)

  -- ---- a slot in use

  module _ (long : length l.held ≡ n) (i : ℕ) (h : i < n) where
    pub freed-for : freed (list_for n l) i ≡ list_for n (free_local i l)
    freed-for =
        let ss = slots-put i (free_slot (slot_or0 (first_of l.free))) (free_local i l) h (slots-freed n l i h long) in
        let c : n - length l.free - 1 ≡ n - suc (length l.free) = omega arith in
        λ t. record { slots = ss t; head = i; count = c t; size = n }

    module _ (c : Capa) (e : at_slot l.held i ≡ some c) where
      used : is_free_b (slot_in (list_for n l) i) ≡ false
      used = ap is_free_b (slot-in i h ∙ ap (slot_for l.free i) e) ∙ capa-used c

      pub take-for : take_slot (list_for n l) i ≡ list_for n (free_local i l)
      unfolding take_slot
      take-for = ap (λ (b : Bool). pick b (list_for n l) (freed (list_for n l) i)) used ∙ freed-for

      pub empty-for : empty_slot (list_for n l) i ≡ list_for n (record { held = set l.held i (some no_capa); free = l.free })
      unfolding empty_slot
      empty-for =
          let ss = slots-put i no_slot (record { held = set l.held i (some no_capa); free = l.free }) h (slots_kept n l i h long no_capa) in
          ap (λ (b : Bool). pick b (list_for n l) (put_in (list_for n l) i no_slot)) used
          ∙ (λ t. record { slots = ss t; head = slot_or0 (first_of l.free); count = n - length l.free; size = n })

-- ---- the slot given next

module _ (n : ℕ) (l : LocalList) (listed : Listed n l) where
  pub room_for : ltb (list_for n l).count (list_for n l).size ≡ not (is_empty l.free)
  room_for = go l.free (free-fits n (slot_uses l.held) l.free listed.once)
    where
      go : (f : List ℕ) → length f ≤ n → ltb (n - length f) n ≡ not (is_empty f)
      go [] h = le-ltb (n - 0) n (omega arith)
      go (i ∷ f) h = lt-ltb (n - suc (length f)) n (omega arith)

  pub give-none : l.free ≡ [] → give_slot (list_for n l) ≡ record { at = None; list = list_for n l }
  unfolding give_slot gives_b
  give-none e = rw (room_for ∙ ap (λ (f : List ℕ). not (is_empty f)) e, no_room _ _)
    where
      no_room : (a b : Bool) → both (both a false) b ≡ false
      no_room true b = refl
      no_room false b = refl

  module _ (i : ℕ) (is : List ℕ) (e : l.free ≡ i ∷ is) where
    once-first : OnceEach n (slot_uses l.held) (i ∷ is)
    once-first = subst (OnceEach n (slot_uses l.held)) e listed.once

    first_below : i < n
    first_below = (next-free n l.held i is once-first).1

    first-top : slot_or0 (first_of l.free) ≡ i
    first-top = ap (λ (f : List ℕ). slot_or0 (first_of f)) e

    first-free : slot_in (list_for n l) (slot_or0 (first_of l.free)) ≡ free_slot (slot_or0 (first_of is))
    first-free =
        ap (slot_in (list_for n l)) first-top
        ∙ slot-in n l i first_below
        ∙ ap (slot_for l.free i) (next-free n l.held i is once-first).0
        ∙ ap (λ (f : List ℕ). free_slot (slot_or0 (after_in f i))) e
        ∙ ap (λ k. free_slot (slot_or0 k)) (after-top i is)

    gives : gives_b (list_for n l) ≡ true
    unfolding gives_b
    gives = rw (lt-ltb (slot_or0 (first_of l.free)) n (omega (arith, first-top, first_below)), room_for ∙ ap (λ (f : List ℕ). not (is_empty f)) e, first-free)

    give-some : give_slot (list_for n l) ≡ record { at = Some (slot_or0 (first_of l.free)); list = allocated (list_for n l) }
    unfolding give_slot
    give-some = ap (λ (b : Bool). pick b (record { at = Some (slot_or0 (first_of l.free)); list = allocated (list_for n l) }) (record { at = None; list = list_for n l })) gives

    pub give-first : (give_slot (list_for n l)).at ≡ Some i
    give-first = ap (λ (g : Given). g.at) give-some ∙ ap Some first-top

    -- given and filled
    pub give-filled : (c : Capa) → put_in (give_slot (list_for n l)).list i (capa_slot c) ≡ list_for n (record { held = set l.held i (some c); free = is })
    give-filled c =
        let m : LocalList = record { held = set l.held i (some c); free = is } in
        let ss : set (set (padded (slots_for n l)) (slot_or0 (first_of l.free)) no_slot) i (capa_slot c) ≡ padded (slots_for n m) =
        ap (λ (k : ℕ). set (set (padded (slots_for n l)) k no_slot) i (capa_slot c)) first-top
        ∙ set-set (padded (slots_for n l)) i no_slot (capa_slot c)
        ∙ slots-put n l i (capa_slot c) m first_below (slots_filled n l i first_below listed.held_length c is e) in
        let k : n - length l.free + 1 ≡ n - length is = omega (arith, ap length e, free-fits n (slot_uses l.held) l.free listed.once) in
        ap (λ (g : Given). put_in g.list i (capa_slot c)) give-some
        ∙ (λ t. record { slots = ss t; head = (first-free t).handle.slot; count = k t; size = n })

-- ---- the tables

module _ (s : State) (long : length s.domains ≡ s.sizes.domains) (d : ℕ) (x : state.Domain) (at : In s.domains d x) where
  -- what local slot l holds, where it is in use; else a free slot
  pub capa-read : (l : ℕ) (c : Capa) → length x.locals.held ≡ s.sizes.slots → at_slot x.locals.held l ≡ some c → capa_at (tables_of s) d l ≡ capa_slot c
  unfolding capa_at
  capa-read l c m e =
      let n = s.sizes.slots in
      ap (λ (y : Domain). get_or y.slots l (free_slot 0)) (domain-row s long d x at)
      ∙ get_or-up (λ j. slot_for x.locals.free j (at_slot x.locals.held j)) n l (free_slot 0) (omega (arith, in-length x.locals.held l c e))
      ∙ ap (slot_for x.locals.free l) e

  pub capa-none : (l : ℕ) → at_slot x.locals.held l ≡ none → (capa_at (tables_of s) d l).kind ≡ 1
  unfolding capa_at
  capa-none l e =
      let n = s.sizes.slots in
      let ss = slots_for n x.locals in
      ap (λ (y : Domain). (get_or y.slots l (free_slot 0)).kind) (domain-row s long d x at)
      ∙ elim (cmp l n) [
        | lt h ↦ ap (λ (y : Slot). y.kind) (get_or-up (λ j. slot_for x.locals.free j (at_slot x.locals.held j)) n l (free_slot 0) h ∙ ap (slot_for x.locals.free l) e)
        | ge h ↦ ap (λ (y : Slot). y.kind) (get_or-eq_default ss (free_slot 0) {n = l} (omega (arith, slots-long n x.locals)))
      ]

  -- the list read out, and another put back
  pub list-for : list_at (tables_of s) d ≡ list_for s.sizes.slots x.locals
  unfolding list_at list_of
  list-for =
      let n = s.sizes.slots in
      let z = slots-long n x.locals in
      ap list_of (domain-row s long d x at)
      ∙ (λ t. record { slots = padded (slots_for n x.locals); head = slot_or0 (first_of x.locals.free); count = n - length x.locals.free; size = z t })

  pub list_put : (l : LocalList) → with_list (tables_of s) d (list_for s.sizes.slots l) ≡ tables_of (put_domain d (with_locals l x) s)
  unfolding with_list put_list
  list_put l =
      let n = s.sizes.slots in
      let e : take (length (slots_for n x.locals)) (padded (slots_for n l)) ≡ slots_for n l = take_at (slots_for n l) _ (length (slots_for n x.locals)) (slots-long n l ∙ sym (slots-long n x.locals)) in
      ap (λ (y : Domain). with_domains (tables_of s) (set (tables_of s).domains d (put_list y (list_for n l)))) (domain-row s long d x at)
      ∙ ap (λ (ss : List Slot). with_domains (tables_of s) (set (tables_of s).domains d (record { head = head_for n (with_locals l x); slots = ss }))) e
      ∙ sym (domain-put s long d x at (with_locals l x) refl refl)

  -- a step of the list, put back
  pub list-step : (f : SlotList → SlotList) (l : LocalList) → f (list_for s.sizes.slots x.locals) ≡ list_for s.sizes.slots l
      → with_list (tables_of s) d (f (list_at (tables_of s) d)) ≡ tables_of (put_domain d (with_locals l x) s)
  list-step f l e = ap (λ m. with_list (tables_of s) d (f m)) list-for ∙ ap (with_list (tables_of s) d) e ∙ list_put l

  module _ (listed : Listed s.sizes.slots x.locals) where
    -- ---- a capability goes in

    insert-full : (c : Capa) → x.locals.free ≡ [] → (insert d (capa_slot c) (tables_of s)).answer ≡ Err no_local
    unfolding insert
    insert-full c e = ap (λ m. inserted_answer (give_slot m).at) list-for ∙ ap (λ (g : Given). inserted_answer g.at) (give-none s.sizes.slots x.locals listed e)

    module _ (c : Capa) (i : ℕ) (is : List ℕ) (e : x.locals.free ≡ i ∷ is) where
      given-at : (give_slot (list_at (tables_of s) d)).at ≡ Some i
      given-at = ap (λ m. (give_slot m).at) list-for ∙ give-first s.sizes.slots x.locals listed i is e

      insert-first : Agrees (insert d (capa_slot c) (tables_of s)) (ok (i, inserted s d x c i is))
      unfolding insert with_capa
      insert-first =
          (ap inserted_answer given-at, rw given-at (list-step (λ m. put_in (give_slot m).list i (capa_slot c)) (record { held = set x.locals.held i (some c); free = is }) (give-filled s.sizes.slots x.locals listed i is e c)))

    pub insert-refines : (c : Capa) → Agrees (insert d (capa_slot c) (tables_of s)) (insert_capa d c s)
    insert-refines c = go x.locals.free refl
      where
        go : (f : List ℕ) → x.locals.free ≡ f → Agrees (insert d (capa_slot c) (tables_of s)) (insert_capa d c s)
        go [] e = agrees-call _ (insert_capa d c s) (refuse no_local) (insert-refused s long d x at listed c e) (insert-full c e)
        go (i ∷ is) e = agrees-call _ (insert_capa d c s) (ok (i, inserted s d x c i is)) (insert-is s long d x at listed c i is e) (insert-first c i is e)

    -- ---- a slot in use is freed, or emptied

    module _ (i : ℕ) (c : Capa) (e : at_slot x.locals.held i ≡ some c) where
      inside : i < s.sizes.slots
      inside = omega (arith, in-length x.locals.held i c e, listed.held_length)

      pub remove-is : without_capa (tables_of s) d i ≡ tables_of (remove_capa d i s)
      unfolding without_capa remove_capa
      remove-is =
          list-step (λ m. take_slot m i) (free_local i x.locals) (take-for s.sizes.slots x.locals listed.held_length i inside c e)
          ∙ ap (λ y. tables_of (put_domain d (with_locals (free_local i y.locals) y) s)) (sym (domain-at s d x at))

      pub empty-is : with_empty (tables_of s) d i ≡ tables_of (empty_capa d i s)
      unfolding with_empty empty_capa
      empty-is =
          list-step (λ m. empty_slot m i) (record { held = set x.locals.held i (some no_capa); free = x.locals.free }) (empty-for s.sizes.slots x.locals listed.held_length i inside c e)
          ∙ ap (λ y. tables_of (put_domain d (with_locals (record { held = set y.locals.held i (some no_capa); free = y.locals.free }) y) s)) (sym (domain-at s d x at))
