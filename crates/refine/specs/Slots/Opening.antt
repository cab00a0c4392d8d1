-- A domain is opened: the slot that the pool gives has no record yet, so that its words are all zero, and the new record with its fresh list is put there.
-- In a fresh list slot i is free with i + 1 behind it, and the last has 0: the links of the stack 0, 1, 2, ..
use Rattle.std.specs.Prelude.{◌≡◌, List, [], ◌∷◌, map, ltb, get_or, set, replicate, Some, None, Err}
use Rattle.std.proofs.Math.Path.{refl, sym, ap}
use Rattle.std.proofs.Common.{◌∙◌, arith, add-one, set-set, get_or-set_same, lt-ltb, le-ltb}
use Prim.Native.Nat.{ℕ, zero, suc, ◌+◌, ◌-◌, ◌≤◌, ◌<◌}
use Rattle.std.proofs.Math.Option.{Option, none, some}
use Rattle.std.proofs.Math.ListN.{length, take}
use Rattle.std.proofs.lemmas.List.{get_or-replicate}
use Rattle.base.specs.Cases.{lt, ge, cmp, pick}
use Rattle.model.specs.Lists.{at_slot, count_up, after_in}
use Rattle.model.specs.State as state
use Rattle.model.specs.State.{State}
use Rattle.model.specs.Outcome.{ok, refuse, ◌>>=◌}
use Rattle.refusals.specs.Refusals.{no_domain_room}
use Rattle.model.specs.Pool.{allocate, handle_of}
use Rattle.model.specs.Layout.{link, slot_or0}
use Rattle.model.specs.Locals.{fresh_locals}
use Rattle.model.specs.Calls as calls
use Rattle.model.specs.Sound.{PoolSound, slot_uses}
use Rattle.sizes.specs.Limits.{most_slots}
use Rattle.laws.specs.Parts.{up-length}
use Rattle.tables.specs.declared.Slot.{Slot}
use Rattle.tables.specs.declared.DomainHead.{DomainHead}
use Rattle.tables.specs.Tables.{Tables, Domain, no_domain, no_slot, put_head, with_head, with_interface, with_domains, with_domain_pool}
use Rattle.arena.specs.Arena.{given}
use Rattle.slot_list.specs.declared.SlotList.{SlotList}
use Rattle.stored_slots.specs.Record.{put_list, with_list}
use Rattle.new_domain.specs.Opened.{fresh_from, fresh_list, new_head, open_interface, taken, new_domain}
use Rattle.decoded.specs.Rows.{map-up-length, get_or-up}
use Rattle.decoded.specs.Links.{after-top, after-under}
use Rattle.decoded.specs.Tables.{handle_for, free_slot, slot_for, slots_for, domain_for, domains_for, tables_of}
use Rattle.decoded.specs.Words.{slots-many}
use Rattle.refine.specs.Agrees.{Agrees, agrees-call}
use Rattle.refine.specs.Arenas.Pools.{given_is, given-first, first-inside}
use Rattle.refine.specs.Arenas.PoolSlots.{domain-opened}
use Rattle.refine.specs.Making.{fresh-head}

-- ---- the stack k, k + 1, .. of n slots

up_next : (i k n : ℕ) → k ≤ i → suc i < k + n → slot_or0 (after_in (count_up k n) i) ≡ suc i
up_next i k zero h j = absurd (omega arith)
up_next i k (suc zero) h j = absurd (omega arith)
up_next i k (suc (suc n)) h j = elim (cmp k i) [
  | lt l ↦ ap slot_or0 (after-under k i (count_up (suc k) (suc n)) (λ e. omega arith)) ∙ up_next i (suc k) (suc n) l (omega arith)
  | ge l ↦ let e : i ≡ k = omega arith in rw e (ap slot_or0 (after-top k (count_up (suc k) (suc n))))
]

up-end : (i k n : ℕ) → k ≤ i → suc i ≡ k + n → slot_or0 (after_in (count_up k n) i) ≡ 0
up-end i k zero h j = absurd (omega arith)
up-end i k (suc zero) h j = let e : i ≡ k = omega arith in rw e (ap slot_or0 (after-top k []))
up-end i k (suc (suc n)) h j = ap slot_or0 (after-under k i (count_up (suc k) (suc n)) (λ e. omega arith)) ∙ up-end i (suc k) (suc n) (omega arith) (omega arith)

-- ---- a fresh list of n slots

module _ (n : ℕ) where
  -- what the model has in slot i
  abbrev fresh : ℕ → Slot
  fresh i = slot_for (count_up 0 n) i (at_slot (replicate {A = Option state.Capa} n none) i)

  fresh-slot : (i : ℕ) → i < n → pick (ltb i n) (free_slot (pick (ltb (i + 1) n) (i + 1) 0)) no_slot ≡ fresh i
  fresh-slot i h =
      rw (lt-ltb i n h, get_or-replicate {A = Option state.Capa} n i none none h)
      (elim (cmp (i + 1) n) [
        | lt l ↦ rw (lt-ltb (i + 1) n l) (ap free_slot (add-one i ∙ sym (up_next i 0 n (omega arith) (omega arith))))
        | ge l ↦ rw (le-ltb (i + 1) n l) (ap free_slot (sym (up-end i 0 n (omega arith) (omega arith))))
      ])

  -- the first k of m places from slot i on
  fresh-from : (k m i : ℕ) → k ≤ m → i + k ≤ n → take k (fresh_from n m i) ≡ map fresh (count_up i k)
  unfolding fresh_from
  fresh-from zero m i h j = refl
  fresh-from (suc k) zero i h j = absurd (omega arith)
  fresh-from (suc k) (suc m) i h j =
      let a = fresh-slot i (omega arith) in
      let b = fresh-from k m (suc i) (omega arith) (omega arith) in
      λ t. a t ∷ b t

  -- a new domain
  abbrev pub opened : Option ℕ → ℕ → state.Domain
  opened m cores = record { manager = m; cores = cores; locals = fresh_locals n; tracker = []; interface = state.open_interface }

  -- its record, from a record with as many slots
  fresh-row : (m : Option ℕ) (cores : ℕ) (y : Domain) → n ≤ most_slots → length y.slots ≡ n
      → put_list (record { head = new_head (link m) cores; slots = y.slots }) (fresh_list n) ≡ domain_for n (some (opened m cores))
  unfolding put_list fresh_list
  fresh-row m cores y high e =
      let ss : take (length y.slots) (fresh_from n most_slots 0) ≡ slots_for n (fresh_locals n) = ap (λ (k : ℕ). take k (fresh_from n most_slots 0)) e ∙ fresh-from n most_slots 0 high (omega arith) in
      let c : 0 ≡ n - length (count_up 0 n) = omega (arith, up-length 0 n) in
      let t = sym (fresh-head n) in
      λ i. record { head = record { manager = link m; cores = cores; tracker = 0; head = t i; count = c i }; slots = ss i }

-- ---- the tables

-- a record's five words, and then its list
both-put : (t : Tables) (i : ℕ) (h : DomainHead) (l : SlotList) → i < length t.domains
    → with_list (with_head t i h) i l ≡ with_domains t (set t.domains i (put_list (put_head (get_or t.domains i no_domain) h) l))
unfolding with_list with_head with_domains
both-put t i h l b =
    let r = put_head (get_or t.domains i no_domain) h in
    rw (get_or-set_same t.domains i r no_domain b, set-set t.domains i r (put_list r l))

module _ (s : State) (long : length s.domains ≡ s.sizes.domains) (pool : PoolSound s.sizes.domains (slot_uses s.domains) s.domain_pool) (high : s.sizes.slots ≤ most_slots) (m : Option ℕ) (cores : ℕ) where
  -- no slot is free
  module _ (e : s.domain_pool.free ≡ []) where
    none-given : given (tables_of s).domain_pool ≡ None
    unfolding tables_of allocate
    none-given = given_is s.sizes.domains (slot_uses s.domains) s.domain_pool pool no_domain_room ∙ rw e

    open-refused : calls.new_domain m cores s ≡ refuse no_domain_room
    unfolding calls.new_domain allocate ◌>>=◌
    open-refused = rw e

    refused-too : (new_domain (link m) cores (tables_of s)).answer ≡ Err no_domain_room
    unfolding new_domain
    refused-too = rw none-given

  -- slot i is given next
  module _ (i : ℕ) (is : List ℕ) (e : s.domain_pool.free ≡ i ∷ is) where
    abbrev after : State
    after = state.with_domains (record { gens = s.domain_pool.gens; free = is }) (set s.domains i (some (opened s.sizes.slots m cores))) s

    inside : i < s.sizes.domains
    inside = first-inside s.sizes.domains (slot_uses s.domains) s.domain_pool pool i is e

    slot-given : given (tables_of s).domain_pool ≡ Some (handle_for (handle_of s.domain_pool i))
    unfolding tables_of
    slot-given = given-first s.sizes.domains (slot_uses s.domains) s.domain_pool pool i is e

    open_is : calls.new_domain m cores s ≡ ok (i, after)
    unfolding calls.new_domain allocate ◌>>=◌
    open_is = rw e

    rows-many : length (tables_of s).domains ≡ s.sizes.domains
    unfolding tables_of domains_for
    rows-many = map-up-length (λ j. domain_for s.sizes.slots (at_slot s.domains j)) s.sizes.domains

    row-many : length (get_or (tables_of s).domains i no_domain).slots ≡ s.sizes.slots
    unfolding tables_of domains_for
    row-many =
        ap (λ (y : Domain). length y.slots) (get_or-up (λ j. domain_for s.sizes.slots (at_slot s.domains j)) s.sizes.domains i no_domain inside)
        ∙ slots-many s.sizes.slots (at_slot s.domains i)

    left_is : with_interface (with_list (with_head (taken (tables_of s)) i (new_head (link m) cores)) i (fresh_list s.sizes.slots)) i open_interface ≡ tables_of after
    unfolding with_domain_pool tables_of
    left_is =
        let n = s.sizes.slots in
        let t = tables_of s in
        ap (λ (u : Tables). with_interface u i open_interface)
        (both-put (taken t) i (new_head (link m) cores) (fresh_list n) (omega (arith, rows-many, inside))
        ∙ ap (λ (y : Domain). with_domains (taken t) (set t.domains i y)) (fresh-row n m cores (get_or t.domains i no_domain) high row-many))
        ∙ sym (domain-opened s i is (opened n m cores) long pool e refl)

    opened-too : Agrees (new_domain (link m) cores (tables_of s)) (ok (i, after))
    unfolding new_domain tables_of
    opened-too = rw slot-given (refl, left_is)

  pub open-refines : Agrees (new_domain (link m) cores (tables_of s)) (calls.new_domain m cores s)
  open-refines = go s.domain_pool.free refl
    where
      go : (f : List ℕ) → s.domain_pool.free ≡ f → Agrees (new_domain (link m) cores (tables_of s)) (calls.new_domain m cores s)
      go [] e = agrees-call (new_domain (link m) cores (tables_of s)) (calls.new_domain m cores s) (refuse no_domain_room) (open-refused e) (refused-too e)
      go (i ∷ is) e = agrees-call (new_domain (link m) cores (tables_of s)) (calls.new_domain m cores s) (ok (i, after i is e)) (open_is i is e) (opened-too i is e)
