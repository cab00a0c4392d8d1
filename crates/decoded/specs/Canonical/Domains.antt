-- A well formed domain has the words of the domain that is read from it: its five first words, and each slot by its kind.
use Rattle.std.specs.Prelude.{◌≡◌, refl, ℕ, zero, suc, ◌-◌, ◌≤◌, ◌<◌, List, [], ◌∷◌, map, eqb, length, get_or}
use Rattle.std.proofs.Common.{sym, ap, ◌∙◌, arith}
use Rattle.std.proofs.Math.Option.{some}
use Rattle.base.specs.Lists.{get_d_any}
use Rattle.model.specs.Lists.{one_if, count_if, at_slot, count_up, first_of, after_in}
use Rattle.model.specs.State.{Record}
use Rattle.model.specs.Layout.{link, slot_or0}
use Rattle.tables.specs.declared.Handle.{Handle}
use Rattle.tables.specs.declared.Slot.{Slot}
use Rattle.tables.specs.declared.Region.{Region}
use Rattle.tables.specs.declared.Interface.{Interface}
use Rattle.tables.specs.Tables.{Domain, no_slot, no_record}
use Rattle.decoded.specs.Tables.{slot_for, slots_for, domain_for, interface_for}
use Rattle.decoded.specs.Decode.Read.{chain_from, linked, capa_from, held_in, after_slot, list_from, record_from, interface_from, domain_from}
use Rattle.decoded.specs.Decode.Walks.{map-up}
use Rattle.decoded.specs.Canonical.Ends.{chain_end, stack-long, stack-first, stack-after, chain_first}
use Rattle.decoded.specs.Canonical.WellFormed.{SlotWellFormed, DomainWellFormed, InterfaceWellFormed}

pub link-kept : (l : ℕ) → link (linked l) ≡ l
link-kept zero = refl
link-kept (suc i) = refl

-- ---- slots

-- a slot by its kind, which is at most 5
slot-go : (free : List ℕ) (j k : ℕ) (h : Handle) → k ≤ 5 → (k ≡ 0 → h.slot ≡ 0) → (k ≤ 1 → h.generation ≡ 0) → (k ≡ 1 → slot_or0 (after_in free j) ≡ h.slot) → slot_for free j (capa_from k h) ≡ record { kind = k; handle = h }
slot-go free j zero h b z g n = let p = z refl in let q = g (omega arith) in λ i. record { kind = 0; handle = record { slot = sym p i; generation = sym q i } }
slot-go free j (suc zero) h b z g n = let p = n refl in let q = g (omega arith) in λ i. record { kind = 1; handle = record { slot = p i; generation = sym q i } }
slot-go free j (suc (suc zero)) h b z g n = refl
slot-go free j (suc (suc (suc zero))) h b z g n = refl
slot-go free j (suc (suc (suc (suc zero)))) h b z g n = refl
slot-go free j (suc (suc (suc (suc (suc zero))))) h b z g n = refl
slot-go free j (suc (suc (suc (suc (suc (suc k)))))) h b z g n = absurd (omega arith)

slot_kept : (free : List ℕ) (j : ℕ) (x : Slot) → SlotWellFormed x → (x.kind ≡ 1 → slot_or0 (after_in free j) ≡ x.handle.slot) → slot_for free j (held_in x) ≡ x
slot_kept free j x t n = slot-go free j x.kind x.handle t.kind_known t.none_clear t.generation_clear n

pub held-at : (l : List Slot) (j : ℕ) → j < length l → at_slot (map held_in l) j ≡ held_in (get_or l j no_slot)
held-at [] j b = absurd (omega arith)
held-at (x ∷ l) zero b = refl
held-at (x ∷ l) (suc j) b = held-at l j (omega arith)

-- ---- the whole row

pub first_read : (f : ℕ → Record) → ((i : ℕ) → (f i).slot ≡ i) → (l : List ℕ) → first_of (map (λ (q : Record). q.slot) (map f l)) ≡ first_of l
first_read f e [] = refl
first_read f e (i ∷ l) = ap some (e i)

module _ (m n : ℕ) (l : List Region) (x : Domain) (long : length x.slots ≡ m) (h : DomainWellFormed m x) (ended : chain_end (λ i. (get_or l i no_record).next) n x.head.tracker ≡ 0)
    (marks : (j : ℕ) → j < m → (get_or x.slots j no_slot).kind ≡ 1 → 0 < count_if (eqb j) (list_from m x).free) where
  slots_kept : slots_for m (list_from m x) ≡ x.slots
  slots_kept =
      let f : ℕ → Slot = λ j. slot_for (list_from m x).free j (at_slot (map held_in x.slots) j) in
      ap (λ k. map f (count_up 0 k)) (sym long) ∙ map-up f x.slots (λ j b d. at j b ∙ get_d_any x.slots j no_slot d b)
    where
      at : (j : ℕ) → j < length x.slots → slot_for (list_from m x).free j (at_slot (map held_in x.slots) j) ≡ get_or x.slots j no_slot
      at j b =
          ap (slot_for (list_from m x).free j) (held-at x.slots j b)
          ∙ slot_kept (list_from m x).free j (get_or x.slots j no_slot) (h.slots j (omega arith)) (λ k. stack-after (after_slot x.slots) (m - x.head.count) x.head.head h.ends j (marks j (omega arith) k))

  pub domain-kept : (f : Interface) → domain_for m (some (domain_from m n l x f)) ≡ x
  domain-kept f =
      let manager = link-kept x.head.manager in
      let g : ℕ → Region = λ i. get_or l i no_record in
      let tracker = ap link (first_read (λ i. record_from i (g i)) (λ i. refl) (chain_from (λ i. (g i).next) n x.head.tracker)) ∙ chain_first (λ i. (g i).next) n x.head.tracker ended in
      let head = stack-first (after_slot x.slots) (m - x.head.count) x.head.head h.ends in
      let many : m - length (list_from m x).free ≡ x.head.count = omega (arith, stack-long (after_slot x.slots) (m - x.head.count) x.head.head, h.fits) in
      λ i. record { head = record { manager = manager i; cores = x.head.cores; tracker = tracker i; head = head i; count = many i }; slots = slots_kept i }

-- ---- interfaces

frozen-go : (n : ℕ) → n ≤ 1 → one_if (eqb n 1) ≡ n
frozen-go zero b = refl
frozen-go (suc zero) b = refl
frozen-go (suc (suc n)) b = absurd (omega arith)

pub interface-kept : (f : Interface) → InterfaceWellFormed f → interface_for (interface_from f) ≡ f
interface-kept f h = let e = frozen-go f.frozen h in λ i. record { word = f.word; frozen = e i }
