-- What a domain's list holds, slot by slot.
use Rattle.std.specs.Prelude.{◌≡◌, refl, ℕ, zero, suc, ◌<◌, Bool, true, ◌&&◌, List, [], ◌∷◌, map, eqb, get_or}
use Rattle.std.proofs.Common.{sym, ◌∙◌, arith, eqb→eq, eq-eqb}
use Rattle.std.proofs.Math.Path.{ap}
use Rattle.std.proofs.Math.Option.{Option}
use Rattle.std.specs.Float.Ieee.Fits.{and_l, and_r}
use Rattle.std.proofs.Math.ListN.{length, length-map}
use Rattle.base.specs.Tests.{true-is, true-false}
use Rattle.model.specs.Lists.{one_if, count_if, Each, at_slot}
use Rattle.model.specs.State as state
use Rattle.model.specs.State.{Pool, Capa}
use Rattle.model.specs.Pool.{handle_of}
use Rattle.model.specs.Sound.{is_region_of, is_management_of, RevokeFit, HandleFit}
use Rattle.laws.specs.Tree.Sum.{sum, sum_same}
use Rattle.laws.specs.Tree.Slots.{count-sum}
use Rattle.tables.specs.declared.Handle.{Handle}
use Rattle.tables.specs.declared.Slot.{Slot}
use Rattle.tables.specs.Tables.{Tables, no_domain, no_slot, slot_at}
use Rattle.decoded.specs.Shape.{Shaped}
use Rattle.decoded.specs.Decode.Read.{capa_from, held_in}
use Rattle.decoded.specs.Canonical.Domains.{held-at}
use Rattle.decoded.specs.Canonical.Law.{each_at}
use Rattle.decoded.specs.Canonical.Domains.{held-at}
use Rattle.decoded.specs.Canonical.Law.{each_at}

-- ---- the one capability of a region, and of a domain

same_out : (i g : ℕ) (h : Handle) → (eqb i h.slot && eqb g h.generation) ≡ true → (h.slot ≡ i) × (h.generation ≡ g)
same_out i g h t =
    let u = true-is t in
    (sym (eqb→eq i h.slot (and_l (eqb i h.slot) (eqb g h.generation) u)), sym (eqb→eq g h.generation (and_r (eqb i h.slot) (eqb g h.generation) u)))

region-go : (p : Pool) (i k : ℕ) (h : Handle) → is_region_of (handle_of p i) (capa_from k h) ≡ true → (k ≡ 2) × (h.slot ≡ i) × (h.generation ≡ get_or p.gens i 0)
region-go p i zero h t = absurd (true-false t refl)
region-go p i (suc zero) h t = absurd (true-false t refl)
region-go p i (suc (suc zero)) h t = let u = same_out i (get_or p.gens i 0) h t in (refl, u.0, u.1)
region-go p i (suc (suc (suc zero))) h t = absurd (true-false t refl)
region-go p i (suc (suc (suc (suc zero)))) h t = absurd (true-false t refl)
region-go p i (suc (suc (suc (suc (suc zero))))) h t = absurd (true-false t refl)
region-go p i (suc (suc (suc (suc (suc (suc k)))))) h t = absurd (true-false t refl)

management-go : (p : Pool) (i k : ℕ) (h : Handle) → is_management_of (handle_of p i) (capa_from k h) ≡ true → (k ≡ 4) × (h.slot ≡ i) × (h.generation ≡ get_or p.gens i 0)
management-go p i zero h t = absurd (true-false t refl)
management-go p i (suc zero) h t = absurd (true-false t refl)
management-go p i (suc (suc zero)) h t = absurd (true-false t refl)
management-go p i (suc (suc (suc zero))) h t = absurd (true-false t refl)
management-go p i (suc (suc (suc (suc zero)))) h t = let u = same_out i (get_or p.gens i 0) h t in (refl, u.0, u.1)
management-go p i (suc (suc (suc (suc (suc zero))))) h t = absurd (true-false t refl)
management-go p i (suc (suc (suc (suc (suc (suc k)))))) h t = absurd (true-false t refl)

module _ (p : Pool) (i : ℕ) (x : Slot) where
  pub region-held : is_region_of (handle_of p i) (held_in x) ≡ true → (x.kind ≡ 2) × (x.handle.slot ≡ i) × (x.handle.generation ≡ get_or p.gens i 0)
  region-held t = region-go p i x.kind x.handle t

  pub held-region : x.kind ≡ 2 → x.handle.slot ≡ i → x.handle.generation ≡ get_or p.gens i 0 → is_region_of (handle_of p i) (held_in x) ≡ true
  held-region k a b = ap (λ n. is_region_of (handle_of p i) (capa_from n x.handle)) k ∙ rw (eq-eqb i x.handle.slot (sym a), eq-eqb (get_or p.gens i 0) x.handle.generation (sym b))

  pub management-held : is_management_of (handle_of p i) (held_in x) ≡ true → (x.kind ≡ 4) × (x.handle.slot ≡ i) × (x.handle.generation ≡ get_or p.gens i 0)
  management-held t = management-go p i x.kind x.handle t

  pub held-management : x.kind ≡ 4 → x.handle.slot ≡ i → x.handle.generation ≡ get_or p.gens i 0 → is_management_of (handle_of p i) (held_in x) ≡ true
  held-management k a b = ap (λ n. is_management_of (handle_of p i) (capa_from n x.handle)) k ∙ rw (eq-eqb i x.handle.slot (sym a), eq-eqb (get_or p.gens i 0) x.handle.generation (sym b))

-- ---- all slots of a list

pub each-held : (P : Option Capa → Type 0) (l : List Slot) → ((j : ℕ) → j < length l → P (held_in (get_or l j no_slot))) → Each P (map held_in l)
each-held P [] h = tt
each-held P (x ∷ l) h = (h 0 (omega arith), each-held P l (λ j b. h (suc j) (omega arith)))

pub held-each : (P : Option Capa → Type 0) (l : List Slot) → Each P (map held_in l) → (j : ℕ) → j < length l → P (held_in (get_or l j no_slot))
held-each P [] h j b = absurd (omega arith)
held-each P (x ∷ l) h zero b = h.0
held-each P (x ∷ l) h (suc j) b = held-each P l h.1 j (omega arith)

module _ (v : Tables) (s : Shaped v) (d : ℕ) (b : d < v.sizes.domains) where
  abbrev pub slots : List Slot
  slots = (get_or v.domains d no_domain).slots

  pub slots-many : length slots ≡ v.sizes.slots
  slots-many = each_at _ v.domains s.slots d no_domain (omega (arith, s.domains))

  pub held-count : (p : Option Capa → Bool) → count_if p (map held_in slots) ≡ sum (λ j. one_if (p (held_in (slot_at v d j)))) v.sizes.slots
  unfolding slot_at
  held-count p =
      let long : length (map held_in slots) ≡ v.sizes.slots = length-map slots held_in ∙ slots-many in
      count-sum p (map held_in slots)
      ∙ ap (sum (λ j. one_if (p (at_slot (map held_in slots) j)))) long
      ∙ sum_same (λ j. one_if (p (at_slot (map held_in slots) j))) (λ j. one_if (p (held_in (get_or slots j no_slot)))) v.sizes.slots (λ j c. ap (λ o. one_if (p o)) (held-at slots j (omega (arith, slots-many))))

-- ---- a handle's clauses, by the kind of its slot

module _ (rp : Pool) (rs : List (Option state.Region)) (dp : Pool) (ds : List (Option state.Domain)) where
  pub handle-fit : (k : ℕ) (h : Handle) → ((k ≡ 2) → HandleFit rp rs dp ds (capa_from 2 h)) → ((k ≡ 3) → HandleFit rp rs dp ds (capa_from 3 h)) → ((k ≡ 4) → HandleFit rp rs dp ds (capa_from 4 h)) → ((k ≡ 5) → HandleFit rp rs dp ds (capa_from 5 h)) → HandleFit rp rs dp ds (capa_from k h)
  handle-fit zero h a b c d = tt
  handle-fit (suc zero) h a b c d = tt
  handle-fit (suc (suc zero)) h a b c d = a refl
  handle-fit (suc (suc (suc zero))) h a b c d = b refl
  handle-fit (suc (suc (suc (suc zero)))) h a b c d = c refl
  handle-fit (suc (suc (suc (suc (suc zero))))) h a b c d = d refl
  handle-fit (suc (suc (suc (suc (suc (suc k)))))) h a b c d = tt

  pub revoke-fit : (k : ℕ) (h : Handle) → ((k ≡ 3) → RevokeFit rp rs (capa_from 3 h)) → RevokeFit rp rs (capa_from k h)
  revoke-fit zero h a = tt
  revoke-fit (suc zero) h a = tt
  revoke-fit (suc (suc zero)) h a = tt
  revoke-fit (suc (suc (suc zero))) h a = a refl
  revoke-fit (suc (suc (suc (suc zero)))) h a = tt
  revoke-fit (suc (suc (suc (suc (suc zero))))) h a = tt
  revoke-fit (suc (suc (suc (suc (suc (suc k)))))) h a = tt
