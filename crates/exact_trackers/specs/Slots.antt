-- The pieces gathered over a domain's slots are those that crate `sweep` lists over its capability list: a slot names a live region exactly where
-- what is read from it does.
use Rattle.std.specs.Prelude.{◌≡◌, Bool, ◌&&◌, ltb, get_or, if◌then◌else◌}
use Rattle.std.proofs.Math.Path.{refl, sym, ap}
use Rattle.std.proofs.Common.{◌∙◌}
use Prim.Native.Nat.{ℕ, zero, suc, ◌+◌}
use Rattle.std.proofs.Math.Bool.{true, false}
use Rattle.std.proofs.Math.Option.{Option, none, some}
use mathlib.Core.List.{List, [], ◌∷◌, ◌++◌, map}
use native.Mathlib.Omega.{arith}
use Rattle.std.proofs.Math.Decide.{ℕ_discrete}
use Rattle.std.proofs.Math.Dec.{eqb}
use Rattle.std.proofs.Math.ListN.{length, get_or-eq_default}
use borrow.Author.Tests.{ltb-true, lt-ltb, le-ltb, eq-eqb, ne_eqb}
use Rattle.base.specs.Cases.{lt, ge, cmp, holds, fails, test, pick}
use Rattle.base.specs.Tests.{both, both_true}
use Rattle.model.specs.Lists.{is_some, at_slot, In}
use Rattle.model.specs.State as state
use Rattle.model.specs.State.{Pool}
use Rattle.model.specs.Pool.{is_live}
use Rattle.laws.specs.Tree.Facts.{Regions}
use Rattle.tables.specs.declared.Handle.{Handle}
use Rattle.tables.specs.declared.Slot.{Slot}
use Rattle.tables.specs.Kinds.{REGION}
use Rattle.tables.specs.Tables.{Tables, no_domain, no_slot, slot_at, region_at}
use Rattle.arena.specs.Arena.{live_b}
use Rattle.decoded.specs.Shape.{Shaped}
use Rattle.decoded.specs.Decode.Read.{taken, pool_from, handle_from, capa_from, held_in, domain_read, domains_from, region_read, regions_from}
use Rattle.decoded.specs.Canonical.Pools.{table-in, table-slot, table-used, regions-many}
use Rattle.decoded.specs.Canonical.Law.{each_at}
use Rattle.sweep.proofs.Slots as sweep
use Rattle.sweep.proofs.Slots.{listed}
use Rattle.sound_pieces.specs.Pieces.{region_pieces, names_b, slot_pieces, slots_pieces, domain_pieces}
use Rattle.exact_trackers.specs.Regions.{pieces_are}

abbrev pub region_pool : Tables → Pool
region_pool v = pool_from v.sizes.regions v.region_pool

-- ---- live handles

and_both : (a b c : Bool) → both a (both b c) ≡ both a b && c
and_both true true c = refl
and_both true false c = refl
and_both false b c = refl

module _ (v : Tables) (shaped : Shaped v) where
  some_is : (i : ℕ) → is_some (at_slot (regions_from v) i) ≡ both (ltb i (length v.region_pool.links)) (taken v.region_pool i)
  unfolding regions_from
  some_is i = elim (cmp i v.sizes.regions) [
    | lt h ↦ ap is_some (table-slot v.sizes.regions v.region_pool (region_read v) i h) ∙ by (taken v.region_pool i) ∙ sym (rw (lt-ltb i (length v.region_pool.links) (omega (arith, shaped.region_pool.links))) refl)
    | ge h ↦ ap is_some (get_or-eq_default (regions_from v) none (omega (arith, regions-many v))) ∙ sym (rw (le-ltb i (length v.region_pool.links) (omega (arith, shaped.region_pool.links))) refl)
  ]
    where
      by : (b : Bool) → is_some (if b then some (region_read v i) else none) ≡ b
      by true = refl
      by false = refl

  live-is : (h : Handle) → live_b v.region_pool h ≡ is_live (region_pool v) (regions_from v) (handle_from h)
  unfolding live_b pool_from
  live-is h = and_both (ltb h.slot (length v.region_pool.links)) (taken v.region_pool h.slot) (eqb (get_or v.region_pool.gens h.slot 0) h.generation) ∙ ap (λ (b : Bool). b && eqb (get_or v.region_pool.gens h.slot 0) h.generation) (sym (some_is h.slot))

  live-used : (h : Handle) → live_b v.region_pool h ≡ true → In (regions_from v) h.slot (region_read v h.slot)
  unfolding live_b regions_from
  live-used h t =
      let i = h.slot in
      let a = both_true (ltb i (length v.region_pool.links)) _ t in
      let b = both_true (taken v.region_pool i) _ a.1 in
      table-used v.sizes.regions v.region_pool (region_read v) i (omega (arith, ltb-true i (length v.region_pool.links) a.0, shaped.region_pool.links)) b.0

-- ---- one slot

-- what is no Region capability has no pieces
not-region : (rp : Pool) (rs : List (Option state.Region)) (n : ℕ) (h : Handle) → (n ≡ REGION → ⊥) → sweep.slot_pieces rp rs (capa_from n h) ≡ []
not-region rp rs zero h ne = refl
not-region rp rs (suc zero) h ne = refl
not-region rp rs (suc (suc zero)) h ne = absurd (ne refl)
not-region rp rs (suc (suc (suc zero))) h ne = refl
not-region rp rs (suc (suc (suc (suc zero)))) h ne = refl
not-region rp rs (suc (suc (suc (suc (suc zero))))) h ne = refl
not-region rp rs (suc (suc (suc (suc (suc (suc n)))))) h ne = refl

module _ (v : Tables) (shaped : Shaped v) (sound : Regions (regions_from v)) where
  abbrev rs : List (Option state.Region)
  rs = regions_from v

  -- the region that a handle names, if it is live
  handle-is : (h : Handle) → pick (live_b v.region_pool h) (region_pieces (region_at v) v.sizes.regions h.slot) [] ≡ sweep.slot_pieces (region_pool v) rs (capa_from REGION h)
  handle-is h = elim (test (live_b v.region_pool h)) [
    | holds t ↦ rw (sym (live-is v shaped h), t) (pieces_are v sound h.slot (live-used v shaped h t))
    | fails t ↦ rw (sym (live-is v shaped h), t) refl
  ]

  slot_is : (x : Slot) → slot_pieces v.region_pool (region_at v) v.sizes.regions x ≡ sweep.slot_pieces (region_pool v) rs (held_in x)
  unfolding slot_pieces names_b
  slot_is x = elim (ℕ_discrete x.kind REGION) [
    | yes e ↦ rw (eq-eqb x.kind REGION e) (handle-is x.handle ∙ ap (λ n. sweep.slot_pieces (region_pool v) rs (capa_from n x.handle)) (sym e))
    | no ne ↦ rw (ne_eqb x.kind REGION ne) (sym (not-region (region_pool v) rs x.kind x.handle ne))
  ]

  -- ---- the slots of a list, which stand from j on

  slots-are : (g : ℕ → Slot) (l : List Slot) (j : ℕ) → ((k : ℕ) → g (j + k) ≡ get_or l k no_slot) → slots_pieces v.region_pool (region_at v) v.sizes.regions g (length l) j ≡ listed (region_pool v) rs (map held_in l)
  unfolding slots_pieces
  slots-are g [] j h = refl
  slots-are g (x ∷ l) j h =
      let z : j ≡ j + 0 = omega arith in
      let first = ap (slot_pieces v.region_pool (region_at v) v.sizes.regions) (ap g z ∙ h 0) ∙ slot_is x in
      let rest = slots-are g l (suc j) (λ k. let z : suc j + k ≡ j + suc k = omega arith in ap g z ∙ h (suc k)) in
      λ i. first i ++ rest i

  -- ---- domain d

  pub domain-is : (d : ℕ) (x : state.Domain) → In (domains_from v) d x → domain_pieces v d ≡ listed (region_pool v) rs x.locals.held
  unfolding domain_pieces slot_at domains_from
  domain-is d x at =
      let r = table-in v.sizes.domains v.domain_pool (domain_read v) d x at in
      let l = (get_or v.domains d no_domain).slots in
      let many : length l ≡ v.sizes.slots = each_at _ v.domains shaped.slots d no_domain (omega (arith, shaped.domains, r.0)) in
      ap (λ m. slots_pieces v.region_pool (region_at v) v.sizes.regions (slot_at v d) m 0) (sym many)
      ∙ slots-are (slot_at v d) l 0 (λ k. let z : 0 + k ≡ k = omega arith in ap (slot_at v d) z)
      ∙ ap (λ (y : state.Domain). listed (region_pool v) rs y.locals.held) r.2
