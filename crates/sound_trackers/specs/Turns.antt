-- The test of a domain of the tables, and the turns over the domains.
use Rattle.std.specs.Prelude.{◌≡◌, Bool, true, false, List, get_or, take}
use Rattle.std.proofs.Math.Path.{sym, ap}
use Rattle.std.proofs.Common.{◌∙◌}
use Prim.Native.Nat.{ℕ, suc, ◌+◌, ◌-◌, ◌≤◌, ◌<◌}
use Rattle.std.proofs.Math.Nat.{sub-zero}
use Rattle.std.proofs.Math.Numerals.{add-one}
use native.Mathlib.Omega.{arith}
use borrow.Author.Tests.{lt-ltb, le-ltb}
use Rattle.std.proofs.Math.ListN.{length}
use Rattle.base.specs.Tests.{both}
use Rattle.sizes.specs.declared.Sizes.{Sizes}
use Rattle.sizes.specs.Sizes.{sizes_of, total}
use Rattle.tables.specs.declared.DomainHead.{DomainHead}
use Rattle.tables.specs.declared.Region.{Region}
use Rattle.tables.specs.declared.RegionCapa.{RegionCapa}
use Rattle.tables.specs.declared.Slot.{Slot}
use Rattle.tables.specs.Tables.{Tables, head_at, slot_at, region_at, record_at}
use Rattle.tables.specs.View.{view, Sized}
use Rattle.tables.specs.Header.{sizes-seen}
use Rattle.arena.specs.Arena.{is_free_b}
use Rattle.sound_pieces.specs.Laid.{space}
use Rattle.sound_pieces.specs.Pieces.{slots_pieces, domain_pieces}
use Rattle.sound_pieces.specs.Walks.{pool, same-pool}
use Rattle.sound_sweep.specs.Records.{chained}
use Rattle.sound_trackers.specs.Trackers.{kept, tracker, domain_holds, all_hold, trackers_hold}
use Rattle.sound_trackers.specs.Swept.{swept}

-- ---- a domain, by the sections that are lent

module _ (t : List ℕ) (d : ℕ) (used : List ℕ) (word : ℕ) (eu : used ≡ (view t).domain_pool.links) (ew : word ≡ get_or used d 0) where
  pub free-holds : (word ≡ 0 → ⊥) → domain_holds (view t) d ≡ true
  unfolding domain_holds is_free_b
  free-holds n = rw (← eu, ← ew, lt-ltb 0 word (omega arith))

  used-holds : word ≡ 0 → domain_holds (view t) d ≡ swept (tracker (view t) d) (kept (view t) d)
  unfolding domain_holds is_free_b
  used-holds z = rw (← eu, ← ew, le-ltb 0 word (omega arith))

  module _ (z : Sizes) (links gens w : List ℕ) (f : ℕ → RegionCapa) (g : ℕ → Slot) (h : ℕ → Region) (x : DomainHead) where
    pub domain-is : Sized t → z ≡ sizes_of t → links ≡ (view t).region_pool.links → gens ≡ (view t).region_pool.gens
        → f ≡ region_at (view t) → g ≡ slot_at (view t) d → h ≡ record_at (view t) → x ≡ head_at (view t) d → length w ≡ length t → word ≡ 0
        → (b : Bool) → b ≡ swept (chained h z.records x.tracker) (take (space w) (slots_pieces (pool links gens) f z.regions g z.slots 0))
        → domain_holds (view t) d ≡ b
    unfolding kept tracker domain_pieces
    domain-is s ez el eg ef es er ex long e b eb =
        let v = view t in
        let et : length w ≡ total v.sizes = long ∙ s.exact ∙ ap total (sym (sizes-seen t)) in
        used-holds e ∙ sym (eb ∙ rw (ez ∙ sym (sizes-seen t), el, eg, ef, es, er, ex, et, same-pool v.region_pool (region_at v) v.sizes.regions (slot_at v d) v.sizes.slots 0))

-- ---- the domains from d on, of m in all

pub all_start : (t : List ℕ) (z : Sizes) → z ≡ sizes_of t → all_hold (view t) (z.domains - 0) 0 ≡ trackers_hold (view t)
unfolding trackers_hold
all_start t z e = rw (e ∙ sym (sizes-seen t), sub-zero (view t).sizes.domains)

module _ (v : Tables) (m d : ℕ) where
  pub all_end : m ≤ d → true ≡ all_hold v (m - d) d
  unfolding all_hold
  all_end h = let e : m - d ≡ 0 = omega arith in rw e

  module _ (h : d < m) where
    all_more : all_hold v (m - d) d ≡ both (domain_holds v d) (all_hold v (m - (d + 1)) (d + 1))
    unfolding all_hold
    all_more = let e : m - d ≡ suc (m - (d + 1)) = omega arith in rw (e, add-one d)

    pub all-goes : domain_holds v d ≡ true → all_hold v (m - (d + 1)) (d + 1) ≡ all_hold v (m - d) d
    all-goes e = sym (all_more ∙ rw e)

    pub all-fails : domain_holds v d ≡ false → false ≡ all_hold v (m - d) d
    all-fails e = sym (all_more ∙ rw e)
