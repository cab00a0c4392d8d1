-- The three pools of the tables: one law for what is lent of a pool and what comes back.
use Rattle.std.specs.Prelude.{◌≡◌, refl, List, ℕ, ◌+◌, ◌-◌, ◌*◌, ◌≤◌, ◌<◌, length, get_or, set, take, drop}
use Rattle.std.proofs.Common.{sym, ap, ◌∙◌, arith}
use borrow.Rule.Slice.PartMut.{put_mid}
use Rattle.words.specs.Cuts.{cuts, offset}
use Rattle.sizes.specs.declared.Sizes.{Sizes}
use Rattle.tables.specs.Tables.{Tables, Arena, with_domain_pool, with_region_pool, with_record_pool}
use Rattle.sizes.specs.Sizes.{sizes_of, widths, pool_width, sections, domain_pool_section, region_pool_section, record_pool_section}
use Rattle.tables.specs.View.{view, of_parts, Sized, Left, arena_of}
use Rattle.tables.specs.Sections.{section, section-inside, section-lent, section-back, only-left}
use Rattle.pools.specs.declared.Pool.{Pool}
use Rattle.pools.specs.declared.Pool.TheVariants.{Domains, Regions, Records}
use Rattle.pools.specs.declared.Span.{Span}

abbrev pub pool_section : Pool → ℕ
pool_section Domains = domain_pool_section
pool_section Regions = region_pool_section
pool_section Records = record_pool_section

abbrev pub pool_slots : Sizes → Pool → ℕ
pool_slots z Domains = z.domains
pool_slots z Regions = z.regions
pool_slots z Records = z.records

abbrev pub pool_of : Tables → Pool → Arena
pool_of s Domains = s.domain_pool
pool_of s Regions = s.region_pool
pool_of s Records = s.record_pool

abbrev pub with_pool : Tables → Pool → Arena → Tables
with_pool s Domains a = with_domain_pool s a
with_pool s Regions a = with_region_pool s a
with_pool s Records a = with_record_pool s a

-- where pool q stands in the words t
pub record PoolAt (t : List ℕ) (q : Pool) (r : Span) : Type 0 where
  pub slots : r.slots ≡ pool_slots (sizes_of t) q
  pub start : r.start ≡ offset (widths (sizes_of t)) (pool_section q)
  pub end : r.end ≡ r.start + pool_width r.slots
  pub inside : r.end ≤ length t

pool-width : (z : Sizes) (q : Pool) → get_or (widths z) (pool_section q) 0 ≡ pool_width (pool_slots z q)
pool-width z Domains = refl
pool-width z Regions = refl
pool-width z Records = refl

pool-seen : (t : List ℕ) (q : Pool) → arena_of (pool_slots (sizes_of t) q) (section t (pool_section q)) ≡ pool_of (view t) q
unfolding view of_parts
pool-seen t Domains = refl
pool-seen t Regions = refl
pool-seen t Records = refl

pool-changed : (t p : List ℕ) (q : Pool) (x : Arena) → arena_of (pool_slots (sizes_of t) q) p ≡ x
    → of_parts (sizes_of t) (set (cuts (widths (sizes_of t)) t) (pool_section q) p) ≡ with_pool (view t) q x
unfolding view of_parts cuts with_domain_pool with_region_pool with_record_pool
pool-changed t p Domains x e = ap (with_domain_pool (view t)) e
pool-changed t p Regions x e = ap (with_region_pool (view t)) e
pool-changed t p Records x e = ap (with_record_pool (view t)) e

-- a pool is one of the sections after the header
pool-past : (t : List ℕ) (q : Pool) → (pool_section q < sections) × (5 ≤ offset (widths (sizes_of t)) (pool_section q))
unfolding offset
pool-past t Domains = omega arith
pool-past t Regions = omega arith
pool-past t Records = omega arith

pub pool-at : (t : List ℕ) (q : Pool) (o n : ℕ) → Sized t → o ≡ offset (widths (sizes_of t)) (pool_section q) → n ≡ pool_slots (sizes_of t) q
    → PoolAt t q (record { start = o; end = o + (2 + 2 * n); slots = n })
pool-at t q o n s eo en =
    let w : get_or (widths (sizes_of t)) (pool_section q) 0 ≡ pool_width n = pool-width (sizes_of t) q ∙ rw (← en) in
    record { slots = en; start = eo; end = omega arith; inside = omega (arith, section-inside t (pool_section q) s) }

module _ (t : List ℕ) (q : Pool) (r : Span) (s : Sized t) (at : PoolAt t q r) where
  end-at : r.end ≡ r.start + get_or (widths (sizes_of t)) (pool_section q) 0
  end-at = at.end ∙ ap (λ (w : ℕ). r.start + w) (sym (pool-width (sizes_of t) q ∙ rw (← at.slots)))

  pub pool-read : arena_of r.slots (take (r.end - r.start) (drop r.start t)) ≡ pool_of (view t) q
  pool-read = rw (section-lent t (pool_section q) r.start r.end s at.start end-at, at.slots) (pool-seen t q)

  pub pool-back : (p : List ℕ) (x : Arena) → length p ≡ length (take (r.end - r.start) (drop r.start t)) → arena_of r.slots p ≡ x
      → Left (put_mid r.start (r.end - r.start) t p) (with_pool (view t) q x)
  pool-back p x hp e =
      let past = pool-past t q in
      let b = section-back t (pool_section q) r.start r.end s at.start end-at p past.0 (omega (arith, past.1, at.start)) hp in
      only-left t (put_mid r.start (r.end - r.start) t p) (pool_section q) (with_pool (view t) q x) s b.0
      (rw b.1 (pool-changed t p q x (rw (← at.slots) e)))
