-- A pool that is well formed and marked has the words of the pool that is read from it; and a table read slot by slot.
use Rattle.std.specs.Prelude.{◌≡◌, refl, ℕ, ◌-◌, ◌<◌, true, false, not, eqb, get_or, if◌then◌else◌}
use Rattle.std.proofs.Common.{sym, ◌∙◌, arith, eqb→eq, lt-ltb, le-ltb, eq-eqb}
use Rattle.std.proofs.Math.Path.{ap}
use Rattle.std.proofs.Math.Option.{Option, none, some}
use mathlib.Core.List.{List, map}
use Rattle.std.proofs.Math.ListN.{length, get_or-eq_default}
use Rattle.base.specs.Cases.{lt, ge, cmp, Test, holds, fails, test}
use Rattle.base.specs.Tests.{true-is, false-is}
use Rattle.base.specs.Lists.{get_d_any}
use Rattle.base.specs.Options.{none-some, some_same}
use Rattle.model.specs.Lists.{exists, count_if, at_slot, In, count_up}
use Rattle.model.specs.Layout.{free_link}
use Rattle.laws.specs.Stack.{any-count, link-out, link-in}
use Rattle.tables.specs.Tables.{Arena, Tables}
use Rattle.arena.specs.Arena.{is_free_b}
use Rattle.decoded.specs.Rows.{get_or-up, map-up-length}
use Rattle.decoded.specs.Tables.{pool_of}
use Rattle.decoded.specs.Decode.Read.{after_free, free_from, pool_from, taken, table_from, regions_from}
use Rattle.decoded.specs.Decode.Walks.{map-up}
use Rattle.decoded.specs.Canonical.Ends.{stack-long, stack-first, stack-after}
use Rattle.decoded.specs.Canonical.WellFormed.{PoolWellFormed, Marked}
use Rattle.decoded.specs.Canonical.Ends.{stack-long, stack-first, stack-after}
use Rattle.decoded.specs.Canonical.WellFormed.{PoolWellFormed, Marked}

-- ---- taken

pub taken-link : (a : Arena) (i : ℕ) → taken a i ≡ true → get_or a.links i 0 ≡ 0
taken-link a i t = eqb→eq (get_or a.links i 0) 0 (true-is t)

pub free-link : (a : Arena) (i : ℕ) → taken a i ≡ false → 0 < get_or a.links i 0
free-link a i t = elim (cmp 0 (get_or a.links i 0)) [
  | lt h ↦ h
  | ge h ↦ absurd (false-is t (true-is (eq-eqb (get_or a.links i 0) 0 (omega arith))))
]

pub not_on : (l : List ℕ) (i : ℕ) → count_if (eqb i) l ≡ 0 → not (exists (eqb i) l) ≡ true
not_on l i h = ap not (any-count (eqb i) l ∙ le-ltb 0 (count_if (eqb i) l) (omega arith))

pub on : (l : List ℕ) (i : ℕ) → 0 < count_if (eqb i) l → not (exists (eqb i) l) ≡ false
on l i h = ap not (any-count (eqb i) l ∙ lt-ltb 0 (count_if (eqb i) l) h)

-- ---- a pool over n slots

module _ (n : ℕ) (a : Arena) (long : length a.links ≡ n) (h : PoolWellFormed n a) (m : Marked n a) where
  link-kept : (i : ℕ) → i < n → free_link (free_from n a) i ≡ get_or a.links i 0
  link-kept i b = elim (cmp 0 (count_if (eqb i) (free_from n a))) [
    | lt o ↦ omega (arith, link-in (free_from n a) i o, stack-after (after_free a.links) (n - a.count) a.head h.ends i o, free-link a i (m i b ∙ on (free_from n a) i o))
    | ge o ↦ let z : count_if (eqb i) (free_from n a) ≡ 0 = omega arith in link-out (free_from n a) i z ∙ sym (taken-link a i (m i b ∙ not_on (free_from n a) i z))
  ]

  pub pool-kept : pool_of n (pool_from n a) ≡ a
  unfolding pool_of pool_from
  pool-kept =
      let first = stack-first (after_free a.links) (n - a.count) a.head h.ends in
      let many : n - length (free_from n a) ≡ a.count = omega (arith, stack-long (after_free a.links) (n - a.count) a.head, h.fits) in
      let links = ap (λ k. map (free_link (free_from n a)) (count_up 0 k)) (sym long) ∙ map-up (free_link (free_from n a)) a.links (λ i b d. link-kept i (omega arith) ∙ get_d_any a.links i 0 d b) in
      λ i. record { head = first i; count = many i; links = links i; gens = a.gens }

-- ---- a table over n slots

module _ {A : Type 0} (n : ℕ) (a : Arena) (f : ℕ → A) where
  pub table-slot : (i : ℕ) → i < n → at_slot (table_from n a f) i ≡ if taken a i then some (f i) else none
  table-slot i b = get_or-up (λ i. if taken a i then some (f i) else none) n i none b

  pub table-used : (i : ℕ) → i < n → taken a i ≡ true → at_slot (table_from n a f) i ≡ some (f i)
  table-used i b t = table-slot i b ∙ rw t refl

  pub table-free : (i : ℕ) → i < n → taken a i ≡ false → at_slot (table_from n a f) i ≡ none
  table-free i b t = table-slot i b ∙ rw t refl

  -- what a slot in use holds
  pub table-in : (i : ℕ) (x : A) → In (table_from n a f) i x → (i < n) × (taken a i ≡ true) × (f i ≡ x)
  table-in i x e = elim (cmp i n) [
    | ge b ↦ absurd (none-some (at_slot (table_from n a f) i) x (get_or-eq_default (table_from n a f) none (omega (arith, map-up-length (λ i. if taken a i then some (f i) else none) n))) e)
    | lt b ↦ elim (test (taken a i)) [
      | holds t ↦ (b, t, some_same (at_slot (table_from n a f) i) (f i) x (table-used i b t) e)
      | fails t ↦ absurd (none-some (at_slot (table_from n a f) i) x (table-free i b t) e)
    ]
  ]

  -- the rows of a table whose slots in use and free slots are told apart by `taken`
  pub table_kept : {B : Type 0} (g : ℕ → Option A → B) (l : List B) (d : B) → length l ≡ n → ((i : ℕ) → i < n → taken a i ≡ true → g i (some (f i)) ≡ get_or l i d) → ((i : ℕ) → i < n → taken a i ≡ false → g i none ≡ get_or l i d) → map (λ i. g i (at_slot (table_from n a f) i)) (count_up 0 n) ≡ l
  table_kept g l d long u v =
      ap (λ k. map (λ i. g i (at_slot (table_from n a f) i)) (count_up 0 k)) (sym long)
      ∙ map-up (λ i. g i (at_slot (table_from n a f) i)) l (λ i b e. at i (omega arith) (test (taken a i)) ∙ get_d_any l i d e b)
    where
      at : (i : ℕ) → i < n → Test (taken a i) → g i (at_slot (table_from n a f) i) ≡ get_or l i d
      at i b (holds t) = ap (g i) (table-used i b t) ∙ u i b t
      at i b (fails t) = ap (g i) (table-free i b t) ∙ v i b t

-- ---- in use, as the arena tests it

pub taken-used : (a : Arena) (i : ℕ) → taken a i ≡ true → is_free_b a i ≡ false
unfolding is_free_b
taken-used a i t = le-ltb 0 (get_or a.links i 0) (omega (arith, taken-link a i t))

pub not_taken : (a : Arena) (i : ℕ) → taken a i ≡ false → is_free_b a i ≡ true
unfolding is_free_b
not_taken a i t = lt-ltb 0 (get_or a.links i 0) (free-link a i t)

-- as many regions as the sizes say
pub regions-many : (v : Tables) → length (regions_from v) ≡ v.sizes.regions
unfolding regions_from
regions-many v = map-up-length _ v.sizes.regions
