-- What is read of the tables for a walk: a list's top, and its slots from the words that they stand in.
use Rattle.std.specs.Prelude.{◌≡◌, ℕ, ◌-◌, ◌≤◌, List, eqb, ltb, length, get_or, take, drop}
use Rattle.std.proofs.Common.{ap, ◌∙◌, mul-le-mul_right, arith}
use Rattle.base.specs.Tests.{both}
use Rattle.words.specs.Cuts.{offset}
use Rattle.sizes.specs.Sizes.{sizes_of, total, stride}
use Rattle.tables.specs.Kinds.{FREE}
use Rattle.tables.specs.Tables.{Tables, Arena, slot_at, record_at}
use Rattle.tables.specs.View.{view, of_parts, arena_of, Sized}
use Rattle.pools.specs.declared.Pool.{Pool}
use Rattle.pools.specs.declared.Span.{Span}
use Rattle.pools.specs.Pools.{pool_of, PoolAt, pool-read}
use Rattle.sections.specs.Rows.{slot_in, record_in}
use Rattle.list_links.specs.declared.Stack.{Stack}
use Rattle.list_links.specs.declared.Stack.TheVariants.{Domains, Regions, Records, Slots, Trackers}
use Rattle.list_links.specs.declared.Top.{Top}
use Rattle.list_links.specs.declared.Step.{Step}
use Rattle.list_links.specs.Walk.{link_to}
use Rattle.list_links.specs.Stacks.{slots_of, eligible, may_meet, next_of}

-- ---- a pool's head and count

abbrev pub top_in : Tables → Pool → Top
top_in v q = record { head = (pool_of v q).head; count = (pool_of v q).count }

pub pool-top : (t : List ℕ) (q : Pool) (r : Span) → Sized t → PoolAt t q r → (a b : ℕ)
    → a ≡ get_or (take (r.end - r.start) (drop r.start t)) 0 0 → b ≡ get_or (take (r.end - r.start) (drop r.start t)) 1 0 → ◌≡◌ {A = Top} (record { head = a; count = b }) (top_in (view t) q)
unfolding arena_of
pool-top t q r s at a b ea eb =
    let e = pool-read t q r s at in
    let eh = ea ∙ ap (λ (x : Arena). x.head) e in
    let ec = eb ∙ ap (λ (x : Arena). x.count) e in
    λ i. record { head = eh i; count = ec i }

-- the work area has more bits than there are slots
pub slots-inside : (t : List ℕ) (s : Stack) → Sized t → slots_of (view t) s ≤ length t
unfolding view of_parts total offset
slots-inside t Domains z = omega (arith, z.exact)
slots-inside t Regions z = omega (arith, z.exact)
slots-inside t Records z = omega (arith, z.exact)
slots-inside t (Slots d) z = omega (arith, z.exact, mul-le-mul_right (stride (sizes_of t)) z.limits.domains-low)
slots-inside t Trackers z = omega (arith, z.exact)

-- ---- a slot, from the words p and, for the trackers, those of the records

-- the words p are the list's
abbrev pub Lent : Tables → Stack → List ℕ → Type 0
Lent v Domains p = p ≡ v.domain_pool.links
Lent v Regions p = p ≡ v.region_pool.links
Lent v Records p = p ≡ v.record_pool.links
Lent v (Slots d) p = slot_in p ≡ slot_at v d
Lent v Trackers p = p ≡ v.record_pool.links

unfoldable pub link_step : List ℕ → ℕ → ℕ → Step
link_step p n i = record { may = both (ltb i n) (ltb 0 (get_or p i 0)); next = get_or p i 0 }

unfoldable pub slot_step : List ℕ → ℕ → ℕ → Step
slot_step p n i = record { may = both (ltb i n) (eqb (slot_in p i).kind FREE); next = link_to n (slot_in p i).handle.slot }

unfoldable pub record_step : List ℕ → List ℕ → ℕ → ℕ → Step
record_step p q n i = record { may = both (ltb i n) (eqb (get_or p i 0) 0); next = (record_in q i).next }

unfoldable pub step_in : Stack → List ℕ → List ℕ → ℕ → ℕ → Step
step_in Domains p q n i = link_step p n i
step_in Regions p q n i = link_step p n i
step_in Records p q n i = link_step p n i
step_in (Slots d) p q n i = slot_step p n i
step_in Trackers p q n i = record_step p q n i

-- what the walk of the definition reads
abbrev pub step_of : Tables → Stack → ℕ → Step
step_of v s i = record { may = may_meet v s i; next = next_of v s i }

read_is : (v : Tables) (s : Stack) (p q : List ℕ) (i : ℕ) → Lent v s p → record_in q ≡ record_at v → step_in s p q (slots_of v s) i ≡ step_of v s i
unfolding step_in link_step slot_step record_step may_meet eligible next_of
read_is v Domains p q i e eq = ap (λ (l : List ℕ). link_step l v.sizes.domains i) e
read_is v Regions p q i e eq = ap (λ (l : List ℕ). link_step l v.sizes.regions i) e
read_is v Records p q i e eq = ap (λ (l : List ℕ). link_step l v.sizes.records i) e
read_is v (Slots d) p q i e eq = λ k. record { may = both (ltb i v.sizes.slots) (eqb (e k i).kind FREE); next = link_to v.sizes.slots (e k i).handle.slot }
read_is v Trackers p q i e eq = λ k. record { may = both (ltb i v.sizes.records) (eqb (get_or (e k) i 0) 0); next = (eq k i).next }

pub step_is : (v : Tables) (s : Stack) (p q : List ℕ) (n i : ℕ) (x : Step) → Lent v s p → record_in q ≡ record_at v → n ≡ slots_of v s → x ≡ step_in s p q n i → x ≡ step_of v s i
step_is v s p q n i x e eq en ex = ex ∙ ap (λ m. step_in s p q m i) en ∙ read_is v s p q i e eq
