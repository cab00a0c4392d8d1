-- A region made, freed, and left alone: the steps on the region pool and the region's row. A new region's slot is in no child list, because children are
-- live, so its row has no next link.
use Rattle.std.specs.Prelude.{◌≡◌, ℕ, ◌-◌, ◌^◌, ◌<◌, List, [], ◌∷◌, T, eqb, length, set, Some, None}
use Rattle.std.proofs.Math.Path.{refl}
use Rattle.std.proofs.Common.{sym, ap, ◌∙◌, arith}
use Rattle.std.proofs.Math.Option.{Option, none, some}
use Rattle.base.specs.Cases.{lt, ge, cmp}
use Rattle.model.specs.Lists.{Each, one_if, is_some, count_if, at_slot, In, after_in}
use Rattle.model.specs.Outcome.{Outcome, ok, refuse, ◌>>=◌}
use Rattle.refusals.specs.declared.Refusal.{Refusal}
use Rattle.refusals.specs.Refusals.{no_region}
use Rattle.model.specs.State as state
use Rattle.model.specs.State.{State, Kind, Root, Alias, Carve, parent_of, region_in}
use Rattle.model.specs.Pool.{allocate, free}
use Rattle.model.specs.Regions as model
use Rattle.model.specs.Layout.{link, kind_word, siblings}
use Rattle.model.specs.Sound.{PoolSound, slot_uses}
use Rattle.laws.specs.Tree.Slots.{each_in, in-length}
use Rattle.laws.specs.Lists.{not-used}
use Rattle.tables.specs.declared.Handle.{Handle}
use Rattle.tables.specs.declared.RegionCapa.{RegionCapa}
use Rattle.tables.specs.Tables as rows
use Rattle.tables.specs.Tables.{Tables, Arena, with_region_pool, with_region, with_hash}
use Rattle.arena.specs.Arena.{given, allocated}
use Rattle.pools.specs.Wiping.{slot_freed}
use Rattle.answers.specs.Answers.{Effect, done, refused}
use Rattle.region.specs.declared.AccessRights.{AccessRights}
use Rattle.segment.specs.Regions.{capa_for, new_region, freed_region}
use Rattle.decoded.specs.Links.{after-out}
use Rattle.refine.specs.Arenas.Pools.{given-first, given-none, first-unused}
use Rattle.refine.specs.Arenas.PoolSlots.{region-made, region-freed, wiped-refines}
use Rattle.refine.specs.Tree.ChildLists.{link-to}
use Rattle.refine.specs.Tree.ChildChecks.{access_for}
use Rattle.refine.specs.Agrees.{Agrees, agrees-step, agrees-call, agrees-done, agrees-refused, ok-then, bind_assoc, bind-same}
use Rattle.decoded.specs.Tables.{pool_of, region_for, tables_of}

-- a step and a call that are accepted, or refused, alike
pub agrees-ok : (x : Effect) (m : Outcome (ℕ × State)) (v : ℕ) (t : Tables) (s : State) → x ≡ done v t → m ≡ ok (v, s) → t ≡ tables_of s → Agrees x m
agrees-ok x m v t s e f h = agrees-step x (done v t) m e (agrees-call (done v t) m (ok (v, s)) f (agrees-done v t s h))

pub agrees-no : (x : Effect) (m : Outcome (ℕ × State)) (r : Refusal) (t : Tables) → x ≡ refused r t → m ≡ refuse r → Agrees x m
agrees-no x m r t e f = agrees-step x (refused r t) m e (agrees-call (refused r t) m (refuse r) f (agrees-refused r t))

-- every child in every list is live
abbrev pub ChildrenLive : List (Option state.Region) → Type 0
ChildrenLive rs = (p : ℕ) (g : state.Region) → In rs p g → Each (λ c. T (is_some (at_slot rs c))) g.children

-- a free slot is in no list
module _ (rs : List (Option state.Region)) (live : ChildrenLive rs) (i : ℕ) (free : at_slot rs i ≡ none) where
  in-none : (p : ℕ) (o : Option state.Region) → at_slot rs p ≡ o → after_in (region_in rs p).children i ≡ none
  in-none p none e = rw e
  in-none p (some g) e =
      let out : count_if (eqb i) g.children ≡ 0 = elim (cmp 0 (count_if (eqb i) g.children)) [
        | lt h ↦ absurd (rw free at (each_in (λ c. T (is_some (at_slot rs c))) g.children (live p g e) i h))
        | ge h ↦ omega arith
      ] in
      rw e (after-out g.children i out)

  no-next : (k : Kind) → after_in (siblings rs k) i ≡ none
  no-next Root = refl
  no-next (Alias p) = in-none p (at_slot rs p) refl
  no-next (Carve p) = in-none p (at_slot rs p) refl

-- ---- a region is made

made_at_lem : (r : RegionCapa) (t : Tables) (h : Handle) → given t.region_pool ≡ Some h → new_region r t ≡ done h.slot (with_region (with_region_pool t (allocated t.region_pool)) h.slot r)
unfolding new_region
made_at_lem r t h e = rw (new_region, e)

made_none : (r : RegionCapa) (t : Tables) → given t.region_pool ≡ None → new_region r t ≡ refused no_region (with_region_pool t (allocated t.region_pool))
unfolding new_region
made_none r t e = rw (new_region, e)

first-given : (r : Refusal) (p : state.Pool) (i : ℕ) (is : List ℕ) → p.free ≡ i ∷ is → allocate r p ≡ ok (i, record { gens = p.gens; free = is })
unfolding allocate
first-given r p i is e = ap (λ (l : List ℕ). elim l [ [] ↦ refuse r | j ∷ js ↦ ok (j, record { gens = p.gens; free = js }) ]) e

none-given : (r : Refusal) (p : state.Pool) → p.free ≡ [] → allocate r p ≡ refuse r
unfolding allocate
none-given r p e = ap (λ (l : List ℕ). elim l [ [] ↦ refuse r | j ∷ js ↦ ok (j, record { gens = p.gens; free = js }) ]) e

module _ (s : State) (long : length s.regions ≡ s.sizes.regions) (sound : PoolSound s.sizes.regions (slot_uses s.regions) s.region_pool) (live : ChildrenLive s.regions) (d : ℕ) (small : d < 2 ^ 64 - 1) (k : Kind) (a : AccessRights) where
  abbrev made : state.Region
  made = record { owner = d; kind = k; start = a.start; end = a.end; rights = a.ops.0; children = []; hash = none }

  abbrev capa : RegionCapa
  capa = capa_for d (kind_word k) (link (parent_of k)) a

  capa-is : (i : ℕ) → at_slot s.regions i ≡ none → region_for s.regions i (some made) ≡ capa
  capa-is i e =
      let o = sym (link-to d small) in
      let n = ap link (no-next s.regions live i e k) in
      λ t. record { kind = kind_word k; owner = o t; parent = link (parent_of k); start = a.start; end = a.end; rights = a.ops.0; child = 0; next = n t }

  model-made : (i : ℕ) (is : List ℕ) → s.region_pool.free ≡ i ∷ is
      → model.new_region d k (access_for a) s ≡ ok (i, state.with_regions (record { gens = s.region_pool.gens; free = is }) (set s.regions i (some made)) s)
  unfolding model.new_region ◌>>=◌
  model-made i is e = rw (model.new_region, first-given no_region s.region_pool i is e)

  model-none : s.region_pool.free ≡ [] → model.new_region d k (access_for a) s ≡ refuse no_region
  unfolding model.new_region ◌>>=◌
  model-none e = rw (model.new_region, none-given no_region s.region_pool e)

  pool-here : (tables_of s).region_pool ≡ pool_of s.sizes.regions s.region_pool
  unfolding tables_of
  pool-here = refl

  by-free : (is : List ℕ) → s.region_pool.free ≡ is → Agrees (new_region capa (tables_of s)) (model.new_region d k (access_for a) s)
  by-free [] e =
      let full : given (tables_of s).region_pool ≡ None = ap given pool-here ∙ ap (λ l. given (pool_of s.sizes.regions (record { gens = s.region_pool.gens; free = l }))) e ∙ given-none s.sizes.regions s.region_pool.gens in
      agrees-no _ _ no_region _ (made_none capa (tables_of s) full) (model-none e)
  by-free (i ∷ is) e =
      let at = ap given pool-here ∙ given-first s.sizes.regions (slot_uses s.regions) s.region_pool sound i is e in
      let o = not-used (at_slot s.regions i) (first-unused s.sizes.regions (slot_uses s.regions) s.region_pool sound i is e) in
      agrees-ok _ _ i _ _ (made_at_lem capa (tables_of s) _ at) (model-made i is e) (
      ap (λ (q : RegionCapa). with_region (with_region_pool (tables_of s) (allocated (tables_of s).region_pool)) i q) (sym (capa-is i o))
      ∙ ap (λ (q : Arena). with_region (with_region_pool (tables_of s) (allocated q)) i (region_for s.regions i (some made))) pool-here
      ∙ sym (region-made s i is made long sound e refl refl))

  -- kind word and parent link are 1 and 0 of a root, 2 or 3 and the parent's link of a child
  pub new-region-refines : Agrees (new_region (capa_for d (kind_word k) (link (parent_of k)) a) (tables_of s)) (model.new_region d k (access_for a) s)
  new-region-refines = by-free s.region_pool.free refl

-- ---- a region is freed

module _ (s : State) (long : length s.regions ≡ s.sizes.regions) (sound : PoolSound s.sizes.regions (slot_uses s.regions) s.region_pool) (i : ℕ) (g : state.Region) (at : In s.regions i g) (leaf : g.children ≡ []) where
  model-frees : ◌>>=◌ {B = ℕ × State} (model.free_region i s) (λ t. ok (0, t)) ≡ (free i s.region_pool >>= λ q. ok (0, state.with_regions q (set s.regions i none) s))
  unfolding model.free_region
  model-frees = bind_assoc _ _ _ ∙ bind-same _ _ _ (λ q. ok-then _ _)

  pub free-region-refines : Agrees (freed_region i (tables_of s)) (model.free_region i s >>= λ s₁. ok (0, s₁))
  unfolding freed_region slot_freed tables_of
  free-region-refines =
      agrees-call _ _ _ model-frees
      (wiped-refines s.sizes.regions (slot_uses s.regions) s.region_pool sound i (omega (arith, in-length s.regions i g at, long)) (ap (λ o. one_if (is_some o)) at) (tables_of s)
      (λ a. with_hash (with_region (with_region_pool (tables_of s) a) i rows.no_region) i rows.no_hash) _ (region-freed s long i g at leaf))
