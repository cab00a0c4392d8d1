-- A region is sent: the code walks the child list and moves the piece before each carve and the last piece, the model makes the list of pieces first.
-- Invariant of the walk: the regions are as they were when it began, since a step on a tracker leaves them, and each piece raises the bound of the
-- counts by one. Empty pieces are dropped on both sides.
use Rattle.std.specs.Prelude.{◌≡◌, Bool, true, false, List, [], ◌∷◌, ◌++◌, map, length, get_or, if◌then◌else◌}
use Rattle.std.proofs.Math.Path.{refl, ap}
use Rattle.std.proofs.Common.{sym, ap₂, ◌∙◌, lit<, length-set, get_or-set_same, get_or-set_other}
use Prim.Native.Nat.{ℕ, zero, suc, ◌+◌, ◌-◌, ◌^◌, ◌<◌}
use Rattle.std.proofs.Math.Option.{Option, none, some}
use native.Mathlib.Omega.{arith}
use Rattle.std.proofs.Math.Dec.{eqb}
use borrow.Author.Tests.{lt-ltb, le-ltb, ne_eqb}
use Rattle.base.specs.Cases.{lt, ge, cmp, holds, fails, test}
use Rattle.model.specs.Lists.{count_if, at_slot, In, first_of}
use Rattle.model.specs.Outcome.{Outcome, ok, ◌>>=◌}
use Rattle.model.specs.State as state
use Rattle.model.specs.State.{State, region_in, with_owner, put_region}
use Rattle.model.specs.Tree.{Range, is_carve, piece, effective_from, effective_ranges}
use Rattle.model.specs.Regions as model
use Rattle.model.specs.Regions.{send_ranges}
use Rattle.model.specs.Layout.{link, kind_word}
use Rattle.laws.specs.Accepted.{All, accepted, bind, weaken, all-ok}
use Rattle.laws.specs.Stack.{one}
use Rattle.laws.specs.Tree.Slots.{in-length, live-is}
use Rattle.laws.specs.Tree.Steps.{region-at}
use Rattle.laws.specs.Keep.SameDomains.{SameOutside, same-domains-live, same-outside-self, same-outside-then}
use Rattle.laws.specs.Keep.BaseSteps.{Live, region-base}
use Rattle.laws.specs.Keep.Whole.{Whole}
use Rattle.tables.specs.declared.RegionCapa.{RegionCapa}
use Rattle.tables.specs.Tables as records
use Rattle.tables.specs.Tables.{Tables, no_region, region_at, with_region}
use Rattle.answers.specs.Answers.{Effect, and_then}
use Rattle.tables.specs.Links.{link_to}
use Rattle.domain.specs.Activate.{activate, deactivate}
use Rattle.segment.specs.Regions.{access, move_piece, send_from, send_region}
use Rattle.refine.specs.Agrees.{Agrees, agrees-step, agrees-call, agrees-state, bind_assoc, bind-same, bind_ok, ok-then}
use Rattle.decoded.specs.Tree.Regions.{region-read, owner-put}
use Rattle.refine.specs.Tree.Search.{Chained, Children, children-few, regions-children, children-chained}
use Rattle.refine.specs.Tree.ChildLists.{link-to}
use Rattle.refine.specs.Tree.ChildChecks.{carve-word}
use Rattle.refine.specs.Calls.Bounds.{Bounded, bounded-raisable, bounded-more, gain-bounded, loss-bounded, regions-few, whole-bounded}
use Rattle.decoded.specs.Tables.{region_for, regions_for, tables_of}
use Rattle.refine.specs.Calls.Activate.{plain, follows_range, gain-refines, loss-refines}

-- ---- the rows of the children that are left

abbrev Rows : Tables → List (Option state.Region) → List ℕ → Type 0
Rows t rs [] = Unit {0}
Rows t rs (c ∷ cs) =
    ((region_at t c).kind ≡ kind_word (region_in rs c).kind) × ((region_at t c).start ≡ (region_in rs c).start) × ((region_at t c).end ≡ (region_in rs c).end)
    × ((region_at t c).next ≡ link (first_of cs)) × Rows t rs cs

rows_same : (t u : Tables) (rs : List (Option state.Region)) (cs : List ℕ) → ((c : ℕ) → region_at u c ≡ region_at t c) → Rows t rs cs → Rows u rs cs
rows_same t u rs [] e h = tt
rows_same t u rs (c ∷ cs) e h =
    let f : (k : RegionCapa → ℕ) → k (region_at u c) ≡ k (region_at t c) = λ k. ap k (e c) in
    (f (λ q. q.kind) ∙ h.0, f (λ q. q.start) ∙ h.1, f (λ q. q.end) ∙ h.2, f (λ q. q.next) ∙ h.3, rows_same t u rs cs e h.4)

rows_of : (t : Tables) (rs : List (Option state.Region)) (cs : List ℕ) → Chained t cs
    → ((c : ℕ) → 0 < count_if (eqb c) cs → ((region_at t c).kind ≡ kind_word (region_in rs c).kind) × ((region_at t c).start ≡ (region_in rs c).start) × ((region_at t c).end ≡ (region_in rs c).end))
    → Rows t rs cs
rows_of t rs [] h f = tt
rows_of t rs (c ∷ cs) h f =
    let k = f c (omega (arith, one c c refl)) in
    (k.0, k.1, k.2, h.0, rows_of t rs cs h.1 (λ d n. f d (omega arith)))

-- a step on a tracker leaves the rows
same-outside-row : (s t : State) → SameOutside s t → (c : ℕ) → region_at (tables_of t) c ≡ region_at (tables_of s) c
unfolding tables_of region_at
same-outside-row s t b c = ap₂ (λ n rs. get_or (regions_for n rs) c no_region) (ap (λ z. z.regions) b.same_domains.sizes) b.regions

-- ---- the ranges that the model sends

ranges-append : (old new r : ℕ) (l m : List Range) (s : State) → send_ranges old new r (l ++ m) s ≡ send_ranges old new r l s >>= λ t. send_ranges old new r m t
unfolding send_ranges
ranges-append old new r [] m s = sym (ok-then s (λ t. send_ranges old new r m t))
ranges-append old new r (x ∷ l) m s =
    bind-same _ _ _ (λ s₁. bind-same _ _ _ (λ s₂. ranges-append old new r l m s₂) ∙ sym (bind_assoc _ _ _)) ∙ sym (bind_assoc _ _ _)

module _ (old new r : ℕ) (byte : r < 256) where
  -- ---- one piece

  module _ (b : ℕ) (s : State) (h : Bounded b s) (small : suc b < 2 ^ 64 - 1) (lo : Live s old) (ln : Live s new) (x y : ℕ) where
    abbrev once : Outcome State
    once = model.deactivate [] old (record { start = x; end = y; rights = r }) s >>= λ s₁. model.activate [] new (record { start = x; end = y; rights = r }) s₁

    module _ (z : x < y) where
      moves : Agrees (and_then (deactivate 0 old (access x y r) (tables_of s)) (λ v. activate 0 new (access x y r))) (plain once)
      moves =
          agrees-call _ (plain once) (model.deactivate [] old (record { start = x; end = y; rights = r }) s >>= λ s₁. plain (model.activate [] new (record { start = x; end = y; rights = r }) s₁)) (bind_assoc _ _ _)
          (agrees-state (deactivate 0 old (access x y r) (tables_of s)) (activate 0 new (access x y r)) (model.deactivate [] old (record { start = x; end = y; rights = r }) s) (λ s₁. plain (model.activate [] new (record { start = x; end = y; rights = r }) s₁))
          (follows_range (deactivate 0) (model.deactivate []) loss-refines s old x y r byte (bounded-raisable b s (omega arith) h) lo z)
          (λ s₁ e.
          let (k, n) = all-ok _ _ s₁ (loss-bounded [] b s h old lo (record { start = x; end = y; rights = r }) z) e in
          follows_range (activate 0) (model.activate []) gain-refines s₁ new x y r byte (bounded-raisable b s₁ (omega arith) k) (same-domains-live n.same_domains new ln) z))

      once-bounded : All (λ t. Bounded (suc b) t × SameOutside s t) once
      once-bounded =
          bind (loss-bounded [] b s h old lo (record { start = x; end = y; rights = r }) z) (λ s₁ (k, n).
          weaken (gain-bounded [] b s₁ k new (same-domains-live n.same_domains new ln) (record { start = x; end = y; rights = r }) z) (λ s₂ (k₂, n₂). (k₂, same-outside-then n n₂)))

      one-range : send_ranges old new r ((x, y) ∷ []) s ≡ once
      unfolding send_ranges
      one-range = bind-same _ _ _ (λ s₁. bind_ok _)

    piece-bounded : All (λ t. Bounded (suc b) t × SameOutside s t) (send_ranges old new r (piece x y) s)
    unfolding send_ranges
    piece-bounded = elim (cmp x y) [
      | lt z ↦ rw (lt-ltb x y z, one-range z) (once-bounded z)
      | ge z ↦ rw (le-ltb x y z) (accepted (bounded-more b (suc b) s (omega arith) h, same-outside-self s))
    ]

    piece-refines : Agrees (move_piece old new r x y (tables_of s)) (plain (send_ranges old new r (piece x y) s))
    unfolding move_piece send_ranges ◌>>=◌
    piece-refines = elim (cmp x y) [
      | lt z ↦ rw (move_piece, lt-ltb x y z, one-range z) (moves z)
      | ge z ↦ rw (move_piece, le-ltb x y z) (refl, refl)
    ]

  -- ---- the walk

  module _ (e : ℕ) where
    from_end : (n x : ℕ) (t : Tables) → send_from old new r e (suc n) x 0 t ≡ move_piece old new r x e t
    unfolding send_from
    from_end n x t = refl

    module _ (n x c : ℕ) (t : Tables) (nx : ℕ) (en : (region_at t c).next ≡ nx) where
      from-carve : (st ed : ℕ) → eqb (region_at t c).kind 3 ≡ true → (region_at t c).start ≡ st → (region_at t c).end ≡ ed
          → send_from old new r e (suc n) x (suc c) t ≡ and_then (move_piece old new r x st t) (λ v. send_from old new r e n ed nx)
      unfolding send_from
      from-carve st ed k es ee = let z : suc c - 1 ≡ c = omega arith in rw (send_from, ne_eqb (suc c) 0 (λ q. omega arith), z, k, es, ee, en)

      from-other : eqb (region_at t c).kind 3 ≡ false → send_from old new r e (suc n) x (suc c) t ≡ send_from old new r e n x nx t
      unfolding send_from
      from-other k = let z : suc c - 1 ≡ c = omega arith in rw (send_from, ne_eqb (suc c) 0 (λ q. omega arith), z, k, en)

    module _ (rs : List (Option state.Region)) where
      abbrev ranges : ℕ → List ℕ → List Range
      ranges x cs = effective_from x e (map (region_in rs) cs)

      -- what is to be shown of the children cs
      unfoldable Sent : List ℕ → Type 0
      Sent cs = (n b x : ℕ) (s : State) → length cs < n → suc (b + length cs) < 2 ^ 64 - 1 → Bounded b s → Live s old → Live s new → Rows (tables_of s) rs cs
          → Agrees (send_from old new r e n x (link (first_of cs)) (tables_of s)) (plain (send_ranges old new r (ranges x cs) s))

      sent-none : Sent []
      unfolding Sent
      sent-none zero b x s f small h lo ln q = absurd (omega arith)
      sent-none (suc n) b x s f small h lo ln q =
          agrees-step (send_from old new r e (suc n) x 0 (tables_of s)) (move_piece old new r x e (tables_of s)) (plain (send_ranges old new r (piece x e) s)) (from_end n x (tables_of s)) (piece-refines b s h (omega arith) lo ln x e)

      module _ (c : ℕ) (cs : List ℕ) (rest : Sent cs) (n b x : ℕ) (s : State) (f : length cs < n) (small : suc (b + suc (length cs)) < 2 ^ 64 - 1) (h : Bounded b s) (lo : Live s old) (ln : Live s new) (q : Rows (tables_of s) rs (c ∷ cs)) where
        abbrev y : state.Region
        y = region_in rs c

        -- a carve: the piece before it, then from its end on
        then-carve : is_carve y.kind ≡ true → plain (send_ranges old new r (ranges x (c ∷ cs)) s) ≡ (send_ranges old new r (piece x y.start) s >>= λ t. plain (send_ranges old new r (ranges y.end cs) t))
        then-carve t =
            ap (λ (d : Bool). plain (send_ranges old new r (if d then piece x y.start ++ ranges y.end cs else ranges x cs) s)) t
            ∙ ap plain (ranges-append old new r (piece x y.start) (ranges y.end cs) s)
            ∙ bind_assoc _ _ _

        carve-goes : is_carve y.kind ≡ true → Agrees (and_then (move_piece old new r x y.start (tables_of s)) (λ v. send_from old new r e n y.end (link (first_of cs)))) (send_ranges old new r (piece x y.start) s >>= λ t. plain (send_ranges old new r (ranges y.end cs) t))
        unfolding Sent
        carve-goes t =
            agrees-state (move_piece old new r x y.start (tables_of s)) (send_from old new r e n y.end (link (first_of cs))) (send_ranges old new r (piece x y.start) s) (λ u. plain (send_ranges old new r (ranges y.end cs) u))
            (piece-refines b s h (omega arith) lo ln x y.start)
            (λ u m.
            let (k, v) = all-ok _ _ u (piece-bounded b s h (omega arith) lo ln x y.start) m in
            rest n (suc b) y.end u f (omega arith) k (same-domains-live v.same_domains old lo) (same-domains-live v.same_domains new ln) (rows_same (tables_of s) (tables_of u) rs cs (same-outside-row s u v) q.4))

        one-child : Agrees (send_from old new r e (suc n) x (suc c) (tables_of s)) (plain (send_ranges old new r (ranges x (c ∷ cs)) s))
        unfolding Sent
        one-child = elim (test (is_carve y.kind)) [
          | holds t ↦
              agrees-step _ _ (plain (send_ranges old new r (ranges x (c ∷ cs)) s)) (from-carve n x c (tables_of s) (link (first_of cs)) q.3 y.start y.end (ap (λ (k : ℕ). eqb k 3) q.0 ∙ carve-word y.kind ∙ t) q.1 q.2)
              (agrees-call _ _ _ (then-carve t) (carve-goes t))
          | fails t ↦
              agrees-step _ _ (plain (send_ranges old new r (ranges x (c ∷ cs)) s)) (from-other n x c (tables_of s) (link (first_of cs)) q.3 (ap (λ (k : ℕ). eqb k 3) q.0 ∙ carve-word y.kind ∙ t))
              (agrees-call _ _ _ (ap (λ (d : Bool). plain (send_ranges old new r (if d then piece x y.start ++ ranges y.end cs else ranges x cs) s)) t)
              (rest n b x s f (omega arith) h lo ln q.4))
        ]

      sent-more : (c : ℕ) (cs : List ℕ) → Sent cs → Sent (c ∷ cs)
      unfolding Sent
      sent-more c cs rest zero b x s f small h lo ln q = absurd (omega arith)
      sent-more c cs rest (suc n) b x s f small h lo ln q = one-child c cs rest n b x s (omega arith) small h lo ln q

      sent-all : (cs : List ℕ) → Sent cs
      sent-all [] = sent-none
      sent-all (c ∷ cs) = sent-more c cs (sent-all cs)

-- ---- region g in slot i becomes domain new's

module _ (s : State) (b : ℕ) (bounded : Bounded b s) (room : b + 1026 < 2 ^ 64) (i : ℕ) (g : state.Region) (at : In s.regions i g) (children : Children s.regions i g.children) (byte : g.rights < 256) (owned : Live s g.owner) (new : ℕ) (ln : Live s new) where
  abbrev put : State
  put = put_region i (with_owner new g) s

  long : length s.regions ≡ s.sizes.regions
  long = bounded.0.regions.size

  put-long : length put.regions ≡ put.sizes.regions
  put-long = length-set s.regions i (some (with_owner new g)) ∙ long

  put-bounded : Bounded b put
  put-bounded = ((region-base s new bounded.0 ln i g (with_owner new g) at).0, record { form = bounded.1.form; pool = bounded.1.pool; low = bounded.1.low })

  small-new : new < 2 ^ 64 - 1
  small-new = let (x, e) = live-is (at_slot s.domains new) ln in omega (arith, in-length s.domains new x e, bounded.0.ring.slots)

  -- the children are as they were
  child-kept : (c : ℕ) → 0 < count_if (eqb c) g.children → at_slot put.regions c ≡ at_slot s.regions c
  child-kept c h = get_or-set_other s.regions i c (some (with_owner new g)) none (λ z. omega (arith, h, children.other, ap (λ (k : ℕ). count_if (eqb k) g.children) z))

  put-at : In put.regions i (with_owner new g)
  put-at = get_or-set_same s.regions i (some (with_owner new g)) none (in-length s.regions i g at)

  put-children : Children put.regions i g.children
  put-children = record { under = λ c h. let (y, e, q) = children.under c h in (y, child-kept c h ∙ e, q); once = children.once; other = children.other }

  rows : Rows (tables_of put) s.regions g.children
  rows = rows_of (tables_of put) s.regions g.children (children-chained put put-long i (with_owner new g) put-at put-children) (λ c h.
      let (y, e, q) = children.under c h in
      let r = region-read put put-long c y (child-kept c h ∙ e) in
      let m = sym (region-at s c y e) in
      (ap (λ w. w.kind) r ∙ ap (λ (w : state.Region). kind_word w.kind) m, ap (λ w. w.start) r ∙ ap (λ (w : state.Region). w.start) m, ap (λ w. w.end) r ∙ ap (λ (w : state.Region). w.end) m))

  abbrev from : ℕ → RegionCapa → Tables → Effect
  from n q t = send_from (q.owner - 1) new q.rights q.end n q.start q.child t

  same-regions : (tables_of s).sizes.regions ≡ s.sizes.regions
  unfolding tables_of
  same-regions = refl

  code-sends : send_region i new (tables_of s) ≡ from (suc s.sizes.regions) (region_for s.regions i (some g)) (tables_of put)
  unfolding send_region
  code-sends =
      ap (λ (n : ℕ). from (suc n) (region_at (tables_of s) i) (with_region (tables_of s) i (records.with_owner (region_at (tables_of s) i) (link_to new)))) same-regions
      ∙ ap (λ (q : RegionCapa). from (suc s.sizes.regions) q (with_region (tables_of s) i (records.with_owner q (link_to new)))) (region-read s long i g at)
      ∙ ap (λ (k : ℕ). from (suc s.sizes.regions) (region_for s.regions i (some g)) (with_region (tables_of s) i (records.with_owner (region_for s.regions i (some g)) k))) (link-to new small-new)
      ∙ ap (from (suc s.sizes.regions) (region_for s.regions i (some g))) (sym (owner-put s long i g at new))

  owner-slot : from (suc s.sizes.regions) (region_for s.regions i (some g)) (tables_of put) ≡ send_from g.owner new g.rights g.end (suc s.sizes.regions) g.start (link (first_of g.children)) (tables_of put)
  owner-slot = ap (λ (o : ℕ). send_from o new g.rights g.end (suc s.sizes.regions) g.start (link (first_of g.children)) (tables_of put)) (omega arith)

  model-sends : model.send_region i new s ≡ send_ranges g.owner new g.rights (effective_ranges s g) put
  unfolding model.send_region
  model-sends = ap (λ (h : state.Region). send_ranges h.owner new h.rights (effective_ranges s h) (put_region i (with_owner new h) s)) (region-at s i g at)

  send-region-bounded : Agrees (send_region i new (tables_of s)) (model.send_region i new s >>= λ s₁. ok (0, s₁))
  unfolding Sent
  send-region-bounded =
      agrees-step (send_region i new (tables_of s)) _ (plain (model.send_region i new s)) (code-sends ∙ owner-slot)
      (agrees-call _ (plain (model.send_region i new s)) _ (ap plain model-sends)
      (sent-all g.owner new g.rights byte g.end s.regions g.children (suc s.sizes.regions) b g.start put
      (omega (arith, children-few s.regions i g.children children, long)) (omega (arith, children-few s.regions i g.children children, regions-few s bounded.0)) put-bounded owned ln rows))

-- from tables that every call keeps
pub send-region-refines : (s : State) → Whole s → (i : ℕ) (g : state.Region) → In s.regions i g → (new : ℕ) → Live s new → Agrees (send_region i new (tables_of s)) (model.send_region i new s >>= λ s₁. ok (0, s₁))
send-region-refines s h i g at new ln =
    send-region-bounded s 1024 (whole-bounded s h) (lit< tt) i g at (regions-children s.regions h.0.regions i g at) (h.0.regions i g at).rights_byte (h.0.owners i g at) new ln
