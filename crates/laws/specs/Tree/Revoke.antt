-- A revoke visits the region and all below it, and nothing else: the number of live regions is fuel enough, and what each revoke of
-- a region without children keeps (P) the whole keeps. Measure: live regions less the rank, which falls for the first child and for the rest.
use Rattle.std.specs.Prelude.{◌≡◌, refl, ℕ, zero, suc, ◌+◌, ◌≤◌, ◌<◌, List, [], ◌∷◌, eqb, length}
use Rattle.std.proofs.Common.{sym, ap, ◌∙◌, arith}
use Rattle.std.proofs.Math.Option.{Option, none, some}
use Rattle.base.specs.Options.{none-some}
use Rattle.model.specs.Lists.{one_if, is_some, count_if, at_slot, In}
use Rattle.model.specs.Outcome.{◌>>=◌}
use Rattle.model.specs.State.{State, Region, parent_of, region_at}
use Rattle.model.specs.Regions.{revoke_leaf, revoke_region, live_count}
use Rattle.laws.specs.Accepted.{All, bind, weaken, both}
use Rattle.laws.specs.Tree.Sum.{sum, sum_lt}
use Rattle.laws.specs.Tree.Slots.{in-length, count-sum}
use Rattle.laws.specs.Tree.Shares.{child}
use Rattle.laws.specs.Tree.Facts.{Regions, under, has-parent, listing, self}
use Rattle.laws.specs.Tree.Change.{bare}
use Rattle.laws.specs.Tree.Shape.{child-of}
use Rattle.laws.specs.Tree.Rank.{Ranked, rank, ranked, rank-low}
use Rattle.laws.specs.Tree.Below.{Below, Revoked, was, revoked-last, revoked-both, not-below}
use Rattle.laws.specs.Tree.Steps.{region-at, leaf-regions}

-- ---- fewer live regions

alive-le : (x y : Option Region) → ((z : Region) → x ≡ some z → bare x ≡ bare y) → one_if (is_some x) ≤ one_if (is_some y)
alive-le none y s = omega arith
alive-le (some z) none s = absurd (none-some (bare (some z)) _ (s z refl) refl)
alive-le (some z) (some w) s = omega arith

pub fewer : (rs rs' : List (Option Region)) (i : ℕ) (g : Region) → In rs i g → Revoked rs i rs' → count_if is_some rs' < count_if is_some rs
fewer rs rs' i g e v =
    let w : List (Option Region) → ℕ → ℕ = λ l k. one_if (is_some (at_slot l k)) in
    omega (
      arith,
      count-sum is_some rs,
      count-sum is_some rs',
      ap (sum (w rs')) v.size,
      sum_lt (w rs') (w rs) (length rs) i (in-length rs i g e) (λ k. alive-le (at_slot rs' k) (at_slot rs k) (v.left k)) (omega (arith, ap (λ (x : Option Region). one_if (is_some x)) (v.gone i (Below.here refl)), ap (λ (x : Option Region). one_if (is_some x)) e)),
    )

pub ranked-left : (rs rs' : List (Option Region)) (r : ℕ → ℕ) (i : ℕ) → Ranked rs r → Revoked rs i rs' → Ranked rs' r
ranked-left rs rs' r i q v = record {
  root = λ k x e n. let w = was rs rs' k x (v.left k x e) e in q.root k w.0 w.1 (w.2 ∙ n);
  child = λ k p x e n. let w = was rs rs' k x (v.left k x e) e in q.child k p w.0 w.1 (w.2 ∙ n);
}

-- ---- the walk

-- the revoke of a region without children keeps P
unfoldable pub Leaves : List ℕ → (State → Type 0) → Type 0
Leaves closing P = (s : State) (i p : ℕ) (g h : Region) → P s → Regions s.regions → In s.regions i g → g.children ≡ [] → parent_of g.kind ≡ some p → In s.regions p h → All P (revoke_leaf closing i s)

module _ (closing : List ℕ) (P : State → Type 0) (leaf : Leaves closing P) (r : ℕ → ℕ) where
  abbrev pub Done : State → ℕ → State → Type 0
  Done s i t = P t × Revoked s.regions i t.regions

  unfoldable pub Ok : ℕ → Type 0
  Ok m = (s : State) (i p : ℕ) (g : Region) → P s → Regions s.regions → Ranked s.regions r → In s.regions i g → parent_of g.kind ≡ some p → count_if is_some s.regions ≤ m + r i → All (Done s i) (revoke_region closing m i s)

  ok-zero : Ok 0
  unfolding Ok
  ok-zero s i p g k z q e n f = absurd (omega (arith, rank-low s.regions z r q i g e))

  module _ (m : ℕ) (ok : Ok m) (s : State) (i p : ℕ) (g : Region) (k : P s) (z : Regions s.regions) (q : Ranked s.regions r) (e : In s.regions i g) (n : parent_of g.kind ≡ some p) (f : count_if is_some s.regions ≤ suc m + r i) where
    last : g.children ≡ [] → All (Done s i) (revoke_leaf closing i s)
    unfolding Leaves
    last empty =
        let u = under s.regions z i p g e (child-of g.kind p n) in
        weaken (both (leaf s i p g u.parent k z e empty n u.is) (leaf-regions closing i p g u.parent s e n u.is))
        (λ t h. (h.0, rw h.1 (revoked-last s.regions z i g e empty p u.parent u.is n)))

    module _ (c : ℕ) (cs : List ℕ) (l : g.children ≡ c ∷ cs) where
      first-child : (x : Option Region) → at_slot s.regions c ≡ x → 0 < child x i → (y : Region) × In s.regions c y × (parent_of y.kind ≡ some i)
      first-child none o h = absurd (omega arith)
      first-child (some y) o h = (y, o, has-parent y.kind i h)

      head : (y : Region) × In s.regions c y × (parent_of y.kind ≡ some i)
      head = first-child (at_slot s.regions c) refl (omega (arith, listing s.regions z i g e c, ap (count_if (eqb c)) l, self c))

      then : (t : State) → Done s c t → All (Done s i) (revoke_region closing m i t)
      unfolding Ok
      then t (k', u) =
          let y = head in
          let w = was t.regions s.regions i g (sym (u.kept i (not-below s.regions t.regions t.regions r i c q y.0 y.1 y.2 u))) e in
          weaken (ok t i p w.0 k' u.sound (ranked-left s.regions t.regions r c q u) w.1 (w.2 ∙ n) (omega (arith, fewer s.regions t.regions c y.0 y.1 u)))
          (λ t' h. (h.0, revoked-both s.regions t.regions t'.regions r i c q y.0 y.1 y.2 u h.1))

      again : All (Done s i) (revoke_region closing m c s >>= λ t. revoke_region closing m i t)
      unfolding Ok
      again = let y = head in bind (ok s c i y.0 k z q y.1 y.2 (omega (arith, q.child c i y.0 y.1 y.2))) then

    by-list : (ks : List ℕ) → g.children ≡ ks → All (Done s i) (elim ks [ [] ↦ revoke_leaf closing i s | c ∷ cs ↦ revoke_region closing m c s >>= λ t. revoke_region closing m i t ])
    by-list [] l = last l
    by-list (c ∷ cs) l = again c cs l

    one_more : All (Done s i) (revoke_region closing (suc m) i s)
    unfolding revoke_region
    one_more = by-list (region_at s i).children (ap (λ (x : Region). x.children) (sym (region-at s i g e)))

  ok-suc : (m : ℕ) → Ok m → Ok (suc m)
  unfolding Ok
  ok-suc m ok s i p g k z q e n f = one_more m ok s i p g k z q e n f

  pub ok-all : (m : ℕ) → Ok m
  ok-all zero = ok-zero
  ok-all (suc m) = ok-suc m (ok-all m)

-- the region and all below it go, nothing else does, and P is kept
pub revoke-all : (closing : List ℕ) (P : State → Type 0) → Leaves closing P → (s : State) (i p : ℕ) (g : Region) → P s → Regions s.regions → In s.regions i g → parent_of g.kind ≡ some p → All (λ t. P t × Revoked s.regions i t.regions) (revoke_region closing (live_count s) i s)
unfolding Ok
revoke-all closing P leaf s i p g k z e n = ok-all closing P leaf (rank s.regions z) (live_count s) s i p g k z (ranked s.regions z) e n (omega arith)
