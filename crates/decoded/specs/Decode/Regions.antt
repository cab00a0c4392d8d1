-- The regions read from their rows. A region stands in exactly its parent's list, once, so its sibling link is that list's, and a list has no more
-- members than there are regions.
use Rattle.std.specs.Prelude.{◌≡◌, refl, ℕ, ◌≤◌, ◌<◌, List, ◌∷◌, eqb, length, get_or}
use Rattle.std.proofs.Common.{ap, ◌∙◌, arith, ne_eqb}
use Rattle.std.proofs.Math.Option.{Option, none, some}
use Rattle.std.proofs.Math.Decide.{ℕ_discrete}
use Rattle.base.specs.Cases.{lt, ge, cmp}
use Rattle.model.specs.Lists.{one_if, count_if, at_slot, In, first_of, after_in}
use Rattle.model.specs.State as state
use Rattle.model.specs.State.{Kind, Root, Alias, Carve, parent_of}
use Rattle.model.specs.Layout.{link, kind_word}
use Rattle.laws.specs.Stack.{one_at_most}
use Rattle.laws.specs.Tree.Slots.{in-length, live-is, each_in}
use Rattle.laws.specs.Tree.Shares.{child}
use Rattle.laws.specs.Tree.Facts.{Regions, child-le, has-parent, listing, own}
use Rattle.laws.specs.Tree.Shape.{child-slots-at}
use Rattle.laws.specs.Test.Paths.{no_longer}
use Rattle.tables.specs.declared.RegionCapa.{RegionCapa}
use Rattle.tables.specs.declared.RegionHash.{RegionHash}
use Rattle.tables.specs.Tables.{no_region}
use Rattle.decoded.specs.Tree.Children.{sibling-list}
use Rattle.decoded.specs.Tables.{region_for, region_hash_for}
use Rattle.decoded.specs.Decode.Read.{kind_from, children_from, hash_from, region_from}
use Rattle.decoded.specs.Decode.Walks.{chain-walked, chained-after}

kind-read : (k : Kind) → kind_from (kind_word k) (link (parent_of k)) ≡ k
kind-read Root = refl
kind-read (Alias p) = refl
kind-read (Carve p) = refl

pub hash-read : (o : Option state.Hash) → hash_from (region_hash_for o) ≡ o
hash-read none = refl
hash-read (some x) = refl

-- ---- child lists

module _ (rs : List (Option state.Region)) (s : Regions rs) (p : ℕ) (g : state.Region) (at : In rs p g) where
  pub child-once : (c : ℕ) → count_if (eqb c) g.children ≤ 1
  child-once c = omega (arith, listing rs s p g at c, child-le (at_slot rs c) p)

  -- a child, with what it is
  pub member : (c : ℕ) → 0 < count_if (eqb c) g.children → (x : state.Region) × In rs c x × (parent_of x.kind ≡ some p)
  member c h =
      let l = live-is (at_slot rs c) (each_in _ g.children (s p g at).children_live c h) in
      (l.0, l.1, has-parent l.0.kind p (omega (arith, listing rs s p g at c, ap (λ o. child o p) l.1)))

  none-beyond : (c : ℕ) → length rs ≤ c → count_if (eqb c) g.children ≡ 0
  none-beyond c b = elim (cmp 0 (count_if (eqb c) g.children)) [
    | lt h ↦ let m = member c h in absurd (omega (arith, in-length rs c m.0 m.1))
    | ge h ↦ omega arith
  ]

  -- it has children that are regions, each once, and not itself: fewer than there are regions
  pub children-few : length g.children < length rs
  children-few = no_longer (length rs) (p ∷ g.children) beyond once
    where
      itself : count_if (eqb p) g.children ≡ 0
      itself = listing rs s p g at p ∙ ap (λ o. child o p) at ∙ own rs s p g at

      beyond : (c : ℕ) → length rs ≤ c → count_if (eqb c) (p ∷ g.children) ≡ 0
      beyond c b = omega (arith, none-beyond c b, ap one_if (ne_eqb c p (λ e. omega (arith, in-length rs p g at))))

      once : (c : ℕ) → count_if (eqb c) (p ∷ g.children) ≤ 1
      once c = elim (ℕ_discrete c p) [
        | yes e ↦ omega (arith, itself, ap (λ k. count_if (eqb k) g.children) e, one_at_most (eqb c p))
        | no ne ↦ omega (arith, child-once c, ap one_if (ne_eqb c p ne))
      ]

-- ---- n regions, with these rows

module _ (n : ℕ) (rs : List (Option state.Region)) (long : length rs ≡ n) (s : Regions rs) (rows : List RegionCapa)
    (row : (i : ℕ) (g : state.Region) → In rs i g → get_or rows i no_region ≡ region_for rs i (some g))
    (p : ℕ) (g : state.Region) (at : In rs p g) where
  next : (c : ℕ) → 0 < count_if (eqb c) g.children → (get_or rows c no_region).next ≡ link (after_in g.children c)
  next c h =
      let m = member rs s p g at c h in
      ap (λ (r : RegionCapa). r.next) (row c m.0 m.1)
      ∙ ap (λ l. link (after_in l c)) (sibling-list rs m.0.kind p m.2 ∙ child-slots-at rs p g at)

  children-read : children_from n rows (link (first_of g.children)) ≡ g.children
  children-read =
      chain-walked (λ i. (get_or rows i no_region).next) n g.children (omega (arith, children-few rs s p g at))
      (chained-after (λ i. (get_or rows i no_region).next) g.children (child-once rs s p g at) next)

  pub region-from : (x : RegionHash) → x ≡ region_hash_for g.hash → region_from n rows (get_or rows p no_region) x ≡ g
  region-from x e =
      let k = kind-read g.kind in
      let u = ap hash_from e ∙ hash-read g.hash in
      ap (λ r. region_from n rows r x) (row p g at)
      ∙ λ i. record { owner = g.owner; kind = k i; start = g.start; end = g.end; rights = g.rights; children = children-read i; hash = u i }
