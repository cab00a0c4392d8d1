-- How the counts of sound regions change, at every domain and address, for the reach and the four rights: a region is added, a
-- region that nothing hangs under is removed (the same, read backwards), a region changes its owner or its hash, or extends its rights. And what is lost was
-- there.
use Rattle.std.specs.Prelude.{◌≡◌, ◌≢◌, ℕ, ◌+◌, ◌≤◌, ◌<◌, false, List, [], eqb, if◌then◌else◌}
use Rattle.std.proofs.Common.{sym, ap, ◌∙◌, arith}
use Rattle.std.proofs.Math.Option.{Option, none, some}
use Rattle.base.specs.Cases.{lt, ge, cmp}
use Rattle.base.specs.Options.{none-some}
use Rattle.model.specs.Lists.{one_if, count_if, at_slot, In}
use Rattle.model.specs.State.{Hash, Region, Kind, Carve, with_owner, with_rights_hash}
use Rattle.model.specs.Fields.{Field, counter}
use Rattle.model.specs.Tree.{is_carve, Range, children_of, effective_from}
use Rattle.model.specs.Counts.{region_count}
use Rattle.laws.specs.Tree.Slots.{in-length}
use Rattle.laws.specs.Tree.Shares.{grant, share, carve, carve_of, child_of, child, carved, clear, clear-0, clear-s, within-pos}
use Rattle.laws.specs.Tree.Facts.{Regions, under, lies, self, own, carve-child, listing}
use Rattle.laws.specs.Tree.Extends.{Extends}
use Rattle.laws.specs.Tree.Carved.{carved-none, carved-dead, carved-le}
use Rattle.laws.specs.Tree.Change.{bare, Changed, turned, carved-change}
use Rattle.laws.specs.Tree.Added.{tally-change, tally-plain, tally-carve}
use Rattle.laws.specs.Tree.Rule.{Fits}
use Rattle.laws.specs.Tree.CountsInclude.{CountsInclude, counts-include}
use Rattle.laws.specs.Tree.Pieces.{spread}
use Rattle.laws.specs.Tree.Effective.{effective-spread}
use Rattle.laws.specs.Within.{within, within_in}

-- from rs to rs' the owner of g gains its range, at every domain and address
abbrev pub Gains : List (Option Region) → List (Option Region) → Region → Type 0
Gains rs rs' g = (f : Field) (d a : ℕ) → region_count f rs' d a ≡ region_count f rs d a + share f (some g) d a

-- and the owner of h loses that range with the rights of h
abbrev pub Exchanges : List (Option Region) → List (Option Region) → Region → Region → Type 0
Exchanges rs rs' g h = (f : Field) (d a : ℕ) → region_count f rs' d a + grant f h.owner g.start g.end h.rights d a ≡ region_count f rs d a + share f (some g) d a

-- the ranges leave the owner of g and join domain o, with the rights of g
abbrev pub Moves : List (Option Region) → List (Option Region) → Region → ℕ → List Range → Type 0
Moves rs rs' g o l = (f : Field) (d a : ℕ) → region_count f rs' d a + spread (if eqb g.owner d then counter f g.rights else 0) l a ≡ region_count f rs d a + spread (if eqb o d then counter f g.rights else 0) l a

-- every count stays
abbrev pub SameCounts : List (Option Region) → List (Option Region) → Type 0
SameCounts rs rs' = (f : Field) (d a : ℕ) → region_count f rs' d a ≡ region_count f rs d a

carve-of : (k : Kind) (p : ℕ) → k ≡ Carve p → (q : ℕ) → carve_of k q ≡ one_if (eqb p q)
carve-of k p e q = rw e

module _ (rs : List (Option Region)) (s : Regions rs) where
  -- ---- a region is added in a free slot

  module _ (rs' : List (Option Region)) (i : ℕ) (free : at_slot rs i ≡ none) (g : Region) (t : Changed rs rs' i none (some g)) where
    -- a root or an alias
    pub add-plain : is_carve g.kind ≡ false → Gains rs rs' g
    add-plain z f d a = tally-plain rs rs' i g t a (carved-dead rs i a s free) z f d

    -- a carve of region h in slot p
    module _ (p : ℕ) (h : Region) (at : In rs p h) (e : g.kind ≡ Carve p) (r : Fits rs p g) where
      -- nothing of the parent was carved in the range
      uncarved : (a : ℕ) → g.start ≤ a → a < g.end → carved rs p a ≡ 0
      uncarved a u v = carved-none rs p a (λ k c. let z = r.off_carves k c.region c.is c.of (omega (arith, c.low, c.high)) in omega (arith, c.low, c.high))

      -- the parent's owner loses the range with the parent's rights
      pub add-carve : Exchanges rs rs' g h
      add-carve f d a =
          let l = lies rs p g h r.under at in
          tally-carve rs rs' i g t a (carved-dead rs i a s free) p h (in-length rs p h at) (λ o. none-some (at_slot rs i) h free (rw (← o) at at)) (ap bare at) l.0 l.1 (carve-of g.kind p e) (uncarved a) f d

      pub added-include : (a : ℕ) → g.start ≤ a → a < g.end → CountsInclude rs h.owner a h.rights
      added-include a u v = let l = lies rs p g h r.under at in counts-include rs p h at a (omega arith) (omega arith) (uncarved a u v)

  -- ---- a region that nothing hangs under is removed

  module _ (rs' : List (Option Region)) (i : ℕ) (g : Region) (e : In rs i g) (empty : g.children ≡ []) (t : Changed rs rs' i (some g) none) where
    whole : (a : ℕ) → carved rs i a ≡ 0
    whole a = carved-none rs i a (λ k c. omega (arith, sym (listing rs s i g e k) ∙ ap (count_if (eqb k)) empty, ap (λ (x : Option Region). child x i) c.is, carve-child c.region.kind i, c.of))

    left : (k a : ℕ) → carved rs' k a + carve (some g) k a ≡ carved rs k a
    left k a = omega (arith, carved-change rs rs' i (some g) none t k a)

    -- an alias (or a root)
    pub remove-plain : is_carve g.kind ≡ false → Gains rs' rs g
    remove-plain z f d a = tally-plain rs' rs i g (turned rs rs' i (some g) none t) a (omega (arith, left i a, whole a)) z f d

    -- a carve: the parent's owner gains the range with the parent's rights
    pub remove-carve : (p : ℕ) (h : Region) → In rs p h → g.kind ≡ Carve p → Exchanges rs' rs g h
    remove-carve p h at q f d a =
        let c : carve_of g.kind p ≡ 1 = carve-of g.kind p q p ∙ self p in
        let o : 0 < child_of g.kind p = omega (arith, carve-child g.kind p) in
        let l = lies rs p g h (under rs s i p g e o) at in
        let apart : i ≢ p = λ n. omega (arith, own rs s i g e, ap (child_of g.kind) n) in
        tally-carve rs' rs i g (turned rs rs' i (some g) none t) a (omega (arith, left i a, whole a)) p h (omega (arith, t.size, in-length rs p h at)) apart (t.others p (λ n. apart (sym n)) ∙ ap bare at) l.0 l.1 (carve-of g.kind p q)
        (λ u v. omega (arith, left p a, carved-le rs p a s, within_in g.start g.end a (carve_of g.kind p) 0 u v)) f d

    pub removed-include : (a : ℕ) → g.start ≤ a → a < g.end → CountsInclude rs g.owner a g.rights
    removed-include a u v = counts-include rs i g e a u v (whole a)

  -- ---- a region changes its owner

  module _ (i : ℕ) (g : Region) (e : In rs i g) where
    abbrev ranges : List Range
    ranges = effective_from g.start g.end (children_of rs g)

    -- each effective range leaves the old owner and joins the new one
    pub changes-owner : (rs' : List (Option Region)) (o : ℕ) → Changed rs rs' i (some g) (some (with_owner o g)) → Moves rs rs' g o ranges
    changes-owner rs' o t f d a = omega (
      arith,
      tally-change rs rs' i (some g) (some (with_owner o g)) t f d a (λ k. omega (arith, carved-change rs rs' i (some g) (some (with_owner o g)) t k a)),
      effective-spread rs s i g e (if eqb g.owner d then counter f g.rights else 0) a,
      effective-spread rs s i g e (if eqb o d then counter f g.rights else 0) a,
    )

    pub owner-include : (a : ℕ) → 0 < spread 1 ranges a → CountsInclude rs g.owner a g.rights
    owner-include a h = elim (cmp 0 (carved rs i a)) [
      | lt u ↦ absurd (omega (arith, effective-spread rs s i g e 1 a, clear-s (carved rs i a) (within g.start g.end a 1 0) u))
      | ge u ↦ let z : carved rs i a ≡ 0 = omega arith in
          let w = within-pos g.start g.end a 1 (omega (arith, effective-spread rs s i g e 1 a, clear-0 (carved rs i a) (within g.start g.end a 1 0) z)) in
          counts-include rs i g e a w.0 w.1 z
    ]

-- ---- a region extends its rights, and gets another hash: it counts as before

module _ (rs rs' : List (Option Region)) (i : ℕ) (g : Region) (n : ℕ) (y : Option Hash) (x : Extends g.rights n) (t : Changed rs rs' i (some g) (some (with_rights_hash n y g))) where
  pub extends-counts : SameCounts rs rs'
  extends-counts f d a = omega (
    arith,
    tally-change rs rs' i (some g) (some (with_rights_hash n y g)) t f d a (λ k. omega (arith, carved-change rs rs' i (some g) (some (with_rights_hash n y g)) t k a)),
    ap (λ (c : ℕ). clear (carved rs i a) (within g.start g.end a (if eqb g.owner d then c else 0) 0)) (x.counted f),
  )
