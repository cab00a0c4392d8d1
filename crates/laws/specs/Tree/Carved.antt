-- Where a region is carved: a live carve of it covers the address. In sound regions there is at most one, and its parent covers the address.
use Rattle.std.specs.Prelude.{◌≡◌, refl, ℕ, ◌+◌, ◌≤◌, ◌<◌, List, length}
use Rattle.std.proofs.Common.{sym, ◌∙◌, arith}
use Rattle.std.proofs.Math.Option.{Option, none, some}
use Rattle.base.specs.Cases.{lt, ge, cmp, below, inside, above, pos}
use Rattle.base.specs.Options.{none-some}
use Rattle.model.specs.Lists.{at_slot, In}
use Rattle.model.specs.State.{Region}
use Rattle.laws.specs.Tree.Sum.{sum-get, sum-find, sum-unique}
use Rattle.laws.specs.Tree.Slots.{in-length}
use Rattle.laws.specs.Tree.Shares.{carve, carve_of, carved, carved-is, clear, clear-0, clear-s, within-pos}
use Rattle.laws.specs.Tree.Facts.{Regions, Under, under, apart, carve-child, child-le}
use Rattle.laws.specs.Within.{within, W, within_in}

-- 1 where the slot's region covers a
abbrev pub cover : Option Region → ℕ → ℕ
cover none a = 0
cover (some g) a = within g.start g.end a 1 0

-- slot k holds a carve of p over a
pub record Carving (rs : List (Option Region)) (p a k : ℕ) : Type 0 where
  pub region : Region
  pub is : In rs k region
  pub low : region.start ≤ a
  pub high : a < region.end
  pub of : 0 < carve_of region.kind p

carve-le : (x : Option Region) (p a : ℕ) → carve x p a ≤ 1
carve-le none p a = omega arith
carve-le (some g) p a = elim (pos g.start g.end a) [ below u ↦ simp W (omega arith) | inside u k ↦ simp W (omega (arith, carve-child g.kind p, child-le (some g) p)) | above u ↦ simp W (omega arith) ]

module _ (rs : List (Option Region)) (p a : ℕ) where
  carving-go : (k : ℕ) (x : Option Region) → at_slot rs k ≡ x → 0 < carve x p a → Carving rs p a k
  carving-go k none e h = absurd (omega arith)
  carving-go k (some g) e h = let w = within-pos g.start g.end a (carve_of g.kind p) h in record { region = g; is = e; low = w.0; high = w.1; of = w.2 }

  carving : (k : ℕ) → 0 < carve (at_slot rs k) p a → Carving rs p a k
  carving k h = carving-go k (at_slot rs k) refl h

  pub carved-find : 0 < carved rs p a → (k : ℕ) × Carving rs p a k
  carved-find h = let r = sum-find (λ k. carve (at_slot rs k) p a) (length rs) (omega (arith, carved-is rs p a)) in (r.at, carving r.at r.counts)

  pub carved-none : ((k : ℕ) → Carving rs p a k → ⊥) → carved rs p a ≡ 0
  carved-none h = elim (cmp 0 (carved rs p a)) [
    | lt u ↦ let r = carved-find u in absurd (h r.0 r.1)
    | ge u ↦ omega arith
  ]

  pub carved-get : (k : ℕ) → Carving rs p a k → 0 < carved rs p a
  carved-get k c =
      let e : carve (at_slot rs k) p a ≡ carve_of c.region.kind p = rw c.is (within_in _ _ _ _ _ c.low c.high) in
      omega (arith, carved-is rs p a, sum-get (λ j. carve (at_slot rs j) p a) (length rs) k (in-length rs k c.region c.is), c.of)

  module _ (s : Regions rs) where
    carving-under : (k : ℕ) (c : Carving rs p a k) → Under rs p c.region
    carving-under k c = under rs s k p c.region c.is (omega (arith, carve-child c.region.kind p, c.of))

    pub carved-le : carved rs p a ≤ 1
    carved-le = omega (
      arith,
      carved-is rs p a,
      sum-unique (λ k. carve (at_slot rs k) p a) (length rs) (λ k. carve-le (at_slot rs k) p a) (λ j k d u v.
          let x = carving j u in
          let y = carving k v in
          let z = apart rs s j k p x.region y.region d x.is y.is x.of (omega (arith, carve-child y.region.kind p, y.of)) (omega arith) in
          omega arith),
    )

    pub carved-dead : at_slot rs p ≡ none → carved rs p a ≡ 0
    carved-dead e = carved-none (λ k c. let u = carving-under k c in none-some (at_slot rs p) u.parent e u.is)

    cover-go : (x : Option Region) → at_slot rs p ≡ x → 0 < carved rs p a → cover x a ≡ 1
    cover-go x e h =
        let r = carved-find h in
        let u = carving-under r.0 r.1 in
        let z : x ≡ some u.parent = sym e ∙ u.is in
        rw z (within_in _ _ _ _ _ (omega (arith, r.1.low)) (omega (arith, r.1.high)))

    -- a region that is carved at a is so once, and covers a
    pub carved-cover : clear (carved rs p a) (cover (at_slot rs p) a) + carved rs p a ≡ cover (at_slot rs p) a
    carved-cover = elim (cmp 0 (carved rs p a)) [
      | lt u ↦ omega (arith, clear-s (carved rs p a) (cover (at_slot rs p) a) u, cover-go (at_slot rs p) refl u, carved-le)
      | ge u ↦ omega (arith, clear-0 (carved rs p a) (cover (at_slot rs p) a) (omega arith))
    ]
