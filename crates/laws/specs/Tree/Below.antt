-- What a revoke of region i leaves: all below it are gone, all others are as they were but for child lists, and the regions are sound.
-- A region without children is revoked by itself; one with children by its first child, and then again.
use Rattle.std.specs.Prelude.{◌≡◌, refl, ◌≢◌, ℕ, ◌≤◌, List, [], eqb, length, set}
use Rattle.std.proofs.Common.{sym, ap, ◌∙◌, arith}
use Rattle.std.proofs.Math.Option.{Option, none, some}
use Rattle.std.proofs.Math.Decide.{ℕ_discrete}
use Rattle.base.specs.Options.{none-some, some_same}
use Rattle.model.specs.Lists.{count_if, at_slot, In}
use Rattle.model.specs.State.{Region, parent_of}
use Rattle.laws.specs.Tree.Shares.{child_of, child}
use Rattle.laws.specs.Tree.Facts.{Regions}
use Rattle.laws.specs.Tree.Change.{bare, Changed, child_out}
use Rattle.laws.specs.Tree.Shape.{child-of, child-slots-at, to-lists}
use Rattle.laws.specs.Tree.KeepShape.{bare-like}
use Rattle.laws.specs.Tree.Keep.{slot-removed, removed-free, removed-kept}
use Rattle.laws.specs.Tree.Rank.{Ranked}

-- k is i or below it
pub data Below (rs : List (Option Region)) (i : ℕ) : ℕ → Type 0 where
  here : {k : ℕ} → k ≡ i → Below rs i k
  step : {k : ℕ} (p : ℕ) (x : Region) → In rs k x → parent_of x.kind ≡ some p → Below rs i p → Below rs i k

pub record Revoked (rs : List (Option Region)) (i : ℕ) (rs' : List (Option Region)) : Type 0 where
  pub size : length rs' ≡ length rs
  pub sound : Regions rs'
  pub gone : (k : ℕ) → Below rs i k → at_slot rs' k ≡ none
  pub kept : (k : ℕ) → (Below rs i k → ⊥) → bare (at_slot rs' k) ≡ bare (at_slot rs k)
  -- what is left is as it was
  pub left : (k : ℕ) (z : Region) → In rs' k z → bare (at_slot rs' k) ≡ bare (at_slot rs k)

-- ---- facts about what is below

pub below-trans : (rs : List (Option Region)) (i c k : ℕ) → Below rs i c → Below rs c k → Below rs i k
below-trans rs i c k b (Below.here e) = rw e b
below-trans rs i c k b (Below.step p x e q r) = Below.step p x e q (below-trans rs i c p b r)

below-rank : (rs : List (Option Region)) (r : ℕ → ℕ) (i k : ℕ) → Ranked rs r → Below rs i k → r i ≤ r k
below-rank rs r i k q (Below.here e) = omega (arith, ap r e)
below-rank rs r i k q (Below.step p x e c b) = omega (arith, q.child k p x e c, below-rank rs r i p q b)

-- one live region has one parent
one_parent : (rs : List (Option Region)) (k p p' : ℕ) (x y : Region) → In rs k x → In rs k y → parent_of x.kind ≡ some p → parent_of y.kind ≡ some p' → p ≡ p'
one_parent rs k p p' x y e m q n = some_same (parent_of x.kind) p p' q (rw (some_same (at_slot rs k) x y e m) n)

-- what was below is below where it is left
pub was : (rs rs' : List (Option Region)) (k : ℕ) (z : Region) → bare (at_slot rs' k) ≡ bare (at_slot rs k) → In rs' k z → (w : Region) × In rs k w × (parent_of w.kind ≡ parent_of z.kind)
was rs rs' k z e m = let b = bare-like (at_slot rs' k) (at_slot rs k) z e m in (b.0, b.1, ap parent_of (sym b.2.kind))

below_sub : (rs rs' : List (Option Region)) (i k : ℕ) → ((k : ℕ) (z : Region) → In rs' k z → bare (at_slot rs' k) ≡ bare (at_slot rs k)) → Below rs' i k → Below rs i k
below_sub rs rs' i k s (Below.here e) = Below.here e
below_sub rs rs' i k s (Below.step p x e q r) = let w = was rs rs' k x (s k x e) e in Below.step p w.0 w.1 (w.2 ∙ q) (below_sub rs rs' i p s r)

below-alone : (rs : List (Option Region)) (i k : ℕ) → ((k : ℕ) → child (at_slot rs k) i ≡ 0) → Below rs i k → k ≡ i
below-alone rs i k c (Below.here e) = e
below-alone rs i k c (Below.step p x e q r) =
    let z = below-alone rs i p c r in
    absurd (omega (arith, c k, ap (λ (y : Option Region). child y i) e, child-of x.kind p q, ap (child_of x.kind) z))

-- ---- a region without children

module _ (rs : List (Option Region)) (s : Regions rs) (i : ℕ) (g : Region) (e : In rs i g) (empty : g.children ≡ []) (p : ℕ) (h : Region) (at : In rs p h) (q : parent_of g.kind ≡ some p) where
  abbrev after : List (Option Region)
  after = set (child_out rs i p h) i none

  change : Changed rs after i (some g) none
  change = slot-removed rs s i g e empty p h at q

  dead : at_slot after i ≡ none
  dead = removed-free rs s i g e empty p h at q

  childless : (k : ℕ) → child (at_slot rs k) i ≡ 0
  childless k = sym ((to-lists rs s).listing i k) ∙ ap (count_if (eqb k)) (child-slots-at rs i g e ∙ empty)

  pub revoked-last : Revoked rs i after
  revoked-last = record {
    size = change.size;
    sound = removed-kept rs s i g e empty p h at q;
    gone = λ k b. let o = below-alone rs i k childless b in rw o dead;
    kept = λ k n. change.others k (λ o. n (Below.here o));
    left = λ k z m. change.others k (λ o. none-some (at_slot after i) z dead (rw o at m));
  }

-- ---- the first child, and then again

-- k is below c; or it is not, and still below i after all below c are gone
data Split (rs a : List (Option Region)) (i c k : ℕ) : Type 0 where
  inner : Below rs c k → Split rs a i c k
  outer : Below a i k → (Below rs c k → ⊥) → Split rs a i c k

off-below : (rs : List (Option Region)) (c k p : ℕ) (x : Region) → k ≢ c → In rs k x → parent_of x.kind ≡ some p → (Below rs c p → ⊥) → Below rs c k → ⊥
off-below rs c k p x o e q n (Below.here m) = o m
off-below rs c k p x o e q n (Below.step p' y e' q' b) = n (rw (one_parent rs k p' p y x e' e q' q) at b)

module _ (rs a b : List (Option Region)) (r : ℕ → ℕ) (i c : ℕ) (q : Ranked rs r) (y : Region) (e : In rs c y) (of : parent_of y.kind ≡ some i) (u : Revoked rs c a) where
  -- i is not below its child
  pub not-below : Below rs c i → ⊥
  not-below z = omega (arith, below-rank rs r c i q z, q.child c i y e of)

  -- a region that is not below c is there with the same parent
  still : (k p : ℕ) (x : Region) → In rs k x → parent_of x.kind ≡ some p → (Below rs c k → ⊥) → Below a i p → Below a i k
  still k p x m n f z = let w = was a rs k x (sym (u.kept k f)) m in Below.step p w.0 w.1 (w.2 ∙ n) z

  split_step : (k p : ℕ) (x : Region) → In rs k x → parent_of x.kind ≡ some p → Split rs a i c p → Split rs a i c k
  split_step k p x m n (inner z) = inner (Below.step p x m n z)
  split_step k p x m n (outer z f) = elim (ℕ_discrete k c) [
    | yes o ↦ inner (Below.here o)
    | no o ↦ let f' = off-below rs c k p x o m n f in outer (still k p x m n f' z) f'
  ]

  split : (k : ℕ) → Below rs i k → Split rs a i c k
  split k (Below.here o) = outer (Below.here o) (λ z. not-below (rw o at z))
  split k (Below.step p x m n z) = split_step k p x m n (split p z)

  module _ (v : Revoked a i b) where
    dead-stays : (k : ℕ) (x : Option Region) → at_slot b k ≡ x → at_slot a k ≡ none → at_slot b k ≡ none
    dead-stays k none m d = m
    dead-stays k (some x) m d = let w = was a b k x (v.left k x m) m in absurd (none-some (at_slot a k) w.0 d w.1)

    gone-both : (k : ℕ) → Split rs a i c k → at_slot b k ≡ none
    gone-both k (inner z) = dead-stays k (at_slot b k) refl (u.gone k z)
    gone-both k (outer z f) = v.gone k z

    left_both : (k : ℕ) (z : Region) → In b k z → bare (at_slot b k) ≡ bare (at_slot rs k)
    left_both k z m = let w = was a b k z (v.left k z m) m in v.left k z m ∙ u.left k w.0 w.1

    pub revoked-both : Revoked rs i b
    revoked-both = record {
      size = v.size ∙ u.size;
      sound = v.sound;
      gone = λ k z. gone-both k (split k z);
      kept = λ k n. v.kept k (λ m. n (below_sub rs a i k u.left m)) ∙ u.kept k (λ m. n (below-trans rs i c k (Below.step i y e of (Below.here refl)) m));
      left = left_both;
    }
