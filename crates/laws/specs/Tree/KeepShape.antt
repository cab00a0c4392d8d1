-- What the regions are to each other is kept where regions are removed, change their owners or hashes or extend their rights, as long as parents stay, and
-- where a region that fits is added. Owners and child lists play no part: a region is compared with what was in its slot by kind, range and rights, and its
-- hash stays one of words (`Like`).
use Rattle.std.specs.Prelude.{◌≡◌, refl, ◌≢◌, ℕ, ◌<◌, List, []}
use Rattle.std.proofs.Common.{sym, ap, subst, ◌∙◌, arith}
use Rattle.std.proofs.Math.Option.{Option, none, some}
use Rattle.std.proofs.Math.Decide.{ℕ_discrete}
use Rattle.base.specs.Cases.{lt, ge, cmp}
use Rattle.base.specs.Options.{none-some, some_same}
use Rattle.model.specs.Lists.{at_slot, In}
use Rattle.model.specs.State.{HashWords, Region, Kind, Root, parent_of, with_children}
use Rattle.model.specs.Sound.{Rooted}
use Rattle.laws.specs.Tree.Shares.{child_of, carve_of}
use Rattle.laws.specs.Tree.Facts.{Apart, Under, same, hangs, is-carve, carve-child}
use Rattle.laws.specs.Tree.Extends.{Extends, extends-same}
use Rattle.laws.specs.Tree.Change.{bare, Changed}
use Rattle.laws.specs.Tree.Rule.{Fits}
use Rattle.laws.specs.Tree.Shape.{Sized, Shape, child-of}

pub record Like (w z : Region) : Type 0 where
  pub kind : z.kind ≡ w.kind
  pub start : z.start ≡ w.start
  pub end : z.end ≡ w.end
  pub rights : Extends w.rights z.rights
  pub hash : HashWords w.hash → HashWords z.hash

-- the same but for the child list
like-bare : (w z : Region) → with_children [] z ≡ with_children [] w → Like w z
like-bare w z p = record { kind = ap (λ (r : Region). r.kind) p; start = ap (λ (r : Region). r.start) p; end = ap (λ (r : Region). r.end) p; rights = extends-same w.rights z.rights (ap (λ (r : Region). r.rights) p); hash = subst HashWords (sym (ap (λ (r : Region). r.hash) p)) }

pub bare-like : (x y : Option Region) (z : Region) → bare x ≡ bare y → x ≡ some z → (w : Region) × (y ≡ some w) × Like w z × Like z w
bare-like x none z e q = absurd (none-some (bare x) (with_children [] z) e (ap bare q))
bare-like x (some w) z e q =
    let p = some_same (bare x) (with_children [] z) (with_children [] w) (ap bare q) e in
    (w, refl, like-bare w z p, like-bare z w (sym p))

-- another slot has now what it had, and had what it has
module _ (rs rs' : List (Option Region)) (i : ℕ) (x y : Option Region) (t : Changed rs rs' i x y) (k : ℕ) (o : k ≢ i) where
  pub had : (z : Region) → In rs' k z → (w : Region) × In rs k w × Like w z
  had z e = let b = bare-like (at_slot rs' k) (at_slot rs k) z (t.others k o) e in (b.0, b.1, b.2)

  pub has : (w : Region) → In rs k w → (z : Region) × In rs' k z × Like w z
  has w e = let b = bare-like (at_slot rs k) (at_slot rs' k) w (sym (t.others k o)) e in (b.0, b.1, b.3)

-- ---- what is said of regions is said of their like

sized-like : (w z : Region) → Like w z → Sized w → Sized z
sized-like w z l s = record { nonempty = omega arith; start_word = omega arith; end_word = omega arith; rights_byte = l.rights.byte s.rights_byte; hash_words = l.hash s.hash_words }

child-like : (w z : Region) (p : ℕ) → Like w z → 0 < child_of z.kind p → 0 < child_of w.kind p
child-like w z p l h = omega (arith, ap (λ (k : Kind). child_of k p) l.kind)

carve-like : (w z : Region) (p : ℕ) → Like w z → 0 < carve_of z.kind p → 0 < carve_of w.kind p
carve-like w z p l h = omega (arith, ap (λ (k : Kind). carve_of k p) l.kind)

apart-like : (w z v y : Region) → Like w z → Like v y → Apart w v → Apart z y
apart-like w z v y l m h u = omega (arith, l, m, h (omega (arith, l, m)))

under-like : (rs rs' : List (Option Region)) (p : ℕ) (w z : Region) → Like w z → (u : Under rs p w) → (h : Region) → In rs' p h → Like u.parent h → Under rs' p z
under-like rs rs' p w z l u h e m = record {
  parent = h;
  is = e;
  low = omega (arith, l, m, u.low);
  high = omega (arith, l, m, u.high);
  rights = m.rights.parent z.rights (l.rights.child u.parent.rights u.rights);
}

-- ---- regions are removed, change their owners or hashes or extend their rights

module _ (rs rs' : List (Option Region)) (s : Shape rs) (back : (k : ℕ) (z : Region) → In rs' k z → (w : Region) × In rs k w × Like w z)
    (up : (k p : ℕ) (z h : Region) → In rs' k z → 0 < child_of z.kind p → In rs p h → (y : Region) × In rs' p y × Like h y) where
  under-part : (k p : ℕ) (z : Region) → In rs' k z → 0 < child_of z.kind p → Under rs' p z
  under-part k p z e c =
      let b = back k z e in
      let u = s.under k p b.0 b.1 (child-like b.0 z p b.2 c) in
      let y = up k p z u.parent e c u.is in
      under-like rs rs' p b.0 z b.2 u y.0 y.1 y.2

  parent-part : (k : ℕ) (g z : Region) → In rs k g → In rs' k z → parent_of z.kind ≡ parent_of g.kind
  parent-part k g z e i = let b = back k z i in ap parent_of (b.2.kind ∙ ap (λ (r : Region). r.kind) (some_same (at_slot rs k) b.0 g b.1 e))

  rooted-part : (k : ℕ) → Rooted rs k → (z : Region) → In rs' k z → Rooted rs' k
  rooted-part k (Rooted.top _ g e q) z i = Rooted.top k z i (parent-part k g z e i ∙ q)
  rooted-part k (Rooted.under _ p g e q r) z i =
      let c = parent-part k g z e i ∙ q in
      let u = under-part k p z i (child-of z.kind p c) in
      Rooted.under k p z i c (rooted-part p r u.parent u.is)

  pub shape-part : Shape rs'
  shape-part = record {
    under = under-part;
    apart = λ j k p x y d e e' u v.
        let b = back j x e in
        let c = back k y e' in
        apart-like b.0 x c.0 y b.2 c.2 (s.apart j k p b.0 c.0 d b.1 c.1 (carve-like b.0 x p b.2 u) (child-like c.0 y p c.2 v));
    rooted = λ k z e. let b = back k z e in rooted-part k (s.rooted k b.0 b.1) z e;
    sized = λ k z e. let b = back k z e in sized-like b.0 z b.2 (s.sized k b.0 b.1);
  }

-- ---- a region is added in a free slot

-- whatever it hangs under, it fits there
pub record FitsUnder (rs : List (Option Region)) (g : Region) : Type 0 where
  pub sized : Sized g
  pub under : (p : ℕ) → 0 < child_of g.kind p → Under rs p g
  pub off_carves : (p k : ℕ) (z : Region) → 0 < child_of g.kind p → In rs k z → 0 < carve_of z.kind p → Apart g z
  pub off_all : (p k : ℕ) (z : Region) → 0 < carve_of g.kind p → In rs k z → 0 < child_of z.kind p → Apart g z

pub root-fits-under : (rs : List (Option Region)) (g : Region) → Sized g → g.kind ≡ Root → FitsUnder rs g
root-fits-under rs g z e =
    let no : (p : ℕ) → 0 < child_of g.kind p → ⊥ = λ p u. omega (arith, rw e at u) in
    record { sized = z; under = λ p u. absurd (no p u); off_carves = λ p k x u. absurd (no p u); off_all = λ p k x u. absurd (no p (omega (arith, carve-child g.kind p))) }

pub child-fits-under : (rs : List (Option Region)) (p : ℕ) (g : Region) → Sized g → Fits rs p g → FitsUnder rs g
child-fits-under rs p g z r =
    let at : (q : ℕ) → 0 < child_of g.kind q → p ≡ q = λ q u. same p q (omega (arith, hangs g.kind p r.hangs q)) in
    record {
      sized = z;
      under = λ q u. rw (← at q u) r.under;
      off_carves = λ q k x u e v. r.off_carves k x e (rw (← at q u) at v);
      off_all = λ q k x u e v. let o = at q (omega (arith, carve-child g.kind q)) in r.off_all (is-carve g.kind q u) k x e (rw (← o) at v);
    }

apart-turn : (x y : Region) → Apart x y → Apart y x
apart-turn x y h u = elim (cmp y.start x.end) [ lt v ↦ absurd (omega (arith, h v)) | ge v ↦ v ]

-- what a slot holds afterwards
data Slot (rs : List (Option Region)) (i : ℕ) (g : Region) (k : ℕ) (z : Region) : Type 0 where
  new : k ≡ i → Like g z → Slot rs i g k z
  old : k ≢ i → (w : Region) → In rs k w → Like w z → Slot rs i g k z

module _ (rs rs' : List (Option Region)) (s : Shape rs) (i : ℕ) (g : Region) (free : at_slot rs i ≡ none) (t : Changed rs rs' i none (some g)) (r : FitsUnder rs g) where
  slot : (k : ℕ) (z : Region) → In rs' k z → Slot rs i g k z
  slot k z e = elim (ℕ_discrete k i) [
    | yes o ↦ let b = bare-like (at_slot rs' i) (some g) z t.now (rw o at e) in new o (rw (some_same (some g) g b.0 refl b.1) b.2)
    | no o ↦ let b = had rs rs' i none (some g) t k o z e in old o b.0 b.1 b.2
  ]

  -- what was there is there
  stays : (k : ℕ) (w : Region) → In rs k w → (z : Region) × In rs' k z × Like w z
  stays k w e = has rs rs' i none (some g) t k (λ n. none-some (at_slot rs i) w free (rw n at e)) w e

  under-now : (p : ℕ) (w z : Region) → Like w z → Under rs p w → Under rs' p z
  under-now p w z l u = let y = stays p u.parent u.is in under-like rs rs' p w z l u y.0 y.1 y.2

  under-added : (k p : ℕ) (z : Region) → Slot rs i g k z → 0 < child_of z.kind p → Under rs' p z
  under-added k p z (new o l) c = under-now p g z l (r.under p (child-like g z p l c))
  under-added k p z (old o w e l) c = under-now p w z l (s.under k p w e (child-like w z p l c))

  apart-added : (j k p : ℕ) (x z : Region) → j ≢ k → Slot rs i g j x → Slot rs i g k z → 0 < carve_of x.kind p → 0 < child_of z.kind p → Apart x z
  apart-added j k p x z d (new o l) (new o' l') u v = absurd (d (o ∙ sym o'))
  apart-added j k p x z d (new o l) (old o' w e m) u v = apart-like g x w z l m (r.off_all p k w (carve-like g x p l u) e (child-like w z p m v))
  apart-added j k p x z d (old o w e l) (new o' m) u v = apart-like w x g z l m (apart-turn g w (r.off_carves p j w (child-like g z p m v) e (carve-like w x p l u)))
  apart-added j k p x z d (old o w e l) (old o' y e' m) u v = apart-like w x y z l m (s.apart j k p w y d e e' (carve-like w x p l u) (child-like y z p m v))

  rooted-old : (k : ℕ) → Rooted rs k → Rooted rs' k
  rooted-old k (Rooted.top _ w e q) = let b = stays k w e in Rooted.top k b.0 b.1 (ap parent_of b.2.kind ∙ q)
  rooted-old k (Rooted.under _ p w e q x) = let b = stays k w e in Rooted.under k p b.0 b.1 (ap parent_of b.2.kind ∙ q) (rooted-old p x)

  rooted-new : (k : ℕ) (z : Region) → In rs' k z → Like g z → (x : Option ℕ) → parent_of z.kind ≡ x → Rooted rs' k
  rooted-new k z e l none q = Rooted.top k z e q
  rooted-new k z e l (some p) q =
      let u = r.under p (child-like g z p l (child-of z.kind p q)) in
      Rooted.under k p z e q (rooted-old p (s.rooted p u.parent u.is))

  rooted-added : (k : ℕ) (z : Region) → In rs' k z → Slot rs i g k z → Rooted rs' k
  rooted-added k z e (new o l) = rooted-new k z e l (parent_of z.kind) refl
  rooted-added k z e (old o w i' l) = rooted-old k (s.rooted k w i')

  sized-added : (k : ℕ) (z : Region) → Slot rs i g k z → Sized z
  sized-added k z (new o l) = sized-like g z l r.sized
  sized-added k z (old o w e l) = sized-like w z l (s.sized k w e)

  pub shape-added : Shape rs'
  shape-added = record {
    under = λ k p z e. under-added k p z (slot k z e);
    apart = λ j k p x z d e e'. apart-added j k p x z d (slot j x e) (slot k z e');
    rooted = λ k z e. rooted-added k z e (slot k z e);
    sized = λ k z e. sized-added k z (slot k z e);
  }
