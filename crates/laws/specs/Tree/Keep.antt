-- Sound regions stay sound: a root is added, an alias or a carve by its rule, a region without children is removed, a region changes its owner or its hash,
-- or extends its rights.
-- For each the table that the steps leave, that it is a change of one slot, and that it is sound.
use Rattle.std.specs.Prelude.{◌≡◌, refl, ◌≢◌, ℕ, ◌<◌, List, [], eqb, length, set}
use Rattle.std.proofs.Common.{sym, ap, ◌∙◌, arith, get_or-set_same, get_or-set_other}
use Rattle.std.proofs.Math.Option.{Option, none, some, get_or}
use Rattle.std.proofs.Math.Decide.{ℕ_discrete}
use Rattle.base.specs.Options.{none-some, some_same}
use Rattle.model.specs.Lists.{count_if, at_slot, In, without}
use Rattle.model.specs.State.{Hash, HashWords, Region, Kind, Root, parent_of, none_region, with_children, with_owner, with_rights_hash}
use Rattle.model.specs.Tree.{insert_sorted}
use Rattle.laws.specs.Tree.Slots.{in-length}
use Rattle.laws.specs.Tree.Shares.{child_of, child}
use Rattle.laws.specs.Tree.Facts.{Regions, self, other, own, hangs}
use Rattle.laws.specs.Tree.Extends.{Extends, extends-same}
use Rattle.laws.specs.Tree.Change.{Changed, child_in, child_out, alike_self, set-slot, set-children, between}
use Rattle.laws.specs.Tree.Rule.{Fits}
use Rattle.laws.specs.Tree.Shape.{Sized, child_slots, child-slots-at, child-slots-free, to-shape, to-lists, from_halves, child-of}
use Rattle.laws.specs.Tree.KeepShape.{Like, had, has, shape-part, root-fits-under, child-fits-under, shape-added}
use Rattle.laws.specs.Tree.KeepLists.{Takes, Gives, lists-added, lists-removed, lists-same}

-- ---- child lists in a table with a slot written

pub slot_same : (rs : List (Option Region)) (i : ℕ) (x : Option Region) → i < length rs → at_slot (set rs i x) i ≡ x
slot_same rs i x l = get_or-set_same rs i x none l

pub slot-other : (rs : List (Option Region)) (i k : ℕ) (x : Option Region) → k ≢ i → at_slot (set rs i x) k ≡ at_slot rs k
slot-other rs i k x o = get_or-set_other rs i k x none o

child-slots-of : (x y : Option Region) → x ≡ y → (get_or x none_region).children ≡ (get_or y none_region).children
child-slots-of x y e = ap (λ (z : Option Region). (get_or z none_region).children) e

-- no list changes where the slot's own stays
child-slots-same : (rs : List (Option Region)) (i : ℕ) (x : Option Region) → i < length rs → (get_or x none_region).children ≡ child_slots rs i → (q : ℕ) → child_slots (set rs i x) q ≡ child_slots rs q
child-slots-same rs i x l e q = elim (ℕ_discrete q i) [
  | yes o ↦ rw o (child-slots-of (at_slot (set rs i x) i) x (slot_same rs i x l) ∙ e)
  | no o ↦ child-slots-of (at_slot (set rs i x) q) (at_slot rs q) (slot-other rs i q x o)
]

module _ (rs : List (Option Region)) (s : Regions rs) where
  -- ---- a region is added in a free slot

  module _ (i : ℕ) (g : Region) (l : i < length rs) (free : at_slot rs i ≡ none) (empty : g.children ≡ []) (z : Sized g) where
    abbrev first : List (Option Region)
    first = set rs i (some g)

    pub slot_added : Changed rs first i none (some g)
    slot_added = set-slot rs i none (some g) l free

    child-slots-first : (q : ℕ) → child_slots first q ≡ child_slots rs q
    child-slots-first = child-slots-same rs i (some g) l (empty ∙ sym (child-slots-free rs i free))

    pub root_kept : g.kind ≡ Root → Regions first
    root_kept e = from_halves first (shape-added rs first (to-shape rs s) i g free slot_added (root-fits-under rs g z e)) (lists-added rs first first (to-lists rs s) i g slot_added slot_added (λ q. Takes.same (ap (λ (k : Kind). child_of k q) e) (child-slots-first q)))

    -- an alias or a carve of region h in slot p, by its rule
    module _ (p : ℕ) (h : Region) (at : In rs p h) (r : Fits rs p g) where
      abbrev second : List (Option Region)
      second = child_in first i g p h

      child-other : p ≢ i
      child-other e = none-some (at_slot rs i) h free (rw e at at)

      pub child-at : In first p h
      child-at = slot-other rs i p (some g) child-other ∙ at

      pub child-added : Changed rs second i none (some g)
      child-added = between rs rs first second i none (some g) (alike_self rs) slot_added (set-children first p h (insert_sorted first i g.start h.children) child-at)

      takes-in : Takes rs first second i g p
      takes-in = Takes.more (hangs g.kind p r.hangs p ∙ self p) (child-slots-of (at_slot second p) (some (with_children (insert_sorted first i g.start h.children) h)) (slot_same first p _ (in-length first p h child-at)) ∙ ap (insert_sorted first i g.start) (sym (child-slots-at rs p h at)))

      takes : (q : ℕ) → Takes rs first second i g q
      takes q = elim (ℕ_discrete q p) [
        | yes e ↦ rw e takes-in
        | no e ↦ Takes.same (hangs g.kind p r.hangs q ∙ other p q (λ n. e (sym n))) (child-slots-of (at_slot second q) (at_slot first q) (slot-other first p q _ e) ∙ child-slots-first q)
      ]

      pub child-kept : Regions second
      child-kept = from_halves second (shape-added rs second (to-shape rs s) i g free child-added (child-fits-under rs p g z r)) (lists-added rs first second (to-lists rs s) i g child-added slot_added takes)

  -- ---- an alias or a carve without children is removed from slot i, and from its parent's list

  module _ (i : ℕ) (g : Region) (e : In rs i g) (empty : g.children ≡ []) (p : ℕ) (h : Region) (at : In rs p h) (q : parent_of g.kind ≡ some p) where
    abbrev unlisted : List (Option Region)
    unlisted = child_out rs i p h

    abbrev gone : List (Option Region)
    gone = set unlisted i none

    parent-other : p ≢ i
    parent-other n = omega (arith, own rs s i g e, child-of g.kind p q, ap (child_of g.kind) n)

    pub removed-at : In unlisted i g
    removed-at = slot-other rs p i _ (λ n. parent-other (sym n)) ∙ e

    pub removed-free : at_slot gone i ≡ none
    removed-free = slot_same unlisted i none (in-length unlisted i g removed-at)

    pub slot-removed : Changed rs gone i (some g) none
    slot-removed = between rs unlisted gone gone i (some g) none (set-children rs p h (without i h.children) at) (set-slot unlisted i (some g) none (in-length unlisted i g removed-at) removed-at) (alike_self gone)

    -- the list of slot p, and the others
    gives-out : Gives rs gone i g p
    gives-out = Gives.less (hangs g.kind p q p ∙ self p) (child-slots-of (at_slot gone p) (some (with_children (without i h.children) h)) (slot-other unlisted i p none parent-other ∙ slot_same rs p _ (in-length rs p h at)) ∙ ap (without i) (sym (child-slots-at rs p h at)))

    gives : (k : ℕ) → Gives rs gone i g k
    gives k = elim (ℕ_discrete k p) [
      | yes o ↦ rw o gives-out
      | no o ↦ Gives.same (hangs g.kind p q k ∙ other p k (λ n. o (sym n))) (child-slots-same unlisted i none (in-length unlisted i g removed-at) (sym (child-slots-at unlisted i g removed-at ∙ empty)) k ∙ child-slots-of (at_slot unlisted k) (at_slot rs k) (slot-other rs p k _ o))
    ]

    -- what is left is no child of i
    left : (k : ℕ) (z : Region) → In gone k z → k ≢ i
    left k z m n = none-some (at_slot gone i) z removed-free (rw n at m)

    parent-left : (k n : ℕ) (z : Region) → In gone k z → 0 < child_of z.kind n → n ≢ i
    parent-left k n z m c o =
        let b = had rs gone i (some g) none slot-removed k (left k z m) z m in
        omega (
          arith,
          (to-lists rs s).listing i k,
          ap (count_if (eqb k)) (child-slots-at rs i g e ∙ empty),
          ap (λ (x : Option Region). child x i) b.1,
          ap (λ (x : Kind). child_of x i) b.2.kind,
          ap (child_of z.kind) o,
        )

    pub removed-kept : Regions gone
    removed-kept = from_halves gone (shape-part rs gone (to-shape rs s) (λ k z m. had rs gone i (some g) none slot-removed k (left k z m) z m) (λ k n z y m c j. has rs gone i (some g) none slot-removed n (parent-left k n z m c) y j)) (lists-removed rs gone (to-lists rs s) i g slot-removed gives)

  -- ---- region g in slot i changes, and its kind, range and child list stay

  module _ (i : ℕ) (g : Region) (e : In rs i g) (h : Region) (l : Like g h) (same : h.children ≡ g.children) where
    abbrev changed : List (Option Region)
    changed = set rs i (some h)

    pub slot-changed : Changed rs changed i (some g) (some h)
    slot-changed = set-slot rs i (some g) (some h) (in-length rs i g e) e

    here : In changed i h
    here = slot_same rs i (some h) (in-length rs i g e)

    here-like : (w z : Region) → In rs i w → In changed i z → Like w z
    here-like w z u v = rw (some_same (at_slot rs i) w g u e, some_same (at_slot changed i) z h v here) l

    had-any : (k : ℕ) (z : Region) → In changed k z → (w : Region) × In rs k w × Like w z
    had-any k z m = elim (ℕ_discrete k i) [
      | yes n ↦ (g, rw n e, here-like g z e (rw n at m))
      | no n ↦ had rs changed i (some g) (some h) slot-changed k n z m
    ]

    has-any : (k : ℕ) (w : Region) → In rs k w → (z : Region) × In changed k z × Like w z
    has-any k w m = elim (ℕ_discrete k i) [
      | yes n ↦ (h, rw n here, here-like w h (rw n at m) here)
      | no n ↦ has rs changed i (some g) (some h) slot-changed k n w m
    ]

    changed-kept : Regions changed
    changed-kept = from_halves changed (shape-part rs changed (to-shape rs s) had-any (λ k n z y m c j. has-any n y j)) (lists-same rs changed (to-lists rs s) i g h l.kind l.start slot-changed (child-slots-same rs i (some h) (in-length rs i g e) (same ∙ sym (child-slots-at rs i g e))))

  module _ (i : ℕ) (g : Region) (e : In rs i g) where
    -- it becomes domain o's
    pub owner-kept : (o : ℕ) → Regions (set rs i (some (with_owner o g)))
    owner-kept o = changed-kept i g e (with_owner o g) (record { kind = refl; start = refl; end = refl; rights = extends-same g.rights g.rights refl; hash = λ w. w }) refl

    -- its rights are extended, its hash is another
    pub rights-hash-kept : (n : ℕ) (y : Option Hash) → Extends g.rights n → HashWords y → Regions (set rs i (some (with_rights_hash n y g)))
    rights-hash-kept n y x w = changed-kept i g e (with_rights_hash n y g) (record { kind = refl; start = refl; end = refl; rights = x; hash = λ v. w }) refl
