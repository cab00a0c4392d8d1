-- What sound regions say, in the form that the counting uses: who hangs under whom is 1 or 0, and a child list has each child once.
use Rattle.std.specs.Prelude.{◌≡◌, refl, ◌≢◌, ℕ, ◌≤◌, ◌<◌, Bool, true, false, not, ◌||◌, List, T, eqb}
use Rattle.std.proofs.Common.{sym, ap, ◌∙◌, arith, eqb→eq, lit<, ne_eqb, lt-ltb}
use Rattle.std.proofs.Math.Option.{Option, none, some}
use Rattle.std.specs.Int.Bits.{bit_and}
use Rattle.std.proofs.lemmas.Nat.{and_le_l, or_lt}
use Rattle.rights.specs.Rights.{HASH, CLEANUP, VITAL, union, with_extras, allowed}
use Rattle.rights.specs.Bits.{bit}
use Rattle.rights.specs.Bits.{bit}
use Rattle.base.specs.Cases.{lt, ge, cmp, holds, fails, test}
use Rattle.base.specs.Tests.{true-is, is_true}
use Rattle.base.specs.Options.{none-some, some_same}
use Rattle.rights.specs.Laws.{allowed-bits}
use Rattle.model.specs.Lists.{one_if, count_if, at_slot, In}
use Rattle.model.specs.State.{Region, Kind, Root, Alias, Carve, parent_of}
use Rattle.model.specs.Fields.{Field, counter}
use Rattle.model.specs.Tree.{is_carve, is_root_kind, access_of, overlaps}
use Rattle.model.specs.Sound.{RegionSound, Rooted, names}
use Rattle.laws.specs.Stack.{one, one_at_most}
use Rattle.laws.specs.Tree.Slots.{live-is, each_in}
use Rattle.laws.specs.Tree.Shares.{child_of, carve_of, child}

-- every live region of the table is sound
abbrev pub Regions : List (Option Region) → Type 0
Regions rs = (i : ℕ) (g : Region) → In rs i g → RegionSound rs i g

-- ---- ones and zeros

pub self : (i : ℕ) → one_if (eqb i i) ≡ 1
self i = one i i refl

pub same : (i j : ℕ) → 0 < one_if (eqb i j) → i ≡ j
same i j h = elim (test (eqb i j)) [ holds t ↦ eqb→eq i j (true-is t) | fails t ↦ absurd (omega (arith, rw t at h)) ]

pub other : (i j : ℕ) → i ≢ j → one_if (eqb i j) ≡ 0
other i j h = rw (ne_eqb i j h)

pub carve-child : (k : Kind) (p : ℕ) → carve_of k p ≤ child_of k p
carve-child Root p = omega arith
carve-child (Alias q) p = omega arith
carve-child (Carve q) p = omega arith

pub child-le : (x : Option Region) (p : ℕ) → child x p ≤ 1
child-le none p = omega arith
child-le (some g) p = one_at_most (names (parent_of g.kind) p)

pub named : (o : Option ℕ) (p : ℕ) → 0 < one_if (names o p) → o ≡ some p
named none p h = absurd (omega arith)
named (some q) p h = ap some (same q p h)

-- what is no root has a parent
pub not_root : (k : Kind) → T (not (is_root_kind k)) → (p : ℕ) × (parent_of k ≡ some p)
not_root Root t = absurd t
not_root (Alias p) t = (p, refl)
not_root (Carve p) t = (p, refl)

pub has-parent : (k : Kind) (p : ℕ) → 0 < child_of k p → parent_of k ≡ some p
has-parent k p h = named (parent_of k) p h

pub hangs : (k : Kind) (p : ℕ) → parent_of k ≡ some p → (q : ℕ) → child_of k q ≡ one_if (eqb p q)
hangs k p e q = rw e

pub is-carve : (k : Kind) (p : ℕ) → 0 < carve_of k p → T (is_carve k)
is-carve Root p h = absurd (omega arith)
is-carve (Alias q) p h = absurd (omega arith)
is-carve (Carve q) p h = tt

pub carve-is : (k : Kind) (p : ℕ) → T (is_carve k) → carve_of k p ≡ child_of k p
carve-is k p t = rw (is_true {b = is_carve k} t)

-- ---- ranges and rights

-- no address lies in both
abbrev pub Apart : Region → Region → Type 0
Apart x y = y.start < x.end → y.end ≤ x.start

pub no-overlap : (x y : Region) → T (not (overlaps (access_of x) y)) → Apart x y
no-overlap x y t l = elim (cmp x.start y.end) [
  | lt u ↦ absurd (rw (lt-ltb x.start y.end u, lt-ltb y.start x.end l) at t)
  | ge u ↦ u
]

bit-allowed : (b c : Bool) → (T c → T (b || false || false || false)) → one_if c ≤ one_if b
bit-allowed true true h = omega arith
bit-allowed false true h = absurd (h tt)
bit-allowed b false h = omega arith

-- what a child counts for its parent's rights count for too
pub counter-allowed : (f : Field) (p c : ℕ) → T (allowed p c) → counter f c ≤ counter f p
counter-allowed Field.Reach p c t = omega arith
counter-allowed Field.Read p c t = bit-allowed (bit 0 p) (bit 0 c) ((allowed-bits p c).0 t 0)
counter-allowed Field.Write p c t = bit-allowed (bit 1 p) (bit 1 c) ((allowed-bits p c).0 t 1)
counter-allowed Field.Exec p c t = bit-allowed (bit 2 p) (bit 2 c) ((allowed-bits p c).0 t 2)
counter-allowed Field.Super p c t = bit-allowed (bit 3 p) (bit 3 c) ((allowed-bits p c).0 t 3)

-- and a child's rights are a byte if its parent's are
pub byte-allowed : (p c : ℕ) → T (allowed p c) → p < 256 → c < 256
byte-allowed p c t h =
    let hash = or_lt 8 p HASH h (lit< tt) in
    let clean = or_lt 8 (union p HASH) CLEANUP hash (lit< tt) in
    let vital = or_lt 8 (union (union p HASH) CLEANUP) VITAL clean (lit< tt) in
    omega (arith, eqb→eq (bit_and (with_extras p) c) c t, and_le_l (with_extras p) c, vital)

-- y lies in the range and rights of the region in slot p
pub record Under (rs : List (Option Region)) (p : ℕ) (y : Region) : Type 0 where
  pub parent : Region
  pub is : In rs p parent
  pub low : parent.start ≤ y.start
  pub high : y.end ≤ parent.end
  pub rights : T (allowed parent.rights y.rights)

-- the region in a slot is told by the slot
pub lies : (rs : List (Option Region)) (p : ℕ) (y h : Region) → Under rs p y → In rs p h → (h.start ≤ y.start) × (y.end ≤ h.end) × T (allowed h.rights y.rights)
lies rs p y h u e =
    let z = some_same (at_slot rs p) h u.parent e u.is in
    rw z (u.low, u.high, u.rights)

-- ---- a parent is not its own

not_own : (rs : List (Option Region)) (i j : ℕ) (g : Region) → In rs i g → parent_of g.kind ≡ some i → Rooted rs j → j ≡ i → ⊥
not_own rs i j g e q (Rooted.top _ h u v) o = let z : h ≡ g = some_same (at_slot rs i) h g (rw o at u) e in none-some (parent_of g.kind) i (rw z at v) q
not_own rs i j g e q (Rooted.under _ p h u v r) o =
    let z : h ≡ g = some_same (at_slot rs i) h g (rw o at u) e in
    not_own rs i p g e q r (some_same (parent_of g.kind) p i (rw z at v) q)

-- ---- sound regions

module _ (rs : List (Option Region)) (s : Regions rs) where
  pub under : (k p : ℕ) (x : Region) → In rs k x → 0 < child_of x.kind p → Under rs p x
  under k p x e h =
      let q = has-parent x.kind p h in
      let l = live-is (at_slot rs p) ((s k x e).parent_live p q) in
      let n = (s k x e).inside p l.0 q l.1 in
      record { parent = l.0; is = l.1; low = n.0; high = n.1; rights = (s k x e).rights_inside p l.0 q l.1 }

  pub apart : (j k p : ℕ) (x y : Region) → j ≢ k → In rs j x → In rs k y → 0 < carve_of x.kind p → 0 < child_of y.kind p → Apart x y
  apart j k p x y d e e' u v =
      let q = has-parent x.kind p (omega (arith, carve-child x.kind p)) in
      no-overlap x y ((s j x e).carves_apart k y e' d (is-carve x.kind p u) (q ∙ sym (has-parent y.kind p v)))

  pub own : (i : ℕ) (g : Region) → In rs i g → child_of g.kind i ≡ 0
  own i g e = elim (cmp 0 (child_of g.kind i)) [
    | lt u ↦ absurd (not_own rs i i g e (has-parent g.kind i u) (s i g e).rooted refl)
    | ge u ↦ omega arith
  ]

  -- the list of the region in slot p has exactly its live children, each once
  pub listing : (p : ℕ) (h : Region) → In rs p h → (k : ℕ) → count_if (eqb k) h.children ≡ child (at_slot rs k) p
  listing p h e k = go (at_slot rs k) refl
    where
      go : (x : Option Region) → at_slot rs k ≡ x → count_if (eqb k) h.children ≡ child x p
      go none q = elim (cmp 0 (count_if (eqb k) h.children)) [
        | lt u ↦ absurd (rw q at (each_in _ h.children (s p h e).children_live k u))
        | ge u ↦ omega arith
      ]
      go (some g) q = (s k g q).listed p h e
