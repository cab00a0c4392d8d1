-- Sound regions in two halves: what the regions are to each other (`Shape`), which does not look at child lists,
-- and the child lists (`Lists`): each has exactly the live children, once, and rises. A dead slot's list is empty.
use Rattle.std.specs.Prelude.{◌≡◌, refl, ◌≢◌, ℕ, ◌≤◌, ◌<◌, not, List, [], T, eqb, ltb}
use Rattle.std.proofs.Common.{sym, ap, ◌∙◌, subst, arith, ltb→lt}
use Rattle.std.proofs.Math.Option.{Option, none, some, get_or}
use Rattle.std.proofs.Math.Dec.{not_T}
use Rattle.std.specs.Float.Ieee.Fits.{and_l, and_r}
use Rattle.base.specs.Cases.{lt, ge, cmp}
use Rattle.base.specs.Options.{none-some}
use Rattle.model.specs.Lists.{count_if, is_some, at_slot, In}
use Rattle.model.specs.State.{Word, HashWords, Region, Kind, Root, Alias, Carve, parent_of, none_region, region_in}
use Rattle.model.specs.Tree.{is_carve, access_of, overlaps}
use Rattle.model.specs.Sound.{Rooted}
use Rattle.laws.specs.Tree.Slots.{is_live_lem, in-each}
use Rattle.laws.specs.Tree.Shares.{child_of, carve_of, child}
use Rattle.laws.specs.Tree.Facts.{Regions, Apart, byte-allowed, Under, under, apart, lies, listing, self, hangs, carve-is}
use Rattle.laws.specs.Tree.Rises.{Rises, ordered-from, rises-ordered}

-- of a region alone
pub record Sized (g : Region) : Type 0 where
  pub nonempty : g.start < g.end
  pub start_word : Word g.start
  pub end_word : Word g.end
  pub rights_byte : g.rights < 256
  pub hash_words : HashWords g.hash

pub record Shape (rs : List (Option Region)) : Type 0 where
  pub under : (k p : ℕ) (x : Region) → In rs k x → 0 < child_of x.kind p → Under rs p x
  pub apart : (j k p : ℕ) (x y : Region) → j ≢ k → In rs j x → In rs k y → 0 < carve_of x.kind p → 0 < child_of y.kind p → Apart x y
  pub rooted : (k : ℕ) (x : Region) → In rs k x → Rooted rs k
  pub sized : (k : ℕ) (x : Region) → In rs k x → Sized x

-- what lies under a region is nearly so: its range must not be empty, and its hash of words
pub under-sized : (rs : List (Option Region)) → Shape rs → (p : ℕ) (y : Region) → Under rs p y → y.start < y.end → HashWords y.hash → Sized y
under-sized rs s p y u n w =
    let z = s.sized p u.parent u.is in
    record { nonempty = n; start_word = word y.start u.parent.end (omega (arith, u.high)) z.end_word; end_word = word y.end u.parent.end u.high z.end_word; rights_byte = byte-allowed u.parent.rights y.rights u.rights z.rights_byte; hash_words = w }
  where
    word : (m n : ℕ) → m ≤ n → Word n → Word m
    word m n h w = omega arith

-- the child list in a slot
abbrev pub child_slots : List (Option Region) → ℕ → List ℕ
child_slots rs p = (region_in rs p).children

pub record Lists (rs : List (Option Region)) : Type 0 where
  pub listing : (p k : ℕ) → count_if (eqb k) (child_slots rs p) ≡ child (at_slot rs k) p
  pub rising : (p : ℕ) → Rises (region_in rs) 0 (child_slots rs p)

pub child-slots-at : (rs : List (Option Region)) (p : ℕ) (h : Region) → In rs p h → child_slots rs p ≡ h.children
child-slots-at rs p h e = ap (λ (x : Option Region). (get_or x none_region).children) e

pub child-slots-free : (rs : List (Option Region)) (p : ℕ) → at_slot rs p ≡ none → child_slots rs p ≡ []
child-slots-free rs p e = ap (λ (x : Option Region). (get_or x none_region).children) e

-- ---- both halves of sound regions

module _ (rs : List (Option Region)) (s : Regions rs) where
  pub to-shape : Shape rs
  to-shape = record {
    under = under rs s;
    apart = apart rs s;
    rooted = λ k x e. (s k x e).rooted;
    sized = λ k x e. let r = s k x e in record { nonempty = r.nonempty; start_word = r.start_word; end_word = r.end_word; rights_byte = r.rights_byte; hash_words = r.hash_words };
  }

  -- nothing hangs under a dead slot
  dead-child : (p k : ℕ) → at_slot rs p ≡ none → child (at_slot rs k) p ≡ 0
  dead-child p k e = go (at_slot rs k) refl
    where
      go : (x : Option Region) → at_slot rs k ≡ x → child x p ≡ 0
      go none q = refl
      go (some g) q = elim (cmp 0 (child_of g.kind p)) [
        | lt u ↦ let w = under rs s k p g q u in absurd (none-some (at_slot rs p) w.parent e w.is)
        | ge u ↦ omega arith
      ]

  pub to-lists : Lists rs
  to-lists = record { listing = λ p k. all p k (at_slot rs p) refl; rising = λ p. up p (at_slot rs p) refl }
    where
      all : (p k : ℕ) (x : Option Region) → at_slot rs p ≡ x → count_if (eqb k) (child_slots rs p) ≡ child (at_slot rs k) p
      all p k none e = ap (count_if (eqb k)) (child-slots-free rs p e) ∙ sym (dead-child p k e)
      all p k (some h) e = ap (count_if (eqb k)) (child-slots-at rs p h e) ∙ listing rs s p h e k

      up : (p : ℕ) (x : Option Region) → at_slot rs p ≡ x → Rises (region_in rs) 0 (child_slots rs p)
      up p none e = subst (Rises (region_in rs) 0) (sym (child-slots-free rs p e)) tt
      up p (some h) e = subst (Rises (region_in rs) 0) (sym (child-slots-at rs p h e)) (ordered-from (region_in rs) h.children (s p h e).ordered)

-- ---- and back

-- a carve has a parent
carve-parent : (k : Kind) → T (is_carve k) → (p : ℕ) × (parent_of k ≡ some p)
carve-parent Root t = absurd t
carve-parent (Alias p) t = absurd t
carve-parent (Carve p) t = (p, refl)

pub child-of : (k : Kind) (p : ℕ) → parent_of k ≡ some p → 0 < child_of k p
child-of k p e = omega (arith, hangs k p e p, self p)

apart-test : (x y : Region) → Apart x y → T (not (overlaps (access_of x) y))
apart-test x y h = not_T (overlaps (access_of x) y) (λ t.
    let u = ltb→lt x.start y.end (and_l (ltb x.start y.end) (ltb y.start x.end) t) in
    let v = ltb→lt y.start x.end (and_r (ltb x.start y.end) (ltb y.start x.end) t) in
    omega (arith, h v))

some-child : (x : Option Region) (p : ℕ) → 0 < child x p → T (is_some x)
some-child none p h = absurd (omega arith)
some-child (some g) p h = tt

pub from_halves : (rs : List (Option Region)) → Shape rs → Lists rs → Regions rs
from_halves rs s l i g e = record {
  parent_live = λ p q. let u = s.under i p g e (child-of g.kind p q) in is_live_lem (at_slot rs p) u.parent u.is;
  listed = λ p h m. ap (count_if (eqb i)) (sym (child-slots-at rs p h m)) ∙ l.listing p i ∙ ap (λ (x : Option Region). child x p) e;
  children_live = in-each _ g.children (λ k o. some-child (at_slot rs k) i (omega (arith, l.listing i k, ap (count_if (eqb k)) (child-slots-at rs i g e))));
  rooted = s.rooted i g e;
  ordered = rises-ordered (region_in rs) 0 g.children (subst (Rises (region_in rs) 0) (child-slots-at rs i g e) (l.rising i));
  nonempty = (s.sized i g e).nonempty;
  inside = λ p h q m. let w = lies rs p g h (s.under i p g e (child-of g.kind p q)) m in (w.0, w.1);
  carves_apart = λ j h m d t q.
      let c = carve-parent g.kind t in
      let u = child-of g.kind c.0 c.1 in
      apart-test g h (s.apart i j c.0 g h d e m (omega (arith, carve-is g.kind c.0 t)) (child-of h.kind c.0 (sym q ∙ c.1)));
  rights_inside = λ p h q m. (lies rs p g h (s.under i p g e (child-of g.kind p q)) m).2;
  start_word = (s.sized i g e).start_word;
  end_word = (s.sized i g e).end_word;
  rights_byte = (s.sized i g e).rights_byte;
  hash_words = (s.sized i g e).hash_words;
}
