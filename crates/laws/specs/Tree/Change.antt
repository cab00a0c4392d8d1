-- A change of one slot of the regions, child lists aside: a relation between two tables, which turns round, so that removal is addition
-- read backwards. Child lists do not matter to who counts where.
use Rattle.std.specs.Prelude.{◌≡◌, refl, ◌≢◌, ℕ, ◌+◌, ◌<◌, List, [], length, set}
use Rattle.std.proofs.Common.{sym, ap, ◌∙◌, arith, length-set, get_or-set_same, get_or-set_other}
use Rattle.std.proofs.Math.Option.{Option, none, some}
use Rattle.std.proofs.Math.Decide.{ℕ_discrete}
use Rattle.model.specs.Lists.{at_slot, In, without}
use Rattle.model.specs.State.{Region, with_children}
use Rattle.model.specs.Fields.{Field}
use Rattle.model.specs.Tree.{insert_sorted}
use Rattle.laws.specs.Tree.Sum.{sum, sum_one}
use Rattle.laws.specs.Tree.Slots.{in-length}
use Rattle.laws.specs.Tree.Shares.{share, carve, carved, carved-is}

-- a slot's region without its child list
abbrev pub bare : Option Region → Option Region
bare none = none
bare (some g) = some (with_children [] g)

-- the same regions, child lists aside
pub record Alike (rs rs' : List (Option Region)) : Type 0 where
  pub size : length rs' ≡ length rs
  pub slots : (k : ℕ) → bare (at_slot rs' k) ≡ bare (at_slot rs k)

-- slot i had x and has y, and the others have what they had, child lists aside
pub record Changed (rs rs' : List (Option Region)) (i : ℕ) (x y : Option Region) : Type 0 where
  pub size : length rs' ≡ length rs
  pub low : i < length rs
  pub was : bare (at_slot rs i) ≡ bare x
  pub now : bare (at_slot rs' i) ≡ bare y
  pub others : (k : ℕ) → k ≢ i → bare (at_slot rs' k) ≡ bare (at_slot rs k)

-- ---- the child list of region h in slot p with slot i put in, and left out

abbrev pub child_in : List (Option Region) → ℕ → Region → ℕ → Region → List (Option Region)
child_in rs i g p h = set rs p (some (with_children (insert_sorted rs i g.start h.children) h))

abbrev pub child_out : List (Option Region) → ℕ → ℕ → Region → List (Option Region)
child_out rs i p h = set rs p (some (with_children (without i h.children) h))

-- ---- changes

pub turned : (rs rs' : List (Option Region)) (i : ℕ) (x y : Option Region) → Changed rs rs' i x y → Changed rs' rs i y x
turned rs rs' i x y t = record { size = sym t.size; low = omega (arith, t.size, t.low); was = t.now; now = t.was; others = λ k n. sym (t.others k n) }

pub set-slot : (rs : List (Option Region)) (i : ℕ) (x y : Option Region) → i < length rs → at_slot rs i ≡ x → Changed rs (set rs i y) i x y
set-slot rs i x y l e = record {
  size = length-set rs i y;
  low = l;
  was = ap bare e;
  now = ap bare (get_or-set_same rs i y none l);
  others = λ k n. ap bare (get_or-set_other rs i k y none n);
}

pub alike_self : (rs : List (Option Region)) → Alike rs rs
alike_self rs = record { size = refl; slots = λ k. refl }

-- a child list written
pub set-children : (rs : List (Option Region)) (p : ℕ) (h : Region) (cs : List ℕ) → In rs p h → Alike rs (set rs p (some (with_children cs h)))
set-children rs p h cs e = record {
  size = length-set rs p (some (with_children cs h));
  slots = λ k. elim (ℕ_discrete k p) [
    | yes o ↦ rw o (ap bare (get_or-set_same rs p (some (with_children cs h)) none (in-length rs p h e)) ∙ sym (ap bare e))
    | no o ↦ ap bare (get_or-set_other rs p k (some (with_children cs h)) none o)
  ];
}

-- before and after a change child lists may be written
pub between : (rs rs₁ rs₂ rs₃ : List (Option Region)) (i : ℕ) (x y : Option Region) → Alike rs rs₁ → Changed rs₁ rs₂ i x y → Alike rs₂ rs₃ → Changed rs rs₃ i x y
between rs rs₁ rs₂ rs₃ i x y a t b = record {
  size = b.size ∙ t.size ∙ a.size;
  low = omega (arith, a.size, t.low);
  was = sym (a.slots i) ∙ t.was;
  now = b.slots i ∙ t.now;
  others = λ k n. b.slots k ∙ t.others k n ∙ a.slots k;
}

-- ---- what the slots count for

-- what does not look at child lists is the same
pub same-bare : {A : Type 0} (F : Option Region → A) → ((g : Region) → F (some (with_children [] g)) ≡ F (some g)) → (x y : Option Region) → bare x ≡ bare y → F x ≡ F y
same-bare F h x y e = sym (at x) ∙ ap F e ∙ at y
  where
    at : (z : Option Region) → F (bare z) ≡ F z
    at none = refl
    at (some g) = h g

pub same-share : (f : Field) (x y : Option Region) (d a : ℕ) → bare x ≡ bare y → share f x d a ≡ share f y d a
same-share f x y d a e = same-bare (λ z. share f z d a) (λ g. refl) x y e

pub same-carve : (x y : Option Region) (p a : ℕ) → bare x ≡ bare y → carve x p a ≡ carve y p a
same-carve x y p a e = same-bare (λ z. carve z p a) (λ g. refl) x y e

-- ---- the carves after a change

pub carved-change : (rs rs' : List (Option Region)) (i : ℕ) (x y : Option Region) → Changed rs rs' i x y → (p a : ℕ) → carved rs' p a + carve x p a ≡ carved rs p a + carve y p a
carved-change rs rs' i x y t p a =
    let w : List (Option Region) → ℕ → ℕ = λ l k. carve (at_slot l k) p a in
    omega (
      arith,
      carved-is rs p a,
      carved-is rs' p a,
      ap (sum (w rs')) t.size,
      sum_one (w rs') (w rs) (length rs) i t.low (λ k n. same-carve (at_slot rs' k) (at_slot rs k) p a (t.others k n)),
      same-carve (at_slot rs i) x p a t.was,
      same-carve (at_slot rs' i) y p a t.now,
    )
