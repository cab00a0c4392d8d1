-- The child lists stay right where a region is added to its parent's list, removed from it, or changes with its kind, range and child list as they were:
-- each list gains or loses the slot as often as the slot gains or loses that parent.
use Rattle.std.specs.Prelude.{◌≡◌, refl, ℕ, ◌+◌, ◌<◌, Bool, true, false, List, eqb, if◌then◌else◌}
use Rattle.std.proofs.Common.{sym, ap, ◌∙◌, subst, arith, eq-eqb, ne_eqb}
use Rattle.std.proofs.Math.Option.{Option, none, some, get_or}
use Rattle.std.proofs.Math.Decide.{ℕ_discrete}
use Rattle.model.specs.Lists.{one_if, count_if, at_slot, without}
use Rattle.model.specs.State.{Region, Kind, none_region, region_in}
use Rattle.model.specs.Tree.{insert_sorted}
use Rattle.laws.specs.Tree.Shares.{child_of, child}
use Rattle.laws.specs.Tree.Facts.{self, other}
use Rattle.laws.specs.Tree.Rises.{Rises, rises-same, insert-count, insert-rises, without-count, without_gone, without-rises}
use Rattle.laws.specs.Tree.Change.{bare, Changed, same-bare}
use Rattle.laws.specs.Tree.Shape.{child_slots, Lists}

same-child : (x y : Option Region) (p : ℕ) → bare x ≡ bare y → child x p ≡ child y p
same-child x y p e = same-bare (λ z. child z p) (λ g. refl) x y e

same_start : (x y : Option Region) → bare x ≡ bare y → (get_or x none_region).start ≡ (get_or y none_region).start
same_start x y e = same-bare (λ z. (get_or z none_region).start) (λ g. refl) x y e

if-zero : (b : Bool) (n : ℕ) → n ≡ 0 → (if b then n else 0) ≡ 0
if-zero true n e = e
if-zero false n e = refl

if-one : (b : Bool) (n : ℕ) → n ≡ 1 → (if b then n else 0) ≡ one_if b
if-one true n e = e
if-one false n e = refl

module _ (rs rs' : List (Option Region)) (l : Lists rs) (i : ℕ) (x y : Option Region) (t : Changed rs rs' i x y) where
  child-change : (p k : ℕ) → child (at_slot rs' k) p + (if eqb k i then child x p else 0) ≡ child (at_slot rs k) p + (if eqb k i then child y p else 0)
  child-change p k = elim (ℕ_discrete k i) [
    | yes e ↦ rw (e, eq-eqb i i refl) (omega (arith, same-child (at_slot rs i) x p t.was, same-child (at_slot rs' i) y p t.now))
    | no e ↦ rw (ne_eqb k i e) (omega (arith, same-child (at_slot rs' k) (at_slot rs k) p (t.others k e)))
  ]

  -- a list that changes with the slot's parent is right
  listing-now : (p k : ℕ) → count_if (eqb k) (child_slots rs' p) + (if eqb k i then child x p else 0) ≡ count_if (eqb k) (child_slots rs p) + (if eqb k i then child y p else 0) → count_if (eqb k) (child_slots rs' p) ≡ child (at_slot rs' k) p
  listing-now p k h = omega (arith, l.listing p k, child-change p k)

  start-same : (ks : List ℕ) → count_if (eqb i) ks ≡ 0 → (k : ℕ) → 0 < count_if (eqb k) ks → (region_in rs' k).start ≡ (region_in rs k).start
  start-same ks z k h = same_start (at_slot rs' k) (at_slot rs k) (t.others k (λ e. omega (arith, rw e at h)))

  -- a list without slot i
  rises-now : (ks : List ℕ) → count_if (eqb i) ks ≡ 0 → Rises (region_in rs) 0 ks → Rises (region_in rs') 0 ks
  rises-now ks z r = rises-same (region_in rs) (region_in rs') 0 ks (start-same ks z) r

  has-now : (p : ℕ) → count_if (eqb i) (child_slots rs p) ≡ child x p
  has-now p = l.listing p i ∙ same-child (at_slot rs i) x p t.was

-- ---- a region is added

-- the list of slot q takes it in where it hangs under q; rs₁ has the same starts
pub data Takes (rs rs₁ rs' : List (Option Region)) (i : ℕ) (g : Region) (q : ℕ) : Type 0 where
  same : child_of g.kind q ≡ 0 → child_slots rs' q ≡ child_slots rs q → Takes rs rs₁ rs' i g q
  more : child_of g.kind q ≡ 1 → child_slots rs' q ≡ insert_sorted rs₁ i g.start (child_slots rs q) → Takes rs rs₁ rs' i g q

module _ (rs rs₁ rs' : List (Option Region)) (l : Lists rs) (i : ℕ) (g : Region) (t : Changed rs rs' i none (some g)) (first : Changed rs rs₁ i none (some g)) where
  listing-added : (q k : ℕ) → Takes rs rs₁ rs' i g q → count_if (eqb k) (child_slots rs' q) ≡ child (at_slot rs' k) q
  listing-added q k (same z e) = listing-now rs rs' l i none (some g) t q k (omega (arith, ap (count_if (eqb k)) e, if-zero (eqb k i) 0 refl, if-zero (eqb k i) (child_of g.kind q) z))
  listing-added q k (more z e) = listing-now rs rs' l i none (some g) t q k (omega (arith, ap (count_if (eqb k)) e, insert-count rs₁ i g.start k (child_slots rs q), if-zero (eqb k i) 0 refl, if-one (eqb k i) (child_of g.kind q) z))

  starts_first : (k : ℕ) → (region_in rs' k).start ≡ (region_in rs₁ k).start
  starts_first k = same_start (at_slot rs' k) (at_slot rs₁ k) (elim (ℕ_discrete k i) [
    | yes e ↦ rw e (t.now ∙ sym first.now)
    | no e ↦ t.others k e ∙ sym (first.others k e)
  ])

  rising-added : (q : ℕ) → Takes rs rs₁ rs' i g q → Rises (region_in rs') 0 (child_slots rs' q)
  rising-added q (same z e) = subst (Rises (region_in rs') 0) (sym e) (rises-now rs rs' l i none (some g) t (child_slots rs q) (has-now rs rs' l i none (some g) t q) (l.rising q))
  rising-added q (more z e) =
      let r = rises-now rs rs₁ l i none (some g) first (child_slots rs q) (has-now rs rs₁ l i none (some g) first q) (l.rising q) in
      let r₁ = insert-rises rs₁ i g.start 0 (child_slots rs q) (same_start (at_slot rs₁ i) (some g) first.now) (omega arith) r in
      subst (Rises (region_in rs') 0) (sym e) (rises-same (region_in rs₁) (region_in rs') 0 (insert_sorted rs₁ i g.start (child_slots rs q)) (λ k h. starts_first k) r₁)

  pub lists-added : ((q : ℕ) → Takes rs rs₁ rs' i g q) → Lists rs'
  lists-added v = record { listing = λ q k. listing-added q k (v q); rising = λ q. rising-added q (v q) }

-- ---- a region is removed

pub data Gives (rs rs' : List (Option Region)) (i : ℕ) (g : Region) (q : ℕ) : Type 0 where
  same : child_of g.kind q ≡ 0 → child_slots rs' q ≡ child_slots rs q → Gives rs rs' i g q
  less : child_of g.kind q ≡ 1 → child_slots rs' q ≡ without i (child_slots rs q) → Gives rs rs' i g q

module _ (rs rs' : List (Option Region)) (l : Lists rs) (i : ℕ) (g : Region) (t : Changed rs rs' i (some g) none) where
  without-one : (k : ℕ) (ks : List ℕ) → count_if (eqb i) ks ≡ 1 → count_if (eqb k) (without i ks) + one_if (eqb k i) ≡ count_if (eqb k) ks
  without-one k ks h = elim (ℕ_discrete k i) [
    | yes e ↦ rw e (omega (arith, without_gone i ks, self i))
    | no e ↦ omega (arith, without-count i k ks e, other k i e)
  ]

  listing-removed : (q k : ℕ) → Gives rs rs' i g q → count_if (eqb k) (child_slots rs' q) ≡ child (at_slot rs' k) q
  listing-removed q k (same z e) = listing-now rs rs' l i (some g) none t q k (omega (arith, ap (count_if (eqb k)) e, if-zero (eqb k i) 0 refl, if-zero (eqb k i) (child_of g.kind q) z))
  listing-removed q k (less z e) = listing-now rs rs' l i (some g) none t q k (omega (arith, ap (count_if (eqb k)) e, without-one k (child_slots rs q) (has-now rs rs' l i (some g) none t q ∙ z), if-zero (eqb k i) 0 refl, if-one (eqb k i) (child_of g.kind q) z))

  rising-removed : (q : ℕ) → Gives rs rs' i g q → Rises (region_in rs') 0 (child_slots rs' q)
  rising-removed q (same z e) = subst (Rises (region_in rs') 0) (sym e) (rises-now rs rs' l i (some g) none t (child_slots rs q) (has-now rs rs' l i (some g) none t q ∙ z) (l.rising q))
  rising-removed q (less z e) = subst (Rises (region_in rs') 0) (sym e) (rises-now rs rs' l i (some g) none t (without i (child_slots rs q)) (without_gone i (child_slots rs q)) (without-rises (region_in rs) 0 i (child_slots rs q) (l.rising q)))

  pub lists-removed : ((q : ℕ) → Gives rs rs' i g q) → Lists rs'
  lists-removed v = record { listing = λ q k. listing-removed q k (v q); rising = λ q. rising-removed q (v q) }

-- ---- a region changes, and its kind and start stay

pub lists-same : (rs rs' : List (Option Region)) → Lists rs → (i : ℕ) (g h : Region) → h.kind ≡ g.kind → h.start ≡ g.start → Changed rs rs' i (some g) (some h) → ((q : ℕ) → child_slots rs' q ≡ child_slots rs q) → Lists rs'
lists-same rs rs' l i g h κ σ t e = record {
  listing = λ q k. listing-now rs rs' l i (some g) (some h) t q k (omega (arith, ap (count_if (eqb k)) (e q), ap (λ (z : Kind). if eqb k i then child_of z q else 0) κ));
  rising = λ q. subst (Rises (region_in rs') 0) (sym (e q)) (rises-same (region_in rs) (region_in rs') 0 (child_slots rs q) (λ k h. start k) (l.rising q));
}
  where
    start : (k : ℕ) → (region_in rs' k).start ≡ (region_in rs k).start
    start k = elim (ℕ_discrete k i) [
      | yes n ↦ rw n (same_start (at_slot rs' i) (some h) t.now ∙ σ ∙ sym (same_start (at_slot rs i) (some g) t.was))
      | no n ↦ same_start (at_slot rs' k) (at_slot rs k) (t.others k n)
    ]
