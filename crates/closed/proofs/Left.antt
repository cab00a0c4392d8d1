-- The table of the regions that are left, slot by slot; tables that differ in lists of children alone count the same.
use Rattle.std.specs.Prelude.{◌≡◌, Bool, true, false, length, if◌then◌else◌}
use Rattle.std.proofs.Math.Path.{refl, ap}
use Rattle.std.proofs.Common.{sym, ap₂, ◌∙◌}
use Prim.Native.Nat.{ℕ, zero, suc, ◌+◌}
use Rattle.std.proofs.Math.Option.{Option, none}
use mathlib.Core.List.{List, [], ◌∷◌}
use native.Mathlib.Omega.{arith}
use Rattle.model.specs.Lists.{at_slot}
use Rattle.model.specs.State.{State, Region}
use Rattle.model.specs.Fields.{Field}
use Rattle.model.specs.Counts.{region_count}
use Rattle.laws.specs.Tree.Sum.{sum, sum_same}
use Rattle.laws.specs.Tree.Shares.{carve, clear, carved, carved-is, weight, tally-is}
use Rattle.laws.specs.Tree.Change.{Alike, same-share, same-carve}
use Rattle.closed.specs.Ends.{dies, left_from, regions_left}

either-none : {A : Type 0} (b : Bool) → ◌≡◌ {A = Option A} none (if b then none else none)
either-none true = refl
either-none false = refl

module _ (s : State) (taken : ℕ → Bool) where
  left-from : (j : ℕ) (l : List (Option Region)) (i : ℕ) → at_slot (left_from s taken j l) i ≡ (if dies s taken (j + i) then none else at_slot l i)
  unfolding left_from
  left-from j [] i = either-none (dies s taken (j + i))
  left-from j (x ∷ l) zero = let e : j ≡ j + 0 = omega arith in ap (λ n. if dies s taken n then none else x) e
  left-from j (x ∷ l) (suc i) = let e : suc j + i ≡ j + suc i = omega arith in left-from (suc j) l i ∙ ap (λ n. if dies s taken n then none else at_slot l i) e

  pub left_at : (i : ℕ) → at_slot (regions_left s taken) i ≡ (if dies s taken i then none else at_slot s.regions i)
  unfolding regions_left
  left_at i = let e : 0 + i ≡ i = omega arith in left-from 0 s.regions i ∙ ap (λ n. if dies s taken n then none else at_slot s.regions i) e

  length_from : (j : ℕ) (l : List (Option Region)) → length (left_from s taken j l) ≡ length l
  unfolding left_from
  length_from j [] = refl
  length_from j (x ∷ l) = ap suc (length_from (suc j) l)

  pub left-length : length (regions_left s taken) ≡ length s.regions
  unfolding regions_left
  left-length = length_from 0 s.regions

-- ---- lists of children do not matter to the counts

module _ (rs rs' : List (Option Region)) (h : Alike rs rs') (a : ℕ) where
  same-carved : (p : ℕ) → carved rs' p a ≡ carved rs p a
  same-carved p =
      carved-is rs' p a
      ∙ ap (sum (λ k. carve (at_slot rs' k) p a)) h.size
      ∙ sum_same (λ k. carve (at_slot rs' k) p a) (λ k. carve (at_slot rs k) p a) (length rs) (λ k l. same-carve (at_slot rs' k) (at_slot rs k) p a (h.slots k))
      ∙ sym (carved-is rs p a)

  pub alike-counts : (f : Field) (d : ℕ) → region_count f rs' d a ≡ region_count f rs d a
  alike-counts f d =
      tally-is f rs' d a
      ∙ ap (sum (weight f rs' d a)) h.size
      ∙ sum_same (weight f rs' d a) (weight f rs d a) (length rs) (λ k l. ap₂ clear (same-carved k) (same-share f (at_slot rs' k) (at_slot rs k) d a (h.slots k)))
      ∙ sym (tally-is f rs d a)
