-- Parents lead to a root, and managers to an unmanaged domain. The test follows them for as many steps as the table has slots. That is enough:
-- a way without circles has no slot twice, since one that it came to again would lead on for a shorter and a longer way at once.
use Rattle.std.specs.Prelude.{◌≡◌, refl, ℕ, zero, suc, ◌≤◌, ◌<◌, List, [], ◌∷◌, T, eqb, length, Bool, true, false}
use Rattle.std.proofs.Common.{sym, ap, subst, arith, eqb→eq, ne_eqb}
use Rattle.std.proofs.Math.Option.{Option, none, some}
use Rattle.base.specs.Cases.{lt, ge, cmp, holds, fails, test}
use Rattle.base.specs.Tests.{true-is}
use Rattle.base.specs.Options.{none-some, some_same}
use Rattle.model.specs.Lists.{one_if, count_if, at_slot, In}
use Rattle.model.specs.State.{parent_of, Domain, Region}
use Rattle.model.specs.Sound.{Rooted, Managed}
use Rattle.laws.specs.Stack.{one_at_most, stack-length}
use Rattle.laws.specs.Tree.Sum.{sum-le, sum-each}
use Rattle.laws.specs.Tree.Slots.{in-length}

-- ---- the tests: parents lead to a root, managers to an unmanaged domain, in fewer than n steps

abbrev pub if_some : (ℕ → Bool) → Option ℕ → Bool
if_some f none = true
if_some f (some p) = f p

abbrev pub parent_passes : (ℕ → Bool) → Option Region → Bool
parent_passes f none = false
parent_passes f (some g) = if_some f (parent_of g.kind)

abbrev pub rooted : ℕ → List (Option Region) → ℕ → Bool
rooted zero rs i = false
rooted (suc n) rs i = parent_passes (λ p. rooted n rs p) (at_slot rs i)

abbrev pub manager_passes : (ℕ → Bool) → Option Domain → Bool
manager_passes f none = false
manager_passes f (some x) = if_some f x.manager

abbrev pub managed : ℕ → List (Option Domain) → ℕ → Bool
managed zero ds d = false
managed (suc n) ds d = manager_passes (λ m. managed n ds m) (at_slot ds d)

-- ---- ways up a table

-- from slot i the links lead to a slot without one
pub data Leads {A : Type 0} (l : List (Option A)) (up : A → Option ℕ) : ℕ → Type 0 where
  top : (i : ℕ) (x : A) → In l i x → up x ≡ none → Leads l up i
  under : (i p : ℕ) (x : A) → In l i x → up x ≡ some p → Leads l up p → Leads l up i

module _ {A : Type 0} (l : List (Option A)) (up : A → Option ℕ) where
  -- the slots on the way
  abbrev above : (i : ℕ) → Leads l up i → List ℕ
  above i (Leads.top _ x e q) = i ∷ []
  above i (Leads.under _ p x e q r) = i ∷ above p r

  same_way : (i j : ℕ) (a : Leads l up i) (b : Leads l up j) → i ≡ j → length (above i a) ≡ length (above j b)
  same_way i j (Leads.top _ x e q) (Leads.top _ y m n) o = refl
  same_way i j (Leads.top _ x e q) (Leads.under _ p y m n r) o = absurd (none-some (up x) p q (rw (some_same (at_slot l j) x y (rw o at e) m) n))
  same_way i j (Leads.under _ p x e q r) (Leads.top _ y m n) o = absurd (none-some (up y) p n (rw (some_same (at_slot l j) y x m (rw o at e)) q))
  same_way i j (Leads.under _ p x e q r) (Leads.under _ p' y m n r') o =
      let z = some_same (at_slot l j) x y (rw o at e) m in
      ap suc (same_way p p' r r' (some_same (up y) p p' (rw z at q) n))

  -- a slot on the way has no longer way
  on-way : (i k : ℕ) (a : Leads l up i) → 0 < count_if (eqb k) (above i a) → (b : Leads l up k) × (length (above k b) ≤ length (above i a))
  on-way i k (Leads.top _ x e q) h = elim (test (eqb k i)) [
    | holds t ↦ subst (λ j. (b : Leads l up j) × (length (above j b) ≤ 1)) (sym (eqb→eq k i (true-is t))) (Leads.top i x e q, omega arith)
    | fails t ↦ absurd (omega (arith, rw t at h))
  ]
  on-way i k (Leads.under _ p x e q r) h = elim (test (eqb k i)) [
    | holds t ↦ subst (λ j. (b : Leads l up j) × (length (above j b) ≤ suc (length (above p r)))) (sym (eqb→eq k i (true-is t))) (Leads.under i p x e q r, omega arith)
    | fails t ↦ let w = on-way p k r (omega (arith, rw t at h)) in (w.0, omega (arith, w.1))
  ]

  -- so no slot is on it twice
  once-above : (i : ℕ) (a : Leads l up i) (k : ℕ) → count_if (eqb k) (above i a) ≤ 1
  once-above i (Leads.top _ x e q) k = omega (arith, one_at_most (eqb k i))
  once-above i (Leads.under _ p x e q r) k = elim (test (eqb k i)) [
    | holds t ↦ elim (cmp 0 (count_if (eqb k) (above p r))) [
      | lt u ↦ let w = on-way p k r u in absurd (omega (arith, w.1, same_way k i w.0 (Leads.under i p x e q r) (eqb→eq k i (true-is t))))
      | ge u ↦ omega (arith, one_at_most (eqb k i))
    ]
    | fails t ↦ omega (arith, once-above p r k, ap one_if t)
  ]

  in_table : (i : ℕ) (a : Leads l up i) (k : ℕ) → length l ≤ k → count_if (eqb k) (above i a) ≡ 0
  in_table i (Leads.top _ x e q) k h = omega (arith, ap one_if (ne_eqb k i (λ z. omega (arith, in-length l i x e))))
  in_table i (Leads.under _ p x e q r) k h = omega (arith, ap one_if (ne_eqb k i (λ z. omega (arith, in-length l i x e))), in_table p r k h)

-- ---- a list without repeats of slots below n is no longer than n

pub no_longer : (n : ℕ) (l : List ℕ) → ((k : ℕ) → n ≤ k → count_if (eqb k) l ≡ 0) → ((k : ℕ) → count_if (eqb k) l ≤ 1) → length l ≤ n
no_longer n l h o = omega (arith, stack-length n l h, sum-each n, sum-le (λ k. count_if (eqb k) l) (λ k. 1) n o)

way-fits : {A : Type 0} (l : List (Option A)) (up : A → Option ℕ) (i : ℕ) (a : Leads l up i) → length (above l up i a) ≤ length l
way-fits l up i a = no_longer (length l) (above l up i a) (in_table l up i a) (once-above l up i a)

-- ---- parents

rooted-leads : (rs : List (Option Region)) (i : ℕ) → Rooted rs i → Leads rs (λ g. parent_of g.kind) i
rooted-leads rs i (Rooted.top _ g e q) = Leads.top i g e q
rooted-leads rs i (Rooted.under _ p g e q r) = Leads.under i p g e q (rooted-leads rs p r)

leads-rooted : (rs : List (Option Region)) (n i : ℕ) (a : Leads rs (λ g. parent_of g.kind) i) → length (above rs (λ g. parent_of g.kind) i a) ≤ n → T (rooted n rs i)
leads-rooted rs zero i (Leads.top _ g e q) h = absurd (omega arith)
leads-rooted rs zero i (Leads.under _ p g e q r) h = absurd (omega arith)
leads-rooted rs (suc n) i (Leads.top _ g e q) h = rw (e, q) tt
leads-rooted rs (suc n) i (Leads.under _ p g e q r) h = rw (e, q) (leads-rooted rs n p r (omega arith))

pub ok-rooted : (rs : List (Option Region)) (i : ℕ) → Rooted rs i → T (rooted (length rs) rs i)
ok-rooted rs i r = let a = rooted-leads rs i r in leads-rooted rs (length rs) i a (way-fits rs (λ g. parent_of g.kind) i a)

-- ---- managers

managed-leads : (ds : List (Option Domain)) (d : ℕ) → Managed ds d → Leads ds (λ x. x.manager) d
managed-leads ds d (Managed.no_manager _ x e q) = Leads.top d x e q
managed-leads ds d (Managed.by _ m x e q r) = Leads.under d m x e q (managed-leads ds m r)

leads-managed : (ds : List (Option Domain)) (n d : ℕ) (a : Leads ds (λ x. x.manager) d) → length (above ds (λ x. x.manager) d a) ≤ n → T (managed n ds d)
leads-managed ds zero d (Leads.top _ x e q) h = absurd (omega arith)
leads-managed ds zero d (Leads.under _ m x e q r) h = absurd (omega arith)
leads-managed ds (suc n) d (Leads.top _ x e q) h = rw (e, q) tt
leads-managed ds (suc n) d (Leads.under _ m x e q r) h = rw (e, q) (leads-managed ds n m r (omega arith))

pub ok-managed : (ds : List (Option Domain)) (d : ℕ) → Managed ds d → T (managed (length ds) ds d)
ok-managed ds d r = let a = managed-leads ds d r in leads-managed ds (length ds) d a (way-fits ds (λ x. x.manager) d a)
