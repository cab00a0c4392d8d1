-- A law: a reading that fills a lent run settles the answer, every word, and every place of the run.
use Rattle.std.specs.Prelude.{◌≡◌, refl, ℕ, List, length}
use Rattle.std.proofs.Common.{sym, ap, arith}
use Rattle.refusals.specs.declared.Refusal.{Refusal}
use Rattle.model.specs.State.{Handle, Access}
use Rattle.model.specs.Readings.{fill_run}
use Rattle.model.specs.Perform.{Call, Value, Answer}
use Rattle.model.specs.Memory.{Filled, AfterPermissions, AfterHolders, filled, untouched}
use Rattle.laws.specs.AfterUnique.{after-unique}

yes-no : (v : Value) (q : Refusal) → Answer.yes v ≡ Answer.no q → ⊥
yes-no v q e = let z : ◌≡◌ {A = ℕ} 0 1 = cc in absurd (omega arith)

-- for any value that tells its list
module _ {A : Type 0} (reply : List A → Value) (tells : (l m : List A) → Answer.yes (reply l) ≡ Answer.yes (reply m) → l ≡ m) where
  filled-unique : {t w : List ℕ} {c : Call} {run : List A} {a b : Answer} {t₁ w₁ t₂ w₂ : List ℕ} {r₁ r₂ : List A}
      → Filled t w c reply run a t₁ w₁ r₁ → Filled t w c reply run b t₂ w₂ r₂ → (a ≡ b) × (t₁ ≡ t₂) × (w₁ ≡ w₂) × (r₁ ≡ r₂)
  filled-unique {run = run} (filled l t₁ w₁ x) (filled m t₂ w₂ y) =
      let u = after-unique x y in
      let e = tells l m u.0 in
      (ap (λ k. Answer.yes (Value.number (length k))) e, u.1, u.2, ap (λ k. fill_run k run) e)
  filled-unique (filled l t₁ w₁ x) (untouched q t₂ w₂ y) = absurd (yes-no _ q (after-unique x y).0)
  filled-unique (untouched q t₁ w₁ x) (filled l t₂ w₂ y) = absurd (yes-no _ q (sym (after-unique x y).0))
  filled-unique (untouched q t₁ w₁ x) (untouched q' t₂ w₂ y) = let u = after-unique x y in (u.0, u.1, u.2, refl)

pub permissions-unique : {t w : List ℕ} {h : Handle} {run : List Access} {a b : Answer} {t₁ w₁ t₂ w₂ : List ℕ} {r₁ r₂ : List Access}
    → AfterPermissions t w h run a t₁ w₁ r₁ → AfterPermissions t w h run b t₂ w₂ r₂ → (a ≡ b) × (t₁ ≡ t₂) × (w₁ ≡ w₂) × (r₁ ≡ r₂)
permissions-unique x y = filled-unique Value.permission_list (λ l m e. cc) x y

pub holders-unique : {t w : List ℕ} {x : ℕ} {run : List ℕ} {a b : Answer} {t₁ w₁ t₂ w₂ : List ℕ} {r₁ r₂ : List ℕ}
    → AfterHolders t w x run a t₁ w₁ r₁ → AfterHolders t w x run b t₂ w₂ r₂ → (a ≡ b) × (t₁ ≡ t₂) × (w₁ ≡ w₂) × (r₁ ≡ r₂)
holders-unique x y = filled-unique Value.domain_list (λ l m e. cc) x y
