-- A bit taken away opens nothing, of the exported functions: each is a call of the model with some answer, of which `fewer-lent` (crate interface) speaks.
use Rattle.std.specs.Prelude.{◌≡◌, refl, ◌≢◌, ◌⊎◌, ℕ, List}
use Rattle.std.proofs.Common.{sym, ap, subst, ◌∙◌, inl, inr}
use Rattle.refusals.specs.declared.Refusal.{Refusal}
use Rattle.refusals.specs.Refusals.{number, not_allowed}
use Rattle.model.specs.Lists.{Each}
use Rattle.model.specs.State.{Word}
use Rattle.model.specs.Perform.{Call, Answer, code}
use Rattle.model.specs.Memory.{After}
use Rattle.interface.specs.FewerTables.{FewerTables}
use Rattle.interface.proofs.Lent.{fewer-lent}
use Rattle.promise.specs.Calls.{call_of, refusal_of}
use Rattle.promise.specs.Statements.{FewerExported}
use Rattle.promise.proofs.Same.{answered}

either : (q r : Refusal) (y : Answer) → y ≡ Answer.no q → (q ≡ r) ⊎ (q ≡ not_allowed) → (code y ≡ number r) ⊎ (code y ≡ number not_allowed)
either q r y e (inl o) = inl (ap code e ∙ ap number o)
either q r y e (inr o) = inr (ap code e ∙ ap number o)

module _ (t t' w t₁ w₁ t₂ w₂ : List ℕ) (k : Each Word t) (f : FewerTables t t') (c : Call) where
  by_answer : (x y : Answer) → After t w c x t₁ w₁ → After t' w c y t₂ w₂ → code x ≢ 0 → (code y ≡ code x) ⊎ (code y ≡ number not_allowed)
  by_answer (Answer.yes v) y h j n = absurd (n refl)
  by_answer (Answer.no r) y h j n = let (q, e, o) = fewer-lent t t' w t₁ w₁ t₂ w₂ c r y k f h j in either q r y e o

-- THEOREM
pub fewer-exported : FewerExported
fewer-exported t t' w t₁ w₁ t₂ w₂ x y k f same h j n =
    let a = answered t w x t₁ w₁ h in
    let b = answered t' w y t₂ w₂ j in
    let left = subst (λ c. After t' w c b.answer t₂ w₂) same b.after in
    let u = by_answer t t' w t₁ w₁ t₂ w₂ k f (call_of x) a.answer b.answer a.after left (λ e. n (a.refusal ∙ e)) in
    subst (λ m. (m ≡ refusal_of x) ⊎ (m ≡ number not_allowed)) (sym b.refusal) (subst (λ m. (code b.answer ≡ m) ⊎ (code b.answer ≡ number not_allowed)) (sym a.refusal) u)
