-- The converter carries demand 3 over: exported calls on the tables that it leaves go on with the book that was kept of the old ones.
use Rattle.std.specs.Prelude.{◌≡◌, List, map, ℕ}
use Rattle.std.proofs.Common.{sym, ap, subst, ◌∙◌, arith}
use Rattle.model.specs.Perform as model
use Rattle.model.specs.Perform.{Answer, code}
use Rattle.model.specs.Converting.{Converted, not_convertible, converted}
use Rattle.replies.specs.declared.Reply.{Reply}
use Rattle.book.specs.Lent.{ClaimsOf}
use Rattle.converted.proofs.Theorem.{demand3-converted}
use Rattle.promise.specs.Calls.{call_of}
use Rattle.promise.specs.Statements.{EverythingConverted}
use Rattle.promise.proofs.Everything.{chained, words_of}

-- a conversion that returned refusal 0 was accepted
accepted-conversion : (o t v w t₁ v₁ w₁ : List ℕ) (y : Answer) → code y ≡ 0 → Converted o t v w y t₁ v₁ w₁ → Converted o t v w (Answer.yes model.Value.done) t₁ v₁ w₁
accepted-conversion o t v w t₁ v₁ w₁ y e (not_convertible n) = absurd (omega arith)
accepted-conversion o t v w t₁ v₁ w₁ y e (converted s c) = converted s c

-- THEOREM
pub everything-converted : EverythingConverted
everything-converted z s cs o t v w t₁ v₁ w₁ t' r xs m k e h a u q =
    let c = accepted-conversion o t v w t₁ v₁ w₁ h.answer (ap (λ (p : Reply). p.refusal) (sym h.reply) ∙ a) h.converts in
    let x = chained t₁ t' xs q in
    subst (λ b. ClaimsOf b t') (x.same _) (demand3-converted z s cs (map call_of xs) x.answers o t v w t₁ v₁ w₁ t' m k e c (words_of xs u) x.chain)
