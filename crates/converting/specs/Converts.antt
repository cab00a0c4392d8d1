-- Why the converter keeps its promise, `Converts` (Replies.antt of crate frame): what its code finds is exact.
use Rattle.std.specs.Prelude.{◌≡◌, refl, Bool, true, false, List, ℕ, length, replicate, Err}
use Rattle.std.proofs.Common.{sym, ap, subst, ◌∙◌}
use Rattle.base.specs.Tests.{true-false}
use Rattle.refusals.specs.Refusals.{memory}
use Rattle.model.specs.Lists.{Each}
use Rattle.model.specs.State.{Word}
use Rattle.model.specs.Perform.{Value, Answer}
use Rattle.model.specs.Layout.{words}
use Rattle.model.specs.Memory.{zeroed}
use Rattle.model.specs.Converting.{Converted, not_convertible, converted}
use Rattle.laws.specs.Words.Length.{words-length}
use Rattle.words.specs.Copies.{copied}
use Rattle.replies.specs.declared.Reply.{Reply}
use Rattle.replies.specs.Replies.{reply_of, Converts}
use Rattle.frame.specs.Finish.{copy-back}
use Rattle.replies.specs.ReplyFor.{reply_for}
use Rattle.converted.specs.Former.{rebuilt}
use Rattle.converted.proofs.Unique.{convertible-words, converted-unique}
use Rattle.converting.specs.Exact.{converts_b, test-convertible, convertible-test}

-- THEOREM: what it returns and leaves is settled
pub converts-unique : {o t v w : List ℕ} {r r' : Reply} {t₁ v₁ w₁ t₂ v₂ w₂ : List ℕ} → Converts o t v w r t₁ v₁ w₁ → Converts o t v w r' t₂ v₂ w₂ → (r ≡ r') × (t₁ ≡ t₂) × (v₁ ≡ v₂) × (w₁ ≡ w₂)
converts-unique x y = let u = converted-unique x.converts y.converts in (x.reply ∙ ap reply_of u.0 ∙ sym y.reply, u.1, u.2, u.3)

-- ---- the code's two ways: b is what its test says, n and m are how long the work areas are behind it

module _ (o t v w : List ℕ) (known : Each Word o) (b : Bool) (e : b ≡ converts_b o t v w) (v₂ w₂ : List ℕ) (n m : ℕ) (lv : n ≡ length v) (lw : m ≡ length w) (cv : v₂ ≡ replicate n 0) (cw : w₂ ≡ replicate m 0) where
  left : (a : Answer) (t₂ t' : List ℕ) → t' ≡ t₂ → (r : Reply) → r ≡ reply_of a → Converted o t v w a t₂ (zeroed v) (zeroed w) → Converts o t v w r t' v₂ w₂
  left a t₂ t' q r g c =
      let p : v₂ ≡ zeroed v = cv ∙ ap (λ k. replicate k 0) lv in
      let s : w₂ ≡ zeroed w = cw ∙ ap (λ k. replicate k 0) lw in
      record { answer = a; converts = subst (λ x. Converted o t v w a t' v₂ x) (sym s) (subst (λ x. Converted o t v w a t' x (zeroed w)) (sym p) (subst (λ x. Converted o t v w a x (zeroed v) (zeroed w)) (sym q) c)); reply = g }

  pub refused-converts : b ≡ false → (r : Reply) → r ≡ reply_for (Err memory) → Converts o t v w r t v₂ w₂
  refused-converts h r g = left (Answer.no memory) t t refl r g (not_convertible (λ s c. true-false (convertible-test o t v w s c) (sym e ∙ h)))

  -- v₁ is what is built
  pub accepted-converts : b ≡ true → (v₁ : List ℕ) → (b ≡ true → v₁ ≡ rebuilt o) → (t' : List ℕ) → t' ≡ copied v₁ t → Converts o t v w (record { refusal = 0; value = 0 }) t' v₂ w₂
  accepted-converts h v₁ f t' g =
      let (s, c) = test-convertible o t v w known (sym e ∙ h) in
      let k : v₁ ≡ words s = f h ∙ sym (convertible-words o t v w s c) in
      left (Answer.yes Value.done) (words s) t' (g ∙ copy-back v₁ t (c.tables ∙ sym (words-length s c.sound) ∙ ap length (sym k)) ∙ k) _ refl (converted s c)
