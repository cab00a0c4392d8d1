-- Calls one after another: what a further call answers and leaves, and its line behind the others.
use Rattle.std.specs.Prelude.{◌≡◌, refl, ℕ, suc, ◌+◌, List, [], ◌∷◌, ◌++◌, length}
use Rattle.std.proofs.Common.{sym, ap, ◌∙◌, append-nil, append_assoc, arith}
use Rattle.std.proofs.lemmas.List.{length-replicate}
use Rattle.model.specs.State.{State}
use Rattle.model.specs.Perform.{Call, Answer, step, run}
use Rattle.model.specs.CallWords.{CallWords}
use Rattle.model.specs.Memory.{Lent, NotMake, After, performed}
use Rattle.laws.specs.AfterUnique.{after-unique}
use Rattle.laws.specs.SoundKept.{step-sound}
use Rattle.replies.specs.Replies.{reply_of}
use Rattle.output.specs.Text.{call_line}
use Rattle.script_text.specs.ScriptText.{call_lines}

-- ---- on the words of a sound state

module _ {t w : List ℕ} {s : State} (l : Lent t w s) {c : Call} (n : NotMake c) {a : Answer} {t₁ w₁ : List ℕ} (h : After t w c a t₁ w₁) where
  pub step-answer : a ≡ (step s c).0
  step-answer = (after-unique h (performed c s n l)).0

  pub step-lent : CallWords c → length t₁ ≡ length t → Lent t₁ w₁ (step s c).1
  step-lent u e =
      let q = after-unique h (performed c s n l) in
      record { sound = step-sound s c l.sound u; tables = q.1; work = ap length q.2 ∙ length-replicate (length w) 0 ∙ l.work ∙ sym e }

-- ---- one call more

pub run_more : (s : State) (cs : List Call) (c : Call) → run s (cs ++ (c ∷ [])) ≡ ((run s cs).0 ++ ((step (run s cs).1 c).0 ∷ []), (step (run s cs).1 c).1)
unfolding run
run_more s [] c = refl
run_more s (d ∷ cs) c = ap (λ (x : List Answer × State). ((step s d).0 ∷ x.0, x.1)) (run_more (step s d).1 cs c)

pub answers-length : (s : State) (cs : List Call) → length (run s cs).0 ≡ length cs
unfolding run
answers-length s [] = refl
answers-length s (c ∷ cs) = ap suc (answers-length (step s c).1 cs)

pub lines_more : (k : ℕ) (l : List Answer) (a : Answer) → call_lines k (l ++ (a ∷ [])) ≡ call_lines k l ++ call_line (k + length l) (reply_of a)
unfolding call_lines
lines_more k [] a = let e : k ≡ k + 0 = omega arith in append-nil (call_line k (reply_of a)) ∙ ap (λ (j : ℕ). call_line j (reply_of a)) e
lines_more k (b ∷ l) a =
    let e : suc k + length l ≡ k + suc (length l) = omega arith in
    ap (λ (x : List ℕ). call_line k (reply_of b) ++ x) (lines_more (suc k) l a ∙ ap (λ (j : ℕ). call_lines (suc k) l ++ call_line j (reply_of a)) e)
    ∙ sym (append_assoc (call_line k (reply_of b)) (call_lines (suc k) l) (call_line (k + suc (length l)) (reply_of a)))
