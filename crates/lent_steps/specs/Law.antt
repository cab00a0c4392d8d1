-- A call that is one step does what the model's `After` says: admitted tables are the words of one sound state, on which the code's step does what the
-- model's step does (`call-refines`).
use Rattle.std.specs.Prelude.{◌≡◌, ℕ, Bool, true, List, length, replicate, Ok, Err}
use Rattle.std.proofs.Math.Path.{refl, ap, subst}
use Rattle.std.proofs.Common.{sym, ◌∙◌}
use Rattle.model.specs.Lists.{Each}
use Rattle.model.specs.Outcome.{Outcome, ok, refuse, ◌>>=◌}
use Rattle.model.specs.State.{State, Word}
use Rattle.model.specs.Perform as model
use Rattle.model.specs.Perform.{Call, Value, Answer, perform_step, perform, step, after as outcome-after}
use Rattle.model.specs.CallWords.{StepWords}
use Rattle.model.specs.Layout.{words}
use Rattle.model.specs.Memory.{Lent, zeroed}
use Rattle.tables.specs.View.{view, Left}
use Rattle.answers.specs.Answers as code
use Rattle.answers.specs.Answers.{Effect}
use Rattle.decoded.specs.Tables.{tables_of}
use Rattle.decoded.specs.Words.{words-held, held-words}
use Rattle.refine.specs.Agrees.{Agrees}
use Rattle.refine.specs.Calls.Perform.{step_for, slot_from, call-refines}
use Rattle.replies.specs.declared.Reply as replies
use Rattle.replies.specs.Replies.{reply_of, Returns}
use Rattle.frame.specs.Finish.{admitted, kept, kept-copy, finished, copy-back}
use Rattle.frame.specs.Law.{lent, step-returns}
use Rattle.replies.specs.ReplyFor.{reply_for}

-- ---- a call that the code runs as a step

-- what a finished call returned and left, on the sound state whose words were lent
pub record Completed (t w : List ℕ) (c : model.Step) (r : replies.Reply) (t₂ w₂ : List ℕ) : Type 0 where
  pub state : State
  pub lent : Lent t w state
  pub reply : r ≡ reply_of (step state (Call.Do c)).0
  pub tables : t₂ ≡ words (step state (Call.Do c)).1
  pub work : w₂ ≡ zeroed w

module _ (t w : List ℕ) (s : State) (l : Lent t w s) (c : model.Step) (a : code.Answer) (u : List ℕ) (long : length u ≡ length t) where
  Ends : Answer × State → Type 0
  Ends y = (reply_for a ≡ reply_of y.0) × (finished a u t ≡ words y.1)

  by-outcome : (x : Effect) → a ≡ x.answer → Left u x.tables → (o : Outcome (Value × State)) → perform_step s c ≡ o → Agrees x (o >>= λ y. ok (slot_from y.0, y.1)) → Ends (step s (Call.Do c))
  unfolding step perform ◌>>=◌ Ends
  by-outcome x e v (ok y) p g =
      let b : a ≡ Ok (slot_from y.0) = e ∙ g.0 in
      subst Ends (sym (ap (outcome-after s) p))
      (ap reply_for b, ap (λ z. finished z u t) b ∙ held-words y.1 u (subst (Left u) g.1 v))
  by-outcome x e v (refuse r) p g =
      let b : a ≡ Err r = e ∙ g in
      subst Ends (sym (ap (outcome-after s) p))
      (ap reply_for b, ap (λ z. finished z u t) b ∙ copy-back t u long ∙ l.tables)

  ends : StepWords c → a ≡ (step_for c (view t)).answer → Left u (step_for c (view t)).tables → (reply_for a ≡ reply_of (step s (Call.Do c)).0) × (finished a u t ≡ words (step s (Call.Do c)).1)
  unfolding Ends
  ends k e v =
      let see : view t ≡ tables_of s = (words-held s l.sound t l.tables).seen in
      by-outcome (step_for c (tables_of s)) (e ∙ ap (λ z. (step_for c z).answer) see) (subst (λ z. Left u (step_for c z).tables) see v) (perform_step s c) refl (call-refines s l.sound c k)

-- ---- as the exported functions cite it

-- b is what the test said; w₁ is the work area behind it; a and u are what the step answered and left; r, t₂ and w₂ what the end of the call gave
pub completed : (t w : List ℕ) → Each Word t → (b : Bool) → b ≡ admitted t w → b ≡ true → (w₁ : List ℕ) → w₁ ≡ kept t w
    → (c : model.Step) → StepWords c → (a : code.Answer) (u : List ℕ) → a ≡ (step_for c (view t)).answer → Left u (step_for c (view t)).tables → length u ≡ length t
    → (r : replies.Reply) (t₂ w₂ : List ℕ) → r ≡ reply_for a → t₂ ≡ finished a u w₁ → w₂ ≡ zeroed w₁ → Completed t w c r t₂ w₂
completed t w known b e h w₁ k c x a u f v long r t₂ w₂ er et ew =
    let d = sym e ∙ h in
    let l = lent t w known d in
    let m : w₁ ≡ t = k ∙ kept-copy t w d in
    let y = ends t w l.0 l.1 c a u long x f v in
    record {
      state = l.0;
      lent = l.1;
      reply = er ∙ y.0;
      tables = et ∙ ap (finished a u) m ∙ y.1;
      work = ew ∙ ap zeroed m ∙ ap (λ n. replicate n 0) (sym l.1.work);
    }

pub ran-returns : (t w : List ℕ) (c : model.Step) (r : replies.Reply) (t₂ w₂ : List ℕ) → Completed t w c r t₂ w₂ → Returns reply_of t w (Call.Do c) r t₂ w₂
ran-returns t w c r t₂ w₂ x = step-returns reply_of t w (Call.Do c) tt x.state x.lent r t₂ w₂ x.reply x.tables x.work

pub call_returns : (t w : List ℕ) → Each Word t → (b : Bool) → b ≡ admitted t w → b ≡ true → (w₁ : List ℕ) → w₁ ≡ kept t w
    → (c : model.Step) → StepWords c → (a : code.Answer) (u : List ℕ) → a ≡ (step_for c (view t)).answer → Left u (step_for c (view t)).tables → length u ≡ length t
    → (r : replies.Reply) (t₂ w₂ : List ℕ) → r ≡ reply_for a → t₂ ≡ finished a u w₁ → w₂ ≡ zeroed w₁ → Returns reply_of t w (Call.Do c) r t₂ w₂
call_returns t w known b e h w₁ k c x a u f v long r t₂ w₂ er et ew = ran-returns t w c r t₂ w₂ (completed t w known b e h w₁ k c x a u f v long r t₂ w₂ er et ew)
