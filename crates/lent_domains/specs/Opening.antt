-- Opening: the reply is made of the slot and of the generation that it has in the tables left, which is what `After` says.
use Rattle.std.specs.Prelude.{◌≡◌, refl, ℕ, ◌<◌, List}
use Rattle.std.proofs.Common.{sym, ap, subst, ◌∙◌, arith, ne_eqb}
use Rattle.std.proofs.Math.Option.{Option}
use Rattle.refusals.specs.declared.Refusal.{Refusal}
use Rattle.refusals.specs.Refusals.{number, memory}
use Rattle.model.specs.Outcome as outcome
use Rattle.model.specs.Outcome.{Outcome, ok, refuse}
use Rattle.model.specs.State.{State}
use Rattle.model.specs.State as state
use Rattle.model.specs.Pool.{handle_of}
use Rattle.model.specs.Calls as model
use Rattle.model.specs.Perform.{Step, Call, Value, Answer, code, perform_step, perform, step, after as outcome-after}
use Rattle.model.specs.CallWords.{CallWords, StepWords}
use Rattle.model.specs.Memory.{After, NotMake, made, not_sound, performed}
use Rattle.laws.specs.Accepted.{All, accepted, bind, all-ok}
use Rattle.laws.specs.CallRefusals.{refusal-above}
use Rattle.laws.specs.SoundKept.{step-sound}
use Rattle.tables.specs.Tables.{Tables}
use Rattle.tables.specs.View.{view, Sized}
use Rattle.decoded.specs.Tables.{pool_of, tables_of}
use Rattle.decoded.specs.Words.{words-held}
use Rattle.refine.specs.Calls.Open.{opened-handle}
use Rattle.replies.specs.declared.Reply as replies
use Rattle.replies.specs.declared.DomainReply.{DomainReply}
use Rattle.replies.specs.Replies.{reply_of, domain_reply_of, Returns}
use Rattle.frame.specs.Finish.{opened_for}

-- the reply is made of the slot and of the generation that it has in the tables left
Opens : Answer × State → Type 0
Opens y = opened_for (tables_of y.1) (reply_of y.0) ≡ domain_reply_of y.0

opens-new : (h : state.Handle) (s : State) → h ≡ handle_of s.domain_pool h.slot → Opens (Answer.yes (Value.domain h), s)
unfolding Opens opened_for tables_of pool_of
opens-new h s e = ap (λ (n : ℕ). record { refusal = 0; slot = h.slot; generation = n }) (sym (ap (λ (x : state.Handle). x.generation) e))

opens-none : (r : Refusal) (v : Tables) → 0 < number r → opened_for v (reply_of (Answer.no r)) ≡ domain_reply_of (Answer.no r)
unfolding opened_for
opens-none r v h = rw (ne_eqb (number r) 0 (λ e. omega arith))

opened : (s : State) (m : Option state.Handle) (cores : ℕ) → All (λ y. Opens (Answer.yes y.0, y.1)) (perform_step s (Step.Open m cores))
unfolding perform_step
opened s m cores = bind (opened-handle m cores s) (λ y p. accepted (opens-new y.0 y.1 p))

opens-any : (s : State) (m : Option state.Handle) (cores : ℕ) (o : Outcome (Value × State)) → perform_step s (Step.Open m cores) ≡ o → Opens (outcome-after s o)
unfolding Opens perform
opens-any s m cores (ok y) p = all-ok _ (perform_step s (Step.Open m cores)) y (opened s m cores) p
opens-any s m cores (refuse r) p = opens-none r (tables_of s) (refusal-above s (Call.Do (Step.Open m cores)) r p)

opens : (s : State) (m : Option state.Handle) (cores : ℕ) → Opens (step s (Call.Do (Step.Open m cores)))
unfolding step perform
opens s m cores = opens-any s m cores (perform_step s (Step.Open m cores)) refl

opens_as : (s : State) (m : Option state.Handle) (cores : ℕ) (c : Call) → c ≡ Call.Do (Step.Open m cores) → opened_for (tables_of (step s c).1) (reply_of (step s c).0) ≡ domain_reply_of (step s c).0
unfolding Opens
opens_as s m cores c e = subst (λ b. Opens (step s b)) (sym e) (opens s m cores)

-- ---- by what the call left

-- the tables that an accepted call leaves are as long as their sizes ask
sized-after : (t w t₂ w₂ : List ℕ) (c : Call) (a : Answer) → NotMake c → CallWords c → code a ≡ 0 → After t w c a t₂ w₂ → Sized t₂
sized-after t w t₂ w₂ c a n k e h = go c a t₂ w₂ n k e h
  where
    go : (c : Call) (a : Answer) (u v : List ℕ) → NotMake c → CallWords c → code a ≡ 0 → After t w c a u v → Sized u
    go c a u v n k e (made z) = absurd n
    go c a u v n k e (not_sound d m f) = absurd (omega arith)
    go c a u v n k e (performed d s q l) = (words-held (step s d).1 (step-sound s d l.sound k) _ refl).sized

opened_after : (t w t₂ w₂ : List ℕ) (m : Option state.Handle) (cores : ℕ) (c : Call) (a : Answer) → c ≡ Call.Do (Step.Open m cores) → CallWords c → After t w c a t₂ w₂
    → opened_for (view t₂) (reply_of a) ≡ domain_reply_of a
opened_after t w t₂ w₂ m cores c a e k h = go c a t₂ w₂ e k h
  where
    go : (c : Call) (a : Answer) (u v : List ℕ) → c ≡ Call.Do (Step.Open m cores) → CallWords c → After t w c a u v → opened_for (view u) (reply_of a) ≡ domain_reply_of a
    go c a u v e k (made z) = absurd (subst NotMake (sym e) tt)
    go c a u v e k (not_sound d n f) = opens-none memory (view t) (omega arith)
    go c a u v e k (performed d s q l) =
        let see = (words-held (step s d).1 (step-sound s d l.sound k) _ refl).seen in
        ap (λ v. opened_for v (reply_of (step s d).0)) see ∙ opens_as s m cores d e

-- ---- as the exported functions cite it: d is the step of the call that was run

module _ (t w : List ℕ) (m : Option state.Handle) (cores : ℕ) (d : Step) (same : d ≡ Step.Open m cores) (k : StepWords d) (r : replies.Reply) (t₂ w₂ : List ℕ) (y : Returns reply_of t w (Call.Do d) r t₂ w₂) where
  pub opened-sized : r.refusal ≡ 0 → Sized t₂
  opened-sized e = sized-after t w t₂ w₂ (Call.Do d) y.answer tt k (ap (λ (x : replies.Reply). x.refusal) (sym y.reply) ∙ e) y.after

  pub open-returns : (x : DomainReply) → x ≡ opened_for (view t₂) r → Returns domain_reply_of t w (Call.Do (Step.Open m cores)) x t₂ w₂
  open-returns x e = record {
    answer = y.answer;
    after = subst (λ (b : Step). After t w (Call.Do b) y.answer t₂ w₂) same y.after;
    reply = e ∙ ap (opened_for (view t₂)) y.reply ∙ opened_after t w t₂ w₂ m cores (Call.Do d) y.answer (ap Call.Do same) k y.after;
  }
