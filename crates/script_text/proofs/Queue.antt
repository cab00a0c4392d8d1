-- The queue, popped update by update: the lines are printed oldest first, and at most as many as the ring holds.
use Rattle.std.specs.Prelude.{◌≡◌, refl, ℕ, ◌-◌, ◌≤◌}
use Rattle.std.proofs.Common.{sym, ◌∙◌, arith}
use Rattle.std.proofs.Math.Path.{ap, subst}
use Rattle.std.proofs.Math.Option.{none, some}
use mathlib.Core.List.{List, [], ◌∷◌, ◌++◌}
use Rattle.std.proofs.Math.ListN.{length}
use Rattle.model.specs.State.{State, Sizes, Update, permission, cleanup}
use Rattle.model.specs.Making.{script_sizes}
use Rattle.model.specs.Updates.{pop}
use Rattle.model.specs.Perform.{Call, Value, Answer, perform, step}
use Rattle.model.specs.Outcome.{◌>>=◌}
use Rattle.model.specs.Memory.{Lent}
use Rattle.replies.specs.declared.UpdateReply.{UpdateReply}
use Rattle.replies.specs.Replies.{update_reply_of, Returns}
use Rattle.output.specs.declared.Pending.{Pending}
use Rattle.output.specs.Text.{queue_line}
use Rattle.output.specs.Printed.{Prints}
use Rattle.output.specs.Printing.{Rest, rest_more, rest-none}
use Rattle.script_text.specs.ScriptText.{queue_text}
use Rattle.script_text.proofs.Calls.{step-answer, step-lent}

-- Of the queue `whole`, the updates in the state's are yet to be printed, `left` at most.
pub record Left (whole : List Update) (a : List ℕ) (p : Pending) (t w b : List ℕ) (q : Pending) (left : ℕ) : Type 0 where
  pub state : State
  pub lent : Lent t w state
  pub few : length state.queue.items ≤ left
  pub rest : Rest a p (queue_text whole) b q (queue_text state.queue.items)

pub left-all : (s : State) {a : List ℕ} {p : Pending} {t w : List ℕ} → Lent t w s → s.sizes ≡ script_sizes → Left s.queue.items a p t w a p 32
left-all s l e = record { state = s; lent = l; few = omega (arith, l.sound.queue.fits, ap (λ (x : Sizes). x.updates) e); rest = λ b r h. h }

-- ---- one pop

-- what it answers and leaves, by the queue
abbrev Pops : State → List Update → Type 0
Pops s [] = step s Call.Pop ≡ (Answer.yes (Value.popped none), s)
Pops s (u ∷ l) = ((step s Call.Pop).0 ≡ Answer.yes (Value.popped (some u))) × ((step s Call.Pop).1.queue.items ≡ l)

pops : (s : State) (l : List Update) → s.queue.items ≡ l → Pops s l
unfolding step perform pop ◌>>=◌
pops s [] e = rw e
pops s (u ∷ l) e = rw e (refl, refl)

-- an update has a kind
kind-some : (u : Update) → (update_reply_of (Answer.yes (Value.popped (some u)))).kind ≡ 0 → ⊥
kind-some (permission h cores marks) e = omega arith
kind-some (cleanup a b) e = omega arith

module _ {whole : List Update} {a : List ℕ} {p : Pending} {t w b : List ℕ} {q : Pending} {left : ℕ} (g : Left whole a p t w b q left) {u : UpdateReply} {t₁ w₁ : List ℕ} (h : Returns update_reply_of t w Call.Pop u t₁ w₁) where
  told : u ≡ update_reply_of (step g.state Call.Pop).0
  told = h.reply ∙ ap update_reply_of (step-answer g.lent tt h.after)

  -- none is left
  none_left : (l : List Update) → g.state.queue.items ≡ l → u.kind ≡ 0 → Prints a p (queue_text whole) b q
  unfolding queue_text
  none_left [] e z = rest-none (ap queue_text e) g.rest
  none_left (x ∷ l) e z = absurd (kind-some x (sym (ap (λ (y : UpdateReply). y.kind) (told ∙ ap update_reply_of (pops g.state (x ∷ l) e).0)) ∙ z))

  pub left-none : u.kind ≡ 0 → Prints a p (queue_text whole) b q
  left-none z = none_left g.state.queue.items refl z

  -- one is printed
  one_left : {b₁ : List ℕ} {q₁ : Pending} → length t₁ ≡ length t → (u.kind ≡ 0 → ⊥) → Prints b q (queue_line u) b₁ q₁ → (l : List Update) → g.state.queue.items ≡ l → Left whole a p t₁ w₁ b₁ q₁ (left - 1)
  unfolding queue_text
  one_left long z k [] e = absurd (z (ap (λ (y : UpdateReply). y.kind) (told ∙ ap (λ (y : Answer × State). update_reply_of y.0) (pops g.state [] e))))
  one_left {b₁} {q₁} long z k (x ∷ l) e =
      let y = pops g.state (x ∷ l) e in
      let r : queue_line u ≡ queue_line (update_reply_of (Answer.yes (Value.popped (some x)))) = ap queue_line (told ∙ ap update_reply_of y.0) in
      record {
        state = (step g.state Call.Pop).1;
        lent = step-lent g.lent tt h.after tt long;
        few = omega (arith, ap length y.1, ap length e, g.few);
        rest = subst (λ (m : List Update). Rest a p (queue_text whole) b₁ q₁ (queue_text m)) (sym y.1) (rest_more (ap queue_text e ∙ ap (λ (m : List ℕ). m ++ queue_text l) (sym r)) g.rest k);
      }

  pub left_one : {b₁ : List ℕ} {q₁ : Pending} → length t₁ ≡ length t → (u.kind ≡ 0 → ⊥) → Prints b q (queue_line u) b₁ q₁ → Left whole a p t₁ w₁ b₁ q₁ (left - 1)
  left_one long z k = one_left long z k g.state.queue.items refl

-- no more can be left
module _ {whole : List Update} {a : List ℕ} {p : Pending} {t w b : List ℕ} {q : Pending} {left : ℕ} (g : Left whole a p t w b q left) (z : left ≤ 0) where
  empty_left : (l : List Update) → g.state.queue.items ≡ l → Prints a p (queue_text whole) b q
  unfolding queue_text
  empty_left [] e = rest-none (ap queue_text e) g.rest
  empty_left (x ∷ l) e = absurd (omega (arith, z, g.few, ap length e))

  pub left_end : Prints a p (queue_text whole) b q
  left_end = empty_left g.state.queue.items refl
