-- Popping: the exported function returns and leaves what `After` says.
use Rattle.std.specs.Prelude.{◌≡◌, refl, ℕ, Bool, true, List, Option as Maybe, unwrap_or}
use Rattle.std.proofs.Common.{sym, ap, subst, ◌∙◌}
use Rattle.std.proofs.Math.Option.{Option, none, some}
use Rattle.model.specs.Lists.{Each}
use Rattle.model.specs.Outcome.{◌>>=◌}
use Rattle.model.specs.State.{State, Update, Word}
use Rattle.model.specs.Updates.{pop}
use Rattle.model.specs.Perform.{Call, Value, Answer, perform, step}
use Rattle.model.specs.Layout.{words}
use Rattle.model.specs.Memory.{zeroed}
use Rattle.tables.specs.View.{view, Left}
use Rattle.ring.specs.declared.Entry.{Entry}
use Rattle.ring.specs.Ring.{no_entry, pop_of}
use Rattle.stored_ring.specs.Stored.{ring_of, with_ring_of}
use Rattle.decoded.specs.Tables.{tables_of}
use Rattle.decoded.specs.Words.{words-held, held-words}
use Rattle.refine.specs.Queue.RingSteps.{item_for}
use Rattle.refine.specs.Calls.Pop.{pop-refines}
use Rattle.replies.specs.declared.UpdateReply.{UpdateReply}
use Rattle.replies.specs.Replies.{update_reply_of, Returns}
use Rattle.frame.specs.Finish.{admitted}
use Rattle.frame.specs.Law.{lent, step-returns}

-- the reply that the code makes of a popped entry
abbrev pub reply_for : Entry → UpdateReply
reply_for e = record { refusal = 0; kind = e.update.kind; a = e.update.a; b = e.update.b; c = e.update.c; marks = e.marks }

popped-is : (o : Option Update) → reply_for (unwrap_or (item_for o) no_entry) ≡ update_reply_of (Answer.yes (Value.popped o))
popped-is none = refl
popped-is (some (Update.permission h cores marks)) = refl
popped-is (some (Update.cleanup a b)) = refl

popped-step : (s : State) → step s Call.Pop ≡ (Answer.yes (Value.popped (pop s).0), (pop s).1)
unfolding step perform ◌>>=◌
popped-step s = refl

pub pop-returns : (t w : List ℕ) → Each Word t → (b : Bool) → b ≡ admitted t w → b ≡ true → (i : Maybe Entry) (u : List ℕ) → i ≡ (pop_of (ring_of (view t))).item → Left u (with_ring_of (view t) (pop_of (ring_of (view t))).ring)
    → (x : Entry) → x ≡ unwrap_or i no_entry → (w₂ : List ℕ) → w₂ ≡ zeroed w → Returns update_reply_of t w Call.Pop (reply_for x) u w₂
pop-returns t w known b e h i u f v x ex w₂ ew =
    let l = lent t w known (sym e ∙ h) in
    let s = l.0 in
    let see : view t ≡ tables_of s = (words-held s l.1.sound t l.1.tables).seen in
    let p = pop-refines s l.1.sound in
    let g : step s Call.Pop ≡ (Answer.yes (Value.popped (pop s).0), (pop s).1) = popped-step s in
    step-returns update_reply_of t w Call.Pop tt s l.1 _ u w₂
    (ap reply_for (ex ∙ ap (λ (j : Maybe Entry). unwrap_or j no_entry) (f ∙ ap (λ z. (pop_of (ring_of z)).item) see ∙ p.0)) ∙ popped-is (pop s).0 ∙ sym (ap (λ (y : Answer × State). update_reply_of y.0) g))
    (held-words (pop s).1 u (subst (Left u) (ap (λ z. with_ring_of z (pop_of (ring_of z)).ring) see ∙ p.1) v) ∙ sym (ap (λ (y : Answer × State). words y.1) g)) ew
