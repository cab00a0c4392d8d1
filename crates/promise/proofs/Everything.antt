-- After any sequence of exported calls from an accepted making on, all claims of demand 3 hold of the tables and of the book kept from the returned records.
use Rattle.std.specs.Prelude.{◌≡◌, refl, ℕ, List, [], ◌∷◌, map, length}
use Rattle.std.proofs.Common.{sym, ap, subst, ◌∙◌, arith}
use Rattle.model.specs.Lists.{Each}
use Rattle.model.specs.State.{State, Sizes}
use Rattle.model.specs.Perform as model
use Rattle.model.specs.Perform.{Call, Answer, code}
use Rattle.model.specs.CallWords.{CallWords}
use Rattle.model.specs.Outcome.{Outcome, ok, refuse}
use Rattle.model.specs.Making.{make_in}
use Rattle.model.specs.Memory.{made_answer, NotMake, After, made, not_sound, performed}
use Rattle.laws.specs.Codes.{Coded, after-coded}
use Rattle.replies.specs.declared.Reply.{Reply}
use Rattle.call.specs.Arguments.{sizes}
use Rattle.book.specs.Book.{Book, blank}
use Rattle.book.specs.Demand3.{note_all}
use Rattle.book.specs.Lent.{Chain, ClaimsOf}
use Rattle.book.proofs.Lent.{demand3-lent}
use Rattle.promise.specs.Calls.{Called, call_of, Words, Sequence}
use Rattle.promise.specs.Returned.{if_accepted, note_all_returned}
use Rattle.promise.specs.Statements.{Everything}
use Rattle.promise.proofs.Same.{Answered, answered}

-- A sequence is a chain of the model's calls with some answers, of which the book is the same.
pub record Chained (t : List ℕ) (xs : List Called) (t' : List ℕ) : Type 0 where
  pub answers : List Answer
  pub chain : Chain t (map call_of xs) answers t'
  pub same : (b : Book) → note_all b (map call_of xs) answers ≡ note_all_returned b xs

none-chained : (t : List ℕ) → Chained t [] t
unfolding note_all
none-chained t = record { answers = []; chain = Chain.start; same = λ b. refl }

link : (t w t₁ w₁ t₂ : List ℕ) (x : Called) (xs : List Called) → Answered t w x t₁ w₁ → Chained t₁ xs t₂ → Chained t (x ∷ xs) t₂
unfolding note_all
link t w t₁ w₁ t₂ x xs h c = record { answers = h.answer ∷ c.answers; chain = Chain.next h.after c.chain; same = λ b. c.same _ ∙ ap (λ d. note_all_returned d xs) (h.same b) }

pub chained : (t t' : List ℕ) (xs : List Called) → Sequence t xs t' → Chained t xs t'
chained t t' xs Sequence.start = none-chained _
chained t t' xs (Sequence.next {t₁} {x} {xs = ys} w w₁ h r) = link t w t₁ w₁ t' x ys (answered t w x t₁ w₁ h) (chained t₁ t' ys r)

pub words_of : (xs : List Called) → Each Words xs → Each CallWords (map call_of xs)
words_of [] h = tt
words_of (x ∷ xs) h = (h.0, words_of xs h.1)

accepted-made : (m : Outcome State) → Coded (made_answer m) → code (made_answer m) ≡ 0 → made_answer m ≡ Answer.yes model.Value.done
accepted-made (ok s) h e = refl
accepted-made (refuse r) h e = absurd (omega arith)

-- a making that returned refusal 0 was answered so
pub made-answer : (t w t₁ w₁ : List ℕ) (c : Call) (z : Sizes) (y : Answer) → c ≡ Call.Make z → code y ≡ 0 → After t w c y t₁ w₁ → y ≡ Answer.yes model.Value.done
made-answer t w t₁ w₁ c z y i e a = go c y t₁ w₁ i e a
  where
    go : (c : Call) (y : Answer) (u v : List ℕ) → c ≡ Call.Make z → code y ≡ 0 → After t w c y u v → y ≡ Answer.yes model.Value.done
    go c y u v i e (made x) = accepted-made (make_in (length t) (length w) x) (after-coded t w u v c y (made x)) e
    go c y u v i e (not_sound d q n) = absurd (subst NotMake i q)
    go c y u v i e (performed d s q l) = absurd (subst NotMake i q)

-- the making, then the chain of the others
begun : (t w t₁ w₁ t' : List ℕ) (z : Sizes) (y : Answer) (xs : List Called) → code y ≡ 0 → After t w (Call.Make z) y t₁ w₁ → Each Words xs → Chained t₁ xs t' → ClaimsOf (note_all_returned (blank z) xs) t'
begun t w t₁ w₁ t' z y xs e h u c =
    let f : After t w (Call.Make z) (Answer.yes model.Value.done) t₁ w₁ = subst (λ a. After t w (Call.Make z) a t₁ w₁) (made-answer t w t₁ w₁ _ z y refl e h) h in
    subst (λ d. ClaimsOf d t') (c.same (blank z)) (demand3-lent t w t₁ w₁ t' z (map call_of xs) c.answers f (words_of xs u) c.chain)

-- THEOREM
pub everything : Everything
everything b t t' ds ss gs rs us r xs e u (Sequence.next {t₁} w w₁ h q) =
    let z = sizes ds ss gs rs us in
    subst (λ n. ClaimsOf (note_all_returned (if_accepted n (blank z) b) xs) t') (sym e) (begun t w t₁ w₁ t' z h.answer xs (ap (λ (p : Reply). p.refusal) (sym h.reply) ∙ e) h.after u (chained t₁ t' xs q))
