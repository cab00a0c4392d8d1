-- Demand 3 of lent tables: what `After` leaves, call by call, is what the list of calls is about.
use Rattle.std.specs.Prelude.{◌≡◌, refl, ℕ, List}
use Rattle.std.proofs.Common.{sym, subst, ◌∙◌}
use Rattle.model.specs.Lists.{Each}
use Rattle.model.specs.Outcome.{Outcome, ok, refuse}
use Rattle.refusals.specs.declared.Refusal.{Refusal}
use Rattle.model.specs.State.{State, Sizes}
use Rattle.model.specs.Making.{make_in}
use Rattle.model.specs.Perform.{Call, Value, Answer, step}
use Rattle.model.specs.CallWords.{CallWords}
use Rattle.model.specs.Sound.{Sound}
use Rattle.model.specs.Memory.{Lent, made_answer, tables_left, After, made, not_sound, performed}
use Rattle.laws.specs.Accepted.{All, accepted, both}
use Rattle.laws.specs.Empty.{made-sound}
use Rattle.laws.specs.Words.Unique.{words-unique}
use Rattle.book.specs.Book.{Book, blank, accept, note}
use Rattle.book.specs.Demand3.{note_all}
use Rattle.book.specs.Matches.{Matches}
use Rattle.book.proofs.Make.{make-in-match}
use Rattle.book.proofs.Theorem.{matches-step, matches-claims}
use Rattle.book.specs.Lent.{Chain, ClaimsOf, Demand3Lent, BookOf}

-- a making in memory of any lengths: where it is accepted, an empty book matches sound tables
abbrev Begun : Sizes → State → Type 0
Begun z s = Matches (blank z) s × Sound s

begins : (n m : ℕ) (z : Sizes) → All (Begun z) (make_in n m z)
begins n m z = both (make-in-match n m z) (made-sound n m z)

-- any sound state that these words are of
pub book-of-state : (b : Book) (t w : List ℕ) (s : State) → BookOf b t → Lent t w s → Matches b s
book-of-state b t w s h l = subst (Matches b) (words-unique h.state s h.sound l.sound (sym h.tables ∙ l.tables)) h.matches

refusal : Answer → Type 0
refusal (Answer.yes y) = ⊥
refusal (Answer.no r) = Unit {0}

not_yes : (r : Refusal) → Answer.no r ≡ Answer.yes Value.done → ⊥
unfolding refusal
not_yes r e = subst refusal e tt

made-book : (t : List ℕ) (z : Sizes) (m : Outcome State) → All (Begun z) m → made_answer m ≡ Answer.yes Value.done → BookOf (blank z) (tables_left t m)
made-book t z (ok s) (accepted h) e = record { state = s; tables = refl; sound = h.1; matches = h.0 }
made-book t z (refuse r) h e = absurd (not_yes r e)

-- a making within a list: the book is begun anew, or goes on where the making is refused
noted-book : (b : Book) (t : List ℕ) (z : Sizes) (m : Outcome State) → All (Begun z) m → BookOf b t → BookOf (note b (Call.Make z) (made_answer m)) (tables_left t m)
unfolding note accept
noted-book b t z (ok s) (accepted h) k = record { state = s; tables = refl; sound = h.1; matches = h.0 }
noted-book b t z (refuse r) h k = k

-- THEOREM: an accepted making begins it
pub book-of-made : (t w t₁ w₁ : List ℕ) (z : Sizes) (y : Answer) → y ≡ Answer.yes Value.done → After t w (Call.Make z) y t₁ w₁ → BookOf (blank z) t₁
book-of-made t w t₁ w₁ z y e a = go z y t₁ w₁ e a
  where
    go : (z : Sizes) (y : Answer) (u v : List ℕ) → y ≡ Answer.yes Value.done → After t w (Call.Make z) y u v → BookOf (blank z) u
    go z y u v e (made x) = made-book t x _ (begins _ _ x) e
    go z y u v e (not_sound d q n) = absurd q
    go z y u v e (performed d s q l) = absurd q

-- THEOREM: any call keeps it
pub book-of-call : (b : Book) (t w t₁ w₁ : List ℕ) (c : Call) (y : Answer) → CallWords c → BookOf b t → After t w c y t₁ w₁ → BookOf (note b c y) t₁
unfolding note accept
book-of-call b t w t₁ w₁ c y u h a = go c y t₁ w₁ u a
  where
    go : (c : Call) (y : Answer) (v x : List ℕ) → CallWords c → After t w c y v x → BookOf (note b c y) v
    go c y v x u (made z) = noted-book b t z _ (begins _ _ z) h
    go c y v x u (not_sound d p n) = h
    go c y v x u (performed d s p l) =
        let q = matches-step b s d u l.sound (book-of-state b t w s h l) in
        record { state = (step s d).1; tables = refl; sound = q.1; matches = q.0 }

-- THEOREM: any chain of calls keeps it
pub book-of-chain : (b : Book) (t t₂ : List ℕ) (cs : List Call) (ys : List Answer) → Each CallWords cs → BookOf b t → Chain t cs ys t₂ → BookOf (note_all b cs ys) t₂
unfolding note_all
book-of-chain b t t₂ cs ys u h Chain.start = h
book-of-chain b t t₂ cs ys u h (Chain.next {c = c} {y = y} x r) = book-of-chain (note b c y) _ t₂ _ _ u.1 (book-of-call b t _ _ _ _ _ u.0 h x) r

-- THEOREM: where it holds, all claims hold
pub book-of-claims : (b : Book) (t : List ℕ) → BookOf b t → ClaimsOf b t
book-of-claims b t h = record { state = h.state; tables = h.tables; sound = h.sound; claims = matches-claims b h.state h.sound h.matches }

-- THEOREM
pub demand3-lent : Demand3Lent
demand3-lent t w t₁ w₁ t₂ z cs ys f u r = book-of-claims _ t₂ (book-of-chain (blank z) t₁ t₂ cs ys u (book-of-made t w t₁ w₁ z _ refl f) r)
