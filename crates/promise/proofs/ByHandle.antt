-- Memory that a domain was not given while it was open it has no reach to: by handle, from its opening on.
use Rattle.std.specs.Prelude.{◌≡◌, refl, ◌≢◌, ℕ, suc, Bool, true, false, not, ◌&&◌, List, [], ◌∷◌, T, eqb, length}
use Rattle.std.proofs.Common.{sym, ap, subst, ◌∙◌, ne_eqb}
use Rattle.base.specs.Cases.{holds, fails, test}
use Rattle.base.specs.Tests.{true-is, false-is}
use Rattle.model.specs.Lists.{Each, is_some, at_slot, In}
use Rattle.model.specs.Outcome.{Outcome, ok, refuse}
use Rattle.model.specs.State.{State, Sizes, Handle, Region, none_region}
use Rattle.model.specs.Making.{make_in}
use Rattle.model.specs.Perform.{Call, Answer, step}
use Rattle.model.specs.CallWords.{CallWords}
use Rattle.model.specs.Memory.{made_answer, Lent, After, made, not_sound, performed, NotMake}
use Rattle.replies.specs.declared.Reply.{Reply}
use Rattle.call.specs.Arguments.{sizes}
use Rattle.book.specs.Book.{Book, Noted, noted, is_open, blank, accept, note}
use Rattle.book.specs.Demand3.{covers}
use Rattle.book.specs.Tests.{and_left, some_is, lives-below}
use Rattle.book.specs.Matches.{Matches}
use Rattle.book.proofs.Slots.{open-is-live}
use Rattle.book.proofs.Theorem.{matches-step}
use Rattle.book.specs.Lent.{BookOf}
use Rattle.book.proofs.Lent.{book-of-state}
use Rattle.promise.specs.Calls.{Called, call_of, Words, Exported, Sequence}
use Rattle.promise.specs.Returned.{if_accepted, note_returned, note_all_returned}
use Rattle.promise.specs.Given.{gives, NeverGivenTo}
use Rattle.promise.specs.Statements.{UntouchedByHandle}
use Rattle.promise.proofs.Same.{answered}
use Rattle.promise.proofs.Everything.{everything}
use Rattle.promise.proofs.ClearAlive.{ClearAlive}
use Rattle.promise.proofs.Opening.{Lived, before, opened, step-lived}
use Rattle.promise.proofs.UntouchedAlive.{call-clear, book-after, book-of-first, unreached}

-- ---- where no live region is a domain's, the book has none of it

off : (x y z : Bool) → (x ≡ true → y ≡ false) → (x && (y && z)) ≡ false
off true y z h = ap (λ c. c && z) (h refl)
off false y z h = refl

clear-all : (d a : ℕ) (rs : List Noted) → ((k : ℕ) → (noted rs k).alive ≡ true → (noted rs k).owner ≢ d) → ClearAlive d a rs
clear-all d a [] h = tt
clear-all d a (r ∷ rs) h = (off r.alive (eqb r.owner d) (covers a r) (λ e. ne_eqb r.owner d (h 0 e)), clear-all d a rs (λ k. h (suc k)))

matched-clear : (b : Book) (s : State) → Matches b s → (d a : ℕ) → ((i : ℕ) (g : Region) → In s.regions i g → g.owner ≢ d) → ClearAlive d a b.regions
matched-clear b s m d a n = clear-all d a b.regions (λ k e o.
    let low = lives-below b.regions k e in
    let slot = (m.at k).slot in
    let live : is_some (at_slot s.regions slot) ≡ true = and_left _ _ (sym (m.fits.regions.alive_is_live k low) ∙ e) in
    n slot _ (some_is (at_slot s.regions slot) none_region live) ((m.fits.regions.stored k low e).owner ∙ o))

-- ---- a call that opens it

module _ (h : Handle) (a : ℕ) (b : Book) (closed : is_open b h ≡ false) where
  -- the book after it
  abbrev Opens : Book → Type 0
  Opens e = T (is_open e h) → ClearAlive h.slot a e.regions

  unchanged : Opens b
  unchanged o = absurd (false-is closed o)

  made-clear : (z : Sizes) (m : Outcome State) → Opens (note b (Call.Make z) (made_answer m))
  unfolding note accept
  made-clear z (ok s) o = tt
  made-clear z (refuse r) o = unchanged o

  lived-clear : (s t : State) (e : Book) → Matches b s → Matches e t → Lived s t h → ClearAlive h.slot a e.regions
  lived-clear s t e m n (before l) = absurd (false-is (sym (open-is-live b s m.at m.place m.fits h) ∙ closed) l)
  lived-clear s t e m n (opened f) = matched-clear e t n h.slot a f

  step_clear : (s : State) (c : Call) → NotMake c → CallWords c → (t w : List ℕ) → Lent t w s → Matches b s → Opens (note b c (step s c).0)
  step_clear s c q u t w l m o =
      let n = matches-step b s c u l.sound m in
      let live = open-is-live _ (step s c).1 n.0.at n.0.place n.0.fits h in
      lived-clear s (step s c).1 _ m n.0 (step-lived s l.sound c q u h (subst T live o))

  after-clear : (t w t₁ w₁ : List ℕ) (c : Call) (y : Answer) → CallWords c → BookOf b t → After t w c y t₁ w₁ → Opens (note b c y)
  unfolding note
  after-clear t w t₁ w₁ c y u k m o = go c y t₁ w₁ u m o
    where
      go : (c : Call) (y : Answer) (v x : List ℕ) → CallWords c → After t w c y v x → Opens (note b c y)
      go c y v x u (made z) o = made-clear z (make_in (length t) (length w) z) o
      go c y v x u (not_sound d q n) o = unchanged o
      go c y v x u (performed d s q l) o = step_clear s d q u t w l (book-of-state b t w s k l) o

-- ---- any calls

not-given : (x y : Bool) → x ≡ true → T (not (x && y)) → T (not y)
not-given true y e t = t
not-given false y e t = absurd (true-is e)

module _ (h : Handle) (a : ℕ) where
  abbrev Untaken : Book → Type 0
  Untaken b = T (is_open b h) → ClearAlive h.slot a b.regions

  one-call : (b : Book) (t w t₁ w₁ : List ℕ) (x : Called) → Words x → BookOf b t → Untaken b → T (not (is_open b h && gives b h.slot a x)) → Exported t w x t₁ w₁ → Untaken (note_returned b x)
  one-call b t w t₁ w₁ x u k c n e o = elim (test (is_open b h)) [
    | holds f ↦ call-clear h.slot a b t w t₁ w₁ k (c (true-is f)) x e (not-given (is_open b h) (gives b h.slot a x) f n)
    | fails f ↦ let y = answered t w x t₁ w₁ e in subst Untaken (y.same b) (after-clear h a b f t w t₁ w₁ (call_of x) y.answer u k y.after) o
  ]

  all-calls : (b : Book) (t t' : List ℕ) (xs : List Called) → Each Words xs → BookOf b t → Untaken b → NeverGivenTo h a b xs → Sequence t xs t' → Untaken (note_all_returned b xs)
  all-calls b t t' xs u k c n Sequence.start = c
  all-calls b t t' xs u k c n (Sequence.next {t₁} {x} {xs = ys} w w₁ e r) = all-calls (note_returned b x) t₁ t' ys u.1 (book-after b t w t₁ w₁ x u.0 k e) (one-call b t w t₁ w₁ x u.0 k c n.0 e) n.1 r

  begun : (b : Book) (z : Sizes) (n : ℕ) (t₁ t' : List ℕ) (xs : List Called) → n ≡ 0 → Each Words xs → BookOf (blank z) t₁ → NeverGivenTo h a (if_accepted n (blank z) b) xs → Sequence t₁ xs t' → Untaken (note_all_returned (if_accepted n (blank z) b) xs)
  begun b z n t₁ t' xs e u k g q = subst (λ m. NeverGivenTo h a (if_accepted m (blank z) b) xs → Untaken (note_all_returned (if_accepted m (blank z) b) xs)) (sym e) (λ v. all-calls (blank z) t₁ t' xs u k (λ o. tt) v q) g

-- THEOREM
pub untouched-by-handle : UntouchedByHandle
untouched-by-handle b t t' ds ss gs rs us r xs h a e u (Sequence.next {t₁} w w₁ f q) o g =
    unreached _ t' h.slot a (everything b t t' ds ss gs rs us r xs e u (Sequence.next w w₁ f q))
    (begun h a b (sizes ds ss gs rs us) r.refusal t₁ t' xs e u (book-of-first t w t₁ w₁ (sizes ds ss gs rs us) f.answer (ap (λ (p : Reply). p.refusal) (sym f.reply) ∙ e) f.after) g.1 q o)
