-- That demand 3's list goes on through a conversion, as specs/Theorem says it.
use Rattle.std.specs.Prelude.{◌≡◌, refl, ℕ, List, length}
use Rattle.std.proofs.Common.{sym, ap, subst, ◌∙◌}
use Rattle.refusals.specs.declared.Refusal.{Refusal}
use Rattle.refusals.specs.Refusals.{memory}
use Rattle.model.specs.Lists.{Each}
use Rattle.model.specs.Outcome.{ok}
use Rattle.model.specs.State.{State, Sizes}
use Rattle.model.specs.Making.{make_tables}
use Rattle.model.specs.Layout.{length_for}
use Rattle.model.specs.Perform.{Call, Value, Answer, run}
use Rattle.model.specs.CallWords.{CallWords}
use Rattle.model.specs.Sound.{Sound}
use Rattle.model.specs.Converting.{former_words, Convertible, Converted, not_convertible, converted}
use Rattle.book.specs.Book.{Book, blank}
use Rattle.book.specs.Demand3.{note_all}
use Rattle.book.specs.Matches.{Matches}
use Rattle.book.proofs.Theorem.{matches-made, matches-run}
use Rattle.book.specs.Lent.{BookOf}
use Rattle.book.proofs.Lent.{book-of-chain, book-of-claims}
use Rattle.converted.specs.Marked.{with_all_marks}
use Rattle.converted.proofs.Marked.{all-marked, sound-marked, matches-marked}
use Rattle.converted.specs.Former.{rebuilt}
use Rattle.converted.proofs.Former.{former-same, marked-rebuilt}
use Rattle.converted.proofs.Unique.{convertible-words}
use Rattle.converted.specs.Theorem.{Demand3Converted, FormerBookOf}

-- ---- the converter

refusal : Answer → Type 0
refusal (Answer.yes y) = ⊥
refusal (Answer.no r) = Unit {0}

not_yes : (r : Refusal) → Answer.no r ≡ Answer.yes Value.done → ⊥
unfolding refusal
not_yes r e = subst refusal e tt

accepted-book : (b : Book) (o t v w t₁ v₁ w₁ : List ℕ) (y : Answer) → y ≡ Answer.yes Value.done → FormerBookOf b o → Converted o t v w y t₁ v₁ w₁ → BookOf b t₁
accepted-book b o t v w t₁ v₁ w₁ y e f (not_convertible n) = absurd (not_yes memory e)
accepted-book b o t v w t₁ v₁ w₁ y e f (converted s c) = record {
  state = with_all_marks f.state;
  tables = convertible-words o t v w s c ∙ ap rebuilt (f.old ∙ sym (former-same f.state f.sound)) ∙ sym (marked-rebuilt (with_all_marks f.state) (sound-marked f.state f.sound) (all-marked f.state));
  sound = sound-marked f.state f.sound;
  matches = matches-marked b f.state f.matches;
}

-- THEOREM: an accepted converter carries the book over
pub book-of-converted : (b : Book) (o t v w t₁ v₁ w₁ : List ℕ) → FormerBookOf b o → Converted o t v w (Answer.yes Value.done) t₁ v₁ w₁ → BookOf b t₁
book-of-converted b o t v w t₁ v₁ w₁ = accepted-book b o t v w t₁ v₁ w₁ (Answer.yes Value.done) refl

-- ---- before it

module _ (z : Sizes) (s : State) (cs : List Call) (made : make_tables z ≡ ok s) (words : Each CallWords cs) where
  run-former : Matches (note_all (blank z) cs (run s cs).0) (run s cs).1 × Sound (run s cs).1
  run-former = let (m, h) = matches-made z s made in matches-run (blank z) s cs words h m

  -- THEOREM: calls lead to it
  pub book-of-former : (o : List ℕ) → o ≡ former_words (run s cs).1 → FormerBookOf (note_all (blank z) cs (run s cs).0) o
  book-of-former o e = let (m, h) = run-former in record { state = (run s cs).1; sound = h; old = e; matches = m }

  -- THEOREM: and in memory of the right lengths all such tables are converted
  pub former-convertible : (o t v w : List ℕ) → o ≡ former_words (run s cs).1 → length t ≡ length_for (run s cs).1.sizes → length v ≡ length_for (run s cs).1.sizes → length w ≡ length_for (run s cs).1.sizes → Convertible o t v w (with_all_marks (run s cs).1)
  former-convertible o t v w e a b c =
      let u = (run s cs).1 in
      let (m, h) = run-former in
      record { sound = sound-marked u h; marked = all-marked u; old = e ∙ sym (former-same u h); tables = a; work = b; second_work = c }

-- THEOREM
pub demand3-converted : Demand3Converted
demand3-converted z s cs₀ cs ys o t v w t₁ v₁ w₁ t₂ made w₀ e c u r =
    let b = book-of-converted _ o t v w t₁ v₁ w₁ (book-of-former z s cs₀ made w₀ o e) c in
    book-of-claims _ t₂ (book-of-chain _ t₁ t₂ cs ys u b r)
