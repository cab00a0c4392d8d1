-- A script's tables are made, or both are as found; then the whole script's promise.
use Rattle.std.specs.Prelude.{◌≡◌, refl, ℕ, Bool, true, false, ◌&&◌, List, T, eqb, length}
use Rattle.std.proofs.Common.{sym, ap, subst, ◌∙◌, arith, eq-eqb, eqb-true}
use Rattle.std.proofs.lemmas.List.{length-replicate}
use Rattle.base.specs.Tests.{is_true, true-false, both_true}
use Rattle.refusals.specs.Refusals.{memory}
use Rattle.model.specs.Outcome.{Outcome, ok, ◌>>◌, require}
use Rattle.model.specs.State.{State, Sizes}
use Rattle.model.specs.Making.{good_sizes, empty_tables, script_sizes, make_tables, make_in}
use Rattle.model.specs.Layout.{words, length_for}
use Rattle.model.specs.Perform.{Call, Answer}
use Rattle.model.specs.Perform as model
use Rattle.model.specs.Memory.{Lent, made_answer, tables_left, After, made, not_sound, performed, zeroed}
use Rattle.laws.specs.Making.{make-lengths, make-made}
use Rattle.laws.specs.Accepted.{all-ok}
use Rattle.laws.specs.Empty.{empty-sound}
use Rattle.laws.specs.Words.Length.{words-length}
use Rattle.book.proofs.Lent.{demand3-lent}
use Rattle.decoded.specs.Sizes.{and_both}
use Rattle.script_records.specs.Script.{script_calls}
use Rattle.replies.specs.declared.Reply.{Reply}
use Rattle.replies.specs.Replies.{reply_of, Returns}
use Rattle.frame.specs.Finish.{zeroed-clear}
use Rattle.running.specs.RunScript.{Fit, RanScript}
use Rattle.running.specs.BetweenRecords.{RunsAll}

-- ---- making

-- Sizes within their limits: the two ways that making ends.
pub data Makes (t w : List ℕ) (z : Sizes) : Answer → List ℕ → List ℕ → Type 0 where
  fits : Fit t w z → Makes t w z (Answer.yes model.Value.done) (words (empty_tables z)) (zeroed w)
  unfit : ¬ Fit t w z → Makes t w z (Answer.no memory) t (zeroed w)

-- by the test of the lengths
module _ (t w : List ℕ) (z : Sizes) (g : good_sizes z ≡ true) where
  abbrev Ends : Outcome State → Type 0
  Ends o = Makes t w z (made_answer o) (tables_left t o) (zeroed w)

  tested : (b : Bool) → (eqb (length t) (length_for z) && eqb (length w) (length_for z)) ≡ b → Ends (make_in (length t) (length w) z)
  tested true e = let p = both_true (eqb (length t) (length_for z)) (eqb (length w) (length_for z)) (sym (and_both (eqb (length t) (length_for z)) (eqb (length w) (length_for z))) ∙ e) in subst Ends (sym (make-made _ _ z g e)) (Makes.fits (record { tables = eqb-true _ _ p.0; work = eqb-true _ _ p.1 }))
  tested false e = subst Ends (sym (make-lengths _ _ z g e)) (Makes.unfit (λ f. true-false (rw (eq-eqb (length t) (length_for z) f.tables, eq-eqb (length w) (length_for z) f.work)) e))

pub makes : (t w : List ℕ) (z : Sizes) (y : Answer) (t₁ w₁ : List ℕ) → T (good_sizes z) → After t w (Call.Make z) y t₁ w₁ → Makes t w z y t₁ w₁
makes t w z y t₁ w₁ g (made v) = tested t w v (is_true g) (eqb (length t) (length_for v) && eqb (length w) (length_for v)) refl
makes t w z y t₁ w₁ g (not_sound d q n) = absurd q
makes t w z y t₁ w₁ g (performed d s q l) = absurd q

-- ---- a script's tables

script-made : make_tables script_sizes ≡ ok (empty_tables script_sizes)
unfolding make_tables ◌>>◌ require
script-made = refl

script-lent : (w : List ℕ) → length w ≡ length_for script_sizes → Lent (words (empty_tables script_sizes)) (zeroed w) (empty_tables script_sizes)
script-lent w e =
    let h = all-ok _ (make_tables script_sizes) (empty_tables script_sizes) (empty-sound script_sizes) script-made in
    record { sound = h; tables = refl; work = length-replicate (length w) 0 ∙ e ∙ sym (words-length (empty_tables script_sizes) h) }

-- ---- the promise: r is what making replied, which left t₁ and w₁

module _ (b t w : List ℕ) where
  refused-by : (r : Reply) (y : Answer) (t₁ w₁ : List ℕ) → r ≡ reply_of y → (r.refusal ≡ 0 → ⊥) → Makes t w script_sizes y t₁ w₁ → RanScript b t w r t₁ w₁
  refused-by r y t₁ w₁ e n (Makes.fits f) = absurd (n (ap (λ (x : Reply). x.refusal) e))
  refused-by r y t₁ w₁ e n (Makes.unfit f) = record { unfit = λ _. (e, refl); reply = λ g. absurd (f g); ended = λ g. absurd (f g); clear = refl }

  ran-by : (r : Reply) (y : Answer) (t₁ w₁ : List ℕ) → After t w (Call.Make script_sizes) y t₁ w₁ → r ≡ reply_of y → r.refusal ≡ 0
      → (x : Reply) (t₂ w₂ : List ℕ) → RunsAll b t₁ w₁ x t₂ w₂ → Makes t w script_sizes y t₁ w₁ → RanScript b t w x t₂ w₂
  ran-by r y t₁ w₁ a e k x t₂ w₂ h (Makes.fits f) =
      record {
        unfit = λ n. absurd (n f);
        reply = λ _. h.reply;
        ended = λ _. let l = h.led (empty_tables script_sizes) (script-lent w f.work) in record {
          answers = h.answers;
          chain = h.chain;
          tables = l.tables;
          claims = demand3-lent t w t₁ w₁ t₂ script_sizes (script_calls b).0 h.answers a h.words h.chain;
        };
        clear = h.work (zeroed-clear w w₁ refl) ∙ sym (zeroed-clear w w₁ refl);
      }
  ran-by r y t₁ w₁ a e k x t₂ w₂ h (Makes.unfit f) = absurd (omega (arith, k, ap (λ (x : Reply). x.refusal) e))

  module _ (r : Reply) (t₁ w₁ : List ℕ) (m : Returns reply_of t w (Call.Make script_sizes) r t₁ w₁) where
    by-making : Makes t w script_sizes m.answer t₁ w₁
    by-making = makes t w script_sizes m.answer t₁ w₁ tt m.after

    pub dealt-refused : (r.refusal ≡ 0 → ⊥) → RanScript b t w r t₁ w₁
    dealt-refused n = refused-by r m.answer t₁ w₁ m.reply n by-making

    pub dealt-ran : r.refusal ≡ 0 → (x : Reply) (t₂ w₂ : List ℕ) → RunsAll b t₁ w₁ x t₂ w₂ → RanScript b t w x t₂ w₂
    dealt-ran k x t₂ w₂ h = ran-by r m.answer t₁ w₁ m.after m.reply k x t₂ w₂ h by-making
