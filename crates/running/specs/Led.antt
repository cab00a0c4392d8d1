-- Calls on lent tables, as the model runs them: the words of a sound state lead to those of the state that `run` (crate model, Perform) leaves.
use Rattle.std.specs.Prelude.{◌≡◌, refl, ℕ, List, [], ◌∷◌, ◌++◌, length}
use Rattle.std.proofs.Common.{sym, ap, subst, ◌∙◌}
use Rattle.std.proofs.lemmas.List.{length-replicate}
use Rattle.model.specs.State.{State}
use Rattle.model.specs.Layout.{words, length_for}
use Rattle.model.specs.Perform.{Call, Answer, step, run}
use Rattle.model.specs.CallWords.{CallWords}
use Rattle.model.specs.Memory.{Lent, NotMake, After, performed, zeroed}
use Rattle.laws.specs.AfterUnique.{after-unique}
use Rattle.laws.specs.KeptCalls.{step_kept}
use Rattle.laws.specs.SoundKept.{step-sound}
use Rattle.laws.specs.Words.Length.{words-length}

pub led-start : (s : State) (t w : List ℕ) → Lent t w s → Lent t w (run s []).1
unfolding run
led-start s t w l = l

-- a list with one call more at its end
run_end : (s : State) (cs : List Call) (c : Call) → (run s (cs ++ c ∷ [])).1 ≡ (step (run s cs).1 c).1
unfolding run
run_end s [] c = refl
run_end s (d ∷ cs) c = run_end (step s d).1 cs c

-- a call on the words of a sound state leaves such words, and a work area of their length
lent-on : (s : State) (c : Call) (t w : List ℕ) → NotMake c → CallWords c → Lent t w s → Lent (words (step s c).1) (zeroed w) (step s c).1
lent-on s c t w n k l =
    let h = step-sound s c l.sound k in
    record {
      sound = h;
      tables = refl;
      work = length-replicate (length w) 0 ∙ l.work ∙ ap length l.tables ∙ words-length s l.sound ∙ ap length_for (sym (step_kept s c n).sizes) ∙ sym (words-length (step s c).1 h);
    }

pub led-end : (s : State) (cs : List Call) (t w : List ℕ) → Lent t w (run s cs).1 → (c : Call) → NotMake c → CallWords c → (y : Answer) (t₂ w₂ : List ℕ) → After t w c y t₂ w₂ → Lent t₂ w₂ (run s (cs ++ c ∷ [])).1
led-end s cs t w l c n k y t₂ w₂ a =
    let u = (run s cs).1 in
    let (answer, tables, work) = after-unique a (performed c u n l) in
    subst (Lent t₂ w₂) (sym (run_end s cs c)) (subst (λ (x : List ℕ). Lent x w₂ (step u c).1) (sym tables) (subst (λ (x : List ℕ). Lent (words (step u c).1) x (step u c).1) (sym work) (lent-on u c t w n k l)))
