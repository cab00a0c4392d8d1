-- One record at the front of the bytes at hand: the call that is run and its line, or the line of a bad record.
use Rattle.std.specs.Prelude.{◌≡◌, refl, ℕ, List, Some, None, Ok, Err}
use Rattle.std.proofs.Common.{sym, ap, ◌∙◌, arith}
use Rattle.byte_numbers.specs.Numbers.{Bytes}
use Rattle.script_records.specs.Parsed.{Found, parsed}
use Rattle.script_records.proofs.Words.{call-words}
use Rattle.script_progress.specs.declared.Ran.{Ran}
use Rattle.running.specs.Takes.{Taken, bad_taken, Takes}
use Rattle.output.specs.Text.{call_line, Puts}
use Rattle.output.specs.Puts.{puts-same}
use Rattle.script_text.specs.ScriptText.{bad_reply}
use Rattle.script_text.specs.Turns.{Turns}

-- ---- as the code finds it: x is what became of the bytes b

abbrev tag : Taken → ℕ
tag (Ok None) = 0
tag (Err e) = 1
tag (Ok (Some y)) = 2

abbrev ran_in : Ran → Taken → Ran
ran_in d (Ok None) = d
ran_in d (Err e) = d
ran_in d (Ok (Some y)) = y

module _ (b t w t₂ w₂ : List ℕ) (x : Taken) (k n : ℕ) (run : List ℕ) (n' : ℕ) (run' : List ℕ) where
  run-as : Bytes b → (y : Ran) → x ≡ Ok (Some y) → (p : Found) → parsed b ≡ p → Takes p t w x t₂ w₂ → Puts run n (call_line k y.reply) n' run' → Turns p k n t w run n' y.size t₂ w₂ run'
  run-as known y e (Ok None) q h l = absurd (omega (arith, ap tag (sym e ∙ h.taken)))
  run-as known y e (Err z) q h l = absurd (omega (arith, ap tag (sym e ∙ h.taken)))
  run-as known y e (Ok (Some r)) q h l =
      let f = ap (ran_in y) (sym e ∙ h.taken) in
      record {
        answer = h.returns.answer;
        after = h.returns.after;
        words = call-words b r known q;
        line = puts-same (ap (call_line k) (ap (λ (z : Ran). z.reply) f ∙ h.returns.reply)) l;
        taken = ap (λ (z : Ran). z.size) f;
      }

  pub turns-run : Bytes b → (y : Ran) → x ≡ Ok (Some y) → Takes (parsed b) t w x t₂ w₂ → Puts run n (call_line k y.reply) n' run' → Turns (parsed b) k n t w run n' y.size t₂ w₂ run'
  turns-run known y e h l = run-as known y e (parsed b) refl h l

  left_as : (tag x ≡ 2 → ⊥) → (p : Found) → Takes p t w x t₂ w₂ → Puts run n (call_line k bad_reply) n' run' → (size : ℕ) → size ≡ 0 → Turns p k n t w run n' size t₂ w₂ run'
  left_as m (Ok None) h l size z = record { tables = h.tables; work = h.work; line = l; taken = z }
  left_as m (Err e) h l size z = record { tables = h.tables; work = h.work; line = l; taken = z }
  left_as m (Ok (Some r)) h l size z = absurd (m (ap tag h.taken))

  module _ (h : Takes (parsed b) t w x t₂ w₂) (l : Puts run n (call_line k bad_reply) n' run') (size : ℕ) (z : size ≡ 0) where
    pub turns-short : x ≡ Ok None → Turns (parsed b) k n t w run n' size t₂ w₂ run'
    turns-short e = left_as (λ f. omega (arith, f, ap tag e)) (parsed b) h l size z

    pub turns-bad : x ≡ bad_taken → Turns (parsed b) k n t w run n' size t₂ w₂ run'
    turns-bad e = left_as (λ f. omega (arith, f, ap tag e)) (parsed b) h l size z
