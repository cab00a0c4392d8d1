-- The whole script: from a making on, the records' lines, and then the lists.
use Rattle.std.specs.Prelude.{◌≡◌, refl, ℕ, true, false, List, length}
use Rattle.std.proofs.Common.{sym, subst, ◌∙◌}
use Rattle.std.proofs.Math.Path.{ap}
use Rattle.std.proofs.lemmas.List.{length-replicate}
use Rattle.base.specs.Cases.{holds, fails, test}
use Rattle.base.specs.Tests.{true-false}
use Rattle.model.specs.Outcome.{Outcome, ok, require, ◌>>◌, ◌>>=◌}
use Rattle.model.specs.State.{State}
use Rattle.model.specs.Making.{empty_tables, script_sizes, make_tables}
use Rattle.model.specs.Perform.{Call, Answer, run}
use Rattle.model.specs.Sound.{Sound}
use Rattle.model.specs.Memory.{Lent}
use Rattle.laws.specs.Accepted.{All, accepted}
use Rattle.laws.specs.Empty.{empty-sound}
use Rattle.laws.specs.Words.Length.{words-length}
use Rattle.listing.specs.Lines.{domain_lines}
use Rattle.replies.specs.declared.Reply.{Reply}
use Rattle.replies.specs.Replies.{reply_of, Returns}
use Rattle.running.specs.RunScript.{Fit}
use Rattle.running.specs.Made.{Makes, makes}
use Rattle.input.specs.declared.Buffered.{Buffered}
use Rattle.output.specs.declared.Pending.{Pending}
use Rattle.output.specs.Printed.{Prints}
use Rattle.script_text.specs.ScriptText.{domain_text, queue_text, text_of, Output}
use Rattle.script_text.specs.Domains.{Holds}
use Rattle.script_text.specs.Records.{RanAll}

-- ---- the making

made_in : (o : Outcome State) → o ≡ ok (empty_tables script_sizes) → All Sound o → Sound (empty_tables script_sizes)
made_in o e h = taken (subst (All Sound) e h)
  where
    taken : All Sound (ok (empty_tables script_sizes)) → Sound (empty_tables script_sizes)
    taken (accepted k) = k

empty-is-sound : Sound (empty_tables script_sizes)
unfolding make_tables require ◌>>◌ ◌>>=◌
empty-is-sound = made_in (make_tables script_sizes) refl (empty-sound script_sizes)

lent-made : (t w : List ℕ) (y : Answer) (t₁ w₁ : List ℕ) → Fit t w script_sizes → Makes t w script_sizes y t₁ w₁ → Lent t₁ w₁ (empty_tables script_sizes)
lent-made t w y t₁ w₁ f (Makes.fits g) = record {
  sound = empty-is-sound;
  tables = refl;
  work = length-replicate (length w) 0 ∙ f.work ∙ sym (words-length (empty_tables script_sizes) empty-is-sound);
}
lent-made t w y t₁ w₁ f (Makes.unfit g) = absurd (g f)

pub made-lent : {t w : List ℕ} {r : Reply} {t₁ w₁ : List ℕ} → Fit t w script_sizes → Returns reply_of t w (Call.Make script_sizes) r t₁ w₁ → Lent t₁ w₁ (empty_tables script_sizes)
made-lent {t} {w} {t₁ = t₁} {w₁ = w₁} f h = lent-made t w h.answer t₁ w₁ f (makes t w script_sizes h.answer t₁ w₁ tt h.after)

-- ---- the lists

module _ {t w text : List ℕ} {p : Pending} {h : Buffered} (x : RanAll (empty_tables script_sizes) t w text p h) where
  abbrev pub state_of : State
  state_of = (run (empty_tables script_sizes) x.calls).1

  pub ran-holds : Holds t state_of
  ran-holds = record { sound = x.lent.sound; sizes = x.sizes; tables = x.lent.tables }

  not-failed : (r : Pending) → (p.failed ≡ true → r.failed ≡ true) → r.failed ≡ false → p.failed ≡ false
  not-failed r k f = elim (test p.failed) [ holds b ↦ absurd (true-false (k b) f) | fails b ↦ b ]

  pub ran-output : {text₁ : List ℕ} {q : Pending} {text₂ : List ℕ} {r : Pending} → Prints text p (domain_text (domain_lines state_of)) text₁ q → Prints text₁ q (queue_text state_of.queue.items) text₂ r → Output text₂ r h
  unfolding text_of
  ran-output {r = r} d e = record {
    read = x.read;
    calls = x.calls;
    bad = x.bad;
    later = x.later.0;
    first = ap (λ o. o.0) x.first;
    all = λ f u. x.all (not-failed r (λ b. e.failed (d.failed b)) f) u;
    ended = λ f u. x.ended (not-failed r (λ b. e.failed (d.failed b)) f) u;
    printed = e.behind _ (d.behind _ x.printed);
  }
