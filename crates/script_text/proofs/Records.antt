-- Records in order: the bytes read so far, the calls of the records that were run, and what was printed for them.
use Rattle.std.specs.Prelude.{◌≡◌, ◌≢◌, Some, None, Ok, Err, ℕ, suc, ◌+◌, ◌≤◌, ◌<◌, Bool, true, false, length, drop}
use Rattle.std.proofs.Math.Path.{refl, ap, subst}
use Rattle.std.proofs.Common.{sym, ◌∙◌, arith, length-append}
use mathlib.Core.List.{List, [], ◌∷◌, ◌++◌, append-nil, append_assoc}
use Rattle.base.specs.Tests.{true-false}
use Rattle.model.specs.Lists.{Each}
use Rattle.model.specs.State.{State}
use Rattle.model.specs.Perform.{Call, Answer, step, run}
use Rattle.model.specs.Memory.{Lent, NotMake}
use Rattle.laws.specs.KeptCalls.{run-kept}
use Rattle.replies.specs.Replies.{reply_of}
use Rattle.script_records.specs.declared.Record.{Record}
use Rattle.script_records.specs.Script.{Kind, opening, root, alias, carve, send, revoke, make_revoke, ahead, script_calls}
use Rattle.script_records.specs.Parsed.{named, size_of, call_for, call_in, Found, parsed}
use Rattle.script_records.proofs.Words.{call-size}
use Rattle.script_records.proofs.Scripts.{script-ended}
use Rattle.script_records.proofs.Streams.{stream-call, stream-bad, stream-cut}
use Rattle.running.specs.BetweenRecords.{followed}
use Rattle.input.specs.declared.Buffered.{Buffered}
use Rattle.input.specs.declared.Source.TheVariants as source
use Rattle.output.specs.declared.Pending.{Pending}
use Rattle.output.specs.Text.{call_line, Puts}
use Rattle.output.specs.Printed.{Printed, Prints}
use Rattle.output.specs.Printing.{printed-none, prints-line}
use Rattle.script_text.specs.ScriptText.{call_lines, bad_reply, bad_line}
use Rattle.script_text.proofs.Calls.{step-answer, step-lent, run_more, answers-length, lines_more}
use Rattle.script_text.specs.Turns.{Called, Turns}
use Rattle.script_text.specs.Records.{RanAll}

-- From the state s₀, the calls of the records so far led to the tables t, and their lines were printed; `hand` are the bytes at hand, and k is the number of
-- the next call. The calls of all that was read, whatever follows, are these and those of the bytes at hand.
pub record Between (s₀ : State) (k : ℕ) (hand t w text : List ℕ) (p : Pending) : Type 0 where
  pub read : List ℕ
  pub calls : List Call
  pub steps : Each NotMake calls
  pub rest : (more : List ℕ) → script_calls (read ++ more) ≡ followed calls (script_calls (hand ++ more))
  pub count : k ≡ suc (length calls)
  pub lent : Lent t w (run s₀ calls).1
  pub printed : Printed (call_lines 1 (run s₀ calls).0) text p

-- ---- to the first record, and reading on

pub between_none : {s₀ : State} {t w : List ℕ} (text : List ℕ) → Lent t w s₀ → Between s₀ 1 [] t w text (record { n = 0; failed = false })
unfolding run call_lines
between_none text l = record { read = []; calls = []; steps = tt; rest = λ more. refl; count = refl; lent = l; printed = printed-none text }

module _ {s₀ : State} {k : ℕ} {hand t w text : List ℕ} {p : Pending} (h : Between s₀ k hand t w text p) where
  pub between-read : {hand₁ : List ℕ} (new : List ℕ) → hand₁ ≡ hand ++ new → Between s₀ k hand₁ t w text p
  between-read new e = record {
    read = h.read ++ new;
    calls = h.calls;
    steps = h.steps;
    rest = λ more.
        ap script_calls (append_assoc h.read new more)
        ∙ h.rest (new ++ more)
        ∙ ap (λ (l : List ℕ). followed h.calls (script_calls l)) (sym (append_assoc hand new more) ∙ ap (λ (l : List ℕ). l ++ more) (sym e));
    count = h.count;
    lent = h.lent;
    printed = h.printed;
  }

  pub between-room : {q : Pending} → Prints text p [] text q → Between s₀ k hand t w text q
  between-room {q} x = record {
    read = h.read;
    calls = h.calls;
    steps = h.steps;
    rest = h.rest;
    count = h.count;
    lent = h.lent;
    printed = subst (λ (l : List ℕ). Printed l text q) (append-nil (call_lines 1 (run s₀ h.calls).0)) (x.behind _ h.printed);
  }

  -- ---- one call more

  no-making : (o : Kind) (r : Record) → NotMake (call_for o r)
  no-making opening r = tt
  no-making root r = tt
  no-making alias r = tt
  no-making carve r = tt
  no-making send r = tt
  no-making revoke r = tt
  no-making make_revoke r = tt

  no-make : (r : Record) → NotMake (call_in r)
  unfolding call_in
  no-make r = no-making (named r.kind) r

  each_more : (cs : List Call) (c : Call) → Each NotMake cs → NotMake c → Each NotMake (cs ++ (c ∷ []))
  each_more [] c x y = (y, tt)
  each_more (d ∷ cs) c x y = (x.0, each_more cs c x.1 y)

  followed-one : (cs : List Call) (c : Call) (r : List Call × Bool) → followed cs (ahead c r) ≡ followed (cs ++ (c ∷ [])) r
  followed-one cs c r = ap (λ (l : List Call). (l, r.1)) (sym (append_assoc cs (c ∷ []) r.0))

  module _ {n : ℕ} {t₁ w₁ text₁ : List ℕ} (room : n ≤ length text) (long : length t₁ ≡ length t) where
    call-more : {size : ℕ} (r : Record) → parsed hand ≡ Ok (Some r) → Called r k p.n t w text n size t₁ w₁ text₁ → Between s₀ (k + 1) (drop size hand) t₁ w₁ text₁ (record { n = n; failed = p.failed })
    call-more {size} r e x =
        let cs = h.calls in
        let c = call_in r in
        let m = run_more s₀ cs c in
        let a = step-answer h.lent (no-make r) x.after in
        let z : drop (size_of r.kind) hand ≡ drop size hand = ap (λ (i : ℕ). drop i hand) (sym x.taken) in
        let j : k ≡ 1 + length (run s₀ cs).0 = omega (arith, h.count, answers-length s₀ cs) in
        record {
          read = h.read;
          calls = cs ++ (c ∷ []);
          steps = each_more cs c h.steps (no-make r);
          rest = λ more.
              h.rest more
              ∙ ap (followed cs) (stream-call hand more r e)
              ∙ followed-one cs c (script_calls (drop (size_of r.kind) hand ++ more))
              ∙ ap (λ (l : List ℕ). followed (cs ++ (c ∷ [])) (script_calls (l ++ more))) z;
          count = omega (arith, h.count, length-append cs (c ∷ []));
          lent = subst (λ (s : State). Lent t₁ w₁ s) (sym (ap (λ (o : List Answer × State). o.1) m)) (step-lent h.lent (no-make r) x.after x.words long);
          printed =
              subst (λ (l : List ℕ). Printed l text₁ (record { n = n; failed = p.failed }))
              (ap (λ (i : ℕ). call_lines 1 (run s₀ cs).0 ++ call_line i (reply_of x.answer)) j
              ∙ ap (λ (y : Answer). call_lines 1 (run s₀ cs).0 ++ call_line (1 + length (run s₀ cs).0) (reply_of y)) a
              ∙ sym (lines_more 1 (run s₀ cs).0 (step (run s₀ cs).1 c).0)
              ∙ ap (λ (o : List Answer × State). call_lines 1 o.0) (sym m))
              ((prints-line x.line room).behind _ h.printed);
        }

    as-parsed : {size : ℕ} (q : Found) → parsed hand ≡ q → Turns q k p.n t w text n size t₁ w₁ text₁ → (size ≡ 0 → ⊥) → Between s₀ (k + 1) (drop size hand) t₁ w₁ text₁ (record { n = n; failed = p.failed })
    as-parsed (Ok None) e x u = absurd (u x.taken)
    as-parsed (Err z) e x u = absurd (u x.taken)
    as-parsed (Ok (Some r)) e x u = call-more r e x

    pub between_more : {size : ℕ} → Turns (parsed hand) k p.n t w text n size t₁ w₁ text₁ → (size ≡ 0 → ⊥) → Between s₀ (k + 1) (drop size hand) t₁ w₁ text₁ (record { n = n; failed = p.failed })
    between_more x u = as-parsed (parsed hand) refl x u

    -- ---- to the end

    bad-end : {q : Pending} (o : Buffered) → script_calls (hand ++ []) ≡ ([], true) → (t₁ ≡ t) → (w₁ ≡ w) → Puts text p.n (call_line k bad_reply) n text₁ → q ≡ record { n = n; failed = p.failed } → RanAll s₀ t₁ w₁ text₁ q o
    unfolding bad_line
    bad-end {q} o b e f x g =
        let cs = h.calls in
        let y : script_calls h.read ≡ (cs, true) = ap script_calls (sym (append-nil h.read)) ∙ h.rest [] ∙ ap (followed cs) b ∙ ap (λ (l : List Call). (l, true)) (append-nil cs) in
        record {
          read = h.read;
          calls = cs;
          bad = true;
          later = ([], true);
          first = y ∙ ap (λ (l : List Call). (l, true)) (sym (append-nil cs));
          all = λ _ _. y;
          ended = λ _ _ u. absurd (true-false refl u);
          lent = subst (λ (o : List ℕ). Lent o w₁ (run s₀ cs).1) (sym e) (subst (λ (o : List ℕ). Lent t o (run s₀ cs).1) (sym f) h.lent);
          sizes = (run-kept s₀ cs h.steps).sizes;
          printed =
              subst (λ (o : Pending). Printed (call_lines 1 (run s₀ cs).0 ++ call_line (suc (length cs)) bad_reply) text₁ o) (sym g)
              (subst (λ (i : ℕ). Printed (call_lines 1 (run s₀ cs).0 ++ call_line i bad_reply) text₁ (record { n = n; failed = p.failed })) h.count
              ((prints-line x room).behind _ h.printed));
        }

    refused_as : {q : Pending} {size : ℕ} (i : Buffered) → q ≡ record { n = n; failed = p.failed } → 0 < length hand → (o : Found) → parsed hand ≡ o → Turns o k p.n t w text n size t₁ w₁ text₁ → size ≡ 0 → RanAll s₀ t₁ w₁ text₁ q i
    refused_as i g u (Ok None) e x z = bad-end i (ap script_calls (append-nil hand) ∙ stream-cut hand u e) x.tables x.work x.line g
    refused_as i g u (Err v) e x z = bad-end i (stream-bad hand [] e) x.tables x.work x.line g
    refused_as i g u (Ok (Some r)) e x z = absurd (omega (arith, call-size hand r e, x.taken, z))

    -- at a bad record
    pub ran-bad : {q : Pending} {size : ℕ} (i : Buffered) → q ≡ record { n = n; failed = p.failed } → 0 < length hand → Turns (parsed hand) k p.n t w text n size t₁ w₁ text₁ → size ≡ 0 → RanAll s₀ t₁ w₁ text₁ q i
    ran-bad i g u x z = refused_as i g u (parsed hand) refl x z

  -- where none is at hand, a write failed, or no more can be numbered
  pub ran-end : (o : Buffered) → (p.failed ≡ false → length h.calls < 18446744073709551614 → (hand ≡ []) × (o.source ≢ source.Open)) → RanAll s₀ t w text p o
  unfolding bad_line
  ran-end o end =
      let cs = h.calls in
      let y : script_calls h.read ≡ followed cs (script_calls (hand ++ [])) = ap script_calls (sym (append-nil h.read)) ∙ h.rest [] in
      record {
        read = h.read;
        calls = cs;
        bad = false;
        later = script_calls (hand ++ []);
        first = y;
        all = λ f u. y ∙ ap (λ (l : List ℕ). followed cs (script_calls (l ++ []))) (end f u).0 ∙ ap (followed cs) script-ended ∙ ap (λ (l : List Call). (l, false)) (append-nil cs);
        ended = λ f u _. (end f u).1;
        lent = h.lent;
        sizes = (run-kept s₀ cs h.steps).sizes;
        printed = subst (λ (l : List ℕ). Printed l text p) (sym (append-nil (call_lines 1 (run s₀ cs).0))) h.printed;
      }
