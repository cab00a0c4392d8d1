-- A script's calls, record by record: from none to one more, and to the end or a bad record.
use Rattle.std.specs.Prelude.{◌≡◌, refl, ℕ, ◌+◌, ◌-◌, ◌≤◌, ◌<◌, Bool, true, false, List, [], ◌∷◌, ◌++◌, Some, None, Ok, Err, length, take, drop, replicate, if◌then◌else◌}
use Rattle.std.proofs.Common.{sym, ap, subst, ◌∙◌, append-nil, append_assoc, arith, length-append, length-drop, drop_of_length-le, take_all, drop-drop}
use Rattle.std.proofs.lemmas.List.{length-replicate}
use Rattle.refusals.specs.Refusals.{number, bad_record}
use Rattle.model.specs.Lists.{Each}
use Rattle.model.specs.Perform.{Call, Answer, run}
use Rattle.model.specs.CallWords.{CallWords}
use Rattle.model.specs.Memory.{Lent, NotMake, After, made, not_sound, performed, zeroed}
use Rattle.script_records.specs.declared.Record.{Record}
use Rattle.script_records.specs.Script.{Kind, opening, root, alias, carve, send, revoke, make_revoke, ahead, script_calls}
use Rattle.script_records.specs.Parsed.{named, size_of, call_for, call_in, Found, bad_found, parsed}
use Rattle.byte_numbers.specs.Numbers.{Bytes}
use Rattle.script_records.proofs.Words.{call-size, call-words, bytes_drop}
use Rattle.script_records.proofs.Scripts.{script-ended}
use Rattle.script_records.proofs.Streams.{stream-call, stream-bad, stream-cut}
use Rattle.replies.specs.declared.Reply.{Reply}
use Rattle.script_progress.specs.declared.Place.{Place}
use Rattle.script_progress.specs.declared.Ran.{Ran}
use Rattle.book.specs.Lent.{Chain}
use Rattle.running.specs.Chains.{chain-end, each-end}
use Rattle.running.specs.Led.{led-start, led-end}
use Rattle.running.specs.Takes.{Taken, Takes}
use Rattle.running.specs.Outcomes.{WasRun, NotRun}
use Rattle.running.specs.RunScript.{script_reply}
use Rattle.running.specs.BetweenRecords.{followed, BetweenRecords, RunsAll}

-- ---- bytes, and the work area

-- the part from `at` on
pub part-rest : (b : List ℕ) (at : ℕ) → take (length b - at) (drop at b) ≡ drop at b
part-rest b at = take_all (length b - at) (drop at b) (omega (arith, length-drop at b))

-- every call leaves the work area all zero
after-clear : (t w : List ℕ) (c : Call) (y : Answer) (t₂ w₂ : List ℕ) → After t w c y t₂ w₂ → w₂ ≡ zeroed w
after-clear t w c y t₂ w₂ (made z) = refl
after-clear t w c y t₂ w₂ (not_sound d q n) = refl
after-clear t w c y t₂ w₂ (performed d s q l) = refl

zeroed-twice : (w : List ℕ) → zeroed (zeroed w) ≡ zeroed w
zeroed-twice w = ap (λ (n : ℕ). replicate n 0) (length-replicate (length w) 0)

-- ---- calls

-- no record is a making
kind-not-make : (k : Kind) (r : Record) → NotMake (call_for k r)
kind-not-make opening r = tt
kind-not-make root r = tt
kind-not-make alias r = tt
kind-not-make carve r = tt
kind-not-make send r = tt
kind-not-make revoke r = tt
kind-not-make make_revoke r = tt

not-make : (r : Record) → NotMake (call_in r)
unfolding call_in
not-make r = kind-not-make (named r.kind) r

-- the bytes of the script are all at hand
call-first : (b : List ℕ) (r : Record) → parsed b ≡ Ok (Some r) → script_calls b ≡ ahead (call_in r) (script_calls (drop (size_of r.kind) b))
call-first b r e =
    ap script_calls (sym (append-nil b)) ∙ stream-call b [] r e
    ∙ ap (λ (l : List ℕ). ahead (call_in r) (script_calls l)) (append-nil (drop (size_of r.kind) b))

bad-first : (b : List ℕ) → parsed b ≡ bad_found → script_calls b ≡ ([], true)
bad-first b e = ap script_calls (sym (append-nil b)) ∙ stream-bad b [] e

followed-one : (cs : List Call) (c : Call) (r : List Call × Bool) → followed cs (ahead c r) ≡ followed (cs ++ c ∷ []) r
followed-one cs c r = ap (λ (l : List Call). (l, r.1)) (sym (append_assoc cs (c ∷ []) r.0))

-- ---- the laws

module _ (b t₀ w₀ : List ℕ) where
  pub half-start : BetweenRecords b t₀ w₀ 0 0 t₀ w₀
  half-start = record { calls = []; answers = []; chain = Chain.start; led = λ s l. led-start s t₀ w₀ l; words = tt; rest = refl; count = refl; few = omega arith; inside = omega arith; work = λ h. h }

  module _ (n at : ℕ) (t w : List ℕ) (h : BetweenRecords b t₀ w₀ n at t w) where
    -- what follows is the end, or a bad record
    ended : (bad : Bool) → script_calls (drop at b) ≡ ([], bad) → RunsAll b t₀ w₀ (record { refusal = if bad then number bad_record else 0; value = n }) t w
    ended bad e =
        let q : script_calls b ≡ (h.calls, bad) = h.rest ∙ ap (followed h.calls) e ∙ ap (λ (l : List Call). (l, bad)) (append-nil h.calls) in
        record {
          answers = h.answers;
          chain = subst (λ (r : List Call × Bool). Chain t₀ r.0 h.answers t) (sym q) h.chain;
          led = λ s l. subst (λ (r : List Call × Bool). Lent t w (run s r.0).1) (sym q) (h.led s l);
          words = subst (λ (r : List Call × Bool). Each CallWords r.0) (sym q) h.words;
          reply = ap (λ (m : ℕ). record { refusal = if bad then number bad_record else 0; value = m }) h.count ∙ ap script_reply (sym q);
          work = h.work;
        }

    pub half-ended : length b ≤ at → RunsAll b t₀ w₀ (record { refusal = 0; value = n }) t w
    half-ended k = ended false (ap script_calls (drop_of_length-le b k) ∙ script-ended)

    -- p is at hand
    module _ (p : List ℕ) (e : p ≡ drop at b) (t₂ w₂ : List ℕ) where
      half-short : at < length b → NotRun (Ok None) p t w t₂ w₂ → (r : Reply) → r ≡ record { refusal = number bad_record; value = n } → RunsAll b t₀ w₀ r t₂ w₂
      half-short k x r d =
          let m : 0 < length p = omega (arith, ap length e, length-drop at b) in
          rw (d, x.tables, x.work) (ended true (ap script_calls (sym e) ∙ stream-cut p m x.stood))

      half-bad : NotRun bad_found p t w t₂ w₂ → (r : Reply) → r ≡ record { refusal = number bad_record; value = n } → RunsAll b t₀ w₀ r t₂ w₂
      half-bad x r d = rw (d, x.tables, x.work) (ended true (ap script_calls (sym e) ∙ bad-first p x.stood))

      -- by what was taken, where that is no record that was run
      left-by : at < length b → (x : Taken) → ((y : Ran) → x ≡ Ok (Some y) → ⊥) → (r : Reply) → r ≡ record { refusal = number bad_record; value = n } → (q : Found) → parsed p ≡ q → Takes q t w x t₂ w₂ → RunsAll b t₀ w₀ r t₂ w₂
      left-by k x f r d (Ok None) e h = half-short k (record { stood = e; tables = h.tables; work = h.work }) r d
      left-by k x f r d (Err z) e h = half-bad (record { stood = e; tables = h.tables; work = h.work }) r d
      left-by k x f r d (Ok (Some q)) e h = absurd (f _ h.taken)

      pub half-left : at < length b → (x : Taken) → ((y : Ran) → x ≡ Ok (Some y) → ⊥) → (r : Reply) → r ≡ record { refusal = number bad_record; value = n } → Takes (parsed p) t w x t₂ w₂ → RunsAll b t₀ w₀ r t₂ w₂
      half-left k x f r d h = left-by k x f r d (parsed p) refl h

      half-next : Bytes b → (y : Ran) → WasRun p t w y t₂ w₂ → BetweenRecords b t₀ w₀ (n + 1) (at + y.size) t₂ w₂
      half-next known y x =
          let c = call_in x.r in
          let u = call-words p x.r (subst Bytes (sym e) (bytes_drop at b known)) x.stood in
          let s = call-size p x.r x.stood in
          let z = x.size in
          let l = ap length e ∙ length-drop at b in
          let k = h.inside in
          let m : drop (size_of x.r.kind) p ≡ drop (at + y.size) b = ap (drop (size_of x.r.kind)) e ∙ drop-drop (size_of x.r.kind) at b ∙ ap (λ (i : ℕ). drop (at + i) b) (sym z) in
          record {
            calls = h.calls ++ c ∷ [];
            answers = h.answers ++ x.answer ∷ [];
            chain = chain-end t₀ w t t₂ w₂ h.calls h.answers c x.answer h.chain x.after;
            led = λ i l. led-end i h.calls t w (h.led i l) c (not-make x.r) u x.answer t₂ w₂ x.after;
            words = each-end h.calls c h.words u;
            rest =
                h.rest ∙ ap (λ (q : List ℕ). followed h.calls (script_calls q)) (sym e) ∙ ap (followed h.calls) (call-first p x.r x.stood)
                ∙ followed-one h.calls c (script_calls (drop (size_of x.r.kind) p)) ∙ ap (λ (q : List ℕ). followed (h.calls ++ c ∷ []) (script_calls q)) m;
            count = omega (arith, h.count, length-append h.calls (c ∷ []));
            few = omega (arith, h.few);
            inside = omega arith;
            work = λ (v : w₀ ≡ zeroed w₀). after-clear t w c x.answer t₂ w₂ x.after ∙ ap zeroed (h.work v) ∙ zeroed-twice w₀;
          }

      pub half-behind : Bytes b → (y : Ran) → WasRun p t w y t₂ w₂ → (q : Place) → q ≡ record { at = at + y.size; calls = n + 1 } → BetweenRecords b t₀ w₀ q.calls q.at t₂ w₂
      half-behind known y x q d = subst (λ (z : Place). BetweenRecords b t₀ w₀ z.calls z.at t₂ w₂) (sym d) (half-next known y x)
