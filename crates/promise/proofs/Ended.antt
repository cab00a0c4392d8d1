-- What `contract-ends` and `region-returns` (crate closed) say of an accepted revoke, of the exported function: memory for which it returned refusal 0 is that
-- of sound tables.
use Rattle.std.specs.Prelude.{◌≡◌, refl, ℕ, List}
use Rattle.std.proofs.Common.{sym, ap, ◌∙◌, arith}
use Rattle.model.specs.Outcome.{Outcome, ok, refuse}
use Rattle.model.specs.State.{State, Handle}
use Rattle.model.specs.Perform.{Step, Call, Value, Answer, code, perform_step, perform, after, step}
use Rattle.model.specs.Sound.{Sound}
use Rattle.model.specs.Memory.{After, not_sound, performed}
use Rattle.laws.specs.Accepted.{All, accepted, bind, all-ok}
use Rattle.laws.specs.Codes.{Coded, step-coded}
use Rattle.laws.specs.Close.Call.{revoke-call-sound}
use Rattle.closed.proofs.Theorem.{contract-ends, region-returns}
use Rattle.call.specs.Arguments.{handle}
use Rattle.replies.specs.declared.Reply.{Reply}
use Rattle.promise.specs.Statements.{Ended, ContractEnded}

-- a call that was not refused was accepted, and the state is what it left
was-accepted : (s : State) (m : Outcome (Value × State)) → Coded (after s m).0 → code (after s m).0 ≡ 0 → (v : Value) × m ≡ ok (v, (after s m).1)
was-accepted s (ok x) h e = (x.0, refl)
was-accepted s (refuse r) h e = absurd (omega arith)

revoke-sound : (s : State) → Sound s → (h : Handle) (l : ℕ) → All (λ y. Sound y.1) (perform s (Call.Do (Step.Revoke h l)))
unfolding perform perform_step
revoke-sound s k h l = bind (revoke-call-sound h l s k) (λ t p. accepted p)

ended : (t w t' w' : List ℕ) (h : Handle) (l : ℕ) (y : Answer) → code y ≡ 0 → After t w (Call.Do (Step.Revoke h l)) y t' w' → Ended t h l t'
unfolding step
ended t w t' w' h l y e a = go h l y t' w' e a
  where
    go : (h : Handle) (l : ℕ) (y : Answer) (u v : List ℕ) → code y ≡ 0 → After t w (Call.Do (Step.Revoke h l)) y u v → Ended t h l u
    go h l y u v e (not_sound c q n) = absurd (omega arith)
    go h l y u v e (performed c s q k) =
        let m = perform s (Call.Do (Step.Revoke h l)) in
        let (v, f) = was-accepted s m (step-coded s (Call.Do (Step.Revoke h l))) e in
        record {
          before = s;
          tables = k.tables;
          sound = k.sound;
          after = (after s m).1;
          left = refl;
          left_sound = all-ok (λ y. Sound y.1) m (v, (after s m).1) (revoke-sound s k.sound h l) f;
          ends = λ d i. contract-ends s h l d v (after s m).1 k.sound i f;
          takes_back = λ d u i. region-returns s h l d v (after s m).1 k.sound u i f;
        }

-- THEOREM
pub contract-ended : ContractEnded
contract-ended t w t' w' d g l r h e = ended t w t' w' (handle d g) l h.answer (ap (λ (p : Reply). p.refusal) (sym h.reply) ∙ e) h.after
