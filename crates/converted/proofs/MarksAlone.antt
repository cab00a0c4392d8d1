-- That marks influence nothing else, as specs/MarksAlone says it: call by call.
use Rattle.std.specs.Prelude.{◌≡◌, refl, ◌+◌, ◌%◌, List, [], ◌∷◌, map, length}
use Rattle.std.proofs.Common.{sym, ap, ap₂, subst, ◌∙◌, arith}
use Rattle.std.proofs.Math.Option.{Option, some}
use Rattle.model.specs.Outcome.{Outcome, ok, ◌>>=◌}
use Rattle.model.specs.State.{State, Update, Queue, with_queue}
use Rattle.model.specs.Updates.{pop}
use Rattle.model.specs.Calls.{live_domain}
use Rattle.model.specs.Readings.{permissions, get_refcount, core_map, holders}
use Rattle.model.specs.Perform.{Step, Reading, Call, Value, Answer, perform_step, read_tables, perform, after, step, run}
use Rattle.model.specs.Sound.{Sound}
use Rattle.model.specs.Converting.{former_words}
use Rattle.interface.proofs.Outcomes.{Both, accepted, refused, bind, bind-same}
use Rattle.converted.specs.Marked.{mark_all, with_all_marks}
use Rattle.converted.proofs.Former.{former-same}
use Rattle.converted.proofs.Alike.{SameQueue, Alike, Alike₁, bind-alike, bind-alike₁}
use Rattle.converted.proofs.AlikeCalls.{open-alike, channel-alike, cores-alike, interface-alike, freeze-alike, root_alike, alias-alike, carve-alike, send-alike, revoke-alike, make-revoke-alike}
use Rattle.converted.specs.MarksAlone.{SameButMarks, mark_value, same_answer, same_answers}

-- ---- the two forms of the relation

alike_same : (s t : State) → Alike s t → SameButMarks s t
alike_same s t (q, e, p) = (λ i. with_queue (record { read_place = e.0 i; items = e.1 i }) s) ∙ ap with_all_marks (sym p)

same_alike : (s t : State) → SameButMarks s t → Alike s t
same_alike s t e = (t.queue, (ap (λ (x : State). x.queue.read_place) e, ap (λ (x : State). x.queue.items) e), rest)
  where
    rest : t ≡ with_queue t.queue s
    rest = let k = sym e in λ i. record { sizes = (k i).sizes; domain_pool = (k i).domain_pool; region_pool = (k i).region_pool; record_pool = (k i).record_pool; domains = (k i).domains; regions = (k i).regions; queue = t.queue }

-- ---- all calls

abbrev AlikeReply : Value × State → Value × State → Type 0
AlikeReply x y = (mark_value x.0 ≡ mark_value y.0) × Alike x.1 y.1

answered : {A : Type 0} (f : A → Value) {m n : Outcome (A × State)} → Both Alike₁ m n → Both AlikeReply (m >>= λ (a, s). ok (f a, s)) (n >>= λ (a, s). ok (f a, s))
answered f h = bind-alike₁ _ h (λ x q e. accepted (refl, (q, e, refl)))

silent : {m n : Outcome State} → Both Alike m n → Both AlikeReply (m >>= λ s. ok (Value.done, s)) (n >>= λ s. ok (Value.done, s))
silent h = bind-alike _ h (λ s q e. accepted (refl, (q, e, refl)))

step-alike : (c : Step) (s : State) (q : Queue) → SameQueue s.queue q → Both AlikeReply (perform_step s c) (perform_step (with_queue q s) c)
unfolding perform_step
step-alike (Step.Open m cores) s q e = answered _ (open-alike m cores s q e)
step-alike (Step.Channel h to) s q e = answered _ (channel-alike h to s q e)
step-alike (Step.SetCoreMap h cores) s q e = silent (cores-alike h cores s q e)
step-alike (Step.SetInterface h word) s q e = silent (interface-alike h word s q e)
step-alike (Step.FreezeInterface h) s q e = silent (freeze-alike h s q e)
step-alike (Step.Root h a) s q e = answered _ (root_alike h a s q e)
step-alike (Step.Alias h l a) s q e = answered _ (alias-alike h l a s q e)
step-alike (Step.Carve h l a) s q e = answered _ (carve-alike h l a s q e)
step-alike (Step.Send h l target o) s q e = answered _ (send-alike h l target o s q e)
step-alike (Step.Revoke h l) s q e = silent (revoke-alike h l s q e)
step-alike (Step.CreateRevokeCapa h l) s q e = answered _ (make-revoke-alike h l s q e)

-- the oldest update differs by its marks alone, and leaves both queues
abbrev AlikePop : Option Update × State → Option Update × State → Type 0
AlikePop x y = AlikeReply (Value.popped x.0, x.1) (Value.popped y.0, y.1)

pop-alike : (s : State) (q : Queue) (l m : List Update) → s.queue.read_place ≡ q.read_place → map mark_all l ≡ map mark_all m → AlikePop (pop (with_queue (record { read_place = s.queue.read_place; items = l }) s)) (pop (with_queue (record { read_place = q.read_place; items = m }) s))
unfolding pop
pop-alike s q [] [] a b = (refl, (_, (a, b), refl))
pop-alike s q [] (v ∷ m) a b = absurd (omega (arith, ap length b))
pop-alike s q (u ∷ l) [] a b = absurd (omega (arith, ap length b))
pop-alike s q (u ∷ l) (v ∷ m) a b =
    let first : mark_all u ≡ mark_all v = cc in
    let others : map mark_all l ≡ map mark_all m = cc in
    (ap (λ x. Value.popped (some x)) first, (_, (ap (λ n. (n + 1) % (s.sizes.updates + 1)) a, others), refl))

reading-same : (r : Reading) (s : State) (q : Queue) → read_tables (with_queue q s) r ≡ read_tables s r
unfolding read_tables permissions get_refcount core_map holders live_domain
reading-same (Reading.Permissions h) s q = refl
reading-same (Reading.Refcount h from to) s q = refl
reading-same (Reading.CoreMap h) s q = refl
reading-same (Reading.Holders a) s q = refl

call-alike : (c : Call) (s : State) (q : Queue) → SameQueue s.queue q → Both AlikeReply (perform s c) (perform (with_queue q s) c)
unfolding perform
call-alike (Call.Make z) s q e = bind-same refl (λ (t : State). accepted (refl, (t.queue, (refl, refl), refl)))
call-alike (Call.Do c) s q e = step-alike c s q e
call-alike Call.Pop s q e = bind {R = AlikePop} (accepted (pop-alike s q s.queue.items q.items e.0 e.1)) (λ x y k. accepted k)
call-alike (Call.Read r) s q e = bind-same (reading-same r s q) (λ a. accepted (refl, (q, e, refl)))

-- a refused call leaves both states
after-alike : (s t : State) {m n : Outcome (Value × State)} → SameButMarks s t → Both AlikeReply m n → SameButMarks (after s m).1 (after t n).1 × same_answer (after s m).0 (after t n).0
after-alike s t e (accepted {a = x} {b = y} (v, a)) = (alike_same x.1 y.1 a, ap Answer.yes v)
after-alike s t e refused = (e, refl)

-- THEOREM: of a call. Neither state need be sound.
pub marks-alone : (s t : State) (c : Call) → SameButMarks s t → SameButMarks (step s c).1 (step t c).1 × same_answer (step s c).0 (step t c).0
unfolding step
marks-alone s t c e = let (q, k, p) = same_alike s t e in after-alike s t e (subst (λ x. Both AlikeReply (perform s c) (perform x c)) (sym p) (call-alike c s q k))

-- THEOREM: of a list of calls
pub run-marks-alone : (s t : State) (cs : List Call) → SameButMarks s t → SameButMarks (run s cs).1 (run t cs).1 × same_answers (run s cs).0 (run t cs).0
unfolding run
run-marks-alone s t [] e = (e, refl)
run-marks-alone s t (c ∷ cs) e =
    let (k, a) = marks-alone s t c e in
    let (l, b) = run-marks-alone (step s c).1 (step t c).1 cs k in
    (l, ap₂ ◌∷◌ a b)

-- THEOREM: the former tables of two such states are the same
pub former-alone : (s t : State) → Sound s → Sound t → SameButMarks s t → former_words s ≡ former_words t
former-alone s t h k e = sym (former-same s h) ∙ ap former_words e ∙ former-same t k
