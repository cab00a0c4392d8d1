-- Calls that are refused before their first change. What was found is then still there, so that no copy has to be kept.
use Rattle.std.specs.Prelude.{◌≡◌, refl, ℕ, Bool, true, false, List, eqb, length, replicate, Ok, Err}
use Rattle.std.proofs.Common.{sym, ap, subst, ◌∙◌}
use Rattle.base.specs.Cases.{holds, fails, test}
use Rattle.base.specs.Tests.{true-false}
use Rattle.model.specs.Lists.{Each}
use Rattle.model.specs.State.{Word}
use Rattle.model.specs.Perform as model
use Rattle.model.specs.CallWords.{StepWords}
use Rattle.model.specs.Memory.{zeroed}
use Rattle.tables.specs.declared.Handle.{Handle}
use Rattle.tables.specs.Tables.{Tables, interface_at}
use Rattle.tables.specs.View.{view, Sized, Left}
use Rattle.tables.specs.Layout.{unchanged}
use Rattle.arena.specs.Arena.{live_b}
use Rattle.refusals.specs.declared.Refusal.{Refusal}
use Rattle.answers.specs.Answers.{Answer, and_then}
use Rattle.checks.specs.Checks.{live_domain}
use Rattle.domain_calls.specs.Calls.{set_core_map}
use Rattle.interface_calls.specs.Calls.{set_interface, freeze_interface}
use Rattle.call.specs.declared.Call.{Call}
use Rattle.call.specs.declared.Call.TheVariants.{Open, OpenUnder, Channel, SetCoreMap, SetInterface, FreezeInterface, Root, Alias, Carve, Send, Revoke, CreateRevokeCapa}
use Rattle.call.specs.Steps.{step_named}
use Rattle.calls.specs.Steps.{step_of}
use Rattle.replies.specs.declared.Reply.{Reply}
use Rattle.replies.specs.Replies.{reply_of, Returns}
use Rattle.frame.specs.Finish.{admitted, kept, kept-copy, finished, copy-back}
use Rattle.replies.specs.ReplyFor.{reply_for}
use Rattle.frame.specs.Law.{admitted-sized, admitted-long}
use Rattle.lent_steps.specs.Law.{call_returns}
use Rattle.lent_steps.specs.Steps.{ran-step}
use Rattle.lent_steps.specs.Unkept.{checks_first}

-- ---- a refused one leaves the tables

abbrev is_done : Answer → Bool
is_done (Ok v) = true
is_done (Err r) = false

core-map-same : (h : Handle) (cores : ℕ) (v : Tables) (r : Refusal) → (set_core_map h cores v).answer ≡ Err r → (set_core_map h cores v).tables ≡ v
unfolding set_core_map live_domain and_then
core-map-same h cores v r = elim (test (live_b v.domain_pool h)) [ holds e ↦ rw e (λ k. absurd (true-false refl (ap is_done k))) | fails e ↦ rw e (λ k. refl) ]

interface-same : (h : Handle) (word : ℕ) (v : Tables) (r : Refusal) → (set_interface h word v).answer ≡ Err r → (set_interface h word v).tables ≡ v
unfolding set_interface live_domain and_then
interface-same h word v r = elim (test (live_b v.domain_pool h)) [
  | holds e ↦ elim (test (eqb (interface_at v h.slot).frozen 0)) [ holds f ↦ rw (e, f) (λ k. absurd (true-false refl (ap is_done k))) | fails f ↦ rw (e, f) (λ k. refl) ]
  | fails e ↦ rw e (λ k. refl)
]

freeze-same : (h : Handle) (v : Tables) (r : Refusal) → (freeze_interface h v).answer ≡ Err r → (freeze_interface h v).tables ≡ v
unfolding freeze_interface live_domain and_then
freeze-same h v r = elim (test (live_b v.domain_pool h)) [ holds e ↦ rw e (λ k. absurd (true-false refl (ap is_done k))) | fails e ↦ rw e (λ k. refl) ]

refused-same : (c : Call) (v : Tables) (r : Refusal) → checks_first (step_named c) ≡ true → (step_of c v).answer ≡ Err r → (step_of c v).tables ≡ v
refused-same (SetCoreMap h cores) v r f e = core-map-same h cores v r e
refused-same (SetInterface h word) v r f e = interface-same h word v r e
refused-same (FreezeInterface h) v r f e = freeze-same h v r e
refused-same (Open cores) v r f e = absurd (true-false f refl)
refused-same (OpenUnder h cores) v r f e = absurd (true-false f refl)
refused-same (Channel h to) v r f e = absurd (true-false f refl)
refused-same (Root h a) v r f e = absurd (true-false f refl)
refused-same (Alias x) v r f e = absurd (true-false f refl)
refused-same (Carve x) v r f e = absurd (true-false f refl)
refused-same (Send h l target o) v r f e = absurd (true-false f refl)
refused-same (Revoke h l) v r f e = absurd (true-false f refl)
refused-same (CreateRevokeCapa h l) v r f e = absurd (true-false f refl)

-- ---- so it ends as if a copy had been kept

as-kept : (c : Call) (t u : List ℕ) (a : Answer) → Sized t → checks_first (step_named c) ≡ true → a ≡ (step_of c (view t)).answer → Left u (step_of c (view t)).tables → length u ≡ length t → u ≡ finished a u t
as-kept c t u (Ok v) s f e l long = refl
as-kept c t u (Err r) s f e l long = unchanged t u s (subst (Left u) (refused-same c (view t) r f (sym e)) l) ∙ sym (copy-back t u long)

-- as `run_unkept` cites it: b is what the test said, w₂ the work area behind it; a and u are what the step answered and left
pub unkept-returns : (t w : List ℕ) → Each Word t → (b : Bool) → b ≡ admitted t w → b ≡ true → (w₂ : List ℕ) → w₂ ≡ zeroed w
    → (c : Call) → checks_first (step_named c) ≡ true → StepWords (step_named c)
    → (a : Answer) (u : List ℕ) → a ≡ (step_of c (view t)).answer → Left u (step_of c (view t)).tables → length u ≡ length t
    → (r : Reply) → r ≡ reply_for a → Returns reply_of t w (model.Call.Do (step_named c)) r u w₂
unkept-returns t w known b e h w₂ ew c f k a u ea l long r er =
    let m = kept-copy t w (sym e ∙ h) in
    let x = ran-step c (view t) a u ea l in
    call_returns t w known b e h (kept t w) refl (step_named c) k a u x.0 x.1 long r u w₂ er
    (as-kept c t u a (admitted-sized t w b e h) f ea l long ∙ ap (finished a u) (sym m))
    (ew ∙ ap (λ n. replicate n 0) (admitted-long t w b e h ∙ ap length (sym m)))
