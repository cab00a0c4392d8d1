-- Every call on sound tables keeps `Tracks` of the live domains, of what is seen after it. No call but making, opening and revoke makes a domain live or
-- frees one: the domain pool stays, and in sound tables the slots in use are those that it does not have as free.
use Rattle.std.specs.Prelude.{◌≡◌, refl, ℕ, ◌<◌, Bool, T, eqb, ltb}
use Rattle.std.proofs.Common.{ap, arith}
use Rattle.std.proofs.Math.Option.{Option, none, some}
use Rattle.model.specs.Lists.{one_if, is_some, count_if, at_slot}
use Rattle.model.specs.State.{State, Sizes, Handle, Pool, Update}
use Rattle.model.specs.Fields.{Field}
use Rattle.model.specs.Calls.{set_interface, freeze_interface}
use Rattle.model.specs.Perform.{Step, Call, popped, perform_step, perform}
use Rattle.model.specs.CallWords.{CallWords}
use Rattle.model.specs.Sound.{Sound}
use Rattle.laws.specs.Accepted.{All, accepted, bind, bind-any, and_then, weaken, both}
use Rattle.laws.specs.Interfaces.{Keeps₁, InterfaceCase, interface-case}
use Rattle.laws.specs.Tree.Slots.{is_live_lem}
use Rattle.laws.specs.Keep.BaseSteps.{Live}
use Rattle.laws.specs.Keep.Checks.{domain-live}
use Rattle.laws.specs.SoundKept.{sound-kept}
use Rattle.follow.specs.Writer.{Seen, notices, accepts}
use Rattle.follow.proofs.Steps.{Tracks, tracks-fewer, domain-tracks}
use Rattle.follow.proofs.Calls.{channel-call, cores-call, root-call, alias-call, carve-call, send-call, make-revoke-call}
use Rattle.follow.proofs.Told.{make-in-tracks, open-call, pop-go}
use Rattle.follow.proofs.Stays.{put-live}
use Rattle.follow.proofs.Revoke.{revoke-call}

-- ---- where the domain pool stays

used : {A : Type 0} (o : Option A) → 0 < one_if (is_some o) → T (is_some o)
used none i = absurd (omega arith)
used (some x) i = tt

uses : {A : Type 0} (o : Option A) → T (is_some o) → one_if (is_some o) ≡ 1
uses none t = absurd t
uses (some x) t = refl

same-pool : (s t : State) → Sound s → Sound t → t.sizes ≡ s.sizes → t.domain_pool ≡ s.domain_pool → (d : ℕ) → Live t d → Live s d
same-pool s t h k z p d live = used (at_slot s.domains d) (omega (
  arith,
  h.outside.domain_pool.once d,
  k.outside.domain_pool.once d,
  ap (λ (q : Pool). count_if (eqb d) q.free) p,
  ap (λ (w : Sizes). one_if (ltb d w.domains)) z,
  uses (at_slot t.domains d) live,
))

-- the calls with no law of their own for interfaces
abbrev Plain : Call → Type 0
Plain (Call.Make z) = ⊥
Plain (Call.Do (Step.Open m c)) = ⊥
Plain (Call.Do (Step.Channel k to)) = Unit {0}
Plain (Call.Do (Step.SetCoreMap k c)) = Unit {0}
Plain (Call.Do (Step.SetInterface k n)) = ⊥
Plain (Call.Do (Step.FreezeInterface k)) = ⊥
Plain (Call.Do (Step.Root k a)) = Unit {0}
Plain (Call.Do (Step.Alias k l a)) = Unit {0}
Plain (Call.Do (Step.Carve k l a)) = Unit {0}
Plain (Call.Do (Step.Send k l g o)) = Unit {0}
Plain (Call.Do (Step.Revoke k l)) = ⊥
Plain (Call.Do (Step.CreateRevokeCapa k l)) = Unit {0}
Plain Call.Pop = ⊥
Plain (Call.Read r) = ⊥

plain-keeps : (s : State) (c : Call) → InterfaceCase s c → Plain c → All (Keeps₁ s) (perform s c)
plain-keeps s c (InterfaceCase.making z) p = absurd p
plain-keeps s c (InterfaceCase.opening m n) p = absurd p
plain-keeps s c (InterfaceCase.setting h n) p = absurd p
plain-keeps s c (InterfaceCase.freezing h) p = absurd p
plain-keeps s c (InterfaceCase.revoking h l) p = absurd p
plain-keeps s c (InterfaceCase.keeping _ k) p = k

module _ (more : Field → Bool) (v : Seen) (s : State) (sound : Sound s) (h : Tracks (Live s) v s) where
  -- what is seen after the call, of the domains that are live then
  abbrev After : Call → Type 0
  After c = All (λ x. Tracks (Live x.1) (accepts more v c x.0 x.1) x.1) (perform s c)

  plain : (c : Call) → CallWords c → Plain c → All (λ x. Tracks (Live s) (accepts more v c x.0 x.1) x.1) (perform s c) → After c
  plain c w p k = weaken (both k (both (sound-kept s c sound w) (plain-keeps s c (interface-case s c) p))) (λ x (g, (z, q)).
      tracks-fewer (Live s) (Live x.1) (accepts more v c x.0 x.1) x.1 (same-pool s x.1 sound z q.sizes q.domain_pool) g)

  interface-call : (k : Handle) (n : ℕ) → All (λ t. Tracks (Live t) v t) (set_interface k n s)
  unfolding set_interface
  interface-call k n = bind (domain-live s k) (λ d (x, e). and_then _ (accepted (tracks-fewer (Live s) _ v _ (put-live s d _ (is_live_lem (at_slot s.domains d) x e)) (domain-tracks v s h d _ refl))))

  freeze-call : (k : Handle) → All (λ t. Tracks (Live t) v t) (freeze_interface k s)
  unfolding freeze_interface
  freeze-call k = bind (domain-live s k) (λ d (x, e). accepted (tracks-fewer (Live s) _ v _ (put-live s d _ (is_live_lem (at_slot s.domains d) x e)) (domain-tracks v s h d _ refl)))

  pub perform-tracks : (c : Call) → CallWords c → After c
  unfolding perform perform_step
  perform-tracks (Call.Make z) w = bind (make-in-tracks _ _ z) (λ t k. accepted k)
  perform-tracks (Call.Do (Step.Open m c)) w = bind (open-call v s h m c) (λ x k. accepted k)
  perform-tracks (Call.Do (Step.Channel k to)) w = plain (Call.Do (Step.Channel k to)) w tt (bind (channel-call v s h k to) (λ x g. accepted g))
  perform-tracks (Call.Do (Step.SetCoreMap k c)) w = plain (Call.Do (Step.SetCoreMap k c)) w tt (bind (cores-call v s h k c) (λ x g. accepted g))
  perform-tracks (Call.Do (Step.SetInterface k n)) w = bind (interface-call k n) (λ x g. accepted g)
  perform-tracks (Call.Do (Step.FreezeInterface k)) w = bind (freeze-call k) (λ x g. accepted g)
  perform-tracks (Call.Do (Step.Root k a)) w = plain (Call.Do (Step.Root k a)) w tt (bind (root-call v s h k a) (λ x g. accepted g))
  perform-tracks (Call.Do (Step.Alias k l a)) w = plain (Call.Do (Step.Alias k l a)) w tt (bind (alias-call v s h k l a) (λ x g. accepted g))
  perform-tracks (Call.Do (Step.Carve k l a)) w = plain (Call.Do (Step.Carve k l a)) w tt (bind (carve-call v s h k l a) (λ x g. accepted g))
  perform-tracks (Call.Do (Step.Send k l g o)) w = plain (Call.Do (Step.Send k l g o)) w tt (bind (send-call v s h k l g o) (λ x g. accepted g))
  perform-tracks (Call.Do (Step.Revoke k l)) w = bind (revoke-call v s sound h k l) (λ x g. accepted g)
  perform-tracks (Call.Do (Step.CreateRevokeCapa k l)) w = plain (Call.Do (Step.CreateRevokeCapa k l)) w tt (bind (make-revoke-call v s h k l) (λ x g. accepted g))
  perform-tracks Call.Pop w = bind {P = λ (x : Option Update × State). Tracks (Live x.1) (notices more v (popped x.0) x.1) x.1} (accepted (pop-go more v s s.queue.read_place s.queue.items h)) (λ x k. accepted k)
  perform-tracks (Call.Read r) w = bind-any _ (λ x. accepted h)
