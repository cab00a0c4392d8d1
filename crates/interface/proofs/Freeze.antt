-- "a freeze that can't be lifted" (document 02, request 2): no call but a making changes the interface of a frozen domain as long as it lives, and none but a
-- revoke ends it (document 02, request 5).
use Rattle.std.specs.Prelude.{◌≡◌, refl, ◌⊎◌, ℕ, ◌≤◌, true, not, List, [], ◌∷◌, get_or}
use Rattle.std.proofs.Math.Path.{sym, ap, subst}
use Rattle.std.proofs.Common.{◌∙◌, inr, arith, eqb→eq}
use Rattle.std.proofs.Math.Logic.{inl}
use Rattle.std.proofs.Math.Option.{Option, none, some}
use Rattle.std.proofs.Math.Dec.{T}
use Rattle.std.specs.Float.Ieee.Fits.{and_r}
use Rattle.base.specs.Tests.{or_l, or_r}
use Rattle.base.specs.Options.{none-some}
use Rattle.refusals.specs.Refusals.{no_domain_room}
use Rattle.model.specs.Lists.{exists, Each, at_slot, In}
use Rattle.model.specs.Outcome.{Outcome, ok, refuse}
use Rattle.model.specs.State.{State, Handle, Pool, Interface, Domain, domain_at, put_domain}
use Rattle.model.specs.Pool.{handle_of}
use Rattle.model.specs.Locals.{empty_capa}
use Rattle.model.specs.Calls.{new_domain, open_domain, set_interface, freeze_interface, revoke}
use Rattle.model.specs.Perform.{Call, Value, perform_step, perform, after, step, run}
use Rattle.model.specs.CallWords.{CallWords}
use Rattle.model.specs.Sound.{Sound}
use Rattle.model.specs.Memory.{NotMake}
use Rattle.laws.specs.Accepted.{All, accepted, bind, bind-any, and_then, checked, both, weaken}
use Rattle.laws.specs.Keep.Locals.{allocate-free}
use Rattle.laws.specs.Capas.NewDomain.{taken}
use Rattle.laws.specs.Interfaces.{Keeps, kept_self, put_same, read-interface, capacity-kept, insert-kept, InterfaceCase, making, opening, setting, freezing, revoking, keeping, interface-case}
use Rattle.laws.specs.Close.Call.{revoke-leaves}
use Rattle.laws.specs.Close.Interfaces.{StaysOrCloses, stays, closes, revoke-interfaces}
use Rattle.laws.specs.SoundKept.{step-sound}
use Rattle.interface.specs.Frozen.{Stays, Gone, is_revoke, FreezeHolds, FreezeHoldsRun, FreezeHoldsLive}

abbrev Stays₁ : {A : Type 0} → ℕ → Domain → State → A × State → Type 0
Stays₁ d x s r = Stays d x s r.1

-- after a call that keeps interfaces
then-kept : (d : ℕ) (x : Domain) (s t u : State) → Stays d x s t → Keeps t u → Stays d x s u
then-kept d x s t u (y, i, e, h) k = let (z, j, f) = k.interfaces d y i in (z, j, f ∙ e, ap (λ (p : Pool). handle_of p d) k.domain_pool ∙ h)

module _ (s : State) (d : ℕ) (x : Domain) (i : In s.domains d x) where
  stays-now : Stays d x s s
  stays-now = (x, i, refl, refl)

  put : (e : ℕ) (y : Domain) → (d ≡ e → y.interface ≡ x.interface) → Stays d x s (put_domain e y s)
  put e y k = let (z, j, f) = put_same s.domains e y d x i k in (z, j, f, refl)

  -- an opening takes a slot that was free
  new-domain-stays : Sound s → (m : Option ℕ) (cores : ℕ) → All (Stays₁ d x s) (new_domain m cores s)
  unfolding new_domain
  new-domain-stays k m cores =
      bind (both (allocate-free s.domains s.sizes.domains s.domain_pool k.outside.domains_length k.outside.domain_pool no_domain_room) (taken no_domain_room s.domain_pool)) (λ (n, p) ((l, vacant), t).
      let (y, j, f) = put_same s.domains n _ d x i (λ e. absurd (none-some (at_slot s.domains n) x vacant (ap (at_slot s.domains) (sym e) ∙ i))) in
      accepted (y, j, f, ap (λ (q : Pool). handle_of q d) t.is))

  open_stays : Sound s → (m : Option Handle) (cores : ℕ) → All (Stays₁ d x s) (open_domain m cores s)
  unfolding open_domain
  open_stays k none cores = bind (new-domain-stays k none cores) (λ (n, s₁) w. accepted w)
  open_stays k (some h) cores =
      bind-any _ (λ m.
      bind (new-domain-stays k (some m) cores) (λ (n, s₁) w.
      bind (capacity-kept s₁ m s₁ (kept_self s₁)) (λ s₂ k₂.
      bind (insert-kept s₁ m _ s₂ k₂) (λ (l, s₃) k₃. accepted (then-kept d x s s₁ s₃ w k₃)))))

  -- 21 for the frozen domain itself
  set-stays : x.interface.frozen ≡ true → (h : Handle) (word : ℕ) → All (Stays d x s) (set_interface h word s)
  unfolding set_interface
  set-stays z h word = bind-any _ (λ e. checked (not (domain_at s e).interface.frozen) _ (λ t. accepted (put e _ (λ m. absurd (subst (λ b. T (not b)) (ap (λ (f : Interface). f.frozen) (read-interface s d x i e m) ∙ z) t)))))

  -- "Freezing twice is accepted", and changes nothing
  freeze-stays : x.interface.frozen ≡ true → (h : Handle) → All (Stays d x s) (freeze_interface h s)
  unfolding freeze_interface
  freeze-stays z h = bind-any _ (λ e. accepted (put e _ (λ m. let p = read-interface s d x i e m in λ j. record { word = (p j).word; frozen = sym z j })))

  -- a revoke may close it
  revoke-stays : Sound s → (h : Handle) (l : ℕ) → All (λ t. Stays d x s t ⊎ Gone d s t) (revoke h l s)
  revoke-stays k h l = weaken (revoke-interfaces s k h l) (λ t q. go t (q.domains d x i))
    where
      go : (t : State) → StaysOrCloses s t d x → Stays d x s t ⊎ Gone d s t
      go t (stays y j f o) = inl (y, j, f, o)
      go t (closes n g) = inr g

  -- ---- all calls but a making

  -- after a call: the domain as it was, or gone by a revoke
  abbrev Ends : Call → State → Type 0
  Ends c t = Stays d x s t ⊎ (T (is_revoke c) × Gone d s t)

  by-revoke : (t : State) → Stays d x s t ⊎ Gone d s t → Stays d x s t ⊎ (Unit {0} × Gone d s t)
  by-revoke t (inl v) = inl v
  by-revoke t (inr g) = inr (tt, g)

  perform-stays : Sound s → x.interface.frozen ≡ true → (c : Call) → NotMake c → InterfaceCase s c → All (λ y. Ends c y.1) (perform s c)
  unfolding perform perform_step
  perform-stays k z c q (making n) = absurd q
  perform-stays k z c q (opening m cores) = bind (open_stays k m cores) (λ y v. accepted (inl v))
  perform-stays k z c q (setting h word) = bind (set-stays z h word) (λ y v. accepted (inl v))
  perform-stays k z c q (freezing h) = bind (freeze-stays z h) (λ y v. accepted (inl v))
  perform-stays k z c q (revoking h l) = bind (revoke-stays k h l) (λ t v. accepted (by-revoke t v))
  perform-stays k z c q (keeping b l) = weaken l (λ y v. inl (then-kept d x s s y.1 stays-now v))

  -- a refused call leaves the state
  after-stays : (c : Call) (m : Outcome (Value × State)) → All (λ y. Ends c y.1) m → Ends c (after s m).1
  after-stays c (ok y) (accepted v) = v
  after-stays c (refuse r) v = inl stays-now

-- ---- generations

-- no generation falls
abbrev Rises : State → State → Type 0
Rises s t = (i : ℕ) → get_or s.domain_pool.gens i 0 ≤ get_or t.domain_pool.gens i 0

same-rises : (s t : State) → t.domain_pool.gens ≡ s.domain_pool.gens → Rises s t
same-rises s t e i = omega (arith, ap (λ g. get_or g i 0) e)

module _ (s : State) where
  new-domain-rises : (m : Option ℕ) (cores : ℕ) → All (λ y. y.1.domain_pool.gens ≡ s.domain_pool.gens) (new_domain m cores s)
  unfolding new_domain
  new-domain-rises m cores = bind (taken no_domain_room s.domain_pool) (λ (n, p) t. accepted (ap (λ (q : Pool). q.gens) t.is))

  open-rises : (m : Option Handle) (cores : ℕ) → All (λ y. Rises s y.1) (open_domain m cores s)
  unfolding open_domain
  open-rises none cores = bind (new-domain-rises none cores) (λ (n, s₁) e. accepted (same-rises s s₁ e))
  open-rises (some h) cores =
      bind-any _ (λ m.
      bind (new-domain-rises (some m) cores) (λ (n, s₁) e.
      bind (capacity-kept s₁ m s₁ (kept_self s₁)) (λ s₂ k₂.
      bind (insert-kept s₁ m _ s₂ k₂) (λ (l, s₃) k₃. accepted (same-rises s s₃ (ap (λ (q : Pool). q.gens) k₃.domain_pool ∙ e))))))

  set-rises : (h : Handle) (word : ℕ) → All (Rises s) (set_interface h word s)
  unfolding set_interface
  set-rises h word = bind-any _ (λ e. and_then _ (accepted (same-rises s s refl)))

  freeze-rises : (h : Handle) → All (Rises s) (freeze_interface h s)
  unfolding freeze_interface
  freeze-rises h = bind-any _ (λ e. accepted (same-rises s s refl))

  revoke-rises : Sound s → (h : Handle) (l : ℕ) → All (Rises s) (revoke h l s)
  unfolding empty_capa
  revoke-rises k h l = weaken (revoke-leaves h l s k) (λ t v. subst (Rises s) (sym v.is) v.less.domain_gens)

  perform-rises : Sound s → (c : Call) → NotMake c → InterfaceCase s c → All (λ y. Rises s y.1) (perform s c)
  unfolding perform perform_step
  perform-rises k c q (making n) = absurd q
  perform-rises k c q (opening m cores) = bind (open-rises m cores) (λ y v. accepted v)
  perform-rises k c q (setting h word) = bind (set-rises h word) (λ y v. accepted v)
  perform-rises k c q (freezing h) = bind (freeze-rises h) (λ y v. accepted v)
  perform-rises k c q (revoking h l) = bind (revoke-rises k h l) (λ y v. accepted v)
  perform-rises k c q (keeping b l) = weaken l (λ y v. same-rises s y.1 (ap (λ (p : Pool). p.gens) v.domain_pool))

  after-rises : (m : Outcome (Value × State)) → All (λ y. Rises s y.1) m → Rises s (after s m).1
  after-rises (ok y) (accepted v) = v
  after-rises (refuse r) v = same-rises s s refl

step-rises : (s : State) (c : Call) → Sound s → NotMake c → Rises s (step s c).1
unfolding step
step-rises s c k q = after-rises s (perform s c) (perform-rises s k c q (interface-case s c))

run-rises : (s : State) (cs : List Call) → Sound s → Each CallWords cs → Each NotMake cs → Rises s (run s cs).1
unfolding run
run-rises s [] k u q = same-rises s s refl
run-rises s (c ∷ cs) k u q = λ i. omega (arith, step-rises s c k q.0 i, run-rises (step s c).1 cs (step-sound s c k u.0) u.1 q.1 i)

-- ---- the claim

-- THEOREM
pub freeze-holds : FreezeHolds
unfolding step
freeze-holds s c k q d x e z = after-stays s d x e c (perform s c) (perform-stays s d x e k z c q (interface-case s c))

-- the same after any list of calls without a making
pub freeze-holds-run : FreezeHoldsRun
unfolding run
freeze-holds-run s [] k u q d x e z = inl (stays-now s d x e)
freeze-holds-run s (c ∷ cs) k u q d x e z = first (freeze-holds s c k q.0 d x e z) (λ y i o. freeze-holds-run t cs sound u.1 q.1 d y i o)
  where
    t : State
    t = (step s c).1

    sound : Sound t
    sound = step-sound s c k u.0

    then : (y : Domain) → y.interface ≡ x.interface → handle_of t.domain_pool d ≡ handle_of s.domain_pool d → Stays d y t (run t cs).1 ⊎ (T (exists is_revoke cs) × Gone d t (run t cs).1) → Stays d x s (run t cs).1 ⊎ (T (exists is_revoke (c ∷ cs)) × Gone d s (run t cs).1)
    then y f h (inl (v, j, g, l)) = inl (v, j, g ∙ f, l ∙ h)
    then y f h (inr (r, g)) = inr (or_r (is_revoke c) (exists is_revoke cs) r, omega (arith, g, ap (λ (m : Handle). m.generation) h))

    first : Stays d x s t ⊎ (T (is_revoke c) × Gone d s t) → ((y : Domain) → In t.domains d y → y.interface.frozen ≡ true → Stays d y t (run t cs).1 ⊎ (T (exists is_revoke cs) × Gone d t (run t cs).1)) → Stays d x s (run t cs).1 ⊎ (T (exists is_revoke (c ∷ cs)) × Gone d s (run t cs).1)
    first (inl (y, i, f, h)) on = then y f h (on y i (ap (λ (w : Interface). w.frozen) f ∙ z))
    first (inr (r, g)) on = inr (or_l (is_revoke c) (exists is_revoke cs) r, omega (arith, g, run-rises t cs sound u.1 q.1 d))

-- as long as the domain lives
pub freeze-holds-live : FreezeHoldsLive
freeze-holds-live s cs k u q d x e z l = go (freeze-holds-run s cs k u q d x e z)
  where
    go : Stays d x s (run s cs).1 ⊎ (T (exists is_revoke cs) × Gone d s (run s cs).1) → Stays d x s (run s cs).1
    go (inl v) = v
    go (inr (r, g)) = let m = eqb→eq (get_or (run s cs).1.domain_pool.gens d 0) (get_or s.domain_pool.gens d 0) (search and_r) in absurd (omega (arith, g, m))
