-- Whose handle lives after a call that is no making lived before it, or was opened by it; and whoever was opened owns no live region yet.
use Rattle.std.specs.Prelude.{◌≡◌, ◌≢◌, ℕ, Bool, true, false, ◌∷◌, T, eqb, ltb, get_or}
use Rattle.std.proofs.Math.Path.{refl, ap}
use Rattle.std.proofs.Common.{sym, subst, ◌∙◌, arith, eq-eqb, ne_eqb}
use Rattle.std.proofs.Math.Option.{Option, none, some}
use Rattle.std.proofs.Math.Decide.{ℕ_discrete}
use Rattle.std.specs.Float.Ieee.Fits.{and_l, and_r, and_i}
use Rattle.refusals.specs.Refusals.{no_domain_room}
use Rattle.model.specs.Outcome.{Outcome, ok, refuse}
use Rattle.model.specs.Lists.{one_if, is_some, count_if, at_slot, In}
use Rattle.model.specs.State.{State, Sizes, Pool, Handle, Capa, Domain, Region}
use Rattle.model.specs.Pool.{is_live}
use Rattle.model.specs.Locals.{has_capacity, insert_capa}
use Rattle.model.specs.Calls.{new_domain, open_domain, set_interface, freeze_interface}
use Rattle.model.specs.Perform.{Call, Value, perform_step, perform, after, step}
use Rattle.model.specs.CallWords.{CallWords}
use Rattle.model.specs.Sound.{Sound}
use Rattle.model.specs.Memory.{NotMake}
use Rattle.laws.specs.Accepted.{All, accepted, bind, bind-any, and_then, both, weaken}
use Rattle.laws.specs.Stack.{one_at_most}
use Rattle.laws.specs.Tree.Slots.{is_live_lem}
use Rattle.laws.specs.Capas.NewDomain.{taken}
use Rattle.laws.specs.Interfaces.{InterfaceCase, making, opening, setting, freezing, revoking, keeping, interface-case}
use Rattle.laws.specs.Close.Interfaces.{StaysOrCloses, stays, closes, KeepsOrCloses, revoke-interfaces}
use Rattle.laws.specs.SoundKept.{sound-kept}

-- Handle h, which lives in t, lived in s; or no live region of t is that domain's.
pub data Lived (s t : State) (h : Handle) : Type 0 where
  before : T (is_live s.domain_pool s.domains h) → Lived s t h
  opened : ((i : ℕ) (g : Region) → In t.regions i g → g.owner ≢ h.slot) → Lived s t h

abbrev pub AllLived : State → State → Type 0
AllLived s t = (h : Handle) → T (is_live t.domain_pool t.domains h) → Lived s t h

-- ---- by the pools of sound tables

one_same : (b c : Bool) → one_if b ≡ one_if c → b ≡ c
one_same true true e = refl
one_same true false e = absurd (omega arith)
one_same false true e = absurd (omega arith)
one_same false false e = refl

module _ (s t : State) (k : Sound s) (m : Sound t) (z : t.sizes ≡ s.sizes) (g : t.domain_pool.gens ≡ s.domain_pool.gens) (h : Handle) (l : T (is_live t.domain_pool t.domains h)) where
  -- as often free in t as in s
  was-live : count_if (eqb h.slot) t.domain_pool.free ≡ count_if (eqb h.slot) s.domain_pool.free → T (is_live s.domain_pool s.domains h)
  was-live e =
      let used : is_some (at_slot t.domains h.slot) ≡ is_some (at_slot s.domains h.slot) = one_same _ _ (omega (arith, e, k.outside.domain_pool.once h.slot, m.outside.domain_pool.once h.slot, ap (λ (n : Sizes). one_if (ltb h.slot n.domains)) z)) in
      let there = and_l (is_some (at_slot t.domains h.slot)) (eqb (get_or t.domain_pool.gens h.slot 0) h.generation) l in
      let same = and_r (is_some (at_slot t.domains h.slot)) (eqb (get_or t.domain_pool.gens h.slot 0) h.generation) l in
      and_i (is_some (at_slot s.domains h.slot)) (eqb (get_or s.domain_pool.gens h.slot 0) h.generation) (subst T used there) (subst (λ n. T (eqb (get_or n h.slot 0) h.generation)) g same)

  -- slot i, the first free one, was taken, and the regions are those of s
  taken-lived : (i : ℕ) → s.domain_pool.free ≡ i ∷ t.domain_pool.free → t.regions ≡ s.regions → Lived s t h
  taken-lived i f r = elim (ℕ_discrete h.slot i) [
    | yes o ↦ opened (λ j w e q. omega (arith, k.outside.domain_pool.once i, ap (count_if (eqb i)) f, ap one_if (eq-eqb i i refl), one_at_most (ltb i s.sizes.domains), ap (λ n. one_if (is_some (at_slot s.domains n))) (q ∙ o), alive j w e))
    | no o ↦ before (was-live (omega (arith, ap (count_if (eqb h.slot)) f, ap one_if (ne_eqb h.slot i o))))
  ]
    where
      live-one : (b : Bool) → T b → one_if b ≡ 1
      live-one true u = refl
      live-one false u = absurd u

      alive : (j : ℕ) (w : Region) → In t.regions j w → one_if (is_some (at_slot s.domains w.owner)) ≡ 1
      alive j w e = live-one (is_some (at_slot s.domains w.owner)) (k.outside.owners j w (subst (λ rs. In rs j w) r e)).owner_live

-- ---- the calls

module _ (s : State) (k : Sound s) where
  same-lived : (t : State) → t.sizes ≡ s.sizes → t.domain_pool ≡ s.domain_pool → Sound t → AllLived s t
  same-lived t z p m h l = before (was-live s t k m z (ap (λ (q : Pool). q.gens) p) h l (ap (λ (q : Pool). count_if (eqb h.slot) q.free) p))

  set_same : (h : Handle) (word : ℕ) → All (λ t. Sound t → AllLived s t) (set_interface h word s)
  unfolding set_interface
  set_same h word = bind-any _ (λ e. and_then _ (accepted (λ m. same-lived _ refl refl m)))

  freeze-same : (h : Handle) → All (λ t. Sound t → AllLived s t) (freeze_interface h s)
  unfolding freeze_interface
  freeze-same h = bind-any _ (λ e. accepted (λ m. same-lived _ refl refl m))

  -- a revoke opens nobody
  module _ (t : State) (q : KeepsOrCloses s t) (h : Handle) (l : T (is_live t.domain_pool t.domains h)) where
    there : T (is_some (at_slot t.domains h.slot))
    there = and_l (is_some (at_slot t.domains h.slot)) (eqb (get_or t.domain_pool.gens h.slot 0) h.generation) l

    not_free : at_slot t.domains h.slot ≡ none → ⊥
    not_free n = subst (λ (o : Option Domain). T (is_some o)) n there

    stayed : (x : Domain) → In s.domains h.slot x → StaysOrCloses s t h.slot x → T (is_live s.domain_pool s.domains h)
    stayed x e (stays y j f o) = and_i (is_some (at_slot s.domains h.slot)) (eqb (get_or s.domain_pool.gens h.slot 0) h.generation) (is_live_lem (at_slot s.domains h.slot) x e)
        (subst (λ (n : Handle). T (eqb n.generation h.generation)) o (and_r (is_some (at_slot t.domains h.slot)) (eqb (get_or t.domain_pool.gens h.slot 0) h.generation) l))
    stayed x e (closes n g) = absurd (not_free n)

    kept-lived : (o : Option Domain) → at_slot s.domains h.slot ≡ o → Lived s t h
    kept-lived none e = absurd (not_free (q.vacant h.slot e))
    kept-lived (some x) e = before (stayed x e (q.domains h.slot x e))

  -- an opening takes the first free slot
  record Opened (t : State) : Type 0 where
    slot : ℕ
    sizes : t.sizes ≡ s.sizes
    gens : t.domain_pool.gens ≡ s.domain_pool.gens
    free : s.domain_pool.free ≡ slot ∷ t.domain_pool.free
    regions : t.regions ≡ s.regions

  opened-lived : (t : State) → Opened t → Sound t → AllLived s t
  opened-lived t o m h l = taken-lived s t k m o.sizes o.gens h l o.slot o.free o.regions

  new-opened : (m : Option ℕ) (cores : ℕ) → All (λ x. Opened x.1) (new_domain m cores s)
  unfolding new_domain
  new-opened m cores = bind (taken no_domain_room s.domain_pool) (λ (i, p) v. accepted (record { slot = i; sizes = refl; gens = ap (λ (q : Pool). q.gens) v.is; free = v.was_next ∙ ap (λ (q : Pool). i ∷ q.free) (sym v.is); regions = refl }))

  -- a list written changes none of this
  room-opened : (d : ℕ) (t : State) → Opened t → All Opened (has_capacity d t)
  unfolding has_capacity
  room-opened d t o = and_then _ (accepted (record { slot = o.slot; sizes = o.sizes; gens = o.gens; free = o.free; regions = o.regions }))

  insert-opened : (d : ℕ) (c : Capa) (t : State) → Opened t → All (λ x. Opened x.1) (insert_capa d c t)
  unfolding insert_capa
  insert-opened d c t o = bind-any _ (λ x. accepted (record { slot = o.slot; sizes = o.sizes; gens = o.gens; free = o.free; regions = o.regions }))

  open-opened : (m : Option Handle) (cores : ℕ) → All (λ x. Opened x.1) (open_domain m cores s)
  unfolding open_domain
  open-opened none cores = bind (new-opened none cores) (λ x o. accepted o)
  open-opened (some h) cores =
      bind-any _ (λ m.
      bind (new-opened (some m) cores) (λ x o.
      bind (room-opened m x.1 o) (λ s₂ p.
      bind (insert-opened m _ s₂ p) (λ y q. accepted q))))

  perform-lived : (c : Call) → NotMake c → InterfaceCase s c → All (λ y. Sound y.1 → AllLived s y.1) (perform s c)
  unfolding perform perform_step
  perform-lived c q (making z) = absurd q
  perform-lived c q (opening m cores) = bind (open-opened m cores) (λ x o. accepted (opened-lived x.1 o))
  perform-lived c q (setting h word) = bind (set_same h word) (λ t f. accepted f)
  perform-lived c q (freezing h) = bind (freeze-same h) (λ t f. accepted f)
  perform-lived c q (revoking h l) = bind (revoke-interfaces s k h l) (λ t f. accepted (λ m n u. kept-lived t f n u (at_slot s.domains n.slot) refl))
  perform-lived c q (keeping _ l) = weaken l (λ y v m. same-lived y.1 v.sizes v.domain_pool m)

  all-lived : (c : Call) → NotMake c → CallWords c → All (λ y. AllLived s y.1) (perform s c)
  all-lived c q u = weaken (both (sound-kept s c k u) (perform-lived c q (interface-case s c))) (λ y (m, f). f m)

  -- a refused call leaves the state
  after-lived : (m : Outcome (Value × State)) → All (λ y. AllLived s y.1) m → AllLived s (after s m).1
  after-lived (ok y) (accepted f) = f
  after-lived (refuse r) f = λ h l. before l

  -- THEOREM
  pub step-lived : (c : Call) → NotMake c → CallWords c → AllLived s (step s c).1
  unfolding step
  step-lived c q u = after-lived (perform s c) (all-lived c q u)
