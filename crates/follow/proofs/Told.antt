-- The calls that tell the writer something keep `Tracks` of what is seen after them: a making leaves nothing stored and nothing seen, an opening voids
-- what was seen of a slot whose tracker is empty, and a pop takes an update out of the queue and reads the counts that it marks, if its domain is live.
use Rattle.std.specs.Prelude.{◌≡◌, refl, ◌⊎◌, ◌≢◌, ℕ, zero, suc, ◌+◌, ◌%◌, Bool, true, false, not, ◌&&◌, ◌||◌, T, eqb, ltb, get_or, set, replicate, if◌then◌else◌}
use Rattle.std.proofs.Common.{sym, subst, ◌∙◌, inl, inr, arith, eqb→eq, T_not, get_or-set_other, eq-eqb, ne_eqb}
use Rattle.std.proofs.Math.Option
use Rattle.std.proofs.Math.Option.{Option, none, some}
use mathlib.Core.List.{List, [], ◌∷◌}
use Rattle.std.proofs.Math.Decide.{ℕ_discrete}
use Rattle.std.specs.Float.Ieee.Fits.{and_l, and_r, and_i}
use Rattle.base.specs.Cases.{holds, fails, test}
use Rattle.base.specs.Tests.{true-is, false-is}
use Rattle.model.specs.Lists.{is_some, exists, at_slot}
use Rattle.refusals.specs.declared.Refusal.{Refusal}
use Rattle.model.specs.State.{State, Sizes, Handle, Pool, Domain, LocalList, Record, Update, permission, cleanup, none_domain, none_region, domain_at, put_domain, with_locals, with_queue, with_domains}
use Rattle.model.specs.Fields.{Field, is_marked}
use Rattle.model.specs.Pool.{allocate, handle_of, same_handle, is_live}
use Rattle.model.specs.Updates.{pop}
use Rattle.model.specs.Tracker.{no_counts}
use Rattle.model.specs.Counts.{stored_counts}
use Rattle.model.specs.Making.{make_tables, make_in}
use Rattle.model.specs.Calls.{new_domain, open_domain}
use Rattle.model.specs.Perform.{popped}
use Rattle.laws.specs.Accepted.{All, accepted, refused, bind, weaken, and_then}
use Rattle.laws.specs.Tracker.Form.{Form}
use Rattle.laws.specs.Tree.Slots.{is_live_lem}
use Rattle.laws.specs.Keep.BaseSteps.{Live}
use Rattle.laws.specs.Keep.Checks.{domain-live}
use Rattle.laws.specs.Keep.Locals.{insert_all, capacity-all}
use Rattle.follow.specs.Writer.{Seen, nothing, reads, voids, notices, is_permission_with, is_queued_with}
use Rattle.follow.proofs.Quiet.{Count, count, teller, count_none}
use Rattle.follow.proofs.Steps.{seen, Fits, QueuedOrExact, Proper, Tracks, tracks-fewer, domain-tracks}

-- ---- an empty tracker, and nothing seen

above-none : (x : Count) → ltb 0 (count x no_counts) ≡ false
above-none x = rw (count_none x)

nothing_seen : (d : ℕ) (x : Count) → Fits nothing d x []
nothing_seen d (Count.Of f) a = above-none (Count.Of f)
nothing_seen d Count.Uncacheable a = refl

-- where the same was seen of the count
seen_as : (v w : Seen) (d : ℕ) (x : Count) (q : Field → Bool) (l : List Record) → ((a : ℕ) → seen x w d a ≡ seen x v d a) → QueuedOrExact v d x q l → QueuedOrExact w d x q l
seen_as v w d x q l e (inl t) = inl t
seen_as v w d x q l e (inr h) = inr (λ a. h a ∙ sym (e a))

pub empty-form : Form []
empty-form = record { rising = tt; merged = tt; reached = tt; uncacheable = tt }

-- ---- making

replicate-reads : {A : Type 0} (P : Option A → Type 0) (n d : ℕ) → P none → P (at_slot (replicate n none) d)
replicate-reads P zero d h = h
replicate-reads P (suc n) zero h = h
replicate-reads P (suc n) (suc d) h = replicate-reads P n d h

make-every : (z : Sizes) → All (Tracks (λ d. Unit {0}) nothing) (make_tables z)
unfolding make_tables
make-every z = and_then _ (accepted (record {
  form = λ d. replicate-reads (λ o. Form (Option.get_or o none_domain).tracker) z.domains d empty-form;
  ranges = λ i. replicate-reads (λ o. Proper (Option.get_or o none_region)) z.regions i (λ w. absurd (omega arith), λ w. absurd w);
  queued_or_exact = λ d c x. replicate-reads (λ o. QueuedOrExact nothing d x (λ f. false) (Option.get_or o none_domain).tracker) z.domains d (inr (nothing_seen d x));
}))

pub make-tracks : (z : Sizes) → All (λ t. Tracks (Live t) nothing t) (make_tables z)
make-tracks z = weaken (make-every z) (λ t h. tracks-fewer (λ d. Unit {0}) (Live t) nothing t (λ d l. tt) h)

pub make-in-tracks : (n m : ℕ) (z : Sizes) → All (λ t. Tracks (Live t) nothing t) (make_in n m z)
unfolding make_in
make-in-tracks n m z = bind (make-tracks z) (λ t h. and_then _ (accepted h))

-- ---- opening

seen-voids : (v : Seen) (d k : ℕ) (x : Count) (a : ℕ) → seen x (voids d v) k a ≡ (if eqb k d then false else seen x v k a)
seen-voids v d k (Count.Of f) a = refl
seen-voids v d k Count.Uncacheable a = refl

voids-own : (v : Seen) (d : ℕ) (x : Count) → Fits (voids d v) d x []
voids-own v d x a = rw (seen-voids v d d x a, eq-eqb d d refl) (above-none x)

voids-other : (v : Seen) (d k : ℕ) (x : Count) (q : Field → Bool) (l : List Record) → k ≢ d → QueuedOrExact v k x q l → QueuedOrExact (voids d v) k x q l
voids-other v d k x q l n h = seen_as v (voids d v) k x q l (λ a. rw (seen-voids v d k x a, ne_eqb k d n)) h

-- slot i of a table after it was written holds that, or the table has no such slot
set_own : {A : Type 0} (P : Option A → Type 0) (l : List (Option A)) (i : ℕ) (x : Option A) → P none → P x → P (at_slot (set l i x) i)
set_own P [] i x h k = h
set_own P (y ∷ l) zero x h k = k
set_own P (y ∷ l) (suc i) x h k = set_own P l i x h k

allocate-all : (r : Refusal) (gs fs : List ℕ) (P : ℕ × Pool → Type 0) → ((i : ℕ) (is : List ℕ) → P (i, record { gens = gs; free = is })) → All P (allocate r (record { gens = gs; free = fs }))
unfolding allocate
allocate-all r gs [] P h = refused
allocate-all r gs (i ∷ is) P h = accepted (h i is)

-- live now: the slot that was opened, and those that were
abbrev Opened : State → ℕ → ℕ → Type 0
Opened s i k = (k ≡ i) ⊎ Live s k

abbrev Only : State → ℕ → State → Type 0
Only s i t = (k : ℕ) → Live t k → Opened s i k

module _ (v : Seen) (s : State) (h : Tracks (Live s) v s) where
  own-or-other : (i k : ℕ) → k ≢ i → Opened s i k → Live s k
  own-or-other i k n (inl e) = absurd (n e)
  own-or-other i k n (inr t) = t

  opened-tracks : (i : ℕ) (fs : List ℕ) (y : Domain) → y.tracker ≡ [] → Tracks (Opened s i) (voids i v) (with_domains (record { gens = s.domain_pool.gens; free = fs }) (set s.domains i (some y)) s)
  opened-tracks i fs y e = record {
    form = λ k. elim (ℕ_discrete k i) [
      | yes m ↦ rw m (set_own (λ o. Form (Option.get_or o none_domain).tracker) s.domains i (some y) empty-form (rw e empty-form))
      | no m ↦ rw (get_or-set_other s.domains i k (some y) none m) (h.form k)
    ];
    ranges = h.ranges;
    queued_or_exact = λ k c x. elim (ℕ_discrete k i) [
      | yes m ↦ rw m (set_own (λ o. QueuedOrExact (voids i v) i x (λ f. is_queued_with f s i) (Option.get_or o none_domain).tracker) s.domains i (some y) (inr (voids-own v i x)) (rw e (inr (voids-own v i x))))
      | no m ↦ rw (get_or-set_other s.domains i k (some y) none m) (voids-other v i k x (λ f. is_queued_with f s k) (domain_at s k).tracker m (h.queued_or_exact k (own-or-other i k m c) x))
    ];
  }

  opened-only : (i : ℕ) (p : Pool) (y : Domain) → Only s i (with_domains p (set s.domains i (some y)) s)
  opened-only i p y k t = elim (ℕ_discrete k i) [
    | yes m ↦ inl m
    | no m ↦ inr (rw (get_or-set_other s.domains i k (some y) none m) at t)
  ]

  abbrev After : ℕ → State → Type 0
  After i t = Tracks (Opened s i) (voids i v) t × Only s i t

  -- a live domain is put back with another list
  listed-after : (i m : ℕ) (l : LocalList) (t : State) → Live s m → After i t → After i (put_domain m (with_locals l (domain_at t m)) t)
  listed-after i m l t live (g, o) = (
    domain-tracks (voids i v) t g m _ refl,
    λ k u. elim (ℕ_discrete k m) [
      | yes e ↦ inr (subst (Live s) (sym e) live)
      | no e ↦ o k (rw (get_or-set_other t.domains m k (some (with_locals l (domain_at t m))) none e) at u)
    ],
  )

  domain-new : (m : Option ℕ) (c : ℕ) → All (λ (x : ℕ × State). After x.0 x.1) (new_domain m c s)
  unfolding new_domain
  domain-new m c = bind (allocate-all _ s.domain_pool.gens s.domain_pool.free (λ x. (y : Domain) → y.tracker ≡ [] → After x.0 (with_domains x.1 (set s.domains x.0 (some y)) s)) (λ i is y e. (opened-tracks i is y e, opened-only i (record { gens = s.domain_pool.gens; free = is }) y))) (λ (i, p) k. accepted (k _ refl))

  opened : (i : ℕ) (t : State) → After i t → Tracks (Live t) (voids i v) t
  opened i t (g, o) = tracks-fewer (Opened s i) (Live t) (voids i v) t o g

  pub open-call : (m : Option Handle) (c : ℕ) → All (λ (x : Handle × State). Tracks (Live x.1) (voids x.0.slot v) x.1) (open_domain m c s)
  unfolding open_domain
  open-call none c = bind (domain-new none c) (λ (i, s₁) h₁. accepted (opened i s₁ h₁))
  open-call (some k) c =
      bind (domain-live s k) (λ m (x, e).
      let live = is_live_lem (at_slot s.domains m) x e in
      bind (domain-new (some m) c) (λ (i, s₁) h₁.
      bind (capacity-all m s₁ (After i) (λ l. listed-after i m l s₁ live h₁)) (λ s₂ h₂.
      bind (insert_all m s₂ _ (λ y. After i y.1) (λ n l. listed-after i m l s₂ live h₂)) (λ (l, s₃) h₃. accepted (opened i s₃ h₃)))))

-- ---- pop

seen-reads : (v : Seen) (d : ℕ) (read : Field → Bool) (t : State) (k : ℕ) (x : Count) (a : ℕ) → seen x (reads d read t v) k a ≡ (if eqb k d && read (teller x) then ltb 0 (count x (stored_counts t k a)) else seen x v k a)
seen-reads v d read t k (Count.Of f) a = refl
seen-reads v d read t k Count.Uncacheable a = refl

by-test : (b : Bool) {v w : Seen} (P : Seen → Type 0) → (T b → P v) → (T (not b) → P w) → P (if b then v else w)
by-test true P f g = f tt
by-test false P f g = g tt

-- own: the update names the slot; same: by its present generation. Where it is not read for the field, a queued mark of the field is another update's.
another : (own same mark more others : Bool) → (own && (mark || more)) ≡ false → T (own && same && mark || others) → T others
another false same mark more others e t = t
another true false mark more others e t = t
another true true false more others e t = t
another true true true more others e t = absurd (false-is e tt)

-- the handle of a live domain is live
same_live : (t : State) (d : ℕ) (k : Handle) → Live t d → T (same_handle (handle_of t.domain_pool d) k) → T (is_live t.domain_pool t.domains k)
same_live t d k live q =
    let e : d ≡ k.slot = eqb→eq d k.slot (and_l (eqb d k.slot) _ q) in
    let g : T (eqb (get_or t.domain_pool.gens d 0) k.generation) = and_r (eqb d k.slot) _ q in
    and_i (is_some (at_slot t.domains k.slot)) (eqb (get_or t.domain_pool.gens k.slot 0) k.generation) (subst (Live t) e live) (subst (λ n. T (eqb (get_or t.domain_pool.gens n 0) k.generation)) e g)

module _ (more : Field → Bool) where
  -- the update at the head leaves, and its marks are read
  head_read : (v : Seen) (d : ℕ) (x : Count) (k : Handle) (c m : ℕ) (p : Pool) (us : List Update) (t : State) → QueuedOrExact v d x (λ f. exists (is_permission_with f (handle_of p d)) (permission k c m ∷ us)) (domain_at t d).tracker → QueuedOrExact (reads k.slot (λ f. is_marked f m || more f) t v) d x (λ f. exists (is_permission_with f (handle_of p d)) us) (domain_at t d).tracker
  head_read v d x k c m p us t h =
      let w = reads k.slot (λ f. is_marked f m || more f) t v in
      let now = seen-reads v k.slot (λ f. is_marked f m || more f) t d x in
      elim (test (eqb d k.slot && (is_marked (teller x) m || more (teller x)))) [
        | holds e ↦ inr (λ a. sym (now a ∙ rw e))
        | fails e ↦ seen_as v w d x (λ f. exists (is_permission_with f (handle_of p d)) us) (domain_at t d).tracker (λ a. now a ∙ rw e) (behind e h)
      ]
    where
      behind : (eqb d k.slot && (is_marked (teller x) m || more (teller x))) ≡ false → QueuedOrExact v d x (λ f. exists (is_permission_with f (handle_of p d)) (permission k c m ∷ us)) (domain_at t d).tracker → QueuedOrExact v d x (λ f. exists (is_permission_with f (handle_of p d)) us) (domain_at t d).tracker
      behind e (inl q) = inl (another (eqb d k.slot) (eqb (handle_of p d).generation k.generation) (is_marked (teller x) m) (more (teller x)) (exists (is_permission_with (teller x) (handle_of p d)) us) e q)
      behind e (inr q) = inr q

  -- an update of a dead handle leaves, and nothing is read: it was no update of a live domain
  dead-leaves : (v : Seen) (d : ℕ) (x : Count) (k : Handle) (c m : ℕ) (us : List Update) (t : State) → Live t d → T (not (is_live t.domain_pool t.domains k)) → QueuedOrExact v d x (λ f. exists (is_permission_with f (handle_of t.domain_pool d)) (permission k c m ∷ us)) (domain_at t d).tracker → QueuedOrExact v d x (λ f. exists (is_permission_with f (handle_of t.domain_pool d)) us) (domain_at t d).tracker
  dead-leaves v d x k c m us t live dead (inl q) = inl (elim (test (same_handle (handle_of t.domain_pool d) k)) [
    | holds e ↦ absurd (T_not (is_live t.domain_pool t.domains k) dead (same_live t d k live (true-is e)))
    | fails e ↦ rw e at q
  ])
  dead-leaves v d x k c m us t live dead (inr q) = inr q

  pub pop-go : (v : Seen) (s : State) (f : ℕ) (us : List Update) → Tracks (Live s) v (with_queue (record { read_place = f; items = us }) s) → let x = pop (with_queue (record { read_place = f; items = us }) s) in Tracks (Live x.1) (notices more v (popped x.0) x.1) x.1
  unfolding pop
  pop-go v s f [] h = h
  pop-go v s f (permission k c m ∷ us) h =
      let t = with_queue (record { read_place = (f + 1) % (s.sizes.updates + 1); items = us }) s in
      by-test (is_live s.domain_pool s.domains k) (λ w. Tracks (Live s) w t)
      (λ live. record { form = h.form; ranges = h.ranges; queued_or_exact = λ d e x. head_read v d x k c m s.domain_pool us t (h.queued_or_exact d e x) })
      (λ dead. record { form = h.form; ranges = h.ranges; queued_or_exact = λ d e x. dead-leaves v d x k c m us t e dead (h.queued_or_exact d e x) })
  pop-go v s f (cleanup a b ∷ us) h = record { form = h.form; ranges = h.ranges; queued_or_exact = h.queued_or_exact }
