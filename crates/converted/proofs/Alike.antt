-- Two states that are the same but for the marks of queued domains, and that the steps on lists, the ring, trackers and regions do the same there.
-- The second state is the first with another queue, so that all but the queue is the same as it stands.
use Rattle.std.specs.Prelude.{◌≡◌, refl, ℕ, suc, not, ◌||◌, List, [], ◌∷◌, ◌++◌, map, eqb, ltb, length, if◌then◌else◌}
use Rattle.std.proofs.Common.{sym, ap, subst, ◌∙◌}
use Rattle.std.proofs.Math.Option.{Option, none, some}
use Rattle.std.proofs.lemmas.List.{length-map}
use Rattle.refusals.specs.Refusals.{no_local, ring_full}
use Rattle.model.specs.Lists.{is_empty, exists}
use Rattle.model.specs.Outcome.{Outcome, ok, ◌>>=◌, require}
use Rattle.model.specs.State.{State, Handle, Capa, no_capa, region, region_revoke, management, channel, LocalList, Kind, Access, SendOptions, Update, permission, cleanup, Queue, with_queue, with_tracker, with_record_pool, with_owner, with_locals, domain_at, region_at, put_domain, put_region}
use Rattle.model.specs.Pool.{handle_of}
use Rattle.model.specs.Locals.{is_invalid, invalid_slots, free_locals, free_invalid_capas, has_capacity, insert_capa}
use Rattle.model.specs.Updates.{is_permission_of, gather, push, push_permission}
use Rattle.model.specs.Tracker.{Walk}
use Rattle.model.specs.Tree.{Range, effective_ranges}
use Rattle.model.specs.Regions.{put_walk, activate, deactivate, new_region, send_ranges, send_region, apply_options}
use Rattle.interface.proofs.Outcomes.{Both, accepted, bind, bind-same, and_same, branch}
use Rattle.converted.specs.Marked.{mark_all}

-- ---- the same but for marks

abbrev pub SameQueue : Queue → Queue → Type 0
SameQueue q r = (q.read_place ≡ r.read_place) × (map mark_all q.items ≡ map mark_all r.items)

abbrev pub Alike : State → State → Type 0
Alike s t = (q : Queue) × SameQueue s.queue q × (t ≡ with_queue q s)

-- beside an answer
abbrev pub Alike₁ : {A : Type 0} → A × State → A × State → Type 0
Alike₁ x y = (q : Queue) × SameQueue x.1.queue q × (y ≡ (x.0, with_queue q x.1))

-- a step that does the same
abbrev pub Same : (State → Outcome State) → Type 0
Same f = (s : State) (q : Queue) → SameQueue s.queue q → Both Alike (f s) (f (with_queue q s))

abbrev pub Same₁ : {A : Type 0} → (State → Outcome (A × State)) → Type 0
Same₁ f = (s : State) (q : Queue) → SameQueue s.queue q → Both Alike₁ (f s) (f (with_queue q s))

-- one after the other
pub bind-alike : {B : Type 0} {Q : B → B → Type 0} {m n : Outcome State} {f : State → Outcome B} (g : State → Outcome B) → Both Alike m n → ((s : State) (q : Queue) → SameQueue s.queue q → Both Q (f s) (g (with_queue q s))) → Both Q (m >>= f) (n >>= g)
bind-alike {Q = Q} {f = f} g h k = bind h (λ a b (q, e, p). subst (λ c. Both Q (f a) (g c)) (sym p) (k a q e))

pub bind-alike₁ : {A B : Type 0} {Q : B → B → Type 0} {m n : Outcome (A × State)} {f : A × State → Outcome B} (g : A × State → Outcome B) → Both Alike₁ m n → ((a : A × State) (q : Queue) → SameQueue a.1.queue q → Both Q (f a) (g (a.0, with_queue q a.1))) → Both Q (m >>= f) (n >>= g)
bind-alike₁ {Q = Q} {f = f} g h k = bind h (λ a b (q, e, p). subst (λ c. Both Q (f a) (g c)) (sym p) (k a q e))

-- ---- capability lists

invalid-same : (s : State) (q : Queue) (c : Capa) → is_invalid (with_queue q s) c ≡ is_invalid s c
invalid-same s q no_capa = refl
invalid-same s q (region h) = refl
invalid-same s q (region_revoke h) = refl
invalid-same s q (management h) = refl
invalid-same s q (channel h) = refl

slots_same : (s : State) (q : Queue) (i : ℕ) (l : List (Option Capa)) → invalid_slots (with_queue q s) i l ≡ invalid_slots s i l
slots_same s q i [] = refl
slots_same s q i (none ∷ l) = slots_same s q (suc i) l
slots_same s q i (some c ∷ l) = λ j. if invalid-same s q c j then i ∷ slots_same s q (suc i) l j else slots_same s q (suc i) l j

-- the list that `has_capacity` puts back; used only in proofs
abbrev swept : State → LocalList → LocalList
swept s l = if is_empty l.free then free_invalid_capas s l else l

swept_same : (s : State) (q : Queue) (l : LocalList) → swept (with_queue q s) l ≡ swept s l
unfolding free_invalid_capas
swept_same s q l = ap (λ is. if is_empty l.free then free_locals is l else l) (slots_same s q 0 l.held)

pub capacity-alike : (d : ℕ) → Same (has_capacity d)
unfolding has_capacity
capacity-alike d s q e =
    let new = swept_same s q (domain_at s d).locals in
    and_same (ap (λ (l : LocalList). require (not (is_empty l.free)) no_local) new) (accepted (q, e, ap (λ l. with_queue q (put_domain d (with_locals l (domain_at s d)) s)) new))

pub insert-alike : (d : ℕ) (c : Capa) → Same₁ (insert_capa d c)
unfolding insert_capa
insert-alike d c s q e = bind-same refl (λ (i, l). accepted (q, e, refl))

-- ---- the ring

same_length_lem : (l m : List Update) → map mark_all l ≡ map mark_all m → length m ≡ length l
same_length_lem l m e = sym (length-map m mark_all) ∙ ap length (sym e) ∙ length-map l mark_all

queued-same : (h : Handle) (l : List Update) → exists (is_permission_of h) (map mark_all l) ≡ exists (is_permission_of h) l
queued-same h [] = refl
queued-same h (permission k cores m ∷ l) = ap (λ b. is_permission_of h (permission k cores m) || b) (queued-same h l)
queued-same h (cleanup a b ∷ l) = queued-same h l

end_marked : (l : List Update) (u : Update) → map mark_all (l ++ (u ∷ [])) ≡ map mark_all l ++ (mark_all u ∷ [])
end_marked [] u = refl
end_marked (v ∷ l) u = ap (λ m. mark_all v ∷ m) (end_marked l u)

gather-marked : (h : Handle) (m : ℕ) (l : List Update) → map mark_all (map (gather h m) l) ≡ map mark_all l
gather-marked h m [] = refl
gather-marked h m (permission k cores n ∷ l) = ap (λ r. mark_all (permission k cores n) ∷ r) (gather-marked h m l)
gather-marked h m (cleanup a b ∷ l) = ap (λ r. cleanup a b ∷ r) (gather-marked h m l)

pub push-alike : (u : Update) → Same (push u)
unfolding push
push-alike u s q e =
    and_same (ap (λ n. require (ltb n s.sizes.updates) ring_full) (same_length_lem s.queue.items q.items e.1))
    (accepted (_, (e.0, end_marked s.queue.items u ∙ ap (λ l. l ++ (mark_all u ∷ [])) e.1 ∙ sym (end_marked q.items u)), refl))

permission-alike : (d m : ℕ) → Same (push_permission d m)
unfolding push_permission
permission-alike d m s q e =
    let h = handle_of s.domain_pool d in
    let items = s.queue.items in
    let queued : exists (is_permission_of h) items ≡ exists (is_permission_of h) q.items = sym (queued-same h items) ∙ ap (exists (is_permission_of h)) e.1 ∙ queued-same h q.items in
    subst (λ b. Both Alike (push_permission d m s) (if b then ok (with_queue (record { read_place = q.read_place; items = map (gather h m) q.items }) s) else push (permission h (domain_at s d).cores m) (with_queue q s))) queued
    (branch (exists (is_permission_of h) items) (accepted (_, (e.0, gather-marked h m items ∙ e.1 ∙ sym (gather-marked h m q.items)), refl)) (push-alike _ s q e))

-- ---- trackers

walk-alike : (closing : List ℕ) → (d : ℕ) (w : Walk) → Same (put_walk closing d w)
unfolding put_walk
walk-alike closing d w s q e = branch (exists (eqb d) closing || eqb w.marks 0) (accepted (q, e, refl)) (permission-alike d w.marks (with_record_pool w.pool (put_domain d (with_tracker w.records (domain_at s d)) s)) q e)

pub activate-alike : (closing : List ℕ) → (d : ℕ) (a : Access) → Same (activate closing d a)
unfolding activate
activate-alike closing d a s q e = bind-same refl (λ w. walk-alike closing d w s q e)

pub deactivate-alike : (closing : List ℕ) → (d : ℕ) (a : Access) → Same (deactivate closing d a)
unfolding deactivate
deactivate-alike closing d a s q e = bind-same refl (λ w. walk-alike closing d w s q e)

-- ---- a region comes, is sent, and goes

pub new-alike : (d : ℕ) (k : Kind) (a : Access) → Same₁ (new_region d k a)
unfolding new_region
new-alike d k a s q e = bind-same refl (λ x. accepted (q, e, refl))

ranges-alike : (old new r : ℕ) (xs : List Range) → Same (send_ranges old new r xs)
unfolding send_ranges
ranges-alike old new r [] s q e = accepted (q, e, refl)
ranges-alike old new r (x ∷ xs) s q e =
    bind-alike _ (deactivate-alike [] old _ s q e) (λ s₁ q₁ e₁.
    bind-alike _ (activate-alike [] new _ s₁ q₁ e₁) (λ s₂ q₂ e₂.
    ranges-alike old new r xs s₂ q₂ e₂))

pub send-region-alike : (i new : ℕ) → Same (send_region i new)
unfolding send_region
send-region-alike i new s q e = let g = region_at s i in ranges-alike g.owner new g.rights (effective_ranges s g) (put_region i (with_owner new g) s) q e

pub options-alike : (i : ℕ) (o : SendOptions) (s : State) (q : Queue) → apply_options i o (with_queue q s) ≡ with_queue q (apply_options i o s)
unfolding apply_options
options-alike i o s q = go o.flags
  where
    go : (x : Option ℕ) → apply_options i (record { flags = x; hash = o.hash }) (with_queue q s) ≡ with_queue q (apply_options i (record { flags = x; hash = o.hash }) s)
    go none = refl
    go (some f) = refl

pub options-queue : (i : ℕ) (o : SendOptions) (s : State) → (apply_options i o s).queue ≡ s.queue
unfolding apply_options
options-queue i o s = go o.flags
  where
    go : (x : Option ℕ) → (apply_options i (record { flags = x; hash = o.hash }) s).queue ≡ s.queue
    go none = refl
    go (some f) = refl
