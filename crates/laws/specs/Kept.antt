-- A law: no step changes the sizes or the length of a table. The calls follow in KeptCalls.
use Rattle.std.specs.Prelude.{◌≡◌, refl, ℕ, zero, suc, List, [], ◌∷◌, ◌||◌, eqb, length}
use Rattle.std.proofs.Common.{◌∙◌, length-set}
use Rattle.std.proofs.Math.Option.{Option, none, some}
use Rattle.model.specs.Lists.{exists}
use Rattle.rights.specs.Rights.{has, CLEANUP}
use Rattle.model.specs.Outcome.{Outcome}
use Rattle.refusals.specs.declared.Refusal.{Refusal}
use Rattle.laws.specs.Accepted.{All, accepted, refused, bind, bind-any, and_then, branch, weaken}
use Rattle.laws.specs.Tracker.Slots.{gain-slots, lose-slots}
use Rattle.model.specs.State.{State, Pool, Capa, Domain, Region, Kind, Root, Alias, Carve, Access, Record, Update, SendOptions, Queue, with_queue, with_record_pool, with_tracker, put_domain, put_region, domain_at, region_at}
use Rattle.model.specs.Pool.{allocate, free, handle_of}
use Rattle.model.specs.Locals.{has_capacity, insert_capa, remove_capa, empty_capa}
use Rattle.model.specs.Updates.{is_permission_of, push, push_permission}
use Rattle.model.specs.Tracker.{Walk, gain, lose}
use Rattle.model.specs.Tree.{Range, remove_child}
use Rattle.model.specs.Regions.{put_walk, activate, deactivate, new_region, free_region, send_ranges, send_region, apply_options, give_back, leave_parent, revoke_leaf, revoke_region}

-- ---- pools

-- as many generations; in a result, behind another thing, or in a walk
abbrev pub SamePool : Pool → Pool → Type 0
SamePool p q = length q.gens ≡ length p.gens

abbrev Same₁ : {A : Type 0} → Pool → A × Pool → Type 0
Same₁ p x = SamePool p x.1

pub allocate-same : (r : Refusal) (gs fs : List ℕ) → All (Same₁ (record { gens = gs; free = fs })) (allocate r (record { gens = gs; free = fs }))
unfolding allocate
allocate-same r gs [] = refused
allocate-same r gs (i ∷ is) = accepted refl

pub free-same : (i : ℕ) (p : Pool) → All (SamePool p) (free i p)
unfolding free
free-same i p = and_then _ (accepted (length-set p.gens i _))

-- ---- the tracker keeps the record pool's length

abbrev PoolOf : Pool → Walk → Type 0
PoolOf p w = SamePool p w.pool

gain-same : (r s e : ℕ) (l : List Record) (p : Pool) → All (PoolOf p) (gain r s e l p)
gain-same r s e l p = weaken (gain-slots r s e l p) (λ w h. h.gens_length)

lose-same : (r s e : ℕ) (l : List Record) (p : Pool) → All (PoolOf p) (lose r s e l p)
lose-same r s e l p = weaken (lose-slots r s e l p) (λ w h. h.gens_length)

-- ---- the whole state

pub record Kept (s t : State) : Type 0 where
  pub sizes : t.sizes ≡ s.sizes
  pub domains : length t.domains ≡ length s.domains
  pub regions : length t.regions ≡ length s.regions
  pub domain_gens : SamePool s.domain_pool t.domain_pool
  pub region_gens : SamePool s.region_pool t.region_pool
  pub record_gens : SamePool s.record_pool t.record_pool

pub same : (s : State) → Kept s s
same s = record { sizes = refl; domains = refl; regions = refl; domain_gens = refl; region_gens = refl; record_gens = refl }

pub trans : (s t u : State) → Kept t u → Kept s t → Kept s u
trans s t u k j = record { sizes = k.sizes ∙ j.sizes; domains = k.domains ∙ j.domains; regions = k.regions ∙ j.regions; domain_gens = k.domain_gens ∙ j.domain_gens; region_gens = k.region_gens ∙ j.region_gens; record_gens = k.record_gens ∙ j.record_gens }

abbrev pub Kept₁ : {A : Type 0} → State → A × State → Type 0
Kept₁ s x = Kept s x.1

pub put-domain : (d : ℕ) (x : Domain) (s : State) → Kept s (put_domain d x s)
put-domain d x s = record { sizes = refl; domains = length-set s.domains d (some x); regions = refl; domain_gens = refl; region_gens = refl; record_gens = refl }

pub put-region : (i : ℕ) (x : Region) (s : State) → Kept s (put_region i x s)
put-region i x s = record { sizes = refl; domains = refl; regions = length-set s.regions i (some x); domain_gens = refl; region_gens = refl; record_gens = refl }

pub capacity-kept : (d : ℕ) (s : State) → All (Kept s) (has_capacity d s)
unfolding has_capacity
capacity-kept d s = and_then _ (accepted (put-domain d _ s))

pub insert-kept : (d : ℕ) (c : Capa) (s : State) → All (Kept₁ s) (insert_capa d c s)
unfolding insert_capa
insert-kept d c s = bind-any _ (λ x. accepted (put-domain d _ s))

pub remove-kept : (d i : ℕ) (s : State) → Kept s (remove_capa d i s)
unfolding remove_capa
remove-kept d i s = put-domain d _ s

pub empty-kept : (d i : ℕ) (s : State) → Kept s (empty_capa d i s)
unfolding empty_capa
empty-kept d i s = put-domain d _ s

queue-kept : (q : Queue) (s : State) → Kept s (with_queue q s)
queue-kept q s = record { sizes = refl; domains = refl; regions = refl; domain_gens = refl; region_gens = refl; record_gens = refl }

push_kept : (u : Update) (s : State) → All (Kept s) (push u s)
unfolding push
push_kept u s = and_then _ (accepted (queue-kept _ s))

permission-kept : (d m : ℕ) (s : State) → All (Kept s) (push_permission d m s)
unfolding push_permission
permission-kept d m s = branch (exists (is_permission_of (handle_of s.domain_pool d)) s.queue.items) (accepted (queue-kept _ s)) (push_kept _ s)

walk_kept : (closing : List ℕ) → (d : ℕ) (w : Walk) (s : State) → PoolOf s.record_pool w → All (Kept s) (put_walk closing d w s)
unfolding put_walk
walk_kept closing d w s h =
    let s₁ = with_record_pool w.pool (put_domain d (with_tracker w.records (domain_at s d)) s) in
    let k : Kept s s₁ = record { sizes = refl; domains = length-set s.domains d _; regions = refl; domain_gens = refl; region_gens = refl; record_gens = h } in
    branch (exists (eqb d) closing || eqb w.marks 0) (accepted k) (weaken (permission-kept d _ s₁) (λ t j. trans s s₁ t j k))

pub activate-kept : (closing : List ℕ) → (d : ℕ) (a : Access) (s : State) → All (Kept s) (activate closing d a s)
unfolding activate
activate-kept closing d a s = bind (gain-same _ _ _ _ s.record_pool) (λ w h. walk_kept closing d w s h)

pub deactivate-kept : (closing : List ℕ) → (d : ℕ) (a : Access) (s : State) → All (Kept s) (deactivate closing d a s)
unfolding deactivate
deactivate-kept closing d a s = bind (lose-same _ _ _ _ s.record_pool) (λ w h. walk_kept closing d w s h)

-- first one step, then another
pub and_so : {s t : State} {m : Outcome State} → Kept s t → All (Kept t) m → All (Kept s) m
and_so {s} {t} k h = weaken h (λ u j. trans s t u j k)

pub and-so₁ : {A : Type 0} {s t : State} {m : Outcome (A × State)} → Kept s t → All (Kept₁ t) m → All (Kept₁ s) m
and-so₁ {s} {t} k h = weaken h (λ u j. trans s t u.1 j k)

pub new-region-kept : (d : ℕ) (k : Kind) (a : Access) (s : State) → All (Kept₁ s) (new_region d k a s)
unfolding new_region
new-region-kept d k a s = bind (allocate-same _ s.region_pool.gens s.region_pool.free) (λ x h. accepted (record { sizes = refl; domains = refl; regions = length-set s.regions x.0 _; domain_gens = refl; region_gens = h; record_gens = refl }))

free-region-kept : (i : ℕ) (s : State) → All (Kept s) (free_region i s)
unfolding free_region
free-region-kept i s = bind (free-same i s.region_pool) (λ p h. accepted (record { sizes = refl; domains = refl; regions = length-set s.regions i none; domain_gens = refl; region_gens = h; record_gens = refl }))

ranges-kept : (old new r : ℕ) (xs : List Range) (s : State) → All (Kept s) (send_ranges old new r xs s)
unfolding send_ranges
ranges-kept old new r [] s = accepted (same s)
ranges-kept old new r (x ∷ xs) s = bind (deactivate-kept [] old _ s) (λ s₁ j. bind (activate-kept [] new _ s₁) (λ s₂ k. and_so (trans s s₁ s₂ k j) (ranges-kept old new r xs s₂)))

pub send-region-kept : (i new : ℕ) (s : State) → All (Kept s) (send_region i new s)
unfolding send_region
send-region-kept i new s = and_so (put-region i _ s) (ranges-kept _ new _ _ _)

pub options-kept : (i : ℕ) (o : SendOptions) (s : State) → Kept s (apply_options i o s)
unfolding apply_options
options-kept i o s = go o.flags
  where
    go : (x : Option ℕ) → Kept s (apply_options i (record { flags = x; hash = o.hash }) s)
    go none = same s
    go (some f) = put-region i _ s

give-back-kept : (closing : List ℕ) → (g : Region) (k : Kind) (s : State) → g.kind ≡ k → All (Kept s) (give_back closing g s)
unfolding give_back
give-back-kept closing g Root s e = rw (e, give_back) (accepted (same s))
give-back-kept closing g (Alias p) s e = rw (e, give_back) (accepted (same s))
give-back-kept closing g (Carve p) s e = rw (e, give_back) (activate-kept closing _ _ s)

leave-kept : (i : ℕ) (k : Kind) (s : State) → (region_at s i).kind ≡ k → Kept s (leave_parent i s)
unfolding leave_parent remove_child
leave-kept i Root s e = rw (e, leave_parent) (same s)
leave-kept i (Alias p) s e = rw (e, leave_parent) (put-region p _ s)
leave-kept i (Carve p) s e = rw (e, leave_parent) (put-region p _ s)

leaf-kept : (closing : List ℕ) → (i : ℕ) (s : State) → All (Kept s) (revoke_leaf closing i s)
unfolding revoke_leaf
leaf-kept closing i s =
    bind (and_so (leave-kept i _ s refl) (deactivate-kept closing _ _ _)) (λ s₁ j.
    bind (give-back-kept closing (region_at s i) _ s₁ refl) (λ s₂ k.
    bind (free-region-kept i s₂) (λ s₃ l.
    let u = trans s s₂ s₃ l (trans s s₁ s₂ k j) in branch (has (region_at s i).rights CLEANUP) (and_so u (push_kept _ s₃)) (accepted u))))

pub revoke-region-kept : (closing : List ℕ) → (n i : ℕ) (s : State) → All (Kept s) (revoke_region closing n i s)
unfolding revoke_region
revoke-region-kept closing zero i s = accepted (same s)
revoke-region-kept closing (suc n) i s = go (region_at s i).children refl (λ j t. revoke-region-kept closing n j t)
  where
    go : (cs : List ℕ) → (region_at s i).children ≡ cs → ((j : ℕ) (t : State) → All (Kept t) (revoke_region closing n j t)) → All (Kept s) (revoke_region closing (suc n) i s)
    go [] e ih = rw (e, revoke_region) (leaf-kept closing i s)
    go (c ∷ cs) e ih = rw (e, revoke_region) (bind (ih c s) (λ s₁ k. and_so k (ih i s₁)))
