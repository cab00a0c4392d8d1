-- A state without the bits of its domains' words, and that the steps on lists, trackers and the ring do the same there. A free slot reads as a domain whose
-- word is 0, so that this asks for no sound tables.
use Rattle.std.specs.Prelude.{◌≡◌, refl, ℕ, zero, suc, not, ◌&&◌, ◌||◌, List, [], ◌∷◌, map, eqb, set, get_or, if◌then◌else◌}
use Rattle.std.proofs.Common.{sym, ap, subst, ◌∙◌}
use Rattle.std.proofs.Math.Option
use Rattle.std.proofs.Math.Option.{Option, none, some}
use Rattle.std.proofs.Math.ListN.{get_or-map}
use Rattle.refusals.specs.Refusals.{no_slot, no_local}
use Rattle.model.specs.Lists.{is_some, is_empty, exists, at_slot}
use Rattle.model.specs.Outcome.{Outcome, require, ok_or}
use Rattle.model.specs.State.{State, Handle, Capa, no_capa, region, region_revoke, management, channel, LocalList, Record, Domain, Update, permission, Access, none_domain, domain_at, put_domain, with_domains, with_interface, with_locals, with_tracker, with_record_pool}
use Rattle.model.specs.Pool.{is_live, handle_of}
use Rattle.model.specs.Locals.{is_invalid, invalid_slots, free_local, free_locals, free_invalid_capas, has_capacity, capa_at, insert_local, insert_capa, remove_capa, empty_capa}
use Rattle.model.specs.Updates.{is_permission_of, push, push_permission}
use Rattle.model.specs.Tracker.{Walk, gain, lose}
use Rattle.model.specs.Regions.{put_walk, activate, deactivate}
use Rattle.interface.proofs.Outcomes.{Both, accepted, By, Any, bind-same, and_same, branch, turned, both-then}

-- ---- the word is 0, the freeze as it was

abbrev pub no_bits_of : Domain → Domain
no_bits_of x = with_interface (record { word = 0; frozen = x.interface.frozen }) x

abbrev pub no_bits_in : Option Domain → Option Domain
no_bits_in none = none
no_bits_in (some x) = some (no_bits_of x)

abbrev pub no_bits : State → State
no_bits s = with_domains s.domain_pool (map no_bits_in s.domains) s

-- beside an answer
abbrev pub no_bits₁ : {A : Type 0} → A × State → A × State
no_bits₁ x = (x.0, no_bits x.1)

-- the same tables but for the bits
abbrev pub Alike : State → State → Type 0
Alike s s' = no_bits s ≡ no_bits s'

-- what is refused alike without the bits is refused alike in tables that are alike
pub same-refusals : {A : Type 0} (f : State → Outcome A) → ((t : State) → Both Any (f t) (f (no_bits t))) → (s s' : State) → Alike s s' → Both Any (f s) (f s')
same-refusals f k s s' e = both-then (k s) (turned (subst (λ t. Both Any (f s') (f t)) (sym e) (k s')))

-- ---- a domain is read, and put back

read-no-bits : (o : Option Domain) → Option.get_or (no_bits_in o) none_domain ≡ no_bits_of (Option.get_or o none_domain)
read-no-bits none = refl
read-no-bits (some x) = refl

pub domain-at : (s : State) (d : ℕ) → domain_at (no_bits s) d ≡ no_bits_of (domain_at s d)
domain-at s d = ap (λ o. Option.get_or o none_domain) (get_or-map no_bits_in s.domains d none) ∙ read-no-bits (at_slot s.domains d)

set-no-bits : (l : List (Option Domain)) (d : ℕ) (x : Domain) → set (map no_bits_in l) d (some (no_bits_of x)) ≡ map no_bits_in (set l d (some x))
set-no-bits [] d x = refl
set-no-bits (o ∷ l) zero x = refl
set-no-bits (o ∷ l) (suc d) x = ap (λ m. no_bits_in o ∷ m) (set-no-bits l d x)

pub put-domain : (d : ℕ) (x : Domain) (s : State) → put_domain d (no_bits_of x) (no_bits s) ≡ no_bits (put_domain d x s)
put-domain d x s = ap (λ l. with_domains s.domain_pool l s) (set-no-bits s.domains d x)

-- with another list, or another tracker
put-locals : (d : ℕ) (l : LocalList) (s : State) → put_domain d (with_locals l (domain_at (no_bits s) d)) (no_bits s) ≡ no_bits (put_domain d (with_locals l (domain_at s d)) s)
put-locals d l s = ap (λ (x : Domain). put_domain d (with_locals l x) (no_bits s)) (domain-at s d) ∙ put-domain d (with_locals l (domain_at s d)) s

put-tracker : (d : ℕ) (l : List Record) (s : State) → put_domain d (with_tracker l (domain_at (no_bits s) d)) (no_bits s) ≡ no_bits (put_domain d (with_tracker l (domain_at s d)) s)
put-tracker d l s = ap (λ (x : Domain). put_domain d (with_tracker l x) (no_bits s)) (domain-at s d) ∙ put-domain d (with_tracker l (domain_at s d)) s

-- ---- who is live

some-no-bits : (o : Option Domain) → is_some (no_bits_in o) ≡ is_some o
some-no-bits none = refl
some-no-bits (some x) = refl

pub live_same : (s : State) (h : Handle) → is_live s.domain_pool (no_bits s).domains h ≡ is_live s.domain_pool s.domains h
live_same s h = ap (λ b. b && eqb (get_or s.domain_pool.gens h.slot 0) h.generation) (ap is_some (get_or-map no_bits_in s.domains h.slot none) ∙ some-no-bits (at_slot s.domains h.slot))

-- ---- capability lists

invalid-same : (s : State) (c : Capa) → is_invalid (no_bits s) c ≡ is_invalid s c
invalid-same s no_capa = refl
invalid-same s (region h) = refl
invalid-same s (region_revoke h) = refl
invalid-same s (management h) = ap not (live_same s h)
invalid-same s (channel h) = ap not (live_same s h)

slots_same : (s : State) (i : ℕ) (l : List (Option Capa)) → invalid_slots (no_bits s) i l ≡ invalid_slots s i l
slots_same s i [] = refl
slots_same s i (none ∷ l) = slots_same s (suc i) l
slots_same s i (some c ∷ l) = ap (λ b. if b then i ∷ invalid_slots (no_bits s) (suc i) l else invalid_slots (no_bits s) (suc i) l) (invalid-same s c) ∙ ap (λ m. if is_invalid s c then i ∷ m else m) (slots_same s (suc i) l)

sweep-same : (s : State) (l : LocalList) → free_invalid_capas (no_bits s) l ≡ free_invalid_capas s l
unfolding free_invalid_capas
sweep-same s l = ap (λ is. free_locals is l) (slots_same s 0 l.held)

-- the list that `has_capacity` puts back; used only in proofs
abbrev swept : State → LocalList → LocalList
swept s l = if is_empty l.free then free_invalid_capas s l else l

swept_same : (s : State) (d : ℕ) → swept (no_bits s) (domain_at (no_bits s) d).locals ≡ swept s (domain_at s d).locals
swept_same s d = ap (λ (x : Domain). swept (no_bits s) x.locals) (domain-at s d) ∙ ap (λ m. if is_empty (domain_at s d).locals.free then m else (domain_at s d).locals) (sweep-same s (domain_at s d).locals)

pub capacity-same : (d : ℕ) (s : State) → Both (By no_bits) (has_capacity d s) (has_capacity d (no_bits s))
unfolding has_capacity
capacity-same d s = and_same (ap (λ l. require (not (is_empty l.free)) no_local) (swept_same s d)) (accepted (ap (λ l. put_domain d (with_locals l (domain_at (no_bits s) d)) (no_bits s)) (swept_same s d) ∙ put-locals d (swept s (domain_at s d).locals) s))

pub capa-same : (s : State) (d l : ℕ) → capa_at (no_bits s) d l ≡ capa_at s d l
unfolding capa_at
capa-same s d l = ap (λ (x : Domain). ok_or (at_slot x.locals.held l) no_slot) (domain-at s d)

pub insert-same : (d : ℕ) (c : Capa) (s : State) → Both (By no_bits₁) (insert_capa d c s) (insert_capa d c (no_bits s))
unfolding insert_capa
insert-same d c s = bind-same (ap (λ (x : Domain). insert_local c x.locals) (domain-at s d)) (λ (i, l). accepted (ap (λ t. (i, t)) (put-locals d l s)))

pub remove-same : (d i : ℕ) (s : State) → remove_capa d i (no_bits s) ≡ no_bits (remove_capa d i s)
unfolding remove_capa
remove-same d i s = ap (λ (x : Domain). put_domain d (with_locals (free_local i x.locals) (domain_at (no_bits s) d)) (no_bits s)) (domain-at s d) ∙ put-locals d _ s

pub empty-same : (d i : ℕ) (s : State) → empty_capa d i (no_bits s) ≡ no_bits (empty_capa d i s)
unfolding empty_capa
empty-same d i s = ap (λ (x : Domain). put_domain d (with_locals (record { held = set x.locals.held i (some no_capa); free = x.locals.free }) (domain_at (no_bits s) d)) (no_bits s)) (domain-at s d) ∙ put-locals d _ s

-- ---- the ring, and trackers

pub push-same : (u : Update) (s : State) → Both (By no_bits) (push u s) (push u (no_bits s))
unfolding push
push-same u s = and_same refl (accepted refl)

permission-same : (d m : ℕ) (s : State) → Both (By no_bits) (push_permission d m s) (push_permission d m (no_bits s))
unfolding push_permission
permission-same d m s =
    let h = handle_of s.domain_pool d in
    branch (exists (is_permission_of h) s.queue.items) (accepted refl)
    (subst (λ (x : Domain). Both (By no_bits) (push (permission h (domain_at s d).cores m) s) (push (permission h x.cores m) (no_bits s))) (sym (domain-at s d)) (push-same (permission h (domain_at s d).cores m) s))

walk_same : (closing : List ℕ) → (d : ℕ) (w : Walk) (s : State) → Both (By no_bits) (put_walk closing d w s) (put_walk closing d w (no_bits s))
unfolding put_walk
walk_same closing d w s =
    let e = ap (with_record_pool w.pool) (put-tracker d w.records s) in
    let s₁ = with_record_pool w.pool (put_domain d (with_tracker w.records (domain_at s d)) s) in
    branch (exists (eqb d) closing || eqb w.marks 0) (accepted e) (subst (λ t. Both (By no_bits) (push_permission d w.marks s₁) (push_permission d w.marks t)) (sym e) (permission-same d w.marks s₁))

pub activate-same : (closing : List ℕ) → (d : ℕ) (a : Access) (s : State) → Both (By no_bits) (activate closing d a s) (activate closing d a (no_bits s))
unfolding activate
activate-same closing d a s = bind-same (ap (λ (x : Domain). gain a.rights a.start a.end x.tracker s.record_pool) (domain-at s d)) (λ w. walk_same closing d w s)

pub deactivate-same : (closing : List ℕ) → (d : ℕ) (a : Access) (s : State) → Both (By no_bits) (deactivate closing d a s) (deactivate closing d a (no_bits s))
unfolding deactivate
deactivate-same closing d a s = bind-same (ap (λ (x : Domain). lose a.rights a.start a.end x.tracker s.record_pool) (domain-at s d)) (λ w. walk_same closing d w s)
