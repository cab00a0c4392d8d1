-- What the steps on trackers and regions can refuse: 13, 14 or 16, whatever the tables; a new region 11. Nothing is said of what they leave.
use Rattle.std.specs.Prelude.{◌≡◌, refl, ◌⊎◌, ℕ, zero, suc, List, [], ◌∷◌, ◌||◌, eqb}
use Rattle.std.proofs.Common.{inl, inr}
use Rattle.model.specs.Lists.{exists}
use Rattle.rights.specs.Rights.{has, CLEANUP}
use Rattle.model.specs.Outcome.{Outcome, ok, refuse, ◌>>=◌}
use Rattle.refusals.specs.declared.Refusal.{Refusal}
use Rattle.refusals.specs.Refusals.{no_region, no_tracker, ring_full, spent}
use Rattle.model.specs.State.{State, Region, Kind, Root, Alias, Carve, Access, Update, region_at}
use Rattle.model.specs.Pool.{allocate, free, handle_of}
use Rattle.model.specs.Updates.{push, push_permission, is_permission_of}
use Rattle.model.specs.Tracker.{Walk}
use Rattle.model.specs.Tree.{Range}
use Rattle.model.specs.Regions.{put_walk, activate, deactivate, new_region, free_region, send_ranges, send_region, give_back, revoke_leaf, revoke_region}
use Rattle.model.specs.Calls.{exchange_rights}
use Rattle.laws.specs.Answers.{Gives, gives, refuses, gives_then, gives-branch, gives-checked}
use Rattle.laws.specs.Tracker.Slots.{gain-refusals, lose-refusals}

-- 13, 16 and 14
abbrev pub Stops : Refusal → Type 0
Stops r = (r ≡ no_tracker) ⊎ (r ≡ spent) ⊎ (r ≡ ring_full)

-- the outcome is accepted, or one of these refusals
abbrev pub MayStop : {A : Type 0} → Outcome A → Type 0
MayStop m = Gives (λ a. Unit {0}) Stops m

walk-stops : (m : Outcome Walk) → ((x : Refusal) → m ≡ refuse x → (x ≡ no_tracker) ⊎ (x ≡ spent)) → MayStop m
walk-stops (ok w) h = gives tt
walk-stops (refuse r) h = elim (h r refl) [ inl e ↦ refuses (inl e) | inr e ↦ refuses (inr (inl e)) ]

-- one step, and then another
infixl 20 ◌and_then◌
◌and_then◌ : {A B : Type 0} {m : Outcome A} {f : A → Outcome B} → MayStop m → ((a : A) → MayStop (f a)) → MayStop (m >>= f)
h and_then k = gives_then h (λ a u. k a)

-- ---- the ring

pub push-stops : (u : Update) (s : State) → MayStop (push u s)
unfolding push
push-stops u s = gives-checked _ _ (inr (inr refl)) (λ t. gives tt)

permission-stops : (d m : ℕ) (s : State) → MayStop (push_permission d m s)
unfolding push_permission
permission-stops d m s = gives-branch (exists (is_permission_of (handle_of s.domain_pool d)) s.queue.items) (gives tt) (push-stops _ s)

-- ---- trackers

put-stops : (closing : List ℕ) → (d : ℕ) (w : Walk) (s : State) → MayStop (put_walk closing d w s)
unfolding put_walk
put-stops closing d w s = gives-branch (exists (eqb d) closing || eqb w.marks 0) (gives tt) (permission-stops d _ _)

pub activate-stops : (closing : List ℕ) → (d : ℕ) (a : Access) (s : State) → MayStop (activate closing d a s)
unfolding activate
activate-stops closing d a s = walk-stops _ (gain-refusals _ _ _ _ _) and_then λ w. put-stops closing d w s

pub deactivate-stops : (closing : List ℕ) → (d : ℕ) (a : Access) (s : State) → MayStop (deactivate closing d a s)
unfolding deactivate
deactivate-stops closing d a s = walk-stops _ (lose-refusals _ _ _ _ _) and_then λ w. put-stops closing d w s

pub exchange-stops : (d old : ℕ) (a : Access) (s : State) → MayStop (exchange_rights d old a s)
unfolding exchange_rights
exchange-stops d old a s = gives-branch (eqb old a.rights) (gives tt) (deactivate-stops [] d _ s and_then λ t. activate-stops [] d a t)

-- ---- regions

free-stops : (i : ℕ) (s : State) → MayStop (free_region i s)
unfolding free_region free
free-stops i s = gives-checked {P = λ a. Unit {0}} _ _ (inr (inl refl)) (λ t. gives tt) and_then λ p. gives tt

give-kind : (closing : List ℕ) → (g : Region) (k : Kind) (s : State) → MayStop (give_back closing (record { owner = g.owner; kind = k; start = g.start; end = g.end; rights = g.rights; children = g.children; hash = g.hash }) s)
unfolding give_back
give-kind closing g Root s = gives tt
give-kind closing g (Alias p) s = gives tt
give-kind closing g (Carve p) s = activate-stops closing _ _ s

ranges-stop : (old new r : ℕ) (l : List Range) (s : State) → MayStop (send_ranges old new r l s)
unfolding send_ranges
ranges-stop old new r [] s = gives tt
ranges-stop old new r (x ∷ l) s = deactivate-stops [] old _ s and_then (λ t. activate-stops [] new _ t and_then λ u. ranges-stop old new r l u)

pub send-stops : (i new : ℕ) (s : State) → MayStop (send_region i new s)
unfolding send_region
send-stops i new s = ranges-stop _ new _ _ _

leaf-stops : (closing : List ℕ) → (i : ℕ) (s : State) → MayStop (revoke_leaf closing i s)
unfolding revoke_leaf
leaf-stops closing i s =
    let g = region_at s i in
    deactivate-stops closing _ _ _ and_then (λ t.
    give-kind closing g g.kind t and_then (λ u.
    free-stops i u and_then (λ v.
    gives-branch (has g.rights CLEANUP) (push-stops _ v) (gives tt))))

by-list : (closing : List ℕ) → (n i : ℕ) (s : State) (l : List ℕ) → ((k : ℕ) (t : State) → MayStop (revoke_region closing n k t)) → MayStop {A = State} (elim l [ [] ↦ revoke_leaf closing i s | c ∷ cs ↦ revoke_region closing n c s >>= λ t. revoke_region closing n i t ])
by-list closing n i s [] h = leaf-stops closing i s
by-list closing n i s (c ∷ cs) h = h c s and_then λ t. h i t

pub revoke-stops : (closing : List ℕ) → (n i : ℕ) (s : State) → MayStop (revoke_region closing n i s)
unfolding revoke_region
revoke-stops closing zero i s = gives tt
revoke-stops closing (suc n) i s = by-list closing n i s (region_at s i).children (revoke-stops closing n)

-- 11 alone
pub allocate-stops : (r : Refusal) (gs fs : List ℕ) → Gives (λ x. Unit {0}) (λ x. x ≡ r) (allocate r (record { gens = gs; free = fs }))
unfolding allocate
allocate-stops r gs [] = refuses refl
allocate-stops r gs (i ∷ is) = gives tt

pub new-stops : (d : ℕ) (k : Kind) (a : Access) (s : State) → Gives (λ x. Unit {0}) (λ x. x ≡ no_region) (new_region d k a s)
unfolding new_region
new-stops d k a s = gives_then (allocate-stops no_region s.region_pool.gens s.region_pool.free) (λ x u. gives tt)
