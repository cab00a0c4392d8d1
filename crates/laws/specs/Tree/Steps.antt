-- What the steps leave in the table of regions: a loss, a gain and a queued update leave it alone; a child list is written; a slot is given back.
use Rattle.std.specs.Prelude.{◌≡◌, refl, ℕ, List, [], ◌∷◌, ◌||◌, eqb, set}
use Rattle.std.proofs.Common.{ap, ◌∙◌}
use Rattle.std.proofs.Math.Option.{Option, none, some}
use Rattle.base.specs.Options.{none-some, some_same}
use Rattle.model.specs.Lists.{exists, In}
use Rattle.rights.specs.Rights.{has, CLEANUP}
use Rattle.model.specs.State.{State, Domain, Region, Kind, Root, Alias, Carve, Access, Update, parent_of, region_at, with_record_pool, put_domain, with_tracker, domain_at}
use Rattle.model.specs.Pool.{handle_of}
use Rattle.model.specs.Updates.{push, push_permission, is_permission_of}
use Rattle.model.specs.Tracker.{Walk}
use Rattle.model.specs.Tree.{insert_child, remove_child, Range}
use Rattle.model.specs.Regions.{put_walk, activate, deactivate, send_ranges, give_back, leave_parent, free_region, revoke_leaf}
use Rattle.laws.specs.Accepted.{All, accepted, bind, bind-any, weaken, and_then, branch}
use Rattle.laws.specs.Tree.Change.{child_in, child_out}

-- the regions are those of s
abbrev pub SameRegions : State → State → Type 0
SameRegions s t = t.regions ≡ s.regions

push-regions : (u : Update) (s : State) → All (SameRegions s) (push u s)
unfolding push
push-regions u s = and_then _ (accepted refl)

permission-regions : (d m : ℕ) (s : State) → All (SameRegions s) (push_permission d m s)
unfolding push_permission
permission-regions d m s = branch (exists (is_permission_of (handle_of s.domain_pool d)) s.queue.items) (accepted refl) (push-regions _ s)

walk-regions : (closing : List ℕ) → (d : ℕ) (w : Walk) (s : State) → All (SameRegions s) (put_walk closing d w s)
unfolding put_walk
walk-regions closing d w s = branch (exists (eqb d) closing || eqb w.marks 0) (accepted refl) (permission-regions d _ (with_record_pool w.pool (put_domain d (with_tracker w.records (domain_at s d)) s)))

pub activate-regions : (closing : List ℕ) → (d : ℕ) (a : Access) (s : State) → All (SameRegions s) (activate closing d a s)
unfolding activate
activate-regions closing d a s = bind-any _ (λ w. walk-regions closing d w s)

pub deactivate-regions : (closing : List ℕ) → (d : ℕ) (a : Access) (s : State) → All (SameRegions s) (deactivate closing d a s)
unfolding deactivate
deactivate-regions closing d a s = bind-any _ (λ w. walk-regions closing d w s)

pub ranges-regions : (old new r : ℕ) (xs : List Range) (s : State) → All (SameRegions s) (send_ranges old new r xs s)
unfolding send_ranges
ranges-regions old new r [] s = accepted refl
ranges-regions old new r (x ∷ xs) s = bind (deactivate-regions [] old _ s) (λ s₁ h. bind (activate-regions [] new _ s₁) (λ s₂ k. weaken (ranges-regions old new r xs s₂) (λ t m. m ∙ k ∙ h)))

give-kind : (closing : List ℕ) → (g : Region) (k : Kind) (s : State) → All (SameRegions s) (give_back closing (record { owner = g.owner; kind = k; start = g.start; end = g.end; rights = g.rights; children = g.children; hash = g.hash }) s)
unfolding give_back
give-kind closing g Root s = accepted refl
give-kind closing g (Alias p) s = accepted refl
give-kind closing g (Carve p) s = activate-regions closing _ _ s

pub give-regions : (closing : List ℕ) → (g : Region) (s : State) → All (SameRegions s) (give_back closing g s)
give-regions closing g s = give-kind closing g g.kind s

-- ---- child lists

pub domain-at : (s : State) (d : ℕ) (x : Domain) → In s.domains d x → domain_at s d ≡ x
domain-at s d x e = rw e

pub region-at : (s : State) (i : ℕ) (g : Region) → In s.regions i g → region_at s i ≡ g
region-at s i g e = rw e

pub insert-regions : (p i : ℕ) (h g : Region) (s : State) → In s.regions p h → In s.regions i g → (insert_child p i s).regions ≡ child_in s.regions i g p h
unfolding insert_child
insert-regions p i h g s e m = rw (region-at s p h e, region-at s i g m)

remove-regions : (p i : ℕ) (h : Region) (s : State) → In s.regions p h → (remove_child p i s).regions ≡ child_out s.regions i p h
unfolding remove_child
remove-regions p i h s e = rw (region-at s p h e)

pub by-parent : (k : Kind) (p : ℕ) (s : State) (f : ℕ → State) → parent_of k ≡ some p → (elim k [ Root ↦ s | Alias q ↦ f q | Carve q ↦ f q ]) ≡ f p
by-parent Root p s f e = absurd (none-some none p refl e)
by-parent (Alias q) p s f e = ap f (some_same (some q) q p refl e)
by-parent (Carve q) p s f e = ap f (some_same (some q) q p refl e)

pub leave-regions : (i p : ℕ) (g h : Region) (s : State) → In s.regions i g → parent_of g.kind ≡ some p → In s.regions p h → (leave_parent i s).regions ≡ child_out s.regions i p h
unfolding leave_parent
leave-regions i p g h s e q m = ap (λ (t : State). t.regions) (by-parent (region_at s i).kind p s (λ n. remove_child n i s) (ap (λ (r : Region). parent_of r.kind) (region-at s i g e) ∙ q)) ∙ remove-regions p i h s m

-- ---- a region without children is revoked

free-regions : (i : ℕ) (s : State) → All (λ t. t.regions ≡ set s.regions i none) (free_region i s)
unfolding free_region
free-regions i s = bind-any _ (λ p. accepted refl)

pub leaf-regions : (closing : List ℕ) → (i p : ℕ) (g h : Region) (s : State) → In s.regions i g → parent_of g.kind ≡ some p → In s.regions p h → All (λ t. t.regions ≡ set (child_out s.regions i p h) i none) (revoke_leaf closing i s)
unfolding revoke_leaf
leaf-regions closing i p g h s e q m =
    let l = leave-regions i p g h s e q m in
    bind (deactivate-regions closing _ _ (leave_parent i s)) (λ s₁ a.
    bind (give-regions closing _ s₁) (λ s₂ b.
    bind (free-regions i s₂) (λ s₃ c.
    let all = c ∙ ap (λ (rs : List (Option Region)). set rs i none) (b ∙ a ∙ l) in
    branch (has (region_at s i).rights CLEANUP) (weaken (push-regions _ s₃) (λ t d. d ∙ all)) (accepted all))))
