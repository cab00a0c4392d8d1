-- What a revoke leaves of the regions' generations: no slot's falls, a region that is left has its own, and a slot that was freed a higher one.
use Rattle.std.specs.Prelude.{◌≡◌, ◌≢◌, ℕ, suc, ◌≤◌, ◌<◌, true, false, ◌||◌, List, [], length, get_or, set}
use Rattle.std.proofs.Math.Path.{refl, ap}
use Rattle.std.proofs.Common.{sym, ◌∙◌, arith, length-set, get_or-set_same, get_or-set_other}
use Rattle.std.proofs.Math.Option.{none, some}
use Rattle.std.proofs.Math.Decide.{ℕ_discrete}
use Rattle.std.proofs.Math.Dec.{eqb}
use Rattle.base.specs.Tests.{true-false}
use Rattle.model.specs.Lists.{is_some, exists, at_slot, In}
use Rattle.model.specs.State.{State, Region, Kind, Root, Alias, Carve, Access, Update, parent_of, domain_at, region_at, put_domain, with_tracker, with_record_pool}
use Rattle.model.specs.Pool.{handle_of, free}
use Rattle.model.specs.Updates.{push, push_permission, is_permission_of}
use Rattle.model.specs.Tracker.{Walk}
use Rattle.model.specs.Tree.{remove_child}
use Rattle.model.specs.Regions.{put_walk, activate, deactivate, give_back, leave_parent, free_region, revoke_leaf, revoke_region, live_count}
use Rattle.rights.specs.Rights.{has, CLEANUP}
use Rattle.laws.specs.Accepted.{All, accepted, bind, bind-any, and_then, weaken, branch, both}
use Rattle.laws.specs.Tree.Slots.{in-length}
use Rattle.laws.specs.Tree.Facts.{Regions}
use Rattle.laws.specs.Tree.Change.{child_out, same-bare}
use Rattle.laws.specs.Tree.Keep.{slot-removed, removed-free}
use Rattle.laws.specs.Tree.Steps.{leaf-regions}
use Rattle.laws.specs.Tree.Below.{Revoked}
use Rattle.laws.specs.Tree.Revoke.{Leaves, revoke-all}

-- ---- the region pool, by the steps

abbrev SamePool : State → State → Type 0
SamePool s t = t.region_pool ≡ s.region_pool

push-pool : (u : Update) (s : State) → All (SamePool s) (push u s)
unfolding push
push-pool u s = and_then _ (accepted refl)

permission-pool : (d m : ℕ) (s : State) → All (SamePool s) (push_permission d m s)
unfolding push_permission
permission-pool d m s = branch (exists (is_permission_of (handle_of s.domain_pool d)) s.queue.items) (accepted refl) (push-pool _ s)

-- "Freeing adds one to the generation"
abbrev raised : ℕ → List ℕ → List ℕ
raised i gs = set gs i (suc (get_or gs i 0))

out-pool : (p i : ℕ) (s : State) → SamePool s (remove_child p i s)
unfolding remove_child
out-pool p i s = refl

leave-kind : (i : ℕ) (s : State) (k : Kind) → SamePool s (elim k [ Root ↦ s | Alias p ↦ remove_child p i s | Carve p ↦ remove_child p i s ])
leave-kind i s Root = refl
leave-kind i s (Alias p) = out-pool p i s
leave-kind i s (Carve p) = out-pool p i s

leave-pool : (i : ℕ) (s : State) → SamePool s (leave_parent i s)
unfolding leave_parent
leave-pool i s = leave-kind i s (region_at s i).kind

free-gens : (i : ℕ) (s : State) → All (λ t. t.region_pool.gens ≡ raised i s.region_pool.gens) (free_region i s)
unfolding free_region free
free-gens i s = bind {P = λ p. p.gens ≡ raised i s.region_pool.gens} (and_then _ (accepted refl)) (λ p e. accepted e)

module _ (closing : List ℕ) where
  walk-pool : (d : ℕ) (w : Walk) (s : State) → All (SamePool s) (put_walk closing d w s)
  unfolding put_walk
  walk-pool d w s = branch (exists (eqb d) closing || eqb w.marks 0) (accepted refl) (permission-pool d w.marks (with_record_pool w.pool (put_domain d (with_tracker w.records (domain_at s d)) s)))

  activate-pool : (d : ℕ) (a : Access) (s : State) → All (SamePool s) (activate closing d a s)
  unfolding activate
  activate-pool d a s = bind-any _ (λ w. walk-pool d w s)

  deactivate-pool : (d : ℕ) (a : Access) (s : State) → All (SamePool s) (deactivate closing d a s)
  unfolding deactivate
  deactivate-pool d a s = bind-any _ (λ w. walk-pool d w s)

  give-kind : (g : Region) (k : Kind) (s : State) → All (SamePool s) (give_back closing (record { owner = g.owner; kind = k; start = g.start; end = g.end; rights = g.rights; children = g.children; hash = g.hash }) s)
  unfolding give_back
  give-kind g Root s = accepted refl
  give-kind g (Alias p) s = accepted refl
  give-kind g (Carve p) s = activate-pool _ _ s

  give-pool : (g : Region) (s : State) → All (SamePool s) (give_back closing g s)
  give-pool g s = give-kind g g.kind s

  leaf-gens : (i : ℕ) (s : State) → All (λ t. t.region_pool.gens ≡ raised i s.region_pool.gens) (revoke_leaf closing i s)
  unfolding revoke_leaf
  leaf-gens i s =
      bind (deactivate-pool _ _ (leave_parent i s)) (λ s₁ a.
      bind (give-pool _ s₁) (λ s₂ b.
      bind (free-gens i s₂) (λ s₃ c.
      let all = c ∙ ap (λ p. raised i p.gens) (b ∙ a ∙ leave-pool i s) in
      branch (has (region_at s i).rights CLEANUP) (weaken (push-pool _ s₃) (λ t d. ap (λ p. p.gens) d ∙ all)) (accepted all))))

-- ---- what is kept from revoke to revoke

abbrev gen : State → ℕ → ℕ
gen s j = get_or s.region_pool.gens j 0

pub record GensAfter (s t : State) : Type 0 where
  pub size : length t.region_pool.gens ≡ length t.regions
  pub rise : (j : ℕ) → get_or s.region_pool.gens j 0 ≤ get_or t.region_pool.gens j 0
  pub kept : (j : ℕ) → is_some (at_slot t.regions j) ≡ true → get_or t.region_pool.gens j 0 ≡ get_or s.region_pool.gens j 0
  pub freed : (j : ℕ) → is_some (at_slot s.regions j) ≡ true → is_some (at_slot t.regions j) ≡ false → get_or s.region_pool.gens j 0 < get_or t.region_pool.gens j 0

gens-self : (s : State) → length s.region_pool.gens ≡ length s.regions → GensAfter s s
gens-self s n = record { size = n; rise = λ j. omega arith; kept = λ j h. refl; freed = λ j h k. absurd (true-false h k) }

module _ (s₀ s t : State) (i p : ℕ) (g h : Region) (k : GensAfter s₀ s) (ok : Regions s.regions) (e : In s.regions i g) (empty : g.children ≡ []) (n : parent_of g.kind ≡ some p) (at : In s.regions p h) (gens : t.region_pool.gens ≡ raised i s.region_pool.gens) (regions : t.regions ≡ set (child_out s.regions i p h) i none) where
  low : i < length s.region_pool.gens
  low = omega (arith, k.size, in-length s.regions i g e)

  gen-on : gen t i ≡ suc (gen s i)
  gen-on = ap (λ gs. get_or gs i 0) gens ∙ get_or-set_same s.region_pool.gens i _ 0 low

  gen-off : (j : ℕ) → j ≢ i → gen t j ≡ gen s j
  gen-off j o = ap (λ gs. get_or gs j 0) gens ∙ get_or-set_other s.region_pool.gens i j _ 0 o

  some-on : is_some (at_slot t.regions i) ≡ false
  some-on = ap (λ rs. is_some (at_slot rs i)) regions ∙ ap is_some (removed-free s.regions ok i g e empty p h at n)

  some-off : (j : ℕ) → j ≢ i → is_some (at_slot t.regions j) ≡ is_some (at_slot s.regions j)
  some-off j o = ap (λ rs. is_some (at_slot rs j)) regions ∙ same-bare is_some (λ r. refl) (at_slot (set (child_out s.regions i p h) i none) j) (at_slot s.regions j) ((slot-removed s.regions ok i g e empty p h at n).others j o)

  leaf-next : GensAfter s₀ t
  leaf-next = record {
    size = ap length gens ∙ length-set s.region_pool.gens i _ ∙ k.size ∙ sym (ap length regions ∙ (slot-removed s.regions ok i g e empty p h at n).size);
    rise = λ j. elim (ℕ_discrete j i) [
      | yes o ↦ rw o (omega (arith, gen-on, k.rise i))
      | no o ↦ omega (arith, gen-off j o, k.rise j)
    ];
    kept = λ j u. elim (ℕ_discrete j i) [
      | yes o ↦ absurd (true-false (rw o at u) some-on)
      | no o ↦ gen-off j o ∙ k.kept j (sym (some-off j o) ∙ u)
    ];
    freed = λ j u v. elim (ℕ_discrete j i) [
      | yes o ↦ rw o (omega (arith, gen-on, k.rise i))
      | no o ↦ omega (arith, gen-off j o, k.freed j u (sym (some-off j o) ∙ v))
    ];
  }

leaves-gens : (closing : List ℕ) (s₀ : State) → Leaves closing (GensAfter s₀)
unfolding Leaves
leaves-gens closing s₀ s i p g h k ok e empty n at = weaken (both (leaf-gens closing i s) (leaf-regions closing i p g h s e n at)) (λ t q. leaf-next s₀ s t i p g h k ok e empty n at q.0 q.1)

-- THEOREM: after the revoke of region i with all below it
pub revoke-gens : (closing : List ℕ) (s : State) → length s.region_pool.gens ≡ length s.regions → Regions s.regions → (i p : ℕ) (g : Region) → In s.regions i g → parent_of g.kind ≡ some p → All (λ t. GensAfter s t × Revoked s.regions i t.regions) (revoke_region closing (live_count s) i s)
revoke-gens closing s z ok i p g e n = revoke-all closing (GensAfter s) (leaves-gens closing s) s i p g (gens-self s z) ok e n
