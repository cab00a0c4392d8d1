-- A region without children is revoked, step by step: it leaves its parent's list, its domain loses its range, a carve's parent's domain gains it back,
-- its slot is freed, and its range is queued for cleanup. Invariant: the regions stay as they are once it has left its list, until the slot is freed.
use Rattle.std.specs.Prelude.{◌≡◌, ◌≢◌, ℕ, suc, ◌-◌, ◌^◌, ◌<◌, List, [], eqb, length, if◌then◌else◌}
use Rattle.std.proofs.Math.Path.{refl, ap}
use Rattle.std.proofs.Common.{◌∙◌, arith, mod-eq_of_lt, lit<, get_or-set_other}
use Rattle.std.proofs.Math.Option.{Option, none, some}
use Rattle.base.specs.Cases.{holds, fails, test}
use Rattle.base.specs.Options.{none-some, some_same}
use Rattle.model.specs.Lists.{one_if, count_if, at_slot, In}
use Rattle.model.specs.Outcome.{Outcome, ok, ◌>>=◌}
use Rattle.model.specs.State as state
use Rattle.model.specs.State.{State, Kind, Root, Alias, Carve, parent_of}
use Rattle.model.specs.Tree.{access_of}
use Rattle.model.specs.Updates.{push}
use Rattle.model.specs.Regions as model
use Rattle.model.specs.Layout.{link, kind_word}
use Rattle.model.specs.Sound.{names}
use Rattle.rights.specs.Rights.{has, CLEANUP}
use Rattle.laws.specs.Stack.{one}
use Rattle.laws.specs.Tree.Steps.{region-at, leave-regions}
use Rattle.laws.specs.Keep.SameDomains.{SameDomains, SameOutside, same-domains-then, same-domains-live, same-outside-then}
use Rattle.laws.specs.Keep.RevokeLeaf.{out-beside, parent, parent-there}
use Rattle.laws.specs.Keep.Base.{Base}
use Rattle.laws.specs.Keep.BaseSteps.{Live}
use Rattle.laws.specs.Keep.Whole.{Whole}
use Rattle.laws.specs.Keep.RevokeRegion.{leave-base, given-base, free-base}
use Rattle.tables.specs.declared.RegionCapa.{RegionCapa}
use Rattle.tables.specs.Tables.{Tables, region_at}
use Rattle.answers.specs.Answers.{Effect, and_then}
use Rattle.domain.specs.Activate.{activate, deactivate, cleanup}
use Rattle.segment.specs.Regions.{access, freed_region}
use Rattle.giving_back.specs.GiveBack.{give_back}
use Rattle.leaf_revocation.specs.Leaf.{leave_parent, cleanup_if, revoke_leaf}
use Rattle.refine.specs.Agrees.{Agrees, agrees-step, agrees-call, agrees-state, bind_assoc, bind-same}
use Rattle.decoded.specs.Tree.Regions.{region-read}
use Rattle.refine.specs.Tree.Search.{Children, regions-children}
use Rattle.refine.specs.Tree.ChildLists.{leave-parent-is}
use Rattle.refine.specs.Tree.RegionSteps.{free-region-refines}
use Rattle.refine.specs.Calls.Bounds.{TrackersRaisable, Bounded, bounded-raisable, loss-bounded, regions-few, counts-formed}
use Rattle.refine.specs.Calls.ClosingSet.{SameClosing}
use Rattle.decoded.specs.Sizes.{good-limits}
use Rattle.refine.specs.Queue.RingSteps.{cleanup-refines}
use Rattle.laws.specs.Accepted.{all-ok}
use Rattle.decoded.specs.Tables.{region_for, tables_of}
use Rattle.refine.specs.Calls.Activate.{plain, follows_range, activate-refines, deactivate-refines}

-- ---- what a carve held goes back

module _ (closing : ℕ) (ls : List ℕ) (same : SameClosing closing ls) (s : State) (raisable : TrackersRaisable s) (p : ℕ) (h : state.Region) (at : In s.regions p h) (byte : h.rights < 256) (live : Live s h.owner) where
  abbrev T : Tables
  T = tables_of s

  module _ (b e : ℕ) (z : b < e) where
    back : (m : ℕ) → m ≡ p → Agrees (activate closing ((region_at T (suc m - 1)).owner - 1) (access b e (region_at T (suc m - 1)).rights) T) (plain (model.activate ls (state.region_at s m).owner (record { start = b; end = e; rights = (state.region_at s m).rights }) s))
    back m q =
        let row : region_at T (suc m - 1) ≡ region_for s.regions p (some h) = ap (region_at T) (omega (arith, q)) ∙ region-read s raisable.base.regions.size p h at in
        let reg : state.region_at s m ≡ h = ap (state.region_at s) q ∙ region-at s p h at in
        agrees-step _ (activate closing h.owner (access b e h.rights) T) (plain (model.activate ls (state.region_at s m).owner (record { start = b; end = e; rights = (state.region_at s m).rights }) s))
        (ap (λ (r : RegionCapa). activate closing (r.owner - 1) (access b e r.rights) T) row ∙ ap (λ (o : ℕ). activate closing o (access b e h.rights) T) (omega arith))
        (agrees-call _ _ (plain (model.activate ls h.owner (record { start = b; end = e; rights = h.rights }) s)) (ap (λ (r : state.Region). plain (model.activate ls r.owner (record { start = b; end = e; rights = r.rights }) s)) reg)
        (follows_range (activate closing) (model.activate ls) (activate-refines closing ls same) s h.owner b e h.rights byte raisable live z))

    give-kind : (k : Kind) (o r n c : ℕ) (cs : List ℕ) (x : Option state.Hash) → parent_of k ≡ some p
        → Agrees (give_back closing (record { kind = kind_word k; owner = suc o; parent = link (parent_of k); start = b; end = e; rights = r; child = c; next = n }) T)
        (plain (model.give_back ls (record { owner = o; kind = k; start = b; end = e; rights = r; children = cs; hash = x }) s))
    unfolding give_back model.give_back ◌>>=◌
    give-kind Root o r n c cs x q = absurd (none-some none p refl q)
    give-kind (Alias m) o r n c cs x q = (refl, refl)
    give-kind (Carve m) o r n c cs x q = back m (some_same (some m) m p refl q)

  -- region g, by its row among the regions rs before
  pub give-back-refines : (rs : List (Option state.Region)) (i : ℕ) (g : state.Region) → parent_of g.kind ≡ some p → g.start < g.end
      → Agrees (give_back closing (region_for rs i (some g)) (tables_of s)) (model.give_back ls g s >>= λ s₁. ok (0, s₁))
  give-back-refines rs i g n z = give-kind g.start g.end z g.kind g.owner g.rights _ _ g.children g.hash n

-- ---- the range is queued

cleanup-if : (s : State) → Base s → (rs : List (Option state.Region)) (i : ℕ) (g : state.Region) → g.rights < 256
    → Agrees (cleanup_if (region_for rs i (some g)) (tables_of s)) (plain (if has g.rights CLEANUP then push (state.cleanup g.start g.end) s else ok s))
unfolding cleanup_if ◌>>=◌
cleanup-if s k rs i g byte = rw (cleanup_if, mod-eq_of_lt byte) (elim (test (has g.rights CLEANUP)) [
  | holds t ↦ rw t (cleanup-refines s (good-limits s.sizes k.ring.sizes_good).updates-high k.ring.queue.read_place k.ring.queue.fits g.start g.end)
  | fails t ↦ rw t (refl, refl)
])

-- ---- the four steps in turn

-- a call of four steps, with the number 0
in-turn : {A B C : Type 0} (m : Outcome A) (f : A → Outcome B) (g : B → Outcome C) (h : C → Outcome State)
    → plain (m >>= λ a. f a >>= λ b. g b >>= λ c. h c) ≡ (m >>= λ a. f a >>= λ b. g b >>= λ c. plain (h c))
in-turn m f g h = bind_assoc _ _ _ ∙ bind-same _ _ _ (λ a. bind_assoc _ _ _ ∙ bind-same _ _ _ (λ b. bind_assoc _ _ _))

module _ (closing : ℕ) (ls : List ℕ) (same : SameClosing closing ls) (s : State) (whole : Whole s) (i p : ℕ) (g h : state.Region) (e : In s.regions i g) (empty : g.children ≡ []) (n : parent_of g.kind ≡ some p) (at : In s.regions p h) where
  long : length s.regions ≡ s.sizes.regions
  long = whole.1.regions.size

  few : s.sizes.regions < 2 ^ 64
  few = omega (arith, regions-few s whole.1, long)

  children : Children s.regions p h.children
  children = regions-children s.regions whole.0.regions p h at

  listed : count_if (eqb i) h.children ≡ 1
  listed = (whole.0.regions i g e).listed p h at ∙ ap (λ (o : Option ℕ). one_if (names o p)) n ∙ one p p refl

  not_own : i ≢ p
  not_own z = omega (arith, listed, children.other, ap (λ (k : ℕ). count_if (eqb k) h.children) z)

  byte : g.rights < 256
  byte = (whole.0.regions i g e).rights_byte

  nonempty : g.start < g.end
  nonempty = (whole.0.regions i g e).nonempty

  -- ---- it has left its list

  abbrev out : State
  out = model.leave_parent i s

  left_is : leave_parent i (tables_of s) ≡ tables_of out
  left_is = leave-parent-is s long p h at children i g e n not_own few listed

  same_domains : SameDomains s out
  same_domains = (out-beside s whole.0 i p g h e empty n at).1

  out-bounded : Bounded 1024 out
  out-bounded = (leave-base s whole.0 whole.1 i p g h e empty n at, counts-formed s out whole.1 (out-beside s whole.0 i p g h e empty n at).0)

  -- ---- what is there in a state beside that one

  module _ (t : State) (b : SameOutside out t) where
    owner-live : (k : ℕ) (y : state.Region) → In s.regions k y → Live t y.owner
    owner-live k y m = same-domains-live (same-domains-then same_domains b.same_domains) y.owner (whole.0.owners k y m)

    still-there : In t.regions i g
    still-there =
        ap (λ (rs : List (Option state.Region)). at_slot rs i) (b.regions ∙ leave-regions i p g h s e n at)
        ∙ get_or-set_other s.regions p i (some (parent s whole.0 i p g h e empty n at)) none not_own
        ∙ e

  -- ---- the code and the model

  abbrev row : RegionCapa
  row = region_for s.regions i (some g)

  abbrev leaf : RegionCapa → ℕ → Tables → Effect
  leaf q o t = and_then (deactivate closing o (access q.start q.end q.rights) t) (λ u s₁. and_then (give_back closing q s₁) (λ v s₂. and_then (freed_region i s₂) (λ w. cleanup_if q)))

  code-leaf : revoke_leaf closing i (tables_of s) ≡ leaf row g.owner (tables_of out)
  unfolding revoke_leaf
  code-leaf =
      ap (λ (q : RegionCapa). leaf q (q.owner - 1) (leave_parent i (tables_of s))) (region-read s long i g e)
      ∙ ap (λ (o : ℕ). leaf row o (leave_parent i (tables_of s))) (omega arith)
      ∙ ap (leaf row g.owner) left_is

  abbrev last : State → Outcome State
  last s₃ = if has g.rights CLEANUP then push (state.cleanup g.start g.end) s₃ else ok s₃

  model-leaf : plain (model.revoke_leaf ls i s) ≡ (model.deactivate ls g.owner (access_of g) out >>= λ s₁. model.give_back ls g s₁ >>= λ s₂. model.free_region i s₂ >>= λ s₃. plain (last s₃))
  unfolding model.revoke_leaf
  model-leaf =
      ap (λ (x : state.Region). plain (model.deactivate ls x.owner (access_of x) out >>= λ s₁. model.give_back ls x s₁ >>= λ s₂. model.free_region i s₂ >>= λ s₃. if has x.rights CLEANUP then push (state.cleanup x.start x.end) s₃ else ok s₃)) (region-at s i g e)
      ∙ in-turn _ _ _ last

  pub revoke-leaf-refines : Agrees (revoke_leaf closing i (tables_of s)) (model.revoke_leaf ls i s >>= λ s₁. ok (0, s₁))
  revoke-leaf-refines =
      agrees-step _ _ (plain (model.revoke_leaf ls i s)) code-leaf
      (agrees-call _ (plain (model.revoke_leaf ls i s)) _ model-leaf
      (agrees-state (deactivate closing g.owner (access g.start g.end g.rights) (tables_of out)) _ (model.deactivate ls g.owner (access_of g) out) (λ s₁. model.give_back ls g s₁ >>= λ s₂. model.free_region i s₂ >>= λ s₃. plain (last s₃))
      (follows_range (deactivate closing) (model.deactivate ls) (deactivate-refines closing ls same) out g.owner g.start g.end g.rights byte (bounded-raisable 1024 out (lit< tt) out-bounded) (same-domains-live same_domains g.owner (whole.0.owners i g e)) nonempty)
      (λ s₁ e₁.
      let (k₁, b₁) = all-ok _ _ s₁ (loss-bounded ls 1024 out out-bounded g.owner (same-domains-live same_domains g.owner (whole.0.owners i g e)) (access_of g) nonempty) e₁ in
      agrees-state (give_back closing row (tables_of s₁)) _ (model.give_back ls g s₁) (λ s₂. model.free_region i s₂ >>= λ s₃. plain (last s₃))
      (give-back-refines closing ls same s₁ (bounded-raisable 1024 s₁ (lit< tt) k₁) p (parent s whole.0 i p g h e empty n at) (parent-there s whole.0 i p g h e empty n at s₁ b₁) (whole.0.regions p h at).rights_byte (owner-live s₁ b₁ p h at) s.regions i g n nonempty)
      (λ s₂ e₂.
      let (k₂, b₂) = all-ok _ _ s₂ (given-base s whole.0 whole.1 i p g h e empty n at ls s₁ k₁.0 b₁) e₂ in
      let b = same-outside-then b₁ b₂ in
      agrees-state (freed_region i (tables_of s₂)) _ (model.free_region i s₂) (λ s₃. plain (last s₃))
      (free-region-refines s₂ k₂.regions.size k₂.regions.pool i g (still-there s₂ b) empty)
      (λ s₃ e₃.
      cleanup-if s₃ (all-ok _ _ s₃ (free-base s whole.0 whole.1 i p g h e empty n at s₂ k₂ b) e₃) s.regions i g byte)))))
