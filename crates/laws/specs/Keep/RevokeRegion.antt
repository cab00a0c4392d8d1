-- A revoke of a region and all below it keeps the trackers in agreement, and the ring and the pools sound. The domains that lose and gain are owners of live regions,
-- so they are live; the range that it queues is a live region's, so its ends are words. The walk over all below it is `revoke-all`.
use Rattle.std.specs.Prelude.{◌≡◌, ℕ, List, [], T}
use Rattle.std.proofs.Math.Path.{refl}
use Rattle.std.proofs.Common.{sym, subst, ◌∙◌}
use Rattle.std.proofs.Math.Option.{Option, some}
use Rattle.model.specs.Lists.{is_some, at_slot, In}
use Rattle.rights.specs.Rights.{has, CLEANUP}
use Rattle.model.specs.State.{State, Sizes, Pool, Region, parent_of}
use Rattle.model.specs.Tree.{access_of, remove_child}
use Rattle.model.specs.Regions.{give_back, leave_parent, free_region, revoke_leaf, revoke_region, live_count}
use Rattle.laws.specs.Accepted.{All, accepted, bind, weaken, both, branch}
use Rattle.laws.specs.Tree.Slots.{in-length, live-is, is_live_lem}
use Rattle.laws.specs.Tree.Change.{child_out}
use Rattle.laws.specs.Tree.Steps.{region-at, leave-regions}
use Rattle.laws.specs.Tree.Below.{Revoked}
use Rattle.laws.specs.Tree.Revoke.{Leaves, revoke-all}
use Rattle.laws.specs.Keep.SameDomains.{SameDomains, SameOutside, same-domains-self, same-domains-then, same-domains-live, same-outside-self, same-outside-then}
use Rattle.laws.specs.Keep.Agreement.{TrackersAgree}
use Rattle.laws.specs.Keep.RevokeLeaf.{leave-all, give_all, out-beside, parent, parent-there, revoke-leaf-agree}
use Rattle.laws.specs.Keep.Slots.{taken-alive}
use Rattle.laws.specs.Keep.Pools.{Table, table-put, table-frees}
use Rattle.laws.specs.Keep.Base.{Base, same-domains-base, cleanup-base}
use Rattle.laws.specs.Keep.BaseSteps.{gained-base, lost-base}
use Rattle.laws.specs.Keep.Whole.{Whole}

-- ---- a region without children is revoked

leave_same : (i : ℕ) (s : State) → ((leave_parent i s).queue ≡ s.queue) × ((leave_parent i s).region_pool ≡ s.region_pool) × ((leave_parent i s).sizes ≡ s.sizes)
unfolding remove_child
leave_same i s = leave-all (λ t. (t.queue ≡ s.queue) × (t.region_pool ≡ s.region_pool) × (t.sizes ≡ s.sizes)) i s (refl, refl, refl) (λ p. (refl, refl, refl))

module _ (s : State) (agree : TrackersAgree s) (r : Base s) (i p : ℕ) (g h : Region) (e : In s.regions i g) (empty : g.children ≡ []) (n : parent_of g.kind ≡ some p) (at : In s.regions p h) where
  left : SameDomains s (leave_parent i s)
  left = (out-beside s agree i p g h e empty n at).1

  abbrev less : List (Option Region)
  less = child_out s.regions i p h

  less-there : (leave_parent i s).regions ≡ less
  less-there = leave-regions i p g h s e n at

  less-table : Table s.sizes.regions less s.region_pool
  less-table = table-put s.sizes.regions s.regions s.region_pool r.regions p h _ at (in-length s.regions p h at)

  pub leave-base : Base (leave_parent i s)
  leave-base =
      let (q, z, m) = leave_same i s in
      let k = subst (λ (w : Sizes). Table w.regions less s.region_pool) (sym m) less-table in
      let k₁ = subst (λ (w : Pool). Table (leave_parent i s).sizes.regions less w) (sym z) k in
      same-domains-base s (leave_parent i s) left q (subst (λ rs. Table (leave_parent i s).sizes.regions rs (leave_parent i s).region_pool) (sym less-there) k₁) r

  pub given-base : (closing : List ℕ) (t : State) → Base t → SameOutside (leave_parent i s) t → All (λ u. Base u × SameOutside t u) (give_back closing g t)
  given-base closing t k b = give_all closing (λ u. Base u × SameOutside t u) t g p n (λ m. (k, same-outside-self t)) (λ m.
      rw (region-at t p (parent s agree i p g h e empty n at) (parent-there s agree i p g h e empty n at t b)) (gained-base closing t h.owner (k, same-domains-live (same-domains-then left b.same_domains) h.owner (agree.owners p h at)) _))

  -- the slot is still in use
  slot-there : (t : State) → SameOutside (leave_parent i s) t → (y : Region) × In t.regions i y
  slot-there t b = live-is (at_slot t.regions i) (subst (λ (rs : List (Option Region)). T (is_some (at_slot rs i))) (sym (b.regions ∙ less-there)) (taken-alive s.regions p _ (in-length s.regions p h at) i (is_live_lem _ g e)))

  pub free-base : (t : State) → Base t → SameOutside (leave_parent i s) t → All Base (free_region i t)
  unfolding free_region
  free-base t k b =
      let (y, m) = slot-there t b in
      bind (table-frees t.sizes.regions t.regions t.region_pool k.regions i y m (in-length t.regions i y m)) (λ q z. accepted (same-domains-base t _ (record { sizes = refl; domain_pool = refl; size = refl; domains = λ d. refl }) refl z k))

  leaf-base : (closing : List ℕ) → All Base (revoke_leaf closing i s)
  unfolding revoke_leaf
  leaf-base closing =
      let z = agree.regions i g e in
      rw (region-at s i g e) (
      bind (lost-base closing (leave_parent i s) g.owner (leave-base, same-domains-live left g.owner (agree.owners i g e)) (access_of g)) (λ s₁ (k, b).
      bind (given-base closing s₁ k b) (λ s₂ (k₂, b₂).
      bind (free-base s₂ k₂ (same-outside-then b b₂)) (λ s₃ k₃.
      branch (has g.rights CLEANUP) (cleanup-base g.start g.end s₃ k₃ z.start_word z.end_word) (accepted k₃)))))

-- ---- the region and all below it

pub leaves-whole : (closing : List ℕ) (s : State) → Leaves closing (λ t. Whole t × SameDomains s t)
unfolding Leaves
leaves-whole closing s t i p g h ((k, r), b) q e empty n at = weaken (both (revoke-leaf-agree t k i p g h e empty n at closing) (leaf-base t k r i p g h e empty n at closing)) (λ u ((j, c), v). ((j, v), same-domains-then b c))

pub revoke-whole : (closing : List ℕ) → (s : State) → Whole s → (i p : ℕ) (g : Region) → In s.regions i g → parent_of g.kind ≡ some p → All (λ t. (Whole t × SameDomains s t) × Revoked s.regions i t.regions) (revoke_region closing (live_count s) i s)
revoke-whole closing s k i p g e n = revoke-all closing (λ t. Whole t × SameDomains s t) (leaves-whole closing s) s i p g (k, same-domains-self s) k.0.regions e n

-- ---- without the ring and the pools

leaves-agree : (closing : List ℕ) (s : State) → Leaves closing (λ t. TrackersAgree t × SameDomains s t)
unfolding Leaves
leaves-agree closing s t i p g h (k, b) r e empty n at = weaken (revoke-leaf-agree t k i p g h e empty n at closing) (λ u (j, c). (j, same-domains-then b c))

pub revoke-region-agree : (closing : List ℕ) → (s : State) → TrackersAgree s → (i p : ℕ) (g : Region) → In s.regions i g → parent_of g.kind ≡ some p → All (λ t. (TrackersAgree t × SameDomains s t) × Revoked s.regions i t.regions) (revoke_region closing (live_count s) i s)
revoke-region-agree closing s k i p g e n = revoke-all closing (λ t. TrackersAgree t × SameDomains s t) (leaves-agree closing s) s i p g (k, same-domains-self s) k.regions e n
