-- The law: the test of lent tables is exact (document 01, **Sound**), and each of three groups of it by itself: what is outside the trackers and the
-- ring; the ring; and, where the first holds, the trackers with their pool. Within the first the tree leans on the pools, the capabilities on both.
-- What no group tests follows from the sizes and from that memory holds words.
use Rattle.std.specs.Prelude.{◌≡◌, ◌↔◌, true, List, ℕ}
use Rattle.std.proofs.Common.{sym, ◌∙◌}
use Rattle.std.proofs.Math.Path.{subst}
use Rattle.base.specs.Tests.{both_true, both-i}
use Rattle.model.specs.Lists.{Each}
use Rattle.model.specs.State.{State, Domain, Word}
use Rattle.model.specs.Layout.{words}
use Rattle.model.specs.Sound.{OutsideSound, TrackersSound, QueueSound, Sound}
use Rattle.laws.specs.Words.Unique.{words-unique}
use Rattle.tables.specs.Tables.{Tables}
use Rattle.tables.specs.View.{view, Sized}
use Rattle.sizes.specs.Tests.{sized_b}
use Rattle.tables.specs.Tests.{sized-true, true-sized}
use Rattle.decoded.specs.Rows.{map-up-length}
use Rattle.decoded.specs.Sizes.{limits-good}
use Rattle.decoded.specs.Shape.{Shaped}
use Rattle.decoded.specs.Decode.Read.{pool_from, domain_read, domains_from, regions_from, sizes_from, state_of}
use Rattle.decoded.specs.Canonical.WellFormed.{OutsideWellFormed, TrackersWellFormed, QueueWellFormed}
use Rattle.decoded.specs.Canonical.Pools.{table-in}
use Rattle.decoded.specs.Canonical.Words.{SoundWords, view-shaped, well-formed-words, words-well-formed}
use Rattle.sound_pools.specs.Hold.{outside_pools_hold, record_pool_holds}
use Rattle.sound_tree.specs.Tree.{tree_holds}
use Rattle.sound_hashes.specs.Hashes.{hashes_hold}
use Rattle.sound_interfaces.specs.Interfaces.{interfaces_hold}
use Rattle.sound_capas.specs.Capas.{capas_hold}
use Rattle.sound_queue.specs.Ring.{queue_holds}
use Rattle.sound_trackers.specs.Trackers.{trackers_hold}
use Rattle.exact_pools.specs.Law.{pools-exact, sound-pools, record-pool-exact, sound-record-pool}
use Rattle.exact_tree.specs.Law.{holds-tree}
use Rattle.exact_tree.specs.Words.{words-tree}
use Rattle.exact_hashes.specs.Law.{hashes-exact}
use Rattle.exact_interfaces.specs.Law.{interfaces-exact}
use Rattle.exact_capas.specs.Words.{view-stored}
use Rattle.exact_capas.specs.Clauses.{all-before}
use Rattle.exact_capas.specs.Full as capas
use Rattle.exact_queue.specs.Words.{ring-stored}
use Rattle.exact_queue.specs.Queue as queue
use Rattle.exact_trackers.specs.Law.{trackers-exact}
use Rattle.sound_outside.specs.Test.{outside_holds}
use Rattle.sound.specs.Test.{tracked_holds, groups_hold, is_sound}
use Rattle.exact.specs.Gens.{domain-gens, region-gens, record-gens, interface-words}

-- ---- the three groups of the test

-- the clause of `Sound` about the ring
abbrev pub QueueClause : Tables → Type 0
QueueClause v = QueueSound v.sizes.updates (state_of v).domain_pool (state_of v).domains (state_of v).queue

record Groups (v : Tables) : Type 0 where
  outside : outside_holds v ≡ true
  tracked : tracked_holds v ≡ true
  queue : queue_holds v ≡ true

groups : (v : Tables) → groups_hold v ≡ true → Groups v
groups v h =
    let a = both_true (outside_holds v) _ h in
    let b = both_true (queue_holds v) (tracked_holds v) a.1 in
    record { outside = a.0; tracked = b.1; queue = b.0 }

-- ---- words that pass

module _ (t : List ℕ) (stored : Each Word t) (z : Sized t) where
  abbrev v : Tables
  v = view t

  shaped : Shaped v
  shaped = view-shaped t z

  pub outside-holds : outside_holds v ≡ true → OutsideWellFormed v × OutsideSound (state_of v)
  unfolding state_of pool_from domains_from regions_from
  outside-holds h =
      let a = both_true (outside_pools_hold v) _ h in
      let b = both_true (tree_holds v) _ a.1 in
      let c = both_true (hashes_hold v) _ b.1 in
      let e = both_true (interfaces_hold v) (capas_hold v) c.1 in
      let pools = (pools-exact v shaped).0 a.0 in
      let tree = words-tree t z stored (record { regions_free = pools.regions_free }) b.0 in
      let held = (capas.capas-exact v (record { shaped = shaped; domain_pool = pools.domain_pool; region_pool = pools.region_pool; domains_once = pools.domain_once; regions_once = pools.region_once; regions_used = tree.regions_used }) (view-stored t stored)).0 e.1 in
      let hashes = (hashes-exact v).0 c.0 in
      let interfaces = (interfaces-exact v).0 e.0 in (
        record {
          domain_pool = pools.domain_pool;
          region_pool = pools.region_pool;
          domains_used = pools.domains_used;
          domains_free = pools.domains_free;
          regions_used = tree.regions_used;
          regions_free = pools.regions_free;
          hashes_used = hashes.hashes_used;
          hashes_free = hashes.hashes_free;
          interfaces_used = interfaces.interfaces_used;
          interfaces_free = interfaces.interfaces_free;
        },
        record {
          sizes_good = limits-good (sizes_from v.sizes) shaped.limits;
          domains_length = map-up-length _ v.sizes.domains;
          regions_length = map-up-length _ v.sizes.regions;
          domain_pool = record { gens_length = shaped.domain_pool.gens; gens_words = domain-gens t stored; once = pools.domain_once };
          region_pool = record { gens_length = shaped.region_pool.gens; gens_words = region-gens t stored; once = pools.region_once };
          regions = tree.regions;
          owners = held.owners;
          managers = held.managers;
          lists = λ d x e. let l = pools.lists d x e in record { held_length = l.0; once = l.1; revokes_fit = held.revokes_fit d x e; handles_fit = held.handles_fit d x e };
          cores_words = held.cores_words;
          interface_words = λ d x e. let y = table-in v.sizes.domains v.domain_pool (domain_read v) d x e in subst (λ (z : Domain). Word z.interface.word) y.2 (interface-words t stored d);
        },
      )

  pub tracked-holds : OutsideSound (state_of v) → tracked_holds v ≡ true → TrackersWellFormed v × TrackersSound (state_of v)
  unfolding state_of pool_from
  tracked-holds o h =
      let a = both_true (record_pool_holds v) (trackers_hold v) h in
      let pool = (record-pool-exact v shaped).0 a.0 in (
        pool.well_formed,
        record {
          record_pool = record { gens_length = shaped.record_pool.gens; gens_words = record-gens t stored; once = pool.record_once };
          trackers = (trackers-exact v (record { shaped = shaped; trackers_end = pool.well_formed.trackers_end; regions = o.regions; owners = o.owners })).0 a.1;
        },
      )

  pub queued-holds : queue_holds v ≡ true → QueueWellFormed v × QueueClause v
  queued-holds h = let q = (queue.ring-exact v shaped (ring-stored t stored)).0 h in (q.well_formed, q.queue)

  passed_words : Groups v → SoundWords t
  unfolding state_of
  passed_words g =
      let o = outside-holds g.outside in
      let k = tracked-holds o.1 g.tracked in
      let q = queued-holds g.queue in
      well-formed-words t z (record { outside = o.0; tracked = k.0; queue = q.0 }) (record { outside = o.1; tracked = k.1; queue = q.1 })

-- ---- words that are right pass

hold-outside : (v : Tables) → Shaped v → OutsideWellFormed v → OutsideSound (state_of v) → outside_holds v ≡ true
hold-outside v s t h =
    both-i (outside_pools_hold v) _ ((pools-exact v s).1 (sound-pools v t h))
    (both-i (tree_holds v) _ (holds-tree v s t h)
    (both-i (hashes_hold v) _ ((hashes-exact v).1 (record { hashes_used = t.hashes_used; hashes_free = t.hashes_free }))
    (both-i (interfaces_hold v) (capas_hold v) ((interfaces-exact v).1 (record { interfaces_used = t.interfaces_used; interfaces_free = t.interfaces_free })) (capas.clauses-pass v (all-before v s t h) (capas.sound-capas v h)))))

hold-tracked : (v : Tables) → Shaped v → OutsideSound (state_of v) → TrackersWellFormed v → TrackersSound (state_of v) → tracked_holds v ≡ true
hold-tracked v s o t h =
    both-i (record_pool_holds v) (trackers_hold v) ((record-pool-exact v s).1 (sound-record-pool v t h))
    ((trackers-exact v (record { shaped = s; trackers_end = t.trackers_end; regions = o.regions; owners = o.owners })).1 h.trackers)

-- ---- both ways: each group, and the whole

module _ (t : List ℕ) (stored : Each Word t) (z : Sized t) where
  pub outside-exact : (outside_holds (view t) ≡ true) ↔ (OutsideWellFormed (view t) × OutsideSound (state_of (view t)))
  outside-exact = (outside-holds t stored z, λ (d, h). hold-outside (view t) (view-shaped t z) d h)

  pub tracked-exact : OutsideSound (state_of (view t)) → (tracked_holds (view t) ≡ true) ↔ (TrackersWellFormed (view t) × TrackersSound (state_of (view t)))
  tracked-exact o = (tracked-holds t stored z o, λ (d, h). hold-tracked (view t) (view-shaped t z) o d h)

  pub queue-exact : (queue_holds (view t) ≡ true) ↔ (QueueWellFormed (view t) × QueueClause (view t))
  queue-exact = (queued-holds t stored z, λ (d, h). queue.clauses-pass (view t) (view-shaped t z) d h)

pub sound-words : (t : List ℕ) → Each Word t → is_sound t ≡ true → SoundWords t
unfolding is_sound
sound-words t stored h =
    let a = both_true (sized_b t) (groups_hold (view t)) h in
    passed_words t stored (sized-true t a.0) (groups (view t) a.1)

pub words-sound : (t : List ℕ) → SoundWords t → is_sound t ≡ true
unfolding is_sound state_of
words-sound t x =
    let (z, d, h) = words-well-formed t x in
    let v = view t in
    let s = view-shaped t z in
    both-i (sized_b t) (groups_hold v) (true-sized t z)
    (both-i (outside_holds v) _ (hold-outside v s d.outside h.outside) (both-i (queue_holds v) (tracked_holds v) (queue.clauses-pass v s d.queue h.queue) (hold-tracked v s h.outside d.tracked h.tracked)))

-- The test says yes exactly of the words of a sound state.
pub sound-exact : (t : List ℕ) → Each Word t → (is_sound t ≡ true) ↔ SoundWords t
sound-exact t stored = (sound-words t stored, words-sound t)

-- the state is one
pub sound-only : (t : List ℕ) (s s' : State) → Sound s → Sound s' → t ≡ words s → t ≡ words s' → s ≡ s'
sound-only t s s' h h' e e' = words-unique s s' h h' (sym e ∙ e')
