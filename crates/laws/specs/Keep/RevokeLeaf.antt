-- A revoke of a region without children keeps the trackers in agreement. It leaves its list, its domain loses its range, a carve's parent's domain gains it back,
-- and the slot is freed: then the trackers store the counts of the regions that are left.
use Rattle.std.specs.Prelude.{◌≡◌, ℕ, ◌-◌, ◌≤◌, ◌<◌}
use Rattle.std.proofs.Math.Path.{refl, ap, subst}
use Rattle.std.proofs.Common.{sym, ◌∙◌, arith, length-set, get_or-set_same}
use Rattle.std.proofs.Math.Option.{Option, none, some}
use mathlib.Core.List.{List, []}
use Rattle.std.proofs.Math.Dec.{T}
use Rattle.std.proofs.Math.ListN.{set}
use Rattle.model.specs.Lists.{is_some, at_slot, In, without}
use Rattle.rights.specs.Rights.{has, CLEANUP}
use Rattle.model.specs.Outcome.{ok}
use Rattle.model.specs.State.{State, Queue, Domain, Region, Kind, Root, Alias, Carve, parent_of, region_at, with_regions, with_queue, with_children}
use Rattle.model.specs.Fields.{Field}
use Rattle.model.specs.Tree.{access_of, remove_child}
use Rattle.model.specs.Counts.{stored_counts, region_count}
use Rattle.model.specs.Regions.{activate, deactivate, give_back, leave_parent, free_region, revoke_leaf}
use Rattle.laws.specs.Accepted.{All, accepted, bind, bind-any, branch}
use Rattle.laws.specs.Tracker.Fields.{Enough}
use Rattle.laws.specs.Tree.Slots.{in-length, live-is}
use Rattle.base.specs.Options.{none-some, some_same}
use Rattle.laws.specs.Tree.Shares.{share}
use Rattle.laws.specs.Tree.Facts.{Regions}
use Rattle.laws.specs.Tree.Change.{child_out}
use Rattle.laws.specs.Tree.Laws.{leaf-law, alias-removed, carve-removed}
use Rattle.laws.specs.Tree.Steps.{region-at, leave-regions}
use Rattle.laws.specs.Keep.SameDomains.{SameDomains, SameOutside, same-domains-self, same-domains-then, same-domains-live, same-outside-self, same-outside-then}
use Rattle.laws.specs.Keep.Tracked.{Tracked, tracked-same, push-queue, activate-tracked, deactivate-tracked, lost-le}
use Rattle.laws.specs.Keep.Agreement.{counts_over, TrackersAgree, queued-agree}
use Rattle.laws.specs.Keep.Activate.{include-stored}
use Rattle.laws.specs.Keep.Slots.{every-put, every-less}

-- ---- an update is queued

queued-aside : (s t : State) (q : Queue) → SameDomains s t → SameDomains s (with_queue q t)
queued-aside s t q b = record { sizes = b.sizes; domain_pool = b.domain_pool; size = b.size; domains = b.domains }

-- ---- the region leaves its list

module _ (P : State → Type 0) (i : ℕ) (s : State) (h : P s) (k : (p : ℕ) → P (remove_child p i s)) where
  leave-kind : (n : Kind) → P (elim n [ Root ↦ s | Alias p ↦ remove_child p i s | Carve p ↦ remove_child p i s ])
  leave-kind Root = h
  leave-kind (Alias p) = k p
  leave-kind (Carve p) = k p

  pub leave-all : P (leave_parent i s)
  unfolding leave_parent
  leave-all = leave-kind (region_at s i).kind

module _ (i : ℕ) (s : State) (T : Field → ℕ → ℕ → ℕ) (h : Tracked s T) where
  out-tracked : (p : ℕ) → Tracked (remove_child p i s) T × SameDomains s (remove_child p i s)
  unfolding remove_child
  out-tracked p = (record { form = h.form; counts = h.counts; pool = h.pool }, record { sizes = refl; domain_pool = refl; size = refl; domains = λ d. refl })

  leave-tracked : Tracked (leave_parent i s) T × SameDomains s (leave_parent i s)
  leave-tracked = leave-all (λ t. Tracked t T × SameDomains s t) i s (h, same-domains-self s) out-tracked

-- ---- what it had is given back

give-kind : (closing : List ℕ) → (P : State → Type 0) (s : State) (b e : ℕ) (k : Kind) (p : ℕ) → parent_of k ≡ some p → (k ≡ Alias p → P s) → (k ≡ Carve p → All P (activate closing (region_at s p).owner (record { start = b; end = e; rights = (region_at s p).rights }) s)) → All P (elim k [ Root ↦ ok s | Alias q ↦ ok s | Carve q ↦ activate closing (region_at s q).owner (record { start = b; end = e; rights = (region_at s q).rights }) s ])
give-kind closing P s b e Root p n u v = absurd (none-some none p refl n)
give-kind closing P s b e (Alias q) p n u v = accepted (u (ap Alias (some_same (some q) q p refl n)))
give-kind closing P s b e (Carve q) p n u v = let m : q ≡ p = some_same (some q) q p refl n in rw m (v (ap Carve m))

pub give_all : (closing : List ℕ) → (P : State → Type 0) (s : State) (g : Region) (p : ℕ) → parent_of g.kind ≡ some p → (g.kind ≡ Alias p → P s) → (g.kind ≡ Carve p → All P (activate closing (region_at s p).owner (record { start = g.start; end = g.end; rights = (region_at s p).rights }) s)) → All P (give_back closing g s)
unfolding give_back
give_all closing P s g p n u v = give-kind closing P s g.start g.end g.kind p n u v

-- ---- a region without children

module _ (s : State) (agree : TrackersAgree s) (i p : ℕ) (g h : Region) (e : In s.regions i g) (empty : g.children ≡ []) (n : parent_of g.kind ≡ some p) (at : In s.regions p h) where
  abbrev less : List (Option Region)
  less = set (child_out s.regions i p h) i none

  -- what is left once its domain has lost the range
  abbrev left : Field → ℕ → ℕ → ℕ
  left f d a = region_count f s.regions d a - share f (some g) d a

  abbrev pub out : State
  out = leave_parent i s

  pub out-beside : Tracked out (counts_over s.regions) × SameDomains s out
  out-beside = leave-tracked i s (counts_over s.regions) agree.tracked

  had : (a : ℕ) → g.start ≤ a → a < g.end → Enough g.rights (stored_counts out g.owner a)
  had a u v = include-stored out s.regions out-beside.0 g.owner a g.rights ((leaf-law s agree.regions i g e empty p h at n).1 a u v)

  -- the owner of a region, in tables where the domains are as live
  owner-in : (t : State) → SameDomains s t → (k : ℕ) (y : Region) → In s.regions k y → (x : Domain) × In t.domains y.owner x
  owner-in t b k y m = live-is (at_slot t.domains y.owner) (same-domains-live b y.owner (agree.owners k y m))

  counted : (f : Field) (d a : ℕ) → share f (some g) d a ≤ region_count f s.regions d a
  counted =
      let x = owner-in out out-beside.1 i g e in
      lost-le out (counts_over s.regions) left out-beside.0 g.owner x.0 x.1 (access_of g) (agree.regions i g e).nonempty had

  lost : (closing : List ℕ) → All (λ t. Tracked t left × SameOutside out t) (deactivate closing g.owner (access_of g) out)
  lost closing =
      let x = owner-in out out-beside.1 i g e in
      deactivate-tracked closing out (counts_over s.regions) left out-beside.0 g.owner x.0 x.1 (access_of g) (agree.regions i g e).nonempty (λ f d a. omega (arith, counted f d a)) had

  -- the parent without this child
  abbrev pub parent : Region
  parent = with_children (without i h.children) h

  out-regions : out.regions ≡ child_out s.regions i p h
  out-regions = leave-regions i p g h s e n at

  pub parent-there : (t : State) → SameOutside out t → In t.regions p parent
  parent-there t b = ap (λ (rs : List (Option Region)). at_slot rs p) (b.regions ∙ out-regions) ∙ get_or-set_same s.regions p (some parent) none (in-length s.regions p h at)

  given : (closing : List ℕ) (t : State) → Tracked t left → SameOutside out t → All (λ u. Tracked u (counts_over less) × SameOutside t u) (give_back closing g t)
  given closing t k b = give_all closing (λ u. Tracked u (counts_over less) × SameOutside t u) t g p n
      (λ m. (tracked-same t left (counts_over less) (λ f d a. omega (arith, alias-removed s agree.regions i g e empty p h at m f d a)) k, same-outside-self t))
      (λ m.
      let x = owner-in t (same-domains-then out-beside.1 b.same_domains) p h at in
      rw (region-at t p parent (parent-there t b)) (activate-tracked closing t left (counts_over less) k h.owner x.0 x.1 (record { start = g.start; end = g.end; rights = h.rights }) (agree.regions i g e).nonempty (λ f d a. omega (arith, carve-removed s agree.regions i g e empty p h at m f d a, counted f d a))))

  module _ (t : State) (b : SameDomains s t) where
    abbrev Owned : Region → Type 0
    Owned y = T (is_some (at_slot t.domains y.owner))

    still : (k : ℕ) (y : Region) → In s.regions k y → Owned y
    still k y m = same-domains-live b y.owner (agree.owners k y m)

    less-owned : (k : ℕ) (y : Region) → In less k y → Owned y
    less-owned = every-less Owned (child_out s.regions i p h) i (omega (arith, length-set s.regions p (some parent), in-length s.regions i g e)) (every-put Owned s.regions p (in-length s.regions p h at) still parent (still p h at))

  -- the slot is freed, and the trackers agree
  freed : (t : State) → Tracked t (counts_over less) → SameOutside out t → All (λ u. TrackersAgree u × SameDomains s u) (free_region i t)
  unfolding free_region
  freed t k b = bind-any _ (λ q.
      let gone : set t.regions i none ≡ less = ap (λ (rs : List (Option Region)). set rs i none) (b.regions ∙ out-regions) in
      let b' = same-domains-then out-beside.1 b.same_domains in
      accepted (
        record {
          tracked = subst (λ rs. Tracked (with_regions q (set t.regions i none) t) (counts_over rs)) (sym gone) (record { form = k.form; counts = k.counts; pool = k.pool });
          regions = subst Regions (sym gone) (leaf-law s agree.regions i g e empty p h at n).0;
          owners = subst (λ (rs : List (Option Region)). (j : ℕ) (y : Region) → In rs j y → T (is_some (at_slot t.domains y.owner))) (sym gone) (less-owned t b');
        },
        record { sizes = b'.sizes; domain_pool = b'.domain_pool; size = b'.size; domains = b'.domains },
      ))

  pub revoke-leaf-agree : (closing : List ℕ) → All (λ t. TrackersAgree t × SameDomains s t) (revoke_leaf closing i s)
  unfolding revoke_leaf
  revoke-leaf-agree closing = rw (region-at s i g e) (
      bind (lost closing) (λ s₁ (k, b).
      bind (given closing s₁ k b) (λ s₂ (k₂, b₂).
      bind (freed s₂ k₂ (same-outside-then b b₂)) (λ s₃ (r, c).
      branch (has g.rights CLEANUP) (push-queue _ _ s₃ (λ q. (queued-agree s₃ q r, queued-aside s s₃ q c))) (accepted (r, c))))))
