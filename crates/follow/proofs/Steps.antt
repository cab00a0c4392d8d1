-- What every call keeps (`Tracks`), and that each kind of step keeps it, whatever was seen: trackers have their form, a region's range is not empty, and of
-- every slot that is spoken of (`claimed`) and every count an update with its mark is queued or what was seen is exact. Trackers change only where a walk is
-- put back; there the marks join the domain's update, and in the counts that it does not mark a walk is quiet. Of a closing domain nothing is queued, and
-- nothing is claimed. Nothing here asks for sound tables: a slot without a domain reads as one with an empty tracker.
use Rattle.std.specs.Prelude.{◌≡◌, refl, ◌⊎◌, ℕ, zero, suc, ◌<◌, Bool, true, false, not, ◌||◌, List, [], ◌∷◌, ◌++◌, map, T, ltb, set}
use Rattle.std.proofs.Common.{ap, subst, ◌∙◌, inl, inr}
use Rattle.std.proofs.Math.Option.{Option, some, get_or}
use Rattle.std.proofs.Math.Decide.{ℕ_discrete}
use Rattle.std.proofs.Math.Dec.{eqb, eqb→eq}
use Rattle.base.specs.Cases.{holds, fails, test}
use Rattle.base.specs.Tests.{true-is}
use Rattle.model.specs.Lists.{exists, at_slot}
use Rattle.model.specs.State.{State, Pool, Domain, Region, Record, Access, Update, permission, none_domain, none_region, domain_at, region_at, put_domain, with_regions, with_tracker, with_record_pool}
use Rattle.model.specs.Fields.{Field, is_marked}
use Rattle.model.specs.Pool.{handle_of}
use Rattle.model.specs.Tracker.{Walk}
use Rattle.model.specs.Tree.{is_carve}
use Rattle.model.specs.Updates.{push, is_permission_of, gather, push_permission}
use Rattle.model.specs.Counts.{counts_at}
use Rattle.model.specs.Regions.{put_walk, activate, deactivate}
use Rattle.laws.specs.Accepted.{All, accepted, bind, branch-on, and_then}
use Rattle.laws.specs.Tracker.Form.{Form}
use Rattle.laws.specs.Tracker.Marks.{marked-none}
use Rattle.follow.specs.Writer.{Seen, is_permission_with, is_queued_with}
use Rattle.follow.proofs.Quiet.{Count, count, teller, Alike, Quiet, gain-quiet, lose-quiet}
use Rattle.follow.proofs.Queue.{any-more, pushed-with, gathered-keeps, gathered-with}

-- what was seen of a count: of slot d at an address
abbrev pub seen : Count → Seen → ℕ → ℕ → Bool
seen (Count.Of f) v d a = v.above d a f
seen Count.Uncacheable v d a = v.uncacheable d a

-- it is what tracker l has, at every address
abbrev pub Fits : Seen → ℕ → Count → List Record → Type 0
Fits v d x l = (a : ℕ) → ltb 0 (count x (counts_at l a)) ≡ seen x v d a

-- q f says whether an update with the mark of field f is queued
abbrev pub QueuedOrExact : Seen → ℕ → Count → (Field → Bool) → List Record → Type 0
QueuedOrExact v d x q l = T (q (teller x)) ⊎ Fits v d x l

-- A region's range is not empty. A slot without a region reads as a root that ends at address 0.
abbrev pub Proper : Region → Type 0
Proper g = (0 < g.end → g.start < g.end) × (T (is_carve g.kind) → g.start < g.end)

pub record Tracks (claimed : ℕ → Type 0) (v : Seen) (s : State) : Type 0 where
  pub form : (d : ℕ) → Form (domain_at s d).tracker
  pub ranges : (i : ℕ) → Proper (region_at s i)
  pub queued_or_exact : (d : ℕ) → claimed d → (x : Count) → QueuedOrExact v d x (λ f. is_queued_with f s d) (domain_at s d).tracker

-- fewer slots are spoken of
pub tracks-fewer : (claimed fewer : ℕ → Type 0) (v : Seen) (s : State) → ((d : ℕ) → fewer d → claimed d) → Tracks claimed v s → Tracks fewer v s
tracks-fewer claimed fewer v s f h = record { form = h.form; ranges = h.ranges; queued_or_exact = λ d c. h.queued_or_exact d (f d c) }

-- no closing domain is spoken of
abbrev pub Apart : (ℕ → Type 0) → List ℕ → Type 0
Apart claimed closing = (d : ℕ) → claimed d → T (not (exists (eqb d) closing))

pub none-closing : (claimed : ℕ → Type 0) → Apart claimed []
none-closing claimed d c = tt

-- ---- one slot of a table is written

pub set_reads : {A : Type 0} (P : Option A → Type 0) (l : List (Option A)) (i k : ℕ) (x : Option A) → P (at_slot l k) → (k ≡ i → P x) → P (at_slot (set l i x) k)
set_reads P [] i k x h f = h
set_reads P (y ∷ l) zero zero x h f = f refl
set_reads P (y ∷ l) zero (suc k) x h f = h
set_reads P (y ∷ l) (suc i) zero x h f = h
set_reads P (y ∷ l) (suc i) (suc k) x h f = set_reads P l i k x h (λ e. f (ap suc e))

module _ {claimed : ℕ → Type 0} (v : Seen) (s : State) (tracks : Tracks claimed v s) where
  -- the regions: whatever is written has a proper range
  pub region-tracks : (p : Pool) (i : ℕ) (x : Option Region) → Proper (get_or x none_region) → Tracks claimed v (with_regions p (set s.regions i x) s)
  region-tracks p i x h = record { form = tracks.form; ranges = λ k. set_reads (λ o. Proper (get_or o none_region)) s.regions i k x (tracks.ranges k) (λ e. h); queued_or_exact = tracks.queued_or_exact }

  -- a domain is put back with the tracker that it had
  pub domain-tracks : (d : ℕ) (y : Domain) → y.tracker ≡ (domain_at s d).tracker → Tracks claimed v (put_domain d y s)
  domain-tracks d y e = record {
    form = λ k. set_reads (λ o. Form (get_or o none_domain).tracker) s.domains d k (some y) (tracks.form k) (λ m. rw e (tracks.form d));
    ranges = tracks.ranges;
    queued_or_exact = λ k c x. set_reads (λ o. QueuedOrExact v k x (λ f. is_queued_with f s k) (get_or o none_domain).tracker) s.domains d k (some y) (tracks.queued_or_exact k c x) (λ m. rw (e, m) (tracks.queued_or_exact d (subst claimed m c) x));
  }

-- ---- an update joins the queue

-- Is field f of slot d marked among these updates?
abbrev marked : State → List Update → ℕ → Field → Bool
marked s us d f = exists (is_permission_with f (handle_of s.domain_pool d)) us

-- another queue, in which what was marked is
queued-more : (v : Seen) (d : ℕ) (x : Count) (q r : Field → Bool) (l : List Record) → ((f : Field) → T (q f) → T (r f)) → QueuedOrExact v d x q l → QueuedOrExact v d x r l
queued-more v d x q r l m (inl t) = inl (m (teller x) t)
queued-more v d x q r l m (inr h) = inr h

pub push-tracks : {claimed : ℕ → Type 0} (v : Seen) (u : Update) (s : State) → Tracks claimed v s → All (Tracks claimed v) (push u s)
unfolding push
push-tracks v u s h = and_then _ (accepted (record {
  form = h.form;
  ranges = h.ranges;
  queued_or_exact = λ d c x. queued-more v d x (λ f. is_queued_with f s d) (marked s (s.queue.items ++ (u ∷ [])) d) (domain_at s d).tracker (λ f. any-more (is_permission_with f (handle_of s.domain_pool d)) s.queue.items u) (h.queued_or_exact d c x);
}))

-- ---- a walk is put back

-- Of those spoken of, slot d is the only one of which more may be stored than was told, and there the counts with a mark in m.
record But (claimed : ℕ → Type 0) (v : Seen) (d m : ℕ) (s : State) : Type 0 where
  form : (k : ℕ) → Form (domain_at s k).tracker
  ranges : (i : ℕ) → Proper (region_at s i)
  queued_or_exact : (k : ℕ) → claimed k → (x : Count) → (k ≡ d → T (not (is_marked (teller x) m))) → QueuedOrExact v k x (λ f. is_queued_with f s k) (domain_at s k).tracker

-- With updates us the marks m are queued, and those that were are still.
joined : {claimed : ℕ → Type 0} (v : Seen) (d m : ℕ) (s : State) (us : List Update) → But claimed v d m s → ((f : Field) → T (is_marked f m) → T (marked s us d f)) → ((k : ℕ) (f : Field) → T (is_queued_with f s k) → T (marked s us k f)) → (k : ℕ) → claimed k → (x : Count) → QueuedOrExact v k x (marked s us k) (domain_at s k).tracker
joined v d m s us b own more k c x =
    let others = queued-more v k x (λ f. is_queued_with f s k) (marked s us k) (domain_at s k).tracker (more k) in
    elim (ℕ_discrete k d) [
      | yes e ↦ elim (test (is_marked (teller x) m)) [
        | holds t ↦ rw e (inl (own (teller x) (true-is t)))
        | fails t ↦ others (b.queued_or_exact k c x (λ e. rw t tt))
      ]
      | no n ↦ others (b.queued_or_exact k c x (λ e. absurd (n e)))
    ]

queue-tracks : {claimed : ℕ → Type 0} (v : Seen) (d m : ℕ) (s : State) → But claimed v d m s → All (Tracks claimed v) (push_permission d m s)
unfolding push_permission push
queue-tracks v d m s b =
    let h = handle_of s.domain_pool d in
    let us = s.queue.items in
    let u = permission h (domain_at s d).cores m in
    branch-on (exists (is_permission_of h) us)
    (λ t. accepted (record {
      form = b.form;
      ranges = b.ranges;
      queued_or_exact = joined v d m s (map (gather h m) us) b (λ f e. gathered-with f h m us e t) (λ k f. gathered-keeps f h m (handle_of s.domain_pool k) us);
    }))
    (λ t. and_then _ (accepted (record {
      form = b.form;
      ranges = b.ranges;
      queued_or_exact = joined v d m s (us ++ (u ∷ [])) b (λ f. pushed-with f h m (domain_at s d).cores us) (λ k f. any-more (is_permission_with f (handle_of s.domain_pool k)) us u);
    })))

alike-exact : (v : Seen) (d : ℕ) (x : Count) (q : Field → Bool) (l m : List Record) → ((a : ℕ) → Alike x (counts_at m a) (counts_at l a)) → QueuedOrExact v d x q l → QueuedOrExact v d x q m
alike-exact v d x q l m e (inl t) = inl t
alike-exact v d x q l m e (inr h) = inr (λ a. e a ∙ h a)

-- where nothing is claimed of the slot, or nothing is marked, nothing is queued
none-tracks : {claimed : ℕ → Type 0} (v : Seen) (d m : ℕ) (s : State) → (claimed d → m ≡ 0) → But claimed v d m s → Tracks claimed v s
none-tracks {claimed} v d m s e b = record { form = b.form; ranges = b.ranges; queued_or_exact = λ k c x. b.queued_or_exact k c x (λ n. rw (e (subst claimed n c), marked-none (teller x)) tt) }

-- the second of two tests holds where one does and not the first
or-second : (a b : Bool) → T (a || b) → T (not a) → T b
or-second true b t n = absurd n
or-second false b t n = t

module _ {claimed : ℕ → Type 0} (closing : List ℕ) (apart : Apart claimed closing) (v : Seen) (s : State) (tracks : Tracks claimed v s) (d : ℕ) where
  walk-but : (w : Walk) → Quiet (domain_at s d).tracker w → But claimed v d w.marks (with_record_pool w.pool (put_domain d (with_tracker w.records (domain_at s d)) s))
  walk-but w q =
      let y = with_tracker w.records (domain_at s d) in
      record {
        form = λ k. set_reads (λ o. Form (get_or o none_domain).tracker) s.domains d k (some y) (tracks.form k) (λ e. q.form);
        ranges = tracks.ranges;
        queued_or_exact = λ k c x t. set_reads (λ o. QueuedOrExact v k x (λ f. is_queued_with f s k) (get_or o none_domain).tracker) s.domains d k (some y) (tracks.queued_or_exact k c x)
            (λ e. rw e (alike-exact v d x (λ f. is_queued_with f s d) (domain_at s d).tracker w.records (q.alike x (t e)) (tracks.queued_or_exact d (subst claimed e c) x)));
      }

  walk-tracks : (w : Walk) → Quiet (domain_at s d).tracker w → All (Tracks claimed v) (put_walk closing d w s)
  unfolding put_walk
  walk-tracks w q = branch-on (exists (eqb d) closing || eqb w.marks 0)
      (λ t. accepted (none-tracks v d w.marks _ (λ c. eqb→eq w.marks 0 (or-second (exists (eqb d) closing) (eqb w.marks 0) t (apart d c))) (walk-but w q)))
      (λ t. queue-tracks v d w.marks _ (walk-but w q))

  pub activate-tracks : (a : Access) → a.start < a.end → All (Tracks claimed v) (activate closing d a s)
  unfolding activate
  activate-tracks a z = bind (gain-quiet a.rights a.start a.end (domain_at s d).tracker s.record_pool (tracks.form d) z) walk-tracks

  pub deactivate-tracks : (a : Access) → (0 < a.end → a.start < a.end) → All (Tracks claimed v) (deactivate closing d a s)
  unfolding deactivate
  deactivate-tracks a z = bind (lose-quiet a.rights a.start a.end (domain_at s d).tracker s.record_pool (tracks.form d) z) walk-tracks
