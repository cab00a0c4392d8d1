-- A law of the queue (document 02, request 4): a queued domain gathers marks, by union, and "Domain, core map and place in the queue are as before".
-- So gathering keeps the queue sound: the same domains are queued, in the same order, and five bits stay five bits.
use Rattle.std.specs.Prelude.{◌≡◌, refl, ℕ, ◌<◌, Bool, true, false, ◌&&◌, ◌||◌, List, [], ◌∷◌, map, length, if◌then◌else◌}
use Rattle.std.proofs.Common.{sym, ap, ap₂, ◌∙◌, arith}
use Rattle.std.proofs.Math.Bool.{or-false}
use Rattle.std.proofs.Math.Option.{Option}
use Rattle.std.proofs.lemmas.List.{length-map}
use Rattle.rights.specs.Rights.{union}
use Rattle.model.specs.Lists.{one_if, exists, count_if}
use Rattle.model.specs.State.{Handle, Pool, Domain, Update, permission, cleanup, Queue}
use Rattle.model.specs.Fields.{Field, is_marked}
use Rattle.model.specs.Pool.{same_handle}
use Rattle.model.specs.Updates.{is_permission_of, gather}
use Rattle.model.specs.Sound.{QueuedFit, Singly, UpdateWords, QueueSound}
use Rattle.laws.specs.Lists.{each_map}
use Rattle.laws.specs.Tracker.Marks.{marked-union, union-small}

-- ---- what the request says

-- an update but for its marks, and the marks; a range to be cleaned up has none
abbrev pub without_marks : Update → Update
without_marks (permission k cores marks) = permission k cores 0
without_marks (cleanup a b) = cleanup a b

abbrev pub marks_of : Update → ℕ
marks_of (permission k cores marks) = marks
marks_of (cleanup a b) = 0

module _ (h : Handle) (m : ℕ) where
  keeps-one : (u : Update) → without_marks (gather h m u) ≡ without_marks u
  keeps-one (permission k cores marks) = refl
  keeps-one (cleanup a b) = refl

  -- "Domain, core map and place in the queue are as before"
  pub gather-keeps : (us : List Update) → map without_marks (map (gather h m) us) ≡ map without_marks us
  gather-keeps [] = refl
  gather-keeps (u ∷ us) = ap₂ ◌∷◌ (keeps-one u) (gather-keeps us)

  pub gather-length : (us : List Update) → length (map (gather h m) us) ≡ length us
  gather-length us = length-map us (gather h m)

  -- what does not queue the domain is as it was
  pub gather-other : (u : Update) → is_permission_of h u ≡ false → gather h m u ≡ u
  gather-other (permission k cores marks) e = rw e
  gather-other (cleanup a b) e = refl

  -- "by union": a field is marked where it was marked before, and in the domain's entry where it is one of the marks that join
  marks-one : (f : Field) (u : Update) → is_marked f (marks_of (gather h m u)) ≡ (is_marked f (marks_of u) || (is_permission_of h u && is_marked f m))
  marks-one f (permission k cores marks) = joined (same_handle h k)
    where
      joined : (b : Bool) → is_marked f (if b then union marks m else marks) ≡ (is_marked f marks || (b && is_marked f m))
      joined true = marked-union f marks m
      joined false = sym (or-false (is_marked f marks))
  marks-one f (cleanup a b) = sym (or-false (is_marked f 0))

  pub gather-marks : (f : Field) (us : List Update) → map (λ u. is_marked f (marks_of u)) (map (gather h m) us) ≡ map (λ u. is_marked f (marks_of u) || (is_permission_of h u && is_marked f m)) us
  gather-marks f [] = refl
  gather-marks f (u ∷ us) = ap₂ ◌∷◌ (marks-one f u) (gather-marks f us)

  -- ---- a sound queue

  -- the same domains are queued
  pub gather-of : (k : Handle) (u : Update) → is_permission_of k (gather h m u) ≡ is_permission_of k u
  gather-of k (permission j cores marks) = refl
  gather-of k (cleanup a b) = refl

  pub gather-count : (k : Handle) (us : List Update) → count_if (is_permission_of k) (map (gather h m) us) ≡ count_if (is_permission_of k) us
  gather-count k [] = refl
  gather-count k (u ∷ us) = omega (arith, ap one_if (gather-of k u), gather-count k us)

  pub gather-exists : (k : Handle) (us : List Update) → exists (is_permission_of k) (map (gather h m) us) ≡ exists (is_permission_of k) us
  gather-exists k [] = refl
  gather-exists k (u ∷ us) = ap₂ ◌||◌ (gather-of k u) (gather-exists k us)

  pub gather-singly : (us : List Update) → Singly us → Singly (map (gather h m) us)
  gather-singly [] s = tt
  gather-singly (permission k cores marks ∷ us) s = (gather-count k us ∙ s.0, gather-singly us s.1)
  gather-singly (cleanup a b ∷ us) s = gather-singly us s

  pub gather-live : (p : Pool) (ds : List (Option Domain)) (u : Update) → QueuedFit p ds u → QueuedFit p ds (gather h m u)
  gather-live p ds (permission k cores marks) l = l
  gather-live p ds (cleanup a b) l = l

  pub gather-words : m < 32 → (u : Update) → UpdateWords u → UpdateWords (gather h m u)
  gather-words low (permission k cores marks) w = (w.0, w.1, w.2, small (same_handle h k))
    where
      small : (b : Bool) → (if b then union marks m else marks) < 32
      small true = union-small marks m w.3 low
      small false = w.3
  gather-words low (cleanup a b) w = w

  pub gather-queue : m < 32 → (n : ℕ) (p : Pool) (ds : List (Option Domain)) (q : Queue) → QueueSound n p ds q → QueueSound n p ds (record { read_place = q.read_place; items = map (gather h m) q.items })
  gather-queue low n p ds q k = record {
    read_place = k.read_place;
    fits = omega (arith, k.fits, gather-length q.items);
    handles_fit = each_map (gather h m) _ _ (gather-live p ds) q.items k.handles_fit;
    singly = gather-singly q.items k.singly;
    queued_words = each_map (gather h m) _ _ (gather-words low) q.items k.queued_words;
  }
