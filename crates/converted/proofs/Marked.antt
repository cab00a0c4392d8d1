-- A state where every queued domain has all five marks (document 02, request 4): what the converter makes of former tables, which have no marks.
use Rattle.std.specs.Prelude.{◌≡◌, refl, ℕ, List, [], ◌∷◌, map}
use Rattle.std.proofs.Common.{◌∙◌, arith}
use Rattle.std.proofs.Math.Option.{Option}
use Rattle.std.proofs.lemmas.List.{length-map}
use Rattle.model.specs.Lists.{count_if, Each}
use Rattle.model.specs.State.{Handle, Pool, Domain, Update, permission, cleanup, Queue, State}
use Rattle.model.specs.Updates.{is_permission_of}
use Rattle.model.specs.Sound.{QueuedFit, Singly, UpdateWords, QueueSound, Sound}
use Rattle.model.specs.Converting.{HasAllMarks, AllMarked}
use Rattle.laws.specs.Lists.{each_map}
use Rattle.book.specs.Book.{Book}
use Rattle.book.specs.Matches.{Matches, matches}
use Rattle.converted.specs.Marked.{mark_all, with_all_marks}

marked-items : (us : List Update) → Each HasAllMarks (map mark_all us)
marked-items [] = tt
marked-items (permission h cores marks ∷ us) = (refl, marked-items us)
marked-items (cleanup a b ∷ us) = (tt, marked-items us)

pub all-marked : (s : State) → AllMarked (with_all_marks s)
all-marked s = marked-items s.queue.items

-- ---- soundness

marked-count : (h : Handle) (us : List Update) → count_if (is_permission_of h) (map mark_all us) ≡ count_if (is_permission_of h) us
marked-count h [] = refl
marked-count h (permission k cores marks ∷ us) = omega (arith, marked-count h us)
marked-count h (cleanup a b ∷ us) = omega (arith, marked-count h us)

marked-singly : (us : List Update) → Singly us → Singly (map mark_all us)
marked-singly [] k = tt
marked-singly (permission h cores marks ∷ us) k = (marked-count h us ∙ k.0, marked-singly us k.1)
marked-singly (cleanup a b ∷ us) k = marked-singly us k

marked-live : (p : Pool) (ds : List (Option Domain)) (u : Update) → QueuedFit p ds u → QueuedFit p ds (mark_all u)
marked-live p ds (permission h cores marks) l = l
marked-live p ds (cleanup a b) l = l

marked-words : (u : Update) → UpdateWords u → UpdateWords (mark_all u)
marked-words (permission h cores marks) w = (w.0, w.1, w.2, omega arith)
marked-words (cleanup a b) w = w

marked-queue : (n : ℕ) (p : Pool) (ds : List (Option Domain)) (q : Queue) → QueueSound n p ds q → QueueSound n p ds (record { read_place = q.read_place; items = map mark_all q.items })
marked-queue n p ds q k = record {
  read_place = k.read_place;
  fits = omega (arith, k.fits, length-map q.items mark_all);
  handles_fit = each_map mark_all _ _ (marked-live p ds) q.items k.handles_fit;
  singly = marked-singly q.items k.singly;
  queued_words = each_map mark_all _ _ marked-words q.items k.queued_words;
}

pub sound-marked : (s : State) → Sound s → Sound (with_all_marks s)
sound-marked s h = let o = h.outside in record {
  outside = record {
    sizes_good = o.sizes_good;
    domains_length = o.domains_length;
    regions_length = o.regions_length;
    domain_pool = o.domain_pool;
    region_pool = o.region_pool;
    regions = o.regions;
    owners = o.owners;
    managers = o.managers;
    lists = o.lists;
    cores_words = o.cores_words;
    interface_words = o.interface_words;
  };
  tracked = record { record_pool = h.tracked.record_pool; trackers = h.tracked.trackers };
  queue = marked-queue s.sizes.updates s.domain_pool s.domains s.queue h.queue;
}

-- ---- the book

pub matches-marked : (b : Book) (s : State) → Matches b s → Matches b (with_all_marks s)
matches-marked b s m = let f = m.fits in matches b (with_all_marks s) m.at m.place (record { sizes = f.sizes; regions = f.regions; lists = f.lists; generations = f.generations })
