-- An update joins the queue, or a queued one gathers marks. Invariant: queued domains are live and queued singly, and what is queued are words.
use Rattle.std.specs.Prelude.{◌≡◌, refl, ℕ, ◌<◌, Bool, true, false, not, ◌||◌, List, [], ◌∷◌, ◌++◌, T, eqb, length}
use Rattle.std.proofs.Common.{sym, ap, ltb→lt, T_not, length-append}
use Rattle.std.proofs.Math.Path.{subst}
use Rattle.std.proofs.Math.Option.{Option}
use native.Mathlib.Omega.{arith}
use Rattle.std.proofs.Math.Dec.{leb→le, not_T, eqb_refl}
use Rattle.std.specs.Float.Ieee.Fits.{and_l, and_r, and_i}
use Rattle.base.specs.Tests.{is_false}
use Rattle.model.specs.Lists.{one_if, exists, Each, In}
use Rattle.model.specs.State.{Word, Handle, Pool, Domain, State, Update, permission, cleanup, Queue, with_queue, domain_at}
use Rattle.model.specs.Pool.{handle_of, same_handle}
use Rattle.model.specs.Updates.{is_permission_of, push, push_permission}
use Rattle.model.specs.Sound.{QueuedFit, Singly, UpdateWords, QueueSound}
use Rattle.laws.specs.Accepted.{All, accepted, checked, branch-on}
use Rattle.laws.specs.Tree.Slots.{in-length}
use Rattle.laws.specs.Capas.Live.{handle-same, handle-live, live-fits}
use Rattle.laws.specs.Capas.Held.{Shares, Held}
use Rattle.laws.specs.Lists.{word_at, count-end, each-end}
use Rattle.laws.specs.Tree.Steps.{domain-at}
use Rattle.laws.specs.Gather.{gather-queue}

-- ---- a list with one more at its end

-- u is not the domain that v queues
abbrev Apart : Update → Update → Type 0
Apart u (permission k c m) = is_permission_of k u ≡ false
Apart u (cleanup a b) = Unit {0}

alone : (u : Update) → Singly (u ∷ [])
alone (permission h c m) = (refl, tt)
alone (cleanup a b) = tt

singly-end : (l : List Update) (u : Update) → Singly l → Each (Apart u) l → Singly (l ++ (u ∷ []))
singly-end [] u s e = alone u
singly-end (permission k c m ∷ l) u s e = (omega (arith, count-end (is_permission_of k) l u, s.0, ap one_if e.0), singly-end l u s.1 e.1)
singly-end (cleanup a b ∷ l) u s e = singly-end l u s e.1

apart-cleanup : (a b : ℕ) (l : List Update) → Each (Apart (cleanup a b)) l
apart-cleanup a b [] = tt
apart-cleanup a b (permission k c m ∷ l) = (refl, apart-cleanup a b l)
apart-cleanup a b (cleanup x y ∷ l) = (tt, apart-cleanup a b l)

or-none : (a b : Bool) → T (not (a || b)) → T (not a) × T (not b)
or-none true b t = absurd t
or-none false b t = (tt, t)

turned : (h k : Handle) → T (not (same_handle h k)) → same_handle k h ≡ false
turned h k t = is_false (not_T (same_handle k h) (λ u. T_not (same_handle h k) t (subst (λ x. T (same_handle x k)) (handle-same k h u) (and_i (eqb k.slot k.slot) (eqb k.generation k.generation) (eqb_refl k.slot) (eqb_refl k.generation)))))

apart-new : (h : Handle) (c m : ℕ) (l : List Update) → T (not (exists (is_permission_of h) l)) → Each (Apart (permission h c m)) l
apart-new h c m [] t = tt
apart-new h c m (permission k d n ∷ l) t = let (a, b) = or-none (same_handle h k) (exists (is_permission_of h) l) t in (turned h k a, apart-new h c m l b)
apart-new h c m (cleanup x y ∷ l) t = (tt, apart-new h c m l t)

-- ---- the queue

joined : (n : ℕ) (p : Pool) (ds : List (Option Domain)) (q : Queue) (u : Update) → QueueSound n p ds q → length q.items < n → QueuedFit p ds u → Each (Apart u) q.items → UpdateWords u → QueueSound n p ds (record { read_place = q.read_place; items = q.items ++ (u ∷ []) })
joined n p ds q u h l live apart words = record {
  read_place = h.read_place;
  fits = omega (arith, length-append q.items (u ∷ []));
  handles_fit = each-end (QueuedFit p ds) q.items u h.handles_fit live;
  singly = singly-end q.items u h.singly apart;
  queued_words = each-end UpdateWords q.items u h.queued_words words;
}

-- only the queue changes
abbrev pub SameBut : State → State → Type 0
SameBut s t = (q : Queue) × (t ≡ with_queue q s)

module _ (own man : Shares) (s : State) (h : Held own man s) where
  with-queue : (q : Queue) → QueueSound s.sizes.updates s.domain_pool s.domains q → Held own man (with_queue q s)
  with-queue q k = search

  push-held : (u : Update) → QueuedFit s.domain_pool s.domains u → Each (Apart u) s.queue.items → UpdateWords u → All (λ t. Held own man t × SameBut s t) (push u s)
  unfolding push
  push-held u live apart words = checked _ _ (λ l. accepted (with-queue _ (joined s.sizes.updates s.domain_pool s.domains s.queue u h.queue (ltb→lt (length s.queue.items) s.sizes.updates l) live apart words), (_, refl)))

  pub cleanup-held : (a b : ℕ) → Word a → Word b → All (λ t. Held own man t × SameBut s t) (push (cleanup a b) s)
  cleanup-held a b u v = push-held (cleanup a b) tt (apart-cleanup a b s.queue.items) (u, v)

  pub permission-held : (d m : ℕ) (x : Domain) → In s.domains d x → m < 32 → All (λ t. Held own man t × SameBut s t) (push_permission d m s)
  unfolding push_permission
  permission-held d m x e marks = branch-on (exists (is_permission_of (handle_of s.domain_pool d)) s.queue.items) (λ t. accepted (with-queue _ (gather-queue (handle_of s.domain_pool d) m marks s.sizes.updates s.domain_pool s.domains s.queue h.queue), (_, refl))) (λ t.
      let small = leb→le s.sizes.domains 32 (search (and_l, and_r)) in
      let low : d < 32 = omega (arith, h.domains_length, in-length s.domains d x e) in
      push-held (permission (handle_of s.domain_pool d) (domain_at s d).cores m) (live-fits s.domain_pool s.domains (handle_of s.domain_pool d) (handle-live s.domain_pool s.domains d x e)) (apart-new (handle_of s.domain_pool d) (domain_at s d).cores m s.queue.items t)
      (omega arith, word_at s.domain_pool.gens d h.domain_pool.gens_words, subst (λ (y : Domain). Word y.cores) (sym (domain-at s d x e)) (h.cores_words d x e), marks))
