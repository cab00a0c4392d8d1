-- The update ring through the steps on trackers. Invariant: the ring is sound, and so is what a newly queued domain is queued with: its slot number,
-- generation and core map are words, its marks five bits. An update joins only where the ring has room, and a domain only where it is not queued already.
use Rattle.std.specs.Prelude.{◌≡◌, refl, ℕ, ◌≤◌, ◌<◌, Bool, not, ◌&&◌, List, [], ◌∷◌, ◌++◌, T, eqb, leb, ltb, length, get_or}
use Rattle.std.proofs.Common.{sym, ap, ap₂, subst, ◌∙◌, arith, leb→le, ltb→lt, T_not, length-append, lt-ltb, eq-eqb, ne_eqb}
use Rattle.std.proofs.Math.Decide.{ℕ_discrete}
use Rattle.std.proofs.Math.Dec.{eqb_refl}
use Rattle.std.specs.Float.Ieee.Fits.{and_l, and_r, and_i}
use Rattle.base.specs.Cases.{lt, ge, cmp}
use Rattle.model.specs.Lists.{one_if, exists, count_if, Each, is_some, at_slot, In}
use Rattle.model.specs.State.{State, Sizes, Word, Handle, Domain, Update, permission, cleanup, Queue, domain_at}
use Rattle.model.specs.Pool.{handle_of, same_handle}
use Rattle.model.specs.Updates.{push, push_permission, is_permission_of}
use Rattle.model.specs.Making.{good_sizes}
use Rattle.model.specs.Sound.{Sound, QueueSound, QueuedFit, Singly, UpdateWords}
use Rattle.laws.specs.Accepted.{All, accepted, checked, branch-on}
use Rattle.laws.specs.Capas.Live.{live-fits, fits-onward}
use Rattle.laws.specs.Stack.{any-count}
use Rattle.laws.specs.Tree.Slots.{in-length, is_live_lem}
use Rattle.laws.specs.Lists.{word_at, each_weaken, count-end, each-end}
use Rattle.laws.specs.Tree.Steps.{domain-at}
use Rattle.laws.specs.Gather.{gather-queue}

pub record Ring (s : State) : Type 0 where
  pub queue : QueueSound s.sizes.updates s.domain_pool s.domains s.queue
  pub cores : (d : ℕ) (x : Domain) → In s.domains d x → Word x.cores
  pub gens : Each Word s.domain_pool.gens
  pub sizes_good : T (good_sizes s.sizes)
  pub slots : length s.domains ≤ 32

pub sound-ring : (s : State) → Sound s → Ring s
sound-ring s h = record { queue = h.queue; cores = h.outside.cores_words; gens = h.outside.domain_pool.gens_words; sizes_good = h.outside.sizes_good; slots = omega (arith, h.outside.domains_length, leb→le s.sizes.domains 32 few) }
  where
    few : T (leb s.sizes.domains 32)
    few = let t = h.outside.sizes_good in search (and_l, and_r) depth 12

-- ---- lists with one more at the end

-- a cleanup, and a domain that is not queued, may join
abbrev Fresh : Update → List Update → Type 0
Fresh (permission h c m) l = count_if (is_permission_of h) l ≡ 0
Fresh (cleanup a b) l = Unit {0}

pub eqb-turned : (m n : ℕ) → eqb m n ≡ eqb n m
eqb-turned m n = elim (ℕ_discrete m n) [ yes e ↦ eq-eqb m n e ∙ sym (eq-eqb n m (sym e)) | no e ↦ ne_eqb m n e ∙ sym (ne_eqb n m (λ q. e (sym q))) ]

same-turned : (h k : Handle) → same_handle h k ≡ same_handle k h
same-turned h k = ap₂ ◌&&◌ (eqb-turned h.slot k.slot) (eqb-turned h.generation k.generation)

singly-end : (l : List Update) (u : Update) → Fresh u l → Singly l → Singly (l ++ (u ∷ []))
singly-end [] (permission h c m) f s = (refl, tt)
singly-end [] (cleanup a b) f s = tt
singly-end (permission k c n ∷ l) (permission h b m) f s = (omega (arith, count-end (is_permission_of k) l (permission h b m), s.0, ap one_if (same-turned h k)), singly-end l (permission h b m) (omega arith) s.1)
singly-end (permission k c n ∷ l) (cleanup a b) f s = (omega (arith, count-end (is_permission_of k) l (cleanup a b), s.0), singly-end l (cleanup a b) tt s.1)
singly-end (cleanup k c ∷ l) (permission h b m) f s = singly-end l (permission h b m) (omega arith) s
singly-end (cleanup k c ∷ l) (cleanup a b) f s = singly-end l (cleanup a b) tt s

-- ---- an update joins

join-ring : (u : Update) (s : State) → Ring s → QueuedFit s.domain_pool s.domains u → Fresh u s.queue.items → UpdateWords u → All Ring (push u s)
unfolding push
join-ring u s r live fresh words = checked (ltb (length s.queue.items) s.sizes.updates) _ (λ t.
    let room = ltb→lt (length s.queue.items) s.sizes.updates t in
    accepted (record {
      queue = record {
        read_place = r.queue.read_place;
        fits = omega (arith, length-append s.queue.items (u ∷ []));
        handles_fit = each-end _ s.queue.items u r.queue.handles_fit live;
        singly = singly-end s.queue.items u fresh r.queue.singly;
        queued_words = each-end UpdateWords s.queue.items u r.queue.queued_words words;
      };
      cores = r.cores;
      gens = r.gens;
      sizes_good = r.sizes_good;
      slots = r.slots;
    }))

pub cleanup-ring : (a b : ℕ) (s : State) → Ring s → Word a → Word b → All Ring (push (cleanup a b) s)
cleanup-ring a b s r u v = join-ring (cleanup a b) s r tt tt (u, v)

none-counted : {A : Type 0} (p : A → Bool) (l : List A) → T (not (exists p l)) → count_if p l ≡ 0
none-counted p l t = elim (cmp 0 (count_if p l)) [ lt h ↦ absurd (T_not (exists p l) t (rw (any-count p l, lt-ltb 0 (count_if p l) h) tt)) | ge h ↦ omega arith ]

pub permission-ring : (d m : ℕ) (x : Domain) (s : State) → In s.domains d x → m < 32 → Ring s → All Ring (push_permission d m s)
unfolding push_permission
permission-ring d m x s e marks r =
    let h = handle_of s.domain_pool d in
    branch-on (exists (is_permission_of h) s.queue.items) (λ t. accepted (record {
      queue = gather-queue h m marks s.sizes.updates s.domain_pool s.domains s.queue r.queue;
      cores = r.cores;
      gens = r.gens;
      sizes_good = r.sizes_good;
      slots = r.slots;
    })) (λ t.
    join-ring (permission h (domain_at s d).cores m) s r
    (live-fits s.domain_pool s.domains h (and_i (is_some (at_slot s.domains d)) (eqb h.generation h.generation) (is_live_lem _ x e) (eqb_refl h.generation)))
    (none-counted (is_permission_of h) s.queue.items t)
    (small d (omega (arith, in-length s.domains d x e, r.slots)), word_at s.domain_pool.gens d r.gens, rw (domain-at s d x e) (r.cores d x e), marks))
  where
    small : (n : ℕ) → n < 32 → Word n
    small n l = omega arith

-- ---- steps that leave the queue

-- live domains stay live, with the same generations
pub record QueueKept (s t : State) : Type 0 where
  pub sizes : t.sizes ≡ s.sizes
  pub gens : t.domain_pool.gens ≡ s.domain_pool.gens
  pub size : length t.domains ≡ length s.domains
  pub live : (d : ℕ) → T (is_some (at_slot s.domains d)) → T (is_some (at_slot t.domains d))
  pub cores : (d : ℕ) (y : Domain) → In t.domains d y → Word y.cores
  pub queue : t.queue ≡ s.queue

live-kept : (s t : State) → QueueKept s t → (u : Update) → QueuedFit s.domain_pool s.domains u → QueuedFit t.domain_pool t.domains u
live-kept s t c (permission h k m) l = fits-onward s.domain_pool t.domain_pool s.domains t.domains (λ n u. live-fits t.domain_pool t.domains n
    (and_i (is_some (at_slot t.domains n.slot)) (eqb (get_or t.domain_pool.gens n.slot 0) n.generation)
    (c.live n.slot (and_l (is_some (at_slot s.domains n.slot)) (eqb (get_or s.domain_pool.gens n.slot 0) n.generation) u))
    (rw c.gens (and_r (is_some (at_slot s.domains n.slot)) (eqb (get_or s.domain_pool.gens n.slot 0) n.generation) u)))) (λ i. omega (arith, ap (λ gs. get_or gs i 0) c.gens)) h l
live-kept s t c (cleanup a b) l = tt

pub queue-kept-ring : (s t : State) → QueueKept s t → Ring s → Ring t
queue-kept-ring s t c r = record {
  queue = record {
    read_place = omega (arith, r.queue.read_place, ap (λ (q : Queue). q.read_place) c.queue, ap (λ (z : Sizes). z.updates) c.sizes);
    fits = omega (arith, r.queue.fits, ap (λ (q : Queue). length q.items) c.queue, ap (λ (z : Sizes). z.updates) c.sizes);
    handles_fit = subst (λ (q : Queue). Each (QueuedFit t.domain_pool t.domains) q.items) (sym c.queue) (each_weaken _ _ s.queue.items (live-kept s t c) r.queue.handles_fit);
    singly = subst (λ (q : Queue). Singly q.items) (sym c.queue) r.queue.singly;
    queued_words = subst (λ (q : Queue). Each UpdateWords q.items) (sym c.queue) r.queue.queued_words;
  };
  cores = c.cores;
  gens = subst (Each Word) (sym c.gens) r.gens;
  sizes_good = subst (λ (z : Sizes). T (good_sizes z)) (sym c.sizes) r.sizes_good;
  slots = omega (arith, c.size, r.slots);
}
