-- Open keeps Sound: the new tracker is empty and no region counts for the new domain, and its manager has its Management capability.
use Rattle.std.specs.Prelude.{◌≡◌, refl, ◌≢◌, ℕ, ◌<◌, List, [], ◌∷◌, T, eqb, length, set}
use Rattle.std.proofs.Common.{sym, ap, subst, ◌∙◌, arith, get_or-set_other}
use Rattle.std.proofs.Math.Option.{Option, none, some, get_or}
use Rattle.std.proofs.Math.Decide.{ℕ_discrete}
use Rattle.model.specs.Lists.{one_if, is_some, at_slot, In}
use Rattle.model.specs.State.{Word, Handle, management, Domain, Region, State, with_domains, with_locals, none_domain, domain_at}
use Rattle.model.specs.Pool.{handle_of}
use Rattle.model.specs.Outcome.{ok, ◌>>=◌}
use Rattle.model.specs.Fields.{Field}
use Rattle.model.specs.Locals.{has_capacity, insert_capa}
use Rattle.model.specs.Counts.{counts_at, region_count}
use Rattle.model.specs.Calls.{new_domain, open_domain}
use Rattle.model.specs.Sound.{Sound, LiveOrOlder, TrackerSound, names}
use Rattle.laws.specs.Accepted.{All, accepted, bind}
use Rattle.laws.specs.Tree.Facts.{self, other}
use Rattle.laws.specs.Tree.Slots.{is_live_lem}
use Rattle.laws.specs.Tree.Steps.{region-at, domain-at}
use Rattle.laws.specs.Tree.Stored.{stored}
use Rattle.laws.specs.Capas.Slots.{this, that, was}
use Rattle.laws.specs.Capas.Live.{handle-one, handle-live, live-fits}
use Rattle.laws.specs.Capas.Held.{Held, owned_by, managed_by, CapasSound, OthersSound, capas-sound, sound-of, held-as}
use Rattle.laws.specs.Capas.Domain.{uses_in, uses-set}
use Rattle.laws.specs.Capas.Change.{relist, relist-in, relist-live, capacity, Plus, room-held, insert-held}
use Rattle.laws.specs.Capas.Checks.{live-domain}
use Rattle.laws.specs.Capas.Listed.{listed_then, room-listed, inserted-listed, listed-sound}
use Rattle.laws.specs.Capas.NewDomain.{taken, new_one, opened, open_next, open_in, open-held}
use Rattle.base.specs.Options.{none-some, some_same}

module _ (s : State) (h : Sound s) (i : ℕ) (is : List ℕ) (next : s.domain_pool.free ≡ i ∷ is) (m : Option ℕ) (c : ℕ) (word : Word c) (live : (k : ℕ) → m ≡ some k → T (is_some (at_slot s.domains k))) where
  abbrev a : CapasSound s
  a = capas-sound s h

  free : at_slot s.domains i ≡ none
  free = (open_next (owned_by s) (managed_by s) s a i is next m c).was_free

  -- who is live is not in slot i
  apart : (k : ℕ) → T (is_some (at_slot s.domains k)) → k ≢ i
  apart k t o = rw (o, free) at t

  nobody : domain_at s i ≡ none_domain
  nobody = ap (λ o. get_or o none_domain) free

  held : Held (owned_by s) (managed_by s) (opened i is m c s)
  held = open-held (owned_by s) (managed_by s) s a i is next m c word live
      (λ j g e. ap (λ (r : Region). one_if (eqb r.owner i)) (region-at s j g e) ∙ other g.owner i (apart g.owner (a.owner_live j g e)))
      (λ j z e. ap (λ (w : Domain). one_if (names w.manager i)) (domain-at s j z e) ∙ unnamed z.manager (λ k q. apart k (a.manager_live j z e k q)))
      (λ k. ap (λ (w : Domain). one_if (names w.manager k)) nobody)
    where
      unnamed : (o : Option ℕ) → ((k : ℕ) → o ≡ some k → k ≢ i) → one_if (names o i) ≡ 0
      unnamed none f = refl
      unnamed (some k) f = other k i (f k refl)

  -- no region counts for the new domain
  nothing : (p : ℕ) → region_count Field.Reach s.regions i p ≡ 0
  nothing p = sym (stored s h p Field.Reach i) ∙ ap (λ (w : Domain). (counts_at w.tracker p).reach) nobody

  empty-tracker : TrackerSound s.regions i []
  empty-tracker = record { rising = tt; merged = tt; reached = tt; counted = tt; uncacheable = tt; covered = λ p t. absurd (omega (arith, nothing p)) }

  abbrev t : State
  t = opened i is m c s

  low : i < length s.domains
  low = (open_next (owned_by s) (managed_by s) s a i is next m c).low

  pub others : OthersSound t
  others = record {
    regions = h.outside.regions;
    tracked = record {
      record_pool = record {
        gens_length = h.tracked.record_pool.gens_length;
        gens_words = h.tracked.record_pool.gens_words;
        once = λ k. omega (arith, h.tracked.record_pool.once k, uses-set s.domains i (some (new_one m c s)) low k, ap (λ o. uses_in o k) free);
      };
      trackers = λ k z f. elim (was s.domains i (new_one m c s) low k z f) [
        | this o q ↦ rw o (subst (λ (w : Domain). TrackerSound s.regions i w.tracker) q empty-tracker)
        | that o g ↦ h.tracked.trackers k z g
      ];
    };
  }

  -- in every other slot the manager is as it was
  manager-else : (j : ℕ) → j ≢ i → domain_at t j ≡ domain_at s j
  manager-else j o = ap (λ x. get_or x none_domain) (get_or-set_other s.domains i j (some (new_one m c s)) none o)

  manager-new : domain_at t i ≡ new_one m c s
  manager-new = domain-at t i (new_one m c s) (open_in (owned_by s) (managed_by s) s a i is next m c)

  -- without a manager that is all
  pub root-sound : m ≡ none → Sound t
  root-sound e = sound-of t (held-as (owned_by s) (owned_by t) (managed_by s) (managed_by t) t (λ j g f d. refl) (λ j z f d. elim (ℕ_discrete j i) [
    | yes o ↦ rw o (ap (λ (w : Domain). one_if (names w.manager d)) nobody ∙ sym (ap (λ (w : Domain). one_if (names w.manager d)) manager-new ∙ ap (λ n. one_if (names n d)) e))
    | no o ↦ ap (λ (w : Domain). one_if (names w.manager d)) (sym (manager-else j o))
  ]) held) others

  -- the manager d, whose list had room or was swept, gets the capability
  module _ (d : ℕ) (e : m ≡ some d) (x : Domain) (y : In s.domains d x) where
    plus : (u : State) → u.domain_pool ≡ t.domain_pool → Plus u d (management (handle_of u.domain_pool i)) (owned_by s) (managed_by s) (owned_by s) (managed_by t)
    plus u q = record {
      regions = λ j g f. omega arith;
      domains = λ j z f. elim (ℕ_discrete j i) [
        | yes o ↦ rw o (omega (arith, handle-one u.domain_pool i i, self i, none_before d, new-at d, self d))
        | no o ↦ omega (arith, handle-one u.domain_pool j i, other j i o, at-else j d o)
      ];
      own_else = λ j k o. refl;
      man_else = λ j k o. elim (ℕ_discrete j i) [
        | yes n ↦ rw n (omega (arith, none_before k, new-at k, other d k (λ p. o (sym p))))
        | no n ↦ at-else j k n
      ];
    }
      where
        none_before : (k : ℕ) → managed_by s i k ≡ 0
        none_before k = ap (λ (w : Domain). one_if (names w.manager k)) nobody

        new-at : (k : ℕ) → managed_by t i k ≡ one_if (eqb d k)
        new-at k = ap (λ (w : Domain). one_if (names w.manager k)) manager-new ∙ ap (λ n. one_if (names n k)) e

        at-else : (j k : ℕ) → j ≢ i → managed_by t j k ≡ managed_by s j k
        at-else j k o = ap (λ (w : Domain). one_if (names w.manager k)) (manager-else j o)

    there : In t.domains d x
    there = get_or-set_other s.domains i d (some (new_one m c s)) none (apart d (is_live_lem (at_slot s.domains d) x y)) ∙ y

    pub managed-sound : All (λ (z : Handle × State). Sound z.1) (has_capacity d t >>= λ u. insert_capa d (management (handle_of u.domain_pool i)) u >>= λ (j, v). ok (handle_of v.domain_pool i, v))
    managed-sound =
        bind (capacity t d x there) (λ u r.
        let w = with_locals r.list x in
        let v : In u.domains d w = subst (λ (q : State). In q.domains d w) (sym r.is) (relist-in t d x there r.list) in
        let n = handle_of u.domain_pool i in
        let k : LiveOrOlder u.domain_pool u.domains n = subst (λ (q : State). LiveOrOlder q.domain_pool q.domains (handle_of q.domain_pool i)) (sym r.is) (live-fits t.domain_pool (relist d x r.list t).domains (handle_of t.domain_pool i) (relist-live t d x there r.list (handle_of t.domain_pool i) (handle-live t.domain_pool t.domains i (new_one m c s) (open_in (owned_by s) (managed_by s) s a i is next m c)))) in
        bind (insert-held (owned_by s) (managed_by s) u (room-held (owned_by s) (managed_by s) t held d x there u r) d w v (owned_by s) (managed_by t) (management n) tt k (plus u (ap (λ (q : State). q.domain_pool) r.is)))
        (λ z f. accepted (listed-sound t z.1 others (listed_then t u z.1 (room-listed t d x u there r) (inserted-listed u d w (management n) z.0 z.1 v f.0)) f.1)))

-- ---- the call

-- a domain in slot i, which was given next
record New (s : State) (m : Option ℕ) (c i : ℕ) (t : State) : Type 0 where
  rest : List ℕ
  was_next : s.domain_pool.free ≡ i ∷ rest
  is : t ≡ opened i rest m c s

new-domain : (s : State) (m : Option ℕ) (c : ℕ) → All (λ x. New s m c x.0 x.1) (new_domain m c s)
unfolding new_domain
new-domain s m c = bind (taken _ s.domain_pool) (λ x t. accepted (record { rest = t.rest; was_next = t.was_next; is = ap (λ p. with_domains p (set s.domains x.0 (some (new_one m c s))) s) t.is }))

pub open-sound : (s : State) (m : Option Handle) (c : ℕ) → Sound s → Word c → All (λ x. Sound x.1) (open_domain m c s)
unfolding open_domain
open-sound s none c h w = bind (new-domain s none c) (λ x n. accepted (subst Sound (sym n.is) (root-sound s h x.0 n.rest n.was_next none c w (λ k e. absurd (none-some none k refl e)) refl)))
open-sound s (some k) c h w =
    bind (live-domain s k) (λ d l.
    bind (new-domain s (some d) c) (λ x n.
    subst (λ (u : State). All (λ (y : Handle × State). Sound y.1) (has_capacity d u >>= λ u₂. insert_capa d (management (handle_of u₂.domain_pool x.0)) u₂ >>= λ (j, u₃). ok (handle_of u₃.domain_pool x.0, u₃))) (sym n.is) (managed-sound s h x.0 n.rest n.was_next (some d) c w (λ j e. subst (λ o. T (is_some (at_slot s.domains o))) (some_same (some d) d j refl e) (is_live_lem (at_slot s.domains d) l.domain l.is)) d refl l.domain l.is)))
