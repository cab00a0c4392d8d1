-- The table of regions changes, and the lists stay. A region is written in place, added in a free slot, or removed: then its generation rises,
-- so that the handles to it become older.
use Rattle.std.specs.Prelude.{◌≡◌, refl, ◌≢◌, ℕ, suc, ◌<◌, not, List, [], ◌∷◌, T, eqb, length, get_or, set}
use Rattle.std.proofs.Common.{sym, ap, subst, ◌∙◌, arith, le_refl, eqb→eq, length-set, get_or-set_same, get_or-set_other, eq-eqb}
use Rattle.std.proofs.Math.Option.{Option, none, some}
use Rattle.std.proofs.Math.Decide.{ℕ_discrete}
use Rattle.std.specs.Float.Ieee.Fits.{and_l, and_r, and_i}
use Rattle.base.specs.Options.{none-some}
use Rattle.model.specs.Lists.{is_some, count_if, at_slot, In}
use Rattle.model.specs.State.{Handle, Pool, Record, Domain, Region, State, with_regions, put_region}
use Rattle.model.specs.Pool.{free, handle_of, is_live}
use Rattle.model.specs.Tree.{is_root_kind}
use Rattle.model.specs.Tracker.{no_counts}
use Rattle.model.specs.Regions.{free_region}
use Rattle.model.specs.Sound.{PoolSound, LiveOrOlder, HandleFit, slot_uses, is_region_of}
use Rattle.laws.specs.Accepted.{All, accepted, bind, both, and_then}
use Rattle.laws.specs.Answers.{answer}
use Rattle.laws.specs.Tracker.Pools.{Moved, free-moves}
use Rattle.laws.specs.Tree.Slots.{in-length, is_live_lem, live-is}
use Rattle.laws.specs.Capas.Slots.{this, that, was, used-same, Next, next-slot, once-take, once-give, once-same, count_none}
use Rattle.laws.specs.Capas.Live.{not-region, live-handle, live-onward, live-fits, older-fits, fits-onward, no-handle, MayRevoke, list-onward}
use Rattle.laws.specs.Capas.Held.{Shares, Held}
use Rattle.laws.specs.Keep.Slots.{taken-alive}

-- ---- any change of the table

module _ (own own' man : Shares) (s : State) (h : Held own man s) (rp : Pool) (rs : List (Option Region))
    (size : length rs ≡ length s.regions)
    (pool : PoolSound s.sizes.regions (slot_uses rs) rp)
    (owners : (j : ℕ) (g : Region) → In rs j g → T (is_some (at_slot s.domains g.owner)))
    (slots : (j : ℕ) (g : Region) → In rs j g → (d : ℕ) (x : Domain) → In s.domains d x → count_if (is_region_of (handle_of rp j)) x.locals.held ≡ own' j d)
    (fits : (k : Handle) → LiveOrOlder s.region_pool s.regions k → LiveOrOlder rp rs k)
    (revokes : (k : Handle) → LiveOrOlder s.region_pool s.regions k → MayRevoke s.region_pool s.regions k → MayRevoke rp rs k) where
  regions-held : Held own' man (with_regions rp rs s)
  regions-held = record {
    sizes_good = h.sizes_good;
    domains_length = h.domains_length;
    regions_length = size ∙ h.regions_length;
    domain_pool = h.domain_pool;
    region_pool = pool;
    owner_live = owners;
    region_slots = slots;
    manager_live = h.manager_live;
    management_slots = h.management_slots;
    managed = h.managed;
    lists = λ d x e. list-onward s.region_pool rp s.regions rs s.domain_pool s.domain_pool s.domains s.domains fits revokes (λ k t. t) s.sizes.slots x.locals (h.lists d x e);
    cores_words = h.cores_words;
    interface_words = h.interface_words;
    queue = h.queue;
  }

-- a handle whose slot is in use is live where its generation is the slot's
live-there : {A : Type 0} (p : Pool) (l : List (Option A)) (k : Handle) (x : A) → In l k.slot x → T (eqb (get_or p.gens k.slot 0) k.generation) → T (is_live p l k)
live-there p l k x e t = and_i (is_some (at_slot l k.slot)) (eqb (get_or p.gens k.slot 0) k.generation) (is_live_lem (at_slot l k.slot) x e) t

-- ---- a region written in place, of the same kind: its owner and its child list may change

module _ (own man : Shares) (s : State) (h : Held own man s) (i : ℕ) (g r : Region) (e : In s.regions i g) where
  abbrev put : List (Option Region)
  put = set s.regions i (some r)

  low : i < length s.regions
  low = in-length s.regions i g e

  alive : (k : ℕ) → is_some (at_slot put k) ≡ is_some (at_slot s.regions k)
  alive = used-same s.regions i low (some r) (ap is_some e)

  live-put : (k : Handle) → T (is_live s.region_pool s.regions k) → T (is_live s.region_pool put k)
  live-put k t = live-onward s.region_pool s.regions put (λ j u. subst T (sym (alive j)) u) k t

  put-live : (k : Handle) → T (is_live s.region_pool put k) → T (is_live s.region_pool s.regions k)
  put-live k t = live-onward s.region_pool put s.regions (λ j u. subst T (alive j) u) k t

  pub write-region : r.kind ≡ g.kind → T (is_some (at_slot s.domains r.owner)) → Held own man (put_region i r s)
  write-region q live = regions-held own own man s h s.region_pool put (length-set s.regions i (some r))
      (record { gens_length = h.region_pool.gens_length; gens_words = h.region_pool.gens_words; once = once-same s.sizes.regions s.regions h.regions_length i s.region_pool.free g r e h.region_pool.once })
      (λ j v f. elim (was s.regions i r low j v f) [ this o p ↦ subst (λ (w : Region). T (is_some (at_slot s.domains w.owner))) p live | that o w ↦ h.owner_live j v w ])
      (λ j v f. elim (was s.regions i r low j v f) [ this o p ↦ rw o (h.region_slots i g e) | that o w ↦ h.region_slots j v w ])
      (fits-onward s.region_pool s.region_pool s.regions put (λ k t. live-fits s.region_pool put k (live-put k t)) (λ j. le_refl _))
      (λ k t u v f l. elim (was s.regions i r low k.slot v f) [
        | this o p ↦ subst (λ (w : Region). T (not (is_root_kind w.kind))) p (subst (λ n. T (not (is_root_kind n))) (sym q) (u g (subst (λ n. In s.regions n g) (sym o) e) (put-live k l)))
        | that o w ↦ u v w (put-live k l)
      ])

-- ---- a region is added in the slot given next

abbrev pub grown : ℕ → List ℕ → Region → State → State
grown i is g s = with_regions (record { gens = s.region_pool.gens; free = is }) (set s.regions i (some g)) s

module _ (own own' man : Shares) (s : State) (h : Held own man s) (i : ℕ) (is : List ℕ) (next : s.region_pool.free ≡ i ∷ is) (g : Region) where
  abbrev came : List (Option Region)
  came = set s.regions i (some g)

  pub grow-next : Next s.sizes.regions s.regions i is
  grow-next = next-slot s.sizes.regions s.regions s.region_pool.free i is h.regions_length h.region_pool.once next

  pub grow-in : In came i g
  grow-in = get_or-set_same s.regions i (some g) none grow-next.low

  pub grow-held : T (is_some (at_slot s.domains g.owner)) → ((j k : ℕ) → j ≢ i → own j k ≡ own' j k) → ((k : ℕ) → own' i k ≡ 0) → Held own' man (grown i is g s)
  grow-held live else new = regions-held own own' man s h (record { gens = s.region_pool.gens; free = is }) came (length-set s.regions i (some g))
      (record { gens_length = h.region_pool.gens_length; gens_words = h.region_pool.gens_words; once = once-take s.sizes.regions s.regions h.regions_length i is g grow-next.once })
      (λ j v f. elim (was s.regions i g grow-next.low j v f) [ this o p ↦ subst (λ (w : Region). T (is_some (at_slot s.domains w.owner))) p live | that o w ↦ h.owner_live j v w ])
      (λ j v f d x e. elim (was s.regions i g grow-next.low j v f) [
        | this o p ↦ rw o (count_none (HandleFit s.region_pool s.regions s.domain_pool s.domains) _ x.locals.held (not-region (HandleFit s.region_pool s.regions s.domain_pool s.domains) (handle_of s.region_pool i) (no-handle s.region_pool s.regions i grow-next.was_free)) (h.lists d x e).handles_fit ∙ sym (new d))
        | that o w ↦ h.region_slots j v w d x e ∙ else j d o
      ])
      (fits-onward s.region_pool (record { gens = s.region_pool.gens; free = is }) s.regions came (λ k t. live-fits (record { gens = s.region_pool.gens; free = is }) came k (live-onward s.region_pool s.regions came (taken-alive s.regions i g grow-next.low) k t)) (λ j. le_refl _))
      (λ k t u v f l. elim (was s.regions i g grow-next.low k.slot v f) [
        | this o p ↦ absurd (no-handle s.region_pool s.regions i grow-next.was_free (subst (LiveOrOlder s.region_pool s.regions) (sym (live-handle s.region_pool came k l) ∙ ap (handle_of s.region_pool) o) t))
        | that o w ↦ u v w (live-there s.region_pool s.regions k v w (search and_r))
      ])

-- ---- a region is removed

abbrev freed_pool : ℕ → Pool → Pool
freed_pool i p = record { gens = set p.gens i (suc (get_or p.gens i 0)); free = i ∷ p.free }

freed-is : (i : ℕ) (p : Pool) → All (λ q. q ≡ freed_pool i p) (free i p)
unfolding free
freed-is i p = and_then _ (accepted refl)

-- a record in slot i, for the law of the pools
abbrev record_at : ℕ → Record
record_at i = record { slot = i; start = 0; end = 0; counts = no_counts }

module _ (own man : Shares) (s : State) (h : Held own man s) (i : ℕ) (g : Region) (e : In s.regions i g) (moved : Moved s.region_pool (freed_pool i s.region_pool) (record_at i ∷ []) []) where
  abbrev went : List (Option Region)
  went = set s.regions i none

  abbrev after : Pool
  after = freed_pool i s.region_pool

  low-gen : i < length s.region_pool.gens
  low-gen = omega (arith, h.region_pool.gens_length, h.regions_length, in-length s.regions i g e)

  -- whoever is live now is in another slot, and as it was
  apart : (j : ℕ) (v : Region) → In went j v → j ≢ i
  apart j v f o = none-some (at_slot went i) v (get_or-set_same s.regions i none none (in-length s.regions i g e)) (rw o at f)

  still : (j : ℕ) (v : Region) → In went j v → In s.regions j v
  still j v f = sym (get_or-set_other s.regions i j none none (apart j v f)) ∙ f

  same-gen : (j : ℕ) → j ≢ i → get_or after.gens j 0 ≡ get_or s.region_pool.gens j 0
  same-gen j o = get_or-set_other s.region_pool.gens i j (suc (get_or s.region_pool.gens i 0)) 0 o

  same-handle : (j : ℕ) → j ≢ i → handle_of after j ≡ handle_of s.region_pool j
  same-handle j o = ap (λ n. record { slot = j; generation = n }) (same-gen j o)

  live-or-older : (k : Handle) → T (is_live s.region_pool s.regions k) → LiveOrOlder after went k
  live-or-older k t = let u = eqb→eq (get_or s.region_pool.gens k.slot 0) k.generation (search and_r) in elim (ℕ_discrete k.slot i) [
    | yes o ↦ older-fits after went k (omega (arith, ap (λ n. get_or after.gens n 0) o, ap (λ n. get_or s.region_pool.gens n 0) o, get_or-set_same s.region_pool.gens i (suc (get_or s.region_pool.gens i 0)) 0 low-gen))
    | no o ↦ let (v, f) = live-is (at_slot s.regions k.slot) (search and_l) in live-fits after went k (live-there after went k v (get_or-set_other s.regions i k.slot none none o ∙ f) (rw (eq-eqb _ _ (same-gen k.slot o ∙ u)) tt))
  ]

  gone_held : Held own man (with_regions after went s)
  gone_held = regions-held own own man s h after went (length-set s.regions i none)
      (record { gens_length = moved.gens_length ∙ h.region_pool.gens_length; gens_words = moved.gens_words h.region_pool.gens_words; once = once-give s.sizes.regions s.regions h.regions_length i s.region_pool.free g e h.region_pool.once })
      (λ j v f. h.owner_live j v (still j v f))
      (λ j v f d x n. ap (λ k. count_if (is_region_of k) x.locals.held) (same-handle j (apart j v f)) ∙ h.region_slots j v (still j v f) d x n)
      (fits-onward s.region_pool after s.regions went live-or-older moved.gens_rise)
      (λ k t u v f l. u v (still k.slot v f) (live-there s.region_pool s.regions k v (still k.slot v f) (subst (λ n. T (eqb n k.generation)) (same-gen k.slot (apart k.slot v f)) (search and_r))))

-- The generation rises: handles to the region become older, and no region that is live is named by them.
pub free-held : (own man : Shares) (s : State) → Held own man s → (i : ℕ) (g : Region) → In s.regions i g → All (Held own man) (free_region i s)
unfolding free_region
free-held own man s h i g e = bind (both (freed-is i s.region_pool) (answer (free-moves (record_at i) s.region_pool))) (λ q (p, m). accepted (subst (λ (r : Pool). Held own man (with_regions r (set s.regions i none) s)) (sym p) (gone_held own man s h i g e (subst (λ (r : Pool). Moved s.region_pool r (record_at i ∷ []) []) p m))))
