-- Records linked into a tracker and out of it, as the code does it: the row of the record, and the link of the record before it or of the domain.
-- Only the domains and their trackers matter here, not the record pool: the pool changes beside, in another part of the tables.
-- Invariant: every slot is in at most one tracker, once. `last_link b` is the link of the record before, 0 where the domain itself comes before.
use Rattle.std.specs.Prelude.{◌≡◌, ◌≢◌, ℕ, suc, ◌≤◌, ◌<◌, eqb, length}
use Rattle.std.proofs.Math.Path.{refl, ap, subst}
use Rattle.std.proofs.Common.{sym, ◌∙◌, arith, get_or-set_same, ne_eqb}
use Rattle.std.proofs.Math.Option.{Option, none, some}
use mathlib.Core.List.{List, [], ◌∷◌, ◌++◌, append_assoc}
use Rattle.std.proofs.Math.Seq.{get_or-set_other}
use Rattle.std.proofs.lemmas.List.{set_comm}
use Rattle.base.specs.Cases.{lt, ge, cmp, holds, fails, test}
use Rattle.model.specs.Lists.{In}
use Rattle.model.specs.State as state
use Rattle.model.specs.State.{State, Record, put_domain, with_tracker}
use Rattle.model.specs.Layout.{link}
use Rattle.model.specs.Sound.{record_uses}
use Rattle.laws.specs.Stack.{one}
use Rattle.laws.specs.Words.SameTrackers.{uses, first_slot, owned}
use Rattle.laws.specs.Tracker.Pools.{uses-append}
use Rattle.laws.specs.Tree.Slots.{in-length}
use Rattle.tables.specs.declared.DomainHead.{DomainHead}
use Rattle.tables.specs.declared.Region.{Region}
use Rattle.tables.specs.Tables.{Tables, Arena, no_record, head_at, record_at, with_domains, with_head, with_records, with_record, with_record_pool}
use Rattle.tracker_records.specs.Links as links
use Rattle.tables.specs.Links.{slot_to}
use Rattle.tracker_records.specs.Links.{with_next, with_first}
use Rattle.decoded.specs.Rows.{get_or-up}
use Rattle.decoded.specs.Tables.{record_for, head_for, record_in, records_for, tables_of}
use Rattle.decoded.specs.Tracker.Trackers.{record-read}
use Rattle.decoded.specs.Slots.Domains.{head_read}
use Rattle.refine.specs.Tracker.TrackerSteps.{domains_with, record-changed, record-added, record-removed, front-added, front-removed}

-- ---- the record before

abbrev end_link : ℕ → List Record → ℕ
end_link k [] = k
end_link k (q ∷ l) = end_link (suc q.slot) l

abbrev pub last_link : List Record → ℕ
last_link b = end_link 0 b

end_of : (k : ℕ) (b : List Record) (q : Record) → end_link k (b ++ q ∷ []) ≡ suc q.slot
end_of k [] q = refl
end_of k (r ∷ b) q = end_of (suc r.slot) b q

pub last_of : (b : List Record) (q : Record) → last_link (b ++ q ∷ []) ≡ suc q.slot
last_of b q = end_of 0 b q

-- a list is empty or has a last record
data Ends (b : List Record) : Type 0 where
  empty : b ≡ [] → Ends b
  full : (c : List Record) (q : Record) → b ≡ c ++ q ∷ [] → Ends b

ends : (b : List Record) → Ends b
ends [] = empty refl
ends (q ∷ b) = elim (ends b) [ empty e ↦ full [] q (ap (λ (l : List Record). q ∷ l) e) | full c r e ↦ full (q ∷ c) r (ap (λ (l : List Record). q ∷ l) e) ]

pub slot-of : (i : ℕ) → slot_to (suc i) ≡ i
slot-of i = omega arith

-- ---- tables

module _ (t : Tables) where
  rows-swap : (i j : ℕ) (a b : Region) → i ≢ j → with_record (with_record t i a) j b ≡ with_record (with_record t j b) i a
  unfolding with_record with_records
  rows-swap i j a b h = ap (with_records t) (set_comm t.records i j a b h)

  row_other : (i j : ℕ) (a : Region) → j ≢ i → record_at (with_record t i a) j ≡ record_at t j
  unfolding record_at with_record with_records
  row_other i j a h = get_or-set_other t.records i j a no_record h

  head-then-row : (d i : ℕ) (a : Region) (h : DomainHead) → with_head (with_record t i a) d h ≡ with_record (with_head t d h) i a
  unfolding with_head with_record with_records with_domains
  head-then-row d i a h = refl

  head-kept : (d i : ℕ) (a : Region) → head_at (with_record t i a) d ≡ head_at t d
  unfolding head_at with_record with_records
  head-kept d i a = refl

  next-first : (d k : ℕ) → with_next t d 0 k ≡ with_head t d (links.with_first (head_at t d) k)
  unfolding with_next
  next-first d k = refl

  next-behind : (d i k : ℕ) → with_next t d (suc i) k ≡ with_record t i (links.with_end (record_at t i) (record_at t i).end k)
  unfolding with_next
  next-behind d i k = rw (ne_eqb (suc i) 0 (λ e. omega arith)) (ap (λ (j : ℕ). with_record t j (links.with_end (record_at t j) (record_at t j).end k)) (slot-of i))

  -- the pool is another part
  pub row-pool : (i : ℕ) (a : Region) (p : Arena) → with_record_pool (with_record t i a) p ≡ with_record (with_record_pool t p) i a
  unfolding with_record with_records with_record_pool
  row-pool i a p = refl

  pub row_keeps : (i : ℕ) (a : Region) → (with_record t i a).record_pool ≡ t.record_pool
  unfolding with_record with_records
  row_keeps i a = refl

  pub next-pool : (d k v : ℕ) (p : Arena) → with_record_pool (with_next t d k v) p ≡ with_next (with_record_pool t p) d k v
  unfolding with_next with_head with_domains head_at record_at with_record with_records with_record_pool
  next-pool d k v p = elim (test (eqb k 0)) [ holds e ↦ rw e | fails e ↦ rw e ]

  pub next-keeps : (d k v : ℕ) → (with_next t d k v).record_pool ≡ t.record_pool
  unfolding with_next with_head with_domains head_at record_at with_record with_records
  next-keeps d k v = elim (test (eqb k 0)) [ holds e ↦ rw e | fails e ↦ rw e ]

-- ---- slots

-- every slot is one of n, and in one tracker at most
pub record Spread (n : ℕ) (ds : List (Option state.Domain)) : Type 0 where
  pub once : (i : ℕ) → record_uses ds i ≤ 1
  pub below : (i : ℕ) → n ≤ i → record_uses ds i ≡ 0

module _ (n : ℕ) (ds : List (Option state.Domain)) (h : Spread n ds) (d : ℕ) (x : state.Domain) (at : In ds d x) (b a : List Record) (q : Record) where
  pub slot-inside : x.tracker ≡ b ++ q ∷ a → q.slot < n
  slot-inside e =
      let i = q.slot in
      elim (cmp i n) [ lt k ↦ k | ge k ↦ absurd (omega (arith, h.below i k, (owned ds d x at i).0, ap (uses i) e, uses-append i b (q ∷ a), one i i refl)) ]

  -- neighbours have two slots
  slot_apart : (r : Record) → x.tracker ≡ b ++ q ∷ r ∷ a → q.slot ≢ r.slot
  slot_apart r e k =
      let i = q.slot in
      omega (arith, h.once i, (owned ds d x at i).0, ap (uses i) e, uses-append i b (q ∷ r ∷ a), one i i refl, one i r.slot k)

-- ---- a domain's tracker; domain x stands in slot d

module _ (s : State) (long : length s.domains ≡ s.sizes.domains) (d : ℕ) (x : state.Domain) (at : In s.domains d x) (h : Spread s.sizes.records s.domains) where
  -- every slot of the new tracker l, and of the others, is in one place at most
  abbrev New : List Record → Type 0
  New l = Spread s.sizes.records (domains_with s d x l)

  -- the row of a record of the tracker
  pub row_is : (b a : List Record) (q : Record) → x.tracker ≡ b ++ q ∷ a → record_at (tables_of s) q.slot ≡ record_for q (first_slot a)
  unfolding record_at tables_of records_for
  row_is b a q e =
      get_or-up (record_in s.domains) s.sizes.records q.slot no_record (slot-inside s.sizes.records s.domains h d x at b a q e)
      ∙ record-read s.domains d x at b a q e (h.once q.slot)

  -- the tables with tracker l
  abbrev after : List Record → Tables
  after l = tables_of (put_domain d (with_tracker l x) s)

  -- a record of the new tracker
  inside : (l b a : List Record) (q : Record) → New l → l ≡ b ++ q ∷ a → q.slot < s.sizes.records
  inside l b a q new e =
      slot-inside s.sizes.records (domains_with s d x l) new d (with_tracker l x) (get_or-set_same s.domains d (some (with_tracker l x)) none (in-length s.domains d x at)) b a q e

  apart : (l b a : List Record) (q r : Record) → New l → l ≡ b ++ q ∷ r ∷ a → q.slot ≢ r.slot
  apart l b a q r new e =
      slot_apart s.sizes.records (domains_with s d x l) new d (with_tracker l x) (get_or-set_same s.domains d (some (with_tracker l x)) none (in-length s.domains d x at)) b a q r e

  -- ---- one record more

  module _ (n : Record) where
    more-first : (a : List Record) → x.tracker ≡ a → New (n ∷ a)
        → with_next (with_record (tables_of s) n.slot (record_for n (first_slot a))) d 0 (suc n.slot) ≡ after (n ∷ a)
    more-first a e new =
        let t = tables_of s in
        let r = record_for n (first_slot a) in
        let k = head-kept t d n.slot r ∙ head_read s long d x at in
        next-first (with_record t n.slot r) d (suc n.slot)
        ∙ ap (λ (z : DomainHead). with_head (with_record t n.slot r) d (with_first z (suc n.slot))) k
        ∙ head-then-row t d n.slot r (with_first (head_for s.sizes.slots x) (suc n.slot))
        ∙ sym (front-added s long d x at n a (inside (n ∷ a) [] a n new refl) e (new.once n.slot))

    more-behind : (b a : List Record) (q : Record) → x.tracker ≡ b ++ q ∷ a → New (b ++ q ∷ n ∷ a)
        → with_next (with_record (tables_of s) n.slot (record_for n (first_slot a))) d (suc q.slot) (suc n.slot) ≡ after (b ++ q ∷ n ∷ a)
    more-behind b a q e new =
        let t = tables_of s in
        let r = record_for n (first_slot a) in
        let l = b ++ q ∷ n ∷ a in
        next-behind (with_record t n.slot r) d q.slot (suc n.slot)
        ∙ ap (λ (z : Region). with_record (with_record t n.slot r) q.slot (links.with_end z z.end (suc n.slot)))
        (row_other t n.slot q.slot r (apart l b a q n new refl) ∙ row_is b a q e)
        ∙ sym (record-added s long d x at b a q q refl (inside l b (n ∷ a) q new refl) n (inside l (b ++ q ∷ []) a n new (sym (append_assoc b (q ∷ []) (n ∷ a)))) e
        (new.once q.slot) (new.once n.slot))

    More : List Record → List Record → Type 0
    More b a = x.tracker ≡ b ++ a → New (b ++ n ∷ a)
        → with_next (with_record (tables_of s) n.slot (record_for n (first_slot a))) d (last_link b) (suc n.slot) ≡ after (b ++ n ∷ a)

    -- n comes behind the last of b, or first
    pub more : (b a : List Record) → x.tracker ≡ b ++ a → New (b ++ n ∷ a)
        → with_next (with_record (tables_of s) n.slot (record_for n (first_slot a))) d (last_link b) (suc n.slot) ≡ after (b ++ n ∷ a)
    unfolding More
    more b a = elim (ends b) [
      | empty k ↦ subst (λ (c : List Record). More c a) (sym k) (more-first a)
      | full c q k ↦ subst (λ (c : List Record). More c a) (sym k) (λ e new. let m = append_assoc c (q ∷ []) (n ∷ a) in
          ap (λ (z : ℕ). with_next (with_record (tables_of s) n.slot (record_for n (first_slot a))) d z (suc n.slot)) (last_of c q)
          ∙ more-behind c a q (e ∙ append_assoc c (q ∷ []) a) (subst New m new)
          ∙ ap after (sym m))
    ]

  -- ---- one record less

  -- the slot of a record that has left is in no tracker
  module _ (n : Record) where
    less-first : (a : List Record) → x.tracker ≡ n ∷ a → record_uses (domains_with s d x a) n.slot ≡ 0
        → with_record (with_next (tables_of s) d 0 (link (first_slot a))) n.slot no_record ≡ after a
    less-first a e gone =
        let t = tables_of s in
        ap (λ (z : Tables). with_record z n.slot no_record)
        (next-first t d (link (first_slot a)) ∙ ap (λ (z : DomainHead). with_head t d (with_first z (link (first_slot a)))) (head_read s long d x at))
        ∙ sym (front-removed s long d x at n a (slot-inside s.sizes.records s.domains h d x at [] a n e) e gone)

    -- q stands before n, and changes its end or not
    pub less-row : (b a : List Record) (q p : Record) → p.slot ≡ q.slot → x.tracker ≡ b ++ q ∷ n ∷ a → New (b ++ p ∷ a)
        → record_uses (domains_with s d x (b ++ p ∷ a)) n.slot ≡ 0
        → with_record (with_record (tables_of s) p.slot (record_for p (first_slot a))) n.slot no_record ≡ after (b ++ p ∷ a)
    less-row b a q p same e new gone =
        let ne = slot_apart s.sizes.records s.domains h d x at b a q n e in
        rows-swap (tables_of s) p.slot n.slot (record_for p (first_slot a)) no_record (λ k. ne (sym same ∙ k))
        ∙ sym (record-removed s long d x at b a q p same (inside (b ++ p ∷ a) b a p new refl) n
        (slot-inside s.sizes.records s.domains h d x at (b ++ q ∷ []) a n (e ∙ sym (append_assoc b (q ∷ []) (n ∷ a)))) e (new.once p.slot) gone)

    less-behind : (b a : List Record) (q : Record) → x.tracker ≡ b ++ q ∷ n ∷ a → New (b ++ q ∷ a) → record_uses (domains_with s d x (b ++ q ∷ a)) n.slot ≡ 0
        → with_record (with_next (tables_of s) d (suc q.slot) (link (first_slot a))) n.slot no_record ≡ after (b ++ q ∷ a)
    less-behind b a q e new gone =
        let t = tables_of s in
        ap (λ (z : Tables). with_record z n.slot no_record)
        (next-behind t d q.slot (link (first_slot a)) ∙ ap (λ (z : Region). with_record t q.slot (links.with_end z z.end (link (first_slot a)))) (row_is b (n ∷ a) q e))
        ∙ less-row b a q q refl e new gone

    Less : List Record → List Record → Type 0
    Less b a = x.tracker ≡ b ++ n ∷ a → New (b ++ a) → record_uses (domains_with s d x (b ++ a)) n.slot ≡ 0
        → with_record (with_next (tables_of s) d (last_link b) (link (first_slot a))) n.slot no_record ≡ after (b ++ a)

    -- n leaves, from behind the last of b or from the front
    pub less : (b a : List Record) → x.tracker ≡ b ++ n ∷ a → New (b ++ a) → record_uses (domains_with s d x (b ++ a)) n.slot ≡ 0
        → with_record (with_next (tables_of s) d (last_link b) (link (first_slot a))) n.slot no_record ≡ after (b ++ a)
    unfolding Less
    less b a = elim (ends b) [
      | empty k ↦ subst (λ (c : List Record). Less c a) (sym k) (λ e new gone. less-first a e gone)
      | full c q k ↦ subst (λ (c : List Record). Less c a) (sym k) (λ e new gone. let m = append_assoc c (q ∷ []) a in
          ap (λ (z : ℕ). with_record (with_next (tables_of s) d z (link (first_slot a))) n.slot no_record) (last_of c q)
          ∙ less-behind c a q (e ∙ append_assoc c (q ∷ []) (n ∷ a)) (subst New m new)
          (subst (λ (l : List Record). record_uses (domains_with s d x l) n.slot ≡ 0) m gone)
          ∙ ap after (sym m))
    ]

  -- ---- a record changed in place, alone or with a new one behind it

  module _ (b a : List Record) (q p : Record) (same : p.slot ≡ q.slot) (e : x.tracker ≡ b ++ q ∷ a) where
    pub changed : New (b ++ p ∷ a) → with_record (tables_of s) p.slot (record_for p (first_slot a)) ≡ after (b ++ p ∷ a)
    changed new = sym (record-changed s long d x at b a q p same (inside (b ++ p ∷ a) b a p new refl) e (new.once p.slot))

    pub cut-in-two : (n : Record) → New (b ++ p ∷ n ∷ a)
        → with_record (with_record (tables_of s) n.slot (record_for n (first_slot a))) p.slot (record_for p (some n.slot)) ≡ after (b ++ p ∷ n ∷ a)
    cut-in-two n new =
        let l = b ++ p ∷ n ∷ a in
        sym (record-added s long d x at b a q p same (inside l b (n ∷ a) p new refl) n (inside l (b ++ p ∷ []) a n new (sym (append_assoc b (p ∷ []) (n ∷ a)))) e
        (new.once p.slot) (new.once n.slot))
