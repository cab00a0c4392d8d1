-- The readings of the tables of a sound state are the model's. A domain's records, followed along their links, are the rows of its tracker, in order: a
-- row says what its record says, and the link of the next one. Then each reading of the rows is that reading of the records.
-- The holders of address a: the code takes the largest reach over the range from a up to a + 1, the model the first record that holds a. Records rise
-- and are disjoint, so at most one record meets that range, and it is the one that holds a.
use Rattle.std.specs.Prelude.{◌≡◌, Bool, true, false, not, ◌&&◌, eqb, ltb, length, if◌then◌else◌}
use Rattle.std.proofs.Math.Path.{refl, ap}
use Rattle.std.proofs.Common.{sym, ◌∙◌, arith, lt-ltb, le-ltb, ne_eqb, le-leb}
use Prim.Native.Nat.{ℕ, zero, suc, ◌+◌, ◌≤◌, ◌<◌, max}
use Rattle.std.proofs.Math.Option.{Option, none, some, get_or}
use mathlib.Core.List.{List, [], ◌∷◌, map}
use Rattle.model.specs.Lists.{one_if, is_some, count_if, keep, at_slot, In, count_up}
use Rattle.std.proofs.lemmas.Bool.{lt-leb}
use Rattle.base.specs.Cases.{lt, ge, cmp, below, inside, above, pos, holds, fails, test, pick}
use Rattle.base.specs.Tests.{both}
use Rattle.model.specs.State as state
use Rattle.model.specs.State.{State, Record, Access}
use Rattle.model.specs.Layout.{link, free_link}
use Rattle.model.specs.Tracker as tracker
use Rattle.model.specs.Counts.{counts_at}
use Rattle.model.specs.Readings as model
use Rattle.model.specs.Sound.{PoolSound, slot_uses, record_uses, Rising, Sound}
use Rattle.laws.specs.Stack.{link-in, link-out}
use Rattle.laws.specs.Words.SameTrackers.{first_slot}
use Rattle.tables.specs.declared.DomainHead.{DomainHead}
use Rattle.tables.specs.declared.Region.{Region}
use Rattle.tables.specs.Tables.{Tables, no_record, head_at, record_at}
use Rattle.arena.specs.Arena.{is_free_b}
use Rattle.tracker_records.specs.Links.{first_link}
use Rattle.readings.specs.declared.Permission.{Permission}
use Rattle.readings.specs.Readings as readings
use Rattle.readings.specs.Readings.{records_from, records_of, permission_list}
use Rattle.holders.specs.Holders as holders
use Rattle.holders.specs.Holders.{holders_of}
use Rattle.decoded.specs.Rows.{get_or-up}
use Rattle.decoded.specs.Free.{used-not-free}
use Rattle.decoded.specs.Tables.{pool_of, record_for, record_in, records_for, tables_of}
use Rattle.decoded.specs.Slots.Domains.{head_read}
use Rattle.refine.specs.Tracker.Linked.{Spread, slot-of}
use Rattle.refine.specs.Tracker.RecordSteps.{spread}
use Rattle.decoded.specs.Decode.Trackers.{Stored, tracker-fits, tracker-stored}

-- ---- rows

-- the rows of a tracker: each record with the link of the next
abbrev pub rows_of : List Record → List Region
rows_of [] = []
rows_of (q ∷ l) = record_for q (first_slot l) ∷ rows_of l

-- a permission as the code gives it
abbrev pub permission_in : Access → Permission
permission_in a = record { start = a.start; end = a.end; rights = a.rights }

pub records-none : (n : ℕ) (t : Tables) → records_from n t 0 ≡ []
unfolding records_from
records-none zero t = refl
records-none (suc n) t = refl

records-next : (n : ℕ) (t : Tables) (i : ℕ) → records_from (suc n) t (suc i) ≡ record_at t i ∷ records_from n t (record_at t i).next
unfolding records_from
records-next n t i = rw (ne_eqb (suc i) 0 (λ e. omega arith)) (ap (λ (j : ℕ). record_at t j ∷ records_from n t (record_at t j).next) (slot-of i))

-- rows that spell out a tracker are found along their links
rows_walked_lem : (n : ℕ) (t : Tables) (l : List Record) → length l ≤ n → Stored (record_at t) l → records_from n t (link (first_slot l)) ≡ rows_of l
rows_walked_lem n t [] b h = records-none n t
rows_walked_lem zero t (q ∷ l) b h = absurd (omega arith)
rows_walked_lem (suc n) t (q ∷ l) b h =
    let r = ap (λ (k : ℕ). records_from n t k) (ap (λ (z : Region). z.next) h.0) ∙ rows_walked_lem n t l (omega arith) h.1 in
    records-next n t q.slot ∙ (λ i. h.0 i ∷ r i)

-- ---- readings of rows

rights-are : (q : Record) (o : Option ℕ) → readings.rights_of (record_for q o) ≡ model.rights_of q.counts
unfolding readings.rights_of
rights-are q o = refl

permission-is : (q : Record) (o : Option ℕ) → readings.permission_of (record_for q o) ≡ permission_in (model.permission_of q)
permission-is q o = let r = rights-are q o in λ i. record { start = q.start; end = q.end; rights = r i }

permissions-of : (l : List Record) → map readings.permission_of (rows_of l) ≡ map (λ q. permission_in (model.permission_of q)) l
permissions-of [] = refl
permissions-of (q ∷ l) = let p = permission-is q (first_slot l) in let r = permissions-of l in λ i. p i ∷ r i

reach_of : (a b : ℕ) (l : List Record) → readings.largest_reach a b (rows_of l) ≡ model.largest_reach a b l
unfolding readings.largest_reach
reach_of a b [] = refl
reach_of a b (q ∷ l) = ap (λ (n : ℕ). max (if tracker.meets a b q then q.counts.reach else 0) n) (reach_of a b l)

-- ---- one address

-- no record before the first
reach-below : (a lo : ℕ) (l : List Record) → a < lo → Rising lo l → model.largest_reach a (a + 1) l ≡ 0
reach-below a lo [] h o = refl
reach-below a lo (q ∷ l) h o = rw (lt-ltb a q.end (omega arith), le-ltb q.start (a + 1) (omega arith)) (omega (arith, reach-below a q.end l (omega arith) o.2))

reach-at : (a lo : ℕ) (l : List Record) → Rising lo l → model.largest_reach a (a + 1) l ≡ (counts_at l a).reach
reach-at a lo [] o = refl
reach-at a lo (q ∷ l) o = elim (pos q.start q.end a) [
  | below h ↦ rw (lt-ltb a q.end (omega arith), le-ltb q.start (a + 1) (omega arith), lt-leb q.start a h) (omega (arith, reach-at a q.end l o.2))
  | inside h k ↦ rw (lt-ltb a q.end k, lt-ltb q.start (a + 1) (omega arith), le-leb q.start a h) (omega (arith, reach-below a q.end l k o.2))
  | above k ↦ rw (le-ltb a q.end k, le-leb q.start a (omega arith)) (omega (arith, reach-at a q.end l o.2))
]

-- ---- slots in use

-- a slot's link is 0 where the slot is in use
used-is : {A : Type 0} (n : ℕ) (table : List (Option A)) (p : state.Pool) → PoolSound n (slot_uses table) p → (i : ℕ) → i < n → not (is_free_b (pool_of n p) i) ≡ is_some (at_slot table i)
unfolding is_free_b pool_of
used-is n table p h i l = ap (λ (k : ℕ). not (ltb 0 k)) (get_or-up (free_link p.free) n i 0 l) ∙ elim (test (is_some (at_slot table i))) [
  | holds t ↦ rw t (ap (λ (k : ℕ). not (ltb 0 k)) (link-out p.free i (used-not-free n (slot_uses table) p.free h.once i (ap one_if t))))
  | fails t ↦
      let c : 0 < count_if (eqb i) p.free = omega (arith, h.once i, ap one_if t, ap one_if (lt-ltb i n l)) in
      rw t (ap not (lt-ltb 0 (free_link p.free i) (omega (arith, link-in p.free i c))))
]

-- the branch of the code and of the model
pick-if : {A : Type 0} (b : Bool) (x y : A) → pick b x y ≡ (if b then x else y)
pick-if true x y = refl
pick-if false x y = refl

-- ---- the readings; domain x stands in slot d

module _ (s : State) (sound : Sound s) where
  apart : Spread s.sizes.records s.domains
  apart = spread s.sizes.records s.domains s.record_pool sound.tracked.record_pool

  row_at : (i : ℕ) → 0 < record_uses s.domains i → record_at (tables_of s) i ≡ record_in s.domains i
  unfolding record_at tables_of records_for
  row_at i u = elim (cmp i s.sizes.records) [ lt l ↦ get_or-up (record_in s.domains) s.sizes.records i no_record l | ge l ↦ absurd (omega (arith, apart.below i l)) ]

  module _ (d : ℕ) (x : state.Domain) (at : In s.domains d x) where
    first-is : first_link (tables_of s) d ≡ link (first_slot x.tracker)
    unfolding first_link
    first-is = ap (λ (h : DomainHead). h.tracker) (head_read s sound.outside.domains_length d x at)

    pub records-read : records_of (tables_of s) d ≡ rows_of x.tracker
    unfolding records_of tables_of
    records-read =
        let n = s.sizes.records in
        ap (records_from n (tables_of s)) first-is
        ∙ rows_walked_lem n (tables_of s) x.tracker (tracker-fits s.domains d x at apart.once n apart.below)
        (tracker-stored s.domains d x at apart.once (record_at (tables_of s)) row_at [] x.tracker refl)

    pub permissions-are : permission_list (tables_of s) d ≡ map (λ q. permission_in (model.permission_of q)) x.tracker
    unfolding permission_list
    permissions-are = ap (map readings.permission_of) records-read ∙ permissions-of x.tracker

    pub refcount-is : (a b : ℕ) → readings.largest_reach a b (records_of (tables_of s) d) ≡ model.largest_reach a b x.tracker
    refcount-is a b = ap (readings.largest_reach a b) records-read ∙ reach_of a b x.tracker

    pub cores-are : (head_at (tables_of s) d).cores ≡ x.cores
    cores-are = ap (λ (h : DomainHead). h.cores) (head_read s sound.outside.domains_length d x at)

  -- ---- holders

  module _ (a : ℕ) where
    -- by what the slot holds
    abbrev holder : Option state.Domain → Bool
    holder none = false
    holder (some x) = ltb 0 (counts_at x.tracker a).reach

    holder-from : (d : ℕ) (o : Option state.Domain) → at_slot s.domains d ≡ o
        → both (is_some o) (ltb 0 (readings.largest_reach a (a + 1) (records_of (tables_of s) d))) ≡ holder o
    holder-from d none e = refl
    holder-from d (some x) e = ap (ltb 0) (refcount-is d x e a (a + 1) ∙ reach-at a 0 x.tracker (sound.tracked.trackers d x e).rising)

    holder-is : (d : ℕ) (o : Option state.Domain) → d < s.sizes.domains → at_slot s.domains d ≡ o → holders.is_holder (tables_of s) a d ≡ holder o
    unfolding holders.is_holder tables_of
    holder-is d o l e =
        let u = used-is s.sizes.domains s.domains s.domain_pool sound.outside.domain_pool d l ∙ ap is_some e in
        ap (λ (b : Bool). both b (ltb 0 (readings.largest_reach a (a + 1) (records_of (tables_of s) d)))) u ∙ holder-from d o e

    -- what the model asks of the slot
    holder-same : (o : Option state.Domain) → holder o ≡ (is_some o && ltb 0 (counts_at (get_or o state.none_domain).tracker a).reach)
    holder-same none = refl
    holder-same (some x) = refl

    -- n slots from d on
    holders-from : (n d : ℕ) → d + n ≤ s.sizes.domains → holders.holders_from n (tables_of s) a d ≡ keep (model.is_holder s a) (count_up d n)
    unfolding holders.holders_from
    holders-from zero d b = refl
    holders-from (suc n) d b =
        let t : holders.is_holder (tables_of s) a d ≡ model.is_holder s a d = holder-is d (at_slot s.domains d) (omega arith) refl ∙ holder-same (at_slot s.domains d) in
        let r = holders-from n (suc d) (omega arith) in
        (λ i. pick (t i) (d ∷ r i) (r i)) ∙ pick-if (model.is_holder s a d) _ _

    pub holders-are : holders_of (tables_of s) a ≡ model.holders a s
    unfolding holders_of model.holders tables_of
    holders-are =
        ap (λ (n : ℕ). holders.holders_from n (tables_of s) a 0) (sym sound.outside.domains_length)
        ∙ holders-from (length s.domains) 0 (omega (arith, sound.outside.domains_length))

-- ---- a lent run

pub fill-same : {A : Type 0} (l run : List A) → readings.fill_run l run ≡ model.fill_run l run
fill-same l [] = refl
fill-same [] (y ∷ run) = refl
fill-same (x ∷ l) (y ∷ run) = ap (λ (m : List _). x ∷ m) (fill-same l run)

-- also where each element is written as another
pub fill-map : {A B : Type 0} (f : A → B) (l run : List A) → readings.fill_run (map f l) (map f run) ≡ map f (model.fill_run l run)
fill-map f l [] = refl
fill-map f [] (y ∷ run) = refl
fill-map f (x ∷ l) (y ∷ run) = ap (λ (m : List _). f x ∷ m) (fill-map f l run)
