-- The steps by which a tracker changes, in the tables: a record changed in place, one more behind a record or in front, one less.
use Rattle.std.specs.Prelude.{◌≡◌, ◌≢◌, ℕ, ◌≤◌, ◌<◌, length, get_or}
use Rattle.std.proofs.Math.Path.{refl, sym, ap}
use Rattle.std.proofs.Common.{◌∙◌, arith, get_or-set_same}
use Rattle.std.proofs.Math.Option.{Option, none, some}
use mathlib.Core.List.{List, [], ◌∷◌, ◌++◌, append_assoc}
use Rattle.std.proofs.Math.ListN.{set}
use Rattle.std.proofs.lemmas.List.{set-get_or}
use Rattle.model.specs.Lists.{In}
use Rattle.model.specs.State as state
use Rattle.model.specs.State.{State, Record, put_domain, with_tracker}
use Rattle.model.specs.Layout.{link}
use Rattle.model.specs.Sound.{record_uses}
use Rattle.laws.specs.Words.SameTrackers.{first_slot}
use Rattle.laws.specs.Tree.Slots.{in-length}
use Rattle.tables.specs.declared.Region.{Region}
use Rattle.tables.specs.Tables.{Tables, Domain, no_domain, no_record, put_head, with_domains, with_head, with_records, with_interfaces, with_record}
use Rattle.tracker_records.specs.Links.{with_first}
use Rattle.decoded.specs.Rows.{set-up, set-table, set-two}
use Rattle.decoded.specs.Tables.{record_for, in_tracker_for, record_in, head_for, domain_for, slot_interface, domains_for, records_for, tables_of}
use Rattle.decoded.specs.Tracker.Trackers.{tracker_of, first-same, row-later, row_before, record-unused, record-read, record_same}
use Rattle.decoded.specs.Slots.Domains.{interfaces-kept, domain-row}

-- the domains with tracker l in domain x, slot d
abbrev pub domains_with : State → ℕ → state.Domain → List Record → List (Option state.Domain)
domains_with s d x l = set s.domains d (some (with_tracker l x))

head-same : (t : Tables) (d : ℕ) → with_head t d (get_or t.domains d no_domain).head ≡ t
unfolding with_head with_domains
head-same t d = ap (with_domains t) (set-get_or t.domains d no_domain)

module _ (s : State) (long : length s.domains ≡ s.sizes.domains) (d : ℕ) (x : state.Domain) (at : In s.domains d x) (l : List Record) where
  here : d < length s.domains
  here = in-length s.domains d x at

  -- x's head names the first record; the rows are those of the new trackers
  tracker-put : tables_of (put_domain d (with_tracker l x) s)
      ≡ with_records (with_head (tables_of s) d (with_first (head_for s.sizes.slots x) (link (first_slot l)))) (records_for s.sizes.records (domains_with s d x l))
  unfolding tables_of with_records with_interfaces with_head with_domains domains_for
  tracker-put =
      let t = tables_of s in
      let n = s.sizes.slots in
      let h = with_first (head_for n x) (link (first_slot l)) in
      let r = set-table (λ j. domain_for n) s.domains s.sizes.domains d (some (with_tracker l x)) long (omega (arith, here))
      ∙ ap (λ (z : Domain). set t.domains d (put_head z h)) (sym (domain-row s long d x at)) in
      let f = interfaces-kept s.domains s.sizes.domains d (some (with_tracker l x)) (ap slot_interface (sym at)) in
      λ i. with_interfaces (with_records (with_domains t (r i)) (records_for s.sizes.records (domains_with s d x l))) (f i)

  -- with the same first record the head is as it was
  tracker-kept : first_slot l ≡ first_slot x.tracker → tables_of (put_domain d (with_tracker l x) s) ≡ with_records (tables_of s) (records_for s.sizes.records (domains_with s d x l))
  tracker-kept e =
      let h = head_for s.sizes.slots x in
      let k : with_first h (link (first_slot l)) ≡ (get_or (tables_of s).domains d no_domain).head = ap (λ f. with_first h (link f)) e ∙ sym (ap (λ (z : Domain). z.head) (domain-row s long d x at)) in
      tracker-put ∙ ap (λ t. with_records t (records_for s.sizes.records (domains_with s d x l))) (ap (with_head (tables_of s) d) k ∙ head-same (tables_of s) d)

  -- rows that this tracker keeps are kept
  row_kept : (i : ℕ) → ((r : Region) → in_tracker_for i l r ≡ in_tracker_for i x.tracker r) → record_in (domains_with s d x l) i ≡ record_in s.domains i
  row_kept i e = record_same s.domains d (some (with_tracker l x)) i (λ r. e r ∙ ap (λ o. in_tracker_for i (tracker_of o) r) (sym at))

  -- a record of the new tracker
  row_read : (b a : List Record) (q : Record) → l ≡ b ++ q ∷ a → record_uses (domains_with s d x l) q.slot ≤ 1 → record_in (domains_with s d x l) q.slot ≡ record_for q (first_slot a)
  row_read b a q e h = record-read (domains_with s d x l) d (with_tracker l x) (get_or-set_same s.domains d (some (with_tracker l x)) none here) b a q e h

  one-row : (i : ℕ) (r : Region) → i < s.sizes.records → record_in (domains_with s d x l) i ≡ r → ((j : ℕ) → j ≢ i → record_in (domains_with s d x l) j ≡ record_in s.domains j)
      → records_for s.sizes.records (domains_with s d x l) ≡ set (records_for s.sizes.records s.domains) i r
  unfolding records_for
  one-row i r h e o = sym (set-up (record_in s.domains) (record_in (domains_with s d x l)) s.sizes.records i r h e (λ j ne k. o j ne))

  two-rows : (i j : ℕ) (p r : Region) → i < s.sizes.records → j < s.sizes.records → record_in (domains_with s d x l) i ≡ p → record_in (domains_with s d x l) j ≡ r
      → ((k : ℕ) → k ≢ i → k ≢ j → record_in (domains_with s d x l) k ≡ record_in s.domains k)
      → records_for s.sizes.records (domains_with s d x l) ≡ set (set (records_for s.sizes.records s.domains) j r) i p
  unfolding records_for
  two-rows i j p r hi hj ei ej o =
      let m = records_for s.sizes.records s.domains in
      sym (set-two (record_in s.domains) (record_in (domains_with s d x l)) s.sizes.records i j hi hj o)
      ∙ ap (λ z. set (set m j z) i (record_in (domains_with s d x l) i)) ej ∙ ap (λ z. set (set m j r) i z) ei

-- domain x stands in slot d; no record of the new trackers is in two places
module _ (s : State) (long : length s.domains ≡ s.sizes.domains) (d : ℕ) (x : state.Domain) (at : In s.domains d x) where
  -- record q, behind b, becomes p in the same slot
  module _ (b a : List Record) (q p : Record) (same : p.slot ≡ q.slot) (inside : p.slot < s.sizes.records) where
    -- rows of other slots, whatever follows
    other_row : (a₁ a₂ : List Record) → x.tracker ≡ b ++ q ∷ a₂ → (j : ℕ) → j ≢ p.slot → ((r : Region) → in_tracker_for j a₁ r ≡ in_tracker_for j a₂ r)
        → record_in (domains_with s d x (b ++ p ∷ a₁)) j ≡ record_in s.domains j
    other_row a₁ a₂ e j ne k =
        row_kept s long d x at (b ++ p ∷ a₁) j (λ r. row_before j b (p ∷ a₁) (q ∷ a₂) r (ap some same) (row-later j p a₁ r ne ∙ k r ∙ sym (row-later j q a₂ r (λ z. ne (z ∙ sym same)))) ∙ ap (λ t. in_tracker_for j t r) (sym e))

    kept : (a₁ a₂ : List Record) → x.tracker ≡ b ++ q ∷ a₂
        → tables_of (put_domain d (with_tracker (b ++ p ∷ a₁) x) s) ≡ with_records (tables_of s) (records_for s.sizes.records (domains_with s d x (b ++ p ∷ a₁)))
    kept a₁ a₂ e = tracker-kept s long d x at (b ++ p ∷ a₁) (first-same b (p ∷ a₁) (q ∷ a₂) (ap some same) ∙ ap first_slot (sym e))

    pub record-changed : x.tracker ≡ b ++ q ∷ a → record_uses (domains_with s d x (b ++ p ∷ a)) p.slot ≤ 1
        → tables_of (put_domain d (with_tracker (b ++ p ∷ a) x) s) ≡ with_record (tables_of s) p.slot (record_for p (first_slot a))
    unfolding with_record tables_of
    record-changed e h =
        let l = b ++ p ∷ a in
        kept a a e
        ∙ ap (with_records (tables_of s)) (one-row s long d x at l p.slot (record_for p (first_slot a)) inside (row_read s long d x at l b a p refl h) (λ j ne. other_row a a e j ne (λ r. refl)))

    -- with record n behind it from now on
    pub record-added : (n : Record) → n.slot < s.sizes.records → x.tracker ≡ b ++ q ∷ a
        → record_uses (domains_with s d x (b ++ p ∷ n ∷ a)) p.slot ≤ 1 → record_uses (domains_with s d x (b ++ p ∷ n ∷ a)) n.slot ≤ 1
        → tables_of (put_domain d (with_tracker (b ++ p ∷ n ∷ a) x) s)
        ≡ with_record (with_record (tables_of s) n.slot (record_for n (first_slot a))) p.slot (record_for p (some n.slot))
    unfolding with_record with_records tables_of
    record-added n hn e h k =
        let l = b ++ p ∷ n ∷ a in
        kept (n ∷ a) a e
        ∙ ap (with_records (tables_of s))
        (two-rows s long d x at l p.slot n.slot (record_for p (some n.slot)) (record_for n (first_slot a)) inside hn
        (row_read s long d x at l b (n ∷ a) p refl h)
        (row_read s long d x at l (b ++ (p ∷ [])) a n (sym (append_assoc b (p ∷ []) (n ∷ a))) k)
        (λ j ne nn. other_row (n ∷ a) a e j ne (λ r. row-later j n a r nn)))

    -- without record n behind it, whose slot no tracker has
    pub record-removed : (n : Record) → n.slot < s.sizes.records → x.tracker ≡ b ++ q ∷ n ∷ a
        → record_uses (domains_with s d x (b ++ p ∷ a)) p.slot ≤ 1 → record_uses (domains_with s d x (b ++ p ∷ a)) n.slot ≡ 0
        → tables_of (put_domain d (with_tracker (b ++ p ∷ a) x) s) ≡ with_record (with_record (tables_of s) n.slot no_record) p.slot (record_for p (first_slot a))
    unfolding with_record with_records tables_of
    record-removed n hn e h k =
        let l = b ++ p ∷ a in
        kept a (n ∷ a) e
        ∙ ap (with_records (tables_of s))
        (two-rows s long d x at l p.slot n.slot (record_for p (first_slot a)) no_record inside hn (row_read s long d x at l b a p refl h) (record-unused (domains_with s d x l) n.slot k)
        (λ j ne nn. other_row a (n ∷ a) e j ne (λ r. sym (row-later j n a r nn))))

  -- record n in front of the others
  module _ (n : Record) (l : List Record) (inside : n.slot < s.sizes.records) where
    pub front-added : x.tracker ≡ l → record_uses (domains_with s d x (n ∷ l)) n.slot ≤ 1
        → tables_of (put_domain d (with_tracker (n ∷ l) x) s)
        ≡ with_record (with_head (tables_of s) d (with_first (head_for s.sizes.slots x) (link (some n.slot)))) n.slot (record_for n (first_slot l))
    unfolding with_record with_head with_domains tables_of
    front-added e h =
        tracker-put s long d x at (n ∷ l)
        ∙ ap (with_records (with_head (tables_of s) d (with_first (head_for s.sizes.slots x) (link (some n.slot)))))
        (one-row s long d x at (n ∷ l) n.slot (record_for n (first_slot l)) inside (row_read s long d x at (n ∷ l) [] l n refl h)
        (λ j ne. row_kept s long d x at (n ∷ l) j (λ r. row-later j n l r ne ∙ ap (λ t. in_tracker_for j t r) (sym e))))

    pub front-removed : x.tracker ≡ n ∷ l → record_uses (domains_with s d x l) n.slot ≡ 0
        → tables_of (put_domain d (with_tracker l x) s) ≡ with_record (with_head (tables_of s) d (with_first (head_for s.sizes.slots x) (link (first_slot l)))) n.slot no_record
    unfolding with_record with_head with_domains tables_of
    front-removed e h =
        tracker-put s long d x at l
        ∙ ap (with_records (with_head (tables_of s) d (with_first (head_for s.sizes.slots x) (link (first_slot l)))))
        (one-row s long d x at l n.slot no_record inside (record-unused (domains_with s d x l) n.slot h)
        (λ j ne. row_kept s long d x at l j (λ r. sym (ap (λ t. in_tracker_for j t r) e ∙ row-later j n l r ne))))
