-- A domain read and put back: its row and that of its interface change, and where its tracker is the same nothing else does.
use Rattle.std.specs.Prelude.{◌≡◌, ℕ, ◌<◌, List, length, get_or, set}
use Rattle.std.proofs.Common.{sym, ◌∙◌, arith}
use Rattle.std.proofs.Math.Path.{ap}
use Rattle.std.proofs.Math.Option.{Option, some}
use Rattle.std.proofs.Math.Seq.{set-get_or}
use Rattle.model.specs.Lists.{at_slot, In}
use Rattle.model.specs.State as state
use Rattle.model.specs.State.{State, put_domain}
use Rattle.tables.specs.Tables.{Domain, no_domain, no_interface, head_at, interface_at, put_head, with_domain_pool, with_domains, with_head, with_records, with_interfaces, with_interface}
use Rattle.decoded.specs.Rows.{get_or-up, same_up, set-table, same-table}
use Rattle.laws.specs.Tree.Slots.{in-length}
use Rattle.decoded.specs.Tracker.Trackers.{tracker_of, record_same}
use Rattle.decoded.specs.Tables.{pool_of, slots_for, head_for, domain_for, interface_for, slot_interface, in_tracker_for, record_in, domains_for, records_for, interfaces_for, tables_of}

-- ---- trackers

pub records-kept : (n : ℕ) (ds : List (Option state.Domain)) (d : ℕ) (o : Option state.Domain) → tracker_of o ≡ tracker_of (at_slot ds d) → records_for n (set ds d o) ≡ records_for n ds
unfolding records_for
records-kept n ds d o e = same_up (record_in (set ds d o)) (record_in ds) n (λ i h. record_same ds d o i (λ r. ap (λ (t : List state.Record). in_tracker_for i t r) e))

-- ---- interfaces

interfaces-set : (ds : List (Option state.Domain)) (n d : ℕ) (o : Option state.Domain) → length ds ≡ n → d < n → interfaces_for n (set ds d o) ≡ set (interfaces_for n ds) d (slot_interface o)
unfolding interfaces_for
interfaces-set ds n d o e l = set-table (λ j. slot_interface) ds n d o e l

pub interfaces-kept : (ds : List (Option state.Domain)) (n d : ℕ) (o : Option state.Domain) → slot_interface o ≡ slot_interface (at_slot ds d) → interfaces_for n (set ds d o) ≡ interfaces_for n ds
unfolding interfaces_for
interfaces-kept ds n d o e = same-table slot_interface ds n d o e

-- ---- domains

module _ (s : State) (long : length s.domains ≡ s.sizes.domains) where
  -- also for a domain that is opened or closed, with another pool
  pub domain-set : (p : state.Pool) (d : ℕ) (o : Option state.Domain) → d < s.sizes.domains → tracker_of o ≡ tracker_of (at_slot s.domains d)
      → tables_of (state.with_domains p (set s.domains d o) s)
      ≡ with_interface (with_domains (with_domain_pool (tables_of s) (pool_of s.sizes.domains p)) (set (tables_of s).domains d (domain_for s.sizes.slots o))) d (slot_interface o)
  unfolding tables_of with_records with_domains with_domain_pool with_interface with_interfaces domains_for
  domain-set p d o h e =
      let r = records-kept s.sizes.records s.domains d o e in
      let t = set-table (λ j. domain_for s.sizes.slots) s.domains s.sizes.domains d o long h in
      let f = interfaces-set s.domains s.sizes.domains d o long h in
      let a = tables_of s in
      λ i. with_interfaces (with_records (with_domains (with_domain_pool a (pool_of s.sizes.domains p)) (t i)) (r i)) (f i)

  -- where the interface is the same
  domain-set-kept : (p : state.Pool) (d : ℕ) (o : Option state.Domain) → d < s.sizes.domains → tracker_of o ≡ tracker_of (at_slot s.domains d) → slot_interface o ≡ slot_interface (at_slot s.domains d)
      → tables_of (state.with_domains p (set s.domains d o) s)
      ≡ with_domains (with_domain_pool (tables_of s) (pool_of s.sizes.domains p)) (set (tables_of s).domains d (domain_for s.sizes.slots o))
  unfolding tables_of with_records with_domains with_domain_pool with_interfaces domains_for
  domain-set-kept p d o h e q =
      let r = records-kept s.sizes.records s.domains d o e in
      let t = set-table (λ j. domain_for s.sizes.slots) s.domains s.sizes.domains d o long h in
      let f = interfaces-kept s.domains s.sizes.domains d o q in
      let a = tables_of s in
      λ i. with_interfaces (with_records (with_domains (with_domain_pool a (pool_of s.sizes.domains p)) (t i)) (r i)) (f i)

  module _ (d : ℕ) (x : state.Domain) (at : In s.domains d x) where
    below : d < s.sizes.domains
    below = omega (arith, in-length s.domains d x at, long)

    pub domain-row : get_or (tables_of s).domains d no_domain ≡ domain_for s.sizes.slots (some x)
    unfolding tables_of domains_for
    domain-row = get_or-up (λ j. domain_for s.sizes.slots (at_slot s.domains j)) s.sizes.domains d no_domain below ∙ ap (domain_for s.sizes.slots) at

    pub head_read : head_at (tables_of s) d ≡ head_for s.sizes.slots x
    unfolding head_at
    head_read = ap (λ (y : Domain). y.head) domain-row

    pub domain-put : (y : state.Domain) → y.tracker ≡ x.tracker → y.interface ≡ x.interface → tables_of (put_domain d y s) ≡ with_domains (tables_of s) (set (tables_of s).domains d (domain_for s.sizes.slots (some y)))
    unfolding tables_of with_domains with_domain_pool
    domain-put y e q = domain-set-kept s.domain_pool d (some y) below (e ∙ ap tracker_of (sym at)) (ap interface_for q ∙ ap slot_interface (sym at))

    -- the new row, from the one that is read
    row_put : (y : state.Domain) (f : Domain → Domain) → y.tracker ≡ x.tracker → y.interface ≡ x.interface → domain_for s.sizes.slots (some y) ≡ f (domain_for s.sizes.slots (some x))
        → tables_of (put_domain d y s) ≡ with_domains (tables_of s) (set (tables_of s).domains d (f (get_or (tables_of s).domains d no_domain)))
    row_put y f e k q = domain-put y e k ∙ ap (λ (z : Domain). with_domains (tables_of s) (set (tables_of s).domains d z)) (q ∙ ap f (sym domain-row))

    module _ (y : state.Domain) (e : y.tracker ≡ x.tracker) (k : y.interface ≡ x.interface) where
      -- with the list as it is
      pub head-put : y.locals ≡ x.locals → tables_of (put_domain d y s) ≡ with_head (tables_of s) d (head_for s.sizes.slots y)
      unfolding with_head
      head-put l =
          let h = head_for s.sizes.slots y in
          row_put y (λ z. put_head z h) e k (λ i. record { head = h; slots = slots_for s.sizes.slots (l i) })

    -- ---- its interface

    pub interface-read : interface_at (tables_of s) d ≡ interface_for x.interface
    unfolding interface_at tables_of interfaces_for
    interface-read = get_or-up (λ j. slot_interface (at_slot s.domains j)) s.sizes.domains d no_interface below ∙ ap slot_interface at

    pub interface-put : (f : state.Interface) → tables_of (put_domain d (state.with_interface f x) s) ≡ with_interface (tables_of s) d (interface_for f)
    unfolding tables_of with_domains with_domain_pool with_interface with_interfaces
    interface-put f =
        domain-set s.domain_pool d (some (state.with_interface f x)) below (ap tracker_of (sym at))
        ∙ ap (λ l. with_interface (with_domains (tables_of s) l) d (interface_for f)) (ap (set (tables_of s).domains d) (sym domain-row) ∙ set-get_or (tables_of s).domains d no_domain)
