-- Tables that pass the test of the capabilities: each managed domain has its one slot, and managers lead to an unmanaged domain.
use Rattle.std.specs.Prelude.{◌≡◌, eqb}
use Rattle.std.proofs.Math.Path.{refl, sym, ap, subst}
use Rattle.std.proofs.Common.{◌∙◌, arith, lt-ltb, eq-eqb, ne_eqb}
use Prim.Native.Nat.{ℕ, zero, suc, ◌+◌, ◌-◌, ◌≤◌, ◌<◌}
use Rattle.std.proofs.Math.Bool.{true}
use Rattle.std.proofs.Math.Option.{some}
use Rattle.std.proofs.Math.Decide.{ℕ_discrete}
use Rattle.std.proofs.Math.ListN.{get_or}
use Rattle.base.specs.Cases.{holds, fails, test}
use Rattle.base.specs.Options.{none-some, some_same}
use Rattle.model.specs.Lists.{one_if, count_if, In}
use Rattle.model.specs.State as state
use Rattle.model.specs.Pool.{handle_of}
use Rattle.model.specs.Sound.{ManagerSound, Managed, names, is_management_of}
use Rattle.laws.specs.Tree.Sum.{sum, sum-none}
use Rattle.laws.specs.Tree.Slots.{is_live_lem}
use Rattle.tables.specs.Tables.{Tables, head_at, slot_at}
use Rattle.decoded.specs.Shape.{Shaped}
use Rattle.decoded.specs.Decode.Read.{pool_from, taken, linked, held_in, domain_read, domains_from, state_of}
use Rattle.decoded.specs.Canonical.Pools.{table-used, table-in}
use Rattle.managers.specs.Managers.{manager_of, above, climbed}
use Rattle.sound_capas.specs.Capas.{row_claim, capas_hold}
use Rattle.exact_capas.specs.Grid.{sum-only}
use Rattle.exact_capas.specs.Clauses.{Before}
use Rattle.exact_capas.specs.Reads.{Lives, live_at}
use Rattle.exact_capas.specs.Items.{Who, of_region, of_domain, of_head, who, management-claims, manager-is, head-climbs}
use Rattle.exact_capas.specs.Used.{used-domain}
use Rattle.exact_capas.specs.Held.{management-held, held-management, held-count}
use Rattle.exact_capas.specs.Passed.{rows, Item, claimed, same_item}

-- the manager's link of a domain that a link names
pub above-is : (v : Tables) (l m : ℕ) → l ≡ suc m → above (manager_of v) l ≡ (head_at v m).manager
unfolding above
above-is v l m e = let z : l - 1 ≡ m = omega arith in rw (lt-ltb 0 l (omega arith)) (ap (λ i. (head_at v i).manager) z)

module _ (v : Tables) (k : Before v) (pass : capas_hold v ≡ true) where
  abbrev s : Shaped v
  s = k.shaped

  abbrev R : ℕ
  R = v.sizes.regions

  abbrev D : ℕ
  D = v.sizes.domains

  abbrev S : ℕ
  S = v.sizes.slots

  abbrev manager : ℕ → ℕ
  manager d = (head_at v d).manager

  abbrev holds_it : ℕ → ℕ → ℕ → ℕ
  holds_it d e j = one_if (is_management_of (handle_of (pool_from D v.domain_pool) d) (held_in (slot_at v e j)))

  -- who claims domain d: the one slot of its manager, or its own head
  data Managing (d : ℕ) : Type 0 where
    by-slot : (m j : ℕ) → m < D → taken v.domain_pool m ≡ true → j < S → (slot_at v m j).kind ≡ 4 → Lives D v.domain_pool (slot_at v m j).handle → (slot_at v m j).handle.slot ≡ d → row_claim v m j ≡ suc (R + d) → manager d ≡ suc m → Managing d
    by-head : (j : ℕ) → S ≤ j → j ≤ S → row_claim v d j ≡ suc (R + d) → manager d ≡ 0 → Managing d

  managing : (d : ℕ) → d < D → taken v.domain_pool d ≡ true → Managing d
  managing d b t = go (claimed v k pass (R + d) (omega arith) (used-domain v d ∙ ap one_if t))
    where
      of-who : (x : Item v k pass (R + d)) → Who v s x.row x.place (R + d) → Managing d
      of-who x (of_region u l z h q o) = absurd (omega (arith, h.below))
      of-who x (of_domain e u l z h q o y) = let w : e ≡ d = omega arith in by-slot x.row x.place x.row_below u l z h (q ∙ w) x.claims (ap manager (sym w) ∙ o)
      of-who x (of_head u l o y) = let w : x.row ≡ d = omega arith in by-head x.place l x.place_below (ap (λ n. row_claim v n x.place) (sym w) ∙ x.claims) (ap manager (sym w) ∙ o)

      go : Item v k pass (R + d) → Managing d
      go x = of-who x (who v s x.row x.place (R + d) x.row_below x.claims (omega arith))

  -- ---- its slot

  module _ (d : ℕ) (b : d < D) (t : taken v.domain_pool d ≡ true) (e : ℕ) (be : e < D) (te : taken v.domain_pool e ≡ true) where
    match : (j : ℕ) → j < S → is_management_of (handle_of (pool_from D v.domain_pool) d) (held_in (slot_at v e j)) ≡ true → row_claim v e j ≡ suc (R + d)
    unfolding pool_from
    match j c u =
        let x = slot_at v e j in
        let m = management-held (pool_from D v.domain_pool) d x u in
        let l : Lives D v.domain_pool x.handle = record { below = omega (arith, m.1); used = ap (taken v.domain_pool) m.1 ∙ t; same = ap (λ n. get_or v.domain_pool.gens n 0) m.1 ∙ sym m.2 } in
        management-claims v s e j te c m.0 l (manager-is v s e j te c ((rows v k pass).within e j be (omega arith)) m.0 (live_at D v.domain_pool s.domain_pool x.handle l)) ∙ ap (λ n. suc (R + n)) m.1

    -- a slot that is not the one that claims it
    off : (m i : ℕ) → m < D → i ≤ S → row_claim v m i ≡ suc (R + d) → (j : ℕ) → j < S → ((e ≡ m) × (j ≡ i) → ⊥) → holds_it d e j ≡ 0
    off m i bm bi cl j c ne = elim (test (is_management_of (handle_of (pool_from D v.domain_pool) d) (held_in (slot_at v e j)))) [
      | fails u ↦ ap one_if u
      | holds u ↦ absurd (ne (same_item v k pass (R + d) e j m i be (omega arith) bm bi (match j c u) cl))
    ]

    counted : Managing d → count_if (is_management_of (handle_of (pool_from D v.domain_pool) d)) (domain_read v e).locals.held ≡ one_if (names (linked (manager d)) e)
    unfolding pool_from
    counted (by-head i l h cl z) = held-count v s e be (is_management_of (handle_of (pool_from D v.domain_pool) d)) ∙ sum-none (holds_it d e) S (λ j c. off d i b h cl j c (λ q. omega (arith, q.1))) ∙ sym (ap (λ n. one_if (names (linked n) e)) z)
    counted (by-slot m i bm tm bi z l q cl w) = held-count v s e be (is_management_of (handle_of (pool_from D v.domain_pool) d)) ∙ there (ℕ_discrete m e) ∙ sym (ap (λ n. one_if (names (linked n) e)) w)
      where
        here : is_management_of (handle_of (pool_from D v.domain_pool) d) (held_in (slot_at v m i)) ≡ true
        here = held-management (pool_from D v.domain_pool) d (slot_at v m i) z q (sym l.same ∙ ap (λ n. get_or v.domain_pool.gens n 0) q)

        there : Prim.Dec (m ≡ e) → sum (holds_it d e) S ≡ one_if (eqb m e)
        there (yes y) = sum-only (holds_it d e) S i bi (λ j c ne. off m i bm (omega arith) cl j c (λ p. ne p.1)) ∙ ap one_if (ap (λ n. is_management_of (handle_of (pool_from D v.domain_pool) d) (held_in (slot_at v n i))) (sym y) ∙ here) ∙ sym (ap one_if (eq-eqb m e y))
        there (no ne) = sum-none (holds_it d e) S (λ j c. off m i bm (omega arith) cl j c (λ p. ne (sym p.0))) ∙ sym (ap one_if (ne_eqb m e ne))

  -- ---- no circle

  up : (d m : ℕ) → d < D → taken v.domain_pool d ≡ true → manager d ≡ suc m → (m < D) × (taken v.domain_pool m ≡ true)
  up d m b t e = go (managing d b t)
    where
      go : Managing d → (m < D) × (taken v.domain_pool m ≡ true)
      go (by-slot n j bn tn c z l q cl w) = let y : n ≡ m = omega arith in (omega arith, ap (taken v.domain_pool) (sym y) ∙ tn)
      go (by-head j l h cl z) = absurd (omega arith)

  in_use_lem : (d : ℕ) → d < D → taken v.domain_pool d ≡ true → In (domains_from v) d (domain_read v d)
  unfolding domains_from
  in_use_lem d b t = table-used D v.domain_pool (domain_read v) d b t

  -- by what stands above domain m
  step : (m x : ℕ) → m < D → taken v.domain_pool m ≡ true → manager m ≡ x → ((p : ℕ) → manager m ≡ suc p → p < D → taken v.domain_pool p ≡ true → Managed (domains_from v) p) → Managed (domains_from v) m
  unfolding head_at
  step m zero b t e f = Managed.no_manager m (domain_read v m) (in_use_lem m b t) (ap linked e)
  step m (suc p) b t e f = let u = up m p b t e in Managed.by m p (domain_read v m) (in_use_lem m b t) (ap linked e) (f p e u.0 u.1)

  climb : (n l : ℕ) → climbed (manager_of v) n l ≡ 0 → (m : ℕ) → l ≡ suc m → m < D → taken v.domain_pool m ≡ true → Managed (domains_from v) m
  unfolding climbed
  climb zero l z m e b t = absurd (omega arith)
  climb (suc n) l z m e b t = step m (manager m) b t refl (λ p q. climb n (above (manager_of v) l) z p (above-is v l m e ∙ q))

  no-circle : (d : ℕ) → d < D → taken v.domain_pool d ≡ true → Managed (domains_from v) d
  no-circle d b t = step d (manager d) b t refl (λ p q. climb D (manager d) (head-climbs v s d S t (omega arith) ((rows v k pass).within d S b (omega arith))) p q)

  pub managers : (d : ℕ) (x : state.Domain) → In (state_of v).domains d x → ManagerSound (state_of v).domain_pool (state_of v).domains d x
  unfolding state_of domains_from head_at
  managers d x f =
      let u = table-in D v.domain_pool (domain_read v) d x f in
      let w : linked (manager d) ≡ x.manager = ap (λ (y : state.Domain). y.manager) u.2 in
      record {
        manager_live = λ m e. let z = up d m u.0 u.1 (link-out (manager d) m (w ∙ e)) in is_live_lem _ (domain_read v m) (table-used D v.domain_pool (domain_read v) m z.0 z.1);
        one_management = λ e y g.
            let z = table-in D v.domain_pool (domain_read v) e y g in
            subst (λ (a : state.Domain). count_if (is_management_of (handle_of (pool_from D v.domain_pool) d)) a.locals.held ≡ one_if (names x.manager e)) z.2
            (counted d u.0 u.1 e z.0 z.1 (managing d u.0 u.1) ∙ ap (λ o. one_if (names o e)) w);
        managed = no-circle d u.0 u.1;
      }
    where
      link-out : (l m : ℕ) → linked l ≡ some m → l ≡ suc m
      link-out zero m e = absurd (none-some (linked 0) m refl e)
      link-out (suc i) m e = ap suc (some_same (linked (suc i)) i m refl e)
