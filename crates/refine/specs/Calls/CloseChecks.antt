-- What is asked before a close, on the tables of a state: the links to managers lead as the managers do, and the rows of free slots are all zero, so that
-- none of them is a root or has a core map (22, 23).
use Rattle.std.specs.Prelude.{◌≡◌, Bool, false, ◌&&◌, ◌||◌, List, [], ◌∷◌, length}
use Rattle.std.proofs.Math.Path.{refl, ap}
use Rattle.std.proofs.Common.{sym, ◌∙◌, ne_eqb}
use Prim.Native.Nat.{ℕ, zero, suc, ◌+◌, ◌-◌, ◌<◌}
use Rattle.std.proofs.Math.Bool.{not}
use Rattle.std.proofs.Math.Option.{Option, none, some}
use native.Mathlib.Omega.{arith}
use Rattle.std.proofs.Math.Dec.{eqb}
use Rattle.std.proofs.Math.ListN.{get_or-eq_default}
use Rattle.base.specs.Cases.{lt, ge, cmp, pick}
use Rattle.model.specs.Lists.{exists, count_up, at_slot}
use Rattle.model.specs.State as state
use Rattle.model.specs.State.{State, Domain, domain_at}
use Rattle.model.specs.Layout.{link}
use Rattle.model.specs.Closing.{closes_with, is_to_close, root_to_close, closes_root, closes_running}
use Rattle.laws.specs.Keep.Base.{Base}
use Rattle.tables.specs.declared.DomainHead.{DomainHead}
use Rattle.tables.specs.declared.RegionCapa.{RegionCapa}
use Rattle.tables.specs.Links.{slot_to}
use Rattle.tables.specs.Tables as rows
use Rattle.tables.specs.Tables.{no_head, no_domain, no_region, head_at, region_at}
use Rattle.closing_checks.specs.Closes.{closes_from, closes_with_b, some_from, root_to_close_b, closes_root_b, running_to_close_b, closes_running_b}
use Rattle.decoded.specs.Rows.{map-up-length, get_or-up}
use Rattle.decoded.specs.Slots.Domains.{head_read}
use Rattle.decoded.specs.Tables.{domain_for, region_for, domains_for, regions_for, tables_of}
use Rattle.refine.specs.Calls.SharedSteps.{root-word}

-- ---- one after another

some_same : (p q : ℕ → Bool) (i k : ℕ) → ((j : ℕ) → j < i + k → p j ≡ q j) → some_from p i k ≡ some_from q i k
unfolding some_from
some_same p q i zero h = refl
some_same p q i (suc k) h =
    let a = h i (omega arith) in
    let b = some_same p q (suc i) k (λ j m. h j (omega arith)) in
    λ t. a t || b t

some-later : (p : ℕ → Bool) (i k : ℕ) → some_from p (suc i) k ≡ some_from (λ j. p (suc j)) i k
unfolding some_from
some-later p i zero = refl
some-later p i (suc k) = ap (λ (b : Bool). p (suc i) || b) (some-later p (suc i) k)

-- every slot of a table
some-slots : {A : Type 0} (p : Option A → Bool) (l : List (Option A)) → some_from (λ j. p (at_slot l j)) 0 (length l) ≡ exists p l
unfolding some_from
some-slots p [] = refl
some-slots p (x ∷ l) = ap (λ (b : Bool). p x || b) (some-later (λ j. p (at_slot (x ∷ l) j)) 0 (length l) ∙ some-slots p l)

-- every number
some_up : (p : ℕ → Bool) (i k : ℕ) → some_from p i k ≡ exists p (count_up i k)
unfolding some_from
some_up p i zero = refl
some_up p i (suc k) = ap (λ (b : Bool). p i || b) (some_up p (suc i) k)

-- ---- the rows of a state

module _ (s : State) (base : Base s) where
  head-free : (e : ℕ) → at_slot s.domains e ≡ none → head_at (tables_of s) e ≡ no_head
  unfolding head_at tables_of domains_for
  head-free e o =
      let n = s.sizes.domains in
      let f : ℕ → rows.Domain = λ j. domain_for s.sizes.slots (at_slot s.domains j) in
      elim (cmp e n) [
        | lt h ↦ ap (λ (y : rows.Domain). y.head) (get_or-up f n e no_domain h ∙ ap (domain_for s.sizes.slots) o)
        | ge h ↦ ap (λ (y : rows.Domain). y.head) (get_or-eq_default (domains_for n s.sizes.slots s.domains) no_domain {n = e} (omega (arith, map-up-length f n)))
      ]

  -- the manager's link, and the core map
  cores-read : (e : ℕ) → (head_at (tables_of s) e).cores ≡ (domain_at s e).cores
  cores-read e = go (at_slot s.domains e) refl
    where
      go : (o : Option Domain) → at_slot s.domains e ≡ o → (head_at (tables_of s) e).cores ≡ (domain_at s e).cores
      go none m = ap (λ (y : DomainHead). y.cores) (head-free e m) ∙ rw m
      go (some x) m = ap (λ (y : DomainHead). y.cores) (head_read s base.domains.size e x m) ∙ rw m

  module _ (d : ℕ) where
    -- the manager that a link names
    closes-link : (n : ℕ) → ((e : ℕ) → closes_from (tables_of s) d n e ≡ closes_with s.domains n d e) → (m : Option ℕ) (l : ℕ) → l ≡ link m
        → pick (eqb l 0) false (closes_from (tables_of s) d n (slot_to l)) ≡ elim m [ none ↦ false | some m ↦ closes_with s.domains n d m ]
    closes-link n up none l q = rw q
    closes-link n up (some m) l q = rw (q, ne_eqb (suc m) 0 (λ z. omega arith)) (ap (closes_from (tables_of s) d n) (omega arith) ∙ up m)

    closes-slot : (n : ℕ) → ((e : ℕ) → closes_from (tables_of s) d n e ≡ closes_with s.domains n d e) → (e : ℕ) (o : Option Domain) → at_slot s.domains e ≡ o
        → pick (eqb (head_at (tables_of s) e).manager 0) false (closes_from (tables_of s) d n (slot_to (head_at (tables_of s) e).manager))
        ≡ elim o [ none ↦ false | some x ↦ elim x.manager [ none ↦ false | some m ↦ closes_with s.domains n d m ] ]
    closes-slot n up e none m = closes-link n up none (head_at (tables_of s) e).manager (ap (λ (y : DomainHead). y.manager) (head-free e m))
    closes-slot n up e (some x) m = closes-link n up x.manager (head_at (tables_of s) e).manager (ap (λ (y : DomainHead). y.manager) (head_read s base.domains.size e x m))

    closes-from : (n e : ℕ) → closes_from (tables_of s) d n e ≡ closes_with s.domains n d e
    unfolding closes_from
    closes-from zero e = refl
    closes-from (suc n) e = ap (λ (b : Bool). eqb e d || b) (closes-slot n (λ m. closes-from n m) e (at_slot s.domains e) refl)

    pub closes-with-is : (e : ℕ) → closes_with_b (tables_of s) d e ≡ is_to_close s d e
    unfolding closes_with_b tables_of
    closes-with-is e = closes-from s.sizes.domains e

    -- ---- 22

    root-row : (i : ℕ) (o : Option state.Region) → region_at (tables_of s) i ≡ region_for s.regions i o → root_to_close_b (tables_of s) d i ≡ root_to_close s d o
    unfolding root_to_close_b
    root-row i none q = ap (λ (g : RegionCapa). eqb g.kind 1 && closes_with_b (tables_of s) d (slot_to g.owner)) q
    root-row i (some g) q =
        let o : suc g.owner - 1 ≡ g.owner = omega arith in
        let a = root-word g.kind in
        let b = ap (closes_with_b (tables_of s) d) o ∙ closes-with-is g.owner in
        ap (λ (y : RegionCapa). eqb y.kind 1 && closes_with_b (tables_of s) d (slot_to y.owner)) q ∙ (λ t. a t && b t)

    row_read : (i : ℕ) → i < s.sizes.regions → region_at (tables_of s) i ≡ region_for s.regions i (at_slot s.regions i)
    unfolding region_at tables_of regions_for
    row_read i h = get_or-up (λ j. region_for s.regions j (at_slot s.regions j)) s.sizes.regions i no_region h

    pub closes-root-is : closes_root_b (tables_of s) d ≡ closes_root s d
    unfolding closes_root_b closes_root tables_of
    closes-root-is =
        some_same (root_to_close_b (tables_of s) d) (λ j. root_to_close s d (at_slot s.regions j)) 0 s.sizes.regions (λ j h. root-row j (at_slot s.regions j) (row_read j (omega arith)))
        ∙ ap (some_from (λ j. root_to_close s d (at_slot s.regions j)) 0) (sym base.regions.size)
        ∙ some-slots (root_to_close s d) s.regions

    -- ---- 23

    running-row : (e : ℕ) → running_to_close_b (tables_of s) d e ≡ (not (eqb (domain_at s e).cores 0) && is_to_close s d e)
    unfolding running_to_close_b
    running-row e =
        let a = ap (λ (c : ℕ). not (eqb c 0)) (cores-read e) in
        let b = closes-with-is e in
        λ t. a t && b t

    pub closes-running-is : closes_running_b (tables_of s) d ≡ closes_running s d
    unfolding closes_running_b closes_running tables_of
    closes-running-is =
        some_same (running_to_close_b (tables_of s) d) (λ e. not (eqb (domain_at s e).cores 0) && is_to_close s d e) 0 s.sizes.domains (λ e h. running-row e)
        ∙ some_up (λ e. not (eqb (domain_at s e).cores 0) && is_to_close s d e) 0 s.sizes.domains
