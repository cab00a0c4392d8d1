-- "When a contract ends its programs are gone" (README; document 02, request 5). An accepted revoke of a Management capability closes the domain that it
-- names and every domain below it, and no other (`Ends`); one of a region takes that region back with all below it (`TakesBack`). What dies and what is left
-- is computed from the tables before the call. Proofs: `contract-ends` and `region-returns` in Theorem. Of the exported function: crate promise, Statements.
use Rattle.std.specs.Prelude.{◌≡◌, ◌⊎◌, ℕ, zero, suc, ◌+◌, ◌<◌, Bool, false, not, ◌&&◌, ◌||◌, List, [], ◌∷◌, T, eqb, get_or, set, if◌then◌else◌}
use Rattle.std.proofs.Math.Option.{Option, none, some}
use Rattle.model.specs.Lists.{one_if, exists, count_up, at_slot, In}
use Rattle.model.specs.Outcome.{ok}
use Rattle.model.specs.State.{State, Handle, Capa, no_capa, region, region_revoke, management, channel, LocalList, Record, Domain, Region, parent_of, domain_at, region_at, with_locals, with_tracker, with_children}
use Rattle.model.specs.Fields.{Field, get, passes}
use Rattle.model.specs.Pool.{handle_of, is_live, same_handle}
use Rattle.model.specs.Tracker.{no_counts}
use Rattle.model.specs.Tree.{is_root_kind}
use Rattle.model.specs.Closing.{is_to_close}
use Rattle.model.specs.Counts.{stored_counts, counts_for, region_count}
use Rattle.model.specs.Perform.{Step, Call, Value, perform}
use Rattle.model.specs.Sound.{Sound}

-- ---- what a close of domain d takes in tables s: the domains e with `is_to_close s d e` (crate model, Closing: d, and those whose managers lead to d), and
-- of the regions

-- Does this slot of a list hold a RegionRevoke of the region with that handle?
abbrev pub is_revoke_of : Handle → Option Capa → Bool
is_revoke_of h none = false
is_revoke_of h (some no_capa) = false
is_revoke_of h (some (region k)) = false
is_revoke_of h (some (region_revoke k)) = same_handle h k
is_revoke_of h (some (management k)) = false
is_revoke_of h (some (channel k)) = false

-- Does the list of a domain that is closed name region i by a RegionRevoke?
unfoldable pub is_named : State → ℕ → ℕ → Bool
is_named s d i = exists (λ e. is_to_close s d e && exists (is_revoke_of (handle_of s.region_pool i)) (domain_at s e).locals.held) (count_up 0 s.sizes.domains)

-- Is region i a closed domain's, or so named?
unfoldable pub is_taken : State → ℕ → ℕ → Bool
is_taken s d i = is_to_close s d (region_at s i).owner || is_named s d i

-- ---- what is left of the regions where some are taken: these die with all below them

module _ (s : State) (taken : ℕ → Bool) where
  -- Does region i die: is it taken, or one above it? At most n parents are followed.
  unfoldable pub dies_within : ℕ → ℕ → Bool
  dies_within zero i = taken i
  dies_within (suc n) i = taken i || elim (parent_of (region_at s i).kind) [ none ↦ false | some p ↦ dies_within n p ]

  -- The same, with a limit that is never met: no region has more above it than there are regions.
  unfoldable pub dies : ℕ → Bool
  dies i = dies_within s.sizes.regions i

  -- the table of regions without those that die; l is the table from slot i on
  unfoldable pub left_from : ℕ → List (Option Region) → List (Option Region)
  left_from i [] = []
  left_from i (x ∷ l) = (if dies i then none else x) ∷ left_from (suc i) l

  unfoldable pub regions_left : List (Option Region)
  regions_left = left_from 0 s.regions

  -- Of domain e at address a: region g in slot i counted there, and dies; it is left, and counts there only now, since the carve that covered a dies.
  abbrev pub goes : ℕ → ℕ → ℕ → Region → Bool
  goes e a i g = counts_for s.regions e a i g && dies i

  abbrev pub returns : ℕ → ℕ → ℕ → Region → Bool
  returns e a i g = not (dies i) && not (counts_for s.regions e a i g) && counts_for regions_left e a i g

-- how many regions pass a test of slot and region; l is the table from slot i on
abbrev pub count_regions : (ℕ → Region → Bool) → ℕ → List (Option Region) → ℕ
count_regions p i [] = 0
count_regions p i (none ∷ l) = count_regions p (suc i) l
count_regions p i (some g ∷ l) = one_if (p i g) + count_regions p (suc i) l

-- how many of those that go, and of those that return, count in a field
abbrev pub lost : State → (ℕ → Bool) → Field → ℕ → ℕ → ℕ
lost s taken f e a = count_regions (λ i g. goes s taken e a i g && passes f g.rights) 0 s.regions

abbrev pub returned : State → (ℕ → Bool) → Field → ℕ → ℕ → ℕ
returned s taken f e a = count_regions (λ i g. returns s taken e a i g && passes f g.rights) 0 s.regions

-- Tables s became t; the regions that are taken died with all below them, and no other did.
pub record RegionsAfter (s : State) (taken : ℕ → Bool) (t : State) : Type 0 where
  -- who dies leaves its slot, and the slot's generation has risen, so that its handles are dead
  pub dead : (i : ℕ) (g : Region) → In s.regions i g → T (dies s taken i) → (at_slot t.regions i ≡ none) × (get_or s.region_pool.gens i 0 < get_or t.region_pool.gens i 0)
  -- every other region is there by the same handle, as it was but for its list of children; a free slot stays free
  pub lives : (i : ℕ) (g : Region) → In s.regions i g → T (not (dies s taken i)) →
      (cs : List ℕ) × In t.regions i (with_children cs g) × (handle_of t.region_pool i ≡ handle_of s.region_pool i)
  pub unused : (i : ℕ) → at_slot s.regions i ≡ none → at_slot t.regions i ≡ none
  -- At every address, of every domain, the reach and each right's count: before, the number of its regions that cover the address and are not carved there
  -- (and have the right); after, the same of the regions that are left; and what changed. So parents have their ranges back: a region that is left counts
  -- again wherever the carve that covered the address died
  pub before : (f : Field) (e a : ℕ) → get f (stored_counts s e a) ≡ region_count f s.regions e a
  pub after : (f : Field) (e a : ℕ) → get f (stored_counts t e a) ≡ region_count f (regions_left s taken) e a
  pub changed : (f : Field) (e a : ℕ) → get f (stored_counts t e a) + lost s taken f e a ≡ get f (stored_counts s e a) + returned s taken f e a

-- ---- what is left of the domains where some are closed

-- The list of domain e after domain c revoked its slot l: that slot of c's own holds None.
abbrev pub list_left : ℕ → ℕ → ℕ → LocalList → LocalList
list_left c l e x = if eqb e c then record { held = set x.held l (some no_capa); free = x.free } else x

-- Tables s became t; the domains that `closes` tells were closed, and no other was; domain c emptied its slot l.
pub record DomainsAfter (s : State) (closes : ℕ → Bool) (c l : ℕ) (t : State) : Type 0 where
  -- who is closed has left its slot, and the slot's generation has risen, so that its handles are dead for good
  pub closed : (e : ℕ) (x : Domain) → In s.domains e x → T (closes e) → (at_slot t.domains e ≡ none) × (get_or s.domain_pool.gens e 0 < get_or t.domain_pool.gens e 0)
  -- no live region is its own, and its tracker is empty: nothing is stored for it, at any address
  pub ownerless : (i : ℕ) (g : Region) → In t.regions i g → T (not (closes g.owner))
  pub nothing : (e a : ℕ) → T (closes e) → stored_counts t e a ≡ no_counts
  -- every other domain is there by the same handle, with its manager, core map and interface, and its list but for the caller's slot; only its tracker may
  -- be another. The caller is one of them. A free slot stays free
  pub stays : (e : ℕ) (x : Domain) → In s.domains e x → T (not (closes e)) →
      (q : List Record) × In t.domains e (with_tracker q (with_locals (list_left c l e x.locals) x)) × (handle_of t.domain_pool e ≡ handle_of s.domain_pool e)
  pub caller : T (not (closes c))
  pub vacant : (e : ℕ) → at_slot s.domains e ≡ none → at_slot t.domains e ≡ none

-- ---- the statements

-- Domain h revoked its local slot l, which held the Management of domain k. The tables were s and are t.
pub record Ends (s : State) (h : Handle) (l : ℕ) (k : Handle) (t : State) : Type 0 where
  pub sound : Sound t
  -- it was asked before: caller and domain are live, no domain that is closed holds a root (22), none has a core map (23)
  pub caller_live : T (is_live s.domain_pool s.domains h)
  pub live : T (is_live s.domain_pool s.domains k)
  pub rootless : (i : ℕ) (g : Region) → In s.regions i g → T (is_to_close s k.slot g.owner) → T (not (is_root_kind g.kind))
  pub stopped : (e : ℕ) (x : Domain) → In s.domains e x → T (is_to_close s k.slot e) → x.cores ≡ 0
  -- "closes it and every domain below it, and no other. Afterwards no live region is a closed domain's"
  pub domains : DomainsAfter s (is_to_close s k.slot) h.slot l t
  -- "a region died exactly if it, or one above it, was owned by a closed domain or named by a RegionRevoke of one"
  pub regions : RegionsAfter s (is_taken s k.slot) t

-- Of sound tables s in which slot l of domain h holds the Management of domain k: a revoke of it that is accepted, and leaves t.
abbrev pub ContractEnds : Type 0
ContractEnds = (s : State) (h : Handle) (l : ℕ) (k : Handle) (v : Value) (t : State) →
    Sound s → In (domain_at s h.slot).locals.held l (management k) →
    perform s (Call.Do (Step.Revoke h l)) ≡ ok (v, t) →
    Ends s h l k t

-- The same where the slot held the Region capability, or a RegionRevoke, of the live region k (⊎ is "or"): no domain is closed, and the region dies with
-- all below it.
pub record TakesBack (s : State) (h : Handle) (l : ℕ) (k : Handle) (t : State) : Type 0 where
  pub sound : Sound t
  -- it was asked before: the caller is live, and the region is no root (9)
  pub caller_live : T (is_live s.domain_pool s.domains h)
  pub no_root : T (not (is_root_kind (region_at s k.slot).kind))
  pub domains : DomainsAfter s (λ e. false) h.slot l t
  pub regions : RegionsAfter s (λ i. eqb i k.slot) t

abbrev pub RegionReturns : Type 0
RegionReturns = (s : State) (h : Handle) (l : ℕ) (k : Handle) (v : Value) (t : State) →
    Sound s → T (is_live s.region_pool s.regions k) →
    In (domain_at s h.slot).locals.held l (region k) ⊎ In (domain_at s h.slot).locals.held l (region_revoke k) →
    perform s (Call.Do (Step.Revoke h l)) ≡ ok (v, t) →
    TakesBack s h l k t
