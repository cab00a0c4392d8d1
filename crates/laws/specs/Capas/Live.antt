-- Handles. Invariant: a stored handle is live or older than its slot's generation. So none names the next life of a free slot,
-- and it stays so while generations rise and what is live stays live or becomes older.
use Rattle.std.specs.Prelude.{◌≡◌, refl, ℕ, ◌≤◌, ◌<◌, Bool, true, false, ◌||◌, List, [], ◌∷◌, T, eqb, get_or}
use Rattle.std.proofs.Common.{sym, ap, subst, arith, le_refl, eqb→eq, ltb→lt, lt→ltb, T_not, le-ltb, eq-eqb}
use Rattle.std.proofs.Math.Option.{Option, none, some}
use Rattle.std.proofs.Math.Dec.{eqb_refl, not_T}
use Rattle.std.specs.Float.Ieee.Fits.{and_l, and_r, and_i}
use Rattle.base.specs.Cases.{holds, fails, test}
use Rattle.base.specs.Tests.{is_false, true-is, false-is}
use Rattle.model.specs.Lists.{one_if, is_some, Each, at_slot, In}
use Rattle.model.specs.State.{State, Handle, Pool, Capa, no_capa, region, region_revoke, management, channel, Domain, Region, LocalList, Update, permission, cleanup, Queue}
use Rattle.model.specs.Pool.{handle_of, is_live, same_handle}
use Rattle.model.specs.Locals.{is_invalid}
use Rattle.model.specs.Sound.{LiveOrOlder, HandleFit, RevokeFit, ListSound, QueuedFit, QueueSound, is_region_of, is_management_of}
use Rattle.laws.specs.Lists.{each_weaken}

-- ---- one handle

pub handle-same : (h k : Handle) → T (same_handle h k) → h ≡ k
handle-same h k t =
    let a = eqb→eq h.slot k.slot (search and_l) in
    let b = eqb→eq h.generation k.generation (search and_r) in
    λ i. record { slot = a i; generation = b i }

-- two handles that a property tells apart
pub handle-differs : (P : Handle → Type 0) (h k : Handle) → P h → (P k → ⊥) → same_handle h k ≡ false
handle-differs P h k u v = is_false (not_T (same_handle h k) (λ t. v (subst P (handle-same h k t) u)))

-- two slots have the same handle where they are the same slot
pub handle-one : (p : Pool) (j i : ℕ) → one_if (same_handle (handle_of p j) (handle_of p i)) ≡ one_if (eqb j i)
handle-one p j i = elim (test (eqb j i)) [
  | holds t ↦ let o = eqb→eq j i (true-is t) in rw (t, eq-eqb (get_or p.gens j 0) (get_or p.gens i 0) (ap (λ k. get_or p.gens k 0) o))
  | fails t ↦ rw t
]

-- the handle of a slot in use is live
pub handle-live : {A : Type 0} (p : Pool) (l : List (Option A)) (i : ℕ) (x : A) → In l i x → T (is_live p l (handle_of p i))
handle-live p l i x e = rw e (eqb_refl (get_or p.gens i 0))

-- a live handle is its slot's
pub live-handle : {A : Type 0} (p : Pool) (l : List (Option A)) (h : Handle) → T (is_live p l h) → handle_of p h.slot ≡ h
live-handle p l h t = let e = eqb→eq (get_or p.gens h.slot 0) h.generation (search and_r) in λ i. record { slot = h.slot; generation = e i }

older-split : (a b : Bool) → T (a || b) → (a ≡ false → T b)
older-split true b t e = absurd (false-is {b = true} e tt)
older-split false b t e = t

older-or : (a b : Bool) → (a ≡ false → T b) → T (a || b)
older-or true b h = tt
older-or false b h = h refl

pub live-fits : {A : Type 0} (p : Pool) (l : List (Option A)) (h : Handle) → T (is_live p l h) → LiveOrOlder p l h
live-fits p l h t = older-or (is_live p l h) _ (λ e. absurd (false-is e t))

pub older-fits : {A : Type 0} (p : Pool) (l : List (Option A)) (h : Handle) → h.generation < get_or p.gens h.slot 0 → LiveOrOlder p l h
older-fits p l h t = older-or (is_live p l h) _ (λ e. lt→ltb h.generation (get_or p.gens h.slot 0) t)

-- no stored handle is that of a free slot
pub no-handle : {A : Type 0} (p : Pool) (l : List (Option A)) (i : ℕ) → at_slot l i ≡ none → LiveOrOlder p l (handle_of p i) → ⊥
no-handle p l i e t = rw (e, le-ltb (get_or p.gens i 0) (get_or p.gens i 0) (le_refl _)) at t

pub fits-onward : {A : Type 0} (p q : Pool) (l m : List (Option A)) → ((h : Handle) → T (is_live p l h) → LiveOrOlder q m h) → ((i : ℕ) → get_or p.gens i 0 ≤ get_or q.gens i 0) → (h : Handle) → LiveOrOlder p l h → LiveOrOlder q m h
fits-onward p q l m live rise h t = elim (test (is_live p l h)) [
  | holds u ↦ live h (true-is u)
  | fails u ↦ older-fits q m h (let o = ltb→lt h.generation (get_or p.gens h.slot 0) (older-split (is_live p l h) _ t u) in omega (arith, rise h.slot))
]

-- a handle stays live where its slot stays in use
pub live-onward : {A : Type 0} (p : Pool) (l m : List (Option A)) → ((k : ℕ) → T (is_some (at_slot l k)) → T (is_some (at_slot m k))) → (h : Handle) → T (is_live p l h) → T (is_live p m h)
live-onward p l m f h t =
    let a : T (is_some (at_slot l h.slot)) = search and_l in
    let b : T (eqb (get_or p.gens h.slot 0) h.generation) = search and_r in
    and_i (is_some (at_slot m h.slot)) (eqb (get_or p.gens h.slot 0) h.generation) (f h.slot a) b

-- ---- tests on what slots hold

-- the test of a region's capability passes for that alone, and so does the test of a domain's
region-alone : (h : Handle) (x : Option Capa) → T (is_region_of h x) → x ≡ some (region h)
region-alone h none t = absurd t
region-alone h (some no_capa) t = absurd t
region-alone h (some (region k)) t = ap (λ m. some (region m)) (sym (handle-same h k t))
region-alone h (some (region_revoke k)) t = absurd t
region-alone h (some (management k)) t = absurd t
region-alone h (some (channel k)) t = absurd t

management-alone : (h : Handle) (x : Option Capa) → T (is_management_of h x) → x ≡ some (management h)
management-alone h none t = absurd t
management-alone h (some no_capa) t = absurd t
management-alone h (some (region k)) t = absurd t
management-alone h (some (region_revoke k)) t = absurd t
management-alone h (some (management k)) t = ap (λ m. some (management m)) (sym (handle-same h k t))
management-alone h (some (channel k)) t = absurd t

-- what has a property that the capability itself has not fails the test
pub not-region : (P : Option Capa → Type 0) (h : Handle) → (P (some (region h)) → ⊥) → (x : Option Capa) → P x → is_region_of h x ≡ false
not-region P h n x u = is_false (not_T (is_region_of h x) (λ t. n (subst P (region-alone h x t) u)))

pub not-management : (P : Option Capa → Type 0) (h : Handle) → (P (some (management h)) → ⊥) → (x : Option Capa) → P x → is_management_of h x ≡ false
not-management P h n x u = is_false (not_T (is_management_of h x) (λ t. n (subst P (management-alone h x t) u)))

-- what a sweep frees: no capability of a live region, nor of a live domain
abbrev Invalid : State → Option Capa → Type 0
Invalid s none = Unit {0}
Invalid s (some c) = T (is_invalid s c)

pub no-region : (s : State) (h : Handle) → T (is_live s.region_pool s.regions h) → (c : Capa) → T (is_invalid s c) → is_region_of h (some c) ≡ false
no-region s h t c u = not-region (Invalid s) h (λ v. T_not (is_live s.region_pool s.regions h) v t) (some c) u

pub no-management : (s : State) (h : Handle) → T (is_live s.domain_pool s.domains h) → (c : Capa) → T (is_invalid s c) → is_management_of h (some c) ≡ false
no-management s h t c u = not-management (Invalid s) h (λ v. T_not (is_live s.domain_pool s.domains h) v t) (some c) u

-- ---- a list, and the queue, over other tables

-- a RegionRevoke of this handle may stand
abbrev pub MayRevoke : Pool → List (Option Region) → Handle → Type 0
MayRevoke rp rs h = RevokeFit rp rs (some (region_revoke h))

module _ (rp rp' : Pool) (rs rs' : List (Option Region)) (dp dp' : Pool) (ds ds' : List (Option Domain))
    (regions : (h : Handle) → LiveOrOlder rp rs h → LiveOrOlder rp' rs' h)
    (revokes : (h : Handle) → LiveOrOlder rp rs h → MayRevoke rp rs h → MayRevoke rp' rs' h)
    (domains : (h : Handle) → LiveOrOlder dp ds h → LiveOrOlder dp' ds' h) where
  pub handle-onward : (x : Option Capa) → HandleFit rp rs dp ds x → HandleFit rp' rs' dp' ds' x
  handle-onward none t = tt
  handle-onward (some no_capa) t = tt
  handle-onward (some (region h)) t = regions h t
  handle-onward (some (region_revoke h)) t = regions h t
  handle-onward (some (management h)) t = domains h t
  handle-onward (some (channel h)) t = domains h t

  revoke-onward : (x : Option Capa) → HandleFit rp rs dp ds x → RevokeFit rp rs x → RevokeFit rp' rs' x
  revoke-onward none t u = tt
  revoke-onward (some no_capa) t u = tt
  revoke-onward (some (region h)) t u = tt
  revoke-onward (some (region_revoke h)) t u = revokes h t u
  revoke-onward (some (management h)) t u = tt
  revoke-onward (some (channel h)) t u = tt

  revokes-onward : (l : List (Option Capa)) → Each (HandleFit rp rs dp ds) l → Each (RevokeFit rp rs) l → Each (RevokeFit rp' rs') l
  revokes-onward [] t u = tt
  revokes-onward (x ∷ l) t u = (revoke-onward x t.0 u.0, revokes-onward l t.1 u.1)

  pub list-onward : (n : ℕ) (l : LocalList) → ListSound n rp rs dp ds l → ListSound n rp' rs' dp' ds' l
  list-onward n l h = record {
    held_length = h.held_length;
    once = h.once;
    revokes_fit = revokes-onward l.held h.handles_fit h.revokes_fit;
    handles_fit = each_weaken (HandleFit rp rs dp ds) (HandleFit rp' rs' dp' ds') l.held handle-onward h.handles_fit;
  }

queued-onward : (p q : Pool) (l m : List (Option Domain)) → ((h : Handle) → LiveOrOlder p l h → LiveOrOlder q m h) → (u : Update) → QueuedFit p l u → QueuedFit q m u
queued-onward p q l m live (permission h c n) t = live h t
queued-onward p q l m live (cleanup a b) t = tt

pub queue-onward : (n : ℕ) (p q : Pool) (l m : List (Option Domain)) → ((h : Handle) → LiveOrOlder p l h → LiveOrOlder q m h) → (r : Queue) → QueueSound n p l r → QueueSound n q m r
queue-onward n p q l m live r h = record { read_place = h.read_place; fits = h.fits; handles_fit = each_weaken (QueuedFit p l) (QueuedFit q m) r.items (queued-onward p q l m live) h.handles_fit; singly = h.singly; queued_words = h.queued_words }
