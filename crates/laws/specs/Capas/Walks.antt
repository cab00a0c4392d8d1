-- A gain or a loss of a range: a tracker is written and a domain may be queued; lists, managers, regions and the generations stay.
use Rattle.std.specs.Prelude.{◌≡◌, refl, ℕ, ◌<◌, List, [], ◌∷◌, Bool, ◌||◌, T, if◌then◌else◌}
use Rattle.std.proofs.Common.{sym, ap, ◌∙◌, get_or-set_same, get_or-set_other}
use Rattle.std.proofs.Math.Path.{subst}
use Rattle.std.proofs.Math.Option.{none, some}
use Rattle.std.proofs.Math.Dec.{eqb}
use Rattle.std.proofs.Math.Decide.{ℕ_discrete}
use Rattle.base.specs.Options.{some_same}
use Rattle.model.specs.Lists.{is_some, exists, at_slot, In}
use Rattle.model.specs.Outcome.{ok}
use Rattle.model.specs.Updates.{push_permission}
use Rattle.model.specs.State.{Pool, Record, Domain, State, Access, put_domain, with_tracker, with_record_pool}
use Rattle.model.specs.Tracker.{Walk}
use Rattle.model.specs.Tree.{Range}
use Rattle.model.specs.Regions.{put_walk, activate, deactivate, send_ranges}
use Rattle.laws.specs.Accepted.{All, accepted, bind, weaken, branch}
use Rattle.laws.specs.Tracker.Marks.{gain-small, lose-small}
use Rattle.laws.specs.Tree.Slots.{in-length, is_live_lem, live-is}
use Rattle.laws.specs.Capas.Held.{Shares, Held}
use Rattle.laws.specs.Capas.Domain.{SameManagers, same-managers-then, back, put-held}
use Rattle.laws.specs.Capas.Queue.{SameBut, permission-held}
use Rattle.laws.specs.Tree.Steps.{domain-at}

-- The domains of s are those of t, with the same lists and managers.
pub record SameLists (s t : State) : Type 0 where
  pub pool : t.domain_pool ≡ s.domain_pool
  pub forth : (k : ℕ) (w : Domain) → In s.domains k w → (z : Domain) × In t.domains k z × (z.locals ≡ w.locals)
  pub back : SameManagers t.domains s.domains

pub same-lists-then : (s t u : State) → SameLists s t → SameLists t u → SameLists s u
same-lists-then s t u a b = record {
  pool = b.pool ∙ a.pool;
  forth = λ k w e. let (z, i, p) = a.forth k w e in let (y, j, q) = b.forth k z i in (y, j, q ∙ p);
  back = same-managers-then u.domains t.domains s.domains b.back a.back;
}

-- where the domains are the very same
pub same-lists-same : (s t : State) → t.domains ≡ s.domains → t.domain_pool ≡ s.domain_pool → SameLists s t
same-lists-same s t e p = record {
  pool = p;
  forth = λ k w i. (w, ap (λ ds. at_slot ds k) e ∙ i, refl);
  back = λ k w i. (w, ap (λ ds. at_slot ds k) (sym e) ∙ i, refl);
}

-- a live domain stays live
pub same-lists-live : (s t : State) → SameLists s t → (d : ℕ) → T (is_some (at_slot s.domains d)) → T (is_some (at_slot t.domains d))
same-lists-live s t a d l = let (x, e) = live-is (at_slot s.domains d) l in let (z, i, p) = a.forth d x e in is_live_lem (at_slot t.domains d) z i

-- t has the clauses with these shares, the lists and managers of s, and its regions.
pub record Walked (own man : Shares) (s t : State) : Type 0 where
  pub held : Held own man t
  pub same_lists : SameLists s t
  pub regions : t.regions ≡ s.regions
  pub region_pool : t.region_pool ≡ s.region_pool

pub walked_then : (own man : Shares) (s t u : State) → Walked own man s t → Walked own man t u → Walked own man s u
walked_then own man s t u a b = record { held = b.held; same_lists = same-lists-then s t u a.same_lists b.same_lists; regions = b.regions ∙ a.regions; region_pool = b.region_pool ∙ a.region_pool }

pub walked-self : (own man : Shares) (s : State) → Held own man s → Walked own man s s
walked-self own man s h = record { held = h; same_lists = same-lists-same s s refl refl; regions = refl; region_pool = refl }

pub queued-walked : (own man : Shares) (s t : State) → Held own man t × SameBut s t → Walked own man s t
queued-walked own man s t (h, (q, e)) = record {
  held = h;
  same_lists = same-lists-same s t (ap (λ (u : State). u.domains) e) (ap (λ (u : State). u.domain_pool) e);
  regions = ap (λ (u : State). u.regions) e;
  region_pool = ap (λ (u : State). u.region_pool) e;
}

record-pool : (own man : Shares) (p : Pool) (s : State) → Held own man s → Held own man (with_record_pool p s)
record-pool own man p s h = search

module _ (own man : Shares) (s : State) (h : Held own man s) (d : ℕ) (x : Domain) (e : In s.domains d x) (l : List Record) (p : Pool) where
  abbrev tracked : State
  tracked = with_record_pool p (put_domain d (with_tracker l x) s)

  there : In tracked.domains d (with_tracker l x)
  there = get_or-set_same s.domains d (some (with_tracker l x)) none (in-length s.domains d x e)

  tracked-walked : Walked own man s tracked
  tracked-walked = record {
    held = record-pool own man p (put_domain d (with_tracker l x) s) (put-held s d x (with_tracker l x) e refl own man own man h (h.cores_words d x e) (h.interface_words d x e) (h.lists d x e) (λ i g f. h.region_slots i g f d x e) (λ j z f. h.management_slots j z f d x e) (λ i k o. refl) (λ i k o. refl));
    same_lists = record {
      pool = refl;
      forth = λ k w f. elim (ℕ_discrete k d) [
        | yes o ↦ (with_tracker l x, rw o there, ap (λ (y : Domain). y.locals) (some_same (at_slot s.domains d) x w e (rw o at f)))
        | no o ↦ (w, get_or-set_other s.domains d k (some (with_tracker l x)) none o ∙ f, refl)
      ];
      back = back s d x (with_tracker l x) e refl;
    };
    regions = refl;
    region_pool = refl;
  }

  walk-go : (still : Bool) (m : ℕ) → m < 32 → All (Walked own man s) (if still then ok tracked else push_permission d m tracked)
  walk-go still m low = branch still (accepted tracked-walked) (weaken (permission-held own man tracked tracked-walked.held d m (with_tracker l x) there low) (λ t k. walked_then own man s tracked t tracked-walked (queued-walked own man tracked t k)))

module _ (closing : List ℕ) (own man : Shares) (s : State) (h : Held own man s) (d : ℕ) (x : Domain) (e : In s.domains d x) where
  walk-held : (w : Walk) → w.marks < 32 → All (Walked own man s) (put_walk closing d w s)
  unfolding put_walk
  walk-held w low = subst (λ (y : Domain). All (Walked own man s) (let t = with_record_pool w.pool (put_domain d (with_tracker w.records y) s) in if exists (eqb d) closing || eqb w.marks 0 then ok t else push_permission d w.marks t)) (sym (domain-at s d x e)) (walk-go own man s h d x e w.records w.pool (exists (eqb d) closing || eqb w.marks 0) w.marks low)

  pub activate-held : (a : Access) → All (Walked own man s) (activate closing d a s)
  unfolding activate
  activate-held a = bind (gain-small _ _ _ _ _) walk-held

  pub deactivate-held : (a : Access) → All (Walked own man s) (deactivate closing d a s)
  unfolding deactivate
  deactivate-held a = bind (lose-small _ _ _ _ _) walk-held

-- ---- the ranges of a send

pub ranges-held : (own man : Shares) (old new r : ℕ) (xs : List Range) (s : State) → Held own man s → T (is_some (at_slot s.domains old)) → T (is_some (at_slot s.domains new)) → All (Walked own man s) (send_ranges old new r xs s)
unfolding send_ranges
ranges-held own man old new r [] s h a b = accepted (walked-self own man s h)
ranges-held own man old new r (x ∷ xs) s h a b =
    let (y, e) = live-is (at_slot s.domains old) a in
    bind (deactivate-held [] own man s h old y e _) (λ s₁ k.
    let (z, f) = live-is (at_slot s₁.domains new) (same-lists-live s s₁ k.same_lists new b) in
    bind (activate-held [] own man s₁ k.held new z f _) (λ s₂ j.
    let w = walked_then own man s s₁ s₂ k j in
    weaken (ranges-held own man old new r xs s₂ w.held (same-lists-live s s₂ w.same_lists old a) (same-lists-live s s₂ w.same_lists new b)) (λ t n. walked_then own man s s₂ t w n)))
