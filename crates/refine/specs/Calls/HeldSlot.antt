-- What send and revoke share: the capability in a slot is looked at, and its region. A region that is sent moves, and its slot leaves the list. In between
-- the lists are as they were: what the steps on regions leave differs from what they found in regions, trackers and queue.
use Rattle.std.specs.Prelude.{◌≡◌, ℕ, eqb}
use Rattle.std.proofs.Common.{sym, ap, ◌∙◌}
use Rattle.model.specs.Lists.{at_slot, In}
use Rattle.model.specs.Outcome.{Outcome, ok, ◌>>=◌}
use Rattle.refusals.specs.Refusals.{no_slot}
use Rattle.model.specs.State as state
use Rattle.model.specs.State.{State, Domain, Capa, domain_at}
use Rattle.model.specs.Locals as locals
use Rattle.model.specs.Locals.{insert_capa, remove_capa}
use Rattle.model.specs.Calls as model
use Rattle.model.specs.Sound.{Sound}
use Rattle.laws.specs.Accepted.{All, accepted, bind}
use Rattle.laws.specs.Tree.Slots.{live-is, is_live_lem}
use Rattle.laws.specs.Tree.Steps.{domain-at}
use Rattle.laws.specs.Capas.Checks.{capa-at}
use Rattle.base.specs.Cases.{pick}
use Rattle.laws.specs.Keep.SameDomains.{SameDomains, same-domains-in, same-domains-live}
use Rattle.laws.specs.Keep.Agreement.{sound-agree}
use Rattle.laws.specs.Keep.Base.{Base, sound-base}
use Rattle.laws.specs.Keep.BaseSteps.{Live}
use Rattle.laws.specs.Keep.Whole.{Whole, live-slot, remove-whole}
use Rattle.laws.specs.Keep.Checks.{region-live}
use Rattle.tables.specs.declared.Handle.{Handle}
use Rattle.tables.specs.declared.Slot.{Slot}
use Rattle.tables.specs.Tables.{Tables}
use Rattle.answers.specs.Answers.{Effect, refused, and_then}
use Rattle.slots.specs.Capas.{capa_at, without_capa}
use Rattle.domain.specs.Activate.{insert}
use Rattle.checks.specs.Checks.{live_region}
use Rattle.decoded.specs.Tables.{handle_for, capa_slot, tables_of}
use Rattle.refine.specs.Agrees.{Agrees, agrees-call, agrees-step, ok-then, bind_assoc, bind-same}
use Rattle.refine.specs.Calls.Sequence.{agrees_on}
use Rattle.refine.specs.Slots.ListSteps.{capa-read, remove-is}
use Rattle.refine.specs.Calls.Activate.{plain}
use Rattle.refine.specs.Calls.Checks.{Lists, live-region-refines, capa-refines}
use Rattle.refine.specs.Calls.KeptLists.{same-domains-lists, remove-lists}
use Rattle.refine.specs.Calls.SharedSteps.{insert-here}

-- ---- two calls, and a third from both of their answers

abbrev pub paired : {A B : Type 0} → Outcome A → (A → Outcome B) → Outcome (A × B)
paired m f = m >>= λ a. f a >>= λ b. ok (a, b)

pub pair_then : {A B C : Type 0} (m : Outcome A) (f : A → Outcome B) (k : A → B → Outcome C) → (m >>= λ a. f a >>= λ b. k a b) ≡ (paired m f >>= λ y. k y.0 y.1)
pair_then m f k = sym (bind_assoc m _ _ ∙ bind-same m _ _ (λ a. bind_assoc (f a) _ _ ∙ bind-same (f a) _ _ (λ b. ok-then _ _)))

pub sound-whole : (s : State) → Sound s → Whole s
sound-whole s sound = (sound-agree s sound, sound-base s sound)

-- ---- the region, and the capability in slot l

module _ (s : State) (whole : Whole s) where
  -- 6, and what follows for the live region i
  pub from-region : (h : state.Handle) (f : ℕ → Tables → Effect) (k : ℕ → Outcome State) → ((i : ℕ) (g : state.Region) → In s.regions i g → Agrees (f i (tables_of s)) (plain (k i)))
      → Agrees (and_then (live_region (handle_for h) (tables_of s)) f) (plain (model.live_region s h >>= k))
  from-region h f k j =
      agrees-call _ _ _ (bind_assoc (model.live_region s h) k _)
      (agrees_on (live_region (handle_for h) (tables_of s)) f (model.live_region s h) (λ i. (i, s)) _ (live-region-refines s whole.1 (handle_for h)) (region-live s h)
      (λ i (n, t). let (g, e) = live-slot s h t in j i g (ap (at_slot s.regions) n ∙ e)))

  module _ (lists : Lists s) (d : ℕ) (live : Live s d) (l : ℕ) (m : Capa → Outcome State) where
    -- with the capability, for what follows
    abbrev pub both_of : Outcome (Capa × State)
    both_of = paired (locals.capa_at s d l) m

    pub looked : (f : Slot → Effect) → ((c : Capa) → Agrees (f (capa_slot c)) (plain (m c)))
        → Agrees (pick (eqb (capa_at (tables_of s) d l).kind 1) (refused no_slot (tables_of s)) (f (capa_at (tables_of s) d l))) (both_of >>= λ y. ok (0, y.1))
    looked f h =
        let (x, e) = live-is (at_slot s.domains d) live in
        agrees-call _ _ _ (bind_assoc (locals.capa_at s d l) _ _)
        (capa-refines s whole.1 d x e lists l f _ (λ c i. agrees-call _ _ (plain (m c)) (bind_assoc (m c) _ _ ∙ bind-same (m c) _ _ (λ t. ok-then _ _)) (h c)))

    pub kept : ((c : Capa) → All (λ t. Whole t × SameDomains s t) (m c)) → All (λ (y : Capa × State). In (domain_at s d).locals.held l y.0 × Whole y.1 × SameDomains s y.1) both_of
    kept h = bind (capa-at s d l) (λ c i. bind (h c) (λ t (w, a). accepted (i, w, a)))

-- ---- the slot, once the region has moved

module _ (s t : State) (base : Base s) (lists : Lists s) (whole : Whole t) (aside : SameDomains s t) (d : ℕ) (ld : Live s d) (l : ℕ) (c : Capa) (slot : In (domain_at s d).locals.held l c) where
  before : (x : Domain) × In s.domains d x × In x.locals.held l c
  before = let (x, e) = live-is (at_slot s.domains d) ld in (x, e, ap (λ (y : Domain). at_slot y.locals.held l) (sym (domain-at s d x e)) ∙ slot)

  after : (y : Domain) × In t.domains d y × In y.locals.held l c
  after = let (x, e, i) = before in let (y, f, m) = same-domains-in aside d x e in (y, f, ap (λ (z : Domain). at_slot z.locals.held l) m ∙ i)

  lists-after : Lists t
  lists-after = same-domains-lists s t aside lists

  slot_read : capa_at (tables_of s) d l ≡ capa_slot c
  slot_read = let (x, e, i) = before in capa-read s base.domains.size d x e l c (lists d x e).held_length i

  removed : without_capa (tables_of t) d l ≡ tables_of (remove_capa d l t)
  removed = let (y, f, i) = after in remove-is t whole.1.domains.size d y f (lists-after d y f) l c i

  pub moved : (to : ℕ) → Live s to → Agrees (insert to (capa_at (tables_of s) d l) (without_capa (tables_of t) d l)) (insert_capa to c (remove_capa d l t))
  moved to lt =
      let (y, f, i) = after in
      let (w, on) = remove-whole t whole d l (is_live_lem _ y f) in
      agrees-step _ _ (insert_capa to c (remove_capa d l t)) (ap (insert to (capa_at (tables_of s) d l)) removed)
      (insert-here (remove_capa d l t) to (w.1, remove-lists t lists-after d y f l c i, on to (same-domains-live aside to lt)) c _ slot_read)
