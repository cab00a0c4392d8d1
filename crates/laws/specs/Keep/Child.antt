-- What alias and carve share: the checks of the parent, and `add_child`: the regions are sound with the new one, and the trackers store the
-- counts without it.
use Rattle.std.specs.Prelude.{◌≡◌, T, length, set}
use Rattle.std.proofs.Math.Path.{refl, ap, subst}
use Rattle.std.proofs.Common.{sym, ◌∙◌, get_or-set_same, get_or-set_other}
use Prim.Native.Nat.{ℕ, ◌<◌}
use Rattle.std.proofs.Math.Option.{Option, none, some}
use mathlib.Core.List.{List}
use Rattle.model.specs.Lists.{is_some, at_slot, In}
use Rattle.model.specs.State.{State, Pool, Domain, Region, Kind, Access, with_regions, Handle}
use Rattle.model.specs.Tree.{insert_child}
use Rattle.model.specs.Calls.{add_child, caller_with, region_held, room_for_region}
use Rattle.model.specs.Sound.{PoolSound, slot_uses, Sound}
use Rattle.laws.specs.Accepted.{All, bind}
use Rattle.laws.specs.Caller.{caller}
use Rattle.laws.specs.Tree.Slots.{in-length, is_live_lem}
use Rattle.base.specs.Options.{none-some}
use Rattle.laws.specs.Tree.Facts.{Regions}
use Rattle.laws.specs.Tree.Change.{child_in}
use Rattle.laws.specs.Tree.Steps.{insert-regions}
use Rattle.laws.specs.Keep.Agreement.{TrackersAgreeWith, TrackersAgree}
use Rattle.laws.specs.Keep.Slots.{every-put}
use Rattle.laws.specs.Keep.Locals.{listed-live, listed-agree, insert_all, made, new-all}
use Rattle.model.specs.Outcome.{Outcome, ◌>>=◌}
use Rattle.laws.specs.Keep.Checks.{domain-live, held-own, Room, room-agree}
use Rattle.laws.specs.Keep.Whole.{After}

module _ (s : State) (agree : TrackersAgree s) (size : length s.regions ≡ s.sizes.regions) (pool : PoolSound s.sizes.regions (slot_uses s.regions) s.region_pool) (d : ℕ) (x : Domain) (at : In s.domains d x) (a : Access) where
  -- a region's owner is live
  abbrev Owned : Region → Type 0
  Owned y = T (is_some (at_slot s.domains y.owner))

  -- ---- under region h in slot p

  module _ (p : ℕ) (h : Region) (e : In s.regions p h) (k : Kind) where
    abbrev g : Region
    g = made d k a

    abbrev with : ℕ → List (Option Region)
    with i = child_in (set s.regions i (some g)) i g p h

    module _ (i : ℕ) (q : Pool) (l : i < length s.regions) (free : at_slot s.regions i ≡ none) where
      abbrev new : State
      new = with_regions q (set s.regions i (some g)) s

      parent-there : In new.regions p h
      parent-there = get_or-set_other s.regions i p (some g) none (λ m. none-some (at_slot s.regions i) h free (rw m at e)) ∙ e

      joined : (insert_child p i new).regions ≡ with i
      joined = insert-regions p i h g new parent-there (get_or-set_same s.regions i (some g) none l)

      owned : (j : ℕ) (y : Region) → In (with i) j y → Owned y
      owned = every-put Owned (set s.regions i (some g)) p (in-length new.regions p h parent-there) (every-put Owned s.regions i l agree.owners g (is_live_lem _ x at)) _ (agree.owners p h e)

      join-agree : Regions (with i) → TrackersAgreeWith s.regions (insert_child p i new)
      unfolding insert_child
      join-agree r = record {
        tracked = record { form = agree.tracked.form; counts = agree.tracked.counts; pool = agree.tracked.pool };
        regions = rw joined r;
        owners = subst (λ (rs : List (Option Region)). (j : ℕ) (y : Region) → In rs j y → Owned y) (sym joined) owned;
      }

      join-domains : (insert_child p i new).domains ≡ s.domains
      unfolding insert_child
      join-domains = refl

    -- R is what the change of the regions means
    abbrev pub Added : (List (Option Region) → Type 0) → ℕ × State → Type 0
    Added R y = TrackersAgreeWith s.regions y.1 × R y.1.regions × T (is_some (at_slot y.1.domains d))

    pub child-agree : (R : List (Option Region) → Type 0) → ((i : ℕ) → i < length s.regions → at_slot s.regions i ≡ none → Regions (with i) × R (with i)) → All (Added R) (add_child d p k a s)
    unfolding add_child
    child-agree R law = bind (new-all s size pool d k a (λ (y : ℕ × State). TrackersAgreeWith s.regions (insert_child p y.0 y.1) × R (insert_child p y.0 y.1).regions × In (insert_child p y.0 y.1).domains d x) (λ i q l free.
        let r = law i l free in
        (join-agree i q l free r.0, subst R (sym (joined i q l free)) r.1, ap (λ (ds : List (Option Domain)). at_slot ds d) (join-domains i q l free) ∙ at)))
        (λ (i, s₁) c. insert_all d (insert_child p i s₁) _ (Added R) (λ n l. (
          listed-agree (insert_child p i s₁) d x c.2 l s.regions c.0,
          c.1,
          listed-live (insert_child p i s₁) d x c.2 l d (is_live_lem _ x c.2),
        )))

-- ---- the parent

module _ (s : State) (sound : Sound s) (h : Handle) (a : Access) where
  -- the checks that alias and carve share, passed: there is room in the tables t, and region p is live and the domain's
  pub record Parent (d p : ℕ) (t : State) : Type 0 where
    pub domain : Domain
    pub here : In s.domains d domain
    pub room : Room s sound d domain here a t
    pub parent : Region
    pub at : In t.regions p parent
    pub own : parent.owner ≡ d

  pub with-parent : (bit l : ℕ) (f : ℕ → ℕ → State → Outcome (ℕ × State)) → ((d p : ℕ) (t : State) → Parent d p t → All After (f d p t)) → All After (caller_with bit s h >>= λ d. region_held s d l >>= λ p. room_for_region d a s >>= λ t. f d p t)
  with-parent bit l f k =
      bind (caller bit s h (domain-live s h)) (λ d (x, e).
      bind (held-own s sound d x e l) (λ p (g, i, own).
      bind (room-agree s sound d x e a) (λ t r.
      k d p t (record { domain = x; here = e; room = r; parent = g; at = ap (λ rs. at_slot rs p) r.regions ∙ i; own = own }))))
