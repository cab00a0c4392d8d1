-- What sound tables store at an address, by what the regions say: the reach of all domains together is the number of live roots and aliases
-- that cover it, and a count above 0 comes from a live root that covers it and has the right.
use Rattle.std.specs.Prelude.{◌≡◌, refl, ℕ, ◌+◌, ◌<◌, T}
use Rattle.std.proofs.Common.{sym, ◌∙◌, arith}
use Rattle.std.proofs.Math.Option.{Option, none, some, get_or}
use Rattle.base.specs.Cases.{lt, ge, cmp}
use Rattle.model.specs.Lists.{is_some, count_if, at_slot, In}
use Rattle.model.specs.State.{State, Domain, Region, none_domain}
use Rattle.model.specs.Fields.{Field, get}
use Rattle.model.specs.Tree.{is_root_kind}
use Rattle.model.specs.Counts.{counts_at, stored_counts, region_count}
use Rattle.model.specs.Sound.{Sound}
use Rattle.laws.specs.Fields.{get_none}
use Rattle.laws.specs.CountsLaw.{counts-law}
use Rattle.laws.specs.Tree.Sum.{sum, sum_same}
use Rattle.laws.specs.Tree.Slots.{live-is, in-length}
use Rattle.laws.specs.Tree.Total.{covers_as, is_alias, reach-total}
use Rattle.laws.specs.Tree.FromRoot.{RootAt, counting, count-root}

module _ (s : State) (h : Sound s) (a : ℕ) where
  -- a live region's owner is live
  owner-live : (i : ℕ) (g : Region) → In s.regions i g → T (is_some (at_slot s.domains g.owner))
  owner-live i g e = (h.outside.owners i g e).owner_live

  -- nothing counts for a dead domain
  nothing-dead : (f : Field) (d : ℕ) → at_slot s.domains d ≡ none → region_count f s.regions d a ≡ 0
  nothing-dead f d e = elim (cmp 0 (region_count f s.regions d a)) [
    | lt u ↦ let (k, c) = counting s.regions h.outside.regions a f d u in absurd (rw (c.owner, e) at (owner-live k c.region c.is))
    | ge u ↦ omega arith
  ]

  -- the stored counts are the regions'
  stored-go : (f : Field) (d : ℕ) (x : Option Domain) → at_slot s.domains d ≡ x → get f (counts_at (get_or x none_domain).tracker a) ≡ region_count f s.regions d a
  stored-go f d none e = get_none f ∙ sym (nothing-dead f d e)
  stored-go f d (some x) e = counts-law s.regions d x.tracker (h.tracked.trackers d x e) a f

  pub stored : (f : Field) (d : ℕ) → get f (stored_counts s d a) ≡ region_count f s.regions d a
  stored f d = stored-go f d (at_slot s.domains d) refl

  pub stored-total : sum (λ d. (stored_counts s d a).reach) s.sizes.domains ≡ count_if (covers_as is_root_kind a) s.regions + count_if (covers_as is_alias a) s.regions
  stored-total =
      sum_same _ _ s.sizes.domains (λ d l. stored Field.Reach d)
      ∙ reach-total s.regions h.outside.regions a s.sizes.domains (λ i g e. let x = live-is (at_slot s.domains g.owner) (owner-live i g e) in omega (arith, h.outside.domains_length, in-length s.domains g.owner x.0 x.1))

  pub stored-root : (f : Field) (d : ℕ) → 0 < get f (stored_counts s d a) → RootAt s.regions a f
  stored-root f d u = count-root s.regions h.outside.regions a f d (omega (arith, stored f d))
