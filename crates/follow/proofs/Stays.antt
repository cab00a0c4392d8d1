-- The domains that a revoke speaks of: those that are live and not closing. A revoke of a region keeps `Tracks` of them: the domains that gain and lose
-- are live (`revoke-whole`, crate laws), so that no slot comes to be spoken of.
use Rattle.std.specs.Prelude.{◌≡◌, ℕ, not, List, T, eqb}
use Rattle.std.proofs.Common.{sym, subst, get_or-set_other}
use Rattle.std.proofs.Math.Option.{none, some}
use Rattle.std.proofs.Math.Decide.{ℕ_discrete}
use Rattle.model.specs.Lists.{exists, In}
use Rattle.model.specs.State.{State, Domain, Region, parent_of, put_domain}
use Rattle.model.specs.Regions.{revoke_region, live_count}
use Rattle.laws.specs.Accepted.{All, weaken, both}
use Rattle.laws.specs.Keep.SameDomains.{SameDomains, same-domains-turned, same-domains-live}
use Rattle.laws.specs.Keep.BaseSteps.{Live}
use Rattle.laws.specs.Keep.Whole.{Whole}
use Rattle.laws.specs.Keep.RevokeRegion.{revoke-whole}
use Rattle.follow.specs.Writer.{Seen}
use Rattle.follow.proofs.Steps.{Tracks, tracks-fewer}
use Rattle.follow.proofs.Regions.{revoke-tracks}

-- a live domain that is not closing
abbrev pub Stays : List ℕ → State → ℕ → Type 0
Stays closing s d = Live s d × T (not (exists (eqb d) closing))

-- of these domains
abbrev pub Tracking : List ℕ → Seen → State → Type 0
Tracking closing v s = Tracks (Stays closing s) v s

-- the domains are the same but for their trackers
pub same-follows : (closing : List ℕ) (v : Seen) (s t : State) → SameDomains s t → Tracks (Stays closing s) v t → Tracking closing v t
same-follows closing v s t b h = tracks-fewer (Stays closing s) (Stays closing t) v t (λ d (l, n). (same-domains-live (same-domains-turned b) d l, n)) h

-- a live region that is no root is revoked with all below it
pub region-follows : (closing : List ℕ) (v : Seen) (s : State) → Whole s → Tracking closing v s → (i p : ℕ) (g : Region) → In s.regions i g → parent_of g.kind ≡ some p → All (λ t. Tracking closing v t × SameDomains s t) (revoke_region closing (live_count s) i s)
region-follows closing v s whole h i p g e n = weaken (both (revoke-tracks v closing (λ d c. c.1) (live_count s) i s h) (revoke-whole closing s whole i p g e n)) (λ t (k, ((w, b), r)). (same-follows closing v s t b k, b))

-- a live domain is put back: no other slot is live for it
pub put-live : (s : State) (d : ℕ) (y : Domain) → Live s d → (k : ℕ) → Live (put_domain d y s) k → Live s k
put-live s d y live k t = elim (ℕ_discrete k d) [
  | yes e ↦ subst (Live s) (sym e) live
  | no e ↦ rw (get_or-set_other s.domains d k (some y) none e) at t
]
