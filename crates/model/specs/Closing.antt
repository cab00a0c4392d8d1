-- **Closing a domain** (document 02, request 5): "Revoking a Management capability closes that domain: its slots in rising order, regions with all below
-- them, a RegionRevoke's region likewise if alive, and a Management slot closes that domain in turn, which may hold further ones."
-- "A domain is closing from its own turn on": `closing` has the slots of the domains whose turn has begun and is not over.
use Rattle.std.specs.Prelude.{ℕ, zero, suc, Bool, false, not, ◌&&◌, ◌||◌, List, [], ◌∷◌, eqb, set, if◌then◌else◌}
use Rattle.std.proofs.Math.Option.{Option, none, some}
use Rattle.model.specs.Lists.{is_some, exists, count_if, count_up, at_slot}
use Rattle.model.specs.Outcome.{Outcome, ok, ◌>>=◌}
use Rattle.model.specs.State.{State, Handle, Capa, no_capa, region, region_revoke, management, channel, Domain, Region, domain_at, with_domains}
use Rattle.model.specs.Pool.{free, is_live}
use Rattle.model.specs.Tree.{is_root_kind}
use Rattle.model.specs.Regions.{revoke_region, live_count}

-- ---- what is asked before: "22 where any domain to be closed holds a root, then 23 where any has a nonzero core map"

-- Is domain e closed with domain d: d itself, or one whose managers lead to d? At most n managers are followed.
abbrev pub closes_with : List (Option Domain) → ℕ → ℕ → ℕ → Bool
closes_with ds zero d e = eqb e d
closes_with ds (suc n) d e = eqb e d || elim (at_slot ds e) [ none ↦ false | some x ↦ elim x.manager [ none ↦ false | some m ↦ closes_with ds n d m ] ]

-- The same, with a limit that is never met: no domain has more managers above it than there are domains.
abbrev pub is_to_close : State → ℕ → ℕ → Bool
is_to_close s d e = closes_with s.domains s.sizes.domains d e

-- 22: a live root whose owner is to be closed; in sound tables who owns a region holds it.
abbrev pub root_to_close : State → ℕ → Option Region → Bool
root_to_close s d none = false
root_to_close s d (some g) = is_root_kind g.kind && is_to_close s d g.owner

unfoldable pub closes_root : State → ℕ → Bool
closes_root s d = exists (root_to_close s d) s.regions

-- 23: a domain to be closed with a core map. A free slot reads as a domain without one.
unfoldable pub closes_running : State → ℕ → Bool
closes_running s d = exists (λ e. not (eqb (domain_at s e).cores 0) && is_to_close s d e) (count_up 0 s.sizes.domains)

-- ---- the close

-- "regions with all below them, a RegionRevoke's region likewise if alive"
unfoldable pub revoke_live : List ℕ → Handle → State → Outcome State
revoke_live closing h s = if is_live s.region_pool s.regions h then revoke_region closing (live_count s) h.slot s else ok s

-- One slot of a closing domain; `close` closes a further domain: "a Management slot closes that domain in turn".
unfoldable pub revoke_slot : (ℕ → State → Outcome State) → List ℕ → Option Capa → State → Outcome State
revoke_slot close closing none s = ok s
revoke_slot close closing (some no_capa) s = ok s
revoke_slot close closing (some (region h)) s = revoke_live closing h s
revoke_slot close closing (some (region_revoke h)) s = revoke_live closing h s
revoke_slot close closing (some (management h)) s = if is_live s.domain_pool s.domains h then close h.slot s else ok s
revoke_slot close closing (some (channel h)) s = ok s

-- "its slots in rising order"
unfoldable pub revoke_slots : (Option Capa → State → Outcome State) → List (Option Capa) → State → Outcome State
revoke_slots f [] s = ok s
revoke_slots f (c ∷ cs) s = f c s >>= λ s₁. revoke_slots f cs s₁

-- "last in its turn its slot is freed, its generation raised" (16). Nothing of the domain stays: its slot list "is as a making leaves it", its tracker is
-- empty by then (`idle`, crate laws). The queue is not looked at: an update of the domain stays there, by the old generation. The slots of the domains below
-- it are freed before its own, which is given first again.
unfoldable pub free_domain : ℕ → State → Outcome State
free_domain d s = do
  p ← free d s.domain_pool
  ok (with_domains p (set s.domains d none) s)

-- The turn of domain d, which is closing from here on: its slots, as they are when the turn begins, which no step of it changes (`still-there`, crate laws),
-- and a domain that one of them manages in a turn of its own; then d's own slot is freed. n limits the depth: calls give the number of live domains, so that
-- the first equation is never reached (`close-sound`, crate laws).
unfoldable pub close_domain : ℕ → List ℕ → ℕ → State → Outcome State
close_domain zero closing d s = ok s
close_domain (suc n) closing d s = do
  s₁ ← revoke_slots (revoke_slot (close_domain n (d ∷ closing)) (d ∷ closing)) (domain_at s d).locals.held s
  free_domain d s₁

-- the number of live domains
abbrev pub live_domains : State → ℕ
live_domains s = count_if is_some s.domains
