-- After a change of the regions the gain of a range, or the loss of a range and its gain with other rights, brings the trackers into agreement again.
-- What is lost was there, since the counts of the regions include it.
use Rattle.std.specs.Prelude.{◌≡◌, ℕ, ◌+◌, ◌-◌, ◌≤◌, ◌<◌, List, [], T, eqb}
use Rattle.std.proofs.Common.{sym, ap, subst, arith, eqb→eq}
use Rattle.std.proofs.Math.Option.{Option}
use Rattle.model.specs.Lists.{In}
use Rattle.model.specs.Outcome.{◌>>=◌}
use Rattle.model.specs.State.{State, Domain, Region, Access}
use Rattle.model.specs.Fields.{Field}
use Rattle.model.specs.Counts.{stored_counts, region_count}
use Rattle.model.specs.Regions.{activate, deactivate}
use Rattle.model.specs.Calls.{exchange_rights}
use Rattle.laws.specs.Accepted.{All, accepted, bind, weaken, branch-on}
use Rattle.laws.specs.Tracker.Fields.{Enough}
use Rattle.laws.specs.Tree.Shares.{grant}
use Rattle.laws.specs.Tree.Facts.{Regions}
use Rattle.laws.specs.Tree.CountsInclude.{CountsInclude, include-enough}
use Rattle.laws.specs.Keep.SameDomains.{SameOutside, same-domains-live, same-domains-in, same-outside-self, same-outside-then}
use Rattle.laws.specs.Keep.Tracked.{Tracked, tracked-same, activate-tracked, deactivate-tracked, lost-le}
use Rattle.laws.specs.Keep.Agreement.{counts_over, Owners, TrackersAgreeWith, TrackersAgree}

-- domain d can lose the range with rights r
abbrev pub CountsIncludeRange : List (Option Region) → ℕ → ℕ → ℕ → ℕ → Type 0
CountsIncludeRange rs d b e r = (a : ℕ) → b ≤ a → a < e → CountsInclude rs d a r

-- what the counts of the regions rs include can be lost, where the trackers store them
pub include-stored : (s : State) (rs : List (Option Region)) → Tracked s (counts_over rs) → (d a r : ℕ) → CountsInclude rs d a r → Enough r (stored_counts s d a)
include-stored s rs h d a r p = include-enough rs d a r (stored_counts s d a) p (λ f. h.counts f d a)

-- ---- a step on a tracker leaves the regions and the live domains

pub same-outside-agree : (s t : State) → SameOutside s t → Regions s.regions → Owners s → Tracked t (counts_over s.regions) → TrackersAgree t
same-outside-agree s t b r o k = record {
  tracked = subst (λ rs. Tracked t (counts_over rs)) (sym b.regions) k;
  regions = subst Regions (sym b.regions) r;
  owners = λ i g e. same-domains-live b.same_domains g.owner (o i g (rw b.regions at e));
}

module _ (rs : List (Option Region)) (s : State) (h : TrackersAgreeWith rs s) (d : ℕ) (x : Domain) (e : In s.domains d x) (a : Access) (z : a.start < a.end) where
  -- a range that domain d gains, or loses
  abbrev range : ℕ → Field → ℕ → ℕ → ℕ
  range r f k b = grant f d a.start a.end r k b

  pub activate-agree : ((f : Field) (k b : ℕ) → region_count f s.regions k b ≡ region_count f rs k b + range a.rights f k b) → All (λ t. TrackersAgree t × SameOutside s t) (activate [] d a s)
  activate-agree m = weaken (activate-tracked [] s (counts_over rs) (counts_over s.regions) h.tracked d x e a z m) (λ t (k, b). (same-outside-agree s t b h.regions h.owners k, b))

  -- ---- the same range with other rights r is lost, and this one gained

  module _ (r : ℕ) (p : CountsIncludeRange rs d a.start a.end r) (m : (f : Field) (k b : ℕ) → region_count f s.regions k b + range r f k b ≡ region_count f rs k b + range a.rights f k b) where
    abbrev old : Access
    old = record { start = a.start; end = a.end; rights = r }

    -- what is left between the two
    abbrev left : Field → ℕ → ℕ → ℕ
    left f k b = region_count f rs k b - range r f k b

    had : (b : ℕ) → a.start ≤ b → b < a.end → Enough r (stored_counts s d b)
    had b u v = include-stored s rs h.tracked d b r (p b u v)

    counted : (f : Field) (k b : ℕ) → range r f k b ≤ region_count f rs k b
    counted = lost-le s (counts_over rs) left h.tracked d x e old z had

    equal : T (eqb r a.rights) → TrackersAgree s
    equal t = same-outside-agree s s (same-outside-self s) h.regions h.owners (tracked-same s (counts_over rs) (counts_over s.regions) (λ f k b. omega (arith, m f k b, ap (λ (n : ℕ). range n f k b) (eqb→eq r a.rights t))) h.tracked)

    differ : All (λ t. TrackersAgree t × SameOutside s t) (deactivate [] d old s >>= λ t. activate [] d a t)
    differ =
        bind (deactivate-tracked [] s (counts_over rs) left h.tracked d x e old z (λ f k b. omega (arith, counted f k b)) had) (λ t (k, b).
        let y = same-domains-in b.same_domains d x e in
        weaken (activate-tracked [] t left (counts_over s.regions) k d y.0 y.1 a z (λ f j c. omega (arith, m f j c, counted f j c)))
        (λ u (j, c). (same-outside-agree s u (same-outside-then b c) h.regions h.owners j, same-outside-then b c)))

    pub exchange-agree : All (λ t. TrackersAgree t × SameOutside s t) (exchange_rights d r a s)
    unfolding exchange_rights
    exchange-agree = branch-on (eqb r a.rights) (λ t. accepted (equal t, same-outside-self s)) (λ t. differ)
