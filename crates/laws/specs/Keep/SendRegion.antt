-- A send of a region keeps the trackers in agreement, and the ring and the pools sound: the region is the new domain's, and each effective range leaves the old
-- domain's tracker and joins the new one's. Between two ranges the trackers store what they store; that this is what the regions count in the end is `send-agrees`.
use Rattle.std.specs.Prelude.{◌≡◌, refl, ℕ, ◌+◌, ◌-◌, ◌≤◌, ◌<◌, List, [], T, set}
use Rattle.std.proofs.Common.{sym, ap, ◌∙◌, subst, arith, get_or-set_same}
use Rattle.std.proofs.Math.Option.{Option, none, some}
use Rattle.model.specs.Lists.{is_some, at_slot, In}
use Rattle.model.specs.State.{State, Domain, Region, Access, put_region, with_owner}
use Rattle.model.specs.Fields.{Field}
use Rattle.model.specs.Counts.{stored_counts}
use Rattle.model.specs.Regions.{activate, deactivate, send_region}
use Rattle.laws.specs.Accepted.{All, weaken, both}
use Rattle.laws.specs.Tracker.Fields.{Enough}
use Rattle.laws.specs.Tree.Slots.{in-length, live-is, is_live_lem}
use Rattle.laws.specs.Tree.Shares.{grant}
use Rattle.laws.specs.Tree.Facts.{Regions}
use Rattle.laws.specs.Tree.Laws.{owner-law}
use Rattle.laws.specs.Tree.Send.{held, Loses, Receives, send-agrees}
use Rattle.laws.specs.Keep.SameDomains.{SameDomains, SameOutside, same-domains-then, same-domains-live}
use Rattle.laws.specs.Keep.Tracked.{Tracked, tracked-same, activate-tracked, deactivate-tracked, lost-le}
use Rattle.laws.specs.Keep.Agreement.{counts_over, TrackersAgree}
use Rattle.laws.specs.Keep.Slots.{every-put}
use Rattle.laws.specs.Tree.Steps.{region-at}
use Rattle.laws.specs.Keep.Base.{Base}
use Rattle.laws.specs.Keep.BaseSteps.{ranges-base, region-base}
use Rattle.laws.specs.Keep.Whole.{Whole}

-- the trackers have the form and the record pool is sound, whatever they store
abbrev Formed : State → State → Type 0
Formed s t = Tracked t (held t) × SameDomains s t

module _ (s : State) (d : ℕ) (x : Domain) (e : In s.domains d x) (r : ℕ) where
  module _ (t : State) (q : Formed s t) (b c : ℕ) (z : b < c) where
    abbrev range : Access
    range = record { start = b; end = c; rights = r }

    there : (y : Domain) × In t.domains d y
    there = live-is (at_slot t.domains d) (same-domains-live q.1 d (is_live_lem _ x e))

    own : (T : Field → ℕ → ℕ → ℕ) (u : State) → Tracked u T × SameOutside t u → Formed s u × ((f : Field) (k a : ℕ) → held u f k a ≡ T f k a)
    own T u (k, v) = ((tracked-same u T (held u) k.counts k, same-domains-then q.1 v.same_domains), k.counts)

    gained : All (λ u. Formed s u × ((f : Field) (k a : ℕ) → held u f k a ≡ held t f k a + grant f d b c r k a)) (activate [] d range t)
    gained = weaken (activate-tracked [] t (held t) (λ f k a. held t f k a + grant f d b c r k a) q.0 d there.0 there.1 range z (λ f k a. refl)) (own _)

    module _ (had : (a : ℕ) → b ≤ a → a < c → Enough r (stored_counts t d a)) where
      abbrev left : Field → ℕ → ℕ → ℕ
      left f k a = held t f k a - grant f d b c r k a

      counted : (f : Field) (k a : ℕ) → grant f d b c r k a ≤ held t f k a
      counted = lost-le t (held t) left q.0 d there.0 there.1 range z had

      lost : All (λ u. Formed s u × ((f : Field) (k a : ℕ) → held u f k a + grant f d b c r k a ≡ held t f k a)) (deactivate [] d range t)
      lost = weaken (deactivate-tracked [] t (held t) left q.0 d there.0 there.1 range z (λ f k a. omega (arith, counted f k a)) had) (λ u h. let (k, m) = own left u h in (k, λ f j a. omega (arith, m f j a, counted f j a)))

  receives : Receives (Formed s) d r
  unfolding Receives
  receives t b c q z = gained t q b c z

  loses : Loses (Formed s) d r
  unfolding Loses
  loses t b c q z had = lost t q b c z had

-- ---- region g in slot i becomes domain o's

module _ (s : State) (agree : TrackersAgree s) (i : ℕ) (g : Region) (e : In s.regions i g) (o : ℕ) (x : Domain) (at : In s.domains o x) where
  abbrev moved : List (Option Region)
  moved = set s.regions i (some (with_owner o g))

  formed : Formed s (put_region i (with_owner o g) s)
  formed = (record { form = agree.tracked.form; counts = λ f d a. refl; pool = agree.tracked.pool }, record { sizes = refl; domain_pool = refl; size = refl; domains = λ d. refl })

  pub send-region-agree : All (λ t. TrackersAgree t × SameDomains s t × (t.regions ≡ moved)) (send_region i o s)
  send-region-agree =
      let y = live-is (at_slot s.domains g.owner) (agree.owners i g e) in
      weaken (send-agrees (Formed s) s agree.regions i o g e (loses s g.owner y.0 y.1 g.rights) (receives s o x at g.rights) formed agree.tracked.counts)
      (λ t ((k, b), r, agrees). (
        record {
          tracked = tracked-same t (held t) (counts_over t.regions) (λ f d a. sym (agrees f d a)) k;
          regions = subst Regions (sym r) (owner-law s agree.regions i g e o).0;
          owners = subst (λ (rs : List (Option Region)). (j : ℕ) (z : Region) → In rs j z → T (is_some (at_slot t.domains z.owner))) (sym r)
              (every-put (λ z. T (is_some (at_slot t.domains z.owner))) s.regions i (in-length s.regions i g e) (λ j z m. same-domains-live b z.owner (agree.owners j z m)) (with_owner o g) (same-domains-live b o (is_live_lem _ x at)));
        },
        b,
        r,
      ))

-- ---- with the ring and the pools

module _ (s : State) (k : Whole s) (i : ℕ) (g : Region) (e : In s.regions i g) (o : ℕ) (x : Domain) (at : In s.domains o x) where
  sent-base : All Base (send_region i o s)
  unfolding send_region
  sent-base =
      let live = k.0.owners i g e in
      let t = region-base s g.owner k.1 live i g (with_owner o g) e in
      rw (region-at s i g e) (weaken (ranges-base g.owner o g.rights _ (put_region i (with_owner o g) s) t.0 live (is_live_lem _ x at)) (λ u z. z.0))

  -- and it is there, with its new owner
  pub send-whole : All (λ t. Whole t × SameDomains s t × In t.regions i (with_owner o g)) (send_region i o s)
  send-whole = weaken (both (send-region-agree s k.0 i g e o x at) sent-base) (λ t (u, r). ((u.0, r), u.1, ap (λ rs. at_slot rs i) u.2 ∙ get_or-set_same s.regions i (some (with_owner o g)) none (in-length s.regions i g e)))
