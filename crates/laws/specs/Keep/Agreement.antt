-- The counts agree where the trackers store what the regions count. In sound tables they do; and where they do the trackers and the record pool are
-- sound. What the calls keep (`TrackersAgree`) is this, sound regions, and that the owner of each is a live domain. Between a step on the regions and
-- the step on the trackers the trackers store what the regions rs counted before (`TrackersAgreeWith`).
use Rattle.std.specs.Prelude.{◌≡◌, refl, ℕ, List, T}
use Rattle.std.proofs.Math.Option.{Option, none, some, get_or}
use Rattle.model.specs.Lists.{is_some, at_slot, In}
use Rattle.model.specs.State.{State, Queue, with_queue, Domain, Region, domain_at, none_domain}
use Rattle.model.specs.Fields.{Field}
use Rattle.model.specs.Counts.{region_count}
use Rattle.model.specs.Sound.{Sound, TrackerSound}
use Rattle.laws.specs.Tracker.Form.{Form, sound-form}
use Rattle.laws.specs.Tracker.Stored.{tracker-sound}
use Rattle.laws.specs.Tree.Facts.{Regions}
use Rattle.laws.specs.Tree.Stored.{stored}
use Rattle.laws.specs.Keep.Tracked.{Tracked}
use Rattle.laws.specs.Tree.Steps.{domain-at}

-- the regions' counts, as a function of field, domain and address
abbrev pub counts_over : List (Option Region) → Field → ℕ → ℕ → ℕ
counts_over rs f d a = region_count f rs d a

abbrev pub CountsAgree : State → Type 0
CountsAgree s = Tracked s (counts_over s.regions)

abbrev pub Owners : State → Type 0
Owners s = (i : ℕ) (g : Region) → In s.regions i g → T (is_some (at_slot s.domains g.owner))

pub record TrackersAgreeWith (rs : List (Option Region)) (s : State) : Type 0 where
  pub tracked : Tracked s (counts_over rs)
  pub regions : Regions s.regions
  pub owners : Owners s

abbrev pub TrackersAgree : State → Type 0
TrackersAgree s = TrackersAgreeWith s.regions s

-- the queue is no part of it
pub queued-agree : (s : State) (q : Queue) → TrackersAgree s → TrackersAgree (with_queue q s)
queued-agree s q h = record { tracked = record { form = h.tracked.form; counts = h.tracked.counts; pool = h.tracked.pool }; regions = h.regions; owners = h.owners }

-- ---- from sound tables, and back

form_in : (s : State) → Sound s → (d : ℕ) (o : Option Domain) → at_slot s.domains d ≡ o → Form (get_or o none_domain).tracker
form_in s h d none e = record { rising = tt; merged = tt; reached = tt; uncacheable = tt }
form_in s h d (some x) e = sound-form s.regions d x.tracker (h.tracked.trackers d x e)

pub sound-counts-agree : (s : State) → Sound s → CountsAgree s
sound-counts-agree s h = record { form = λ d. form_in s h d (at_slot s.domains d) refl; counts = λ f d a. stored s h a f d; pool = h.tracked.record_pool }

pub sound-agree : (s : State) → Sound s → TrackersAgree s
sound-agree s h = record { tracked = sound-counts-agree s h; regions = h.outside.regions; owners = λ i g e. (h.outside.owners i g e).owner_live }

module _ (s : State) (h : CountsAgree s) where
  pub counts-agree-tracker : (d : ℕ) (x : Domain) → In s.domains d x → TrackerSound s.regions d x.tracker
  counts-agree-tracker d x e = rw (domain-at s d x e) at (tracker-sound s.regions d (domain_at s d).tracker (h.form d) (λ a f. h.counts f d a))
