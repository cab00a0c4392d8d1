-- Open: a new domain has an empty tracker, in a slot that held none; its manager's list is put back with the tracker as it was.
use Rattle.std.specs.Prelude.{◌≡◌, ℕ, zero, suc, ◌<◌, List, [], ◌∷◌, length, set}
use Rattle.std.proofs.Math.Path.{refl}
use Rattle.std.proofs.Common.{sym, ap, ◌∙◌, arith, length-set}
use Rattle.std.proofs.Math.Option.{Option, none, some, get_or}
use Rattle.std.proofs.Math.Decide.{ℕ_discrete}
use Rattle.base.specs.Options.{none-some}
use Rattle.model.specs.Lists.{at_slot}
use Rattle.refusals.specs.declared.Refusal.{Refusal}
use Rattle.refusals.specs.Refusals.{no_domain_room}
use Rattle.model.specs.State.{State, Word, Pool, Handle, Domain, none_domain, with_domains}
use Rattle.model.specs.Pool.{allocate}
use Rattle.model.specs.Calls.{new_domain, open_domain}
use Rattle.model.specs.Sound.{Sound, record_uses}
use Rattle.laws.specs.Accepted.{All, accepted, refused, both, bind}
use Rattle.laws.specs.Tracker.Fields.{count_at}
use Rattle.laws.specs.Tree.Slots.{is_live_lem}
use Rattle.laws.specs.Keep.Slots.{taken-alive, every-put}
use Rattle.laws.specs.Keep.Tracked.{tracker_in, tracker-here, tracker-there}
use Rattle.laws.specs.Keep.Agreement.{TrackersAgree, sound-agree}
use Rattle.laws.specs.Keep.Ring.{queue-kept-ring}
use Rattle.laws.specs.Keep.Pools.{table-takes}
use Rattle.laws.specs.Keep.Base.{Base, DomainTable, sound-base}
use Rattle.laws.specs.Keep.BaseSteps.{Live}
use Rattle.laws.specs.Keep.Locals.{allocate-free}
use Rattle.laws.specs.Keep.Checks.{domain-live}
use Rattle.laws.specs.Keep.Whole.{Whole, After, capacity-whole, insert-whole}

-- the record slots in use are those that were
uses-new : (ds : List (Option Domain)) (d : ℕ) (y : Domain) → at_slot ds d ≡ none → y.tracker ≡ [] → (i : ℕ) → record_uses (set ds d (some y)) i ≡ record_uses ds i
uses-new [] d y e q i = refl
uses-new (none ∷ ds) zero y e q i = rw q (omega arith)
uses-new (none ∷ ds) (suc d) y e q i = uses-new ds d y e q i
uses-new (some z ∷ ds) zero y e q i = absurd (none-some (some z) z e refl)
uses-new (some z ∷ ds) (suc d) y e q i = omega (arith, uses-new ds d y e q i)

module _ (s : State) (agree : TrackersAgree s) (d : ℕ) (l : d < length s.domains) (free : at_slot s.domains d ≡ none) (p : Pool) (y : Domain) (q : y.tracker ≡ []) where
  abbrev opened : State
  opened = with_domains p (set s.domains d (some y)) s

  same-tracker : (k : ℕ) → tracker_in opened.domains k ≡ tracker_in s.domains k
  same-tracker k = elim (ℕ_discrete k d) [
    | yes m ↦ rw m (tracker-here s.domains d y l ∙ q ∙ sym (ap (λ (o : Option Domain). (get_or o none_domain).tracker) free))
    | no m ↦ tracker-there s.domains d y k m
  ]

  new-live : (k : ℕ) → Live s k → Live opened k
  new-live = taken-alive s.domains d y l

  new-agree : TrackersAgree opened
  new-agree = record {
    tracked = record {
      form = λ k. rw (same-tracker k) (agree.tracked.form k);
      counts = λ f k a. ap (λ r. count_at f r a) (same-tracker k) ∙ agree.tracked.counts f k a;
      pool = record {
        gens_length = agree.tracked.pool.gens_length;
        gens_words = agree.tracked.pool.gens_words;
        once = λ i. omega (arith, agree.tracked.pool.once i, uses-new s.domains d y free q i);
      };
    };
    regions = agree.regions;
    owners = λ i g e. new-live g.owner (agree.owners i g e);
  }

  new-base : Base s → Word y.cores → p.gens ≡ s.domain_pool.gens → DomainTable opened → Base opened
  new-base r w g k = record {
    ring = queue-kept-ring s opened (record {
      sizes = refl;
      gens = g;
      size = length-set s.domains d (some y);
      live = new-live;
      cores = every-put (λ z. Word z.cores) s.domains d l r.ring.cores y w;
      queue = refl;
    }) r.ring;
    regions = r.regions;
    domains = k;
  }

allocate-gens : (r : Refusal) (gs fs : List ℕ) → All (λ (x : ℕ × Pool). x.1.gens ≡ gs) (allocate r (record { gens = gs; free = fs }))
unfolding allocate
allocate-gens r gs [] = refused
allocate-gens r gs (i ∷ is) = accepted refl

-- ---- the call

module _ (s : State) (sound : Sound s) where
  pub domain-whole : (m : Option ℕ) (cores : ℕ) → Word cores → All (λ (y : ℕ × State). Whole y.1 × ((k : ℕ) → Live s k → Live y.1 k)) (new_domain m cores s)
  unfolding new_domain
  domain-whole m cores w =
      let agree = sound-agree s sound in
      let r = sound-base s sound in
      bind (both (table-takes s.sizes.domains s.domains s.domain_pool r.domains no_domain_room) (both (allocate-free s.domains s.sizes.domains s.domain_pool sound.outside.domains_length sound.outside.domain_pool no_domain_room) (allocate-gens no_domain_room s.domain_pool.gens s.domain_pool.free))) (λ (i, p) (t, ((l, free), g)).
      accepted ((new-agree s agree i l free p _ refl, new-base s agree i l free p _ refl r w g (t _)), new-live s agree i l free p _ refl))

  pub open-keeps : (h : Option Handle) (cores : ℕ) → Word cores → All After (open_domain h cores s)
  unfolding open_domain
  open-keeps none cores w = bind (domain-whole none cores w) (λ (i, s₁) (g, live). accepted g)
  open-keeps (some h) cores w =
      bind (domain-live s h) (λ m (x, e).
      bind (domain-whole (some m) cores w) (λ (i, s₁) (g, live).
      bind (capacity-whole s₁ g m (live m (is_live_lem _ x e))) (λ s₂ (g₂, live₂).
      bind (insert-whole s₂ g₂ m live₂ _) (λ (l, s₃) g₃. accepted g₃))))
