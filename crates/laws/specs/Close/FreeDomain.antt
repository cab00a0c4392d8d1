-- A domain that owns no live region, manages no live domain and has an empty tracker is freed: the tables stay sound, and the handles to it, in lists
-- and in the queue, become older.
use Rattle.std.specs.Prelude.{◌≡◌, refl, ◌≢◌, ℕ, suc, ◌≤◌, ◌<◌, List, [], ◌∷◌, T, eqb, length, get_or, set}
use Rattle.std.proofs.Common.{sym, ap, subst, ◌∙◌, arith, eqb→eq, length-set, get_or-set_same, get_or-set_other, eq-eqb}
use Rattle.std.proofs.Math.Option.{Option, none, some}
use Rattle.std.proofs.Math.Decide.{ℕ_discrete}
use Rattle.std.specs.Float.Ieee.Fits.{and_l, and_r, and_i}
use Rattle.base.specs.Options.{none-some}
use Rattle.model.specs.Lists.{is_some, count_if, at_slot, In}
use Rattle.model.specs.State.{Handle, Pool, Record, Domain, Region, State, with_domains}
use Rattle.model.specs.Pool.{free, is_live}
use Rattle.model.specs.Tracker.{no_counts}
use Rattle.model.specs.Sound.{Sound, LiveOrOlder, Managed, is_management_of}
use Rattle.model.specs.Closing.{free_domain}
use Rattle.laws.specs.Accepted.{All, accepted, bind, both, and_then}
use Rattle.laws.specs.Answers.{answer}
use Rattle.laws.specs.Tracker.Pools.{Moved, free-moves}
use Rattle.laws.specs.Tree.Slots.{in-length}
use Rattle.laws.specs.Capas.Slots.{once-give}
use Rattle.laws.specs.Capas.Live.{live-fits, older-fits, fits-onward, list-onward, queue-onward}
use Rattle.laws.specs.Capas.Domain.{uses_in, uses-set}

abbrev pub freed_pool : ℕ → Pool → Pool
freed_pool d p = record { gens = set p.gens d (suc (get_or p.gens d 0)); free = d ∷ p.free }

freed-is : (d : ℕ) (p : Pool) → All (λ q. q ≡ freed_pool d p) (free d p)
unfolding free
freed-is d p = and_then _ (accepted refl)

abbrev record_at : ℕ → Record
record_at i = record { slot = i; start = 0; end = 0; counts = no_counts }

-- the domain may go
pub record Idle (s : State) (d : ℕ) (x : Domain) : Type 0 where
  pub is : In s.domains d x
  pub no_region : (i : ℕ) (g : Region) → In s.regions i g → g.owner ≢ d
  pub no_domain : (e : ℕ) (y : Domain) → In s.domains e y → y.manager ≢ some d
  pub no_record : x.tracker ≡ []

-- What is left: every other domain as it was.
abbrev pub freed : ℕ → State → State
freed d s = with_domains (freed_pool d s.domain_pool) (set s.domains d none) s

module _ (s : State) (h : Sound s) (d : ℕ) (x : Domain) (k : Idle s d x) (moved : Moved s.domain_pool (freed_pool d s.domain_pool) (record_at d ∷ []) []) where
  abbrev ds' : List (Option Domain)
  ds' = set s.domains d none

  abbrev after : Pool
  after = freed_pool d s.domain_pool

  low : d < length s.domains
  low = in-length s.domains d x k.is

  low-gen : d < length s.domain_pool.gens
  low-gen = omega (arith, h.outside.domain_pool.gens_length, h.outside.domains_length, low)

  -- whoever is live now is in another slot, and as it was
  apart : (e : ℕ) (y : Domain) → In ds' e y → e ≢ d
  apart e y f o = none-some (at_slot ds' d) y (get_or-set_same s.domains d none none low) (rw o at f)

  still : (e : ℕ) (y : Domain) → In ds' e y → In s.domains e y
  still e y f = sym (get_or-set_other s.domains d e none none (apart e y f)) ∙ f

  -- and whoever was live in another slot is
  there : (e : ℕ) → e ≢ d → T (is_some (at_slot s.domains e)) → T (is_some (at_slot ds' e))
  there e o t = subst (λ (v : Option Domain). T (is_some v)) (sym (get_or-set_other s.domains d e none none o)) t

  same-gen : (e : ℕ) → e ≢ d → get_or after.gens e 0 ≡ get_or s.domain_pool.gens e 0
  same-gen e o = get_or-set_other s.domain_pool.gens d e (suc (get_or s.domain_pool.gens d 0)) 0 o

  live-or-older : (n : Handle) → T (is_live s.domain_pool s.domains n) → LiveOrOlder after ds' n
  live-or-older n t = let u = eqb→eq (get_or s.domain_pool.gens n.slot 0) n.generation (search and_r) in elim (ℕ_discrete n.slot d) [
    | yes o ↦ older-fits after ds' n (omega (arith, ap (λ m. get_or after.gens m 0) o, ap (λ m. get_or s.domain_pool.gens m 0) o, get_or-set_same s.domain_pool.gens d (suc (get_or s.domain_pool.gens d 0)) 0 low-gen))
    | no o ↦ live-fits after ds' n (and_i (is_some (at_slot ds' n.slot)) (eqb (get_or after.gens n.slot 0) n.generation) (there n.slot o (search and_l)) (rw (eq-eqb _ _ (same-gen n.slot o ∙ u)) tt))
  ]

  onward : (n : Handle) → LiveOrOlder s.domain_pool s.domains n → LiveOrOlder after ds' n
  onward = fits-onward s.domain_pool after s.domains ds' live-or-older moved.gens_rise

  managed : (e : ℕ) → e ≢ d → Managed s.domains e → Managed ds' e
  managed e o (Managed.no_manager _ y f n) = Managed.no_manager e y (get_or-set_other s.domains d e none none o ∙ f) n
  managed e o (Managed.by _ m y f n r) = Managed.by e m y (get_or-set_other s.domains d e none none o ∙ f) n (managed m (λ q. k.no_domain e y f (n ∙ ap some q)) r)

  freed-sound : Sound (freed d s)
  freed-sound =
      let z = h.outside in
      record {
        outside = record {
          sizes_good = z.sizes_good;
          domains_length = length-set s.domains d none ∙ z.domains_length;
          regions_length = z.regions_length;
          domain_pool = record { gens_length = moved.gens_length ∙ z.domain_pool.gens_length; gens_words = moved.gens_words z.domain_pool.gens_words; once = once-give s.sizes.domains s.domains z.domains_length d s.domain_pool.free x k.is z.domain_pool.once };
          region_pool = z.region_pool;
          regions = z.regions;
          owners = λ i g e. record { owner_live = there g.owner (k.no_region i g e) (z.owners i g e).owner_live; one_slot = λ c y f. (z.owners i g e).one_slot c y (still c y f) };
          managers = λ e y f. let v = z.managers e y (still e y f) in record {
            manager_live = λ m n. there m (λ o. k.no_domain e y (still e y f) (n ∙ ap some o)) (v.manager_live m n);
            one_management = λ c w g. ap (λ (m : ℕ). count_if (is_management_of (record { slot = e; generation = m })) w.locals.held) (same-gen e (apart e y f)) ∙ v.one_management c w (still c w g);
            managed = managed e (apart e y f) v.managed;
          };
          lists = λ e y f. list-onward s.region_pool s.region_pool s.regions s.regions s.domain_pool after s.domains ds' (λ n t. t) (λ n t u. u) onward s.sizes.slots y.locals (z.lists e y (still e y f));
          cores_words = λ e y f. z.cores_words e y (still e y f);
          interface_words = λ e y f. z.interface_words e y (still e y f);
        };
        tracked = record {
          record_pool = record {
            gens_length = h.tracked.record_pool.gens_length;
            gens_words = h.tracked.record_pool.gens_words;
            once = λ i. omega (arith, h.tracked.record_pool.once i, uses-set s.domains d none low i, ap (λ o. uses_in o i) k.is, ap (λ l. count_if (λ (q : Record). eqb i q.slot) l) k.no_record);
          };
          trackers = λ e y f. h.tracked.trackers e y (still e y f);
        };
        queue = queue-onward s.sizes.updates s.domain_pool after s.domains ds' onward s.queue h.queue;
      }

-- The answer, if 16 is not met, is `freed d s`: sound, and no generation has fallen.
pub free-domain-sound : (s : State) → Sound s → (d : ℕ) (x : Domain) → Idle s d x → All (λ t. Sound t × (t ≡ freed d s) × ((i : ℕ) → get_or s.domain_pool.gens i 0 ≤ get_or t.domain_pool.gens i 0)) (free_domain d s)
unfolding free_domain
free-domain-sound s h d x k = bind (both (freed-is d s.domain_pool) (answer (free-moves (record_at d) s.domain_pool))) (λ q (p, m).
    let v = subst (λ (r : Pool). Moved s.domain_pool r (record_at d ∷ []) []) p m in
    accepted (subst (λ (r : Pool). Sound (with_domains r (set s.domains d none) s)) (sym p) (freed-sound s h d x k v), ap (λ (r : Pool). with_domains r (set s.domains d none) s) p, m.gens_rise))
