-- A law: empty tables are sound, whatever the sizes.
use Rattle.std.specs.Prelude.{◌≡◌, refl, ℕ, zero, suc, ◌+◌, ◌≤◌, ◌<◌, eqb, ltb, replicate}
use Rattle.std.proofs.Common.{sym, ◌∙◌, arith, lit<, lt-ltb, le-ltb, eq-eqb, ne_eqb}
use Rattle.std.proofs.Math.Option.{none}
use Rattle.std.proofs.lemmas.List.{length-replicate}
use Rattle.base.specs.Cases.{lt, ge, cmp}
use Rattle.base.specs.Options.{none-some}
use Rattle.model.specs.Lists.{one_if, count_if, Each, count_up, at_slot, In}
use Rattle.model.specs.State.{Word, Sizes, Domain, Region}
use Rattle.model.specs.Pool.{fresh_pool}
use Rattle.model.specs.Making.{make_tables, make_in, good_sizes}
use Rattle.model.specs.Sound.{Sound, PoolSound, slot_uses, record_uses}
use Rattle.laws.specs.Accepted.{All, accepted, checked, bind, and_then}

pub free-slot : {A : Type 0} (n i : ℕ) → at_slot {A = A} (replicate n none) i ≡ none
free-slot zero i = refl
free-slot (suc n) zero = refl
free-slot (suc n) (suc i) = free-slot n i

each-zero : (n : ℕ) → Each Word (replicate n 0)
each-zero zero = tt
each-zero (suc n) = (lit< tt, each-zero n)

no-uses : (n i : ℕ) → record_uses (replicate n none) i ≡ 0
no-uses zero i = refl
no-uses (suc n) i = no-uses n i

up-below : (i k n : ℕ) → i < k → count_if (eqb i) (count_up k n) ≡ 0
up-below i k zero h = refl
up-below i k (suc n) h = rw (ne_eqb i k (λ e. omega arith), up-below i (suc k) n (omega arith))

up_in : (i k n : ℕ) → k ≤ i → i < k + n → count_if (eqb i) (count_up k n) ≡ 1
up_in i k zero h j = absurd (omega arith)
up_in i k (suc n) h j = elim (cmp k i) [
  | lt l ↦ rw (ne_eqb i k (λ e. omega arith), up_in i (suc k) n l (omega arith))
  | ge l ↦ rw (eq-eqb i k (omega arith), up-below i (suc k) n (omega arith))
]

up_above : (i k n : ℕ) → k + n ≤ i → count_if (eqb i) (count_up k n) ≡ 0
up_above i k zero h = refl
up_above i k (suc n) h = rw (ne_eqb i k (λ e. omega arith), up_above i (suc k) n (omega arith))

pub all-free : (n i : ℕ) → 0 + count_if (eqb i) (count_up 0 n) ≡ one_if (ltb i n)
all-free n i = elim (cmp i n) [
  | lt h ↦ rw (lt-ltb i n h, up_in i 0 n (omega arith) (omega arith))
  | ge h ↦ rw (le-ltb i n h, up_above i 0 n (omega arith))
]

-- no slot of an empty table is in use
pub unused : (A : Type 0) (n i : ℕ) → slot_uses {A = A} (replicate n none) i ≡ 0
unused A n i = rw (free-slot {A = A} n i)

nothing-in : {A : Type 0} (n i : ℕ) (x : A) → In (replicate n none) i x → ⊥
nothing-in n i x h = none-some none x refl (sym (free-slot n i) ∙ h)

-- a pool of n free slots at generation 0
fresh-pool : (n : ℕ) (used : ℕ → ℕ) → ((i : ℕ) → used i ≡ 0) → PoolSound n used (fresh_pool n)
fresh-pool n used h = record { gens_length = length-replicate n 0; gens_words = each-zero n; once = λ i. rw (h i) (all-free n i) }

pub empty-sound : (z : Sizes) → All Sound (make_tables z)
unfolding make_tables
empty-sound z = checked (good_sizes z) _ (λ t. accepted (record {
  outside = record {
    sizes_good = t;
    domains_length = length-replicate z.domains none;
    regions_length = length-replicate z.regions none;
    domain_pool = fresh-pool z.domains _ (unused Domain z.domains);
    region_pool = fresh-pool z.regions _ (unused Region z.regions);
    regions = λ i g h. absurd (nothing-in z.regions i g h);
    owners = λ i g h. absurd (nothing-in z.regions i g h);
    managers = λ d x h. absurd (nothing-in z.domains d x h);
    lists = λ d x h. absurd (nothing-in z.domains d x h);
    cores_words = λ d x h. absurd (nothing-in z.domains d x h);
    interface_words = λ d x h. absurd (nothing-in z.domains d x h);
  };
  tracked = record { record_pool = fresh-pool z.records _ (no-uses z.domains); trackers = λ d x h. absurd (nothing-in z.domains d x h) };
  queue = record { read_place = omega arith; fits = omega arith; handles_fit = tt; singly = tt; queued_words = tt };
}))

pub made-sound : (n m : ℕ) (z : Sizes) → All Sound (make_in n m z)
unfolding make_in
made-sound n m z = bind (empty-sound z) (λ t h. and_then _ (accepted h))
