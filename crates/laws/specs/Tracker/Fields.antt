-- The reach and the four right counts after a gain and after a loss: one law over the field, from the law at each address.
-- Invariant of a loss: the counts hold what is taken (`Enough`), so that nothing is cut off at 0.
use Rattle.std.specs.Prelude.{◌≡◌, ℕ, ◌+◌, ◌-◌, ◌≤◌, ◌<◌, List}
use Rattle.std.proofs.Math.Option.{Option, none, some}
use Rattle.std.proofs.Common.{arith, eq-eqb, ne_eqb}
use Rattle.base.specs.Cases.{lt, ge, cmp, below, inside, above, pos}
use Rattle.model.specs.State.{Counts, Record, Pool}
use Rattle.model.specs.Fields.{Field, get, counter}
use Rattle.model.specs.Tracker.{gain, lose}
use Rattle.model.specs.Counts.{counts_at}
use Rattle.model.specs.Sound.{Rising}
use Rattle.laws.specs.Accepted.{All, weaken}
use Rattle.laws.specs.Fields.{get_none, get-new, get-raise, get-lower}
use Rattle.laws.specs.Tracker.Look.{look, counts_of, counts-look}
use Rattle.laws.specs.Tracker.One.{gained, lost}
use Rattle.laws.specs.Tracker.Laws.{gain-law, lose-law}
use Rattle.laws.specs.Within.{within, W}

-- the stored count at an address
abbrev pub count_at : Field → List Record → ℕ → ℕ
count_at f l a = get f (counts_at l a)

-- ---- one set of counts

-- A range with rights r may be taken from these counts, and the last one leaves nothing.
pub record Enough (r : ℕ) (k : Counts) : Type 0 where
  pub counted : (f : Field) → counter f r ≤ get f k
  pub last : k.reach ≡ 1 → (f : Field) → get f k ≡ counter f r

-- so it is where the counts are those of the range and of others, of which no right counts for more than the reach
pub enough : (r : ℕ) (k : Counts) (others : Field → ℕ) → ((f : Field) → get f k ≡ others f + counter f r) → ((f : Field) → others f ≤ others Field.Reach) → Enough r k
enough r k others h m = record { counted = λ f. omega (arith, h f); last = λ e f. omega (arith, h f, h Field.Reach, m f) }

gained-count : (f : Field) (r : ℕ) (x : Option Counts) → get f (counts_of (gained r x)) ≡ get f (counts_of x) + counter f r
gained-count f r none = omega (arith, get-new f r, get_none f)
gained-count f r (some k) = get-raise f r k

lost-count : (f : Field) (r : ℕ) (x : Option Counts) → Enough r (counts_of x) → get f (counts_of (lost r x)) + counter f r ≡ get f (counts_of x)
lost-count f r none h = absurd (omega (arith, h.counted Field.Reach))
lost-count f r (some k) h = let i = h.counted f in let i' = h.counted Field.Reach in elim (cmp 1 k.reach) [
  | lt j ↦ rw (ne_eqb (k.reach - 1) 0 (omega arith)) (omega (arith, get-lower f r k))
  | ge j ↦ rw (eq-eqb (k.reach - 1) 0 (omega arith)) (omega (arith, get_none f, h.last (omega arith) f))
]

-- ---- gain and loss

module _ (r s e : ℕ) (l : List Record) (p : Pool) (o : Rising 0 l) (z : s < e) where
  pub gain-count : All (λ w. (f : Field) (a : ℕ) → count_at f w.records a ≡ count_at f l a + within s e a (counter f r) 0) (gain r s e l p)
  gain-count = weaken (gain-law r s e l p o z) (λ w h f a. rw (counts-look w.records a, counts-look l a, h a) (elim (pos s e a) [
    | below i ↦ simp W (omega arith)
    | inside i j ↦ simp W (gained-count f r (look l a))
    | above i ↦ simp W (omega arith)
  ]))

  pub lose-count : ((a : ℕ) → s ≤ a → a < e → Enough r (counts_at l a)) → All (λ w. (f : Field) (a : ℕ) → count_at f w.records a + within s e a (counter f r) 0 ≡ count_at f l a) (lose r s e l p)
  lose-count n = weaken (lose-law r s e l p o z) (λ w h f a. rw (counts-look w.records a, counts-look l a, h a) (elim (pos s e a) [
    | below i ↦ simp W (omega arith)
    | inside i j ↦ simp W (lost-count f r (look l a) (rw (counts-look l a) at (n a i j)))
    | above i ↦ simp W (omega arith)
  ]))
