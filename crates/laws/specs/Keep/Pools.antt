-- The pools of regions and of domains: every slot is in use or free once. A slot is taken, a slot is freed, or what is in a slot in use is written.
use Rattle.std.specs.Prelude.{◌≡◌, refl, ◌≢◌, ℕ, ◌+◌, ◌<◌, eqb, length, set}
use Rattle.std.proofs.Common.{sym, ap, subst, ◌∙◌, arith, length-set, get_or-set_same, get_or-set_other, eq-eqb, ne_eqb}
use Rattle.std.proofs.Math.Option.{Option, none, some}
use mathlib.Core.List.{List, [], ◌∷◌}
use Rattle.std.proofs.Math.Decide.{ℕ_discrete}
use Rattle.model.specs.Lists.{one_if, count_if, is_some, at_slot, In, Each}
use Rattle.refusals.specs.declared.Refusal.{Refusal}
use Rattle.model.specs.State.{Word, Pool}
use Rattle.model.specs.Pool.{allocate, free}
use Rattle.model.specs.Tracker.{no_counts}
use Rattle.model.specs.Sound.{PoolSound, slot_uses}
use Rattle.laws.specs.Accepted.{All, accepted, refused, weaken, both}
use Rattle.laws.specs.Answers.{answer}
use Rattle.laws.specs.Tracker.Pools.{free-moves}
use Rattle.laws.specs.Keep.Locals.{allocate-free}

-- a table of n slots and its pool
pub record Table {A : Type 0} (n : ℕ) (l : List (Option A)) (p : Pool) : Type 0 where
  pub size : length l ≡ n
  pub pool : PoolSound n (slot_uses l) p

module _ {A : Type 0} (l : List (Option A)) (i : ℕ) (low : i < length l) where
  use-here : (o : Option A) → slot_uses (set l i o) i ≡ one_if (is_some o)
  use-here o = ap (λ (z : Option A). one_if (is_some z)) (get_or-set_same l i o none low)

  use-there : (o : Option A) (k : ℕ) → k ≢ i → slot_uses (set l i o) k ≡ slot_uses l k
  use-there o k m = ap (λ (z : Option A). one_if (is_some z)) (get_or-set_other l i k o none m)

-- the same slots are in use
pub table_same : {A : Type 0} (n : ℕ) (l m : List (Option A)) (p : Pool) → length m ≡ length l → ((k : ℕ) → is_some (at_slot m k) ≡ is_some (at_slot l k)) → Table n l p → Table n m p
table_same n l m p z e t = record {
  size = z ∙ t.size;
  pool = record { gens_length = t.pool.gens_length; gens_words = t.pool.gens_words; once = λ k. omega (arith, t.pool.once k, ap one_if (e k)) };
}

module _ {A : Type 0} (n : ℕ) (l : List (Option A)) (p : Pool) (t : Table n l p) where
  -- what is in a slot in use is written
  pub table-put : (i : ℕ) (x y : A) → In l i x → i < length l → Table n (set l i (some y)) p
  table-put i x y e low = table_same n l (set l i (some y)) p (length-set l i (some y)) (λ k. elim (ℕ_discrete k i) [
    | yes m ↦ rw m (ap is_some (get_or-set_same l i (some y) none low) ∙ sym (ap is_some e))
    | no m ↦ ap is_some (get_or-set_other l i k (some y) none m)
  ]) t

  taken : (r : Refusal) (gs fs : List ℕ) → All (λ (x : ℕ × Pool). (x.1.gens ≡ gs) × ((k : ℕ) → one_if (eqb k x.0) + count_if (eqb k) x.1.free ≡ count_if (eqb k) fs)) (allocate r (record { gens = gs; free = fs }))
  unfolding allocate
  taken r gs [] = refused
  taken r gs (i ∷ is) = accepted (refl, λ k. refl)

  -- a slot is taken
  pub table-takes : (r : Refusal) → All (λ (x : ℕ × Pool). (y : A) → Table n (set l x.0 (some y)) x.1) (allocate r p)
  table-takes r = weaken (both (allocate-free l n p t.size t.pool r) (taken r p.gens p.free)) (λ (i, q) ((low, vacant), (g, c)) y. record {
    size = length-set l i (some y) ∙ t.size;
    pool = record {
      gens_length = ap length g ∙ t.pool.gens_length;
      gens_words = subst (Each Word) (sym g) t.pool.gens_words;
      once = λ k. elim (ℕ_discrete k i) [
        | yes m ↦ rw m (omega (arith, t.pool.once i, c i, use-here l i low (some y), ap (λ (z : Option A). one_if (is_some z)) vacant, ap one_if (eq-eqb i i refl)))
        | no m ↦ omega (arith, t.pool.once k, c k, use-there l i low (some y) k m, ap one_if (ne_eqb k i m))
      ];
    };
  })

  -- a slot in use is freed
  pub table-frees : (i : ℕ) (x : A) → In l i x → i < length l → All (λ q. Table n (set l i none) q) (free i p)
  table-frees i x e low = weaken (answer (free-moves (record { slot = i; start = 0; end = 0; counts = no_counts }) p)) (λ q m. record {
    size = length-set l i none ∙ t.size;
    pool = record {
      gens_length = m.gens_length ∙ t.pool.gens_length;
      gens_words = m.gens_words t.pool.gens_words;
      once = λ k. elim (ℕ_discrete k i) [
        | yes v ↦ rw v (omega (arith, t.pool.once i, m.slots i, use-here l i low none, ap (λ (z : Option A). one_if (is_some z)) e, ap one_if (eq-eqb i i refl)))
        | no v ↦ omega (arith, t.pool.once k, m.slots k, use-there l i low none k v, ap one_if (ne_eqb k i v))
      ];
    };
  })
