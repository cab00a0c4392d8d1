-- A pool read from its words, and a table of slots in use: link 0 is a slot in use, and the free stack is walked for as many steps as slots are free.
use Rattle.std.specs.Prelude.{◌≡◌, refl, ℕ, ◌-◌, ◌<◌, true, false, List, eqb, length, get_or, if◌then◌else◌}
use Rattle.std.proofs.Common.{sym, ◌∙◌, arith, lt-ltb, eq-eqb, ne_eqb}
use Rattle.std.proofs.Math.Path.{ap}
use Rattle.std.proofs.Math.Option.{Option, none, some}
use Rattle.base.specs.Lists.{get_d_any}
use Rattle.model.specs.Lists.{one_if, count_if, is_some, at_slot, In, first_of, after_in}
use Rattle.model.specs.State.{Pool}
use Rattle.model.specs.Layout.{slot_or0, free_link}
use Rattle.model.specs.Sound.{OnceEach, slot_uses}
use Rattle.laws.specs.Stack.{link-out, once-at-most, link-in}
use Rattle.decoded.specs.Rows.{get_or-up}
use Rattle.decoded.specs.Free.{free-fits, free-below}
use Rattle.decoded.specs.Tables.{pool_of}
use Rattle.decoded.specs.Decode.Read.{stack_from, after_free, free_from, pool_from, taken, table_from}
use Rattle.decoded.specs.Decode.Walks.{Stacked, stack-walked, stacked-after, map-up}

module _ (n : ℕ) (used : ℕ → ℕ) (p : Pool) (h : OnceEach n used p.free) where
  links-read : (i : ℕ) → i < n → get_or (pool_of n p).links i 0 ≡ free_link p.free i
  unfolding pool_of
  links-read i b = get_or-up (free_link p.free) n i 0 b

  next : (i : ℕ) → 0 < count_if (eqb i) p.free → after_free (pool_of n p).links i ≡ slot_or0 (after_in p.free i)
  next i o = omega (arith, links-read i (free-below n used p.free h i o), link-in p.free i o)

  -- the links spell out the free stack
  pub pool-stacked : Stacked (after_free (pool_of n p).links) p.free
  pool-stacked = stacked-after (after_free (pool_of n p).links) p.free (λ i. omega (arith, once-at-most n used p.free h i)) next

  pub steps : n - (n - length p.free) ≡ length p.free
  steps = omega (arith, free-fits n used p.free h)

  pub free-read : free_from n (pool_of n p) ≡ p.free
  unfolding pool_of
  free-read = ap (λ k. stack_from (after_free (pool_of n p).links) k (slot_or0 (first_of p.free))) steps ∙ stack-walked (after_free (pool_of n p).links) p.free pool-stacked

  pub pool-read : pool_from n (pool_of n p) ≡ p
  unfolding pool_from pool_of
  pool-read = λ i. record { gens = p.gens; free = free-read i }

  pub taken-used : (i : ℕ) → i < n → used i ≡ 1 → taken (pool_of n p) i ≡ true
  taken-used i b u = eq-eqb (get_or (pool_of n p).links i 0) 0 (links-read i b ∙ link-out p.free i (omega (arith, once-at-most n used p.free h i)))

  pub taken_free : (i : ℕ) → i < n → used i ≡ 0 → taken (pool_of n p) i ≡ false
  taken_free i b u =
      let c : 0 < count_if (eqb i) p.free = omega (arith, h i, ap one_if (lt-ltb i n b)) in
      ne_eqb (get_or (pool_of n p).links i 0) 0 (λ e. omega (arith, e, links-read i b, link-in p.free i c))

-- ---- tables

module _ {A : Type 0} (l : List (Option A)) (n : ℕ) (long : length l ≡ n) (p : Pool) (h : OnceEach n (slot_uses l) p.free) where
  pub table-read : (f : ℕ → A) → ((i : ℕ) (x : A) → In l i x → f i ≡ x) → table_from n (pool_of n p) f ≡ l
  table-read f e =
      ap (λ k. table_from k (pool_of n p) f) (sym long)
      ∙ map-up (λ i. if taken (pool_of n p) i then some (f i) else none) l (λ i b d. at i b (at_slot l i) refl ∙ get_d_any l i none d b)
    where
      at : (i : ℕ) → i < length l → (o : Option A) → at_slot l i ≡ o → (if taken (pool_of n p) i then some (f i) else none) ≡ at_slot l i
      at i b none q = rw (taken_free n (slot_uses l) p h i (omega arith) (ap (λ o. one_if (is_some o)) q)) (sym q)
      at i b (some x) q = rw (taken-used n (slot_uses l) p h i (omega arith) (ap (λ o. one_if (is_some o)) q)) (ap some (e i x q) ∙ sym q)
