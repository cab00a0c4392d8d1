-- A sound pool in its words: allocating and freeing a slot, the test of a handle and the room left are what the model says.
use Rattle.std.specs.Prelude.{◌≡◌, refl, Bool, true, false, not, eqb, ltb, Some, None, Ok, Err}
use Rattle.std.proofs.Common.{sym, subst, ◌∙◌}
use Rattle.std.proofs.Math.Path.{ap}
use Prim.Native.Nat.{ℕ, suc, ◌+◌, ◌-◌, ◌^◌, ◌≤◌, ◌<◌}
use Rattle.std.proofs.Math.Option.{Option}
use mathlib.Core.List.{List, [], ◌∷◌, map}
use native.Mathlib.Omega.{arith}
use Rattle.std.proofs.Math.ListN.{length, get_or, set}
use Rattle.model.specs.Lists.{one_if, is_some, count_if, at_slot, count_up, first_of}
use Rattle.model.specs.Outcome.{Outcome, ok, refuse, ◌>>◌, require}
use Rattle.refusals.specs.declared.Refusal.{Refusal}
use borrow.Author.Tests.{lt-ltb, le-ltb, eq-eqb, ne_eqb}
use Rattle.base.specs.Cases.{lt, ge, cmp, holds, fails, test, pick}
use Rattle.model.specs.State as state
use Rattle.model.specs.Pool.{allocate, free, handle_of, is_live}
use Rattle.model.specs.Layout.{slot_or0, free_link}
use Rattle.model.specs.Sound.{OnceEach, PoolSound, slot_uses}
use Rattle.laws.specs.Stack.{one, once-at-most, none-beyond, link-in, link-out}
use Rattle.laws.specs.Lists.{word_at}
use Rattle.laws.specs.Tree.Sum.{sum}
use Rattle.laws.specs.Tree.Slots.{count-sum}
use Rattle.tables.specs.declared.Handle.{Handle}
use Rattle.arena.specs.Arena.{Freed, Given, head_link, given, taken, pushed, allocated, held_b, raisable_b, answer_to, frees_b, freed, live_b, capacity_of}
use Rattle.refusals.specs.Refusals.{spent}
use Rattle.decoded.specs.Sizes.{and_both}
use Rattle.decoded.specs.Rows.{map-up-length, get_or-up, set-up}
use Rattle.decoded.specs.Links.{link-top, link-under}
use Rattle.decoded.specs.Free.{all_slots, free-fits, free-room, free-below, used-not-free}
use Rattle.decoded.specs.Tables.{handle_for, pool_of}

-- ---- what the model's outcomes are to the code

abbrev pub given_by : state.Pool → Outcome (ℕ × state.Pool) → Given
given_by p (ok x) = Some (handle_for (handle_of p x.0))
given_by p (refuse r) = None

abbrev pub answer_by : Outcome state.Pool → Freed
answer_by (ok q) = Ok tt
answer_by (refuse r) = Err spent

abbrev pub pool_freed : state.Pool → Outcome state.Pool → state.Pool
pool_freed p (ok q) = q
pool_freed p (refuse r) = p

-- ---- links

module _ (n : ℕ) (free : List ℕ) where
  links-many : length (map (free_link free) (count_up 0 n)) ≡ n
  links-many = map-up-length (free_link free) n

  link-of : (i : ℕ) → i < n → get_or (map (free_link free) (count_up 0 n)) i 0 ≡ free_link free i
  link-of i h = get_or-up (free_link free) n i 0 h

  -- slot i goes on the stack, and comes off it
  links-pushed : (i : ℕ) → i < n → set (map (free_link free) (count_up 0 n)) i (suc (slot_or0 (first_of free))) ≡ map (free_link (i ∷ free)) (count_up 0 n)
  links-pushed i h = set-up (free_link free) (free_link (i ∷ free)) n i _ h (link-top i free) (λ j ne k. link-under i j free ne)

  links-taken : (i : ℕ) → i < n → count_if (eqb i) free ≡ 0 → set (map (free_link (i ∷ free)) (count_up 0 n)) i 0 ≡ map (free_link free) (count_up 0 n)
  links-taken i h e = set-up (free_link (i ∷ free)) (free_link free) n i 0 h (link-out free i e) (λ j ne k. sym (link-under i j free ne))

-- ---- allocating

abbrev pub pool : List ℕ → List ℕ → state.Pool
pool gs l = record { gens = gs; free = l }

module _ (n : ℕ) (gs : List ℕ) where
  no-link : head_link (pool_of n (pool gs [])) ≡ 0
  unfolding head_link pool_of
  no-link = rw (links-many n [], le-ltb (n - 0) n (omega arith))

  pub given-none : given (pool_of n (pool gs [])) ≡ None
  unfolding given
  given-none = rw no-link

  module _ (used : ℕ → ℕ) (i : ℕ) (is : List ℕ) (h : PoolSound n used (pool gs (i ∷ is))) where
    first_below : i < n
    first_below = free-below n used (i ∷ is) h.once i (omega (arith, one i i refl))

    first-link : head_link (pool_of n (pool gs (i ∷ is))) ≡ suc (slot_or0 (first_of is))
    unfolding head_link pool_of
    first-link =
        let b = first_below in
        rw (links-many n (i ∷ is), lt-ltb (n - suc (length is)) n (omega arith)) (link-of n (i ∷ is) i b ∙ link-top i is)

    linked : ltb 0 (head_link (pool_of n (pool gs (i ∷ is)))) ≡ true
    linked = ap (ltb 0) first-link ∙ lt-ltb 0 (suc (slot_or0 (first_of is))) (omega arith)

    pub given-some : given (pool_of n (pool gs (i ∷ is))) ≡ Some (handle_for (handle_of (pool gs (i ∷ is)) i))
    unfolding given pool_of
    given-some = rw linked

    pub allocated-some : allocated (pool_of n (pool gs (i ∷ is))) ≡ pool_of n (pool gs is)
    unfolding allocated pool_of
    allocated-some =
        let a = pool_of n (pool gs (i ∷ is)) in
        let t : head_link a - 1 ≡ slot_or0 (first_of is) = omega (arith, first-link) in
        let c : n - suc (length is) + 1 ≡ n - length is = omega (arith, free-fits n used (i ∷ is) h.once) in
        let l = links-taken n is i first_below (omega (arith, once-at-most n used (i ∷ is) h.once i, one i i refl)) in
        let r : taken a ≡ pool_of n (pool gs is) = λ k. record { head = t k; count = c k; links = l k; gens = gs } in
        ap (λ (b : Bool). pick b (taken a) a) linked ∙ r

module _ (n : ℕ) (used : ℕ → ℕ) (r : Refusal) (gs : List ℕ) where
  given-from : (l : List ℕ) → PoolSound n used (pool gs l) → given (pool_of n (pool gs l)) ≡ given_by (pool gs l) (allocate r (pool gs l))
  unfolding allocate
  given-from [] h = given-none n gs
  given-from (i ∷ is) h = given-some n gs used i is h

-- ---- freeing

at_most : (g m : ℕ) → g ≤ m → ltb g m ≡ not (eqb g m)
at_most g m h = elim (cmp g m) [
  | lt l ↦ lt-ltb g m l ∙ sym (ap not (ne_eqb g m (λ e. omega arith)))
  | ge l ↦ le-ltb g m l ∙ sym (ap not (eq-eqb g m (omega arith)))
]

head-below : (n : ℕ) (used : ℕ → ℕ) (l : List ℕ) → OnceEach n used l → 0 < n → slot_or0 (first_of l) < n
head-below n used [] h p = p
head-below n used (i ∷ l) h p = free-below n used (i ∷ l) h i (omega (arith, one i i refl))

module _ (n : ℕ) (used : ℕ → ℕ) (p : state.Pool) (h : PoolSound n used p) where
  -- the model's answer, whatever the refusal
  pub given_is : (r : Refusal) → given (pool_of n p) ≡ given_by p (allocate r p)
  given_is r = given-from n used r p.gens p.free h

  -- slot i is given next
  module _ (i : ℕ) (is : List ℕ) (e : p.free ≡ i ∷ is) where
    as-stack : p ≡ pool p.gens (i ∷ is)
    as-stack = λ t. record { gens = p.gens; free = e t }

    pub given-first : given (pool_of n p) ≡ Some (handle_for (handle_of p i))
    given-first = ap (λ q. given (pool_of n q)) as-stack ∙ given-some n p.gens used i is (subst (PoolSound n used) as-stack h)

    pub allocated-first : allocated (pool_of n p) ≡ pool_of n (record { gens = p.gens; free = is })
    allocated-first = ap (λ q. allocated (pool_of n q)) as-stack ∙ allocated-some n p.gens used i is (subst (PoolSound n used) as-stack h)

    on_stack : 0 < count_if (eqb i) p.free
    on_stack = omega (arith, ap (count_if (eqb i)) e, one i i refl)

    pub first-inside : i < n
    first-inside = free-below n used p.free h.once i on_stack

    pub first-unused : used i ≡ 0
    first-unused = omega (arith, on_stack, once-at-most n used p.free h.once i)

  pub capacity-is : capacity_of (pool_of n p) ≡ length p.free
  unfolding capacity_of pool_of
  capacity-is = omega (arith, links-many n p.free, free-fits n used p.free h.once)

  -- slot i is in use
  module _ (i : ℕ) (l : i < n) (u : used i ≡ 1) where
    held : held_b (pool_of n p) i ≡ true
    unfolding held_b pool_of
    held =
        let c : 0 < n - length p.free = omega (arith, free-room n used p.free h.once i l u) in
        let z : free_link p.free i ≡ 0 = link-out p.free i (used-not-free n used p.free h.once i u) in
        rw (links-many n p.free, lt-ltb i n l, lt-ltb _ n (head-below n used p.free h.once (omega arith)), lt-ltb 0 _ c, link-of n p.free i l ∙ z)

    raisable : raisable_b (pool_of n p) i ≡ not (eqb (get_or p.gens i 0) (2 ^ 64 - 1))
    unfolding raisable_b pool_of
    raisable = at_most (get_or p.gens i 0) (2 ^ 64 - 1) (omega (arith, word_at p.gens i h.gens_words))

    pushed-is : pushed (pool_of n p) i ≡ pool_of n (record { gens = set p.gens i (suc (get_or p.gens i 0)); free = i ∷ p.free })
    unfolding pool_of
    pushed-is =
        let c : n - length p.free - 1 ≡ n - suc (length p.free) = omega arith in
        let g : get_or p.gens i 0 + 1 ≡ suc (get_or p.gens i 0) = omega arith in
        let f : slot_or0 (first_of p.free) + 1 ≡ suc (slot_or0 (first_of p.free)) = omega arith in
        let ls = ap (set (map (free_link p.free) (count_up 0 n)) i) f ∙ links-pushed n p.free i l in
        λ k. record { head = i; count = c k; links = ls k; gens = set p.gens i (g k) }

    pub answer-is : answer_to (pool_of n p) i ≡ answer_by (free i p)
    unfolding answer_to free require ◌>>◌
    answer-is = rw (held, raisable) (elim (test (eqb (get_or p.gens i 0) (2 ^ 64 - 1))) [ holds t ↦ rw t | fails t ↦ rw t ])

    pub frees-is : frees_b (pool_of n p) i ≡ not (eqb (get_or p.gens i 0) (2 ^ 64 - 1))
    unfolding frees_b
    frees-is = rw (held, raisable)

    pub freed-is : freed (pool_of n p) i ≡ pool_of n (pool_freed p (free i p))
    unfolding freed frees_b free require ◌>>◌
    freed-is = rw (held, raisable) (elim (test (eqb (get_or p.gens i 0) (2 ^ 64 - 1))) [ holds t ↦ rw t | fails t ↦ rw t pushed-is ])

-- ---- handles

abbrev pub handle_in : Handle → state.Handle
handle_in k = record { slot = k.slot; generation = k.generation }

none-used : (b : Bool) → one_if b ≡ 0 → b ≡ false
none-used true h = absurd (omega arith)
none-used false h = refl

-- a table with one slot for each of the pool's
module _ {A : Type 0} (n : ℕ) (table : List (Option A)) (p : state.Pool) (h : PoolSound n (slot_uses table) p) where
  -- a slot's link is 0 where it is in use
  link-used : (i : ℕ) → i < n → eqb (free_link p.free i) 0 ≡ is_some (at_slot table i)
  link-used i l = elim (test (is_some (at_slot table i))) [
    | holds t ↦ rw t (eq-eqb _ 0 (link-out p.free i (used-not-free n (slot_uses table) p.free h.once i (ap one_if t))))
    | fails t ↦
        let c : 0 < count_if (eqb i) p.free = omega (arith, h.once i, ap one_if t, ap one_if (lt-ltb i n l)) in
        rw t (ne_eqb (free_link p.free i) 0 (λ e. omega (arith, e, link-in p.free i c)))
  ]

  -- the pool counts the slots in use
  pub count-is : length table ≡ n → (pool_of n p).count ≡ count_if is_some table
  unfolding pool_of
  count-is long = omega (arith, all_slots n (slot_uses table) p.free h.once, count-sum is_some table, ap (sum (slot_uses table)) long)

  pub live-is : (k : Handle) → live_b (pool_of n p) k ≡ is_live p table (handle_in k)
  unfolding live_b pool_of
  live-is k = elim (cmp k.slot n) [
    | lt l ↦ rw (links-many n p.free, lt-ltb k.slot n l, link-of n p.free k.slot l, link-used k.slot l) (sym (and_both (is_some (at_slot table k.slot)) (eqb (get_or p.gens k.slot 0) k.generation)))
    | ge l ↦ rw (links-many n p.free, le-ltb k.slot n l, none-used (is_some (at_slot table k.slot)) (omega (arith, none-beyond n (slot_uses table) p.free h.once k.slot l)))
  ]
