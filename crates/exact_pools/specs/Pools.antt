-- The free stack of a pool, and that of a domain's list: the test of the stack and the clauses about it.
use Rattle.std.specs.Prelude.{◌≡◌, refl, ℕ, zero, suc, ◌+◌, ◌-◌, ◌≤◌, ◌<◌, Bool, true, false, not, map, eqb, ltb, length, get_or}
use Rattle.std.proofs.Common.{sym, ap, ◌∙◌, inl, inr, arith, lt-ltb, le-ltb, eq-eqb, ne_eqb}
use Rattle.std.proofs.Math.Option.{none}
use Rattle.std.proofs.lemmas.List.{length-map}
use Rattle.std.proofs.Math.ListN.{get_or-eq_default}
use Rattle.base.specs.Cases.{lt, ge, cmp, holds, fails, test}
use Rattle.base.specs.Tests.{both, true-false}
use Rattle.model.specs.Lists.{one_if, is_some, count_if, at_slot}
use Rattle.model.specs.Sound.{OnceEach, slot_uses}
use Rattle.laws.specs.Stack.{none-beyond}
use Rattle.tables.specs.declared.Handle.{Handle}
use Rattle.tables.specs.Tables.{Arena, Domain, no_slot}
use Rattle.decoded.specs.Rows.{map-up-length}
use Rattle.decoded.specs.Decode.Read.{after_free, free_from, taken, table_from, capa_from, held_in, after_slot, list_from}
use Rattle.decoded.specs.Canonical.WellFormed.{PoolWellFormed, Marked}
use Rattle.decoded.specs.Canonical.Pools.{taken-link, free-link, not_on, on, table-used, table-free}
use Rattle.decoded.specs.Canonical.Domains.{held-at}
use Rattle.list_links.specs.Walk.{link_to}
use Rattle.exact_pools.specs.Stacks.{StackGood, test_of, stack-good, good-stack}

-- a test that is both inside and something else
pub inside_of : (i n : ℕ) (b : Bool) → both (ltb i n) b ≡ true → (i < n) × (b ≡ true)
inside_of i n b h = elim (cmp i n) [
  | lt k ↦ (k, sym (ap (λ q. both q b) (lt-ltb i n k)) ∙ h)
  | ge k ↦ absurd (true-false h (ap (λ q. both q b) (le-ltb i n k)))
]

pub both_out : (i n : ℕ) (b : Bool) → n ≤ i → both (ltb i n) b ≡ false
both_out i n b h = ap (λ q. both q b) (le-ltb i n h)

pub both-in : (i n : ℕ) (b : Bool) → i < n → both (ltb i n) b ≡ b
both-in i n b h = ap (λ q. both q b) (lt-ltb i n h)

-- ---- a pool over n slots

module _ (n : ℕ) (a : Arena) where
  -- slot i is free
  abbrev pub free_b : ℕ → Bool
  free_b i = both (ltb i n) (ltb 0 (get_or a.links i 0))

  abbrev pub link_of : ℕ → ℕ
  link_of i = get_or a.links i 0

  pub free-taken : (i : ℕ) → i < n → free_b i ≡ not (taken a i)
  free-taken i b = elim (test (taken a i)) [
    | holds t ↦ both-in i n _ b ∙ le-ltb 0 (link_of i) (omega (arith, taken-link a i t)) ∙ sym (ap not t)
    | fails t ↦ both-in i n _ b ∙ lt-ltb 0 (link_of i) (free-link a i t) ∙ sym (ap not t)
  ]

  abbrev pub PoolGood : Type 0
  PoolGood = StackGood (after_free a.links) free_b n a.count a.head

  pub pool-good : test_of link_of free_b n a.count a.head ≡ true → PoolGood
  pool-good t = stack-good link_of (after_free a.links) free_b n a.count a.head (λ i h. (inside_of i n _ h).0) (λ i. elim (cmp 0 (link_of i)) [ lt k ↦ inl (omega arith) | ge k ↦ inr (omega arith) ]) t

  pub good-pool : 0 < n → PoolGood → test_of link_of free_b n a.count a.head ≡ true
  good-pool z g = good-stack link_of (after_free a.links) free_b n a.count a.head (λ i h. (inside_of i n _ h).0) z (λ i o b. positive i o) g
    where
      positive : (i : ℕ) → free_b i ≡ true → link_of i ≡ suc (after_free a.links i)
      positive i o = elim (cmp 0 (link_of i)) [
        | lt k ↦ omega arith
        | ge k ↦ absurd (true-false (inside_of i n _ o).1 (le-ltb 0 (link_of i) k))
      ]

  -- ---- the clauses from the stack

  module _ (g : PoolGood) where
    pub good-well-formed : PoolWellFormed n a
    good-well-formed = record { fits = g.fits; ends = g.ends }

    pub good-marked : Marked n a
    good-marked i b = elim (test (taken a i)) [
      | holds t ↦ t ∙ sym (not_on (free_from n a) i (g.once i ∙ ap one_if (free-taken i b ∙ ap not t)))
      | fails t ↦ t ∙ sym (on (free_from n a) i (omega (arith, g.once i, ap one_if (free-taken i b ∙ ap not t))))
    ]

    pub good-beyond : (i : ℕ) → n ≤ i → count_if (eqb i) (free_from n a) ≡ 0
    good-beyond i b = g.once i ∙ ap one_if (both_out i n _ b)

    pub good-used : (i : ℕ) → i < n → taken a i ≡ true → count_if (eqb i) (free_from n a) ≡ 0
    good-used i b t = g.once i ∙ ap one_if (free-taken i b ∙ ap not t)

    pub good-free : (i : ℕ) → i < n → taken a i ≡ false → count_if (eqb i) (free_from n a) ≡ 1
    good-free i b t = g.once i ∙ ap one_if (free-taken i b ∙ ap not t)

    pub good-once : {A : Type 0} (f : ℕ → A) → OnceEach n (slot_uses (table_from n a f)) (free_from n a)
    good-once f i = elim (cmp i n) [
      | lt b ↦ elim (test (taken a i)) [
        | holds t ↦ omega (arith, ap one_if (lt-ltb i n b), good-used i b t, ap (λ o. one_if (is_some o)) (table-used n a f i b t))
        | fails t ↦ omega (arith, ap one_if (lt-ltb i n b), good-free i b t, ap (λ o. one_if (is_some o)) (table-free n a f i b t))
      ]
      | ge b ↦ omega (arith, ap one_if (le-ltb i n b), good-beyond i b, ap (λ o. one_if (is_some o)) (get_or-eq_default (table_from n a f) none {n = i} (omega (arith, map-up-length (λ k. at_slot (table_from n a f) k) n, long))))
    ]
      where
        long : length (table_from n a f) ≡ n
        long = map-up-length _ n

  -- ---- the stack from the clauses

  pub marked-good : PoolWellFormed n a → Marked n a → ((i : ℕ) → count_if (eqb i) (free_from n a) ≤ 1) → ((i : ℕ) → n ≤ i → count_if (eqb i) (free_from n a) ≡ 0) → PoolGood
  marked-good t m o z = record { fits = t.fits; ends = t.ends; once = once }
    where
      once : (i : ℕ) → count_if (eqb i) (free_from n a) ≡ one_if (free_b i)
      once i = elim (cmp i n) [
        | ge b ↦ z i b ∙ sym (ap one_if (both_out i n _ b))
        | lt b ↦ elim (cmp 0 (count_if (eqb i) (free_from n a))) [
          | lt k ↦ omega (arith, o i, ap one_if (free-taken i b ∙ ap not (m i b ∙ on (free_from n a) i k)))
          | ge k ↦ omega (arith, ap one_if (free-taken i b ∙ ap not (m i b ∙ not_on (free_from n a) i (omega arith))))
        ]
      ]

  pub once-good : {A : Type 0} (f : ℕ → A) → PoolWellFormed n a → OnceEach n (slot_uses (table_from n a f)) (free_from n a) → PoolGood
  once-good f t h = record { fits = t.fits; ends = t.ends; once = once }
    where
      once : (i : ℕ) → count_if (eqb i) (free_from n a) ≡ one_if (free_b i)
      once i = elim (cmp i n) [
        | ge b ↦ omega (arith, none-beyond n (slot_uses (table_from n a f)) (free_from n a) h i b, ap one_if (both_out i n (ltb 0 (link_of i)) b))
        | lt b ↦ elim (test (taken a i)) [
          | holds t ↦ omega (arith, h i, ap one_if (lt-ltb i n b), ap one_if (free-taken i b ∙ ap not t), ap (λ o. one_if (is_some o)) (table-used n a f i b t))
          | fails t ↦ omega (arith, h i, ap one_if (lt-ltb i n b), ap one_if (free-taken i b ∙ ap not t), ap (λ o. one_if (is_some o)) (table-free n a f i b t))
        ]
      ]

-- ---- a domain's list of n slots

-- a slot is free where its kind is 1
kind-free : (k : ℕ) (h : Handle) → is_some (capa_from k h) ≡ not (eqb k 1)
kind-free zero h = sym (ap not (ne_eqb 0 1 (λ e. omega arith)))
kind-free (suc zero) h = sym (ap not (eq-eqb 1 1 refl))
kind-free (suc (suc zero)) h = sym (ap not (ne_eqb 2 1 (λ e. omega arith)))
kind-free (suc (suc (suc zero))) h = sym (ap not (ne_eqb 3 1 (λ e. omega arith)))
kind-free (suc (suc (suc (suc zero)))) h = sym (ap not (ne_eqb 4 1 (λ e. omega arith)))
kind-free (suc (suc (suc (suc (suc zero))))) h = sym (ap not (ne_eqb 5 1 (λ e. omega arith)))
kind-free (suc (suc (suc (suc (suc (suc k)))))) h = sym (ap not (ne_eqb (suc (suc (suc (suc (suc (suc k)))))) 1 (λ e. omega arith)))

module _ (n : ℕ) (x : Domain) (long : length x.slots ≡ n) where
  abbrev pub slot_free : ℕ → Bool
  slot_free j = both (ltb j n) (eqb (get_or x.slots j no_slot).kind 1)

  abbrev pub slot_link : ℕ → ℕ
  slot_link j = link_to n (get_or x.slots j no_slot).handle.slot

  abbrev pub ListGood : Type 0
  ListGood = StackGood (after_slot x.slots) slot_free n x.head.count x.head.head

  pub list-good : test_of slot_link slot_free n x.head.count x.head.head ≡ true → ListGood
  list-good t =
      stack-good slot_link (after_slot x.slots) slot_free n x.head.count x.head.head (λ j h. (inside_of j n _ h).0)
      (λ j. elim (test (ltb (after_slot x.slots j) n)) [ holds q ↦ inl (rw q) | fails q ↦ inr (rw q) ]) t

  pub good-list : 0 < n → ListGood → test_of slot_link slot_free n x.head.count x.head.head ≡ true
  good-list z g = good-stack slot_link (after_slot x.slots) slot_free n x.head.count x.head.head (λ j h. (inside_of j n _ h).0) z (λ j o b. rw (lt-ltb (after_slot x.slots j) n b)) g

  -- a slot in use
  held-used : (j : ℕ) → j < n → slot_uses (map held_in x.slots) j ≡ one_if (not (slot_free j))
  held-used j b = ap (λ o. one_if (is_some o)) (held-at x.slots j (omega arith)) ∙ ap one_if (kind-free (get_or x.slots j no_slot).kind (get_or x.slots j no_slot).handle ∙ ap not (sym (both-in j n _ b)))

  none-held : (j : ℕ) → n ≤ j → slot_uses (map held_in x.slots) j ≡ 0
  none-held j b = ap (λ o. one_if (is_some o)) (get_or-eq_default (map held_in x.slots) none {n = j} (omega (arith, length-map x.slots held_in)))

  not-one : (b : Bool) → one_if (not b) + one_if b ≡ 1
  not-one true = refl
  not-one false = refl

  pub list-once : ListGood → OnceEach n (slot_uses (list_from n x).held) (list_from n x).free
  list-once g j = elim (cmp j n) [
    | lt b ↦ omega (arith, held-used j b, g.once j, not-one (slot_free j), ap one_if (lt-ltb j n b))
    | ge b ↦ omega (arith, none-held j b, g.once j, ap one_if (both_out j n (eqb (get_or x.slots j no_slot).kind 1) b), ap one_if (le-ltb j n b))
  ]

  pub once-list : OnceEach n (slot_uses (list_from n x).held) (list_from n x).free → (j : ℕ) → count_if (eqb j) (list_from n x).free ≡ one_if (slot_free j)
  once-list h j = elim (cmp j n) [
    | lt b ↦ omega (arith, held-used j b, h j, not-one (slot_free j), ap one_if (lt-ltb j n b))
    | ge b ↦ omega (arith, none-held j b, h j, ap one_if (both_out j n (eqb (get_or x.slots j no_slot).kind 1) b), ap one_if (le-ltb j n b))
  ]
