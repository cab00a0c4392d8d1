-- What the tests read of a pool and what the model says of its handles.
use Rattle.std.specs.Prelude.{◌≡◌, ℕ, ◌≤◌, ◌<◌, true, false, eqb, ltb, length, get_or, if◌then◌else◌}
use Rattle.std.proofs.Math.Option.{some, none}
use Rattle.std.proofs.Common.{arith}
use borrow.Author.Tests.{ltb-true, eqb-true, lt-ltb, le-ltb, eq-eqb}
use Rattle.std.proofs.Math.ListN.{get_or-eq_default}
use Rattle.base.specs.Cases.{lt, ge, cmp, holds, fails, test}
use Rattle.base.specs.Tests.{both, both_true, is_true, true-is}
use Rattle.model.specs.Lists.{at_slot}
use Rattle.model.specs.Pool.{is_live}
use Rattle.model.specs.Sound.{LiveOrOlder}
use Rattle.tables.specs.declared.Handle.{Handle}
use Rattle.tables.specs.Tables.{Arena}
use Rattle.arena.specs.Arena.{live_b, older_b}
use Rattle.decoded.specs.Rows.{map-up-length}
use Rattle.decoded.specs.Shape.{PoolShaped}
use Rattle.decoded.specs.Decode.Read.{pool_from, taken, table_from, handle_from}
use Rattle.decoded.specs.Canonical.Pools.{table-used, table-free}
use Rattle.decoded.specs.Canonical.Pools.{table-used, table-free}

-- a live handle: its slot is in use, and has its generation
pub record Lives (n : ℕ) (a : Arena) (h : Handle) : Type 0 where
  pub below : h.slot < n
  pub used : taken a h.slot ≡ true
  pub same : get_or a.gens h.slot 0 ≡ h.generation

module _ (n : ℕ) (a : Arena) (s : PoolShaped n a) where
  pub lives : (h : Handle) → live_b a h ≡ true → Lives n a h
  unfolding live_b
  lives h t =
      let u = both_true (ltb h.slot (length a.links)) (both (eqb (get_or a.links h.slot 0) 0) (eqb (get_or a.gens h.slot 0) h.generation)) t in
      let w = both_true (eqb (get_or a.links h.slot 0) 0) (eqb (get_or a.gens h.slot 0) h.generation) u.1 in
      record { below = omega (arith, ltb-true h.slot (length a.links) u.0, s.links); used = w.0; same = eqb-true (get_or a.gens h.slot 0) h.generation w.1 }

  pub live_at : (h : Handle) → Lives n a h → live_b a h ≡ true
  unfolding live_b
  live_at h l = rw (lt-ltb h.slot (length a.links) (omega (arith, l.below, s.links)), l.used, eq-eqb (get_or a.gens h.slot 0) h.generation l.same)

  module _ {A : Type 0} (f : ℕ → A) where
    pub live-read : (h : Handle) → is_live (pool_from n a) (table_from n a f) (handle_from h) ≡ live_b a h
    unfolding pool_from live_b
    live-read h = elim (cmp h.slot n) [
      | ge b ↦ rw (beyond h.slot b, le-ltb h.slot (length a.links) (omega (arith, s.links)))
      | lt b ↦ elim (test (taken a h.slot)) [
        | holds t ↦ rw (table-used n a f h.slot b t, lt-ltb h.slot (length a.links) (omega (arith, s.links)), t)
        | fails t ↦ rw (table-free n a f h.slot b t, lt-ltb h.slot (length a.links) (omega (arith, s.links)), t)
      ]
    ]
      where
        beyond : (i : ℕ) → n ≤ i → at_slot (table_from n a f) i ≡ none
        beyond i b = get_or-eq_default (table_from n a f) none (omega (arith, map-up-length (λ i. if taken a i then some (f i) else none) n))

    -- live or older
    pub fit-in : (h : Handle) → (live_b a h ≡ false → older_b a h ≡ true) → LiveOrOlder (pool_from n a) (table_from n a f) (handle_from h)
    unfolding pool_from
    fit-in h o = elim (test (live_b a h)) [
      | holds t ↦ rw (live-read h, t) tt
      | fails t ↦ rw (live-read h, t) (true-is (o t))
    ]

    pub fit-out : (h : Handle) → LiveOrOlder (pool_from n a) (table_from n a f) (handle_from h) → live_b a h ≡ false → older_b a h ≡ true
    unfolding pool_from
    fit-out h x t = is_true (rw (live-read h, t) at x)
