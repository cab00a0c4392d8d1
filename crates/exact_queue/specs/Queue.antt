-- The ring's test is exact: tables pass it exactly where the clauses about the ring hold.
use Rattle.std.specs.Prelude.{◌≡◌, refl, ◌↔◌, ℕ, ◌+◌, ◌-◌, ◌%◌, ◌≤◌, ◌<◌, Bool, true, false, map, ltb}
use Rattle.std.proofs.Common.{sym, ◌∙◌, arith, mod-lt}
use Rattle.std.proofs.Math.Path.{ap, subst}
use Rattle.std.proofs.Math.Bool.{not}
use Rattle.arena.specs.Arena.{live_b, older_b}
use Rattle.std.proofs.Math.Decide.{ℕ_discrete}
use borrow.Author.Tests.{ltb-true, not-true, lt-ltb, le-ltb, eq-eqb, ne_eqb}
use Rattle.base.specs.Cases.{pick, lt, ge, cmp, holds, fails, test}
use Rattle.base.specs.Tests.{both, both_true, is_true, true-is, both-i, all-at, at_all, true-false}
use Rattle.base.specs.Rounds.{along-at}
use Rattle.model.specs.Lists.{count_up}
use Rattle.model.specs.State as state
use Rattle.model.specs.State.{permission}
use Rattle.model.specs.Updates.{is_permission_of}
use Rattle.model.specs.Sound.{QueueSound, QueuedFit, UpdateWords}
use Rattle.tables.specs.declared.Update.{Update}
use Rattle.tables.specs.Tables.{Tables, no_update, update_at, mark_at}
use Rattle.decoded.specs.Rows.{map-up-length}
use Rattle.decoded.specs.Shape.{Shaped}
use Rattle.decoded.specs.Decode.Read.{pool_from, domain_read, domains_from, update_from, queue_from, state_of}
use Rattle.decoded.specs.Decode.Places.{along, items-are}
use Rattle.decoded.specs.Canonical.WellFormed.{QueueWellFormed, UpdateWellFormed, place, place_mark, behind}
use Rattle.decoded.specs.Canonical.Ring.{along-back}
use Rattle.decoded.specs.Canonical.Sound.{queue-walked}
use Rattle.sound_updates.specs.Updates.{clear_b, well_formed_b, handle_at, fits_in, update_fits, marks_fit, same_domain}
use Rattle.sound_queue.specs.Ring.{all_in, numbered, mark_numbered, numbers_hold, none_same, singly, queue_holds}
use Rattle.exact_capas.specs.Reads.{fit-in, fit-out}
use Rattle.exact_queue.specs.Clauses.{Stored, QueueClauses}
use Rattle.exact_queue.specs.Fits.{zero_is, fit_small, fit_none, marks-fit, well-formed-is, is-cleanup, is-well-formed, is_same, same-is}
use Rattle.exact_queue.specs.Updates.{each-up, up-each, apart-singly, singly-apart, permission-read, cleanup-read, permission-is, names-is, is-names}

-- ---- tests by number

in-true : (p : ℕ → Bool) (i e : ℕ) → all_in p i e ≡ true → (j : ℕ) → i ≤ j → j < e → p j ≡ true
in-true p i e h j a b = all-at p i (e - i) h j a (omega arith)

true-in : (p : ℕ → Bool) (i e : ℕ) → ((j : ℕ) → i ≤ j → j < e → p j ≡ true) → all_in p i e ≡ true
true-in p i e h = at_all p i (e - i) (λ j a b. h j a (omega arith))

-- where the first does not hold, the second does
otherwise : (b c : Bool) → pick b true c ≡ true → b ≡ false → c ≡ true
otherwise b c h e = rw e at h

either : (b c : Bool) → (b ≡ false → c ≡ true) → pick b true c ≡ true
either true c h = refl
either false c h = h refl

module _ (v : Tables) (s : Shaped v) where
  abbrev n : ℕ
  n = v.sizes.updates + 1

  abbrev D : ℕ
  D = v.sizes.domains

  abbrev Fit : Update → ℕ → Type 0
  Fit u x = QueuedFit (pool_from D v.domain_pool) (domains_from v) (update_from u x)

  fit_is : (u : Update) (x : ℕ) → fits_in v u ≡ true → Fit u x
  unfolding domains_from
  fit_is u x h = elim (ℕ_discrete u.kind 1) [
    | yes e ↦ subst (QueuedFit (pool_from D v.domain_pool) (domains_from v)) (sym (permission-read u x e)) (fit-in D v.domain_pool s.domain_pool (domain_read v) (handle_at u) (otherwise (live_b v.domain_pool (handle_at u)) (older_b v.domain_pool (handle_at u)) (rw (eq-eqb u.kind 1 e) at h)))
    | no ne ↦ subst (QueuedFit (pool_from D v.domain_pool) (domains_from v)) (sym (cleanup-read u x ne)) tt
  ]

  is-fit : (u : Update) (x : ℕ) → Fit u x → fits_in v u ≡ true
  unfolding domains_from
  is-fit u x q = elim (ℕ_discrete u.kind 1) [
    | yes e ↦
        let y = subst (QueuedFit (pool_from D v.domain_pool) (domains_from v)) (permission-read u x e) q in
        rw (eq-eqb u.kind 1 e) (either (live_b v.domain_pool (handle_at u)) (older_b v.domain_pool (handle_at u)) (fit-out D v.domain_pool s.domain_pool (domain_read v) (handle_at u) y))
    | no ne ↦ rw (ne_eqb u.kind 1 ne)
  ]

  -- ---- places

  module _ (hr : v.read < n) (hw : v.write < n) where
    abbrev m : ℕ
    m = along n v.read v.write

    abbrev spot : ℕ → ℕ
    spot j = (v.read + j) % n

    abbrev item : ℕ → state.Update
    item j = update_from (place v (spot j)) (place_mark v (spot j))

    -- what the test asks of number j
    abbrev number_fits : ℕ → Bool
    number_fits j = both (update_fits v (place v (spot j)) (ltb j m)) (marks_fit (place v (spot j)) (place_mark v (spot j)))

    some-places : m < n
    some-places = mod-lt (v.write + n - v.read) {m = n} (omega arith)

    spot-below : (j : ℕ) → spot j < n
    spot-below j = mod-lt (v.read + j) {m = n} (omega arith)

    spot-along : (j : ℕ) → j < n → behind v (spot j) ≡ j
    spot-along j b = along-at n v.read hr j b

    spot_back : (k : ℕ) → k < n → spot (behind v k) ≡ k
    spot_back k b = along-back n v.read k hr b

    items : (state_of v).queue ≡ record { read_place = v.read; items = map item (count_up 0 m) }
    unfolding state_of queue_from
    items = let e = items-are n v.read v.write hr hw v.ring v.marks in λ i. record { read_place = v.read; items = e i }

    -- ---- tables that pass

    module _ (w : Stored v) (each : numbers_hold v n v.read m ≡ true) (once : singly v n v.read m ≡ true) where
      number_fits_lem : (j : ℕ) → j < n → (update_fits v (place v (spot j)) (ltb j m) ≡ true) × (marks_fit (place v (spot j)) (place_mark v (spot j)) ≡ true)
      unfolding numbers_hold numbered mark_numbered update_at mark_at
      number_fits_lem j b = both_true _ _ (in-true number_fits 0 n each j (omega arith) b)

      queued-fits : (j : ℕ) → j < m → UpdateWellFormed (place v (spot j)) (place_mark v (spot j)) × Fit (place v (spot j)) (place_mark v (spot j))
      unfolding update_fits
      queued-fits j b =
          let u = place v (spot j) in
          let f = number_fits_lem j (omega (arith, some-places)) in
          let p = both_true (well_formed_b u) (fits_in v u) (rw (lt-ltb j m b) at f.0) in
          (well-formed-is u (place_mark v (spot j)) p.0 f.1, fit_is u (place_mark v (spot j)) p.1)

      clear-fits : (j : ℕ) → j < n → m ≤ j → (place v (spot j) ≡ no_update) × (place_mark v (spot j) ≡ 0)
      unfolding update_fits
      clear-fits j b q =
          let f = number_fits_lem j b in
          let e = zero_is (place v (spot j)) (rw (le-ltb j m q) at f.0) in
          let k = ap (λ (u : Update). u.kind) e in
          (e, fit_none (place v (spot j)) (place_mark v (spot j)) f.1 (λ z. omega arith))

      differ : (i j : ℕ) → i < j → j < m → same_domain (place v (spot i)) (place v (spot j)) ≡ false
      unfolding singly none_same numbered update_at
      differ i j a b =
          let e = in-true (λ j. none_same v n v.read m (place v (spot j)) (j + 1)) 0 m once i (omega arith) (omega arith) in
          not-true _ (in-true (λ j. not (same_domain (place v (spot i)) (place v (spot j)))) (i + 1) m e j (omega arith) b)

      apart : (i j : ℕ) → i < j → j < m → (h : state.Handle) (c x : ℕ) → item i ≡ permission h c x → is_permission_of h (item j) ≡ false
      apart i j a b h c x e = elim (test (is_permission_of h (item j))) [
        | fails t ↦ t
        | holds t ↦
            let y = permission-is (place v (spot i)) (place_mark v (spot i)) h c x e in
            let z = names-is (place v (spot j)) (place_mark v (spot j)) h t in
            absurd (true-false (is_same (place v (spot i)) (place v (spot j)) (record { one = y.0; other = z.0; slot = y.1 ∙ z.1; generation = y.2 ∙ z.2 })) (differ i j a b))
      ]

      words-at : (j : ℕ) → j < n → UpdateWords (item j)
      words-at j h =
          let k = spot j in
          let b = spot-below j in
          elim (ℕ_discrete (place v k).kind 1) [
            | yes e ↦ subst UpdateWords (sym (permission-read (place v k) (place_mark v k) e)) (w.first k b, w.second k b, w.third k b, fit_small (place v k) (place_mark v k) (number_fits_lem j h).1 e)
            | no ne ↦ subst UpdateWords (sym (cleanup-read (place v k) (place_mark v k) ne)) (w.first k b, w.second k b)
          ]

      sound : QueueSound v.sizes.updates (pool_from D v.domain_pool) (domains_from v) (record { read_place = v.read; items = map item (count_up 0 m) })
      sound = record {
        read_place = hr;
        fits = omega (arith, map-up-length item m, some-places);
        handles_fit = each-up (QueuedFit (pool_from D v.domain_pool) (domains_from v)) item 0 m (λ j a b. (queued-fits j (omega arith)).1);
        singly = apart-singly item 0 m (λ i j a b d h c x. apart i j b (omega arith) h c x);
        queued_words = each-up UpdateWords item 0 m (λ j a b. words-at j (omega (arith, some-places)));
      }

      clauses : QueueClauses v
      unfolding state_of
      clauses = record {
        queue = subst (QueueSound v.sizes.updates (pool_from D v.domain_pool) (domains_from v)) (sym items) sound;
        well_formed = record {
          queued = λ k b q. subst (λ x. UpdateWellFormed (place v x) (place_mark v x)) (spot_back k b) (queued-fits (behind v k) q).0;
          unqueued = λ k b q. subst (λ x. (place v x ≡ no_update) × (place_mark v x ≡ 0)) (spot_back k b) (clear-fits (behind v k) (mod-lt (k + n - v.read) {m = n} (omega arith)) q);
        };
      }

    -- ---- sound tables

    module _ (t : QueueWellFormed v) (q : QueueSound v.sizes.updates (pool_from D v.domain_pool) (domains_from v) (record { read_place = v.read; items = map item (count_up 0 m) })) where
      -- what is queued as number j, and what stands where nothing is
      queued : (j : ℕ) → j < m → UpdateWellFormed (place v (spot j)) (place_mark v (spot j))
      queued j b = t.queued (spot j) (spot-below j) (omega (arith, some-places, spot-along j (omega (arith, some-places))))

      unqueued : (j : ℕ) → j < n → m ≤ j → (place v (spot j) ≡ no_update) × (place_mark v (spot j) ≡ 0)
      unqueued j b o = t.unqueued (spot j) (spot-below j) (omega (arith, spot-along j b))

      fits-number : (j : ℕ) → j < n → update_fits v (place v (spot j)) (ltb j m) ≡ true
      unfolding update_fits
      fits-number j b =
          let u = place v (spot j) in
          let x = place_mark v (spot j) in
          elim (cmp j m) [
            | lt o ↦ rw (lt-ltb j m o) (both-i (well_formed_b u) (fits_in v u) (is-well-formed u x (queued j o)) (is-fit u x (up-each (QueuedFit (pool_from D v.domain_pool) (domains_from v)) item 0 m q.handles_fit j (omega arith) (omega arith))))
            | ge o ↦ rw (le-ltb j m o) (ap clear_b (unqueued j b o).0)
          ]

      fits-marks : (j : ℕ) → j < n → marks_fit (place v (spot j)) (place_mark v (spot j)) ≡ true
      fits-marks j b =
          let u = place v (spot j) in
          let x = place_mark v (spot j) in
          elim (cmp j m) [
            | lt o ↦
                let w = up-each UpdateWords item 0 m q.queued_words j (omega arith) (omega arith) in
                marks-fit u x (λ e. (subst UpdateWords (permission-read u x e) w).3) (λ ne. (queued j o).cleanup_marks (is-cleanup u x (queued j o) ne))
            | ge o ↦
                let k = ap (λ (y : Update). y.kind) (unqueued j b o).0 in
                marks-fit u x (λ e. absurd (omega arith)) (λ ne. (unqueued j b o).1)
          ]

      each_holds : numbers_hold v n v.read m ≡ true
      unfolding numbers_hold numbered mark_numbered update_at mark_at
      each_holds = true-in number_fits 0 n (λ j a b. both-i _ _ (fits-number j b) (fits-marks j b))

      differs : (i j : ℕ) → i < j → j < m → same_domain (place v (spot i)) (place v (spot j)) ≡ false
      differs i j a b =
          let u = place v (spot i) in
          let x = place v (spot j) in
          elim (test (same_domain u x)) [
            | fails f ↦ f
            | holds f ↦
                let e = same-is u x f in
                let h : state.Handle = record { slot = u.a; generation = u.b } in
                absurd (singly-apart item 0 m q.singly i j (omega arith) a (omega arith) h u.c (place_mark v (spot i)) (permission-read u (place_mark v (spot i)) e.one) (is-names x (place_mark v (spot j)) h e.other e.slot e.generation))
          ]

      once-holds : singly v n v.read m ≡ true
      unfolding singly none_same numbered update_at
      once-holds = true-in (λ j. none_same v n v.read m (place v (spot j)) (j + 1)) 0 m (λ i a b. true-in (λ j. not (same_domain (place v (spot i)) (place v (spot j)))) (i + 1) m (λ j c d. ap not (differs i j (omega arith) d)))

-- ---- both ways

-- tables that pass the ring's test
passed-clauses : (v : Tables) → Shaped v → Stored v → queue_holds v ≡ true → QueueClauses v
unfolding queue_holds
passed-clauses v s w h =
    let k = v.sizes.updates + 1 in
    let o = along k v.read v.write in
    let p = both_true (both (ltb v.read k) (ltb v.write k)) (both (numbers_hold v k v.read o) (singly v k v.read o)) h in
    let q = both_true (ltb v.read k) (ltb v.write k) p.0 in
    let r = both_true (numbers_hold v k v.read o) (singly v k v.read o) p.1 in
    clauses v s (ltb-true _ _ q.0) (ltb-true _ _ q.1) w r.0 r.1

-- tables with the clauses pass it
pub clauses-pass : (v : Tables) → Shaped v → QueueWellFormed v → QueueSound v.sizes.updates (state_of v).domain_pool (state_of v).domains (state_of v).queue → queue_holds v ≡ true
unfolding queue_holds state_of
clauses-pass v s t h =
    let w = queue-walked v h in
    let k = v.sizes.updates + 1 in
    let o = along k v.read v.write in
    let q = subst (QueueSound v.sizes.updates (pool_from v.sizes.domains v.domain_pool) (domains_from v)) (items v s w.read w.write) h in
    both-i (both (ltb v.read k) (ltb v.write k)) (both (numbers_hold v k v.read o) (singly v k v.read o)) (both-i (ltb v.read k) (ltb v.write k) (lt-ltb _ _ w.read) (lt-ltb _ _ w.write))
    (both-i (numbers_hold v k v.read o) (singly v k v.read o) (each_holds v s w.read w.write t q) (once-holds v s w.read w.write t q))

pub ring-exact : (v : Tables) → Shaped v → Stored v → (queue_holds v ≡ true) ↔ QueueClauses v
ring-exact v s w = (passed-clauses v s w, λ c. clauses-pass v s c.well_formed c.queue)
