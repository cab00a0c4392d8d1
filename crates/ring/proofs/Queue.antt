-- A ring as a queue: its first place and its entries, the oldest first. Push and pop are those of the queue.
use Rattle.std.specs.Prelude.{ℕ, zero, suc, ◌+◌, ◌-◌, ◌%◌, ◌<◌, ◌≤◌, ◌≡◌, refl, ◌≢◌, true, false, List, [], ◌∷◌, ◌++◌, length, get_or, set, Some, None}
use Rattle.std.proofs.Common.{sym, ap, ◌∙◌, mod-lt, mod-eq_of_lt, arith, lt-ltb, eq-eqb, ne_eqb, length-set, length-append, get_or-set_same, get_or-set_other}
use Rattle.std.proofs.Math.Decide.{ℕ_discrete}
use Rattle.std.proofs.Math.Nat.{mod-add-mod, add-mod_right}
use Rattle.std.proofs.Math.ListN.{get_or-eq_default}
use Rattle.base.specs.Rounds.{along-at, next-along, next_last}
use Rattle.ring.specs.declared.Entry.{Entry}
use Rattle.ring.specs.declared.Ring.{Ring}
use Rattle.ring.specs.Ring.{cap, no_entry, after_of, room_b, put_in, push_of, some_b, take_out, pop_of}
use Rattle.ring.specs.Turns.{after_is, away, turn-none, turn-there}

-- place k has the entry that is as far on in the queue as k is from the first place; every other place is nothing
pub record Queues (r : Ring) (first : ℕ) (items : List Entry) : Type 0 where
  pub inside : first < r.size
  pub high : r.size ≤ cap
  pub long : length r.places ≡ cap
  pub few : length items < r.size
  pub read : r.read ≡ first
  pub write : r.write ≡ (first + length items) % r.size
  pub place : (k : ℕ) → k < r.size → get_or r.places k no_entry ≡ get_or items ((k + r.size - first) % r.size) no_entry
  pub past : (k : ℕ) → r.size ≤ k → get_or r.places k no_entry ≡ no_entry

-- ---- one more at the end

get_or-end : (l : List Entry) (u : Entry) → get_or (l ++ (u ∷ [])) (length l) no_entry ≡ u
get_or-end [] u = refl
get_or-end (x ∷ l) u = get_or-end l u

get_or-not-end : (l : List Entry) (u : Entry) (j : ℕ) → j ≢ length l → get_or (l ++ (u ∷ [])) j no_entry ≡ get_or l j no_entry
get_or-not-end [] u zero h = absurd (h refl)
get_or-not-end [] u (suc j) h = refl
get_or-not-end (x ∷ l) u zero h = refl
get_or-not-end (x ∷ l) u (suc j) h = get_or-not-end l u j (λ e. h (ap suc e))

module _ (r : Ring) (f : ℕ) (items : List Entry) (q : Queues r f items) where
  write-inside : r.write < r.size
  write-inside = rw q.write (mod-lt (f + length items) {m = r.size} (omega (arith, q.inside)))

  after_write : after_of r.write r.size ≡ (f + (length items + 1)) % r.size
  after_write =
      let e : f + length items + 1 ≡ f + (length items + 1) = omega arith in
      after_is r.write r.size write-inside ∙ ap (λ (x : ℕ). (x + 1) % r.size) q.write ∙ mod-add-mod (f + length items) r.size 1 ∙ ap (λ (x : ℕ). x % r.size) e

  put-queues : (u : Entry) → length items + 1 < r.size → Queues (put_in r u) f (items ++ (u ∷ []))
  put-queues u h =
      let w = write-inside in
      let here : r.write < length r.places = omega (arith, q.high, q.long) in
      let back : (r.write + r.size - f) % r.size ≡ length items = rw q.write (along-at r.size f q.inside (length items) q.few) in
      let more : length (items ++ (u ∷ [])) ≡ length items + 1 = length-append items (u ∷ []) in
      record {
        inside = q.inside;
        high = q.high;
        long = simp length-set q.long;
        few = rw more h;
        read = q.read;
        write = rw more after_write;
        place = λ k hk.
            elim (ℕ_discrete k r.write) [
              | yes e ↦ rw (e, back) (get_or-set_same r.places r.write u no_entry here ∙ sym (get_or-end items u))
              | no d ↦ get_or-set_other r.places r.write k u no_entry d ∙ q.place k hk
                  ∙ sym (get_or-not-end items u ((k + r.size - f) % r.size) (λ e. d (turn-there r.size f q.inside k (length items) hk e ∙ sym q.write)))
            ];
        past = λ k hk. get_or-set_other r.places r.write k u no_entry (λ e. omega arith) ∙ q.past k hk;
      }

  room : length items + 1 < r.size → room_b r ≡ true
  room h =
      let d : after_of r.write r.size ≢ r.read = λ e. away r.size f q.inside (length items + 1) (omega arith) h (sym after_write ∙ e ∙ q.read) in
      rw (ne_eqb (after_of r.write r.size) r.read d, lt-ltb r.write cap (omega (arith, write-inside, q.high)))

  no_room : length items + 1 ≡ r.size → room_b r ≡ false
  no_room h =
      let e : after_of r.write r.size ≡ r.read = after_write ∙ ap (λ (x : ℕ). (f + x) % r.size) h ∙ add-mod_right f r.size ∙ mod-eq_of_lt q.inside ∙ sym q.read in
      rw (eq-eqb (after_of r.write r.size) r.read e)

  -- entry j in another form, in its place
  pub set-queues : (j : ℕ) (u : Entry) → j < length items
      → Queues (record { places = set r.places ((f + j) % r.size) u; read = r.read; write = r.write; size = r.size }) f (set items j u)
  set-queues j u h =
      let p = (f + j) % r.size in
      let w : p < r.size = mod-lt (f + j) {m = r.size} (omega (arith, q.inside)) in
      let here : p < length r.places = omega (arith, q.high, q.long) in
      let back : (p + r.size - f) % r.size ≡ j = along-at r.size f q.inside j (omega (arith, q.few)) in
      let same : length (set items j u) ≡ length items = length-set items j u in
      record {
        inside = q.inside;
        high = q.high;
        long = simp length-set q.long;
        few = rw same q.few;
        read = q.read;
        write = rw same q.write;
        place = λ k hk.
            elim (ℕ_discrete k p) [
              | yes e ↦ rw (e, back) (get_or-set_same r.places p u no_entry here ∙ sym (get_or-set_same items j u no_entry h))
              | no d ↦ get_or-set_other r.places p k u no_entry d ∙ q.place k hk
                  ∙ sym (get_or-set_other items j ((k + r.size - f) % r.size) u no_entry (λ e. d (turn-there r.size f q.inside k j hk e)))
            ];
        past = λ k hk. get_or-set_other r.places p k u no_entry (λ e. omega arith) ∙ q.past k hk;
      }

  -- an entry joins the end
  pub push-joins : (u : Entry) → length items + 1 < r.size → ((push_of r u).ok ≡ true) × Queues (push_of r u).ring f (items ++ (u ∷ []))
  unfolding push_of
  push-joins u h = rw (room h) (refl, put-queues u h)

  -- 14 where the ring holds as many as it can
  pub push-full : (u : Entry) → length items + 1 ≡ r.size → push_of r u ≡ record { ok = false; ring = r }
  unfolding push_of
  push-full u h = rw (no_room h)

-- "Pop of an empty ring answers none."
pub pop-empty : (r : Ring) (f : ℕ) → Queues r f [] → pop_of r ≡ record { item = None; ring = r }
unfolding pop_of
pop-empty r f q =
    let e : r.read ≡ r.write = q.read ∙ sym (q.write ∙ turn-none r.size f q.inside) in
    rw (eq-eqb r.read r.write e)

module _ (r : Ring) (f : ℕ) (u : Entry) (us : List Entry) (q : Queues r f (u ∷ us)) where
  held : some_b r ≡ true
  held =
      let d : r.read ≢ r.write = λ e. away r.size f q.inside (suc (length us)) (omega arith) q.few (sym q.write ∙ sym e ∙ q.read) in
      rw (ne_eqb r.read r.write d, lt-ltb r.read cap (omega (arith, q.inside, q.high, q.read)))

  oldest : get_or r.places r.read no_entry ≡ u
  oldest =
      let e : (f + r.size - f) % r.size ≡ 0 = rw (turn-none r.size f q.inside) at (along-at r.size f q.inside 0 (omega (arith, q.inside))) in
      rw q.read (q.place f q.inside ∙ rw e)

  take-queues : Queues (take_out r) ((f + 1) % r.size) us
  take-queues =
      let next : f + suc (length us) ≡ f + 1 + length us = omega arith in
      let here : f < length r.places = omega (arith, q.inside, q.high, q.long) in
      record {
        inside = mod-lt (f + 1) {m = r.size} (omega (arith, q.inside));
        high = q.high;
        long = simp length-set q.long;
        few = omega (arith, q.few);
        read = after_is r.read r.size (omega (arith, q.inside, q.read)) ∙ ap (λ (x : ℕ). (x + 1) % r.size) q.read;
        write = q.write ∙ ap (λ (x : ℕ). x % r.size) next ∙ sym (mod-add-mod (f + 1) r.size (length us));
        place = λ k hk.
            elim (ℕ_discrete k f) [
              | yes e ↦ rw (e, q.read, next_last r.size f q.inside) (get_or-set_same r.places f no_entry no_entry here ∙ sym (get_or-eq_default us no_entry {n = r.size - 1} (omega (arith, q.few))))
              | no d ↦ rw q.read (get_or-set_other r.places f k no_entry no_entry d ∙ q.place k hk ∙ ap (λ (x : ℕ). get_or (u ∷ us) x no_entry) (next-along r.size f q.inside k hk d))
            ];
        past = λ k hk. get_or-set_other r.places r.read k no_entry no_entry (λ e. omega (arith, q.inside, q.read)) ∙ q.past k hk;
      }

  -- the oldest entry leaves
  pub pop-takes : ((pop_of r).item ≡ Some u) × Queues (pop_of r).ring ((f + 1) % r.size) us
  unfolding pop_of
  pop-takes = rw held (ap (λ (x : Entry). Some x) oldest, take-queues)
