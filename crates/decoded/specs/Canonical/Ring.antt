-- A well formed ring with its marks has the words of the queue that is read from it.
use Rattle.std.specs.Prelude.{◌≡◌, refl, ℕ, zero, suc, ◌+◌, ◌%◌, ◌≤◌, ◌<◌, length, get_or}
use Rattle.std.proofs.Common.{sym, ◌∙◌, arith, mod-eq_of_lt}
use Rattle.std.proofs.Math.Path.{ap}
use Rattle.std.proofs.Math.Option.{none, some}
use mathlib.Core.List.{List, map}
use Rattle.std.proofs.Math.Nat.{add-mod_right}
use Rattle.std.proofs.Math.ListN.{get_elem?}
use Rattle.base.specs.Cases.{lt, ge, cmp}
use Rattle.base.specs.Lists.{get_d_any}
use Rattle.base.specs.Rounds.{along-below, along-above}
use Rattle.model.specs.Lists.{count_up}
use Rattle.model.specs.State as state
use Rattle.model.specs.Layout.{at_place}
use Rattle.tables.specs.declared.Update.{Update}
use Rattle.tables.specs.Tables.{no_update}
use Rattle.decoded.specs.Rows.{map-up-length}
use Rattle.decoded.specs.Tables.{update_for, place_for, mark_for, ring_for, marks_for}
use Rattle.decoded.specs.Decode.Read.{update_from, queue_from}
use Rattle.decoded.specs.Decode.Walks.{map-up}
use Rattle.decoded.specs.Decode.Places.{along, items-are}
use Rattle.decoded.specs.Canonical.WellFormed.{UpdateWellFormed}
use Rattle.decoded.specs.Queue.Ring.{beyond}

-- as far behind place r as place w is: place w
pub along-back : (n r w : ℕ) → r < n → w < n → (r + along n r w) % n ≡ w
along-back n r w h k = elim (cmp w r) [
  | lt b ↦ let z : r + along n r w ≡ w + n = omega (arith, along-below n r h w b) in ap (λ x. x % n) z ∙ add-mod_right w n ∙ mod-eq_of_lt k
  | ge b ↦ let z : r + along n r w ≡ w = omega (arith, along-above n r h w b k) in ap (λ x. x % n) z ∙ mod-eq_of_lt k
]

pub elem-up : {A : Type 0} (f : ℕ → A) (k n j : ℕ) → j < n → get_elem? (map f (count_up k n)) j ≡ some (f (k + j))
elem-up f k zero j h = absurd (omega arith)
elem-up f k (suc n) zero h = let z : k ≡ k + 0 = omega arith in ap (λ i. some (f i)) z
elem-up f k (suc n) (suc j) h = let z : suc k + j ≡ k + suc j = omega arith in elem-up f (suc k) n j (omega arith) ∙ ap (λ i. some (f i)) z

update-go : (k a b c m : ℕ) → 1 ≤ k → k ≤ 2 → (k ≡ 2 → c ≡ 0) → update_for (some (update_from (record { kind = k; a = a; b = b; c = c }) m)) ≡ record { kind = k; a = a; b = b; c = c }
update-go zero a b c m l h z = absurd (omega arith)
update-go (suc zero) a b c m l h z = refl
update-go (suc (suc zero)) a b c m l h z = let p = z refl in λ i. record { kind = 2; a = a; b = b; c = sym p i }
update-go (suc (suc (suc k))) a b c m l h z = absurd (omega arith)

update-kept : (u : Update) (m : ℕ) → UpdateWellFormed u m → update_for (some (update_from u m)) ≡ u
update-kept u m t = update-go u.kind u.a u.b u.c m t.kind_low t.kind_high t.cleanup_clear

mark-go : (k a b c m : ℕ) → 1 ≤ k → k ≤ 2 → (k ≡ 2 → m ≡ 0) → mark_for (some (update_from (record { kind = k; a = a; b = b; c = c }) m)) ≡ m
mark-go zero a b c m l h z = absurd (omega arith)
mark-go (suc zero) a b c m l h z = refl
mark-go (suc (suc zero)) a b c m l h z = sym (z refl)
mark-go (suc (suc (suc k))) a b c m l h z = absurd (omega arith)

mark-kept : (u : Update) (m : ℕ) → UpdateWellFormed u m → mark_for (some (update_from u m)) ≡ m
mark-kept u m t = mark-go u.kind u.a u.b u.c m t.kind_low t.kind_high t.cleanup_marks

module _ (m r w : ℕ) (l : List Update) (ms : List ℕ) (long : length l ≡ m + 1) (many : length ms ≡ m + 1) (hr : r < m + 1) (hw : w < m + 1)
    (queued : (k : ℕ) → k < m + 1 → along (m + 1) r k < along (m + 1) r w → UpdateWellFormed (get_or l k no_update) (get_or ms k 0))
    (unqueued : (k : ℕ) → k < m + 1 → along (m + 1) r w ≤ along (m + 1) r k → (get_or l k no_update ≡ no_update) × (get_or ms k 0 ≡ 0)) where
  -- from place k
  abbrev from : ℕ → state.Update
  from k = update_from (get_or l k no_update) (get_or ms k 0)

  abbrev item : ℕ → state.Update
  item j = from ((r + j) % (m + 1))

  abbrev read : state.Queue
  read = record { read_place = r; items = map item (count_up 0 (along (m + 1) r w)) }

  -- what is queued at a place
  place-queued : (k : ℕ) → k < m + 1 → along (m + 1) r k < along (m + 1) r w → at_place m read k ≡ some (from k)
  place-queued k b h =
      let z : 0 + along (m + 1) r k ≡ along (m + 1) r k = omega arith in
      elem-up item 0 (along (m + 1) r w) (along (m + 1) r k) h
      ∙ ap (λ j. some (item j)) z
      ∙ ap (λ j. some (from j)) (along-back (m + 1) r k hr b)

  place-empty : (k : ℕ) → along (m + 1) r w ≤ along (m + 1) r k → at_place m read k ≡ none
  place-empty k h = beyond (map item (count_up 0 (along (m + 1) r w))) (along (m + 1) r k) (omega (arith, map-up-length item (along (m + 1) r w)))

  place_kept : (k : ℕ) → k < m + 1 → (place_for m read k ≡ get_or l k no_update) × (mark_for (at_place m read k) ≡ get_or ms k 0)
  place_kept k b = elim (cmp (along (m + 1) r k) (along (m + 1) r w)) [
    | lt h ↦
        let e = place-queued k b h in
        let t = queued k b h in
        (ap update_for e ∙ update-kept (get_or l k no_update) (get_or ms k 0) t, ap mark_for e ∙ mark-kept (get_or l k no_update) (get_or ms k 0) t)
    | ge h ↦
        let e = place-empty k h in
        let t = unqueued k b h in
        (ap update_for e ∙ sym t.0, ap mark_for e ∙ sym t.1)
  ]

  items : queue_from (m + 1) r w l ms ≡ read
  unfolding queue_from
  items = let e = items-are (m + 1) r w hr hw l ms in λ i. record { read_place = r; items = e i }

  pub ring-kept : ring_for m (queue_from (m + 1) r w l ms) ≡ l
  unfolding ring_for
  ring-kept =
      ap (ring_for m) items
      ∙ ap (λ k. map (place_for m read) (count_up 0 k)) (sym long)
      ∙ map-up (place_for m read) l (λ k b d. (place_kept k (omega arith)).0 ∙ get_d_any l k no_update d b)

  pub marks-kept : marks_for m (queue_from (m + 1) r w l ms) ≡ ms
  unfolding marks_for
  marks-kept =
      ap (marks_for m) items
      ∙ ap (λ k. map (λ i. mark_for (at_place m read i)) (count_up 0 k)) (sym many)
      ∙ map-up (λ i. mark_for (at_place m read i)) ms (λ k b d. (place_kept k (omega arith)).1 ∙ get_d_any ms k 0 d b)

  pub write_kept : ((queue_from (m + 1) r w l ms).read_place + length (queue_from (m + 1) r w l ms).items) % (m + 1) ≡ w
  write_kept =
      ap (λ (q : state.Queue). (q.read_place + length q.items) % (m + 1)) items
      ∙ ap (λ k. (r + k) % (m + 1)) (map-up-length item (along (m + 1) r w))
      ∙ along-back (m + 1) r w hr hw
