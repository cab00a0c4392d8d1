-- The queue read from the ring: update number j stands j places behind the read place, going round, and there are fewer updates than places.
use Rattle.std.specs.Prelude.{◌≡◌, refl, get_or}
use Rattle.std.proofs.Math.Path.{ap, ap₂}
use Rattle.std.proofs.Common.{◌∙◌, arith}
use Prim.Native.Nat.{ℕ, zero, suc, ◌+◌, ◌%◌, ◌<◌}
use Rattle.std.proofs.Math.Option.{some}
use mathlib.Core.List.{List, [], ◌∷◌, map}
use Rattle.std.proofs.Math.Nat.{mod-lt}
use Rattle.std.proofs.Math.ListN.{length, get_elem?}
use Rattle.base.specs.Rounds.{along-at}
use Rattle.model.specs.Lists.{count_up}
use Rattle.model.specs.State.{Update, permission, cleanup, Queue}
use Rattle.model.specs.Layout.{at_place}
use Rattle.tables.specs.Tables.{no_update}
use Rattle.decoded.specs.Rows.{get_or-up}
use Rattle.decoded.specs.Tables.{update_for, place_for, mark_for, ring_for, marks_for}
use Rattle.decoded.specs.Decode.Read.{update_from, queue_from}
use Rattle.decoded.specs.Decode.Walks.{map-up}
use Rattle.decoded.specs.Decode.Places.{items-are}

update-read : (u : Update) → update_from (update_for (some u)) (mark_for (some u)) ≡ u
update-read (permission h c m) = refl
update-read (cleanup a b) = refl

pub elem_at : (l : List Update) (j : ℕ) (d : Update) → j < length l → get_elem? l j ≡ some (get_or l j d)
elem_at [] j d h = absurd (omega arith)
elem_at (x ∷ l) zero d h = refl
elem_at (x ∷ l) (suc j) d h = elem_at l j d (omega arith)

module _ (n : ℕ) (q : Queue) (read : q.read_place < n + 1) (fits : length q.items < n + 1) where
  item-read : (j : ℕ) → j < length q.items → (d : Update) → update_from (get_or (ring_for n q) ((q.read_place + j) % (n + 1)) no_update) (get_or (marks_for n q) ((q.read_place + j) % (n + 1)) 0) ≡ get_or q.items j d
  unfolding ring_for marks_for
  item-read j h d =
      let k = (q.read_place + j) % (n + 1) in
      let b = mod-lt (q.read_place + j) {m = n + 1} (omega arith) in
      ap₂ update_from (get_or-up (place_for n q) (n + 1) k no_update b) (get_or-up (λ i. mark_for (at_place n q i)) (n + 1) k 0 b)
      ∙ ap (λ i. update_from (update_for (get_elem? q.items i)) (mark_for (get_elem? q.items i))) (along-at (n + 1) q.read_place read j (omega arith))
      ∙ ap (λ o. update_from (update_for o) (mark_for o)) (elem_at q.items j d h)
      ∙ update-read (get_or q.items j d)

  pub queue-read : queue_from (n + 1) q.read_place ((q.read_place + length q.items) % (n + 1)) (ring_for n q) (marks_for n q) ≡ q
  unfolding queue_from
  queue-read =
      let f : ℕ → Update = λ j. update_from (get_or (ring_for n q) ((q.read_place + j) % (n + 1)) no_update) (get_or (marks_for n q) ((q.read_place + j) % (n + 1)) 0) in
      let w = (q.read_place + length q.items) % (n + 1) in
      let items =
      items-are (n + 1) q.read_place w read (mod-lt (q.read_place + length q.items) {m = n + 1} (omega arith)) (ring_for n q) (marks_for n q)
      ∙ ap (λ k. map f (count_up 0 k)) (along-at (n + 1) q.read_place read (length q.items) fits)
      ∙ map-up f q.items item-read in
      λ i. record { read_place = q.read_place; items = items i }
