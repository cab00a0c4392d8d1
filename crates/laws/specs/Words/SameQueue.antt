-- Equal places and marks of the ring, with the same read place, give the same queue: update number j stands j places behind the read place, going round,
-- and there are fewer updates than places.
use Rattle.std.specs.Prelude.{◌≡◌, refl, ℕ, zero, suc, ◌+◌, ◌-◌, ◌%◌, ◌≤◌, ◌<◌, List, [], ◌∷◌, length, get_or}
use Rattle.std.proofs.Common.{ap, ap₂, sym, ◌∙◌, arith, mod-eq_of_lt}
use Rattle.std.proofs.Math.Option.{Option, none, some}
use Rattle.std.proofs.Math.Nat.{add-mod_right}
use Rattle.std.proofs.Math.ListN.{get_elem?}
use Rattle.base.specs.Cases.{lt, ge, cmp}
use Rattle.model.specs.State.{Update, permission, cleanup, Queue}
use Rattle.model.specs.Layout.{update_words, at_place, place_words, mark_words}

-- an update, read from a place's four words and its mark word; used only in proofs
abbrev read_update : ℕ → ℕ → ℕ → ℕ → ℕ → Option Update
read_update zero a b c m = none
read_update (suc zero) a b c m = some (permission (record { slot = a; generation = b }) c m)
read_update (suc (suc n)) a b c m = some (cleanup a b)

abbrev read_place : List ℕ → List ℕ → Option Update
read_place r m = read_update (get_or r 0 0) (get_or r 1 0) (get_or r 2 0) (get_or r 3 0) (get_or m 0 0)

read-place : (o : Option Update) → read_place (update_words o) (mark_words o) ≡ o
read-place none = refl
read-place (some (permission h c m)) = refl
read-place (some (cleanup a b)) = refl

-- the place, of n, of number j behind the read place f
place_of : (n f j : ℕ) → f < n → j < n → (k : ℕ) × (k < n) × ((k + n - f) % n ≡ j)
place_of n f j h i = elim (cmp (f + j) n) [
  | lt l ↦ let e : f + j + n - f ≡ j + n = omega arith in (f + j, l, ap (λ x. x % n) e ∙ add-mod_right j n ∙ mod-eq_of_lt i)
  | ge l ↦ let e : f + j - n + n - f ≡ j = omega arith in (f + j - n, omega arith, ap (λ x. x % n) e ∙ mod-eq_of_lt i)
]

-- lists of updates by number
past_end : (l : List Update) (j : ℕ) → length l ≤ j → get_elem? l j ≡ none
past_end [] j h = refl
past_end (u ∷ l) zero h = absurd (omega arith)
past_end (u ∷ l) (suc j) h = past_end l j (omega arith)

same-items : (l m : List Update) → ((j : ℕ) → get_elem? l j ≡ get_elem? m j) → l ≡ m
same-items [] [] h = refl
same-items [] (v ∷ m) h = let e = h 0 in cc
same-items (u ∷ l) [] h = let e = h 0 in cc
same-items (u ∷ l) (v ∷ m) h = let e = h 0 in let t = same-items l m (λ j. h (suc j)) in cc

pub same_queue : (n : ℕ) (q r : Queue) → q.read_place ≡ r.read_place → q.read_place < n + 1 → length q.items < n + 1 → length r.items < n + 1 → ((k : ℕ) → k < n + 1 → place_words n q k ≡ place_words n r k) → ((k : ℕ) → k < n + 1 → mark_words (at_place n q k) ≡ mark_words (at_place n r k)) → q ≡ r
same_queue n q r f p a b rows marks = λ i. record { read_place = f i; items = same-items q.items r.items at i }
  where
    at : (j : ℕ) → get_elem? q.items j ≡ get_elem? r.items j
    at j = elim (cmp j (n + 1)) [
      | ge h ↦ past_end q.items j (omega arith) ∙ sym (past_end r.items j (omega arith))
      | lt h ↦
          let t = place_of (n + 1) q.read_place j p h in
          let k = t.0 in
          let o = at_place n q k in
          let o' = at_place n r k in
          let e : o ≡ o' = sym (read-place o) ∙ ap₂ read_place (rows k t.1) (marks k t.1) ∙ read-place o' in
          rw (← f, t.2) at e
    ]
