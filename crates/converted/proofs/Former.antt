-- The former words of a state are all but the marks. Where every queued domain has all five marks, they tell this delivery's words.
use Rattle.std.specs.Prelude.{◌≡◌, refl, ℕ, zero, suc, ◌+◌, ◌*◌, ◌%◌, ◌≤◌, ◌<◌, take, drop}
use Rattle.std.proofs.Common.{sym, subst, ◌∙◌, arith, take_at, get_or-take}
use Rattle.std.proofs.Math.Path.{ap}
use Rattle.std.proofs.Math.Option.{Option, none, some}
use mathlib.Core.List.{List, [], ◌∷◌, ◌++◌, map, flat_map}
use Rattle.std.proofs.Math.ListN.{length, get_or, get_elem?, length-append, get_or-append}
use Rattle.std.proofs.lemmas.List.{length-map}
use Rattle.std.proofs.Math.Seq.{get_or-append-add}
use Rattle.model.specs.Lists.{Each, count_up}
use Rattle.model.specs.State.{Update, permission, cleanup, State}
use Rattle.model.specs.Layout.{header_words, update_words, at_place, place_words, mark_words, words}
use Rattle.model.specs.Sound.{Sound}
use Rattle.model.specs.Converting.{former_length, former_words, HasAllMarks, AllMarked}
use Rattle.laws.specs.Parts.{join, in_turn, in-turn, sum, join-length, cut, rows-length}
use Rattle.laws.specs.Words.Length.{sections, words-join, words-length, section-lengths, place-width, mark-width}
use Rattle.laws.specs.Words.Unique.{words-unique}
use Rattle.converted.specs.Marked.{mark_all, with_all_marks}
use Rattle.converted.proofs.Marked.{all-marked, sound-marked}
use Rattle.converted.specs.Former.{marks, ring, first, front, sizes_in, ring_at, marked_row, marked_rows, rebuilt}

marks-length : (s : State) → length (marks s) ≡ (s.sizes.updates + 1) * 1
marks-length s = rows-length 1 _ (mark-width s.sizes.updates s.queue) 0 (s.sizes.updates + 1)

behind : (s : State) → words s ≡ front s ++ marks s
unfolding words
behind s = refl

former-front : (s : State) → Sound s → former_words s ≡ front s
former-front s h =
    let e = behind s in
    let long : length (front s) ≡ former_length s.sizes = omega (arith, words-length s h, ap length e, length-append (front s) (marks s), marks-length s) in
    ap (take (former_length s.sizes)) e ∙ take_at (front s) (marks s) _ long

-- THEOREM: this delivery's words are the last one's, and behind them the marks
pub words-former : (s : State) → Sound s → words s ≡ former_words s ++ marks s
words-former s h = behind s ∙ ap (λ l. l ++ marks s) (sym (former-front s h))

pub former-length : (s : State) → Sound s → length (former_words s) ≡ former_length s.sizes
former-length s h = omega (arith, words-length s h, ap length (words-former s h), length-append (former_words s) (marks s), marks-length s)

pub flat-same : (f g : ℕ → List ℕ) (k n : ℕ) → ((i : ℕ) → k ≤ i → i < k + n → f i ≡ g i) → flat_map f (count_up k n) ≡ flat_map g (count_up k n)
unfolding flat_map
flat-same f g k zero h = refl
flat-same f g k (suc n) h = rw (h k (omega arith) (omega arith), flat-same f g (suc k) n (λ i a b. h i (omega arith) (omega arith)))

-- the first word of each of some rows of four words
kind_at : (f : ℕ → List ℕ) → ((i : ℕ) → length (f i) ≡ 4) → (j n k : ℕ) → k < n → get_or (flat_map f (count_up j n)) (4 * k) 0 ≡ get_or (f (j + k)) 0 0
unfolding flat_map
kind_at f h j zero k l = absurd (omega arith)
kind_at f h j (suc n) zero l = get_or-append (f j) (flat_map f (count_up (suc j) n)) 0 0 (omega (arith, h j)) ∙ ap (λ i. get_or (f i) 0 0) (omega arith)
kind_at f h j (suc n) (suc k) l =
    ap (λ i. get_or (f j ++ flat_map f (count_up (suc j) n)) i 0) (omega (arith, h j)) ∙ get_or-append-add (f j) (flat_map f (count_up (suc j) n)) (4 * k) 0
    ∙ kind_at f h (suc j) n k (omega arith) ∙ ap (λ i. get_or (f i) 0 0) (omega arith)

-- what a place holds, if it holds something, has all marks
abbrev HasAll : Option Update → Type 0
HasAll none = Unit {0}
HasAll (some u) = HasAllMarks u

item-marked : (us : List Update) (j : ℕ) → Each HasAllMarks us → HasAll (get_elem? us j)
item-marked [] j h = tt
item-marked (u ∷ us) zero h = h.0
item-marked (u ∷ us) (suc j) h = item-marked us j h.1

marked_row_lem : (o : Option Update) → HasAll o → mark_words o ≡ marked_row (get_or (update_words o) 0 0)
marked_row_lem none h = refl
marked_row_lem (some (permission k cores m)) h = ap (λ n. n ∷ []) h
marked_row_lem (some (cleanup a b)) h = refl

module _ (s : State) (h : Sound s) where
  first-length : length (first s) ≡ ring_at s.sizes
  first-length = ap length (in-turn (header_words s) (take 6 (drop 1 (sections s)))) ∙ join-length (take 7 (sections s)) ∙ ap (λ l. sum (take 7 l)) (section-lengths s h) ∙ omega arith

  ring-length : length (ring s) ≡ (s.sizes.updates + 1) * 4
  ring-length = rows-length 4 _ (place-width s.sizes.updates s.queue) 0 (s.sizes.updates + 1)

  -- the kind of place k
  place_at : (k : ℕ) → k < s.sizes.updates + 1 → get_or (words s) (ring_at s.sizes + 4 * k) 0 ≡ get_or (place_words s.sizes.updates s.queue k) 0 0
  unfolding words
  place_at k l =
      let low : ring_at s.sizes + 4 * k < length (first s ++ ring s) = omega (arith, first-length, ring-length, length-append (first s) (ring s)) in
      ap (λ t. get_or t (ring_at s.sizes + 4 * k) 0) (in-turn (first s ++ ring s) (drop 8 (sections s))) ∙ get_or-append (first s ++ ring s) (join (drop 8 (sections s))) 0 _ low
      ∙ ap (λ n. get_or (first s ++ ring s) (n + 4 * k) 0) (sym first-length) ∙ get_or-append-add (first s) (ring s) (4 * k) 0
      ∙ kind_at _ (place-width s.sizes.updates s.queue) 0 (s.sizes.updates + 1) k l ∙ ap (λ j. get_or (place_words s.sizes.updates s.queue j) 0 0) (omega arith)

  -- the former words are the first of this delivery's
  early : (n : ℕ) → n < ring_at s.sizes + 4 * (s.sizes.updates + 1) → get_or (former_words s) n 0 ≡ get_or (words s) n 0
  early n k = get_or-take (former_length s.sizes) (words s) n 0 (omega arith)

  size-at : (n : ℕ) → n < 5 → get_or (former_words s) n 0 ≡ get_or (header_words s) n 0
  size-at n k = early n (omega arith) ∙ ap (λ l. get_or l n 0) (words-join s) ∙ get_or-append (header_words s) (join (drop 1 (sections s))) 0 n (omega arith)

  former-sizes : sizes_in (former_words s) ≡ s.sizes
  former-sizes = λ j. record { domains = size-at 0 (omega arith) j; slots = size-at 1 (omega arith) j; regions = size-at 2 (omega arith) j; records = size-at 3 (omega arith) j; updates = size-at 4 (omega arith) j }

  former-rows : marked_rows (former_words s) ≡ flat_map (λ k. marked_row (get_or (place_words s.sizes.updates s.queue k) 0 0)) (count_up 0 (s.sizes.updates + 1))
  former-rows =
      ap (λ z. flat_map (λ k. marked_row (get_or (former_words s) (ring_at z + 4 * k) 0)) (count_up 0 (z.updates + 1))) former-sizes
      ∙ flat-same _ _ 0 (s.sizes.updates + 1) (λ k a b. ap marked_row (early _ (omega arith) ∙ place_at k (omega arith)))

  -- THEOREM: where every queued domain has all marks, the former words tell all words
  pub marked-rebuilt : AllMarked s → words s ≡ rebuilt (former_words s)
  marked-rebuilt k =
      words-former s h
      ∙ ap (λ l. former_words s ++ l) (flat-same _ _ 0 (s.sizes.updates + 1) (λ i a b. marked_row_lem (at_place s.sizes.updates s.queue i) (item-marked s.queue.items _ k)) ∙ sym former-rows)

-- ---- the state with all marks has the same words but the marks

mark-all-at : (us : List Update) (j : ℕ) → update_words (get_elem? (map mark_all us) j) ≡ update_words (get_elem? us j)
mark-all-at [] j = refl
mark-all-at (permission k cores m ∷ us) zero = refl
mark-all-at (cleanup a b ∷ us) zero = refl
mark-all-at (u ∷ us) (suc j) = mark-all-at us j

-- THEOREM: the former tables of both are the same
pub former-same : (s : State) → Sound s → former_words (with_all_marks s) ≡ former_words s
former-same s h =
    let header : header_words (with_all_marks s) ≡ header_words s = ap (λ n. s.sizes.domains ∷ s.sizes.slots ∷ s.sizes.regions ∷ s.sizes.records ∷ s.sizes.updates ∷ s.queue.read_place ∷ ((s.queue.read_place + n) % (s.sizes.updates + 1)) ∷ []) (length-map s.queue.items mark_all) in
    let places : ring (with_all_marks s) ≡ ring s = flat-same _ _ 0 (s.sizes.updates + 1) (λ k a b. mark-all-at s.queue.items _) in
    former-front (with_all_marks s) (sound-marked s h) ∙ (λ j. in_turn (in_turn (header j) (take 6 (drop 1 (sections s))) ++ places j) (take 2 (drop 8 (sections s)))) ∙ sym (former-front s h)

-- THEOREM: words so told are of a state where every queued domain has all marks, and are told by its former words
pub rebuilt-marked : (s : State) → Sound s → (o : List ℕ) → length o ≡ former_length s.sizes → words s ≡ rebuilt o → (o ≡ former_words s) × AllMarked s
rebuilt-marked s h o k e =
    let (f, r) = cut (former_words s) o (marks s) (marked_rows o) (former-length s h ∙ sym k) (sym (words-former s h) ∙ e) in
    let t = with_all_marks s in
    let same : words s ≡ words t = e ∙ ap rebuilt (sym f ∙ sym (former-same s h)) ∙ sym (marked-rebuilt t (sound-marked s h) (all-marked s)) in
    (sym f, subst AllMarked (sym (words-unique s t h (sound-marked s h) same)) (all-marked s))
