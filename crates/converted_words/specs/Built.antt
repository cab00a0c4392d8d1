-- The new tables are built from the old words: copied, and the marks stored for each place of the ring. They are then the words that the old ones tell
-- (`rebuilt`).
use Rattle.std.specs.Prelude.{◌≡◌, refl, Bool, eqb, set, take}
use Rattle.std.proofs.Math.Path.{sym, ap}
use Rattle.std.proofs.Common.{subst, ◌∙◌, add-one, arith, length-set, take_at, get_or-take, get_or-set_same, get_or-set_other, ext_get_or}
use mathlib.Core.List.{List, [], ◌∷◌, ◌++◌, map, flat_map, append_assoc, append-nil}
use Prim.Native.Nat.{ℕ, zero, suc, ◌+◌, ◌*◌, ◌≤◌, ◌<◌}
use Rattle.std.proofs.Math.ListN.{length, get_or, length-append}
use Rattle.base.specs.Cases.{pick, cmp, lt, ge, holds, fails, test}
use Rattle.base.specs.Tests.{both}
use Rattle.model.specs.Lists.{count_up}
use Rattle.model.specs.Fields.{all_marks}
use Rattle.laws.specs.Parts.{cut}
use Rattle.words.specs.Runs.{part_at, stored}
use Rattle.words.specs.Rows.{flat, get_d_rows}
use Rattle.words.specs.Cuts.{offset, join, cuts-part}
use Rattle.sizes.specs.declared.Sizes.{Sizes}
use Rattle.sizes.specs.Limits.{most_updates}
use Rattle.sizes.specs.Sizes.{sizes_of, widths, total, update_width, ring_section, mark_section}
use Rattle.sizes.specs.Tests.{sized_b}
use Rattle.tables.specs.declared.Update.{Update}
use Rattle.tables.specs.Kinds.{PERMISSION}
use Rattle.tables.specs.Tables.{Tables, no_update, update_at, with_marks, with_mark}
use Rattle.tables.specs.View.{view, of_parts, Sized, Left, update_of, mark_of, mark_words, header_words, parts_of, layout}
use Rattle.tables.specs.Header.{sizes-seen}
use Rattle.tables.specs.Sections.{section}
use Rattle.tables.specs.Layout.{layout-view, words_are}
use Rattle.decoded.specs.Rows.{map-up-length, get_or-up, each-any, flat-map, flat-length}
use Rattle.decoded.specs.Canonical.Words.{view-shaped}
use Rattle.converted.specs.Former.{sizes_in, ring_at, marked_row, marked_rows, rebuilt}
use Rattle.converted.proofs.Former.{flat-same}

-- ---- what the code stores

-- all five where a domain is queued, else none
unfoldable pub marks_beside : Update → ℕ
marks_beside u = pick (eqb u.kind PERMISSION) all_marks 0

-- the first n places of the ring have theirs
unfoldable pub marks_to : List Update → ℕ → List ℕ → List ℕ
marks_to ring zero ms = ms
marks_to ring (suc n) ms = set (marks_to ring n ms) n (marks_beside (get_or ring n no_update))

unfoldable pub marked_to : ℕ → Tables → Tables
marked_to n s = with_marks s (marks_to s.ring n s.marks)

abbrev pub marked_all : Tables → Tables
marked_all s = marked_to (s.sizes.updates + 1) s

pub marked-none : (v : List ℕ) → Sized v → Left v (marked_to 0 (view v))
unfolding marked_to marks_to with_marks
marked-none v z = record { seen = refl; sized = z }

marked_next : (s : Tables) (i : ℕ) → with_mark (marked_to i s) i (marks_beside (update_at (marked_to i s) i)) ≡ marked_to (i + 1) s
unfolding marked_to marks_to update_at with_mark with_marks
marked_next s i = rw add-one

-- one place more: x is the update there, m what is stored
pub marked_more : (s : Tables) (v u : List ℕ) (i : ℕ) (x : Update) (m : ℕ) → Left v (marked_to i s) → x ≡ update_at (view v) i → m ≡ marks_beside x → Left u (with_mark (view v) i m) → Left u (marked_to (i + 1) s)
marked_more s v u i x m l e f k =
    record { seen = k.seen ∙ ap (with_mark (view v) i) (f ∙ ap marks_beside e) ∙ ap (λ y. with_mark y i (marks_beside (update_at y i))) l.seen ∙ marked_next s i; sized = k.sized }

pub updates-are : (t : List ℕ) → get_or t 4 0 ≡ (sizes_of t).updates
unfolding sizes_of
updates-are t = refl

-- k is the size that the code reads
pub updates-few : (t : List ℕ) (k : ℕ) → Sized t → k ≡ get_or t 4 0 → k ≤ most_updates
updates-few t k z e = omega (arith, updates-are t, z.limits.updates-high)

-- and n the places
pub marked-end : (t v : List ℕ) (k n i : ℕ) → k ≡ get_or t 4 0 → n ≡ k + 1 → i ≤ n → n ≤ i → Left v (marked_to i (view t)) → Left v (marked_all (view t))
marked-end t v k n i e f h g l =
    let d : (view t).sizes.updates ≡ get_or t 4 0 = ap (λ (y : Sizes). y.updates) (sizes-seen t) ∙ sym (updates-are t) in
    let q : i ≡ (view t).sizes.updates + 1 = omega arith in
    subst (λ m. Left v (marked_to m (view t))) q l

-- the old words in v are as many as the sizes that they then have ask of the sections before the marks, and v is as long as these ask
unfoldable pub fits_b : List ℕ → List ℕ → Bool
fits_b o v = let u = stored v 0 o in both (sized_b u) (eqb (length o) (offset (widths (sizes_of u)) mark_section))

-- ---- the marks stand behind all else

join-end : (ps : List (List ℕ)) (q : List ℕ) → join (ps ++ (q ∷ [])) ≡ join ps ++ q
unfolding join
join-end [] q = append-nil q
join-end (p ∷ ps) q = ap (λ l. p ++ l) (join-end ps q) ∙ sym (append_assoc p (join ps) q)

abbrev front : Tables → List ℕ
front s = join (take mark_section (parts_of s))

layout-end : (s : Tables) (ms : List ℕ) → layout (with_marks s ms) ≡ front s ++ flat mark_words ms
unfolding layout parts_of header_words with_marks
layout-end s ms = join-end (take mark_section (parts_of s)) (flat mark_words ms)

layout-own : (s : Tables) → layout s ≡ front s ++ flat mark_words s.marks
unfolding with_marks
layout-own s = layout-end s s.marks

marks-length : (ms : List ℕ) → length (flat mark_words ms) ≡ length ms * 1
marks-length ms = flat-length 1 mark_of mark_words ms (each-any _ ms (λ m. (refl, refl)))

-- ---- the rows

marked-length : (ring : List Update) (n : ℕ) (ms : List ℕ) → length (marks_to ring n ms) ≡ length ms
unfolding marks_to
marked-length ring zero ms = refl
marked-length ring (suc n) ms = length-set (marks_to ring n ms) n _ ∙ marked-length ring n ms

marked-at : (ring : List Update) (n : ℕ) (ms : List ℕ) (i : ℕ) → n ≤ length ms → i < n → get_or (marks_to ring n ms) i 0 ≡ marks_beside (get_or ring i no_update)
unfolding marks_to
marked-at ring zero ms i k h = absurd (omega arith)
marked-at ring (suc n) ms i k h = elim (cmp i n) [
  | lt l ↦ get_or-set_other (marks_to ring n ms) n i _ 0 (omega arith) ∙ marked-at ring n ms i (omega arith) l
  | ge l ↦ let e : i ≡ n = omega arith in rw e (get_or-set_same (marks_to ring n ms) n _ 0 (omega (arith, marked-length ring n ms)))
]

marked_all_lem : (ring : List Update) (n : ℕ) (ms : List ℕ) → length ms ≡ n → marks_to ring n ms ≡ map (λ i. marks_beside (get_or ring i no_update)) (count_up 0 n)
marked_all_lem ring n ms k = ext_get_or 0 _ _ (marked-length ring n ms ∙ k ∙ sym (map-up-length (λ i. marks_beside (get_or ring i no_update)) n)) (λ i h. let l : i < n = omega (arith, marked-length ring n ms) in marked-at ring n ms i (omega arith) l ∙ sym (get_or-up (λ j. marks_beside (get_or ring j no_update)) n i 0 l))

row_is : (x : Update) → mark_words (marks_beside x) ≡ marked_row x.kind
unfolding marks_beside
row_is x = elim (test (eqb x.kind 1)) [ holds e ↦ rw e | fails e ↦ rw e ]

-- the kind at a place of the ring, among the words
kind-seen : (t : List ℕ) (i : ℕ) → i < (sizes_of t).updates + 1 → (get_or (view t).ring i no_update).kind ≡ get_or t (offset (widths (sizes_of t)) ring_section + 4 * i) 0
unfolding view of_parts
kind-seen t i h =
    ap (λ (x : Update). x.kind) (get_d_rows update_width ((sizes_of t).updates + 1) update_of (section t ring_section) i no_update h)
    ∙ ap (λ p. get_or p 0 0) (cuts-part (widths (sizes_of t)) t ring_section (i * update_width) update_width (omega arith))
    ∙ part_at t (offset (widths (sizes_of t)) ring_section + i * update_width) update_width 0 (omega arith)
    ∙ ap (λ k. get_or t k 0) (omega arith)

ring-start : (t : List ℕ) → ring_at (sizes_in t) ≡ offset (widths (sizes_of t)) ring_section
unfolding sizes_of offset
ring-start t = omega arith

-- a word of a list's first part
pub front_at : (o r : List ℕ) (n : ℕ) → n < length o → get_or (o ++ r) n 0 ≡ get_or o n 0
front_at o r n h = sym (get_or-take (length o) (o ++ r) n 0 h) ∙ ap (λ l. get_or l n 0) (take_at o r (length o) refl)

-- ---- the law

-- u begins with the old words, which are as many as the sections before the marks
module _ (o r u : List ℕ) (z : Sized u) (begins : u ≡ o ++ r) (long : length o ≡ offset (widths (sizes_of u)) mark_section) where
  early : (n : ℕ) → n < length o → get_or o n 0 ≡ get_or u n 0
  early n h = sym (ap (λ l. get_or l n 0) begins ∙ front_at o r n h)

  front-is : front (view u) ≡ o
  unfolding total offset
  front-is =
      let e = layout-own (view u) in
      let n : length (view u).marks ≡ (sizes_of u).updates + 1 = (view-shaped u z).marks ∙ ap (λ (y : Sizes). y.updates + 1) (sizes-seen u) in
      let k : length (front (view u)) ≡ length o = omega (arith, ap length (sym e ∙ layout-view u z), length-append (front (view u)) (flat mark_words (view u).marks), marks-length (view u).marks, z.exact) in
      (cut (front (view u)) o _ r k (sym e ∙ layout-view u z ∙ begins)).0

  same-sizes : sizes_in o ≡ sizes_in u
  unfolding offset
  same-sizes = λ j. record { domains = early 0 (omega arith) j; slots = early 1 (omega arith) j; regions = early 2 (omega arith) j; records = early 3 (omega arith) j; updates = early 4 (omega arith) j }

  -- the kind of place i among the old words
  kind-is : (i : ℕ) → i < (sizes_of u).updates + 1 → (get_or (view u).ring i no_update).kind ≡ get_or o (ring_at (sizes_in o) + 4 * i) 0
  unfolding offset
  kind-is i h =
      let e : ring_at (sizes_in o) ≡ offset (widths (sizes_of u)) ring_section = ap ring_at same-sizes ∙ ring-start u in
      kind-seen u i h ∙ sym (early _ (omega arith)) ∙ ap (λ k. get_or o (k + 4 * i) 0) (sym e)

  rows_are : flat mark_words (marked_all (view u)).marks ≡ marked_rows o
  unfolding marked_to with_marks
  rows_are =
      let d : (view u).sizes.updates ≡ (sizes_of u).updates = ap (λ (y : Sizes). y.updates) (sizes-seen u) in
      let f : ℕ → ℕ = λ i. marks_beside (get_or (view u).ring i no_update) in
      let k : (sizes_in o).updates ≡ (sizes_of u).updates = ap (λ y. y.updates) same-sizes ∙ updates-are u in
      ap (flat mark_words) (marked_all_lem (view u).ring ((view u).sizes.updates + 1) (view u).marks (view-shaped u z).marks)
      ∙ flat-map mark_words f (λ i. mark_words (f i)) (count_up 0 ((view u).sizes.updates + 1)) (λ i. refl)
      ∙ ap (λ m. flat_map (λ i. mark_words (f i)) (count_up 0 (m + 1))) (d ∙ sym k)
      ∙ flat-same _ _ 0 ((sizes_in o).updates + 1) (λ i b h. row_is (get_or (view u).ring i no_update) ∙ ap marked_row (kind-is i (omega arith)))

  -- THEOREM: with all marks stored, u becomes what the old words tell
  pub built-words : (t : List ℕ) → Left t (marked_all (view u)) → t ≡ rebuilt o
  unfolding marked_to with_marks
  built-words t l = words_are t _ l ∙ layout-end (view u) _ ∙ λ i. front-is i ++ rows_are i
