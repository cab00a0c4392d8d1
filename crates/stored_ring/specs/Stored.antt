-- The ring that the tables hold, and the tables with another ring.
use Rattle.std.specs.Prelude.{ℕ, zero, suc, ◌+◌, ◌-◌, ◌*◌, ◌<◌, ◌≤◌, ◌≡◌, refl, List, [], ◌∷◌, ◌++◌, map, ltb, length, get_or, set, take, drop, replicate}
use Rattle.std.proofs.Common.{sym, ap, ◌∙◌, add-one, arith}
use Rattle.base.specs.Cases.{pick}
use Rattle.words.specs.Runs.{part, part_at}
use Rattle.words.specs.Rows.{rows, length-rows, rows_more}
use Rattle.words.specs.Cuts.{offset}
use Rattle.tables.specs.declared.Update.{Update}
use Rattle.sizes.specs.declared.Sizes.{Sizes}
use Rattle.tables.specs.Tables.{Tables, no_update, with_ring, with_marks, with_places}
use Rattle.sizes.specs.Sizes.{sizes_of, widths, update_width, mark_width, ring_section, mark_section}
use Rattle.tables.specs.View.{view, of_parts, Sized, update_of, mark_of}
use Rattle.tables.specs.Sections.{section-inside, section-lent}
use Rattle.ring.specs.declared.Entry.{Entry}
use Rattle.ring.specs.declared.Ring.{Ring}
use Rattle.stored_ring.specs.declared.Span.{Span}
use Rattle.ring.specs.Ring.{cap, no_entry}
use Rattle.stored_ring.specs.Fitted.{fitted, fitted-empty, fitted-more, fitted-set}

-- updates with their marks, place by place
abbrev pub entries : List Update → List ℕ → List Entry
entries [] ms = []
entries (u ∷ us) [] = record { update = u; marks = 0 } ∷ entries us []
entries (u ∷ us) (m ∷ ms) = record { update = u; marks = m } ∷ entries us ms

abbrev pub updates_of : List Entry → List Update
updates_of = map (λ (e : Entry). e.update)

abbrev pub marks_of : List Entry → List ℕ
marks_of = map (λ (e : Entry). e.marks)

unfoldable pub ring_of : Tables → Ring
ring_of s = record { places = fitted cap (entries s.ring s.marks); read = s.read; write = s.write; size = s.sizes.updates + 1 }

unfoldable pub with_ring_of : Tables → Ring → Tables
with_ring_of s r =
    let places = fitted (length s.ring) r.places in
    with_places (with_marks (with_ring s (updates_of places)) (marks_of places)) r.read r.write

-- the ring of the words p and of the marks m, n places
abbrev pub ring_in : ℕ → List ℕ → List ℕ → ℕ → ℕ → Ring
ring_in n p m i j = record { places = fitted cap (entries (rows update_width n update_of p) (rows mark_width n mark_of m)); read = i; write = j; size = n }

-- place i; nothing past the largest ring
abbrev pub place_in : Ring → ℕ → Entry
place_in r i = pick (ltb i cap) (get_or r.places i no_entry) no_entry

-- ---- updates with their marks

pub length-entries : (us : List Update) (ms : List ℕ) → length (entries us ms) ≡ length us
length-entries [] ms = refl
length-entries (u ∷ us) [] = ap suc (length-entries us [])
length-entries (u ∷ us) (m ∷ ms) = ap suc (length-entries us ms)

pub get_or-entries : (us : List Update) (ms : List ℕ) (k : ℕ) → length ms ≤ length us
    → get_or (entries us ms) k no_entry ≡ record { update = get_or us k no_update; marks = get_or ms k 0 }
get_or-entries [] [] k h = refl
get_or-entries [] (m ∷ ms) k h = absurd (omega arith)
get_or-entries (u ∷ us) [] zero h = refl
get_or-entries (u ∷ us) [] (suc k) h = get_or-entries us [] k (omega arith)
get_or-entries (u ∷ us) (m ∷ ms) zero h = refl
get_or-entries (u ∷ us) (m ∷ ms) (suc k) h = get_or-entries us ms k (omega arith)

pub entries-updates : (us : List Update) (ms : List ℕ) → updates_of (entries us ms) ≡ us
entries-updates [] ms = refl
entries-updates (u ∷ us) [] = ap (λ (l : List Update). u ∷ l) (entries-updates us [])
entries-updates (u ∷ us) (m ∷ ms) = ap (λ (l : List Update). u ∷ l) (entries-updates us ms)

pub entries-marks : (us : List Update) (ms : List ℕ) → length ms ≡ length us → marks_of (entries us ms) ≡ ms
entries-marks [] [] h = refl
entries-marks [] (m ∷ ms) h = absurd (omega arith)
entries-marks (u ∷ us) [] h = absurd (omega arith)
entries-marks (u ∷ us) (m ∷ ms) h = ap (λ (l : List ℕ). m ∷ l) (entries-marks us ms (omega arith))

-- one more of each
entries-more : (us : List Update) (ms : List ℕ) (u : Update) (m : ℕ) → length ms ≡ length us
    → entries (us ++ (u ∷ [])) (ms ++ (m ∷ [])) ≡ entries us ms ++ (record { update = u; marks = m } ∷ [])
entries-more [] [] u m h = refl
entries-more [] (n ∷ ms) u m h = absurd (omega arith)
entries-more (v ∷ us) [] u m h = absurd (omega arith)
entries-more (v ∷ us) (n ∷ ms) u m h = ap (λ (l : List Entry). record { update = v; marks = n } ∷ l) (entries-more us ms u m (omega arith))

map-set : {A B : Type 0} (f : A → B) (l : List A) (i : ℕ) (x : A) → map f (set l i x) ≡ set (map f l) i (f x)
map-set f [] i x = refl
map-set f (y ∷ l) zero x = refl
map-set {B = B} f (y ∷ l) (suc i) x = ap (λ (r : List B). f y ∷ r) (map-set f l i x)

-- a ring that is loaded and stored with place i set
module _ (us : List Update) (ms : List ℕ) (i : ℕ) (e : Entry) (few : length us ≤ cap) where
  set_back : fitted (length us) (set (fitted cap (entries us ms)) i e) ≡ set (entries us ms) i e
  set_back = fitted-set (length us) cap (entries us ms) i e (length-entries us ms) few

  pub updates_set : updates_of (fitted (length us) (set (fitted cap (entries us ms)) i e)) ≡ set us i e.update
  updates_set =
      ap updates_of set_back ∙ map-set (λ (x : Entry). x.update) (entries us ms) i e ∙ ap (λ (l : List Update). set l i e.update) (entries-updates us ms)

  pub marks-set : length ms ≡ length us → marks_of (fitted (length us) (set (fitted cap (entries us ms)) i e)) ≡ set ms i e.marks
  marks-set h =
      ap marks_of set_back ∙ map-set (λ (x : Entry). x.marks) (entries us ms) i e ∙ ap (λ (l : List ℕ). set l i e.marks) (entries-marks us ms h)

-- ---- place by place

mark-read : (m : List ℕ) (a : ℕ) → get_or m a 0 ≡ mark_of (part m a mark_width)
mark-read m a = let e : a + 0 ≡ a = omega arith in rw (part_at m a 1 0 (omega arith), e)

-- the first i places are read
abbrev pub read_to : List ℕ → List ℕ → ℕ → List Entry
read_to p m i = fitted cap (entries (rows update_width i update_of p) (rows mark_width i mark_of m))

pub read_none : (p m : List ℕ) → read_to p m 0 ≡ replicate cap no_entry
unfolding rows
read_none p m = fitted-empty cap

pub read_more : (p m : List ℕ) (i : ℕ) → i < cap
    → set (read_to p m i) i (record { update = update_of (part p (i * update_width) update_width); marks = get_or m (i * mark_width) 0 }) ≡ read_to p m (i + 1)
read_more p m i h =
    let us = rows 4 i update_of p in
    let ms = rows 1 i mark_of m in
    let u = update_of (part p (i * 4) 4) in
    let n = mark_of (part m (i * 1) 1) in
    let e : Entry = record { update = u; marks = n } in
    let both : length ms ≡ length us = length-rows 1 i mark_of m ∙ sym (length-rows 4 i update_of p) in
    let more : entries us ms ++ (e ∷ []) ≡ entries (rows 4 (i + 1) update_of p) (rows 1 (i + 1) mark_of m) =
    rw (add-one i, rows_more 4 i update_of p, rows_more 1 i mark_of m) (sym (entries-more us ms u n both)) in
    rw (mark-read m (i * 1)) (fitted-more cap (entries us ms) e i (length-entries us ms ∙ length-rows 4 i update_of p) h ∙ ap (fitted cap) more)

-- ---- the ring's words in the tables

-- where the ring and its marks stand in the words t
pub record RingAt (t : List ℕ) (r : Span) : Type 0 where
  pub places : r.places ≡ (sizes_of t).updates + 1
  pub start : r.start ≡ offset (widths (sizes_of t)) ring_section
  pub end : r.end ≡ r.start + r.places * update_width
  pub inside : r.end ≤ length t
  pub marks : r.marks ≡ offset (widths (sizes_of t)) mark_section
  pub marks-end : r.marks_end ≡ r.marks + r.places * mark_width
  pub marks-inside : r.marks_end ≤ length t
  pub few : r.places ≤ cap

-- the places that the code computes from the sizes z
pub ring-found : (t : List ℕ) (z : Sizes) (o m : ℕ) → Sized t → z ≡ sizes_of t → o ≡ offset (widths z) ring_section → m ≡ offset (widths z) mark_section
    → RingAt t (record { start = o; end = o + (z.updates + 1) * update_width; marks = m; marks_end = m + (z.updates + 1) * mark_width; places = z.updates + 1 })
ring-found t z o m s ez eo em =
    let n : z.updates ≡ (sizes_of t).updates = ap (λ (y : Sizes). y.updates) ez in
    let e : o ≡ offset (widths (sizes_of t)) ring_section = eo ∙ rw ez in
    let f : m ≡ offset (widths (sizes_of t)) mark_section = em ∙ rw ez in
    record {
      places = rw n;
      start = e;
      end = refl;
      inside = omega (arith, section-inside t ring_section s);
      marks = f;
      marks-end = refl;
      marks-inside = omega (arith, section-inside t mark_section s);
      few = omega (arith, s.limits.updates-high);
    }

ring_long : (t : List ℕ) → length (view t).ring ≡ (sizes_of t).updates + 1
unfolding view of_parts
ring_long t = length-rows 4 ((sizes_of t).updates + 1) update_of _

marks-long : (t : List ℕ) → length (view t).marks ≡ (sizes_of t).updates + 1
unfolding view of_parts
marks-long t = length-rows 1 ((sizes_of t).updates + 1) mark_of _

-- the tables have as many places as the largest ring, or fewer
pub ring-few : (t : List ℕ) → Sized t → length (view t).ring ≤ cap
ring-few t s = omega (arith, ring_long t, s.limits.updates-high)

-- each place has a mark
pub marks-many : (t : List ℕ) → length (view t).marks ≡ length (view t).ring
marks-many t = marks-long t ∙ sym (ring_long t)

module _ (t : List ℕ) (r : Span) (s : Sized t) (at : RingAt t r) where
  end-at : r.end ≡ r.start + get_or (widths (sizes_of t)) ring_section 0
  end-at = at.end ∙ rw at.places

  marks-end-at : r.marks_end ≡ r.marks + get_or (widths (sizes_of t)) mark_section 0
  marks-end-at = at.marks-end ∙ rw at.places

  pub ring-read : ring_in r.places (take (r.end - r.start) (drop r.start t)) (take (r.marks_end - r.marks) (drop r.marks t)) (view t).read (view t).write ≡ ring_of (view t)
  unfolding ring_of view of_parts
  ring-read =
      rw (section-lent t ring_section r.start r.end s at.start end-at, section-lent t mark_section r.marks r.marks_end s at.marks marks-end-at, at.places)
