-- What the header's words show: the sizes, and the ring's two places.
use Rattle.std.specs.Prelude.{◌≡◌, refl, List, [], ◌∷◌, ℕ, ◌+◌, ◌≤◌, length, get_or, set, take}
use Rattle.std.proofs.Common.{◌∙◌, arith, length-take, length-set, get_or-take, get_or-set_same, get_or-set_other}
use Rattle.std.proofs.lemmas.List.Edits.{sets}
use Rattle.words.specs.Runs.{stored, stored-in}
use Rattle.words.specs.Cuts.{cuts, offset}
use Rattle.sizes.specs.Sizes.{header_width, read_word, write_word, header_section, sizes_of}
use Rattle.tables.specs.Tables.{with_places}
use Rattle.tables.specs.View.{view, of_parts, Sized, Left}
use Rattle.tables.specs.Sections.{section-inside, only-sets, only-left, section-sets}

pub sizes-seen : (t : List ℕ) → (view t).sizes ≡ sizes_of t
unfolding view of_parts
sizes-seen t = refl

-- a size as the code reads it
module _ (t : List ℕ) (n : ℕ) where
  pub domains-seen : n ≡ get_or t 0 0 → n ≡ (view t).sizes.domains
  unfolding view of_parts sizes_of
  domains-seen e = e

  pub slots-seen : n ≡ get_or t 1 0 → n ≡ (view t).sizes.slots
  unfolding view of_parts sizes_of
  slots-seen e = e

  pub regions-seen : n ≡ get_or t 2 0 → n ≡ (view t).sizes.regions
  unfolding view of_parts sizes_of
  regions-seen e = e

  pub records-seen : n ≡ get_or t 3 0 → n ≡ (view t).sizes.records
  unfolding view of_parts sizes_of
  records-seen e = e

pub slots_read : (t : List ℕ) → get_or t 1 0 ≡ (view t).sizes.slots
slots_read t = slots-seen t (get_or t 1 0) refl

pub read_is : (t : List ℕ) → (view t).read ≡ get_or t read_word 0
unfolding view of_parts cuts
read_is t = get_or-take header_width t read_word 0 (omega arith)

pub write-is : (t : List ℕ) → (view t).write ≡ get_or t write_word 0
unfolding view of_parts cuts
write-is t = get_or-take header_width t write_word 0 (omega arith)

pub places-stored : (t u : List ℕ) (r w : ℕ) → Sized t → u ≡ stored t read_word (r ∷ w ∷ []) → Left u (with_places (view t) r w)
unfolding view of_parts cuts offset with_places
places-stored t u r w s e =
    let vs : List ℕ = r ∷ w ∷ [] in
    let h : header_width ≤ length t = omega (arith, section-inside t header_section s) in
    let long : length (take header_width t) ≡ header_width = simp length-take (omega arith) in
    let eu : u ≡ sets t (0 + read_word) vs = e ∙ stored-in t read_word vs (omega arith) in
    let er : get_or (sets (take header_width t) read_word vs) read_word 0 ≡ r = get_or-set_other (set (take header_width t) read_word r) write_word read_word w 0 (omega arith) ∙ get_or-set_same (take header_width t) read_word r 0 (omega arith) in
    let ew : get_or (sets (take header_width t) read_word vs) write_word 0 ≡ w = get_or-set_same (set (take header_width t) read_word r) write_word w 0 (simp length-set (omega arith)) in
    rw eu
    (only-left t (sets t (0 + read_word) vs) 0 (with_places (view t) r w) s (only-sets t vs 0 read_word (omega arith) (omega arith) (omega arith))
    (rw (section-sets t vs 0 read_word (omega arith) (omega arith), er, ew)))
