-- Regions, tracker records, the ring, hashes, interfaces and marks are tables of whole rows: what loading and storing one is in the view.
use Rattle.std.specs.Prelude.{◌≡◌, List, ℕ, ◌+◌, ◌-◌, length, get_or, set}
use Rattle.std.proofs.Math.Path.{refl, sym}
use Rattle.std.proofs.Common.{ap, ◌∙◌, arith}
use Rattle.std.proofs.Math.ListN.{get_or-eq_default}
use Rattle.std.proofs.Math.Seq.{set_out}
use Rattle.base.specs.Cases.{cmp, lt, ge}
use Rattle.words.specs.Runs.{fetched, fetched-in, fetched-out, stored, stored-in, stored-out, part_at}
use Rattle.words.specs.Cuts.{cuts}
use Rattle.tables.specs.declared.RegionCapa.{RegionCapa}
use Rattle.tables.specs.declared.Region.{Region}
use Rattle.tables.specs.declared.Update.{Update}
use Rattle.tables.specs.declared.RegionHash.{RegionHash}
use Rattle.tables.specs.declared.Interface.{Interface}
use Rattle.tables.specs.Tables.{region_at, record_at, update_at, hash_at, interface_at, mark_at, with_regions, with_records, with_ring, with_hashes, with_interfaces, with_marks, with_region, with_record, with_update, with_hash, with_interface, with_mark}
use Rattle.sizes.specs.Sizes.{sizes_of, region_width, record_width, update_width, hash_width, interface_width, mark_width, regions_section, records_section, ring_section, hash_section, interface_section, mark_section}
use Rattle.tables.specs.View.{view, of_parts, Sized, Left, region_of, region_words, record_of, record_words, update_of, update_words, hash_of, hash_words, interface_of, interface_words, mark_of, mark_words}
use Rattle.tables.specs.Sections.{only-left}
use Rattle.tables.specs.Rows.{placed, row_loaded, row-replaced}

abbrev pub region_place : List ℕ → ℕ → ℕ
region_place t i = placed t regions_section (sizes_of t).regions region_width i

abbrev pub record_place : List ℕ → ℕ → ℕ
record_place t i = placed t records_section (sizes_of t).records record_width i

abbrev pub update_place : List ℕ → ℕ → ℕ
update_place t i = placed t ring_section ((sizes_of t).updates + 1) update_width i

abbrev pub hash_place : List ℕ → ℕ → ℕ
hash_place t i = placed t hash_section (sizes_of t).regions hash_width i

abbrev pub interface_place : List ℕ → ℕ → ℕ
interface_place t i = placed t interface_section (sizes_of t).domains interface_width i

abbrev pub mark_place : List ℕ → ℕ → ℕ
mark_place t i = placed t mark_section ((sizes_of t).updates + 1) mark_width i

-- ---- a row of one word: its word alone is fetched and stored

word-fetched : (t : List ℕ) (a : ℕ) → mark_of (fetched t a mark_width) ≡ get_or t a 0
word-fetched t a =
    elim (cmp (length t) (a + 1)) [
      | lt h ↦ ap mark_of (fetched-out t a 1 h) ∙ sym (get_or-eq_default t 0 {n = a} (omega arith))
      | ge h ↦ ap mark_of (fetched-in t a 1 h) ∙ part_at t a 1 0 (omega arith) ∙ ap (λ (k : ℕ). get_or t k 0) (omega arith)
    ]

word-stored : (t : List ℕ) (a m : ℕ) → set t a m ≡ stored t a (mark_words m)
word-stored t a m =
    elim (cmp (length t) (a + 1)) [
      | lt h ↦ set_out t a m (omega arith) ∙ sym (stored-out t a (mark_words m) h)
      | ge h ↦ sym (stored-in t a (mark_words m) h)
    ]

-- ---- regions, tracker records, the ring, hashes, interfaces, marks: whole rows

module _ (t : List ℕ) (s : Sized t) (i : ℕ) where
  pub region-loaded : region_of (fetched t (region_place t i) region_width) ≡ region_at (view t) i
  unfolding region_at view of_parts
  region-loaded = row_loaded t (regions_section - 1) (sizes_of t).regions region_width s (omega arith) refl region_of i (omega arith)

  pub record-loaded : record_of (fetched t (record_place t i) record_width) ≡ record_at (view t) i
  unfolding record_at view of_parts
  record-loaded = row_loaded t (records_section - 1) (sizes_of t).records record_width s (omega arith) refl record_of i (omega arith)

  pub update-loaded : update_of (fetched t (update_place t i) update_width) ≡ update_at (view t) i
  unfolding update_at view of_parts
  update-loaded = row_loaded t (ring_section - 1) ((sizes_of t).updates + 1) update_width s (omega arith) refl update_of i (omega arith)

  pub hash-loaded : hash_of (fetched t (hash_place t i) hash_width) ≡ hash_at (view t) i
  unfolding hash_at view of_parts
  hash-loaded = row_loaded t (hash_section - 1) (sizes_of t).regions hash_width s (omega arith) refl hash_of i (omega arith)

  pub interface-loaded : interface_of (fetched t (interface_place t i) interface_width) ≡ interface_at (view t) i
  unfolding interface_at view of_parts
  interface-loaded = row_loaded t (interface_section - 1) (sizes_of t).domains interface_width s (omega arith) refl interface_of i (omega arith)

  pub mark-loaded : (a : ℕ) → a ≡ mark_place t i → get_or t a 0 ≡ mark_at (view t) i
  unfolding mark_at view of_parts
  mark-loaded a e = sym (word-fetched t a) ∙ rw e (row_loaded t (mark_section - 1) ((sizes_of t).updates + 1) mark_width s (omega arith) refl mark_of i (omega arith))

  pub region-stored : (r : RegionCapa) → Left (stored t (region_place t i) (region_words r)) (with_region (view t) i r)
  unfolding view of_parts cuts with_region with_regions
  region-stored r =
      let u = stored t (region_place t i) (region_words r) in
      let q = row-replaced t (regions_section - 1) (sizes_of t).regions region_width s (omega arith) refl region_of u (region_words r) i refl (omega arith) refl in
      only-left t u regions_section (with_region (view t) i r) s q.0 (ap (with_regions (view t)) q.1)

  pub record-stored : (r : Region) → Left (stored t (record_place t i) (record_words r)) (with_record (view t) i r)
  unfolding view of_parts cuts with_record with_records
  record-stored r =
      let u = stored t (record_place t i) (record_words r) in
      let q = row-replaced t (records_section - 1) (sizes_of t).records record_width s (omega arith) refl record_of u (record_words r) i refl (omega arith) refl in
      only-left t u records_section (with_record (view t) i r) s q.0 (ap (with_records (view t)) q.1)

  pub update-stored : (x : Update) → Left (stored t (update_place t i) (update_words x)) (with_update (view t) i x)
  unfolding view of_parts cuts with_update with_ring
  update-stored x =
      let u = stored t (update_place t i) (update_words x) in
      let q = row-replaced t (ring_section - 1) ((sizes_of t).updates + 1) update_width s (omega arith) refl update_of u (update_words x) i refl (omega arith) refl in
      only-left t u ring_section (with_update (view t) i x) s q.0 (ap (with_ring (view t)) q.1)

  pub hash-stored : (h : RegionHash) → Left (stored t (hash_place t i) (hash_words h)) (with_hash (view t) i h)
  unfolding view of_parts cuts with_hash with_hashes
  hash-stored h =
      let u = stored t (hash_place t i) (hash_words h) in
      let q = row-replaced t (hash_section - 1) (sizes_of t).regions hash_width s (omega arith) refl hash_of u (hash_words h) i refl (omega arith) refl in
      only-left t u hash_section (with_hash (view t) i h) s q.0 (ap (with_hashes (view t)) q.1)

  pub interface-stored : (x : Interface) → Left (stored t (interface_place t i) (interface_words x)) (with_interface (view t) i x)
  unfolding view of_parts cuts with_interface with_interfaces
  interface-stored x =
      let u = stored t (interface_place t i) (interface_words x) in
      let q = row-replaced t (interface_section - 1) (sizes_of t).domains interface_width s (omega arith) refl interface_of u (interface_words x) i refl (omega arith) refl in
      only-left t u interface_section (with_interface (view t) i x) s q.0 (ap (with_interfaces (view t)) q.1)

  pub mark-stored : (a : ℕ) (u : List ℕ) (m : ℕ) → a ≡ mark_place t i → u ≡ set t a m → Left u (with_mark (view t) i m)
  unfolding view of_parts cuts with_mark with_marks
  mark-stored a u m e eu =
      let q = row-replaced t (mark_section - 1) ((sizes_of t).updates + 1) mark_width s (omega arith) refl mark_of u (mark_words m) i refl (omega arith) (rw e at (eu ∙ word-stored t a m)) in
      only-left t u mark_section (with_mark (view t) i m) s q.0 (ap (with_marks (view t)) q.1)
