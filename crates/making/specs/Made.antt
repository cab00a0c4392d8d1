-- Cleared words with the sizes in their header are blank, and blank words with three new pools are the empty tables.
use Rattle.std.specs.Prelude.{◌≡◌, ℕ, ◌+◌, ◌-◌, ◌<◌, get_or, replicate}
use Rattle.std.proofs.Common.{sym, ◌∙◌, arith, get_or-append-add}
use Rattle.std.proofs.Math.Path.{ap}
use mathlib.Core.List.{List, [], ◌∷◌, ◌++◌, map}
use Rattle.std.proofs.Math.ListN.{length, take, drop, length-replicate}
use Rattle.std.proofs.lemmas.List.{get_or-replicate}
use Rattle.std.proofs.lemmas.List.Edits.{sets, sets-eq}
use Rattle.std.proofs.Math.Seq.{length-sets}
use Rattle.words.specs.Runs.{stored, stored-in, drop-sets-lt}
use Rattle.words.specs.Cuts.{cuts, offset}
use Rattle.words.specs.Zeros.{zeros, drop-zeros, rows-zeros, cuts-zeros}
use Rattle.sizes.specs.declared.Sizes.{Sizes}
use Rattle.tables.specs.Tables.{Tables, with_domain_pool, with_region_pool, with_record_pool}
use Rattle.sizes.specs.Limits.{Limits}
use Rattle.sizes.specs.Sizes.{sections, sizes_of, widths, stride, total, header_width, region_width, record_width, update_width, hash_width, interface_width, mark_width}
use Rattle.tables.specs.View.{view, of_parts, Left, layout, domain_of, region_of, record_of, update_of, hash_of, interface_of, mark_of}
use Rattle.tables.specs.Domains.{domain-zeros}
use Rattle.tables.specs.Header.{read_is, write-is, sizes-seen}
use Rattle.tables.specs.Layout.{words_are}
use Rattle.arena.specs.Arena.{new_arena}
use Rattle.making.specs.Empty.{empty, Blank}

abbrev size_words : Sizes → List ℕ
size_words z = z.domains ∷ z.slots ∷ z.regions ∷ z.records ∷ z.updates ∷ []

-- the widths of the sections after the header
abbrev later : Sizes → List ℕ
later z = drop 1 (widths z)

-- how many they are
abbrev behind_header : ℕ
behind_header = sections - 1

-- ---- cleared words with the sizes in front

module _ (z : Sizes) (l : Limits z) (m : List ℕ) (t : List ℕ) (cleared : m ≡ zeros (total z)) (e : t ≡ stored m 0 (size_words z)) where
  set-in : t ≡ sets (zeros (header_width + offset (later z) behind_header)) 0 (size_words z)
  unfolding total offset
  set-in = e ∙ rw cleared (stored-in (zeros (total z)) 0 (size_words z) (omega (arith, length-replicate {A = ℕ} (total z) 0)))

  long : length t ≡ total z
  unfolding total offset
  long = ap length set-in ∙ length-sets (zeros (header_width + offset (later z) behind_header)) 0 (size_words z) ∙ length-replicate (header_width + offset (later z) behind_header) 0

  -- the sizes, and zeros after them
  front : t ≡ size_words z ++ zeros (2 + offset (later z) behind_header)
  front =
      let r = offset (later z) behind_header in
      let d : 7 + r ≡ 5 + (2 + r) = omega arith in
      set-in
      ∙ sets-eq (size_words z) (zeros (7 + r)) 0 (omega (arith, length-replicate {A = ℕ} (7 + r) 0))
      ∙ ap (λ (x : List ℕ). size_words z ++ x) (ap (λ (n : ℕ). drop 5 (zeros n)) d ∙ drop-zeros 5 (2 + r))

  sizes-are : sizes_of t ≡ z
  unfolding sizes_of
  sizes-are = rw front

  parts_are : cuts (widths z) t ≡ take header_width t ∷ map zeros (later z)
  unfolding cuts
  parts_are =
      let r = offset (later z) behind_header in
      let d : drop 7 t ≡ zeros r = ap (drop 7) set-in ∙ drop-sets-lt (size_words z) (zeros (7 + r)) 7 0 (omega arith) ∙ drop-zeros 7 r in
      ap (λ (x : List (List ℕ)). take header_width t ∷ x) (ap (cuts (later z)) d ∙ cuts-zeros (later z))

  seen : view t ≡ of_parts z (take header_width t ∷ map zeros (later z))
  unfolding view
  seen = rw (sizes-are, parts_are)

  zero-at : (k : ℕ) → k < 2 → get_or t (5 + k) 0 ≡ 0
  zero-at k h =
      let r = offset (later z) behind_header in
      rw front (get_or-append-add (size_words z) (zeros (2 + r)) k 0 ∙ get_or-replicate (2 + r) k 0 0 (omega arith))

  pub blank-is : Blank z t
  unfolding of_parts
  blank-is =
      record {
        sized = record { limits = rw sizes-are l; exact = rw sizes-are long };
        sizes = sizes-are;
        read = read_is t ∙ zero-at 0 (omega arith);
        write = write-is t ∙ zero-at 1 (omega arith);
        domains = ap (λ (x : Tables). x.domains) seen ∙ rows-zeros (stride z) z.domains (domain_of z.slots) ∙ ap (replicate z.domains) (domain-zeros z);
        regions = ap (λ (x : Tables). x.regions) seen ∙ rows-zeros region_width z.regions region_of;
        records = ap (λ (x : Tables). x.records) seen ∙ rows-zeros record_width z.records record_of;
        ring = ap (λ (x : Tables). x.ring) seen ∙ rows-zeros update_width (z.updates + 1) update_of;
        hashes = ap (λ (x : Tables). x.hashes) seen ∙ rows-zeros hash_width z.regions hash_of;
        interfaces = ap (λ (x : Tables). x.interfaces) seen ∙ rows-zeros interface_width z.domains interface_of;
        marks = ap (λ (x : Tables). x.marks) seen ∙ rows-zeros mark_width (z.updates + 1) mark_of;
      }

-- ---- three new pools

pub made : (z : Sizes) (t₁ t₂ t₃ t₄ : List ℕ) → Blank z t₁
    → Left t₂ (with_domain_pool (view t₁) (new_arena (sizes_of t₁).domains))
    → Left t₃ (with_region_pool (view t₂) (new_arena (sizes_of t₂).regions))
    → Left t₄ (with_record_pool (view t₃) (new_arena (sizes_of t₃).records))
    → t₄ ≡ layout (empty z)
unfolding with_domain_pool with_region_pool with_record_pool empty
made z t₁ t₂ t₃ t₄ b l₂ l₃ l₄ =
    let z₂ : sizes_of t₂ ≡ z = sym (sizes-seen t₂) ∙ ap (λ (x : Tables). x.sizes) l₂.seen ∙ sizes-seen t₁ ∙ b.sizes in
    let z₃ : sizes_of t₃ ≡ z = sym (sizes-seen t₃) ∙ ap (λ (x : Tables). x.sizes) l₃.seen ∙ sizes-seen t₂ ∙ z₂ in
    let all : view t₄ ≡ empty z = l₄.seen ∙ rw (z₃, l₃.seen, z₂, l₂.seen, sizes-seen t₁, b.sizes, b.read, b.write, b.domains, b.regions, b.records, b.ring, b.hashes, b.interfaces, b.marks) in
    words_are t₄ (empty z) (record { seen = all; sized = l₄.sized })
