-- The law for words: as many words as their sizes ask are those of a sound state exactly where the tables that they show are well formed and the state that
-- is read from these is sound.
use Rattle.std.specs.Prelude.{◌≡◌, ℕ, zero, suc, ◌+◌, List, length, drop, take}
use Rattle.std.proofs.Common.{arith}
use Rattle.model.specs.Lists.{Each}
use Rattle.model.specs.State.{State}
use Rattle.model.specs.Layout.{words}
use Rattle.model.specs.Sound.{Sound}
use Rattle.words.specs.Runs.{length_part}
use Rattle.words.specs.Rows.{rows, length-rows}
use Rattle.sizes.specs.Sizes.{sizes_of, stride, region_width, record_width, update_width, hash_width, interface_width, mark_width, domain_pool_section, region_pool_section, record_pool_section, domains_section, regions_section, records_section, ring_section, hash_section, interface_section, mark_section}
use Rattle.tables.specs.View.{region_of, record_of, update_of, hash_of, interface_of, mark_of, arena_of, domain_of, of_parts, view, Sized}
use Rattle.tables.specs.Sections.{section, section-length}
use Rattle.decoded.specs.Shape.{PoolShaped, Shaped}
use Rattle.decoded.specs.Words.{words-held, held-words}
use Rattle.tables.specs.Domains.{length-slots}
use Rattle.decoded.specs.Decode.Read.{state_of}
use Rattle.decoded.specs.Canonical.WellFormed.{WellFormed}
use Rattle.decoded.specs.Canonical.Exact.{well-formed-sound, sound-well-formed}

-- ---- sized words show tables of the right shape

arena-shaped : (n : ℕ) (p : List ℕ) → length p ≡ 2 + (n + n) → PoolShaped n (arena_of n p)
unfolding arena_of
arena-shaped n p h = record { links = length_part p 2 n (omega arith); gens = length_part p (2 + n) n (omega arith) }

each_row : {A : Type 0} (P : A → Type 0) (w n : ℕ) (f : List ℕ → A) (l : List ℕ) → ((p : List ℕ) → P (f p)) → Each P (rows w n f l)
unfolding rows
each_row P w zero f l h = tt
each_row P w (suc n) f l h = (h (take w l), each_row P w n f (drop w l) h)

pub view-shaped : (t : List ℕ) → Sized t → Shaped (view t)
unfolding view of_parts
view-shaped t s =
    let z = sizes_of t in
    record {
      limits = s.limits;
      domain_pool = arena-shaped z.domains (section t domain_pool_section) (section-length t domain_pool_section s);
      region_pool = arena-shaped z.regions (section t region_pool_section) (section-length t region_pool_section s);
      record_pool = arena-shaped z.records (section t record_pool_section) (section-length t record_pool_section s);
      domains = length-rows (stride z) z.domains (domain_of z.slots) (section t domains_section);
      slots = each_row _ (stride z) z.domains (domain_of z.slots) (section t domains_section) (length-slots z.slots);
      regions = length-rows region_width z.regions region_of (section t regions_section);
      records = length-rows record_width z.records record_of (section t records_section);
      ring = length-rows update_width (z.updates + 1) update_of (section t ring_section);
      hashes = length-rows hash_width z.regions hash_of (section t hash_section);
      interfaces = length-rows interface_width z.domains interface_of (section t interface_section);
      marks = length-rows mark_width (z.updates + 1) mark_of (section t mark_section);
    }

-- ---- the words of a sound state

abbrev pub SoundWords : List ℕ → Type 0
SoundWords t = (s : State) × Sound s × (t ≡ words s)

pub well-formed-words : (t : List ℕ) → Sized t → WellFormed (view t) → Sound (state_of (view t)) → SoundWords t
well-formed-words t z d h =
    let x = well-formed-sound (view t) (view-shaped t z) d h in
    (x.0, x.1, held-words x.0 t (record { seen = x.2; sized = z }))

pub words-well-formed : (t : List ℕ) → SoundWords t → Sized t × WellFormed (view t) × Sound (state_of (view t))
words-well-formed t x =
    let l = words-held x.0 x.1 t x.2 in
    let y = sound-well-formed (view t) (x.0, x.1, l.seen) in
    (l.sized, y.0, y.1)
