-- The pieces of a domain's regions: what is left of each region between its carves, with the region's rights. A domain's regions are those
-- that its Region slots name.
use Rattle.std.specs.Prelude.{Bool, false, List, [], ◌∷◌, ◌++◌, ℕ, zero, suc, eqb, ltb, leb}
use Rattle.base.specs.Cases.{pick}
use Rattle.tables.specs.declared.Slot.{Slot}
use Rattle.tables.specs.declared.RegionCapa.{RegionCapa}
use Rattle.tables.specs.Kinds.{REGION, CARVE}
use Rattle.tables.specs.Tables.{Tables, Arena, slot_at, region_at}
use Rattle.arena.specs.Arena.{live_b}
use Rattle.sweep.specs.Events.{Piece}

-- from s up to e with rights r, if there is anything
abbrev pub piece : ℕ → ℕ → ℕ → List Piece
piece r s e = pick (ltb s e) (record { start = s; end = e; rights = r } ∷ []) []

-- with rights r, from a up to e, less the carves among the children from link k on, n at most; a kind that is none is read as a carve
unfoldable pub between : (ℕ → RegionCapa) → ℕ → ℕ → ℕ → ℕ → ℕ → List Piece
between f zero r e a k = piece r a e
between f (suc n) r e a zero = piece r a e
between f (suc n) r e a (suc i) = pick (leb CARVE (f i).kind) (piece r a (f i).start ++ between f n r e (f i).end (f i).next) (between f n r e a (f i).next)

-- of region i
unfoldable pub region_pieces : (ℕ → RegionCapa) → ℕ → ℕ → List Piece
region_pieces f n i = between f n (f i).rights (f i).end (f i).start (f i).child

-- the slot names a live region of the pool p
unfoldable pub names_b : Arena → Slot → Bool
names_b p x = pick (eqb x.kind REGION) (live_b p x.handle) false

-- of the region that the slot names
unfoldable pub slot_pieces : Arena → (ℕ → RegionCapa) → ℕ → Slot → List Piece
slot_pieces p f n x = pick (names_b p x) (region_pieces f n x.handle.slot) []

-- of m slots from j on; g gives the slot with a number
unfoldable pub slots_pieces : Arena → (ℕ → RegionCapa) → ℕ → (ℕ → Slot) → ℕ → ℕ → List Piece
slots_pieces p f n g zero j = []
slots_pieces p f n g (suc m) j = slot_pieces p f n (g j) ++ slots_pieces p f n g m (suc j)

-- of domain d
unfoldable pub domain_pieces : Tables → ℕ → List Piece
domain_pieces v d = slots_pieces v.region_pool (region_at v) v.sizes.regions (slot_at v d) v.sizes.slots 0
