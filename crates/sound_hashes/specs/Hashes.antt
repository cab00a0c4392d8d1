-- The test of the regions' hashes (document 02, request 1), in the shape in which the code computes it. docs/TABLES.md: a row is 1 and the four words of
-- a hash, or all zero where the region has none and where the slot is free.
use Rattle.std.specs.Prelude.{◌≡◌, Bool, true, List, ℕ, eqb, ltb, get_or}
use Rattle.base.specs.Cases.{pick}
use Rattle.base.specs.Tests.{both, all_from}
use Rattle.tables.specs.declared.RegionHash.{RegionHash}
use Rattle.tables.specs.Tables.{Tables, hash_at}
use Rattle.tables.specs.View.{view}
use Rattle.tables.specs.Header.{regions-seen}

-- all five words are 0
unfoldable pub hash_clear : RegionHash → Bool
hash_clear h = both (eqb h.given 0) (both (both (eqb h.word0 0) (eqb h.word1 0)) (both (eqb h.word2 0) (eqb h.word3 0)))

-- the row of a slot that is free, or of a region in use
unfoldable pub hash_fits : Bool → RegionHash → Bool
hash_fits free h = pick free (hash_clear h) (pick (eqb h.given 1) true (hash_clear h))

-- slot i, by the links of the pool and the rows
unfoldable pub row_holds : List ℕ → (ℕ → RegionHash) → ℕ → Bool
row_holds links row i = hash_fits (ltb 0 (get_or links i 0)) (row i)

unfoldable pub hashes_hold : Tables → Bool
hashes_hold v = all_from (row_holds v.region_pool.links (hash_at v)) 0 v.sizes.regions

-- what is tested over the lent sections
pub lent-hold : (t links : List ℕ) (row : ℕ → RegionHash) (n : ℕ) → links ≡ (view t).region_pool.links → row ≡ hash_at (view t) → n ≡ get_or t 2 0 → all_from (row_holds links row) 0 n ≡ hashes_hold (view t)
unfolding hashes_hold
lent-hold t links row n el er en = rw (el, er, regions-seen t n en)
