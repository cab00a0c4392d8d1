-- The test of the domains' interfaces (document 02, request 2), in the shape in which the code computes it. docs/TABLES.md: a row is the word and 1 where
-- it is frozen, else 0; two zeros where the slot is free.
use Rattle.std.specs.Prelude.{◌≡◌, Bool, List, ℕ, eqb, leb, ltb, get_or}
use Rattle.base.specs.Cases.{pick}
use Rattle.base.specs.Tests.{both, all_from}
use Rattle.tables.specs.declared.Interface.{Interface}
use Rattle.tables.specs.Tables.{Tables, interface_at}
use Rattle.tables.specs.View.{view}
use Rattle.tables.specs.Header.{domains-seen}

-- the row of a slot that is free, or of a domain in use
unfoldable pub interface_fits : Bool → Interface → Bool
interface_fits free x = pick free (both (eqb x.word 0) (eqb x.frozen 0)) (leb x.frozen 1)

-- slot i, by the links of the pool and the rows
unfoldable pub row_holds : List ℕ → (ℕ → Interface) → ℕ → Bool
row_holds links row i = interface_fits (ltb 0 (get_or links i 0)) (row i)

unfoldable pub interfaces_hold : Tables → Bool
interfaces_hold v = all_from (row_holds v.domain_pool.links (interface_at v)) 0 v.sizes.domains

-- what is tested over the lent sections
pub lent-hold : (t links : List ℕ) (row : ℕ → Interface) (n : ℕ) → links ≡ (view t).domain_pool.links → row ≡ interface_at (view t) → n ≡ get_or t 0 0 → all_from (row_holds links row) 0 n ≡ interfaces_hold (view t)
unfolding interfaces_hold
lent-hold t links row n el er en = rw (el, er, domains-seen t n en)
