-- The holders of address a (document 01, **Reading**; document 02, request 6), named as in the model's Readings.
use Rattle.std.specs.Prelude.{Bool, not, List, [], ◌∷◌, ℕ, zero, suc, ◌+◌, ltb}
use Rattle.base.specs.Cases.{pick}
use Rattle.base.specs.Tests.{both}
use Rattle.tables.specs.Tables.{Tables}
use Rattle.arena.specs.Arena.{is_free_b}
use Rattle.readings.specs.Readings.{records_of, largest_reach}

-- "live domains with reach above 0 there" (is_holder)
unfoldable pub is_holder : Tables → ℕ → ℕ → Bool
is_holder s a d = both (not (is_free_b s.domain_pool d)) (ltb 0 (largest_reach a (a + 1) (records_of s d)))

-- n domains from slot d on (holders_from)
unfoldable pub holders_from : ℕ → Tables → ℕ → ℕ → List ℕ
holders_from zero s a d = []
holders_from (suc n) s a d = pick (is_holder s a d) (d ∷ holders_from n s a (suc d)) (holders_from n s a (suc d))

-- all, rising (holders)
unfoldable pub holders_of : Tables → ℕ → List ℕ
holders_of s a = holders_from s.sizes.domains s a 0
