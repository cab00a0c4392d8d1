-- Claims: in a walk over n items each item claims a number, or nothing, which is 0. What must be claimed once has a number from 1 to m, and what is
-- wrong claims a number above. So one walk with a mark for each number tests an item's own clauses and that nothing is claimed twice.
use Rattle.std.specs.Prelude.{ℕ, zero, suc, ◌+◌, Bool, true, false, not, eqb, leb}
use Rattle.base.specs.Cases.{pick}
use Rattle.base.specs.Tests.{both}

-- one or the other test
abbrev pub either : Bool → Bool → Bool
either true b = true
either false b = b

-- Does one of n items from item k on claim c?
abbrev pub claimed : (ℕ → ℕ) → ℕ → ℕ → ℕ → Bool
claimed f c k zero = false
claimed f c k (suc n) = either (eqb (f k) c) (claimed f c (suc k) n)

-- item k, before n others: it claims nothing, or a number up to m that none of them claims
abbrev pub claim_fits : (ℕ → ℕ) → ℕ → ℕ → ℕ → Bool
claim_fits f m k n = either (eqb (f k) 0) (both (leb (f k) m) (not (claimed f (f k) (suc k) n)))

abbrev pub claims_fit : (ℕ → ℕ) → ℕ → ℕ → ℕ → Bool
claims_fit f m k zero = true
claims_fit f m k (suc n) = both (claim_fits f m k n) (claims_fit f m (suc k) n)

-- how many of n items from item k on claim something
abbrev pub claim_count : (ℕ → ℕ) → ℕ → ℕ → ℕ
claim_count f k zero = 0
claim_count f k (suc n) = pick (eqb (f k) 0) 0 1 + claim_count f (suc k) n

-- n items: nothing is wrong, nothing is claimed twice, and `want` numbers or more are claimed
unfoldable pub claims_hold : (ℕ → ℕ) → ℕ → ℕ → ℕ → Bool
claims_hold f m n want = both (claims_fit f m 0 n) (leb want (claim_count f 0 n))
