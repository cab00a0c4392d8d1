-- What is asked before a domain is closed (document 02, request 5): which domains are closed with it, and whether one of them holds a root or has a core
-- map.
use Rattle.std.specs.Prelude.{ℕ, zero, suc, Bool, false, not, ◌&&◌, ◌||◌, eqb}
use Rattle.base.specs.Cases.{pick}
use Rattle.tables.specs.Kinds.{ROOT}
use Rattle.tables.specs.Links.{slot_to}
use Rattle.tables.specs.Tables.{Tables, head_at, region_at}

-- Is domain e closed with domain d: d itself, or one whose managers lead to d? At most n managers are followed (the model's closes_with).
unfoldable pub closes_from : Tables → ℕ → ℕ → ℕ → Bool
closes_from s d zero e = eqb e d
closes_from s d (suc n) e = eqb e d || pick (eqb (head_at s e).manager 0) false (closes_from s d n (slot_to (head_at s e).manager))

-- the model's is_to_close
unfoldable pub closes_with_b : Tables → ℕ → ℕ → Bool
closes_with_b s d e = closes_from s d s.sizes.domains e

-- Does one of k numbers from i on pass the test?
unfoldable pub some_from : (ℕ → Bool) → ℕ → ℕ → Bool
some_from p i zero = false
some_from p i (suc k) = p i || some_from p (suc i) k

-- the model's root_to_close and closes_root
unfoldable pub root_to_close_b : Tables → ℕ → ℕ → Bool
root_to_close_b s d i = eqb (region_at s i).kind ROOT && closes_with_b s d (slot_to (region_at s i).owner)

unfoldable pub closes_root_b : Tables → ℕ → Bool
closes_root_b s d = some_from (root_to_close_b s d) 0 s.sizes.regions

-- the model's closes_running
unfoldable pub running_to_close_b : Tables → ℕ → ℕ → Bool
running_to_close_b s d e = not (eqb (head_at s e).cores 0) && closes_with_b s d e

unfoldable pub closes_running_b : Tables → ℕ → Bool
closes_running_b s d = some_from (running_to_close_b s d) 0 s.sizes.domains
