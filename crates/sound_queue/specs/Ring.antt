-- The clauses about the ring (document 01, **Sound**): the ring's two places lie inside it; queued domains are live and queued singly. Places where
-- nothing is queued are all zero, and so are marks beside anything but a queued domain. Of n places, with read place r, update number j is the one j places behind r, going round.
use Rattle.std.specs.Prelude.{ℕ, ◌+◌, ◌-◌, ◌%◌, Bool, not, ltb}
use Rattle.base.specs.Tests.{both, all_from}
use Rattle.tables.specs.declared.Update.{Update}
use Rattle.tables.specs.Tables.{Tables, update_at, mark_at}
use Rattle.sound_updates.specs.Updates.{update_fits, marks_fit, same_domain}

-- ---- the updates by number

-- the numbers from i up to e
abbrev pub all_in : (ℕ → Bool) → ℕ → ℕ → Bool
all_in p i e = all_from p i (e - i)

unfoldable pub numbered : Tables → ℕ → ℕ → ℕ → Update
numbered v n r j = update_at v ((r + j) % n)

unfoldable pub mark_numbered : Tables → ℕ → ℕ → ℕ → ℕ
mark_numbered v n r j = mark_at v ((r + j) % n)

-- the first m are queued
unfoldable pub numbers_hold : Tables → ℕ → ℕ → ℕ → Bool
numbers_hold v n r m = all_in (λ j. both (update_fits v (numbered v n r j) (ltb j m)) (marks_fit (numbered v n r j) (mark_numbered v n r j))) 0 n

-- none from number j up to number m is of u's handle
unfoldable pub none_same : Tables → ℕ → ℕ → ℕ → Update → ℕ → Bool
none_same v n r m u j = all_in (λ i. not (same_domain u (numbered v n r i))) j m

-- "and queued singly": none of the first m is queued again further on
unfoldable pub singly : Tables → ℕ → ℕ → ℕ → Bool
singly v n r m = all_in (λ j. none_same v n r m (numbered v n r j) (j + 1)) 0 m

-- ---- the ring

-- with write place w so many updates are queued
abbrev pub queued_in : ℕ → ℕ → ℕ → ℕ
queued_in n r w = (w + n - r) % n

abbrev pub ring_holds : Tables → ℕ → ℕ → ℕ → Bool
ring_holds v n r w = both (both (ltb r n) (ltb w n)) (both (numbers_hold v n r (queued_in n r w)) (singly v n r (queued_in n r w)))

unfoldable pub queue_holds : Tables → Bool
queue_holds v = ring_holds v (v.sizes.updates + 1) v.read v.write
