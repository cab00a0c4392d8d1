-- Lent tables that differ by bits of domains' words alone: what `fewer-lent` speaks of. It speaks of the memory's words, whatever they are; of sound tables
-- these are the places that are meant (`lent-use`, `lent-word`, Reworded; `use-in`, Places).
use Rattle.std.specs.Prelude.{◌≡◌, ◌≢◌, ℕ, ◌+◌, ◌-◌, ◌*◌, ◌<◌, List, T, length, get_or}
use Rattle.rights.specs.Rights.{contains}
use Rattle.model.specs.State.{Sizes}
use Rattle.model.specs.Layout.{length_for}

-- the sizes, the first five words
abbrev pub sizes_in : List ℕ → Sizes
sizes_in t = record { domains = get_or t 0 0; slots = get_or t 1 0; regions = get_or t 2 0; records = get_or t 3 0; updates = get_or t 4 0 }

-- Slot d has a domain: its free link is 0. The domain pool's links are behind seven words of the header, the pool's head and its count.
abbrev pub InUse : List ℕ → ℕ → Type 0
InUse t d = (d < get_or t 0 0) × (get_or t (9 + d) 0 ≡ 0)

-- where the interfaces start: two words for each domain slot, with a word of marks for each of the ring's places behind them
abbrev pub interfaces_at : Sizes → ℕ
interfaces_at z = length_for z - (z.updates + 1) - 2 * z.domains

-- where slot d's word stands
abbrev pub word_place : List ℕ → ℕ → ℕ
word_place t d = interfaces_at (sizes_in t) + 2 * d

-- t' is t but that domains' words may lack bits. A free slot's words are the same: a bit taken away there is no domain's, and could make unsound tables sound.
pub record FewerTables (t t' : List ℕ) : Type 0 where
  pub same_length : length t' ≡ length t
  pub fewer : (d : ℕ) → InUse t d → T (contains (get_or t (word_place t d) 0) (get_or t' (word_place t d) 0))
  pub others : (i : ℕ) → ((d : ℕ) → InUse t d → i ≢ word_place t d) → get_or t' i 0 ≡ get_or t i 0
