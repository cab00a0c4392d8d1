-- How many regions stand above a live region: its rank. A child's is its parent's and one, and a rank lies below the number of live regions.
use Rattle.std.specs.Prelude.{ℕ, ◌<◌, List}
use Rattle.std.proofs.Math.Option.{Option}
use Rattle.model.specs.Lists.{is_some, count_if, In}
use Rattle.model.specs.State.{Region, parent_of}
use Rattle.model.specs.Sound.{Rooted}
use Rattle.laws.specs.Ranks.{Ends, RankedBy, ParentsLive, rank_by, ranked-by, rank_below}
use Rattle.laws.specs.Tree.Facts.{Regions}

abbrev parent : Region → Option ℕ
parent g = parent_of g.kind

abbrev pub Ranked : List (Option Region) → (ℕ → ℕ) → Type 0
Ranked rs r = RankedBy parent rs r

ends : (rs : List (Option Region)) (i : ℕ) → Rooted rs i → Ends parent rs i
ends rs i (Rooted.top _ g e q) = Ends.top i g e q
ends rs i (Rooted.under _ p g e q r) = Ends.under i p g e q (ends rs p r)

-- ---- sound regions have ranks

module _ (rs : List (Option Region)) (s : Regions rs) where
  live : ParentsLive parent rs
  live i g e = (s i g e).parent_live

  pub rank : ℕ → ℕ
  rank = rank_by parent rs (λ i g e. ends rs i (s i g e).rooted)

  pub ranked : Ranked rs rank
  unfolding rank
  ranked = ranked-by parent rs (λ i g e. ends rs i (s i g e).rooted) live

  pub rank-low : (r : ℕ → ℕ) → Ranked rs r → (k : ℕ) (x : Region) → In rs k x → r k < count_if is_some rs
  rank-low r q = rank_below parent rs live r q
