-- Walks along links that meet no slot twice, and tests of every slot.
use Rattle.std.specs.Prelude.{ℕ, zero, suc, Bool, true, false, not, List, [], ◌∷◌, eqb, ltb}
use Rattle.std.proofs.Math.Option.{Option, none, some}
use Rattle.base.specs.Cases.{pick}
use Rattle.base.specs.Tests.{both, all_from}

-- Is slot i among those that were met?
abbrev pub seen : ℕ → List ℕ → Bool
seen i [] = false
seen i (h ∷ l) = pick (eqb i h) true (seen i l)

-- slot i may be met, and was not met before
abbrev pub fresh : (ℕ → Bool) → ℕ → List ℕ → Bool
fresh ok i vs = both (ok i) (not (seen i vs))

-- the link to slot x of n; 0 where there is no such slot
abbrev pub link_to : ℕ → ℕ → ℕ
link_to n x = pick (ltb x n) (suc x) 0

-- the walk ends at link e, and nowhere else
abbrev pub ended : ℕ → ℕ → List ℕ → Option (List ℕ)
ended e l vs = pick (eqb l e) (some vs) none

-- From link l on at most k slots; `next` gives the link behind a slot. With what was met before, vs, and on the way; none where a slot may not be met.
unfoldable pub met : (ℕ → ℕ) → (ℕ → Bool) → ℕ → ℕ → ℕ → List ℕ → Option (List ℕ)
met next ok e zero l vs = ended e l vs
met next ok e (suc k) zero vs = ended e 0 vs
met next ok e (suc k) (suc i) vs = pick (fresh ok i vs) (met next ok e k (next i) (i ∷ vs)) none

-- a mark for what a test says
abbrev pub mark : Bool → ℕ
mark b = pick b 1 0

-- of n slots those that may be met are those that were met
unfoldable pub covers : (ℕ → Bool) → ℕ → List ℕ → Bool
covers ok n vs = all_from (λ i. eqb (mark (seen i vs)) (mark (ok i))) 0 n

abbrev pub covered : (ℕ → Bool) → ℕ → Option (List ℕ) → Bool
covered ok n none = false
covered ok n (some vs) = covers ok n vs
