-- The lines that follow a script's calls (document 01, "The script program"), read from the model's state.
use Rattle.std.specs.Prelude.{ℕ, suc, List, [], ◌∷◌, ◌++◌, map}
use Rattle.std.proofs.Math.Option.{Option, none, some}
use Rattle.model.specs.State.{State, Domain, Record}
use Rattle.model.specs.Readings.{rights_of}

-- "d: domain, start, end, rights, reach": the numbers of a record's line.
abbrev pub record_line : ℕ → Record → List ℕ
record_line d q = d ∷ q.start ∷ q.end ∷ rights_of q.counts ∷ q.counts.reach ∷ []

-- "one line for each permission record": those of slot d, none where it is free.
abbrev pub slot_lines : ℕ → Option Domain → List (List ℕ)
slot_lines d none = []
slot_lines d (some x) = map (record_line d) x.tracker

-- The numbers of lines, one line behind the other.
abbrev pub numbers : List (List ℕ) → List ℕ
numbers [] = []
numbers (x ∷ l) = x ++ numbers l

-- "domain slots rising", from slot d on.
abbrev pub lines_from : ℕ → List (Option Domain) → List (List ℕ)
lines_from d [] = []
lines_from d (o ∷ l) = slot_lines d o ++ lines_from (suc d) l

unfoldable pub domain_lines : State → List (List ℕ)
domain_lines s = lines_from 0 s.domains
