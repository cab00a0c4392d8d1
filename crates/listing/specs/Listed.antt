-- The lines of a domain as the code finds them in the tables, named as in Lines.
use Rattle.std.specs.Prelude.{ℕ, suc, List, [], ◌∷◌, set}
use Rattle.base.specs.Cases.{pick}
use Rattle.tables.specs.declared.Region.{Region}
use Rattle.tables.specs.Tables.{Tables}
use Rattle.arena.specs.Arena.{is_free_b}
use Rattle.readings.specs.Readings.{records_of, rights_of}

-- a record's line (record_line)
abbrev pub line_of : ℕ → Region → List ℕ
line_of d q = d ∷ q.start ∷ q.end ∷ rights_of q ∷ q.ref_count ∷ []

-- the records of slot d; none where it is free
unfoldable pub listed_of : Tables → ℕ → List Region
listed_of s d = pick (is_free_b s.domain_pool d) [] (records_of s d)

-- numbers written from a place on, those past the run left out
abbrev pub with_line : List ℕ → ℕ → List ℕ → List ℕ
with_line run at [] = run
with_line run at (v ∷ l) = with_line (set run at v) (suc at) l
