-- The readings of a domain's records (document 01, **Reading**), named as in the model's Readings and Tracker.
use Rattle.std.specs.Prelude.{Bool, List, [], ◌∷◌, map, ℕ, zero, suc, ◌+◌, max, eqb, ltb, length}
use Rattle.base.specs.Cases.{pick}
use Rattle.base.specs.Tests.{both}
use Rattle.rights.specs.Rights.{READ, WRITE, EXEC, SUPER, UNCACHEABLE}
use Rattle.tables.specs.declared.Region.{Region}
use Rattle.tables.specs.Tables.{Tables, record_at}
use Rattle.readings.specs.declared.Permission.{Permission}
use Rattle.readings.specs.declared.Found.{Found}
use Rattle.readings.specs.declared.Plan.{Plan}
use Rattle.tables.specs.Links.{slot_to}
use Rattle.tracker_records.specs.Links.{first_link}

-- ---- a domain's records, in the order of their links (`tracker` of the model's Domain)

-- from link k on, n at most
unfoldable pub records_from : ℕ → Tables → ℕ → List Region
records_from zero s k = []
records_from (suc n) s k = pick (eqb k 0) [] (record_at s (slot_to k) ∷ records_from n s (record_at s (slot_to k)).next)

-- As many as there are slots: links that go round lead to no more.
unfoldable pub records_of : Tables → ℕ → List Region
records_of s d = records_from s.sizes.records s (first_link s d)

-- ---- numbers

-- a flag where its count is above 0 (flag_if)
abbrev pub flag_if : ℕ → ℕ → ℕ
flag_if flag n = pick (ltb 0 n) flag 0

-- the rights whose count is above 0 (rights_of)
unfoldable pub rights_of : Region → ℕ
rights_of q =
    flag_if READ q.read_count + flag_if WRITE q.write_count + flag_if EXEC q.exec_count + flag_if SUPER q.super_count + flag_if UNCACHEABLE q.uncache_count

-- it begins before e and ends after s (Tracker's meets)
abbrev pub meets : ℕ → ℕ → Region → Bool
meets s e q = both (ltb s q.end) (ltb q.start e)

-- the largest reach of a record that meets the range from s up to e (largest_reach)
unfoldable pub largest_reach : ℕ → ℕ → List Region → ℕ
largest_reach s e [] = 0
largest_reach s e (q ∷ l) = max (pick (meets s e q) q.ref_count 0) (largest_reach s e l)

-- ---- the permission list

-- (permission_of)
abbrev pub permission_of : Region → Permission
permission_of q = record { start = q.start; end = q.end; rights = rights_of q }

-- (permissions)
unfoldable pub permission_list : Tables → ℕ → List Permission
permission_list s d = map permission_of (records_of s d)

-- the permission of the record at link k, and the link behind it
abbrev pub found_at : Tables → ℕ → Found
found_at s k = record { p = permission_of (record_at s (slot_to k)); next = (record_at s (slot_to k)).next }

-- what filling a run of `room` places goes by
abbrev pub plan_of : Tables → ℕ → ℕ → Plan
plan_of s d room =
    let n = length (permission_list s d) in
    record { turns = pick (ltb n room) n room; at = first_link s d; answer = n }

-- ---- a lent run

-- a list written into a run: the places past the list, and the elements past the run, are left (fill_run)
abbrev pub fill_run : {A : Type 0} → List A → List A → List A
fill_run l [] = []
fill_run [] (y ∷ run) = y ∷ run
fill_run (x ∷ l) (y ∷ run) = x ∷ fill_run l run
