-- How much room the lines take: a domain has at most as many as there are records, five numbers each. In a run with that room they all stand at its front.
use Rattle.std.specs.Prelude.{◌≡◌, refl, ℕ, zero, suc, ◌*◌, ◌≤◌, Bool, true, false, List, [], ◌∷◌, eqb, length, take}
use Rattle.std.proofs.Common.{sym, ap, ◌∙◌, arith}
use Rattle.base.specs.Cases.{pick}
use Rattle.words.specs.Rows.{flat}
use Rattle.tables.specs.declared.Region.{Region}
use Rattle.tables.specs.Tables.{Tables, record_at}
use Rattle.arena.specs.Arena.{is_free_b}
use Rattle.tables.specs.Links.{slot_to}
use Rattle.tracker_records.specs.Links.{first_link}
use Rattle.readings.specs.Readings.{records_from, records_of, fill_run}
use Rattle.listing.specs.Listed.{line_of, listed_of}

-- ---- how many

pick-short : (b : Bool) (l m : List Region) (n : ℕ) → length l ≤ n → length m ≤ n → length (pick b l m) ≤ n
pick-short true l m n h k = h
pick-short false l m n h k = k

records-short : (n : ℕ) (s : Tables) (k : ℕ) → length (records_from n s k) ≤ n
unfolding records_from
records-short zero s k = omega arith
records-short (suc n) s k =
    let q = record_at s (slot_to k) in
    pick-short (eqb k 0) [] (q ∷ records_from n s q.next) (suc n) (omega arith) (omega (arith, records-short n s q.next))

pub listed-short : (s : Tables) (d : ℕ) → length (listed_of s d) ≤ s.sizes.records
unfolding listed_of records_of
listed-short s d = pick-short (is_free_b s.domain_pool d) [] (records_of s d) s.sizes.records (omega arith) (records-short s.sizes.records s (first_link s d))

pub lines-width : (d : ℕ) (l : List Region) → length (flat (line_of d) l) ≡ 5 * length l
unfolding flat
lines-width d [] = refl
lines-width d (q ∷ l) = omega (arith, lines-width d l)

-- ---- where they stand

fill-front : (l run : List ℕ) → length l ≤ length run → take (length l) (fill_run l run) ≡ l
fill-front [] run h = refl
fill-front (x ∷ l) [] h = absurd (omega arith)
fill-front (x ∷ l) (y ∷ run) h = ap (◌∷◌ x) (fill-front l run (omega arith))

pub lines-front : (s : Tables) (d : ℕ) (run : List ℕ) → 5 * s.sizes.records ≤ length run
    → take (5 * length (listed_of s d)) (fill_run (flat (line_of d) (listed_of s d)) run) ≡ flat (line_of d) (listed_of s d)
lines-front s d run h =
    let l = flat (line_of d) (listed_of s d) in
    let w = lines-width d (listed_of s d) in
    ap (λ (n : ℕ). take n (fill_run l run)) (sym w) ∙ fill-front l run (omega (arith, w, listed-short s d))
