-- Two tables written out, section by section as in docs/TABLES.md.
use Rattle.std.specs.Prelude.{◌≡◌, refl, ℕ, length, replicate}
use Rattle.std.proofs.Math.Option.{none}
use mathlib.Core.List.{List, [], ◌∷◌, ◌++◌, flat_map}
use Rattle.model.specs.Lists.{count_up}
use Rattle.model.specs.State.{Sizes, State, cleanup}
use Rattle.model.specs.Making.{empty_tables}
use Rattle.model.specs.Layout.{place_words, words, length_for}
use Rattle.model.specs.Perform.{Step, Call, run}
use Rattle.model.specs.Converting.{former_words}
use Rattle.model.proofs.Checked.Compute.{computing}
use Rattle.model.proofs.Checked.Script.{dom, access}

-- ---- empty tables of sizes 1 1 1 1 1

abbrev ones : Sizes
ones = record { domains = 1; slots = 1; regions = 1; records = 1; updates = 1 }

-- a pool of one free slot: head, count, link, generation
abbrev free_pool : List ℕ
free_pool = 0 ∷ 0 ∷ 1 ∷ 0 ∷ []

empty-words : words (empty_tables ones)
    -- 1. header
    ≡ (1 ∷ 1 ∷ 1 ∷ 1 ∷ 1 ∷ 0 ∷ 0 ∷ [])
    -- 2. to 4. pools
    ++ free_pool ++ free_pool ++ free_pool
    -- 5. domain, 6. region, 7. tracker record, 8. ring, 9. hash, 10. interface, 11. marks
    ++ replicate 8 0 ++ replicate 8 0 ++ replicate 9 0 ++ replicate 8 0 ++ replicate 5 0 ++ replicate 2 0 ++ replicate 2 0
unfolding computing
empty-words = refl

empty-length : length (words (empty_tables ones)) ≡ length_for ones
unfolding computing
empty-length = refl

-- ---- a domain with core map 5, a root 0 to 16 and an alias 4 to 8 of it, in tables of sizes 2 2 3 3 1

abbrev small : Sizes
small = record { domains = 2; slots = 2; regions = 3; records = 3; updates = 1 }

abbrev opened : State
opened = (run (empty_tables small) (Call.Do (Step.Open none 5) ∷ Call.Do (Step.Root (dom 0) (access 0 16 3)) ∷ Call.Do (Step.Alias (dom 0) 0 (access 4 8 1)) ∷ [])).1

-- the sections that former tables had
abbrev first_ten : List ℕ
first_ten =
    -- 1. header: the ring's read place 0, write place 1
    (2 ∷ 2 ∷ 3 ∷ 3 ∷ 1 ∷ 0 ∷ 1 ∷ [])
    -- 2. domain pool: slot 1 is free
    ++ (1 ∷ 1 ∷ [])
    ++ (0 ∷ 1 ∷ [])
    ++ (0 ∷ 0 ∷ [])
    -- 3. region pool: slot 2 is free
    ++ (2 ∷ 2 ∷ [])
    ++ (0 ∷ 0 ∷ 1 ∷ [])
    ++ (0 ∷ 0 ∷ 0 ∷ [])
    -- 4. record pool: none is free
    ++ (0 ∷ 3 ∷ [])
    ++ (0 ∷ 0 ∷ 0 ∷ [])
    ++ (0 ∷ 0 ∷ 0 ∷ [])
    -- 5. domains: no manager, core map 5, first record 0, no free slot, two in use; then the two regions; domain 1 is free
    ++ (0 ∷ 5 ∷ 1 ∷ 0 ∷ 2 ∷ [])
    ++ (2 ∷ 0 ∷ 0 ∷ [])
    ++ (2 ∷ 1 ∷ 0 ∷ [])
    ++ replicate 11 0
    -- 6. regions: the root with first child 1, the alias with parent 0; region 2 is free
    ++ (1 ∷ 1 ∷ 0 ∷ 0 ∷ 16 ∷ 3 ∷ 2 ∷ 0 ∷ [])
    ++ (2 ∷ 1 ∷ 1 ∷ 4 ∷ 8 ∷ 1 ∷ 0 ∷ 0 ∷ [])
    ++ replicate 8 0
    -- 7. tracker records 0 to 4, 4 to 8, 8 to 16
    ++ (0 ∷ 4 ∷ 1 ∷ 1 ∷ 1 ∷ 0 ∷ 0 ∷ 0 ∷ 2 ∷ [])
    ++ (4 ∷ 8 ∷ 2 ∷ 2 ∷ 1 ∷ 0 ∷ 0 ∷ 0 ∷ 3 ∷ [])
    ++ (8 ∷ 16 ∷ 1 ∷ 1 ∷ 1 ∷ 0 ∷ 0 ∷ 0 ∷ 0 ∷ [])
    -- 8. ring: domain 0 is queued with core map 5; one place is empty
    ++ (1 ∷ 0 ∷ 0 ∷ 5 ∷ [])
    ++ (0 ∷ 0 ∷ 0 ∷ 0 ∷ [])
    -- 9. hashes: none
    ++ replicate 15 0
    -- 10. interfaces: domain 0 as it opened; domain 1 is free
    ++ (26 ∷ 0 ∷ [])
    ++ (0 ∷ 0 ∷ [])

opened-words : words opened
    ≡ first_ten
    -- 11. marks: domain 0's reach, READ and WRITE came from 0; one place is empty
    ++ (7 ∷ [])
    ++ (0 ∷ [])
unfolding computing
opened-words = refl

former-words : former_words opened ≡ first_ten
unfolding computing
former-words = refl

opened-length : length (words opened) ≡ length_for small
unfolding computing
opened-length = refl

-- ---- a ring of three places whose read place is the last: the second update stands in the first place

round : flat_map (place_words 2 (record { read_place = 2; items = cleanup 1 2 ∷ cleanup 3 4 ∷ [] })) (count_up 0 3)
    ≡ (2 ∷ 3 ∷ 4 ∷ 0 ∷ [])
    ++ (0 ∷ 0 ∷ 0 ∷ 0 ∷ [])
    ++ (2 ∷ 1 ∷ 2 ∷ 0 ∷ [])
unfolding computing
round = refl

-- ---- lengths

-- 39,858 words at the largest sizes, and 3,962 for the script's tables
full-length : length_for (record { domains = 32; slots = 128; regions = 1024; records = 1024; updates = 128 }) ≡ 39_858
full-length = refl

script-length : length_for (record { domains = 8; slots = 16; regions = 128; records = 128; updates = 32 }) ≡ 3_962
script-length = refl
