-- Books of lists with a close, written out: what dies with a domain and with one that it manages, its number given again, and channels to it that are dead
-- from then on.
use Rattle.std.specs.Prelude.{◌≡◌, refl, ℕ, true, false, List, [], ◌∷◌, ◌++◌, map}
use Rattle.std.proofs.Math.Option.{Option, none, some}
use Rattle.model.specs.Fields.{Field, get}
use Rattle.model.specs.State.{Handle, Root, Alias, Carve, no_options}
use Rattle.model.specs.Counts.{stored_counts}
use Rattle.model.specs.Making.{empty_tables}
use Rattle.model.specs.Perform.{Step, Call, run}
use Rattle.model.proofs.Checked.Script.{dom, access}
use Rattle.book.specs.Book.{Held, Opened, emptied, region_of, management_of, channel_of}
use Rattle.book.specs.Demand3.{book_count, accepted}
use Rattle.book.proofs.Example.{noting, book_after, sizes, reg, slots}

-- a domain's handle, and its slots, after its number was given once more
abbrev again : ℕ → Handle
again d = record { slot = d; generation = 1 }

abbrev slots_again : List (Option Held) → List ℕ → Option Opened
slots_again h f = some (record { generation = 1; slots = record { held = h; free = f } })

-- ---- two domains closed

-- Domain 0 opens 1, which opens 2. An alias of domain 0's root goes to 1, a carve at the start of it to 2.
abbrev lent : List Call
lent =
    Call.Do (Step.Open none 0)
    ∷ Call.Do (Step.Open (some (dom 0)) 0)
    ∷ Call.Do (Step.Open (some (dom 1)) 0)
    ∷ Call.Do (Step.Root (dom 0) (access 0 16 3))
    ∷ Call.Do (Step.Alias (dom 0) 1 (access 0 16 3))
    ∷ Call.Do (Step.Send (dom 0) 2 0 no_options)
    ∷ Call.Do (Step.Carve (dom 1) 1 (access 0 4 3))
    ∷ Call.Do (Step.Send (dom 1) 2 0 no_options)
    ∷ []

-- Domain 0 closes 1, and opens a domain, which gets the number 1 again.
abbrev reopened : List Call
reopened = lent ++ (Call.Do (Step.Revoke (dom 0) 0) ∷ Call.Do (Step.Open (some (dom 0)) 0) ∷ [])

-- Alias and carve are dead; the slot that was revoked is in use still; 2 is not open.
after-close : book_after (sizes 3 4) reopened
    ≡ record {
      sizes = sizes 3 4;
      regions = reg Root 0 0 16 3 true ∷ reg (Alias 0) 1 0 16 3 false ∷ reg (Carve 1) 2 0 4 3 false ∷ [];
      lists =
          slots (some emptied ∷ some (region_of 0) ∷ some (management_of (again 1)) ∷ none ∷ []) (3 ∷ [])
          ∷ slots_again (none ∷ none ∷ none ∷ none ∷ []) (0 ∷ 1 ∷ 2 ∷ 3 ∷ [])
          ∷ none
          ∷ [];
    }
unfolding noting
after-close = refl

-- each domain's reach at address 2, as stored and by the book; the accepted roots and aliases there
abbrev counts : List Call → List (ℕ × ℕ) × ℕ
counts cs =
    let b = book_after (sizes 3 4) cs in
    (map (λ d. (get Field.Reach (stored_counts (run (empty_tables (sizes 3 4)) cs).1 d 2), book_count b Field.Reach d 2)) (0 ∷ 1 ∷ 2 ∷ []), accepted b 2)

-- The alias is carved at 2. "closed domains counting nothing", the sum is that of the accepted roots and aliases before and after.
lent-counts : counts lent ≡ ((1, 1) ∷ (0, 0) ∷ (1, 1) ∷ [], 2)
unfolding noting
lent-counts = refl

closed-counts : counts reopened ≡ ((1, 1) ∷ (0, 0) ∷ (0, 0) ∷ [], 1)
unfolding noting
closed-counts = refl

-- ---- channels to a closed domain

-- Domain 0's list is full: a Management and two Channel slots of domain 1. It closes 1, whose number is given again, and a channel to the new domain is
-- opened: the list is swept, and all three slots were dead.
after-stale-channels : book_after (sizes 2 3) (
    Call.Do (Step.Open none 0)
    ∷ Call.Do (Step.Open (some (dom 0)) 0)
    ∷ Call.Do (Step.Channel (dom 0) (dom 1))
    ∷ Call.Do (Step.Channel (dom 0) (dom 1))
    ∷ Call.Do (Step.Revoke (dom 0) 0)
    ∷ Call.Do (Step.Open none 0)
    ∷ Call.Do (Step.Channel (dom 0) (again 1))
    ∷ []
    )
    ≡ record { sizes = sizes 2 3; regions = []; lists = slots (none ∷ none ∷ some (channel_of (again 1)) ∷ []) (1 ∷ 0 ∷ []) ∷ slots_again (none ∷ none ∷ none ∷ []) (0 ∷ 1 ∷ 2 ∷ []) ∷ [] }
unfolding noting
after-stale-channels = refl
