-- Books written out: after document 01's worked example, after a send with a flag word, after a domain lost its SEND, after revokes, one of a region with others below it, after a sweep, and after making anew.
use Rattle.std.specs.Prelude.{◌≡◌, refl, ℕ, Bool, true, false, List, [], ◌∷◌, ◌++◌}
use Rattle.std.proofs.Math.Option.{Option, none, some}
use Rattle.model.specs.Fields.{Field}
use Rattle.model.specs.State.{Sizes, Kind, Root, Alias, Carve, no_options, ALIAS}
use Rattle.model.specs.Making.{empty_tables}
use Rattle.model.specs.Perform.{Step, Call, run}
use Rattle.model.proofs.Checked.Compute.{computing}
use Rattle.model.proofs.Checked.Script.{dom, access, example}
use Rattle.book.specs.Book.{Book, Noted, Held, emptied, region_of, management_of, channel_of, Opened, blank, swept, make_room, put, give, give_next, opened, added, created, owned_by, flagged, handed_to, freed, put_any, sent, killed, revoked, all_revoked, closed, empty_slot, accept, note}
use Rattle.book.specs.Demand3.{note_all, book_count, accepted}

-- To compute with the book, name `noting` on an `unfolding` line.
unfoldable pub noting : Unit {0}
unfolding computing swept make_room put give give_next opened added created owned_by flagged handed_to freed put_any sent killed revoked all_revoked closed empty_slot accept note note_all
noting = tt

-- the book after a list of calls from empty tables
abbrev pub book_after : Sizes → List Call → Book
book_after z cs = note_all (blank z) cs (run (empty_tables z) cs).0

abbrev pub sizes : ℕ → ℕ → Sizes
sizes d s = record { domains = d; slots = s; regions = 4; records = 8; updates = 4 }

-- kind, owner, start, end, rights, alive; a domain opened once, its slots with the free ones, the one given next first
abbrev pub reg : Kind → ℕ → ℕ → ℕ → ℕ → Bool → Noted
reg k o s e r l = record { kind = k; owner = o; start = s; end = e; rights = r; alive = l }

abbrev pub slots : List (Option Held) → List ℕ → Option Opened
slots h f = some (record { generation = 0; slots = record { held = h; free = f } })

-- A holds B's Management in slot 0, the root in 1 and the alias in 3; the carve is B's, in slot 0; the last call was refused.
abbrev example_book : Book
example_book = record {
  sizes = sizes 2 4;
  regions = reg Root 0 0 16 3 true ∷ reg (Carve 0) 1 4 8 1 true ∷ reg (Alias 0) 0 0 4 3 true ∷ [];
  lists = slots (some (management_of (dom 1)) ∷ some (region_of 0) ∷ none ∷ some (region_of 2) ∷ []) (2 ∷ []) ∷ slots (some (region_of 1) ∷ none ∷ none ∷ none ∷ []) (1 ∷ 2 ∷ 3 ∷ []) ∷ [];
}

after-example : book_after (sizes 2 4) example ≡ example_book
unfolding noting
after-example = refl

-- B revokes the carve: it dies, and the slot is in use still.
after-revoke : book_after (sizes 2 4) (example ++ (Call.Do (Step.Revoke (dom 1) 0) ∷ []))
    ≡ record {
      sizes = sizes 2 4;
      regions = reg Root 0 0 16 3 true ∷ reg (Carve 0) 1 4 8 1 false ∷ reg (Alias 0) 0 0 4 3 true ∷ [];
      lists = slots (some (management_of (dom 1)) ∷ some (region_of 0) ∷ none ∷ some (region_of 2) ∷ []) (2 ∷ []) ∷ slots (some emptied ∷ none ∷ none ∷ none ∷ []) (1 ∷ 2 ∷ 3 ∷ []) ∷ [];
    }
unfolding noting
after-revoke = refl

-- A sends the alias, too, with CLEANUP: it is B's, and its rights are 3 and 32.
after-flags : book_after (sizes 2 4) (example ++ (Call.Do (Step.Send (dom 0) 3 0 (record { flags = some 32; hash = none })) ∷ []))
    ≡ record {
      sizes = sizes 2 4;
      regions = reg Root 0 0 16 3 true ∷ reg (Carve 0) 1 4 8 1 true ∷ reg (Alias 0) 1 0 4 35 true ∷ [];
      lists = slots (some (management_of (dom 1)) ∷ some (region_of 0) ∷ none ∷ none ∷ []) (3 ∷ 2 ∷ []) ∷ slots (some (region_of 1) ∷ some (region_of 2) ∷ none ∷ none ∷ []) (2 ∷ 3 ∷ []) ∷ [];
    }
unfolding noting
after-flags = refl

-- A's interface is set to ALIAS alone and frozen, and its send is refused: the book is the one after the example.
after-interface : book_after (sizes 2 4) (example ++ (Call.Do (Step.SetInterface (dom 0) ALIAS) ∷ Call.Do (Step.FreezeInterface (dom 0)) ∷ Call.Do (Step.Send (dom 0) 3 0 no_options) ∷ [])) ≡ example_book
unfolding noting
after-interface = refl

-- A root, an alias of it, a carve of that, an alias of the carve; A holds them in slots 0 to 3.
abbrev nested : List Call
nested =
    Call.Do (Step.Open none 0)
    ∷ Call.Do (Step.Root (dom 0) (access 0 16 3))
    ∷ Call.Do (Step.Alias (dom 0) 0 (access 0 8 3))
    ∷ Call.Do (Step.Carve (dom 0) 1 (access 2 4 1))
    ∷ Call.Do (Step.Alias (dom 0) 2 (access 2 3 1))
    ∷ []

-- The alias is revoked: the carve and the alias "below" die with it, and the slots that held them are in use still.
after-nested : book_after (sizes 1 4) (nested ++ (Call.Do (Step.Revoke (dom 0) 1) ∷ []))
    ≡ record {
      sizes = sizes 1 4;
      regions = reg Root 0 0 16 3 true ∷ reg (Alias 0) 0 0 8 3 false ∷ reg (Carve 1) 0 2 4 1 false ∷ reg (Alias 2) 0 2 3 1 false ∷ [];
      lists = slots (some (region_of 0) ∷ some emptied ∷ some (region_of 2) ∷ some (region_of 3) ∷ []) [] ∷ [];
    }
unfolding noting
after-nested = refl

-- At address 2 the root, the carve and its alias count, before; the root alone, after. WRITE is the root's.
nested-counts : book_count (book_after (sizes 1 4) nested) Field.Reach 0 2 ∷ book_count (book_after (sizes 1 4) nested) Field.Write 0 2 ∷ accepted (book_after (sizes 1 4) nested) 2 ∷ [] ≡ 3 ∷ 1 ∷ 3 ∷ []
unfolding noting
nested-counts = refl

after-nested-counts : (let b = book_after (sizes 1 4) (nested ++ (Call.Do (Step.Revoke (dom 0) 1) ∷ [])) in book_count b Field.Reach 0 2 ∷ book_count b Field.Write 0 2 ∷ accepted b 2 ∷ []) ≡ 1 ∷ 1 ∷ 1 ∷ []
unfolding noting
after-nested-counts = refl

-- A full list is swept "in rising order", so slot 1 is given.
after-sweep : book_after (sizes 1 2) (Call.Do (Step.Open none 0) ∷ Call.Do (Step.Channel (dom 0) (dom 0)) ∷ Call.Do (Step.Channel (dom 0) (dom 0)) ∷ Call.Do (Step.Revoke (dom 0) 0) ∷ Call.Do (Step.Revoke (dom 0) 1) ∷ Call.Do (Step.Channel (dom 0) (dom 0)) ∷ [])
    ≡ record { sizes = sizes 1 2; regions = []; lists = slots (none ∷ some (channel_of (dom 0)) ∷ []) (0 ∷ []) ∷ [] }
unfolding noting
after-sweep = refl

-- "Making empties it."
after-making : book_after (sizes 2 4) (example ++ (Call.Make (sizes 2 4) ∷ [])) ≡ blank (sizes 2 4)
unfolding noting
after-making = refl
