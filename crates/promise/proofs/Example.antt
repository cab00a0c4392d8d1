-- Document 01's worked example as calls of the exported functions with the records that they returned: the book kept from them, and who was given what.
use Rattle.std.specs.Prelude.{◌≡◌, refl, ℕ, Bool, true, false, List, [], ◌∷◌, ◌++◌}
use Rattle.std.proofs.Math.Option.{none, some}
use Rattle.model.specs.State.{Root, Alias, Carve}
use Rattle.model.proofs.Checked.Script.{dom}
use Rattle.replies.specs.declared.Reply.{Reply}
use Rattle.replies.specs.declared.DomainReply.{DomainReply}
use Rattle.call.specs.Arguments.{handle, sizes}
use Rattle.book.specs.Book.{Book, Noted, region_of, management_of, blank, is_open}
use Rattle.book.proofs.Example.{noting, reg, slots}
use Rattle.promise.specs.Calls.{Called, make-tables, open-domain, open-under, create-root-region, alias-region, carve-region, send, send-with-flags, send-with-hash, revoke}
use Rattle.promise.specs.Returned.{note_all_returned}
use Rattle.promise.specs.Given.{gives, NeverGivenTo}

-- accepted with a value, or refused; accepted with a new domain
abbrev ok : ℕ → Reply
ok n = record { refusal = 0; value = n }

abbrev no : ℕ → Reply
no r = record { refusal = r; value = 0 }

abbrev new : ℕ → DomainReply
new d = record { refusal = 0; slot = d; generation = 0 }

-- the calls before the send
abbrev began : List Called
began =
    make-tables 3 4 4 8 4 (ok 0)
    ∷ open-domain 0 (new 0)
    ∷ open-under 0 0 0 (new 1)
    ∷ open-domain 0 (new 2)
    ∷ create-root-region 0 0 0 16 3 (ok 1)
    ∷ carve-region 0 0 1 4 8 1 (ok 2)
    ∷ alias-region 0 0 1 0 4 3 (ok 3)
    ∷ []

-- the carve is sent, and sent again, which is refused: the slot is free (4)
abbrev sent : Called
sent = send 0 0 2 0 (ok 0)

abbrev example : List Called
example = began ++ (sent ∷ send 0 0 2 0 (no 4) ∷ [])

-- whatever the book said before
abbrev book_after : Book → List Called → Book
book_after b xs = note_all_returned b xs

-- Domain 0 holds 1's Management in slot 0, the root in 1 and the alias in 3; the carve is 1's, in slot 0; domain 2 holds nothing.
after-example : book_after (blank (sizes 1 1 1 1 1)) example
    ≡ record {
      sizes = sizes 3 4 4 8 4;
      regions = reg Root 0 0 16 3 true ∷ reg (Carve 0) 1 4 8 1 true ∷ reg (Alias 0) 0 0 4 3 true ∷ [];
      lists =
          slots (some (management_of (dom 1)) ∷ some (region_of 0) ∷ none ∷ some (region_of 2) ∷ []) (2 ∷ [])
          ∷ slots (some (region_of 1) ∷ none ∷ none ∷ none ∷ []) (1 ∷ 2 ∷ 3 ∷ [])
          ∷ slots (none ∷ none ∷ none ∷ none ∷ []) (0 ∷ 1 ∷ 2 ∷ 3 ∷ [])
          ∷ [];
    }
unfolding noting
after-example = refl

-- Sent with CLEANUP, with a hash or without, the carve has rights 33 (document 02, request 1).
abbrev regions_after : Called → List Noted
regions_after x = (book_after (blank (sizes 1 1 1 1 1)) (began ++ (x ∷ []))).regions

abbrev with_cleanup : List Noted
with_cleanup = reg Root 0 0 16 3 true ∷ reg (Carve 0) 1 4 8 33 true ∷ reg (Alias 0) 0 0 4 3 true ∷ []

after-flags : regions_after (send-with-flags 0 0 2 0 32 (ok 0)) ≡ with_cleanup
unfolding noting
after-flags = refl

after-hash : regions_after (send-with-hash 0 0 2 0 32 (record { word0 = 7; word1 = 0; word2 = 0; word3 = 0 }) (ok 0)) ≡ with_cleanup
unfolding noting
after-hash = refl

-- The root gave domain 0 address 5, and the send gave it domain 1; nobody gave it domain 2, nor 20 any of them.
abbrev given : ℕ → ℕ → Bool × Bool
given d a = (gives (blank (sizes 3 4 4 8 4)) d a (create-root-region 0 0 0 16 3 (ok 1)), gives (book_after (blank (sizes 1 1 1 1 1)) began) d a sent)

given-0 : given 0 5 ≡ (true, false)
unfolding noting
given-0 = refl

given-1 : given 1 5 ≡ (false, true)
unfolding noting
given-1 = refl

given-2 : given 2 5 ≡ (false, false)
unfolding noting
given-2 = refl

given-past-the-end : given 0 20 ≡ (false, false)
unfolding noting
given-past-the-end = refl

-- ---- by handle: domain 1 was sent the carve, is closed, and its slot is opened again

abbrev first : List Called
first = began ++ (sent ∷ [])

abbrev again : List Called
again = first ++ (revoke 0 0 0 (ok 0) ∷ open-under 0 0 0 (record { refusal = 0; slot = 1; generation = 1 }) ∷ [])

-- Is 1.0 open, is 1.1?
abbrev opens : List Called → Bool × Bool
opens xs = let b = book_after (blank (sizes 1 1 1 1 1)) xs in (is_open b (handle 1 0), is_open b (handle 1 1))

open-first : opens first ≡ (true, false)
unfolding noting
open-first = refl

open-again : opens again ≡ (false, true)
unfolding noting
open-again = refl

-- the second domain of the slot was never given address 5, though the slot was, by `sent`
not-given-again : NeverGivenTo (handle 1 1) 5 (blank (sizes 1 1 1 1 1)) again
unfolding noting
not-given-again = (tt, (tt, (tt, (tt, (tt, (tt, (tt, (tt, (tt, (tt, tt))))))))))
