-- What a parsed record keeps to: its rights were tested (document 01, "The script program": "Another kind, length, rights above 255 or a cut record gives
-- 17").
use Rattle.std.specs.Prelude.{◌≡◌, ℕ, ◌+◌, ◌-◌, ◌<◌, List, Option, Some, None, Ok, Err, eqb, ltb, length, take, drop}
use Rattle.std.proofs.Common.{subst, arith, ltb-false}
use Rattle.base.specs.Cases.{holds, fails, test}
use Rattle.script_records.specs.declared.Kind.{Kind}
use Rattle.script_records.specs.declared.Record.{Record}
use Rattle.byte_numbers.specs.Numbers.{number}
use Rattle.script_records.specs.Parsed.{kind_numbered, size_of, record_in, rights_in, Found, judged, whole, of_kind, parsed}

pub record Given (r : Record) : Type 0 where
  pub rights : rights_in r < 256

abbrev Says : Found → Type 0
Says (Ok None) = Unit {0}
Says (Err e) = Unit {0}
Says (Ok (Some r)) = rights_in r < 256

says-judged : (r : Record) → Says (judged r)
unfolding judged
says-judged r = elim (test (ltb 255 (rights_in r))) [ holds t ↦ rw t tt | fails t ↦ rw t (omega (arith, ltb-false 255 (rights_in r) t)) ]

says-whole : (k : Kind) (b : List ℕ) → Says (whole k b)
says-whole k b = elim (test (ltb (length b) (size_of k))) [ holds t ↦ rw t tt | fails t ↦ rw t (says-judged (record_in k (take (size_of k - 4) (drop 4 b)))) ]

says-kind : (o : Option Kind) (b : List ℕ) → Says (of_kind o b)
says-kind None b = tt
says-kind (Some k) b = elim (test (eqb (number (take 2 (drop 0 b)) + 2) (size_of k))) [ holds t ↦ rw t (says-whole k b) | fails t ↦ rw t tt ]

says : (b : List ℕ) → Says (parsed b)
unfolding parsed
says b = elim (test (ltb (length b) 4)) [ holds t ↦ rw t tt | fails t ↦ rw t (says-kind (kind_numbered (number (take 2 (drop 2 b)))) b) ]

pub parsed-given : (b : List ℕ) (r : Record) → parsed b ≡ Ok (Some r) → Given r
parsed-given b r e = record { rights = subst Says e (says b) }
