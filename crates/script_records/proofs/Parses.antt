-- The ways out of `parse`, by what was tested on the way.
use Rattle.std.proofs.Common.{◌≡◌, ℕ, ◌+◌, ◌-◌, ◌≤◌, ◌<◌, List, Option, Some, None, Ok, length, take, drop, arith}
use borrow.Author.Tests.{lt-ltb, le-ltb, eq-eqb, ne_eqb}
use Rattle.script_records.specs.declared.Kind.{Kind}
use Rattle.script_records.specs.declared.Record.{Record}
use Rattle.byte_numbers.specs.Numbers.{number}
use Rattle.script_records.specs.Parsed.{kind_numbered, size_of, record_in, rights_in, Found, bad_found, judged, whole, of_kind, parsed}

pub none_yet : (l : List ℕ) → length l < 4 → ◌≡◌ {A = Found} (Ok None) (parsed l)
unfolding parsed
none_yet l h = rw (lt-ltb _ _ h)

pub size-least : (k : Kind) → 4 ≤ size_of k
unfolding size_of
size-least k = omega arith

module _ (l : List ℕ) (n : ℕ) (h : 4 ≤ length l) (en : n ≡ number (take 2 (drop 2 l))) (o : Option Kind) (eo : o ≡ kind_numbered n) where
  by_kind : (p : Found) → p ≡ of_kind o l → p ≡ parsed l
  unfolding parsed
  by_kind p e = rw (le-ltb _ _ h, ← en, ← eo) e

  pub unknown : o ≡ None → bad_found ≡ parsed l
  unknown e = by_kind bad_found (rw e)

  module _ (k : Kind) (ek : o ≡ Some k) (m z : ℕ) (ez : z ≡ size_of k) (em : m ≡ number (take 2 (drop 0 l))) where
    by_known : (p : Found) → p ≡ of_kind (Some k) l → p ≡ parsed l
    by_known p e = by_kind p (rw ek e)

    pub misfit : (m + 2 ≡ z → ⊥) → bad_found ≡ parsed l
    misfit d = by_known bad_found (rw (← em, ← ez, ne_eqb (m + 2) z d))

    by_size : (p : Found) → m + 2 ≡ z → p ≡ whole k l → p ≡ parsed l
    by_size p s e = by_known p (rw (← em, ← ez, eq-eqb (m + 2) z s) (rw (← ez) at e))

    pub cut-yet : m + 2 ≡ z → length l < z → ◌≡◌ {A = Found} (Ok None) (parsed l)
    cut-yet s c = by_size (Ok None) s (rw (← ez, lt-ltb _ _ c))

    by_record : (r : Record) (p : Found) → m + 2 ≡ z → z ≤ length l → r ≡ record_in k (take (z - 4) (drop 4 l)) → p ≡ judged r → p ≡ parsed l
    by_record r p s c er ep = by_size p s (rw (← ez, le-ltb _ _ c, ← er) ep)

    pub too_many : (r : Record) → m + 2 ≡ z → z ≤ length l → r ≡ record_in k (take (z - 4) (drop 4 l)) → 255 < rights_in r → bad_found ≡ parsed l
    unfolding judged
    too_many r s c er t = by_record r bad_found s c er (rw (lt-ltb _ _ t))

    pub all_there : (r : Record) → m + 2 ≡ z → z ≤ length l → r ≡ record_in k (take (z - 4) (drop 4 l)) → rights_in r ≤ 255 → ◌≡◌ {A = Found} (Ok (Some r)) (parsed l)
    unfolding judged
    all_there r s c er t = by_record r (Ok (Some r)) s c er (rw (le-ltb _ _ t))
