-- The numbers of a parsed call: its fields are eight bytes each, so words, and its rights were tested. And how many bytes it takes.
use Rattle.std.specs.Prelude.{◌≡◌, ℕ, zero, suc, ◌+◌, ◌-◌, ◌≤◌, ◌<◌, ◌^◌, List, [], ◌∷◌, Option, Some, None, Ok, Err, eqb, ltb, length, take, drop}
use Rattle.std.proofs.Common.{get_or, subst, arith}
use borrow.Author.Tests.{ltb-false, lt-ltb, le-ltb}
use Rattle.base.specs.Cases.{lt, ge, cmp, holds, fails, test}
use Rattle.model.specs.State.{Word}
use Rattle.model.specs.CallWords.{CallWords}
use Rattle.script_records.specs.declared.Record.{Record}
use Rattle.script_records.specs.declared.Kind as code
use Rattle.script_records.specs.Script.{Kind, opening, root, alias, carve, send, revoke, make_revoke}
use Rattle.byte_numbers.specs.Numbers.{number, Bytes, eight_fits}
use Rattle.script_records.specs.Parsed.{named, kind_numbered, size_for, size_of, record_in, rights_for, rights_in, call_for, call_in, Found, judged, whole, of_kind, parsed}

-- ---- a part of bytes

pub bytes_drop : (n : ℕ) (l : List ℕ) → Bytes l → Bytes (drop n l)
bytes_drop zero l h = h
bytes_drop (suc n) [] h = h
bytes_drop (suc n) (x ∷ l) h = bytes_drop n l (λ i. h (suc i))

bytes_take : (n : ℕ) (l : List ℕ) → Bytes l → Bytes (take n l)
bytes_take zero l h = λ i. omega arith
bytes_take (suc n) [] h = h
bytes_take (suc n) (x ∷ l) h = λ i. elim i as (λ (k : ℕ). get_or (take (suc n) (x ∷ l)) k 0 < 256) [ zero ↦ h 0 | suc j ↦ bytes_take n l (λ k. h (suc k)) j ]

-- ---- words

pub record RecordWords (r : Record) : Type 0 where
  pub a : Word r.a
  pub b : Word r.b
  pub c : Word r.c
  pub d : Word r.d
  pub e : Word r.e
  pub f : Word r.f

fields_fit : (k : code.Kind) (l : List ℕ) → Bytes l → RecordWords (record_in k l)
fields_fit k l h = record { a = eight_fits l h 0; b = eight_fits l h 8; c = eight_fits l h 16; d = eight_fits l h 24; e = eight_fits l h 32; f = eight_fits l h 40 }

words-for : (k : Kind) (r : Record) → RecordWords r → rights_for k r ≤ 255 → CallWords (call_for k r)
words-for opening r w h = elim (test (eqb r.a (2 ^ 64 - 1))) [ holds t ↦ rw t w.c | fails t ↦ rw t ((w.a, w.b), w.c) ]
words-for root r w h = ((w.a, w.b), (w.c, w.d, omega arith))
words-for alias r w h = ((w.a, w.b), w.c, (w.d, w.e, omega arith))
words-for carve r w h = ((w.a, w.b), w.c, (w.d, w.e, omega arith))
words-for send r w h = ((w.a, w.b), w.c, w.d, (tt, tt))
words-for revoke r w h = ((w.a, w.b), w.c)
words-for make_revoke r w h = ((w.a, w.b), w.c)

-- What is known of each finding in bytes b.
record Known (b : List ℕ) (r : Record) : Type 0 where
  pub least : 4 ≤ size_of r.kind
  pub there : size_of r.kind ≤ length b
  pub words : Bytes b → CallWords (call_in r)

abbrev Says : List ℕ → Found → Type 0
Says b (Ok None) = length b < 52
Says b (Err e) = Unit {0}
Says b (Ok (Some r)) = Known b r

-- ---- what is known of each finding

size-bounds : (k : Kind) → (4 ≤ size_for k) × (size_for k ≤ 52)
size-bounds opening = (omega arith, omega arith)
size-bounds root = (omega arith, omega arith)
size-bounds alias = (omega arith, omega arith)
size-bounds carve = (omega arith, omega arith)
size-bounds send = (omega arith, omega arith)
size-bounds revoke = (omega arith, omega arith)
size-bounds make_revoke = (omega arith, omega arith)

module _ (b : List ℕ) (k : code.Kind) where
  says-judged : (l : List ℕ) → (Bytes b → Bytes l) → 4 ≤ size_of k → size_of k ≤ length b → Says b (judged (record_in k l))
  unfolding judged rights_in call_in
  says-judged l part h g = elim (test (ltb 255 (rights_in (record_in k l)))) [
    | holds t ↦ rw t tt
    | fails t ↦ rw t (record { least = h; there = g; words = λ y. words-for (named k) (record_in k l) (fields_fit k l (part y)) (ltb-false _ _ t) })
  ]

  says-whole : 4 ≤ size_of k → size_of k ≤ 52 → Says b (whole k b)
  says-whole h m = elim (cmp (length b) (size_of k)) [
    | lt c ↦ rw (lt-ltb (length b) (size_of k) c) (omega arith)
    | ge c ↦ rw (le-ltb (length b) (size_of k) c) (says-judged (take (size_of k - 4) (drop 4 b)) (λ y. bytes_take (size_of k - 4) (drop 4 b) (bytes_drop 4 b y)) h c)
  ]

  says-known : Says b (of_kind (Some k) b)
  unfolding size_of
  says-known = let s = size-bounds (named k) in elim (test (eqb (number (take 2 (drop 0 b)) + 2) (size_of k))) [ holds t ↦ rw t (says-whole s.0 s.1) | fails t ↦ rw t tt ]

says-kind : (b : List ℕ) (o : Option code.Kind) → Says b (of_kind o b)
says-kind b None = tt
says-kind b (Some k) = says-known b k

says : (b : List ℕ) → Says b (parsed b)
unfolding parsed
says b = elim (cmp (length b) 4) [
  | lt h ↦ rw (lt-ltb (length b) 4 h) (omega arith)
  | ge h ↦ rw (le-ltb (length b) 4 h) (says-kind b (kind_numbered (number (take 2 (drop 2 b)))))
]

-- ---- the laws

-- The bytes of a record, which are at hand; and fewer than 52 bytes where more are needed.
pub call-size : (b : List ℕ) (r : Record) → parsed b ≡ Ok (Some r) → (4 ≤ size_of r.kind) × (size_of r.kind ≤ length b)
call-size b r e = let k : Known b r = subst (Says b) e (says b) in (k.least, k.there)

pub short-size : (b : List ℕ) → parsed b ≡ Ok None → length b < 52
short-size b e = subst (Says b) e (says b)

-- All numbers of a call are words, and its rights are below 256.
pub call-words : (b : List ℕ) (r : Record) → Bytes b → parsed b ≡ Ok (Some r) → CallWords (call_in r)
call-words b r y e = let k : Known b r = subst (Says b) e (says b) in k.words y
