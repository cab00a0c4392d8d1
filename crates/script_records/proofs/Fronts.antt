-- What `parsed` finds in the bytes at hand, and what stands at the front of the whole script, the bytes at hand with more behind them. A length and a kind
-- are four bytes: with these at hand, the whole has the same length and kind. Where they fit and the record is there, its fields are the same bytes.
use Rattle.std.specs.Prelude.{◌≡◌, Option as Maybe, Some, None, Ok, Err, eqb, ltb, length, drop, if◌then◌else◌}
use Rattle.std.proofs.Math.Path.{refl, ap}
use Rattle.std.proofs.Common.{subst, ◌∙◌, arith}
use Prim.Native.Nat.{ℕ, zero, suc, ◌+◌, ◌*◌, ◌-◌, ◌≤◌, ◌<◌}
use Rattle.std.proofs.Math.Option.{Option, none, some}
use mathlib.Core.List.{List, [], ◌∷◌, ◌++◌}
use borrow.Author.Tests.{eqb-true, eqb-false, lt-ltb, le-ltb, eq-eqb, ne_eqb}
use Rattle.std.proofs.Math.ListN.{take, length-append, length-take}
use Rattle.std.proofs.lemmas.List.{take-append-le}
use Rattle.std.proofs.Math.Seq.{drop-append-le}
use Rattle.base.specs.Cases.{lt, ge, cmp, holds, fails, test}
use Rattle.model.specs.Perform.{Call}
use Rattle.script_records.specs.declared.Record.{Record}
use Rattle.script_records.specs.declared.Kind as code
use Rattle.script_records.specs.Script.{Kind, opening, root, alias, carve, send, revoke, make_revoke, field_at, kind_of, field_count, call_of, call_with, body_call, Front, ended, bad, call, front_for, front_of}
use Rattle.byte_numbers.specs.Numbers.{number}
use Rattle.script_records.specs.Parsed.{named, kind_numbered, size_of, size_or, size_at, record_in, rights_for, rights_in, call_for, call_in, Found, bad_found, judged, whole, of_kind, parsed}
use Rattle.script_records.proofs.Numbered.{Same, same-kind}

-- ---- what follows a length

-- the front behind a length of n
abbrev behind : ℕ → List ℕ → Front
behind n w = if ltb (length w) n then bad else front_for (body_call (take n w)) (drop n w)

-- no call where the length does not fit the kind
misfit-none : (o : Option Kind) (body : List ℕ) → (length body + 2 ≡ size_or o → ⊥) → call_with o body ≡ none
misfit-none none body d = refl
misfit-none (some k) body d = rw (ne_eqb (length body) (2 + 8 * field_count k) (λ e. d (omega arith)))

short_none : (o : Option Kind) (body : List ℕ) → length body < 2 → call_with o body ≡ none
short_none none body h = refl
short_none (some k) body h = rw (ne_eqb (length body) (2 + 8 * field_count k) (λ e. omega arith))

-- cut, or with no call in it
by-body : (n : ℕ) (w : List ℕ) → (n ≤ length w → body_call (take n w) ≡ none) → behind n w ≡ bad
by-body n w h = elim (cmp (length w) n) [
  | lt c ↦ rw (lt-ltb (length w) n c)
  | ge c ↦ rw (le-ltb (length w) n c) (ap (λ (o : Option Call). front_for o (drop n w)) (h c))
]

-- fewer than two bytes have no kind
short-bad : (n : ℕ) (w : List ℕ) → length w < 2 → behind n w ≡ bad
short-bad n w h = by-body n w (λ c. short_none (kind_of (number (take 2 (take n w)))) (take n w) (omega (arith, length-take n w)))

module _ (u v : ℕ) (w : List ℕ) where
  misfit-body : (n : ℕ) → (n + 2 ≡ size_at (number (u ∷ v ∷ [])) → ⊥) → n ≤ length (u ∷ v ∷ w) → body_call (take n (u ∷ v ∷ w)) ≡ none
  unfolding size_at
  misfit-body zero d c = short_none (kind_of 0) [] (omega arith)
  misfit-body (suc zero) d c = short_none (kind_of (number (u ∷ []))) (u ∷ []) (omega arith)
  misfit-body (suc (suc m)) d c = misfit-none (kind_of (number (u ∷ v ∷ []))) (u ∷ v ∷ take m w) (λ e. d (omega (arith, length-take m w)))

  misfit-bad : (n : ℕ) → (n + 2 ≡ size_at (number (u ∷ v ∷ [])) → ⊥) → behind n (u ∷ v ∷ w) ≡ bad
  misfit-bad n d = by-body n (u ∷ v ∷ w) (misfit-body n d)

  -- a record that fits is cut, or its fields are there
  cut-bad : (n : ℕ) → length (u ∷ v ∷ w) < n → behind n (u ∷ v ∷ w) ≡ bad
  cut-bad n h = rw (lt-ltb (length (u ∷ v ∷ w)) n h)

  fits-call : (k : Kind) (m : ℕ) → m ≡ 8 * field_count k → kind_of (number (u ∷ v ∷ [])) ≡ some k → m ≤ length w → body_call (u ∷ v ∷ take m w) ≡ call_of k (field_at (take m w))
  fits-call k m e c h =
      ap (λ (o : Option Kind). call_with o (u ∷ v ∷ take m w)) c
      ∙ rw (eq-eqb (length (u ∷ v ∷ take m w)) (2 + 8 * field_count k) (omega (arith, length-take m w)))

  fits-front : (k : Kind) (m : ℕ) → m ≡ 8 * field_count k → kind_of (number (u ∷ v ∷ [])) ≡ some k → m ≤ length w
      → behind (suc (suc m)) (u ∷ v ∷ w) ≡ front_for (call_of k (field_at (take m w))) (drop m w)
  fits-front k m e c h =
      rw (le-ltb (length (u ∷ v ∷ w)) (suc (suc m)) (omega arith)) (ap (λ (o : Option Call). front_for o (drop m w)) (fits-call k m e c h))

-- ---- a whole record

-- what a record's rights make of its call
narrow : (k : Kind) (n : code.Kind) (l : List ℕ) → call_of k (field_at l) ≡ (if ltb 255 (rights_for k (record_in n l)) then none else some (call_for k (record_in n l)))
narrow opening n l = refl
narrow root n l = refl
narrow alias n l = refl
narrow carve n l = refl
narrow send n l = refl
narrow revoke n l = refl
narrow make_revoke n l = refl

-- ---- the laws

-- What each finding says of the whole script.
abbrev Agrees : List ℕ → List ℕ → Found → Type 0
Agrees b more (Ok None) = more ≡ [] → 0 < length b → front_of b ≡ bad
Agrees b more (Err e) = front_of (b ++ more) ≡ bad
Agrees b more (Ok (Some r)) = front_of (b ++ more) ≡ call (call_in r) (drop (size_of r.kind) b ++ more)

module _ (x y u v : ℕ) (l more : List ℕ) where
  abbrev n : ℕ
  n = number (x ∷ y ∷ [])

  abbrev num : ℕ
  num = number (u ∷ v ∷ [])

  abbrev b : List ℕ
  b = x ∷ y ∷ u ∷ v ∷ l

  -- a length that fits no kind or another
  agrees-bad : (n + 2 ≡ size_at num → ⊥) → Agrees b more bad_found
  unfolding front_of
  agrees-bad d = misfit-bad u v (l ++ more) n d

  agrees-cut : length b < n + 2 → Agrees b more (Ok None)
  unfolding front_of
  agrees-cut h e g = cut-bad u v l n (omega arith)

  -- the record is there
  module _ (k : code.Kind) (c : kind_of num ≡ some (named k)) where
    size_known : size_at num ≡ size_of k
    unfolding size_at size_of
    size_known = rw c refl

    module _ (m : ℕ) (em : m ≡ 8 * field_count (named k)) (en : n ≡ suc (suc m)) (h : m ≤ length l) where
      abbrev r : Record
      r = record_in k (take m l)

      there : front_of (b ++ more) ≡ front_for (if ltb 255 (rights_in r) then none else some (call_in r)) (drop m l ++ more)
      unfolding front_of rights_in call_in
      there =
          ap (λ (i : ℕ). behind i (u ∷ v ∷ l ++ more)) en
          ∙ fits-front u v (l ++ more) (named k) m em c (omega (arith, length-append l more))
          ∙ rw (take-append-le m l more h, drop-append-le m l more h) (ap (λ (o : Option Call). front_for o (drop m l ++ more)) (narrow (named k) k (take m l)))

      size_is : size_of k ≡ suc (suc (suc (suc m)))
      unfolding size_of
      size_is = omega arith

      agrees-judged : Agrees b more (judged r)
      unfolding judged
      agrees-judged = elim (test (ltb 255 (rights_in r))) [
        | holds t ↦ rw t (there ∙ rw t)
        | fails t ↦ rw t (there ∙ rw (t, size_is))
      ]

      agrees-whole : Agrees b more (whole k b)
      agrees-whole =
          let z : suc (suc (suc (suc m))) - 4 ≡ m = omega arith in
          rw (size_is, le-ltb (length b) (suc (suc (suc (suc m)))) (omega arith), z) agrees-judged

    agrees-fit : n + 2 ≡ size_of k → Agrees b more (whole k b)
    unfolding size_of
    agrees-fit e = elim (cmp (length b) (size_of k)) [
      | lt h ↦ rw (lt-ltb (length b) (size_of k) h) (agrees-cut (omega arith))
      | ge h ↦ agrees-whole (8 * field_count (named k)) refl (omega arith) (omega arith)
    ]

    agrees-known : Agrees b more (of_kind (Some k) b)
    agrees-known = elim (test (eqb (n + 2) (size_of k))) [
      | holds t ↦ rw t (agrees-fit (eqb-true (n + 2) (size_of k) t))
      | fails t ↦ rw t (agrees-bad (λ e. eqb-false (n + 2) (size_of k) t (e ∙ size_known)))
    ]

  none-known : kind_of num ≡ none → size_at num ≡ 0
  unfolding size_at
  none-known c = rw c refl

  agrees-kind : (o : Maybe code.Kind) → Same o (kind_of num) → Agrees b more (of_kind o b)
  agrees-kind None c = agrees-bad (λ e. omega (arith, none-known c))
  agrees-kind (Some k) c = agrees-known k c

  agrees-four : Agrees b more (parsed b)
  unfolding parsed
  agrees-four = rw (le-ltb (length b) 4 (omega arith)) (agrees-kind (kind_numbered num) (same-kind num))

agrees : (b more : List ℕ) → Agrees b more (parsed b)
unfolding parsed front_of
agrees [] more = λ e h. absurd (omega arith)
agrees (x ∷ []) more = λ e h. refl
agrees (x ∷ y ∷ []) more = λ e h. short-bad (number (x ∷ y ∷ [])) [] (omega arith)
agrees (x ∷ y ∷ u ∷ []) more = λ e h. short-bad (number (x ∷ y ∷ [])) (u ∷ []) (omega arith)
agrees (x ∷ y ∷ u ∷ v ∷ l) more = agrees-four x y u v l more

pub front-ended : front_of [] ≡ ended
unfolding front_of
front-ended = refl

pub front-call : (b more : List ℕ) (r : Record) → parsed b ≡ Ok (Some r) → front_of (b ++ more) ≡ call (call_in r) (drop (size_of r.kind) b ++ more)
front-call b more r e = subst (Agrees b more) e (agrees b more)

pub front-bad : (b more : List ℕ) → parsed b ≡ bad_found → front_of (b ++ more) ≡ bad
front-bad b more e = subst (Agrees b more) e (agrees b more)

pub front_cut : (b : List ℕ) → 0 < length b → parsed b ≡ Ok None → front_of b ≡ bad
front_cut b h e = subst (Agrees b []) e (agrees b []) refl h
