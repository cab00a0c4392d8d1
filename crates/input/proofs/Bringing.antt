-- What reads bring stands behind the bytes at hand.
use Rattle.std.proofs.Common.{◌≡◌, ℕ, ◌+◌, ◌-◌, ◌≤◌, ◌<◌, List, [], ◌++◌, Option, Result, Ok, Err, IfOk, eqb, if◌then◌else◌, refl, ap, ◌∙◌, length, take, drop, arith, length-take, length-drop, length-take-le}
use Rattle.std.proofs.Math.Seq.{take-append-add}
use Rattle.std.proofs.lemmas.List.{take-append-le, drop-append-le, drop-take}
use borrow.Author.Tests.{eqb-true}
use Rattle.std.specs.Io.{ReadsAtMost}
use Rattle.std.specs.Io.KnownBytes.{ReadConsumes}
use Rattle.std.proofs.KnownBytes.{Consumes-nil, Consumes-kept}
use Rattle.base.specs.Cases.{holds, fails, test}
use Rattle.input.specs.declared.Buffered.{Buffered}
use Rattle.input.specs.declared.Source.TheVariants as source
use Rattle.input.specs.Buffered.{Within, behind}
use Rattle.input.specs.Brings.{at_hand, Brings, Ended}

-- ---- one read

module _ (h : Buffered) (b buf rest : List ℕ) (w : Within h (length b)) where
  -- the bytes at hand are what the run's front has from `at` on
  front : drop h.at (take h.end b ++ (buf ++ rest)) ≡ at_hand h b ++ (buf ++ rest)
  front =
      let e : h.end ≡ h.at + (h.end - h.at) = omega (arith, w.rising) in
      let k : h.at ≤ length (take h.end b) = omega (arith, length-take-le h.end b w.inside, w.rising) in
      drop-append-le h.at (take h.end b) (buf ++ rest) k
      ∙ ap (λ (j : ℕ). drop h.at (take j b) ++ (buf ++ rest)) e
      ∙ ap (λ l. l ++ (buf ++ rest)) (drop-take h.at (h.end - h.at) b)

  -- n bytes more
  hand-more : (n : ℕ) → n ≤ length buf → take (h.end + n - h.at) (drop h.at (take h.end b ++ (buf ++ rest))) ≡ at_hand h b ++ take n buf
  hand-more n u =
      let e : h.end + n - h.at ≡ length (at_hand h b) + n = omega (arith, length-take (h.end - h.at) (drop h.at b), length-drop h.at b, w.rising, w.inside) in
      ap (take (h.end + n - h.at)) front
      ∙ ap (λ (j : ℕ). take j (at_hand h b ++ (buf ++ rest))) e
      ∙ take-append-add (at_hand h b) (buf ++ rest) n
      ∙ ap (λ l. at_hand h b ++ l) (take-append-le n buf rest u)

  hand-none : take (h.end - h.at) (drop h.at (take h.end b ++ (buf ++ rest))) ≡ at_hand h b ++ []
  hand-none = let e : h.end - h.at ≡ h.end + 0 - h.at = omega arith in ap (λ (j : ℕ). take j (drop h.at (take h.end b ++ (buf ++ rest)))) e ∙ hand-more 0 (omega arith)

  pub brings-read : {E : Type 0} (old new : Option (List ℕ)) (got : Result ℕ E) (r : Buffered) → ReadsAtMost got buf → ReadConsumes old new got buf
      → r ≡ behind h got → Brings old h b new r (take h.end b ++ (buf ++ rest))
  unfolding behind
  brings-read old new (Ok n) r m c e = rw e (record { more = take n buf; behind = hand-more n m.0; taken = c.0 })
  brings-read old new (Err x) r m c e = rw e (record { more = []; behind = hand-none; taken = Consumes-kept old old new [] (Consumes-nil old) c })

open-ended : source.Open ≡ source.Ended → ⊥
open-ended e = cc

none-came : (n : ℕ) → (if eqb n 0 then source.Ended else source.Open) ≡ source.Ended → n ≡ 0
none-came n m = elim (test (eqb n 0)) [ holds z ↦ eqb-true n 0 z | fails z ↦ absurd (open-ended (rw z at m)) ]

pub ended-read : {E : Type 0} (h : Buffered) (buf : List ℕ) (old new : Option (List ℕ)) (got : Result ℕ E) (r : Buffered) → 0 < length buf → ReadConsumes old new got buf
    → r ≡ behind h got → Ended r new
unfolding behind
ended-read h buf old new (Ok n) r u c e = rw e (λ m. c.1 (none-came n m) u)
ended-read h buf old new (Err x) r u c e = rw e (λ m. cc)

pub starts-same : {E : Type 0} (h : Buffered) (got : Result ℕ E) (r : Buffered) → r ≡ behind h got → r.at ≡ h.at
unfolding behind
starts-same h (Ok n) r e = rw e refl
starts-same h (Err x) r e = rw e refl

-- the bytes that a read brought are in the part that it read into
pub came-within : {E : Type 0} (b : List ℕ) (n : ℕ) (buf : List ℕ) (got : Result ℕ E) → n ≤ length b → length buf ≡ length b - n → ReadsAtMost got buf → IfOk got (λ k. n + k ≤ length b)
came-within b n buf (Ok k) h e m = omega (arith, m.0)
came-within b n buf (Err x) h e m = tt
