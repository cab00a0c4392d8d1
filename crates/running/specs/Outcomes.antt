-- What `Takes` says where the answer is known: a record that was run stood in the bytes at hand and took four of them at least, a length and a kind.
use Rattle.std.specs.Prelude.{◌≡◌, refl, ℕ, ◌≤◌, List, Some, None, Ok, Err, length}
use Rattle.std.proofs.Common.{sym, ap, ◌∙◌, arith}
use Rattle.model.specs.Perform.{Answer}
use Rattle.model.specs.Memory.{After}
use Rattle.script_records.specs.declared.Record.{Record}
use Rattle.script_records.specs.declared.BadRecord.{BadRecord}
use Rattle.script_records.specs.Parsed.{size_of, call_in, Found, bad_found, parsed}
use Rattle.script_records.proofs.Words.{call-size}
use Rattle.script_progress.specs.declared.Ran.{Ran}
use Rattle.running.specs.Takes.{Taken, Takes}

-- one number for each answer, and the bytes taken
abbrev tag : Taken → ℕ
tag (Ok None) = 0
tag (Err e) = 1
tag (Ok (Some y)) = 2

abbrev size_in : Taken → ℕ
size_in (Ok None) = 0
size_in (Err e) = 0
size_in (Ok (Some y)) = y.size

-- The record that was run.
pub record WasRun (b t w : List ℕ) (y : Ran) (t₂ w₂ : List ℕ) : Type 0 where
  pub r : Record
  pub answer : Answer
  pub stood : parsed b ≡ Ok (Some r)
  pub size : y.size ≡ size_of r.kind
  pub after : After t w (call_in r) answer t₂ w₂

-- The bytes at hand are as p says, and the lent memory is as it was.
pub record NotRun (p : Found) (b t w t₂ w₂ : List ℕ) : Type 0 where
  pub stood : parsed b ≡ p
  pub tables : t₂ ≡ t
  pub work : w₂ ≡ w

module _ (b t w t₂ w₂ : List ℕ) (x : Taken) where
  run_by : (y : Ran) → x ≡ Ok (Some y) → (p : Found) → parsed b ≡ p → Takes p t w x t₂ w₂ → WasRun b t w y t₂ w₂
  run_by y e (Ok None) q h = absurd (omega (arith, ap tag (sym e ∙ h.taken)))
  run_by y e (Err z) q h = absurd (omega (arith, ap tag (sym e ∙ h.taken)))
  run_by y e (Ok (Some r)) q h = record { r = r; answer = h.returns.answer; stood = q; size = ap size_in (sym e ∙ h.taken); after = h.returns.after }

  short-by : x ≡ Ok None → (p : Found) → parsed b ≡ p → Takes p t w x t₂ w₂ → NotRun (Ok None) b t w t₂ w₂
  short-by e (Ok None) q h = record { stood = q; tables = h.tables; work = h.work }
  short-by e (Err z) q h = absurd (omega (arith, ap tag (sym e ∙ h.taken)))
  short-by e (Ok (Some r)) q h = absurd (omega (arith, ap tag (sym e ∙ h.taken)))

  bad-by : (z : BadRecord) → x ≡ Err z → (p : Found) → parsed b ≡ p → Takes p t w x t₂ w₂ → NotRun bad_found b t w t₂ w₂
  bad-by z e (Ok None) q h = absurd (omega (arith, ap tag (sym e ∙ h.taken)))
  bad-by z e (Err y) q h = record { stood = q; tables = h.tables; work = h.work }
  bad-by z e (Ok (Some r)) q h = absurd (omega (arith, ap tag (sym e ∙ h.taken)))

  module _ (h : Takes (parsed b) t w x t₂ w₂) where
    pub was-run : (y : Ran) → x ≡ Ok (Some y) → WasRun b t w y t₂ w₂
    was-run y e = run_by y e (parsed b) refl h

    pub was-short : x ≡ Ok None → NotRun (Ok None) b t w t₂ w₂
    was-short e = short-by e (parsed b) refl h

    pub was-bad : (z : BadRecord) → x ≡ Err z → NotRun bad_found b t w t₂ w₂
    was-bad z e = bad-by z e (parsed b) refl h

-- The bytes of a record that was run.
pub taken-size : (b t w t₂ w₂ : List ℕ) (x : Taken) (y : Ran) → x ≡ Ok (Some y) → Takes (parsed b) t w x t₂ w₂ → (4 ≤ y.size) × (y.size ≤ length b)
taken-size b t w t₂ w₂ x y e h =
    let k = was-run b t w t₂ w₂ x h y e in
    let s = call-size b k.r k.stood in
    let m = k.size in
    (omega arith, omega arith)
