-- What becomes of the bytes at hand, by what `parsed` finds at their front (crate records, Parsed).
use Rattle.std.specs.Prelude.{◌≡◌, refl, ℕ, List, Option, Some, None, Result, Ok, Err}
use Rattle.std.proofs.Common.{sym, ap, subst, ◌∙◌}
use Rattle.script_records.specs.declared.Record.{Record}
use Rattle.script_records.specs.declared.BadRecord.{BadRecord}
use Rattle.script_records.specs.Parsed.{size_of, call_in, Found, bad_found}
use Rattle.replies.specs.declared.Reply.{Reply}
use Rattle.replies.specs.Replies.{reply_of, Returns}
use Rattle.script_progress.specs.declared.Ran.{Ran}

-- A record that was run; or nothing, for want of bytes or of a record.
abbrev pub Taken : Type 0
Taken = Result (Option Ran) BadRecord

abbrev pub bad_taken : Taken
bad_taken = Err (record {})

-- The record r is run: its call returned `reply`, and its bytes are told.
pub record Runs (r : Record) (t w : List ℕ) (x : Taken) (t' w' : List ℕ) : Type 0 where
  pub reply : Reply
  pub returns : Returns reply_of t w (call_in r) reply t' w'
  pub taken : x ≡ Ok (Some (record { reply = reply; size = size_of r.kind }))

-- Nothing is run, and the lent memory is as it was.
pub record Left (y x : Taken) (t w t' w' : List ℕ) : Type 0 where
  pub taken : x ≡ y
  pub tables : t' ≡ t
  pub work : w' ≡ w

abbrev pub Takes : Found → List ℕ → List ℕ → Taken → List ℕ → List ℕ → Type 0
Takes (Ok None) t w x t' w' = Left (Ok None) x t w t' w'
Takes (Err e) t w x t' w' = Left bad_taken x t w t' w'
Takes (Ok (Some r)) t w x t' w' = Runs r t w x t' w'

-- ---- as the code finds it: p is what parsing gave

module _ (q p : Found) (found : p ≡ q) (t w : List ℕ) where
  pub left-short : p ≡ Ok None → Takes q t w (Ok None) t w
  left-short e = subst (λ (o : Found). Takes o t w (Ok None) t w) (sym e ∙ found) (record { taken = refl; tables = refl; work = refl })

  pub left-bad : p ≡ bad_found → Takes q t w bad_taken t w
  left-bad e = subst (λ (o : Found). Takes o t w bad_taken t w) (sym e ∙ found) (record { taken = refl; tables = refl; work = refl })

  pub record-runs : (r : Record) → p ≡ Ok (Some r) → (y : Reply) (t₂ w₂ : List ℕ) → Returns reply_of t w (call_in r) y t₂ w₂ → (n : ℕ) → n ≡ size_of r.kind
      → Takes q t w (Ok (Some (record { reply = y; size = n }))) t₂ w₂
  record-runs r e y t₂ w₂ h n m =
      subst (λ (o : Found). Takes o t w (Ok (Some (record { reply = y; size = n }))) t₂ w₂) (sym e ∙ found)
      (record { reply = y; returns = h; taken = ap (λ (i : ℕ). Ok (Some (record { reply = y; size = i }))) m })
