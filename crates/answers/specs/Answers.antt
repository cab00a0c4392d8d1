-- What a step on the tables answers and leaves. The first refusal ends a sequence of steps, as `?` does in the source; the tables are then as the
-- refused step left them, which may be half changed.
use Rattle.std.specs.Prelude.{◌≡◌, ℕ, Result, Ok, Err}
use Rattle.std.proofs.Common.{ap}
use Rattle.tables.specs.Tables.{Tables}
use Rattle.refusals.specs.declared.Refusal.{Refusal}

-- a value, 0 where there is none; or a refusal
abbrev pub Answer : Type 0
Answer = Result ℕ Refusal

-- what a step answers, and the tables that it leaves
pub record Effect : Type 0 where
  pub answer : Answer
  pub tables : Tables

abbrev pub done : ℕ → Tables → Effect
done v s = record { answer = Ok v; tables = s }

abbrev pub refused : Refusal → Tables → Effect
refused r s = record { answer = Err r; tables = s }

abbrev afterwards : Answer → Tables → (ℕ → Tables → Effect) → Effect
afterwards (Ok v) s f = f v s
afterwards (Err r) s f = refused r s

-- one step after another, with the first one's value
unfoldable pub and_then : Effect → (ℕ → Tables → Effect) → Effect
and_then x f = afterwards x.answer x.tables f

pub then-done : (x : Effect) (f : ℕ → Tables → Effect) (v : ℕ) → x.answer ≡ Ok v → and_then x f ≡ f v x.tables
unfolding and_then
then-done x f v e = ap (λ a. afterwards a x.tables f) e

pub then-refused : (x : Effect) (f : ℕ → Tables → Effect) (r : Refusal) → x.answer ≡ Err r → and_then x f ≡ refused r x.tables
unfolding and_then
then-refused x f r e = ap (λ a. afterwards a x.tables f) e
