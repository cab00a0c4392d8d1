-- A record's call as crate call has it, by the record's kind (document 01, "The script program").
use Rattle.std.specs.Prelude.{◌≡◌, ℕ, ◌-◌, ◌^◌, ◌<◌}
use Rattle.std.proofs.Common.{sym, ◌∙◌, eq-eqb, ne_eqb}
use Rattle.std.proofs.Math.Path.{ap, subst}
use Rattle.std.proofs.Math.Option.{none, some}
use Rattle.model.specs.Perform.{Step, Call}
use Rattle.model.specs.CallWords.{StepWords}
use Rattle.region.specs.declared.AccessRights.{AccessRights}
use Rattle.call.specs.declared.Call as code
use Rattle.call.specs.Steps.{step_named}
use Rattle.script_records.specs.declared.Kind.{Kind}
use Rattle.script_records.specs.declared.Record.{Record}
use Rattle.script_records.specs.Script.{handle, manager_of}
use Rattle.script_records.specs.Parsed.{named, rights_for, rights_in, call_for, call_in}
use Rattle.naming.specs.Given.{Given}

abbrev pub access_named : ℕ → ℕ → ℕ → AccessRights
access_named start end rights = record { start = start; end = end; ops = record { 0 = rights } }

-- The call x is what the record names, and its arguments are words.
pub record Names (r : Record) (x : code.Call) : Type 0 where
  pub call : Call.Do (step_named x) ≡ call_in r
  pub words : StepWords (step_named x)

-- ---- where the kind is known

module _ (k : Kind) (r : Record) (e : r.kind ≡ k) where
  pub rights-at : Given r → rights_for (named k) r < 256
  unfolding rights_in
  rights-at g = subst (λ (n : Kind). rights_for (named n) r < 256) e g.rights

  -- the call that kind k names is the record's
  pub names_at : (x : code.Call) → Call.Do (step_named x) ≡ call_for (named k) r → StepWords (step_named x) → Names r x
  unfolding call_in
  names_at x h w = record { call = h ∙ ap (λ (n : Kind). call_for (named n) r) (sym e); words = w }

-- "slot 2^64 − 1 is no manager"
pub alone-is : (slot gen cores : ℕ) → slot ≡ 2 ^ 64 - 1 → Step.Open none cores ≡ Step.Open (manager_of slot gen) cores
alone-is slot gen cores e = rw (eq-eqb slot (2 ^ 64 - 1) e)

pub under-is : (slot gen cores : ℕ) → (slot ≡ 2 ^ 64 - 1 → ⊥) → Step.Open (some (handle slot gen)) cores ≡ Step.Open (manager_of slot gen) cores
under-is slot gen cores n = rw (ne_eqb slot (2 ^ 64 - 1) n)
