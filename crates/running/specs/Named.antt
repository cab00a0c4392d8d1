-- What the call that a record names returns, the record's call returns.
use Rattle.std.proofs.Common.{subst}
use Rattle.std.specs.Prelude.{ℕ, List}
use Rattle.model.specs.Perform.{Call}
use Rattle.call.specs.declared.Call as code
use Rattle.replies.specs.declared.Reply.{Reply}
use Rattle.replies.specs.Replies.{reply_of, Returns}
use Rattle.call.specs.Steps.{step_named}
use Rattle.script_records.specs.declared.Record.{Record}
use Rattle.script_records.specs.Parsed.{call_in}
use Rattle.naming.specs.Named.{Names}

pub names-returns : (r : Record) (x : code.Call) → Names r x → (t w : List ℕ) (y : Reply) (t₂ w₂ : List ℕ) → Returns reply_of t w (Call.Do (step_named x)) y t₂ w₂ → Returns reply_of t w (call_in r) y t₂ w₂
names-returns r x n t w y t₂ w₂ h = subst (λ (c : Call). Returns reply_of t w c y t₂ w₂) n.call h
