-- A script that is read piece by piece: b is at hand, and more follows. What `parsed` finds in b says what the calls of the whole are, so that a reader that
-- keeps this equation comes to the script's calls.
use Rattle.std.specs.Prelude.{◌≡◌, ℕ, ◌<◌, true, List, Some, None, Ok, [], ◌++◌, length, drop}
use Rattle.script_records.specs.declared.Record.{Record}
use Rattle.script_records.specs.Script.{ahead, script_calls}
use Rattle.script_records.specs.Parsed.{size_of, call_in, bad_found, parsed}
use Rattle.script_records.proofs.Fronts.{front-call, front-bad, front_cut}
use Rattle.script_records.proofs.Scripts.{script-bad, script-call}

module _ (b : List ℕ) where
  -- a call, whose bytes are then taken off
  pub stream-call : (more : List ℕ) (r : Record) → parsed b ≡ Ok (Some r) → script_calls (b ++ more) ≡ ahead (call_in r) (script_calls (drop (size_of r.kind) b ++ more))
  stream-call more r e = script-call (b ++ more) (call_in r) (drop (size_of r.kind) b ++ more) (front-call b more r e)

  -- a bad record, whatever follows
  pub stream-bad : (more : List ℕ) → parsed b ≡ bad_found → script_calls (b ++ more) ≡ ([], true)
  stream-bad more e = script-bad (b ++ more) (front-bad b more e)

  -- a record that is cut, where no more follows
  pub stream-cut : 0 < length b → parsed b ≡ Ok None → script_calls b ≡ ([], true)
  stream-cut h e = script-bad b (front_cut b h e)
