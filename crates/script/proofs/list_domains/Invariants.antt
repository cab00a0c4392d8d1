-- The text stays in its run. Reached tables are sized. Whoever prints the domains that are left prints them all.
use Rattle.std.proofs.Common.{◌≤◌, length, drop}
use Rattle.model.specs.State.{State}
use Rattle.listing.specs.Lines.{lines_from, domain_lines}
use Rattle.output.specs.Printing.{Rest}
use Rattle.script_text.specs.ScriptText.{domain_text}
use Rattle.script_text.specs.Domains.{Holds}
use Rattle.script.proofs.list_domains.Given as goal

abbrev pub invariant-loop-d : goal.invariant-loop-d
invariant-loop-d g l =
    (l.q.n ≤ length l.initial.text)
    × ((s : State) → Holds l.t s → Rest l.initial.text l.initial.q (domain_text (domain_lines s)) l.text l.q (domain_text (lines_from l.d (drop l.d s.domains))))
