-- The text stays in its run. Whoever prints those that are left prints the domain's.
use Rattle.std.proofs.Common.{◌-◌, ◌*◌, ◌≤◌, length, drop}
use Rattle.output.specs.Printing.{Rest}
use Rattle.script_text.specs.ScriptText.{domain_text}
use Rattle.script_text.proofs.Domains.{lines_in}
use Rattle.script.proofs.list_domain.Given as goal

abbrev pub invariant-loop-i : goal.invariant-loop-i
invariant-loop-i g l =
    (l.q.n ≤ length l.initial.text)
    × (5 * l.lines ≤ length l.run → Rest l.initial.text l.initial.q (domain_text (lines_in l.lines l.run)) l.text l.q (domain_text (lines_in (l.lines - l.i) (drop (5 * l.i) l.run))))
