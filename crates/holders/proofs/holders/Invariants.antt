-- The run and the number so far and the holders from here on are the whole.
use Rattle.std.proofs.Common.{◌≡◌, ◌-◌, ◌≤◌, length}
use Rattle.tables.specs.View.{view}
use Rattle.holders.proofs.Filling.{Filling}
use Rattle.holders.proofs.holders.Given as goal

abbrev pub invariant-loop-d : goal.invariant-loop-d
invariant-loop-d l = record {
  counted : l.n ≤ l.d;
  length_kept : length l.run ≡ length l.initial.run;
  filling : Filling (view l.t) l.a (l.domains - l.d) l.n l.d l.run l.domains l.initial.run;
}
