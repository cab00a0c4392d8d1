-- There are at most as many lines as records, so that each place of the run is a number; a line that is printed is one of those that were left.
use Rattle.std.proofs.Common.{ℕ, rules, arith}
use Rattle.std.specs.Prelude.{replicate}
use Rattle.std.proofs.lemmas.List.{length-replicate}
use Rattle.output.specs.Printing.{prints-next}
use Rattle.script_text.proofs.Domains.{line-printed, lines-printed, found-printed}
use Rattle.script.specs.Bounds.{lines-few}
use Rattle.script.proofs.list_domain.Goals as goal

pub overflow_mul-i : goal.overflow_mul-i
overflow_mul-i g c = let l = lines-few c.args.t.now c.args.d c.requires.sized in omega (arith, l, c.fill_lines-lines.ensures.value)

pub domain_line-requires-clause-at_bound : goal.domain_line-requires-clause-at_bound
domain_line-requires-clause-at_bound g c = let l = lines-few c.args.t.now c.args.d c.requires.sized in omega (arith, l, c.fill_lines-lines.ensures.value)

pub loop-i-preserved : goal.loop-i-preserved
loop-i-preserved g c = (
  omega (arith, c.domain_line.ensures.upper_bound, c.room-q.ensures.n_in_bounds_2, c.loop-i.auto.text),
  λ f.
      line-printed _ _ f (c.loop-i.invariant.1 f) c.loop-i-test.true
      (prints-next _ _ _ c.room-q.ensures.value c.room-q.ensures.n_value c.room-q.ensures.failed_value c.domain_line.ensures.puts (omega (arith, c.domain_line.ensures.upper_bound, c.room-q.ensures.n_in_bounds_2))),
)

pub returns-clause-prints : goal.returns-clause-prints
returns-clause-prints g c = λ s h.
    found-printed _ s h _ (replicate 640 0) (length-replicate {A = ℕ} 640 0) c.fill_lines-lines.ensures.run_after (search rules) c.fill_lines-lines.ensures.value
    (λ f. lines-printed _ _ f (c.loop-i.invariant.1 f) c.loop-i-test.false)
