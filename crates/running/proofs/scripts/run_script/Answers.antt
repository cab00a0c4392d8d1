-- Made anew, then run; or refused as the making was.
use Rattle.running.specs.Made.{dealt-refused, dealt-ran}
use borrow.Author.Rules.{rules}
use Rattle.running.proofs.scripts.run_script.Goals as goal

pub returns-then-made-eq0 : goal.returns-then-made-eq0
returns-then-made-eq0 c = dealt-ran _ _ _ _ _ _ c.make_tables-made.ensures c.if-made-eq0.true _ _ _ c.run_records.ensures

pub returns : goal.returns
returns c = dealt-refused c.args.b.now _ _ _ _ _ c.make_tables-made.ensures c.if-made-eq0.false
