-- The lengths are right, so the making is accepted; what the records leave is reached, and the lists are of what they leave.
use Rattle.promise.proofs.Reached.{reached_then}
use Rattle.running.specs.Reached.{made-reached}
use Rattle.script_text.proofs.Whole.{made-lent, ran-holds, ran-output}
use Rattle.script.proofs.run.Goals as goal

pub list_domains-p-requires-clause-script_tables : goal.list_domains-p-requires-clause-script_tables
list_domains-p-requires-clause-script_tables g c = reached_then (made-reached tt c.requires.fit.tables c.requires.fit.work c.make_tables.ensures) c.run_records-x.ensures.leads

pub list_queue-q-requires-clause-script_tables : goal.list_queue-q-requires-clause-script_tables
list_queue-q-requires-clause-script_tables g c = reached_then (made-reached tt c.requires.fit.tables c.requires.fit.work c.make_tables.ensures) c.run_records-x.ensures.leads

pub returns-clause-output : goal.returns-clause-output
returns-clause-output g c =
    let x = c.run_records-x.ensures.ran_all _ (made-lent c.requires.fit c.make_tables.ensures) in
    ran-output x (c.list_domains-p.ensures.prints _ (ran-holds x)) (c.list_queue-q.ensures.prints _ x.lent x.sizes)
