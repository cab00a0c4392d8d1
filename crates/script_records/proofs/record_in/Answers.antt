-- Field by field.
use Rattle.script_records.proofs.record_in.Goals as goal

pub returns : goal.returns
returns c = rw (c.number_at.ensures.value, c.number_at-2.ensures.value, c.number_at-3.ensures.value, c.number_at-4.ensures.value, c.number_at-5.ensures.value, c.number_at-6.ensures.value)
