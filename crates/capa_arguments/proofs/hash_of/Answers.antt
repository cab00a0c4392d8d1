-- Each word is a number of eight bytes.
use Rattle.capa_arguments.proofs.hash_of.Goals as goal

pub returns : goal.returns
returns c = rw (c.number_at.ensures.value, c.number_at-2.ensures.value, c.number_at-3.ensures.value, c.number_at-4.ensures.value)
