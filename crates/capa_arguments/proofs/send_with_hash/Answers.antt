-- The hash by its bytes.
use borrow.Author.Rules.{rules}
use Rattle.capa_arguments.proofs.send_with_hash.Goals as goal

pub returns : goal.returns
returns c = record { result_value = rw c.hash_of-hash.ensures; step_words = search rules }
