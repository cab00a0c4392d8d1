-- Document 01's worked example ("The script program"): the lines after its calls.
use Rattle.std.specs.Prelude.{◌≡◌, refl, [], ◌∷◌}
use Rattle.model.specs.State.{State}
use Rattle.model.specs.Making.{empty_tables, script_sizes}
use Rattle.model.specs.Perform.{run}
use Rattle.model.proofs.Checked.Compute.{computing}
use Rattle.model.proofs.Checked.Script.{example}
use Rattle.listing.specs.Lines.{domain_lines}

abbrev after : State
after = (run (empty_tables script_sizes) example).1

example-domains : domain_lines after ≡ (0 ∷ 0 ∷ 4 ∷ 3 ∷ 2 ∷ []) ∷ (0 ∷ 8 ∷ 16 ∷ 3 ∷ 1 ∷ []) ∷ (1 ∷ 4 ∷ 8 ∷ 1 ∷ 1 ∷ []) ∷ []
unfolding computing domain_lines
example-domains = refl
