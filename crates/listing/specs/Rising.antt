-- The lines slot by slot: those from slot d on are slot d's, and then those from the next slot on.
use Rattle.std.specs.Prelude.{◌≡◌, refl, ℕ, suc, ◌≤◌, ◌<◌, List, [], ◌++◌, length, drop}
use Rattle.std.proofs.Math.Option.{Option, none}
use Rattle.std.proofs.Common.{drop_of_length-le, drop-cons}
use Rattle.model.specs.Lists.{at_slot}
use Rattle.model.specs.State.{State, Domain}
use Rattle.listing.specs.Lines.{slot_lines, lines_from, domain_lines}

pub lines-first : (s : State) → domain_lines s ≡ lines_from 0 (drop 0 s.domains)
unfolding domain_lines
lines-first s = refl

module _ (l : List (Option Domain)) (d : ℕ) where
  pub lines_next : d < length l → lines_from d (drop d l) ≡ slot_lines d (at_slot l d) ++ lines_from (suc d) (drop (suc d) l)
  lines_next h = rw (drop-cons l d none h)

  pub lines-last : length l ≤ d → lines_from d (drop d l) ≡ []
  lines-last h = rw (drop_of_length-le l h)
