-- **Pop** leaves the book.
use Rattle.std.specs.Prelude.{◌≡◌, List, [], ◌∷◌}
use Rattle.model.specs.State.{State, Update}
use Rattle.model.specs.Updates.{pop}
use Rattle.book.specs.Book.{Book}
use Rattle.book.specs.Matches.{Matches}

pub pop-match : (b : Book) (s : State) (us : List Update) → s.queue.items ≡ us → Matches b s → Matches b (pop s).1
unfolding pop
pop-match b s [] e g = rw (e, pop) g
pop-match b s (u ∷ us) e g = rw (e, pop) (record { at = g.at; place = g.place; fits = record { sizes = g.fits.sizes; regions = g.fits.regions; lists = g.fits.lists; generations = g.fits.generations } })
