-- **SetCoreMap** leaves the book.
use Rattle.std.specs.Prelude.{refl, ℕ}
use Rattle.model.specs.State.{State, Handle}
use Rattle.model.specs.Calls.{set_core_map}
use Rattle.laws.specs.Accepted.{All, accepted}
use Rattle.book.specs.Book.{Book}
use Rattle.book.proofs.Slots.{domain-match}
use Rattle.book.specs.Matches.{Matches, matches}
use Rattle.book.proofs.Checks.{on-domain, live-opens}

pub cores-match : (b : Book) (s : State) (h : Handle) (c : ℕ) → Matches b s → All (λ t. Matches b t) (set_core_map h c s)
unfolding set_core_map
cores-match b s h c g = on-domain s h _ (λ k. accepted (matches _ _ _ _ (domain-match b s _ _ g.fits h.slot (live-opens s h k) _ refl)))
