-- **SetInterface** and **FreezeInterface** leave the book.
use Rattle.std.specs.Prelude.{refl, ℕ}
use Rattle.model.specs.State.{State, Handle}
use Rattle.model.specs.Calls.{set_interface, freeze_interface}
use Rattle.laws.specs.Accepted.{All, accepted, and_then}
use Rattle.book.specs.Book.{Book}
use Rattle.book.proofs.Slots.{domain-match}
use Rattle.book.specs.Matches.{Matches, matches}
use Rattle.book.proofs.Checks.{on-domain, live-opens}

module _ (b : Book) (s : State) (h : Handle) (g : Matches b s) where
  pub set-interface-match : (word : ℕ) → All (λ t. Matches b t) (set_interface h word s)
  unfolding set_interface
  set-interface-match word = on-domain s h _ (λ k. and_then _ (accepted (matches _ _ _ _ (domain-match b s _ _ g.fits h.slot (live-opens s h k) _ refl))))

  pub freeze-interface-match : All (λ t. Matches b t) (freeze_interface h s)
  unfolding freeze_interface
  freeze-interface-match = on-domain s h _ (λ k. accepted (matches _ _ _ _ (domain-match b s _ _ g.fits h.slot (live-opens s h k) _ refl)))
