-- **Root** keeps book and tables matched.
use Rattle.std.specs.Prelude.{◌≡◌, refl, ℕ, false, [], length}
use Rattle.std.proofs.Common.{ap, ◌∙◌}
use Rattle.std.proofs.Math.Option.{some}
use Rattle.base.specs.Tests.{true-is}
use Rattle.model.specs.Lists.{is_some}
use Rattle.model.specs.State.{State, Handle, Root, Access, parent_of}
use Rattle.model.specs.Calls.{create_root_region}
use Rattle.model.specs.Sound.{Sound}
use Rattle.laws.specs.Accepted.{All, accepted, bind}
use Rattle.book.specs.Book.{Book, make_room, put, give, added, created}
use Rattle.book.specs.Matches.{Matches, matches}
use Rattle.book.proofs.Checks.{on-domain, live-opens}
use Rattle.book.proofs.Trackers.{activate-match}
use Rattle.book.proofs.NewRegion.{new-region-match, room-match, slot-match, once_after}

no-parent : (q : ℕ) → parent_of Root ≡ some q → ⊥
no-parent q e = true-is {b = false} (ap is_some e)

pub root-match : (b : Book) (s : State) (h : Handle) (a : Access) → Sound s → Matches b s → All (λ x. Matches (created Root h.slot x.0 a b) x.1) (create_root_region h a s)
unfolding create_root_region created give put added make_room
root-match b s h a sound g =
    on-domain s h _ (λ l.
    bind (room-match b s _ _ h.slot a g.fits (live-opens s h l)) (λ s₁ q.
    bind (new-region-match (make_room h.slot b) s₁ _ _ h.slot Root Root a s.sizes.regions (once_after s s₁ q.1 sound) (ap length q.1.regions ∙ sound.outside.regions_length) q.0 refl (λ p e. absurd (no-parent p e)) (λ p e. absurd (no-parent p e))) (λ x w.
    bind (slot-match (make_room h.slot b) s₁ x.1 h.slot Root a _ _ _ w.fits w.last w.domains (q.1.opens h.slot ∙ live-opens s h l)) (λ y r.
    bind (activate-match _ _ _ [] y.1 h.slot a r.fits (r.opens h.slot ∙ q.1.opens h.slot ∙ live-opens s h l)) (λ s₄ c.
    accepted (matches _ _ _ _ c.0))))))
