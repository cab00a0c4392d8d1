-- **Carve** keeps book and tables matched.
use Rattle.std.specs.Prelude.{◌≡◌, ℕ, true, [], eqb, length}
use Rattle.std.proofs.Common.{ap, ◌∙◌}
use Rattle.model.specs.Lists.{is_some, at_slot}
use Rattle.model.specs.State.{State, Handle, Kind, Carve, Access}
use Rattle.model.specs.Calls.{carve_region, exchange_rights}
use Rattle.model.specs.Sound.{Sound}
use Rattle.laws.specs.Accepted.{All, accepted, bind, and_then, weaken, branch}
use Rattle.book.specs.Book.{Book, held_at, place_in, make_room, put, give, added, created}
use Rattle.book.specs.Matches.{MatchesAt, Matches, matches}
use Rattle.book.proofs.Checks.{on-caller, live-opens}
use Rattle.book.proofs.Trackers.{activate-match, deactivate-match}
use Rattle.book.proofs.Held.{region-found}
use Rattle.book.proofs.NewRegion.{room-match, once_after}
use Rattle.book.proofs.Child.{child-match, parent-lives, parent-below}

exchange-match : (b : Book) (at : ℕ → Handle) (place : ℕ → ℕ) (s : State) (d old : ℕ) (a : Access) → MatchesAt b s at place → is_some (at_slot s.domains d) ≡ true → All (λ t. MatchesAt b t at place) (exchange_rights d old a s)
unfolding exchange_rights
exchange-match b at place s d old a m i =
    branch (eqb old a.rights) (accepted m)
    (bind (deactivate-match b at place [] s d _ m i) (λ s₁ c. weaken (activate-match b at place [] s₁ d a c.0 (c.1.opens d ∙ i)) (λ t e. e.0)))

pub carve-match : (b : Book) (s : State) (h : Handle) (l : ℕ) (a : Access) → Sound s → Matches b s → All (λ x. Matches (created (Carve (place_in (held_at b h.slot l))) h.slot x.0 a b) x.1) (carve_region h l a s)
unfolding carve_region created give put added make_room
carve-match b s h l a sound g =
    on-caller _ s h _ (λ v.
    bind (region-found b s _ _ g.fits h.slot l) (λ p f.
    bind (room-match b s _ _ h.slot a g.fits (live-opens s h v)) (λ s₁ q.
    and_then _ (bind (child-match (make_room h.slot b) s₁ _ _ h.slot p (Carve (place_in (held_at b h.slot l))) (Carve p) a s.sizes.regions (once_after s s₁ q.1 sound) (ap length q.1.regions ∙ sound.outside.regions_length) q.0 (ap (λ (x : Handle). Kind.Carve x.slot) f.here) (λ k e. parent-below _ _ k f.below e) (λ k e. parent-lives b _ k f.lives e) (ap (λ gs. is_some (at_slot gs p)) q.1.regions ∙ f.there) (q.1.opens h.slot ∙ live-opens s h v)) (λ y r.
    bind (exchange-match _ _ _ y.1 h.slot _ a r.fits (r.opens h.slot ∙ q.1.opens h.slot ∙ live-opens s h v)) (λ s₄ c.
    accepted (matches _ _ _ _ c)))))))
