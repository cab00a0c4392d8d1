-- **CreateRevokeCapa** keeps book and tables matched.
use Rattle.std.proofs.Common.{ap, ◌∙◌}
use Rattle.std.specs.Prelude.{ℕ}
use Rattle.model.specs.State.{State, Handle, region_revoke}
use Rattle.model.specs.Pool.{handle_of}
use Rattle.model.specs.Calls.{create_revoke_capa}
use Rattle.laws.specs.Accepted.{All, bind, and_then, weaken}
use Rattle.book.specs.Book.{Book, revoke_of, held_at, place_in, make_room, give}
use Rattle.book.specs.Matches.{same_revoke, Matches, matches}
use Rattle.book.proofs.Slots.{capacity-match, insert-match}
use Rattle.book.proofs.Checks.{on-domain, live-opens}
use Rattle.book.proofs.Held.{region-found}

pub make-revoke-match : (b : Book) (s : State) (h : Handle) (l : ℕ) → Matches b s → All (λ x. Matches (give h.slot x.0 (revoke_of (place_in (held_at b h.slot l))) b) x.1) (create_revoke_capa h l s)
unfolding create_revoke_capa give make_room
make-revoke-match b s h l g =
    on-domain s h _ (λ k.
    bind (region-found b s _ _ g.fits h.slot l) (λ i f.
    and_then _ (bind (capacity-match b s _ _ g.fits h.slot (live-opens s h k)) (λ s₁ q.
    weaken (insert-match (make_room h.slot b) s₁ _ _ q.0 h.slot (q.1.opens h.slot ∙ live-opens s h k) (revoke_of (place_in (held_at b h.slot l))) (region_revoke (handle_of s₁.region_pool i)) (same_revoke (f.below, ap (λ p. handle_of p i) q.1.pool ∙ f.here))) (λ x r. matches _ _ _ _ r.0)))))
