-- **Channel** keeps book and tables matched.
use Rattle.std.proofs.Common.{◌∙◌}
use Rattle.model.specs.State.{State, Handle, channel}
use Rattle.model.specs.Calls.{open_channel}
use Rattle.laws.specs.Accepted.{All, bind, weaken}
use Rattle.book.specs.Book.{Book, channel_of, make_room, give}
use Rattle.book.specs.Matches.{same_channel, Matches, matches}
use Rattle.book.proofs.Slots.{capacity-match, insert-match}
use Rattle.book.proofs.Checks.{on-domain, live-opens}

pub channel-match : (b : Book) (s : State) (h to : Handle) → Matches b s → All (λ x. Matches (give h.slot x.0 (channel_of to) b) x.1) (open_channel h to s)
unfolding open_channel give
channel-match b s h to g =
    on-domain s h _ (λ k.
    on-domain s to _ (λ j.
    bind (capacity-match b s _ _ g.fits h.slot (live-opens s h k)) (λ s₁ q.
    weaken (insert-match (make_room h.slot b) s₁ _ _ q.0 h.slot (q.1.opens h.slot ∙ live-opens s h k) (channel_of to) (channel to) same_channel) (λ x r. matches _ _ _ _ r.0))))
