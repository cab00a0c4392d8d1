-- Channel keeps Sound: a Channel capability of a live domain goes into a list.
use Rattle.std.specs.Prelude.{refl}
use Rattle.std.proofs.Common.{sym, subst}
use Rattle.model.specs.State.{State, Handle, channel}
use Rattle.model.specs.Calls.{open_channel}
use Rattle.model.specs.Sound.{Sound, LiveOrOlder}
use Rattle.laws.specs.Accepted.{All, bind}
use Rattle.laws.specs.Capas.Live.{live-fits}
use Rattle.laws.specs.Capas.Change.{relist, relist-live}
use Rattle.laws.specs.Capas.Checks.{live-domain}
use Rattle.laws.specs.Capas.Listed.{add-sound}

pub channel-sound : (s : State) (h to : Handle) → Sound s → All (λ x. Sound x.1) (open_channel h to s)
unfolding open_channel
channel-sound s h to k =
    bind (live-domain s h) (λ d l.
    bind (live-domain s to) (λ t m.
    add-sound s d l.domain (λ u. channel to) k l.is (λ u j. refl) (λ u j. refl)
    (λ u r. (tt, subst (λ (v : State). LiveOrOlder v.domain_pool v.domains to) (sym r.is) (live-fits s.domain_pool (relist d l.domain r.list s).domains to (relist-live s d l.domain l.is r.list to m.live))))))
