-- CreateRevokeCapa keeps Sound: a RegionRevoke of a region that is no root goes into a list.
use Rattle.std.specs.Prelude.{refl, ℕ, not, T}
use Rattle.std.proofs.Common.{sym, subst}
use Rattle.std.proofs.Math.Option.{some}
use Rattle.model.specs.State.{State, Handle, region_revoke, Region, region_at}
use Rattle.model.specs.Pool.{handle_of}
use Rattle.model.specs.Tree.{is_root_kind}
use Rattle.model.specs.Calls.{create_revoke_capa}
use Rattle.model.specs.Sound.{Sound, LiveOrOlder, RevokeFit}
use Rattle.laws.specs.Accepted.{All, bind, checked}
use Rattle.laws.specs.Tree.Steps.{region-at}
use Rattle.laws.specs.Capas.Live.{handle-live, live-fits}
use Rattle.laws.specs.Capas.Checks.{live-domain, region-held}
use Rattle.laws.specs.Capas.Listed.{add-sound}

pub create-revoke-capa-sound : (s : State) (h : Handle) (l : ℕ) → Sound s → All (λ x. Sound x.1) (create_revoke_capa h l s)
unfolding create_revoke_capa
create-revoke-capa-sound s h l k =
    bind (live-domain s h) (λ d m.
    bind (region-held s d l) (λ i n.
    checked (not (is_root_kind (region_at s i).kind)) _ (λ t.
    add-sound s d m.domain (λ u. region_revoke (handle_of u.region_pool i)) k m.is (λ u j. refl) (λ u j. refl)
    (λ u r. subst (λ (v : State). RevokeFit v.region_pool v.regions (some (region_revoke (handle_of v.region_pool i))) × LiveOrOlder v.region_pool v.regions (handle_of v.region_pool i)) (sym r.is)
    ((λ g e o. subst (λ (q : Region). T (not (is_root_kind q.kind))) (region-at s i g e) t), live-fits s.region_pool s.regions _ (handle-live s.region_pool s.regions i n.region n.is))))))
