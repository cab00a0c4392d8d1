-- Queueing does not change the size of the ring.
use Rattle.std.specs.Prelude.{ℕ, ◌≡◌, refl, true}
use Rattle.ring.specs.declared.Ring.{Ring}
use Rattle.ring.specs.Ring.{PushOut, push_of, permission_of}
use Rattle.ring.specs.Sizes.{size-picked, push-size}
use Rattle.ring_search.specs.Queueing.{place_of, gather_in, found_b, queue_of}

pub queue-size : (r : Ring) (d g c m : ℕ) → (queue_of r d g c m).ring.size ≡ r.size
unfolding queue_of
queue-size r d g c m =
    let i = place_of r d g in
    size-picked (λ (o : PushOut). o.ring) (found_b r i) (record { ok = true; ring = gather_in r i m }) (push_of r (permission_of d g c m)) r.size refl (push-size r (permission_of d g c m))
