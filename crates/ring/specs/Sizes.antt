-- No step changes the size of the ring.
use Rattle.std.specs.Prelude.{ℕ, ◌≡◌, refl, Bool, true, false, get_or, Some, None}
use Rattle.base.specs.Cases.{pick}
use Rattle.ring.specs.declared.Entry.{Entry}
use Rattle.ring.specs.declared.Ring.{Ring}
use Rattle.ring.specs.Ring.{PushOut, PopOut, no_entry, room_b, put_in, push_of, some_b, take_out, pop_of}

pub size-picked : {A : Type 0} (g : A → Ring) (b : Bool) (x y : A) (n : ℕ) → (g x).size ≡ n → (g y).size ≡ n → (g (pick b x y)).size ≡ n
size-picked g true x y n e f = e
size-picked g false x y n e f = f

abbrev left : PushOut → Ring
left o = o.ring

pub push-size : (r : Ring) (u : Entry) → (push_of r u).ring.size ≡ r.size
unfolding push_of
push-size r u = size-picked left (room_b r) (record { ok = true; ring = put_in r u }) (record { ok = false; ring = r }) r.size refl refl

pub pop-size : (r : Ring) → (pop_of r).ring.size ≡ r.size
unfolding pop_of
pop-size r =
    size-picked (λ (o : PopOut). o.ring) (some_b r) (record { item = Some (get_or r.places r.read no_entry); ring = take_out r })
    (record { item = None; ring = r }) r.size refl refl
