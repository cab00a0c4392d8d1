-- Pop keeps Sound: an update leaves the queue.
use Rattle.std.specs.Prelude.{ℕ, ◌+◌, ◌%◌, ◌<◌, List, [], ◌∷◌}
use Rattle.std.proofs.Common.{arith, mod-lt}
use Rattle.model.specs.State.{State, Queue, Update, permission, cleanup, with_queue}
use Rattle.model.specs.Updates.{pop}
use Rattle.model.specs.Sound.{Sound, QueueSound}

-- only the queue changes, so that all else stays
pub with-queue : (s : State) (q : Queue) → Sound s → QueueSound s.sizes.updates s.domain_pool s.domains q → Sound (with_queue q s)
with-queue s q h k = search

-- the second of two places, going round
next_place : (n f : ℕ) → (f + 1) % (n + 1) < n + 1
next_place n f = mod-lt (f + 1) (omega arith)

pop-go : (s : State) (f : ℕ) (us : List Update) → Sound (with_queue (record { read_place = f; items = us }) s) → Sound (pop (with_queue (record { read_place = f; items = us }) s)).1
unfolding pop
pop-go s f [] h = h
pop-go s f (permission k c m ∷ us) h = with-queue (with_queue (record { read_place = f; items = permission k c m ∷ us }) s) (record { read_place = (f + 1) % (s.sizes.updates + 1); items = us }) h
    (record { read_place = next_place s.sizes.updates f; fits = omega arith; handles_fit = h.queue.handles_fit.1; singly = h.queue.singly.1; queued_words = h.queue.queued_words.1 })
pop-go s f (cleanup a b ∷ us) h = with-queue (with_queue (record { read_place = f; items = cleanup a b ∷ us }) s) (record { read_place = (f + 1) % (s.sizes.updates + 1); items = us }) h
    (record { read_place = next_place s.sizes.updates f; fits = omega arith; handles_fit = h.queue.handles_fit.1; singly = h.queue.singly; queued_words = h.queue.queued_words.1 })

pub pop-sound : (s : State) → Sound s → Sound (pop s).1
pop-sound s h = pop-go s s.queue.read_place s.queue.items h
