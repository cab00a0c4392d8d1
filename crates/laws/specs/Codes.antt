-- The code of an answer tells whether the call was accepted: no call is refused with 0, on any memory.
use Rattle.std.specs.Prelude.{◌≡◌, refl, ℕ, ◌<◌, List, map, length}
use Rattle.std.proofs.Common.{arith}
use Rattle.refusals.specs.declared.Refusal.{Refusal}
use Rattle.refusals.specs.Refusals.{number, all}
use Rattle.model.specs.Lists.{count_up}
use Rattle.model.specs.Outcome.{Outcome, ok, refuse}
use Rattle.model.specs.State.{State}
use Rattle.model.specs.Perform.{Call, Value, Answer, after, perform, step}
use Rattle.model.specs.Making.{make_in}
use Rattle.model.specs.Memory.{made_answer, After, made, not_sound, performed}
use Rattle.laws.specs.CallRefusals.{refusal-above, making-above}

-- The numbers go 1, 2, 3, .., so that no two refusals have the same.
pub numbers : map number all ≡ count_up 1 (length all)
numbers = refl

-- Where the answer is a refusal, its number is above 0.
abbrev pub Coded : Answer → Type 0
Coded (Answer.yes y) = Unit {0}
Coded (Answer.no r) = 0 < number r

coded : (s : State) (m : Outcome (Value × State)) → ((r : Refusal) → m ≡ refuse r → 0 < number r) → Coded (after s m).0
coded s (ok x) h = tt
coded s (refuse r) h = h r refl

pub step-coded : (s : State) (c : Call) → Coded (step s c).0
unfolding step
step-coded s c = coded s (perform s c) (refusal-above s c)

made-coded : (m : Outcome State) → ((r : Refusal) → m ≡ refuse r → 0 < number r) → Coded (made_answer m)
made-coded (ok s) h = tt
made-coded (refuse r) h = h r refl

pub after-coded : (t w t' w' : List ℕ) (c : Call) (y : Answer) → After t w c y t' w' → Coded y
after-coded t w t' w' c y a = go c y t' w' a
  where
    go : (c : Call) (y : Answer) (u v : List ℕ) → After t w c y u v → Coded y
    go c y u v (made z) = made-coded (make_in (length t) (length w) z) (making-above _ _ z)
    go c y u v (not_sound d q n) = omega arith
    go c y u v (performed d s q l) = step-coded s d
