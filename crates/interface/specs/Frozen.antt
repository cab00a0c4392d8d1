-- "a freeze that can't be lifted" (document 02, request 2): the words of `freeze-holds`, and what it and its two corollaries claim. Proofs: Freeze.
use Rattle.std.specs.Prelude.{◌≡◌, ◌⊎◌, ℕ, ◌<◌, Bool, true, false, List, T, get_or}
use Rattle.model.specs.Lists.{exists, Each, In}
use Rattle.model.specs.State.{State, Domain}
use Rattle.model.specs.Pool.{handle_of, is_live}
use Rattle.model.specs.Perform.{Step, Call, step, run}
use Rattle.model.specs.CallWords.{CallWords}
use Rattle.model.specs.Sound.{Sound}
use Rattle.model.specs.Memory.{NotMake}

-- Slot d has a domain still, with the same interface, and the domain's handle is the same.
abbrev pub Stays : ℕ → Domain → State → State → Type 0
Stays d x s t = (y : Domain) × In t.domains d y × (y.interface ≡ x.interface) × (handle_of t.domain_pool d ≡ handle_of s.domain_pool d)

-- The domain that was in slot d is closed: the slot's generation has risen, so that the domain's handle is dead for good.
abbrev pub Gone : ℕ → State → State → Type 0
Gone d s t = get_or s.domain_pool.gens d 0 < get_or t.domain_pool.gens d 0

-- the one call that closes domains
abbrev pub is_revoke : Call → Bool
is_revoke (Call.Make z) = false
is_revoke (Call.Do (Step.Open m cores)) = false
is_revoke (Call.Do (Step.Channel h to)) = false
is_revoke (Call.Do (Step.SetCoreMap h cores)) = false
is_revoke (Call.Do (Step.SetInterface h word)) = false
is_revoke (Call.Do (Step.FreezeInterface h)) = false
is_revoke (Call.Do (Step.Root h a)) = false
is_revoke (Call.Do (Step.Alias h l a)) = false
is_revoke (Call.Do (Step.Carve h l a)) = false
is_revoke (Call.Do (Step.Send h l target o)) = false
is_revoke (Call.Do (Step.Revoke h l)) = true
is_revoke (Call.Do (Step.CreateRevokeCapa h l)) = false
is_revoke Call.Pop = false
is_revoke (Call.Read r) = false

-- Of one call but a making: the frozen domain x in slot d stays, or the call is a revoke and the domain is closed. The tables are sound: in others an
-- opening could take a slot in use.
abbrev pub FreezeHolds : Type 0
FreezeHolds = (s : State) (c : Call) → Sound s → NotMake c → (d : ℕ) (x : Domain) → In s.domains d x → x.interface.frozen ≡ true →
    Stays d x s (step s c).1 ⊎ (T (is_revoke c) × Gone d s (step s c).1)

-- Of any list of such calls: one of them is a revoke where the domain is closed.
abbrev pub FreezeHoldsRun : Type 0
FreezeHoldsRun = (s : State) (cs : List Call) → Sound s → Each CallWords cs → Each NotMake cs → (d : ℕ) (x : Domain) → In s.domains d x → x.interface.frozen ≡ true →
    Stays d x s (run s cs).1 ⊎ (T (exists is_revoke cs) × Gone d s (run s cs).1)

-- As long as the domain lives, that is by its handle, its interface is what it was.
abbrev pub FreezeHoldsLive : Type 0
FreezeHoldsLive = (s : State) (cs : List Call) → Sound s → Each CallWords cs → Each NotMake cs → (d : ℕ) (x : Domain) → In s.domains d x → x.interface.frozen ≡ true →
    T (is_live (run s cs).1.domain_pool (run s cs).1.domains (handle_of s.domain_pool d)) → Stays d x s (run s cs).1
