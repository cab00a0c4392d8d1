-- Which refusals a call can meet, whatever the tables: those that the documents list for it (document 01, **Order of checks**). One rule for each step that
-- says what it can be refused with; a call is its steps one after another.
use Rattle.std.specs.Prelude.{◌≡◌, ℕ, ◌<◌, ◌&&◌, List, [], ◌∷◌, T, eqb, ltb}
use Rattle.std.proofs.Common.{ltb→lt}
use Rattle.std.proofs.Math.Option.{Option, none, some}
use Rattle.std.specs.Float.Ieee.Fits.{and_l, and_r}
use Rattle.model.specs.Lists.{exists}
use Rattle.model.specs.Outcome.{refuse}
use Rattle.refusals.specs.declared.Refusal.{Refusal}
use Rattle.refusals.specs.Refusals.{number, memory, sizes, no_domain, no_slot, wrong_kind, stale, bad_range, beyond, is_root, not_carried, no_region, no_local, no_tracker, ring_full, no_domain_room, spent, bad_flag, no_hash, not_allowed, is_frozen, holds_root, running}
use Rattle.model.specs.State.{State, Sizes, Handle, Access}
use Rattle.model.specs.Making.{make_tables, make_in}
use Rattle.model.specs.Calls.{open_domain, open_channel, set_core_map, set_interface, freeze_interface, create_root_region, revoke, create_revoke_capa}
use Rattle.model.specs.Readings.{permissions, get_refcount, core_map}
use Rattle.model.specs.Perform.{Step, Open, Channel, SetCoreMap, SetInterface, FreezeInterface, Root, Alias, Carve, Send, Revoke, CreateRevokeCapa, Reading, Permissions, Refcount, CoreMap, Holders, Call, Make, Do, Pop, Read, perform_step, read_tables, perform}
use Rattle.laws.specs.Answers.{gives, gives-checked, refusal}
use Rattle.laws.specs.Keep.Refusals.{activate-stops}
use Rattle.laws.specs.StepRefusals.{Within, ◌and_then◌, late, domain-within, caller-within, slot-within, held-within, capacity-within, room_within, insert-within, new-within, opened-within, revoked-within, alias-within, carve-within, send-within}

-- The documents' refusals for each call, in the order of checks, those of the steps afterwards last. Bad memory (1) is refused before
-- `perform`, save for a making with another length.
abbrev pub step_refusals : Step → List Refusal
step_refusals (Open m cores) = no_domain ∷ no_domain_room ∷ no_local ∷ []
step_refusals (Channel h to) = no_domain ∷ no_local ∷ []
step_refusals (SetCoreMap h cores) = no_domain ∷ []
step_refusals (SetInterface h word) = no_domain ∷ is_frozen ∷ []
step_refusals (FreezeInterface h) = no_domain ∷ []
step_refusals (Root h a) = no_domain ∷ no_region ∷ no_local ∷ bad_range ∷ no_tracker ∷ ring_full ∷ spent ∷ []
step_refusals (Alias h l a) = no_domain ∷ not_allowed ∷ no_slot ∷ wrong_kind ∷ stale ∷ no_region ∷ no_local ∷ bad_range ∷ beyond ∷ no_tracker ∷ ring_full ∷ spent ∷ []
step_refusals (Carve h l a) = no_domain ∷ not_allowed ∷ no_slot ∷ wrong_kind ∷ stale ∷ no_region ∷ no_local ∷ bad_range ∷ beyond ∷ no_tracker ∷ ring_full ∷ spent ∷ []
step_refusals (Send h l target o) = no_domain ∷ not_allowed ∷ no_slot ∷ wrong_kind ∷ no_local ∷ not_carried ∷ stale ∷ bad_flag ∷ no_hash ∷ no_tracker ∷ ring_full ∷ spent ∷ []
step_refusals (Revoke h l) = no_domain ∷ no_slot ∷ holds_root ∷ running ∷ stale ∷ is_root ∷ no_tracker ∷ ring_full ∷ spent ∷ []
step_refusals (CreateRevokeCapa h l) = no_domain ∷ no_slot ∷ wrong_kind ∷ stale ∷ is_root ∷ no_local ∷ []

abbrev pub reading_refusals : Reading → List Refusal
reading_refusals (Permissions h) = no_domain ∷ []
reading_refusals (Refcount h from to) = no_domain ∷ []
reading_refusals (CoreMap h) = no_domain ∷ []
reading_refusals (Holders a) = []

abbrev pub refusals : Call → List Refusal
refusals (Make z) = sizes ∷ memory ∷ []
refusals (Do c) = step_refusals c
refusals Pop = []
refusals (Read r) = reading_refusals r

-- The refusal is one of a call's, and its number is not 0, which stands for an accepted call.
abbrev Of : Call → Refusal → Type 0
Of c r = T (ltb 0 (number r) && exists (λ x. eqb (number x) (number r)) (refusals c))

-- ---- the calls; `tt` says that a refusal is in the call's list

make-within : (n m : ℕ) (z : Sizes) → Within (Of (Make z)) (make_in n m z)
unfolding make_in make_tables
make-within n m z = gives-checked {P = λ a. Unit {0}} _ _ tt (λ t. gives tt) and_then (λ u. gives-checked _ _ tt (λ t. gives tt))

open-within : (m : Option Handle) (cores : ℕ) (s : State) → Within (Of (Do (Open m cores))) (open_domain m cores s)
unfolding open_domain
open-within none cores s = opened-within tt _ _ s and_then (λ x. gives tt)
open-within (some h) cores s = domain-within tt s h and_then (λ m. opened-within tt _ _ s and_then (λ x. capacity-within tt m _ and_then (λ t. insert-within tt m _ t and_then (λ y. gives tt))))

channel-within : (h to : Handle) (s : State) → Within (Of (Do (Channel h to))) (open_channel h to s)
unfolding open_channel
channel-within h to s = domain-within tt s h and_then (λ d. domain-within tt s to and_then (λ t. capacity-within tt d s and_then (λ u. insert-within tt d _ u)))

set-core-map-within : (h : Handle) (cores : ℕ) (s : State) → Within (Of (Do (SetCoreMap h cores))) (set_core_map h cores s)
unfolding set_core_map
set-core-map-within h cores s = domain-within tt s h and_then (λ d. gives tt)

set-interface-within : (h : Handle) (word : ℕ) (s : State) → Within (Of (Do (SetInterface h word))) (set_interface h word s)
unfolding set_interface
set-interface-within h word s = domain-within tt s h and_then (λ d. gives-checked _ _ tt (λ t. gives tt))

freeze-interface-within : (h : Handle) (s : State) → Within (Of (Do (FreezeInterface h))) (freeze_interface h s)
unfolding freeze_interface
freeze-interface-within h s = domain-within tt s h and_then (λ d. gives tt)

root-within : (h : Handle) (a : Access) (s : State) → Within (Of (Do (Root h a))) (create_root_region h a s)
unfolding create_root_region
root-within h a s =
    domain-within tt s h and_then (λ d.
    room_within (tt, tt, tt) d a s and_then (λ t.
    new-within tt d _ a t and_then (λ x.
    insert-within tt d _ _ and_then (λ y.
    late (tt, tt, tt) (activate-stops [] d a _) and_then (λ u. gives tt)))))

revoke-within : (h : Handle) (l : ℕ) (s : State) → Within (Of (Do (Revoke h l))) (revoke h l s)
unfolding revoke
revoke-within h l s =
    domain-within tt s h and_then (λ d.
    slot-within tt s d l and_then (λ c.
    revoked-within (tt, tt, tt) (tt, tt) (tt, tt, tt) c s and_then (λ t. gives tt)))

create-revoke-capa-within : (h : Handle) (l : ℕ) (s : State) → Within (Of (Do (CreateRevokeCapa h l))) (create_revoke_capa h l s)
unfolding create_revoke_capa
create-revoke-capa-within h l s =
    domain-within tt s h and_then (λ d.
    held-within (tt, tt, tt) s d l and_then (λ n.
    gives-checked _ _ tt (λ c.
    capacity-within tt d s and_then (λ t. insert-within tt d _ t))))

-- ---- all calls

step-within : (s : State) (c : Step) → Within (Of (Do c)) (perform_step s c)
unfolding perform_step
step-within s (Open m cores) = open-within m cores s and_then (λ x. gives tt)
step-within s (Channel h to) = channel-within h to s and_then (λ x. gives tt)
step-within s (SetCoreMap h cores) = set-core-map-within h cores s and_then (λ x. gives tt)
step-within s (SetInterface h word) = set-interface-within h word s and_then (λ x. gives tt)
step-within s (FreezeInterface h) = freeze-interface-within h s and_then (λ x. gives tt)
step-within s (Root h a) = root-within h a s and_then (λ x. gives tt)
step-within s (Alias h l a) = alias-within (tt, tt, tt) (tt, tt, tt) tt (tt, tt, tt) h l a s (caller-within (tt, tt) _ s h) and_then (λ x. gives tt)
step-within s (Carve h l a) = carve-within (tt, tt, tt) (tt, tt, tt) tt (tt, tt, tt) h l a s (caller-within (tt, tt) _ s h) and_then (λ x. gives tt)
step-within s (Send h l target o) = send-within tt tt tt tt (tt, tt, tt, tt) (tt, tt, tt) h l target o s (caller-within (tt, tt) _ s h) and_then (λ x. gives tt)
step-within s (Revoke h l) = revoke-within h l s and_then (λ x. gives tt)
step-within s (CreateRevokeCapa h l) = create-revoke-capa-within h l s and_then (λ x. gives tt)

reading-within : (s : State) (r : Reading) → Within (Of (Read r)) (read_tables s r)
unfolding read_tables permissions get_refcount core_map
reading-within s (Permissions h) = domain-within tt s h and_then (λ d. gives tt) and_then (λ x. gives tt)
reading-within s (Refcount h from to) = domain-within tt s h and_then (λ d. gives tt) and_then (λ x. gives tt)
reading-within s (CoreMap h) = domain-within tt s h and_then (λ d. gives tt) and_then (λ x. gives tt)
reading-within s (Holders a) = gives tt

perform-within : (s : State) (c : Call) → Within (Of c) (perform s c)
unfolding perform
perform-within s (Make z) = make-within _ _ z and_then (λ x. gives tt)
perform-within s (Do c) = step-within s c
perform-within s Pop = gives tt and_then (λ x. gives tt)
perform-within s (Read r) = reading-within s r and_then (λ x. gives tt)

-- A refused call's number is one of those that the documents list for the call.
pub call-refusals : (s : State) (c : Call) (r : Refusal) → perform s c ≡ refuse r → T (exists (λ x. eqb (number x) (number r)) (refusals c))
call-refusals s c r e = and_r (ltb 0 (number r)) _ (refusal (perform-within s c) r e)

-- It is not 0.
pub refusal-above : (s : State) (c : Call) (r : Refusal) → perform s c ≡ refuse r → 0 < number r
refusal-above s c r e = ltb→lt 0 (number r) (and_l (ltb 0 (number r)) _ (refusal (perform-within s c) r e))

-- Nor is that of a refused making, in memory of any lengths.
pub making-above : (n m : ℕ) (z : Sizes) (r : Refusal) → make_in n m z ≡ refuse r → 0 < number r
making-above n m z r e = ltb→lt 0 (number r) (and_l (ltb 0 (number r)) _ (refusal (make-within n m z) r e))
