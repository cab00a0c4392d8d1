-- Steps that several calls share, each with what follows it: a live domain, room in its list, a capability put there, a live region that a slot holds.
-- What is carried from state to state (`Fit`): the ring and the pools are sound, every list has its slots, and the domain is live.
use Rattle.std.specs.Prelude.{◌≡◌, ℕ, eqb}
use Rattle.std.proofs.Math.Path.{refl}
use Rattle.std.proofs.Common.{sym, ap, ◌∙◌}
use Rattle.model.specs.Lists.{at_slot, In}
use Rattle.rights.specs.Rights.{has}
use Rattle.refusals.specs.Refusals.{not_allowed}
use Rattle.model.specs.Outcome.{Outcome, ok, ◌>>=◌, require}
use Rattle.model.specs.State as state
use Rattle.model.specs.State.{State, Domain, Capa, region, region_revoke, management, Kind, Root, Alias, Carve}
use Rattle.model.specs.Pool.{handle_of}
use Rattle.model.specs.Tree.{is_root_kind}
use Rattle.model.specs.Locals.{has_capacity, insert_capa}
use Rattle.model.specs.Layout.{kind_word}
use Rattle.model.specs.Calls as model
use Rattle.model.specs.Sound.{Sound}
use Rattle.laws.specs.Accepted.{both}
use Rattle.laws.specs.Caller.{caller}
use Rattle.laws.specs.Tree.Slots.{live-is}
use Rattle.laws.specs.Tree.Steps.{domain-at, region-at}
use Rattle.laws.specs.Keep.Base.{Base, sound-base}
use Rattle.laws.specs.Keep.BaseSteps.{Live, listed-base}
use Rattle.laws.specs.Keep.Locals.{capacity-all}
use Rattle.laws.specs.Keep.Checks.{domain-live, held-own}
use Rattle.tables.specs.declared.Handle.{Handle}
use Rattle.tables.specs.declared.Slot.{Slot}
use Rattle.tables.specs.declared.RegionCapa.{RegionCapa}
use Rattle.tables.specs.declared.Interface.{Interface}
use Rattle.tables.specs.Tables.{Tables, region_at, interface_at}
use Rattle.answers.specs.Answers.{Effect, and_then}
use Rattle.domain.specs.Activate.{reserve, insert}
use Rattle.checks.specs.Checks.{live_domain, caller_with, region_held, capa_of}
use Rattle.decoded.specs.Tables.{pool_of, capa_slot, tables_of}
use Rattle.refine.specs.Arenas.Pools.{handle_in}
use Rattle.refine.specs.Agrees.{Agrees, agrees-step, agrees-call, ok-then, bind_assoc, then-bind}
use Rattle.refine.specs.Calls.Sequence.{agrees_on, agrees-check}
use Rattle.decoded.specs.Slots.Domains.{interface-read}
use Rattle.decoded.specs.Tree.Regions.{region-read}
use Rattle.refine.specs.Slots.ListSteps.{insert-refines}
use Rattle.refine.specs.Calls.Checks.{Lists, live-domain-refines, region-held-refines, room-here}
use Rattle.refine.specs.Calls.KeptLists.{sound-lists, capacity-lists}

-- 3, and what follows for the live domain d
pub from-domain : (s : State) → Base s → (h : Handle) (f : ℕ → Tables → Effect) (k : ℕ → Outcome (ℕ × State)) → ((d : ℕ) (x : Domain) → In s.domains d x → Agrees (f d (tables_of s)) (k d))
    → Agrees (and_then (live_domain h (tables_of s)) f) (model.live_domain s (handle_in h) >>= k)
from-domain s base h f k j = agrees_on (live_domain h (tables_of s)) f (model.live_domain s (handle_in h)) (λ d. (d, s)) k (live-domain-refines s base h) (domain-live s (handle_in h)) (λ d (x, e). j d x e)

-- 3, 20: the code's test of the bit is the model's
caller-refines : (s : State) → Base s → (bit : ℕ) (h : Handle) → Agrees (caller_with bit h (tables_of s)) (model.caller_with bit s (handle_in h) >>= λ d. ok (d, s))
unfolding caller_with model.caller_with
caller-refines s base bit h =
    agrees-call _ _ _ (bind_assoc (model.live_domain s (handle_in h)) _ _) (
    from-domain s base h _ _ (λ d x e.
    let bits : has (interface_at (tables_of s) d).word bit ≡ has (state.domain_at s d).interface.word bit = ap (λ (f : Interface). has f.word bit) (interface-read s base.domains.size d x e) ∙ ap (λ (y : Domain). has y.interface.word bit) (sym (domain-at s d x e)) in
    agrees-call _ _ _ (then-bind (require (has (state.domain_at s d).interface.word bit) not_allowed) _ _) (
    agrees-check not_allowed _ (tables_of s) _ _ _ bits (λ t. agrees-call _ _ _ (ok-then _ _) (refl, refl)))))

-- and what follows for the caller d
pub from-caller : (s : State) → Base s → (bit : ℕ) (h : Handle) (f : ℕ → Tables → Effect) (k : ℕ → Outcome (ℕ × State)) → ((d : ℕ) (x : Domain) → In s.domains d x → Agrees (f d (tables_of s)) (k d))
    → Agrees (and_then (caller_with bit h (tables_of s)) f) (model.caller_with bit s (handle_in h) >>= k)
from-caller s base bit h f k j =
    agrees_on (caller_with bit h (tables_of s)) f (model.caller_with bit s (handle_in h)) (λ d. (d, s)) k (caller-refines s base bit h) (caller bit s (handle_in h) (domain-live s (handle_in h))) (λ d (x, e). j d x e)

-- the lists and the pools are sound, and domain d live
abbrev pub Fit : ℕ → State → Type 0
Fit d s = Base s × Lists s × Live s d

-- 12, and what follows where there is room in list d
pub from-room : (s : State) (d : ℕ) → Fit d s → (f : Tables → Effect) (k : State → Outcome (ℕ × State)) → ((t : State) → Fit d t → Agrees (f (tables_of t)) (k t))
    → Agrees (and_then (reserve d (tables_of s)) (λ v. f)) (has_capacity d s >>= k)
from-room s d (base, lists, live) f k j =
    let (x, e) = live-is (at_slot s.domains d) live in
    agrees_on (reserve d (tables_of s)) (λ v. f) (has_capacity d s) (λ t. (0, t)) k (room-here s base d x e lists)
    (both (capacity-all d s (λ t. Base t × Live t d) (λ l. listed-base s d base live l)) (capacity-lists s lists d x e base)) (λ t ((b, v), l). j t (b, l, v))

-- a capability goes into list d
pub insert-here : (s : State) (d : ℕ) → Fit d s → (c : Capa) (y : Slot) → y ≡ capa_slot c → Agrees (insert d y (tables_of s)) (insert_capa d c s)
insert-here s d (base, lists, live) c y e =
    let (x, at) = live-is (at_slot s.domains d) live in
    agrees-step _ _ (insert_capa d c s) (ap (λ z. insert d z (tables_of s)) e) (insert-refines s base.domains.size d x at (lists d x at) c)

-- 4, 5, 6, and what follows for the live region i of domain d
pub from-held : (s : State) (sound : Sound s) (d : ℕ) (x : Domain) → In s.domains d x → (l : ℕ) (f : ℕ → Tables → Effect) (k : ℕ → Outcome (ℕ × State))
    → ((i : ℕ) (g : state.Region) → In s.regions i g → g.owner ≡ d → Agrees (f i (tables_of s)) (k i)) → Agrees (and_then (region_held d l (tables_of s)) f) (model.region_held s d l >>= k)
from-held s sound d x e l f k j =
    agrees_on _ f (model.region_held s d l) (λ i. (i, s)) k (region-held-refines s (sound-base s sound) d x e (sound-lists s sound) l) (held-own s sound d x e l) (λ i (g, m, o). j i g m o)

-- ---- the capability of a slot of a pool, as it is now

module _ (s : State) (i : ℕ) where
  pub region-of : capa_of 2 (tables_of s).region_pool i ≡ capa_slot (region (handle_of s.region_pool i))
  unfolding tables_of pool_of
  region-of = refl

  pub revoke-of : capa_of 3 (tables_of s).region_pool i ≡ capa_slot (region_revoke (handle_of s.region_pool i))
  unfolding tables_of pool_of
  revoke-of = refl

  pub management-of : capa_of 4 (tables_of s).domain_pool i ≡ capa_slot (management (handle_of s.domain_pool i))
  unfolding tables_of pool_of
  management-of = refl

-- ---- 9: the kind word of a root

pub root-word : (k : Kind) → eqb (kind_word k) 1 ≡ is_root_kind k
root-word Root = refl
root-word (Alias p) = refl
root-word (Carve p) = refl

pub root-test : (s : State) → Base s → (i : ℕ) (g : state.Region) → In s.regions i g → eqb (region_at (tables_of s) i).kind 1 ≡ is_root_kind (state.region_at s i).kind
root-test s base i g e =
    ap (λ (r : RegionCapa). eqb r.kind 1) (region-read s base.regions.size i g e) ∙ root-word g.kind ∙ ap (λ (r : state.Region). is_root_kind r.kind) (sym (region-at s i g e))
