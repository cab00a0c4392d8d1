-- The capability lists through the steps of a call: every list has its slots, each in use or free once. A sweep and a slot freed keep this, a new domain's
-- list has it, and steps on regions and trackers leave the lists.
use Rattle.std.specs.Prelude.{◌≡◌, ℕ, ◌-◌, ◌^◌, ◌<◌, Bool, if◌then◌else◌}
use Rattle.std.proofs.Common.{sym, ap, subst, ◌∙◌, arith}
use Rattle.std.proofs.Math.Bool.{true, false}
use Rattle.std.proofs.Math.Option.{Option, none, some}
use Rattle.std.proofs.lemmas.List.{length-replicate}
use Rattle.model.specs.Lists.{is_empty, at_slot, In}
use Rattle.refusals.specs.Refusals.{no_domain_room}
use Rattle.model.specs.State.{State, Sizes, Domain, Capa, LocalList, Access, domain_at, put_domain, with_locals}
use Rattle.model.specs.Locals.{fresh_locals, free_local, free_invalid_capas, has_capacity, remove_capa}
use Rattle.model.specs.Calls.{new_domain, room_for_region}
use Rattle.model.specs.Sound.{Sound}
use Rattle.laws.specs.Accepted.{All, accepted, bind, and_then}
use Rattle.laws.specs.Empty.{all-free, unused}
use Rattle.laws.specs.Tree.Slots.{in-length}
use Rattle.laws.specs.Words.SameDomains.{Listed}
use Rattle.laws.specs.Keep.Slots.{every-put}
use Rattle.laws.specs.Keep.SameDomains.{SameDomains, same-domains-turned, same-domains-in}
use Rattle.laws.specs.Keep.Base.{Base}
use Rattle.laws.specs.Keep.Locals.{allocate-free}
use Rattle.laws.specs.Tree.Steps.{domain-at}
use Rattle.refine.specs.Slots.Sweep.{freed-listed, swept-for}
use Rattle.refine.specs.Calls.Checks.{Lists}

pub sound-lists : (s : State) → Sound s → Lists s
sound-lists s h d x e = record { held_length = (h.outside.lists d x e).held_length; once = (h.outside.lists d x e).once }

-- a domain's slot number fits in a link
pub domain-small : (s : State) → Base s → (d : ℕ) (x : Domain) → In s.domains d x → d < 2 ^ 64 - 1
domain-small s k d x e = omega (arith, in-length s.domains d x e, k.ring.slots)

-- ---- domains that differ in their trackers only

pub same-domains-lists : (s t : State) → SameDomains s t → Lists s → Lists t
same-domains-lists s t b h d y e =
    let (x, i, m) = same-domains-in (same-domains-turned b) d y e in
    let l = subst (λ (z : Sizes). Listed z.slots x.locals) (sym b.sizes) (h d x i) in
    subst (Listed t.sizes.slots) (ap (λ (z : Domain). z.locals) m) l

-- ---- a list is put back

module _ (s : State) (lists : Lists s) (d : ℕ) (x : Domain) (at : In s.domains d x) where
  pub put-lists : (l : LocalList) → Listed s.sizes.slots l → Lists (put_domain d (with_locals l (domain_at s d)) s)
  put-lists l h = every-put (λ y. Listed s.sizes.slots y.locals) s.domains d (in-length s.domains d x at) lists (with_locals l (domain_at s d)) h

  own-list : Listed s.sizes.slots (domain_at s d).locals
  own-list = subst (λ (y : Domain). Listed s.sizes.slots y.locals) (sym (domain-at s d x at)) (lists d x at)

  pub remove-lists : (i : ℕ) (c : Capa) → at_slot x.locals.held i ≡ some c → Lists (remove_capa d i s)
  unfolding remove_capa
  remove-lists i c e = put-lists (free_local i (domain_at s d).locals) (freed-listed s.sizes.slots (domain_at s d).locals i c (ap (λ (y : Domain). at_slot y.locals.held i) (domain-at s d x at) ∙ e) own-list)

  module _ (base : Base s) where
    pub capacity-lists : All Lists (has_capacity d s)
    unfolding has_capacity
    capacity-lists = and_then _ (accepted (put-lists _ (roomy (is_empty (domain_at s d).locals.free))))
      where
        roomy : (b : Bool) → Listed s.sizes.slots (if b then free_invalid_capas s (domain_at s d).locals else (domain_at s d).locals)
        roomy true = (swept-for s base.domains.pool base.regions.pool (domain_at s d).locals own-list).1
        roomy false = own-list

    pub room-lists : (a : Access) → All Lists (room_for_region d a s)
    unfolding room_for_region
    room-lists a = and_then _ (bind capacity-lists (λ t h. and_then _ (accepted h)))

-- ---- a new domain

fresh-listed : (n : ℕ) → Listed n (fresh_locals n)
fresh-listed n = record { held_length = length-replicate n none; once = λ i. rw (unused Capa n i) (all-free n i) }

pub open-lists : (s : State) → Base s → Lists s → (m : Option ℕ) (cores : ℕ) → All (λ (y : ℕ × State). Lists y.1) (new_domain m cores s)
unfolding new_domain
open-lists s k lists m cores =
    bind (allocate-free s.domains s.sizes.domains s.domain_pool k.domains.size k.domains.pool no_domain_room) (λ (i, p) (l, free).
    accepted (every-put (λ y. Listed s.sizes.slots y.locals) s.domains i l lists _ (fresh-listed s.sizes.slots)))
