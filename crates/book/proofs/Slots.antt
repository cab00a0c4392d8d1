-- A domain's slots on both sides: freed, swept, given.
use Rattle.std.specs.Prelude.{◌≡◌, refl, ℕ, zero, suc, Bool, true, false, not, ◌&&◌, eqb, get_or, set, if◌then◌else◌}
use Rattle.std.proofs.Math.Path.{sym, ap}
use Rattle.std.proofs.Common.{ap₂, ◌∙◌, eq-eqb}
use Rattle.std.proofs.Math.Option
use Rattle.std.proofs.Math.Option.{Option, none, some}
use mathlib.Core.List.{List, [], ◌∷◌}
use Rattle.base.specs.Tests.{true-is}
use Rattle.model.specs.Lists.{is_some, is_empty, at_slot}
use Rattle.model.specs.State.{State, Handle, Capa, LocalList, Domain, domain_at, put_domain, none_domain}
use Rattle.model.specs.Pool.{is_live}
use Rattle.model.specs.Locals.{invalid_slots, free_local, free_locals, free_invalid_capas, insert_local, has_capacity, insert_capa}
use Rattle.laws.specs.Accepted.{All, accepted, refused, bind, and_then}
use Rattle.book.specs.Book.{Book, Held, Slots, Opened, no_opened, noted, slots_of, is_open, free_slot, free_slots, dead_slots, swept, make_room, removed, top, put, with_slots}
use Rattle.book.specs.Tests.{set-some}
use Rattle.book.specs.Matches.{Both, both_at, both-set, both_right, SameHeld, SameSlots, SameList, AtPlace, MatchesAt, nil, cons, same_free, same_emptied, same_region, same_revoke, same_management, same_channel, not_opened, is_opened}

-- a slot freed on both sides
pub free-same : {P : ℕ → Handle → Type 0} (i : ℕ) (l : Slots) (m : LocalList) → SameSlots P l m → SameSlots P (free_slot i l) (free_local i m)
free-same i l m h = record { held = both-set i none none same_free h.held; stack = ap (λ (r : List ℕ). i ∷ r) h.stack }

frees-same : {P : ℕ → Handle → Type 0} (is : List ℕ) (l : Slots) (m : LocalList) → SameSlots P l m → SameSlots P (free_slots is l) (free_locals is m)
frees-same [] l m h = h
frees-same (i ∷ is) l m h = frees-same is _ _ (free-same i l m h)

-- ---- the sweep

-- alive is live where P holds, and an open domain is a live one
module _ (b : Book) (s : State) (P : ℕ → Handle → Type 0) (alive_is_live : (k : ℕ) (h : Handle) → P k h → (noted b.regions k).alive ≡ is_live s.region_pool s.regions h) (open_is_live : (h : Handle) → is_open b h ≡ is_live s.domain_pool s.domains h) where
  dead-slots : (i : ℕ) {xs : List (Option Held)} {ys : List (Option Capa)} → Both (SameHeld P) xs ys → dead_slots b i xs ≡ invalid_slots s i ys
  dead-slots i nil = refl
  dead-slots i (cons same_free h) = dead-slots (suc i) h
  dead-slots i (cons same_emptied h) = ap (λ (r : List ℕ). i ∷ r) (dead-slots (suc i) h)
  dead-slots i (cons (same_region p) h) = rw (alive_is_live _ _ p, dead-slots (suc i) h)
  dead-slots i (cons (same_revoke p) h) = rw (alive_is_live _ _ p, dead-slots (suc i) h)
  dead-slots i (cons (same_management {h = k}) h) = ap₂ (λ c (r : List ℕ). if not c then i ∷ r else r) (open_is_live k) (dead-slots (suc i) h)
  dead-slots i (cons (same_channel {h = k}) h) = ap₂ (λ c (r : List ℕ). if not c then i ∷ r else r) (open_is_live k) (dead-slots (suc i) h)

  sweep-full : (l : Slots) (m : LocalList) → SameSlots P l m → SameSlots P (free_slots (dead_slots b 0 l.held) l) (free_invalid_capas s m)
  unfolding free_invalid_capas
  sweep-full l m h = rw (dead-slots 0 h.held) (frees-same (invalid_slots s 0 m.held) l m h)

  pick_same : (c : Bool) (l l' : Slots) (m m' : LocalList) → SameSlots P l m → SameSlots P l' m' → SameSlots P (if c then l else l') (if c then m else m')
  pick_same true l l' m m' h k = h
  pick_same false l l' m m' h k = k

  pick_two : (c c' : Bool) (l l' : Slots) (m m' : LocalList) → c ≡ c' → SameSlots P l m → SameSlots P l' m' → SameSlots P (if c then l else l') (if c' then m else m')
  pick_two c c' l l' m m' e h k = rw e (pick_same c' l l' m m' h k)

  pub sweep-same : (l : Slots) (m : LocalList) → SameSlots P l m → SameSlots P (swept b l) (if is_empty m.free then free_invalid_capas s m else m)
  unfolding swept
  sweep-same l m h = pick_two (is_empty l.free) (is_empty m.free) _ l _ m (ap is_empty h.stack) (sweep-full l m h) h

-- ---- a domain's list changed on both sides

-- the slots of a domain change, and no generation
same-generation : (ls : List (Option Opened)) (d e : ℕ) (l : Slots) → (Option.get_or (at_slot (set ls d (some (record { generation = (Option.get_or (at_slot ls d) no_opened).generation; slots = l }))) e) no_opened).generation ≡ (Option.get_or (at_slot ls e) no_opened).generation
same-generation [] d e l = refl
same-generation (x ∷ ls) zero zero l = refl
same-generation (x ∷ ls) zero (suc e) l = refl
same-generation (x ∷ ls) (suc d) zero l = refl
same-generation (x ∷ ls) (suc d) (suc e) l = same-generation ls d e l

pub open-slots : {P : ℕ → Handle → Type 0} (x : Option Opened) (y : Option Domain) → SameList P x y → SameSlots P (Option.get_or x no_opened).slots (Option.get_or y none_domain).locals
open-slots x y not_opened = record { held = nil; stack = refl }
open-slots x y (is_opened h) = h

open-live : {P : ℕ → Handle → Type 0} (x : Option Opened) (y : Option Domain) (g c : ℕ) → (is_some y ≡ true → (Option.get_or x no_opened).generation ≡ c) → SameList P x y → elim x [ none ↦ false | some o ↦ eqb o.generation g ] ≡ (is_some y && eqb c g)
open-live x y g c e not_opened = refl
open-live x y g c e (is_opened h) = ap (λ n. eqb n g) (e refl)

-- what stays as it was where only domains' lists change
pub record OnlyDomains (s t : State) : Type 0 where
  pub pool : t.region_pool ≡ s.region_pool
  pub regions : t.regions ≡ s.regions
  pub domain_pool : t.domain_pool ≡ s.domain_pool
  pub opens : (d : ℕ) → is_some (at_slot t.domains d) ≡ is_some (at_slot s.domains d)

pub only-domains-then : (s t u : State) → OnlyDomains t u → OnlyDomains s t → OnlyDomains s u
only-domains-then s t u k j = record { pool = k.pool ∙ j.pool; regions = k.regions ∙ j.regions; domain_pool = k.domain_pool ∙ j.domain_pool; opens = λ d. k.opens d ∙ j.opens d }

pub slots-as : {P : ℕ → Handle → Type 0} (l : Slots) (m n : LocalList) → n ≡ m → SameSlots P l m → SameSlots P l n
slots-as l m n e h = rw e h

-- a domain changed in the tables alone, its list as it was
changed-list : {P : ℕ → Handle → Type 0} (x : Option Opened) (y : Option Domain) (z : Domain) → is_some y ≡ true → z.locals ≡ (Option.get_or y none_domain).locals → SameList P x y → SameList P x (some z)
changed-list x y z i e not_opened = absurd (true-is i)
changed-list x y z i e (is_opened h) = is_opened (slots-as _ _ _ e h)

module _ (b : Book) (s : State) (at : ℕ → Handle) (place : ℕ → ℕ) (m : MatchesAt b s at place) where
  -- a domain is open exactly if its handle is live
  pub open-is-live : (h : Handle) → is_open b h ≡ is_live s.domain_pool s.domains h
  open-is-live h = open-live (at_slot b.lists h.slot) (at_slot s.domains h.slot) h.generation (get_or s.domain_pool.gens h.slot 0) (m.generations h.slot) (both_at none none h.slot not_opened m.lists)

  pub slots-of : (d : ℕ) → SameSlots (AtPlace b.regions at) (slots_of b d) (domain_at s d).locals
  slots-of d = open-slots _ _ (both_at none none d not_opened m.lists)

  -- domain d is live in what follows
  module _ (d : ℕ) (i : is_some (at_slot s.domains d) ≡ true) where
    pub domain-match : (z : Domain) → z.locals ≡ (domain_at s d).locals → MatchesAt b (put_domain d z s) at place
    domain-match z e = record {
      sizes = m.sizes;
      regions = m.regions;
      lists = both_right d none (some z) (changed-list (at_slot b.lists d) (at_slot s.domains d) z i e (both_at none none d not_opened m.lists)) m.lists;
      generations = λ c j. m.generations c (sym (set-some s.domains d z i c) ∙ j);
    }

    pub put-match : (l : Slots) (x : Domain) → SameSlots (AtPlace b.regions at) l x.locals → MatchesAt (with_slots d l b) (put_domain d x s) at place
    put-match l x h = record {
      sizes = m.sizes;
      regions = m.regions;
      lists = both-set d _ (some x) (is_opened h) m.lists;
      generations = λ c j. same-generation b.lists d c l ∙ m.generations c (sym (set-some s.domains d x i c) ∙ j);
    }

    pub put-only-domains : (x : Domain) → OnlyDomains s (put_domain d x s)
    put-only-domains x = record { pool = refl; regions = refl; domain_pool = refl; opens = set-some s.domains d x i }

    pub capacity-match : All (λ t. MatchesAt (make_room d b) t at place × OnlyDomains s t) (has_capacity d s)
    unfolding has_capacity make_room
    capacity-match = and_then _ (accepted (put-match _ _ (sweep-same b s (AtPlace b.regions at) (λ k h p. m.regions.alive_is_live k p.0 ∙ ap (is_live s.region_pool s.regions) (sym p.1)) open-is-live _ _ (slots-of d)), put-only-domains _))

    removed-top : (i : ℕ) (is : List ℕ) → removed i (i ∷ is) ≡ is
    removed-top i is = rw (eq-eqb i i refl)

    insert-local : {P : ℕ → Handle → Type 0} (c : Held) (c' : Capa) (l : Slots) (hs : List (Option Capa)) (fs : List ℕ) → SameHeld P (some c) (some c') → SameSlots P l (record { held = hs; free = fs }) → All (λ x. SameSlots P (record { held = set l.held x.0 (some c); free = removed x.0 l.free }) x.1 × x.0 ≡ top l.free) (insert_local c' (record { held = hs; free = fs }))
    unfolding insert_local
    insert-local c c' l hs [] q h = refused
    insert-local c c' l hs (i ∷ is) q h = accepted (record { held = both-set i _ _ q h.held; stack = ap (removed i) h.stack ∙ removed-top i is }, sym (ap top h.stack))

    pub insert-match : (c : Held) (c' : Capa) → SameHeld (AtPlace b.regions at) (some c) (some c') → All (λ x. MatchesAt (put d x.0 c b) x.1 at place × OnlyDomains s x.1 × x.0 ≡ top (slots_of b d).free) (insert_capa d c' s)
    unfolding insert_capa put
    insert-match c c' q = bind (insert-local c c' (slots_of b d) _ _ q (slots-of d)) (λ x h. accepted (put-match _ _ h.0, put-only-domains _, h.1))
