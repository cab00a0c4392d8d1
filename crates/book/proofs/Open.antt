-- **Open** keeps book and tables matched.
use Rattle.std.specs.Prelude.{◌≡◌, refl, ℕ, zero, suc, ◌<◌, true, List, [], ◌∷◌, length, get_or, set, replicate}
use Rattle.std.proofs.Common.{sym, ap, ◌∙◌, arith, get_or-set_same, get_or-set_other}
use Rattle.std.proofs.Math.Option
use Rattle.std.proofs.Math.Option.{Option, none, some}
use Rattle.std.proofs.Math.Decide.{ℕ_discrete}
use Rattle.model.specs.Lists.{count_up, is_some, at_slot}
use Rattle.model.specs.State.{State, Handle, management, Domain}
use Rattle.model.specs.Pool.{handle_of}
use Rattle.model.specs.Locals.{fresh_locals}
use Rattle.model.specs.Calls.{new_domain, open_domain}
use Rattle.model.specs.Sound.{Sound, slot_uses}
use Rattle.laws.specs.Accepted.{All, accepted, bind}
use Rattle.book.specs.Book.{Book, Opened, no_opened, management_of, slots_of, top, make_room, put, give_next, opened}
use Rattle.book.specs.Matches.{both-set, both-length, both-fresh, is_opened, same_free, same_management, SameSlots, MatchesAt, Matches, matches}
use Rattle.book.proofs.Slots.{capacity-match, insert-match}
use Rattle.book.proofs.Checks.{on-domain, on-allocate, once-free, live-opens}

fresh-slots : {P : ℕ → Handle → Type 0} (n : ℕ) → SameSlots P (record { held = replicate n none; free = count_up 0 n }) (fresh_locals n)
fresh-slots n = record { held = both-fresh n none none same_free; stack = refl }

fresh-slots-as : {P : ℕ → Handle → Type 0} (n n' : ℕ) → n ≡ n' → SameSlots P (record { held = replicate n none; free = count_up 0 n }) (fresh_locals n')
fresh-slots-as n n' e = rw e (fresh-slots n')

-- the new domain's generation is its slot's, and the others have theirs
opened-generation : (ls : List (Option Opened)) (ds : List (Option Domain)) (gs : List ℕ) (i d : ℕ) (o : Opened) (x : Domain) → i < length ls → o.generation ≡ get_or gs i 0 → ((c : ℕ) → is_some (at_slot ds c) ≡ true → (Option.get_or (at_slot ls c) no_opened).generation ≡ get_or gs c 0) → is_some (at_slot (set ds i (some x)) d) ≡ true → (Option.get_or (at_slot (set ls i (some o)) d) no_opened).generation ≡ get_or gs d 0
opened-generation ls ds gs i d o x u e h j = elim (ℕ_discrete d i) [
  | yes q ↦ ap (λ c. (Option.get_or (at_slot (set ls i (some o)) c) no_opened).generation) q ∙ ap (λ y. (Option.get_or y no_opened).generation) (get_or-set_same ls i (some o) none u) ∙ e ∙ ap (λ c. get_or gs c 0) (sym q)
  | no q ↦ ap (λ y. (Option.get_or y no_opened).generation) (get_or-set_other ls i d (some o) none q) ∙ h d (sym (ap is_some (get_or-set_other ds i d (some x) none q)) ∙ j)
]

-- domains that were open are open still
abbrev OpensMore : State → State → Type 0
OpensMore s t = (d : ℕ) → is_some (at_slot s.domains d) ≡ true → is_some (at_slot t.domains d) ≡ true

opens-more : (ds : List (Option Domain)) (i d : ℕ) (x : Domain) → is_some (at_slot ds d) ≡ true → is_some (at_slot (set ds i (some x)) d) ≡ true
opens-more [] i d x h = h
opens-more (y ∷ ds) zero zero x h = refl
opens-more (y ∷ ds) zero (suc d) x h = h
opens-more (y ∷ ds) (suc i) zero x h = h
opens-more (y ∷ ds) (suc i) (suc d) x h = opens-more ds i d x h

pub new-domain-match : (b : Book) (s : State) (at : ℕ → Handle) (place : ℕ → ℕ) (o : Option ℕ) (c : ℕ) → Sound s → MatchesAt b s at place → All (λ x. MatchesAt (opened (handle_of x.1.domain_pool x.0) b) x.1 at place × OpensMore s x.1) (new_domain o c s)
unfolding new_domain opened
new-domain-match b s at place o c sound m =
    on-allocate _ s.domain_pool.gens s.domain_pool.free _ (λ i is e.
    accepted (
      record {
        sizes = m.sizes;
        regions = m.regions;
        lists = both-set i _ _ (is_opened (fresh-slots-as _ _ (ap (λ z. z.slots) m.sizes))) m.lists;
        generations = λ d. opened-generation b.lists s.domains s.domain_pool.gens i d _ _ (let k = (once-free _ (slot_uses s.domains) _ i is e sound.outside.domain_pool.once).0 in let l = sound.outside.domains_length in omega (arith, both-length m.lists)) refl m.generations;
      },
      λ d. opens-more s.domains i d _,
    ))

-- what `accept` writes for an opening
abbrev opening : Option Handle → Handle → Book → Book
opening none h b = opened h b
opening (some m) h b = give_next m.slot (management_of h) (opened h b)

-- the slot that is given next, and the handle of the new domain, which no later step changes
opened-next : (b : Book) (s : State) (at : ℕ → Handle) (place : ℕ → ℕ) (d n : ℕ) (h k k' : Handle) → k ≡ h → k' ≡ h → n ≡ top (slots_of (make_room d (opened h b)) d).free → MatchesAt (put d n (management_of k) (make_room d (opened h b))) s at place → MatchesAt (give_next d (management_of k') (opened k' b)) s at place
unfolding give_next
opened-next b s at place d n h k k' i j e m = rw j (rw (i, e) at m)

pub open-match : (b : Book) (s : State) (o : Option Handle) (c : ℕ) → Sound s → Matches b s → All (λ x. Matches (opening o x.0 b) x.1) (open_domain o c s)
unfolding open_domain
open-match b s none c sound g = bind (new-domain-match b s _ _ none c sound g.fits) (λ x q. accepted (matches _ _ _ _ q.0))
open-match b s (some h) c sound g =
    on-domain s h _ (λ k.
    bind (new-domain-match b s _ _ (some h.slot) c sound g.fits) (λ x q.
    let new = handle_of x.1.domain_pool x.0 in
    let i = q.1 h.slot (live-opens s h k) in
    bind (capacity-match (opened new b) x.1 _ _ q.0 h.slot i) (λ s₂ r.
    bind (insert-match (make_room h.slot (opened new b)) s₂ _ _ r.0 h.slot (r.1.opens h.slot ∙ i) (management_of (handle_of s₂.domain_pool x.0)) (management (handle_of s₂.domain_pool x.0)) same_management) (λ y t.
    accepted (matches _ _ _ _ (opened-next b _ _ _ h.slot _ new _ _ (ap (λ p. handle_of p x.0) r.1.domain_pool) (ap (λ p. handle_of p x.0) (t.1.domain_pool ∙ r.1.domain_pool)) t.2 t.0))))))
