-- What every revoke of a close and every freeing of a domain keeps the whole close keeps, whatever the tables are (`close-gives`; `close-any` where nothing is said
-- of refusals). Q is what the revokes need of the list of closing domains, which grows from turn to turn.
use Prim.Native.Nat.{ℕ, zero, suc}
use Rattle.std.proofs.Math.Option.{Option, none, some}
use mathlib.Core.List.{List, [], ◌∷◌}
use Rattle.refusals.specs.declared.Refusal.{Refusal}
use Rattle.model.specs.Outcome.{Outcome}
use Rattle.model.specs.State.{State, Handle, Capa, no_capa, region, region_revoke, management, channel, domain_at}
use Rattle.model.specs.Pool.{is_live}
use Rattle.model.specs.Regions.{revoke_region, live_count}
use Rattle.model.specs.Closing.{free_domain, revoke_live, revoke_slot, revoke_slots, close_domain}
use Rattle.laws.specs.Accepted.{All, accepted, refused}
use Rattle.laws.specs.Answers.{Gives, gives, refuses, gives_then, gives-branch, answer}

module _ (Q : List ℕ → Type 0) (more : (d : ℕ) (closing : List ℕ) → Q closing → Q (d ∷ closing)) (P : State → Type 0) (R : Refusal → Type 0)
    (revoked : (closing : List ℕ) → Q closing → (n i : ℕ) (s : State) → P s → Gives P R (revoke_region closing n i s))
    (freed : (d : ℕ) (s : State) → P s → Gives P R (free_domain d s)) where
  live-gives : (closing : List ℕ) → Q closing → (h : Handle) (s : State) → P s → Gives P R (revoke_live closing h s)
  unfolding revoke_live
  live-gives closing q h s p = gives-branch (is_live s.region_pool s.regions h) (revoked closing q (live_count s) h.slot s p) (gives p)

  slot-gives : (closing : List ℕ) → Q closing → (close : ℕ → State → Outcome State) → ((d : ℕ) (t : State) → P t → Gives P R (close d t)) → (c : Option Capa) (s : State) → P s → Gives P R (revoke_slot close closing c s)
  unfolding revoke_slot
  slot-gives closing q close k none s p = gives p
  slot-gives closing q close k (some no_capa) s p = gives p
  slot-gives closing q close k (some (region h)) s p = live-gives closing q h s p
  slot-gives closing q close k (some (region_revoke h)) s p = live-gives closing q h s p
  slot-gives closing q close k (some (management h)) s p = gives-branch (is_live s.domain_pool s.domains h) (k h.slot s p) (gives p)
  slot-gives closing q close k (some (channel h)) s p = gives p

  slots-give : (f : Option Capa → State → Outcome State) → ((c : Option Capa) (t : State) → P t → Gives P R (f c t)) → (cs : List (Option Capa)) (s : State) → P s → Gives P R (revoke_slots f cs s)
  unfolding revoke_slots
  slots-give f k [] s p = gives p
  slots-give f k (c ∷ cs) s p = gives_then (k c s p) (λ t p₁. slots-give f k cs t p₁)

  pub close-gives : (n : ℕ) (closing : List ℕ) (d : ℕ) (s : State) → Q (d ∷ closing) → P s → Gives P R (close_domain n closing d s)
  unfolding close_domain
  close-gives zero closing d s q p = gives p
  close-gives (suc n) closing d s q p =
      gives_then (slots-give _ (slot-gives (d ∷ closing) q (close_domain n (d ∷ closing)) (λ e t r. close-gives n (d ∷ closing) e t (more e (d ∷ closing) q) r)) (domain_at s d).locals.held s p) (λ t r. freed d t r)

-- any refusal
pub all-gives : {A : Type 0} {P : A → Type 0} {m : Outcome A} → All P m → Gives P (λ r. Unit {0}) m
all-gives (accepted p) = gives p
all-gives refused = refuses tt

pub close-any : (P : State → Type 0) → ((closing : List ℕ) (n i : ℕ) (s : State) → P s → All P (revoke_region closing n i s)) → ((d : ℕ) (s : State) → P s → All P (free_domain d s)) → (n : ℕ) (closing : List ℕ) (d : ℕ) (s : State) → P s → All P (close_domain n closing d s)
close-any P revoked freed n closing d s p = answer (close-gives (λ c. Unit {0}) (λ e c q. tt) P (λ r. Unit {0}) (λ c q m i t r. all-gives (revoked c m i t r)) (λ e t r. all-gives (freed e t r)) n closing d s tt p)
