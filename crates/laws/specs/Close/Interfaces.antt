-- A revoke changes no interface: a domain that was there is there with its interface and its handle, or it is closed, and then its generation has risen.
use Rattle.std.specs.Prelude.{◌≡◌, refl, ℕ, ◌<◌, get_or}
use Rattle.std.proofs.Common.{sym, ap, subst, ◌∙◌}
use Rattle.std.proofs.Math.Option.{Option, none, some}
use Rattle.std.proofs.Math.Decide.{ℕ_discrete}
use Rattle.std.proofs.Math.Seq.{get_or-set_other}
use Rattle.base.specs.Options.{none-some, some_same}
use Rattle.model.specs.Lists.{at_slot, In}
use Rattle.model.specs.State.{State, Handle, Domain}
use Rattle.model.specs.Pool.{handle_of}
use Rattle.model.specs.Locals.{empty_capa}
use Rattle.model.specs.Sound.{Sound}
use Rattle.model.specs.Calls.{revoke}
use Rattle.laws.specs.Accepted.{All, weaken}
use Rattle.laws.specs.Interfaces.{put_same, read-interface}
use Rattle.laws.specs.Close.Less.{Less, domain-was}
use Rattle.laws.specs.Close.Call.{revoke-leaves}

-- domain x was in slot d
pub data StaysOrCloses (s t : State) (d : ℕ) (x : Domain) : Type 0 where
  stays : (y : Domain) → In t.domains d y → y.interface ≡ x.interface → handle_of t.domain_pool d ≡ handle_of s.domain_pool d → StaysOrCloses s t d x
  closes : at_slot t.domains d ≡ none → get_or s.domain_pool.gens d 0 < get_or t.domain_pool.gens d 0 → StaysOrCloses s t d x

pub record KeepsOrCloses (s t : State) : Type 0 where
  pub sizes : t.sizes ≡ s.sizes
  pub domains : (d : ℕ) (x : Domain) → In s.domains d x → StaysOrCloses s t d x
  -- and nobody else is there
  pub vacant : (d : ℕ) → at_slot s.domains d ≡ none → at_slot t.domains d ≡ none

-- fewer domains
module _ (s t : State) (l : Less s t) where
  stays-or-closes : (d : ℕ) (x : Domain) → In s.domains d x → (o : Option Domain) → at_slot t.domains d ≡ o → StaysOrCloses s t d x
  stays-or-closes d x e none f = closes f (l.domain_freed d x e f)
  stays-or-closes d x e (some y) f =
      let (w, i, q) = domain-was (at_slot t.domains d) (at_slot s.domains d) y (l.domains d y f) f in
      let g = l.domain_own d y f in
      stays y f (ap (λ (z : Domain). z.interface) (sym q) ∙ ap (λ (z : Domain). z.interface) (some_same (at_slot s.domains d) w x i e)) (λ j. record { slot = d; generation = g j })

  still-vacant : (d : ℕ) → at_slot s.domains d ≡ none → (o : Option Domain) → at_slot t.domains d ≡ o → o ≡ none
  still-vacant d n none f = refl
  still-vacant d n (some y) f = let (w, i, q) = domain-was (at_slot t.domains d) (at_slot s.domains d) y (l.domains d y f) f in absurd (none-some (at_slot s.domains d) w n i)

  less-keeps : KeepsOrCloses s t
  less-keeps = record { sizes = l.sizes; domains = λ d x e. stays-or-closes d x e (at_slot t.domains d) refl; vacant = λ d n. still-vacant d n (at_slot t.domains d) refl }

-- and then a slot of a live domain's list is emptied
module _ (s t : State) (k : KeepsOrCloses s t) (c l : ℕ) (z : Domain) (i : In t.domains c z) where
  apart : (d : ℕ) → at_slot t.domains d ≡ none → at_slot (empty_capa c l t).domains d ≡ none
  unfolding empty_capa
  apart d n = elim (ℕ_discrete d c) [
    | yes m ↦ absurd (none-some (at_slot t.domains c) z (subst (λ j. at_slot t.domains j ≡ none) m n) i)
    | no m ↦ get_or-set_other t.domains c d _ none m ∙ n
  ]

  emptied : (d : ℕ) (x : Domain) → StaysOrCloses s t d x → StaysOrCloses s (empty_capa c l t) d x
  unfolding empty_capa
  emptied d x (stays y f q h) = let (w, j, r) = put_same t.domains c _ d y f (λ m. read-interface t d y f c m) in stays w j (r ∙ q) h
  emptied d x (closes n g) = closes (apart d n) g

  empty-keeps : KeepsOrCloses s (empty_capa c l t)
  unfolding empty_capa
  empty-keeps = record { sizes = k.sizes; domains = λ d x e. emptied d x (k.domains d x e); vacant = λ d n. apart d (k.vacant d n) }

-- THEOREM: of sound tables
pub revoke-interfaces : (s : State) → Sound s → (h : Handle) (l : ℕ) → All (KeepsOrCloses s) (revoke h l s)
revoke-interfaces s k h l = weaken (revoke-leaves h l s k) (λ t n. subst (KeepsOrCloses s) (sym n.is) (empty-keeps s n.before (less-keeps s n.before n.less) n.caller l n.domain n.there))
