-- The revoke of a capability does the same without the bits of domains' words; so does the close of a domain, which reads lists, managers and core maps alone.
use Rattle.std.specs.Prelude.{◌≡◌, ℕ, zero, suc, ◌+◌, Bool, false, not, ◌&&◌, ◌||◌, eqb, set, if◌then◌else◌}
use Rattle.std.proofs.Math.Path.{refl, subst}
use Rattle.std.proofs.Common.{sym, ap, ◌∙◌}
use Rattle.std.proofs.Math.Option.{Option, none, some}
use mathlib.Core.List.{List, [], ◌∷◌, map}
use Rattle.std.proofs.Math.ListN.{get_or-map}
use Rattle.refusals.specs.Refusals.{no_domain, holds_root, running}
use Rattle.model.specs.Lists.{is_some, exists, count_if, count_up, at_slot}
use Rattle.model.specs.Outcome.{Outcome, ok, ◌>>◌, require}
use Rattle.model.specs.State.{State, Handle, Capa, no_capa, region, region_revoke, management, channel, Domain, Region, domain_at, with_domains}
use Rattle.model.specs.Pool.{is_live}
use Rattle.model.specs.Tree.{is_root_kind}
use Rattle.model.specs.Regions.{live_count}
use Rattle.model.specs.Closing.{closes_with, is_to_close, root_to_close, closes_root, closes_running, revoke_live, revoke_slot, revoke_slots, free_domain, close_domain, live_domains}
use Rattle.model.specs.Calls.{live_domain, revoke_unless_root, close_managed, revoke_capa}
use Rattle.interface.proofs.Outcomes.{Both, accepted, By, bind-by, bind-same, and_same, branch}
use Rattle.interface.proofs.NoBits.{no_bits, no_bits_in, domain-at, live_same}
use Rattle.interface.proofs.Regions.{live-region-same, revoke-region-same}

pub live-domain-same : (s : State) (h : Handle) → live_domain (no_bits s) h ≡ live_domain s h
unfolding live_domain
live-domain-same s h = ap (λ b. require b no_domain >> ok h.slot) (live_same s h)

-- ---- who is closed (22, 23), and how many domains are live

-- what a slot's manager passes; used only in proofs
abbrev above : (ℕ → Bool) → Option ℕ → Bool
above f m = elim m [ none ↦ false | some e ↦ f e ]

abbrev manager_passes : (ℕ → Bool) → Option Domain → Bool
manager_passes f o = elim o [ none ↦ false | some x ↦ above f x.manager ]

above_same : (f g : ℕ → Bool) (m : Option ℕ) → ((e : ℕ) → f e ≡ g e) → above f m ≡ above g m
above_same f g none h = refl
above_same f g (some m) h = h m

manager-same : (f g : ℕ → Bool) (o : Option Domain) → ((e : ℕ) → f e ≡ g e) → manager_passes f (no_bits_in o) ≡ manager_passes g o
manager-same f g none h = refl
manager-same f g (some x) h = above_same f g x.manager h

closes-with : (ds : List (Option Domain)) (n d e : ℕ) → closes_with (map no_bits_in ds) n d e ≡ closes_with ds n d e
closes-with ds zero d e = refl
closes-with ds (suc n) d e = ap (λ b. eqb e d || b) (ap (manager_passes (closes_with (map no_bits_in ds) n d)) (get_or-map no_bits_in ds e none) ∙ manager-same (closes_with (map no_bits_in ds) n d) (closes_with ds n d) (at_slot ds e) (closes-with ds n d))

closed_same : (s : State) (d e : ℕ) → is_to_close (no_bits s) d e ≡ is_to_close s d e
closed_same s d e = closes-with s.domains s.sizes.domains d e

pub exists-same : {A : Type 0} (p q : A → Bool) (l : List A) → ((x : A) → p x ≡ q x) → exists p l ≡ exists q l
exists-same p q [] h = refl
exists-same p q (x ∷ l) h = ap (λ b. b || exists p l) (h x) ∙ ap (λ b. q x || b) (exists-same p q l h)

root-same : (s : State) (d : ℕ) (o : Option Region) → root_to_close (no_bits s) d o ≡ root_to_close s d o
root-same s d none = refl
root-same s d (some g) = ap (λ b. is_root_kind g.kind && b) (closed_same s d g.owner)

closes-root-same : (s : State) (d : ℕ) → closes_root (no_bits s) d ≡ closes_root s d
unfolding closes_root
closes-root-same s d = exists-same (root_to_close (no_bits s) d) (root_to_close s d) s.regions (root-same s d)

closes-running-same : (s : State) (d : ℕ) → closes_running (no_bits s) d ≡ closes_running s d
unfolding closes_running
closes-running-same s d = exists-same _ (λ e. not (eqb (domain_at s e).cores 0) && is_to_close s d e) (count_up 0 s.sizes.domains) (λ e.
    ap (λ (x : Domain). not (eqb x.cores 0) && is_to_close (no_bits s) d e) (domain-at s e) ∙ ap (λ b. not (eqb (domain_at s e).cores 0) && b) (closed_same s d e))

count-no-bits : (l : List (Option Domain)) → count_if is_some (map no_bits_in l) ≡ count_if is_some l
count-no-bits [] = refl
count-no-bits (none ∷ l) = ap (λ n. 0 + n) (count-no-bits l)
count-no-bits (some x ∷ l) = ap (λ n. 1 + n) (count-no-bits l)

-- ---- the close

live-revoke-same : (closing : List ℕ) (h : Handle) (s : State) → Both (By no_bits) (revoke_live closing h s) (revoke_live closing h (no_bits s))
unfolding revoke_live
live-revoke-same closing h s = branch (is_live s.region_pool s.regions h) (revoke-region-same closing (live_count s) h.slot s) (accepted refl)

set-none : (l : List (Option Domain)) (d : ℕ) → set (map no_bits_in l) d none ≡ map no_bits_in (set l d none)
set-none [] d = refl
set-none (o ∷ l) zero = refl
set-none (o ∷ l) (suc d) = ap (λ m. no_bits_in o ∷ m) (set-none l d)

free-domain-same : (d : ℕ) (s : State) → Both (By no_bits) (free_domain d s) (free_domain d (no_bits s))
unfolding free_domain
free-domain-same d s = bind-same refl (λ p. accepted (ap (λ l. with_domains p l s) (set-none s.domains d)))

module _ (close : ℕ → State → Outcome State) (same : (d : ℕ) (s : State) → Both (By no_bits) (close d s) (close d (no_bits s))) (closing : List ℕ) where
  slot_same : (c : Option Capa) (s : State) → Both (By no_bits) (revoke_slot close closing c s) (revoke_slot close closing c (no_bits s))
  unfolding revoke_slot
  slot_same none s = accepted refl
  slot_same (some no_capa) s = accepted refl
  slot_same (some (region h)) s = live-revoke-same closing h s
  slot_same (some (region_revoke h)) s = live-revoke-same closing h s
  slot_same (some (management h)) s = subst (λ b. Both (By no_bits) (revoke_slot close closing (some (management h)) s) (if b then close h.slot (no_bits s) else ok (no_bits s))) (sym (live_same s h)) (branch (is_live s.domain_pool s.domains h) (same h.slot s) (accepted refl))
  slot_same (some (channel h)) s = accepted refl

  slots_same : (cs : List (Option Capa)) (s : State) → Both (By no_bits) (revoke_slots (revoke_slot close closing) cs s) (revoke_slots (revoke_slot close closing) cs (no_bits s))
  unfolding revoke_slots
  slots_same [] s = accepted refl
  slots_same (c ∷ cs) s = bind-by _ (slot_same c s) (λ s₁. slots_same cs s₁)

close-same : (n : ℕ) (closing : List ℕ) (d : ℕ) (s : State) → Both (By no_bits) (close_domain n closing d s) (close_domain n closing d (no_bits s))
unfolding close_domain
close-same zero closing d s = accepted refl
close-same (suc n) closing d s = bind-by _ (subst (λ (x : Domain). Both (By no_bits) (revoke_slots (revoke_slot (close_domain n (d ∷ closing)) (d ∷ closing)) (domain_at s d).locals.held s) (revoke_slots (revoke_slot (close_domain n (d ∷ closing)) (d ∷ closing)) x.locals.held (no_bits s))) (sym (domain-at s d)) (slots_same (close_domain n (d ∷ closing)) (close-same n (d ∷ closing)) (d ∷ closing) (domain_at s d).locals.held s)) (λ s₁. free-domain-same d s₁)

close-managed-same : (h : Handle) (s : State) → Both (By no_bits) (close_managed h s) (close_managed h (no_bits s))
unfolding close_managed
close-managed-same h s = bind-same (live-domain-same s h) (λ d.
    and_same (ap (λ b. require (not b) holds_root) (closes-root-same s d))
    (and_same (ap (λ b. require (not b) running) (closes-running-same s d))
    (subst (λ n. Both (By no_bits) (close_domain (live_domains s) [] d s) (close_domain n [] d (no_bits s))) (sym (count-no-bits s.domains)) (close-same (live_domains s) [] d s))))

-- ---- the revoke of a capability

unless-same : (i : ℕ) (s : State) → Both (By no_bits) (revoke_unless_root i s) (revoke_unless_root i (no_bits s))
unfolding revoke_unless_root
unless-same i s = and_same refl (revoke-region-same [] _ i s)

pub revoke-capa-same : (c : Capa) (s : State) → Both (By no_bits) (revoke_capa c s) (revoke_capa c (no_bits s))
unfolding revoke_capa
revoke-capa-same no_capa s = accepted refl
revoke-capa-same (region h) s = bind-same (live-region-same s h) (λ i. unless-same i s)
revoke-capa-same (region_revoke h) s = branch (is_live s.region_pool s.regions h) (unless-same h.slot s) (accepted refl)
revoke-capa-same (management h) s = close-managed-same h s
revoke-capa-same (channel h) s = accepted refl
