-- The checks that only read: the tables stay.
use Rattle.std.specs.Prelude.{◌≡◌, Bool, true, false, List, ℕ, eqb, Ok, Err}
use Rattle.std.proofs.Math.Path.{refl}
use Rattle.std.proofs.Common.{sym, ◌∙◌}
use Rattle.base.specs.Cases.{pick}
use Rattle.tables.specs.declared.Handle.{Handle}
use Rattle.tables.specs.declared.Slot.{Slot}
use Rattle.tables.specs.Tables.{Tables, interface_at}
use Rattle.tables.specs.View.{view, Sized}
use Rattle.arena.specs.Arena.{live_b}
use Rattle.answers.specs.Answers.{Answer, Effect, done, refused, and_then, then-done}
use Rattle.rights.specs.Rights.{has}
use Rattle.refusals.specs.Refusals.{not_allowed}
use Rattle.slots.specs.Capas.{capa_at}
use Rattle.answers.specs.Then.{Realizes, read}
use Rattle.checks.specs.Checks.{live_domain, caller_with, live_region, as_region, as_target, region_held, target_held}

either : (b : Bool) (x y : Effect) (s : Tables) → x.tables ≡ s → y.tables ≡ s → (pick b x y).tables ≡ s
either true x y s e f = e
either false x y s e f = f

domain-kept : (h : Handle) (s : Tables) → (live_domain h s).tables ≡ s
unfolding live_domain
domain-kept h s = either (live_b s.domain_pool h) _ _ s refl refl

then-kept : (a : Answer) (s : Tables) (f : ℕ → Tables → Effect) → ((v : ℕ) → (f v s).tables ≡ s) → (and_then (record { answer = a; tables = s }) f).tables ≡ s
unfolding and_then
then-kept (Ok v) s f h = h v
then-kept (Err r) s f h = refl

caller-kept : (bit : ℕ) (h : Handle) (s : Tables) → (caller_with bit h s).tables ≡ s
unfolding caller_with and_then
caller-kept bit h s =
    rw (domain-kept h s) (then-kept (live_domain h s).answer s _ (λ v. either (has (interface_at s v).word bit) _ _ s refl refl))

-- the caller is live: the bit decides
pub caller-live : (bit : ℕ) (h : Handle) (s : Tables) (a : Answer) (d : ℕ) → a ≡ (live_domain h s).answer → a ≡ Ok d
    → caller_with bit h s ≡ pick (has (interface_at s d).word bit) (done d s) (refused not_allowed s)
unfolding caller_with
caller-live bit h s a d e y = then-done (live_domain h s) _ d (sym e ∙ y) ∙ rw (domain-kept h s)

region-kept : (h : Handle) (s : Tables) → (live_region h s).tables ≡ s
unfolding live_region
region-kept h s = either (live_b s.region_pool h) _ _ s refl refl

as-region-kept : (x : Slot) (s : Tables) → (as_region x s).tables ≡ s
unfolding as_region
as-region-kept x s = either (eqb x.kind 2) _ _ s (region-kept x.handle s) refl

as-target-kept : (x : Slot) (s : Tables) → (as_target x s).tables ≡ s
unfolding as_target
as-target-kept x s =
    either (eqb x.kind 4) _ _ s (domain-kept x.handle s) (either (eqb x.kind 5) _ _ s (domain-kept x.handle s) refl)

module _ (u : List ℕ) (a : Answer) (z : Sized u) where
  pub ran-domain : (h : Handle) → a ≡ (live_domain h (view u)).answer → Realizes u a (live_domain h (view u))
  ran-domain h e = read u a _ z e (domain-kept h (view u))

  pub ran-caller : (bit : ℕ) (h : Handle) → a ≡ (caller_with bit h (view u)).answer → Realizes u a (caller_with bit h (view u))
  ran-caller bit h e = read u a _ z e (caller-kept bit h (view u))

  pub ran-region : (h : Handle) → a ≡ (live_region h (view u)).answer → Realizes u a (live_region h (view u))
  ran-region h e = read u a _ z e (region-kept h (view u))

  pub ran-held : (d l : ℕ) → a ≡ (region_held d l (view u)).answer → Realizes u a (region_held d l (view u))
  unfolding region_held
  ran-held d l e = read u a _ z e (either (eqb (capa_at (view u) d l).kind 1) _ _ (view u) refl (as-region-kept (capa_at (view u) d l) (view u)))

  pub ran-target : (d l : ℕ) → a ≡ (target_held d l (view u)).answer → Realizes u a (target_held d l (view u))
  unfolding target_held
  ran-target d l e = read u a _ z e (either (eqb (capa_at (view u) d l).kind 1) _ _ (view u) refl (as-target-kept (capa_at (view u) d l) (view u)))
