-- Send: a region's ranges move to the domain that the target slot names, and its capability from list to list; of the other kinds the capability alone.
use Rattle.std.proofs.Math.Path.{refl}
use Rattle.std.proofs.Common.{sym, ◌∙◌}
use Rattle.std.specs.Prelude.{ℕ, eqb}
use Rattle.model.specs.Lists.{at_slot, In}
use Rattle.model.specs.Outcome.{Outcome, ok, ◌>>=◌, ◌>>◌}
use Rattle.refusals.specs.Refusals.{not_carried}
use Rattle.model.specs.State.{State, HashWords, Region, SendOptions, Capa, no_capa, region, region_revoke, management, channel}
use Rattle.model.specs.Locals as locals
use Rattle.model.specs.Locals.{has_capacity, insert_capa, remove_capa}
use Rattle.model.specs.Regions as regions
use Rattle.model.specs.Calls as model
use Rattle.model.specs.Sound.{Sound}
use Rattle.laws.specs.Accepted.{bind-any, both}
use Rattle.laws.specs.Tree.Slots.{live-is, is_live_lem}
use Rattle.laws.specs.Keep.Base.{sound-base}
use Rattle.laws.specs.Keep.BaseSteps.{Live}
use Rattle.laws.specs.Keep.Locals.{capacity-all}
use Rattle.laws.specs.Keep.Whole.{Whole, list-whole}
use Rattle.laws.specs.Keep.Checks.{domain-live}
use Rattle.laws.specs.Keep.SendRegion.{send-whole}
use Rattle.laws.specs.Keep.Send.{send-capa}
use Rattle.base.specs.Cases.{pick}
use Rattle.tables.specs.declared.Handle.{Handle}
use Rattle.tables.specs.declared.Slot.{Slot}
use Rattle.answers.specs.Answers.{Effect, done, refused, and_then}
use Rattle.slots.specs.Capas.{capa_at}
use Rattle.segment.specs.Regions.{send_region}
use Rattle.send_options.specs.Joining.{apply_options}
use Rattle.send_options.specs.Options.{check_options}
use Rattle.send_calls.specs.Calls.{send_held, send_capa, send}
use Rattle.decoded.specs.Tables.{capa_slot, tables_of}
use Rattle.refine.specs.Arenas.Pools.{handle_in}
use Rattle.refine.specs.Agrees.{Agrees, agrees-done, agrees-call, ok-then, bind_assoc, bind-same, then-bind}
use Rattle.refine.specs.Calls.Sequence.{agrees_on}
use Rattle.refine.specs.Calls.Activate.{plain}
use Rattle.refine.specs.Calls.Checks.{target-held-refines, room-here}
use Rattle.refine.specs.Calls.KeptLists.{sound-lists, capacity-lists}
use Rattle.refine.specs.Calls.SharedSteps.{from-caller}
use Rattle.refine.specs.Calls.HeldSlot.{pair_then, sound-whole, from-region, both_of, looked, kept, moved}
use Rattle.refine.specs.Calls.SendRegion.{send-region-refines}
use Rattle.refine.specs.Calls.SendOptions.{options_in, check-options-refines, apply-options-is}

-- a region that is sent, and the options applied to it
module _ (s : State) (whole : Whole s) (o : SendOptions) (to : ℕ) (live : Live s to) (i : ℕ) (g : Region) (e : In s.regions i g) where
  abbrev sends_on : Outcome State
  sends_on = regions.send_region i to s >>= λ t. ok (regions.apply_options i o t)

  sent-with : Agrees (and_then (send_region i to (tables_of s)) (λ v t. done 0 (apply_options i (options_in o) t))) (plain sends_on)
  sent-with =
      let (z, at) = live-is (at_slot s.domains to) live in
      agrees-call _ _ _ (bind_assoc (regions.send_region i to s) _ _)
      (agrees_on _ _ (regions.send_region i to s) (λ t. (0, t)) _ (send-region-refines s whole i g e to live) (send-whole s whole i g e to z at) (λ t (k, b, m).
      agrees-call _ _ _ (ok-then _ _) (agrees-done 0 _ _ (apply-options-is t k.1.regions.size i _ m (k.0.regions i _ m).rights_byte o))))

  pub sent-checked : Agrees (and_then (check_options (options_in o) (tables_of s)) (λ u t. and_then (send_region i to t) (λ v t₁. done 0 (apply_options i (options_in o) t₁)))) (plain (model.check_options o >> sends_on))
  sent-checked = agrees-call _ _ _ (then-bind (model.check_options o) sends_on _) (check-options-refines (tables_of s) _ _ sent-with o)

module _ (s : State) (whole : Whole s) (o : SendOptions) where
  -- behind the test of a free slot
  abbrev pub sends : ℕ → Slot → Effect
  sends to x = pick (eqb x.kind 4) (refused not_carried (tables_of s)) (pick (eqb x.kind 2) (send_held x.handle to (options_in o) (tables_of s)) (done 0 (tables_of s)))

  pub send-capa-refines : (to : ℕ) → Live s to → (c : Capa) → Agrees (sends to (capa_slot c)) (plain (model.send_capa c to o s))
  unfolding model.send_capa send_held ◌>>=◌
  send-capa-refines to live no_capa = (refl, refl)
  send-capa-refines to live (region h) = from-region s whole h _ _ (sent-checked s whole o to live)
  send-capa-refines to live (region_revoke h) = (refl, refl)
  send-capa-refines to live (management h) = refl
  send-capa-refines to live (channel h) = (refl, refl)

module _ (s : State) (sound : Sound s) (h : Handle) (l : ℕ) where
  pub send-refines : (target : ℕ) (o : SendOptions) → HashWords o.hash → Agrees (send h l target (options_in o) (tables_of s)) (model.send (handle_in h) l target o s)
  unfolding send model.send send_capa
  send-refines target o hash =
      let base = sound-base s sound in
      let lists = sound-lists s sound in
      from-caller s base _ h _ _ (λ d x e.
      agrees-call _ _ _ (sym (bind_assoc (locals.capa_at s d target) _ _ ∙ bind-same (locals.capa_at s d target) _ _ (λ c. bind_assoc (model.as_target c) _ _))) (
      agrees_on _ _ (locals.capa_at s d target >>= λ c. model.as_target c >>= λ k. model.live_domain s k) (λ to. (to, s)) _ (target-held-refines s base d x e lists target) (bind-any _ (λ c. bind-any _ (λ k. domain-live s k))) (λ to (y, at).
      agrees_on _ _ (has_capacity to s) (λ u. (0, u)) _ (room-here s base to y at lists)
      (both (capacity-all to s (λ u. Whole u × Live u d × Live u to) (λ m. let (w, on) = list-whole s (sound-whole s sound) to (is_live_lem _ y at) m in (w, on d (is_live_lem _ x e), on to (is_live_lem _ y at)))) (capacity-lists s lists to y at base)) (λ s₁ ((w, ld, lo), l₁).
      let (z, i) = live-is (at_slot s₁.domains to) lo in
      agrees-call _ _ _ (pair_then (locals.capa_at s₁ d l) (λ c. model.send_capa c to o s₁) (λ c t. insert_capa to c (remove_capa d l t))) (
      agrees_on _ _ (both_of s₁ w l₁ d ld l (λ c. model.send_capa c to o s₁)) (λ v. (0, v.1)) _ (looked s₁ w l₁ d ld l (λ c. model.send_capa c to o s₁) (sends s₁ w o to) (send-capa-refines s₁ w o to lo))
      (kept s₁ w l₁ d ld l (λ c. model.send_capa c to o s₁) (λ c. send-capa s₁ w o hash c to z i)) (λ (c, t) (j, w₂, b).
      moved s₁ t w.1 l₁ w₂ b d ld l c j to lo))))))
