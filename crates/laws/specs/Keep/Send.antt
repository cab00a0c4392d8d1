-- Send: the region changes its owner with its ranges, its rights are joined with the flags that are given and its hash is the one that is given, the slot
-- leaves one list and goes into another.
use Rattle.std.proofs.Common.{ap, ◌∙◌}
use Prim.Native.Nat.{ℕ}
use Rattle.model.specs.Lists.{at_slot, In}
use Rattle.model.specs.State.{State, HashWords, Handle, Domain, SendOptions, Capa, no_capa, region, region_revoke, management, channel}
use Rattle.model.specs.Locals.{remove_capa}
use Rattle.model.specs.Calls.{send_capa, send}
use Rattle.laws.specs.Accepted.{All, accepted, refused, bind, bind-any}
use Rattle.laws.specs.Caller.{caller}
use Rattle.laws.specs.Options.{options-checked}
use Rattle.laws.specs.Tree.Slots.{live-is, is_live_lem}
use Rattle.laws.specs.Keep.SameDomains.{same-domains-self, same-domains-then, same-domains-live}
use Rattle.laws.specs.Keep.Locals.{insert_all, capacity-all}
use Rattle.laws.specs.Keep.Checks.{domain-live, region-live}
use Rattle.laws.specs.Keep.BaseSteps.{Live}
use Rattle.laws.specs.Keep.Whole.{Whole, StaysWhole, live-slot, list-whole, remove-whole}
use Rattle.laws.specs.Keep.SendRegion.{send-whole}
use Rattle.laws.specs.Keep.Options.{options-whole}

module _ (s : State) (whole : Whole s) (p : SendOptions) (hash : HashWords p.hash) where
  pub send-capa : (c : Capa) (o : ℕ) (x : Domain) → In s.domains o x → All (StaysWhole s) (send_capa c o p s)
  unfolding send_capa
  send-capa no_capa o x at = accepted (whole, same-domains-self s)
  send-capa (region h) o x at =
      bind (region-live s h) (λ i (n, t).
      options-checked p (λ j.
      let (g, e) = live-slot s h t in
      bind (send-whole s whole i g (ap (at_slot s.regions) n ∙ e) o x at) (λ t (k, b, m).
      let r = options-whole t i _ m k p hash j in
      accepted (r.0, same-domains-then b r.1))))
  send-capa (region_revoke h) o x at = accepted (whole, same-domains-self s)
  send-capa (management h) o x at = refused
  send-capa (channel h) o x at = accepted (whole, same-domains-self s)

module _ (s : State) (whole : Whole s) (h : Handle) (l : ℕ) where
  pub send-keeps : (target : ℕ) (p : SendOptions) → HashWords p.hash → All (λ (y : ℕ × State). Whole y.1) (send h l target p s)
  unfolding send
  send-keeps target p hash =
      bind (caller _ s h (domain-live s h)) (λ d (x, e).
      bind-any _ (λ t.
      bind-any _ (λ k.
      bind (domain-live s k) (λ o (y, at).
      bind (capacity-all o s (λ u. Whole u × Live u d × Live u o) (λ m. let r = list-whole s whole o (is_live_lem _ y at) m in (r.0, r.1 d (is_live_lem _ x e), r.1 o (is_live_lem _ y at)))) (λ s₁ (g, ld, lo).
      bind-any _ (λ c.
      let z = live-is _ lo in
      bind (send-capa s₁ g p hash c o z.0 z.1) (λ s₂ (g₂, b).
      let r = remove-whole s₂ g₂ d l (same-domains-live b d ld) in
      insert_all o (remove_capa d l s₂) c (λ (v : ℕ × State). Whole v.1) (λ n m. (list-whole (remove_capa d l s₂) r.0 o (r.1 o (same-domains-live b o lo)) m).0))))))))
