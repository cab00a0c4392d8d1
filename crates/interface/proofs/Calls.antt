-- Without the bits of domains' words each call meets the same refusals; of alias, carve and send this is said behind the test of the caller's bit.
use Rattle.std.specs.Prelude.{◌≡◌, refl, ℕ, zero, suc, not, List, [], ◌∷◌, map, set}
use Rattle.std.proofs.Common.{sym, ap, subst}
use Rattle.std.proofs.Math.Option.{Option, none, some}
use Rattle.refusals.specs.Refusals.{beyond, is_frozen}
use Rattle.model.specs.Outcome.{Outcome, ok, ◌>>=◌, ◌>>◌, require}
use Rattle.model.specs.State.{State, Handle, management, Root, Alias, Carve, Access, SendOptions, Domain, region_at, with_domains}
use Rattle.model.specs.Pool.{handle_of}
use Rattle.model.specs.Locals.{has_capacity, capa_at, insert_capa, remove_capa}
use Rattle.model.specs.Tree.{check_alias, check_carve}
use Rattle.model.specs.Regions.{activate}
use Rattle.model.specs.Calls.{live_domain, live_region, as_region, as_target, region_held, room_for_region, new_domain, open_domain, open_channel, set_core_map, set_interface, freeze_interface, create_root_region, add_child, exchange_rights, send_capa, revoke, create_revoke_capa}
use Rattle.model.specs.Readings.{permissions, get_refcount, core_map}
use Rattle.model.specs.Perform.{Reading, read_tables}
use Rattle.interface.proofs.Outcomes.{Both, accepted, By, Any, bind, bind-by, bind-same, and_same}
use Rattle.interface.proofs.NoBits.{no_bits, no_bits₁, no_bits_in, Alike, same-refusals, domain-at, capacity-same, capa-same, insert-same, remove-same, empty-same, activate-same}
use Rattle.interface.proofs.Closing.{live-domain-same, revoke-capa-same}
use Rattle.interface.proofs.Regions.{new-same, child-same, room-same, exchange-same, send-capa-same}

held_same : (s : State) (d l : ℕ) → region_held (no_bits s) d l ≡ region_held s d l
unfolding region_held live_region
held_same s d l = ap (λ m. m >>= λ c. as_region c >>= λ h. live_region s h) (capa-same s d l)

-- ---- the calls that need a bit, behind its test; used only in proofs

abbrev pub alias_by : ℕ → Access → ℕ → State → Outcome (ℕ × State)
alias_by l a d s = do
  p ← region_held s d l
  s₁ ← room_for_region d a s
  require (check_alias s₁ (region_at s₁ p) a) beyond
  (n, s₂) ← add_child d p (Alias p) a s₁
  s₃ ← activate [] d a s₂
  ok (n, s₃)

abbrev pub carve_by : ℕ → Access → ℕ → State → Outcome (ℕ × State)
carve_by l a d s = do
  p ← region_held s d l
  s₁ ← room_for_region d a s
  require (check_carve s₁ (region_at s₁ p) a) beyond
  (n, s₂) ← add_child d p (Carve p) a s₁
  s₃ ← exchange_rights d (region_at s₁ p).rights a s₂
  ok (n, s₃)

abbrev pub send_by : ℕ → ℕ → SendOptions → ℕ → State → Outcome (ℕ × State)
send_by l target o d s = do
  t ← capa_at s d target
  k ← as_target t
  to ← live_domain s k
  s₁ ← has_capacity to s
  c ← capa_at s₁ d l
  s₂ ← send_capa c to o s₁
  insert_capa to c (remove_capa d l s₂)

pub alias-same : (l : ℕ) (a : Access) (d : ℕ) (s : State) → Both (By no_bits₁) (alias_by l a d s) (alias_by l a d (no_bits s))
alias-same l a d s =
    bind-same (held_same s d l) (λ p.
    bind-by _ (room-same d a s) (λ s₁.
    and_same refl (bind-by _ (child-same d p (Alias p) a s₁) (λ (n, s₂).
    bind-by _ (activate-same [] d a s₂) (λ s₃. accepted refl)))))

pub carve-same : (l : ℕ) (a : Access) (d : ℕ) (s : State) → Both (By no_bits₁) (carve_by l a d s) (carve_by l a d (no_bits s))
carve-same l a d s =
    bind-same (held_same s d l) (λ p.
    bind-by _ (room-same d a s) (λ s₁.
    and_same refl (bind-by _ (child-same d p (Carve p) a s₁) (λ (n, s₂).
    bind-by _ (exchange-same d _ a s₂) (λ s₃. accepted refl)))))

pub send-same : (l target : ℕ) (o : SendOptions) (d : ℕ) (s : State) → Both (By no_bits₁) (send_by l target o d s) (send_by l target o d (no_bits s))
send-same l target o d s =
    bind-same (capa-same s d target) (λ t.
    bind-same refl (λ k.
    bind-same (live-domain-same s k) (λ to.
    bind-by _ (capacity-same to s) (λ s₁.
    bind-same (capa-same s₁ d l) (λ c.
    bind-by _ (send-capa-same c to o s₁) (λ s₂.
    subst (λ t. Both (By no_bits₁) (insert_capa to c (remove_capa d l s₂)) (insert_capa to c t)) (sym (remove-same d l s₂)) (insert-same to c (remove_capa d l s₂))))))))

-- ---- the calls that need none

pub channel-same : (h : Handle) (to : Handle) (s : State) → Both (By no_bits₁) (open_channel h to s) (open_channel h to (no_bits s))
unfolding open_channel
channel-same h to s =
    bind-same (live-domain-same s h) (λ d.
    bind-same (live-domain-same s to) (λ t.
    bind-by _ (capacity-same d s) (λ s₁. insert-same d _ s₁)))

pub cores-same : (h : Handle) (cores : ℕ) (s : State) → Both Any (set_core_map h cores s) (set_core_map h cores (no_bits s))
unfolding set_core_map
cores-same h cores s = bind-same (live-domain-same s h) (λ d. accepted tt)

-- the freeze is the same
pub interface-same : (h : Handle) (word : ℕ) (s : State) → Both Any (set_interface h word s) (set_interface h word (no_bits s))
unfolding set_interface
interface-same h word s = bind-same (live-domain-same s h) (λ d. and_same (ap (λ (x : Domain). require (not x.interface.frozen) is_frozen) (domain-at s d)) (accepted tt))

pub freeze-same : (h : Handle) (s : State) → Both Any (freeze_interface h s) (freeze_interface h (no_bits s))
unfolding freeze_interface
freeze-same h s = bind-same (live-domain-same s h) (λ d. accepted tt)

pub root-same : (h : Handle) (a : Access) (s : State) → Both (By no_bits₁) (create_root_region h a s) (create_root_region h a (no_bits s))
unfolding create_root_region
root-same h a s =
    bind-same (live-domain-same s h) (λ d.
    bind-by _ (room-same d a s) (λ s₁.
    bind-by _ (new-same d Root a s₁) (λ (i, s₂).
    bind-by _ (insert-same d _ s₂) (λ (l, s₃).
    bind-by _ (activate-same [] d a s₃) (λ s₄. accepted refl)))))

pub revoke-same : (h : Handle) (l : ℕ) (s : State) → Both (By no_bits) (revoke h l s) (revoke h l (no_bits s))
unfolding revoke
revoke-same h l s =
    bind-same (live-domain-same s h) (λ d.
    bind-same (capa-same s d l) (λ c.
    bind-by _ (revoke-capa-same c s) (λ s₁. accepted (empty-same d l s₁))))

pub make-revoke-same : (h : Handle) (l : ℕ) (s : State) → Both (By no_bits₁) (create_revoke_capa h l s) (create_revoke_capa h l (no_bits s))
unfolding create_revoke_capa
make-revoke-same h l s =
    bind-same (live-domain-same s h) (λ d.
    bind-same (held_same s d l) (λ i.
    and_same refl (bind-by _ (capacity-same d s) (λ s₁. insert-same d _ s₁))))

-- ---- opening: the new domain has bits, whatever the others have

no-bits-twice : (l : List (Option Domain)) → map no_bits_in (map no_bits_in l) ≡ map no_bits_in l
no-bits-twice [] = refl
no-bits-twice (none ∷ l) = ap (λ m. none ∷ m) (no-bits-twice l)
no-bits-twice (some x ∷ l) = ap (λ m. no_bits_in (some x) ∷ m) (no-bits-twice l)

new-no-bits : (l : List (Option Domain)) (i : ℕ) (x : Domain) → map no_bits_in (set l i (some x)) ≡ map no_bits_in (set (map no_bits_in l) i (some x))
new-no-bits [] i x = refl
new-no-bits (o ∷ l) zero x = ap (λ m. no_bits_in (some x) ∷ m) (sym (no-bits-twice l))
new-no-bits (none ∷ l) (suc i) x = ap (λ m. none ∷ m) (new-no-bits l i x)
new-no-bits (some y ∷ l) (suc i) x = ap (λ m. no_bits_in (some y) ∷ m) (new-no-bits l i x)

-- the same slot, and tables that are alike
abbrev Opened : ℕ × State → ℕ × State → Type 0
Opened x y = (y.0 ≡ x.0) × Alike x.1 y.1

new-domain-alike : (m : Option ℕ) (cores : ℕ) (s : State) → Both Opened (new_domain m cores s) (new_domain m cores (no_bits s))
unfolding new_domain
new-domain-alike m cores s = bind-same refl (λ (i, p). accepted (refl, ap (λ l. with_domains p l s) (new-no-bits s.domains i _)))

-- the manager's part; used only in proofs
abbrev manages : ℕ → ℕ → State → Outcome (Handle × State)
manages m i s = do
  s₂ ← has_capacity m s
  (l, s₃) ← insert_capa m (management (handle_of s₂.domain_pool i)) s₂
  ok (handle_of s₃.domain_pool i, s₃)

manages-same : (m i : ℕ) (s : State) → Both Any (manages m i s) (manages m i (no_bits s))
manages-same m i s = bind-by _ (capacity-same m s) (λ s₂. bind-by _ (insert-same m _ s₂) (λ (l, s₃). accepted tt))

pub open-same : (m : Option Handle) (cores : ℕ) (s : State) → Both Any (open_domain m cores s) (open_domain m cores (no_bits s))
unfolding open_domain
open-same none cores s = bind (new-domain-alike none cores s) (λ x y k. accepted tt)
open-same (some h) cores s =
    bind-same (live-domain-same s h) (λ m.
    bind (new-domain-alike (some m) cores s) (λ (i, t) (j, u) (e, k).
    subst (λ n. Both Any (manages m i t) (manages m n u)) (sym e) (same-refusals (manages m i) (manages-same m i) t u k)))

-- ---- readings

pub reading-same : (r : Reading) (s : State) → Both Any (read_tables s r) (read_tables (no_bits s) r)
unfolding read_tables permissions get_refcount core_map
reading-same (Reading.Permissions h) s = bind {R = Any} (bind-same (live-domain-same s h) (λ d. accepted tt)) (λ a b k. accepted tt)
reading-same (Reading.Refcount h from to) s = bind {R = Any} (bind-same (live-domain-same s h) (λ d. accepted tt)) (λ a b k. accepted tt)
reading-same (Reading.CoreMap h) s = bind {R = Any} (bind-same (live-domain-same s h) (λ d. accepted tt)) (λ a b k. accepted tt)
reading-same (Reading.Holders a) s = accepted tt
