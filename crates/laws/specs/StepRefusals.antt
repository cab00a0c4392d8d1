-- What a step can be refused with, whatever the tables: R of each refusal that it names. A call is its steps one after another (CallRefusals).
use Rattle.std.specs.Prelude.{◌≡◌, ℕ}
use Rattle.std.proofs.Common.{inl, inr}
use Rattle.std.proofs.Math.Option.{Option, none, some}
use mathlib.Core.List.{List, [], ◌∷◌}
use Rattle.model.specs.Outcome.{Outcome, ◌>>=◌, ◌>>◌, ok_or}
use Rattle.rights.specs.Rights.{allowed}
use Rattle.refusals.specs.declared.Refusal.{Refusal}
use Rattle.refusals.specs.Refusals.{no_domain, no_slot, wrong_kind, stale, bad_range, beyond, is_root, not_carried, no_region, no_local, no_tracker, ring_full, no_domain_room, spent, bad_flag, no_hash, not_allowed, holds_root, running}
use Rattle.model.specs.State.{State, Handle, Access, Kind, SendOptions, Capa, no_capa, region, region_revoke, management, channel, SEND, ALIAS, CARVE, domain_at}
use Rattle.model.specs.Pool.{is_live}
use Rattle.model.specs.Locals.{insert_local, insert_capa, has_capacity, capa_at}
use Rattle.model.specs.Regions.{new_region}
use Rattle.model.specs.Calls.{live_domain, caller_with, live_region, as_region, as_target, region_held, room_for_region, new_domain, add_child, alias_region, carve_region, check_options, send_capa, send, revoke_unless_root, close_managed, revoke_capa}
use Rattle.laws.specs.Answers.{Gives, gives, refuses, gives_then, gives-branch, gives-checked, gives-checked-both}
use Rattle.laws.specs.Keep.Refusals.{MayStop, activate-stops, exchange-stops, send-stops, revoke-stops, allocate-stops, new-stops}
use Rattle.laws.specs.Close.Stops.{close-stops}

-- The outcome is accepted, or a refusal with R.
abbrev pub Within : {A : Type 0} → (Refusal → Type 0) → Outcome A → Type 0
Within R m = Gives (λ a. Unit {0}) R m

-- one step, and then another
infixl 20 ◌and_then◌
pub ◌and_then◌ : {A B : Type 0} {R : Refusal → Type 0} {m : Outcome A} {f : A → Outcome B} → Within R m → ((a : A) → Within R (f a)) → Within R (m >>= f)
h and_then k = gives_then h (λ a u. k a)

-- an outcome with one refusal only, and one that is refused with 13, 16 or 14
pub only : {A : Type 0} {R : Refusal → Type 0} (r : Refusal) {m : Outcome A} → R r → Gives (λ a. Unit {0}) (λ x. x ≡ r) m → Within R m
only r i (gives h) = gives tt
only r i (refuses {r = x} e) = refuses {r = x} (rw e i)

pub late : {A : Type 0} {R : Refusal → Type 0} {m : Outcome A} → R no_tracker × R spent × R ring_full → MayStop m → Within R m
late i (gives h) = gives tt
late i (refuses {r = x} (inl e)) = refuses {r = x} (rw e i.0)
late i (refuses {r = x} (inr (inl e))) = refuses {r = x} (rw e i.1)
late i (refuses {r = x} (inr (inr e))) = refuses {r = x} (rw e i.2)

-- ---- the steps that several calls share; what each can be refused with has R

module _ {R : Refusal → Type 0} where
  pub domain-within : R no_domain → (s : State) (h : Handle) → Within R (live_domain s h)
  unfolding live_domain
  domain-within i s h = gives-checked _ _ i (λ t. gives tt)

  pub caller-within : R no_domain × R not_allowed → (bit : ℕ) (s : State) (h : Handle) → Within R (caller_with bit s h)
  unfolding caller_with
  caller-within i bit s h = domain-within i.0 s h and_then (λ d. gives-checked _ _ i.1 (λ t. gives tt))

  pub region-within : R stale → (s : State) (h : Handle) → Within R (live_region s h)
  unfolding live_region
  region-within i s h = gives-checked _ _ i (λ t. gives tt)

  pub or-within : {A : Type 0} (r : Refusal) → R r → (x : Option A) → Within R (ok_or x r)
  unfolding ok_or
  or-within r i none = refuses i
  or-within r i (some a) = gives tt

  pub slot-within : R no_slot → (s : State) (d n : ℕ) → Within R (capa_at s d n)
  unfolding capa_at
  slot-within i s d n = or-within no_slot i _

  pub as-region : R wrong_kind → (c : Capa) → Within R (as_region c)
  as-region i no_capa = refuses i
  as-region i (region h) = gives tt
  as-region i (region_revoke h) = refuses i
  as-region i (management h) = refuses i
  as-region i (channel h) = refuses i

  pub held-within : R no_slot × R wrong_kind × R stale → (s : State) (d n : ℕ) → Within R (region_held s d n)
  unfolding region_held
  held-within i s d n = slot-within i.0 s d n and_then (λ c. as-region i.1 c and_then (λ h. region-within i.2 s h))

  pub capacity-within : R no_local → (d : ℕ) (s : State) → Within R (has_capacity d s)
  unfolding has_capacity
  capacity-within i d s = gives-checked _ _ i (λ t. gives tt)

  pub room_within : R no_region × R no_local × R bad_range → (d : ℕ) (a : Access) (s : State) → Within R (room_for_region d a s)
  unfolding room_for_region
  room_within i d a s = gives-checked _ _ i.0 (λ t. capacity-within i.1 d s and_then (λ u. gives-checked _ _ i.2 (λ v. gives tt)))

  pub local-within : R no_local → (c : Capa) (held : List (Option Capa)) (free : List ℕ) → Within R (insert_local c (record { held = held; free = free }))
  unfolding insert_local
  local-within i c held [] = refuses i
  local-within i c held (n ∷ free) = gives tt

  pub insert-within : R no_local → (d : ℕ) (c : Capa) (s : State) → Within R (insert_capa d c s)
  unfolding insert_capa
  insert-within i d c s = local-within i c (domain_at s d).locals.held (domain_at s d).locals.free and_then (λ x. gives tt)

  pub new-within : R no_region → (d : ℕ) (k : Kind) (a : Access) (s : State) → Within R (new_region d k a s)
  new-within i d k a s = only no_region i (new-stops d k a s)

  pub child-within : R no_region × R no_local → (d p : ℕ) (k : Kind) (a : Access) (s : State) → Within R (add_child d p k a s)
  unfolding add_child
  child-within i d p k a s = new-within i.0 d k a s and_then (λ x. insert-within i.1 d _ _)

  pub opened-within : R no_domain_room → (m : Option ℕ) (cores : ℕ) (s : State) → Within R (new_domain m cores s)
  unfolding new_domain
  opened-within i m cores s = only no_domain_room i (allocate-stops no_domain_room s.domain_pool.gens s.domain_pool.free) and_then (λ x. gives tt)

  pub as-target : R wrong_kind → (c : Capa) → Within R (as_target c)
  as-target i no_capa = refuses i
  as-target i (region h) = refuses i
  as-target i (region_revoke h) = refuses i
  as-target i (management h) = gives tt
  as-target i (channel h) = gives tt

  -- the check of the options, and then another step
  pub options-within : {A : Type 0} {m : Outcome A} → R bad_flag × R no_hash → (o : SendOptions) → Within R m → Within R (check_options o >> m)
  unfolding check_options ◌>>◌
  options-within {A} {m} i o h = go o.flags
    where
      go : (x : Option ℕ) → Within R (check_options (record { flags = x; hash = o.hash }) >> m)
      go none = h
      go (some f) = gives-checked-both (allowed 0 f) _ bad_flag no_hash i h

  pub moved-within : R not_carried × R stale × R bad_flag × R no_hash → R no_tracker × R spent × R ring_full → (c : Capa) (to : ℕ) (o : SendOptions) (s : State) → Within R (send_capa c to o s)
  unfolding send_capa
  moved-within i j no_capa to o s = gives tt
  moved-within i j (region h) to o s = region-within i.1 s h and_then (λ n. options-within (i.2, i.3) o (late j (send-stops n to s) and_then (λ t. gives tt)))
  moved-within i j (region_revoke h) to o s = gives tt
  moved-within i j (management h) to o s = refuses i.0
  moved-within i j (channel h) to o s = gives tt

  pub unless-root : R is_root → R no_tracker × R spent × R ring_full → (n : ℕ) (s : State) → Within R (revoke_unless_root n s)
  unfolding revoke_unless_root
  unless-root i j n s = gives-checked _ _ i (λ t. late j (revoke-stops [] _ n s))

  closed-within : R no_domain × R holds_root × R running → R no_tracker × R spent × R ring_full → (h : Handle) (s : State) → Within R (close_managed h s)
  unfolding close_managed
  closed-within i j h s = domain-within i.0 s h and_then (λ d. gives-checked _ _ i.1 (λ t. gives-checked _ _ i.2 (λ u. late j (close-stops _ [] d s))))

  pub revoked-within : R no_domain × R holds_root × R running → R stale × R is_root → R no_tracker × R spent × R ring_full → (c : Capa) (s : State) → Within R (revoke_capa c s)
  unfolding revoke_capa
  revoked-within k i j no_capa s = gives tt
  revoked-within k i j (region h) s = region-within i.0 s h and_then (λ n. unless-root i.1 j n s)
  revoked-within k i j (region_revoke h) s = gives-branch (is_live s.region_pool s.regions h) (unless-root i.1 j _ s) (gives tt)
  revoked-within k i j (management h) s = closed-within k j h s
  revoked-within k i j (channel h) s = gives tt

  -- ---- alias, carve and send behind the caller's check

  pub alias-within : R no_slot × R wrong_kind × R stale → R no_region × R no_local × R bad_range → R beyond → R no_tracker × R spent × R ring_full → (h : Handle) (l : ℕ) (a : Access) (s : State) → Within R (caller_with ALIAS s h) → Within R (alias_region h l a s)
  unfolding alias_region
  alias-within i j b e h l a s c =
      c and_then (λ d.
      held-within i s d l and_then (λ p.
      room_within j d a s and_then (λ t.
      gives-checked _ _ b (λ f.
      child-within (j.0, j.1) d p _ a t and_then (λ x.
      late e (activate-stops [] d a _) and_then (λ u. gives tt))))))

  pub carve-within : R no_slot × R wrong_kind × R stale → R no_region × R no_local × R bad_range → R beyond → R no_tracker × R spent × R ring_full → (h : Handle) (l : ℕ) (a : Access) (s : State) → Within R (caller_with CARVE s h) → Within R (carve_region h l a s)
  unfolding carve_region
  carve-within i j b e h l a s c =
      c and_then (λ d.
      held-within i s d l and_then (λ p.
      room_within j d a s and_then (λ t.
      gives-checked _ _ b (λ f.
      child-within (j.0, j.1) d p _ a t and_then (λ x.
      late e (exchange-stops d _ a _) and_then (λ u. gives tt))))))

  pub send-within : R no_domain → R no_slot → R wrong_kind → R no_local → R not_carried × R stale × R bad_flag × R no_hash → R no_tracker × R spent × R ring_full → (h : Handle) (l target : ℕ) (o : SendOptions) (s : State) → Within R (caller_with SEND s h) → Within R (send h l target o s)
  unfolding send
  send-within i j k n m e h l target o s c =
      c and_then (λ d.
      slot-within j s d target and_then (λ t.
      as-target k t and_then (λ q.
      domain-within i s q and_then (λ to.
      capacity-within n to s and_then (λ u.
      slot-within j u d l and_then (λ x.
      moved-within m e x to o u and_then (λ v.
      insert-within n to x _)))))))
