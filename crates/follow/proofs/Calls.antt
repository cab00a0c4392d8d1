-- The calls that tell the writer nothing keep `Tracks`, whatever was seen and of whichever slots it speaks. Revoke follows in Revoke, and the calls for
-- the interface in Perform.
use Rattle.std.proofs.Math.Path.{refl}
use Rattle.std.specs.Prelude.{ℕ, ◌<◌, eqb, ltb}
use mathlib.Core.List.{[]}
use Rattle.std.proofs.Math.Dec.{ltb→lt}
use Rattle.model.specs.State.{State, Handle, Capa, no_capa, region, region_revoke, management, channel, Kind, Root, Alias, Carve, Access, SendOptions}
use Rattle.model.specs.Locals.{has_capacity, insert_capa, remove_capa, empty_capa}
use Rattle.model.specs.Tree.{insert_child}
use Rattle.model.specs.Calls.{room_for_region, open_channel, set_core_map, create_root_region, add_child, alias_region, exchange_rights, carve_region, send_capa, send, create_revoke_capa}
use Rattle.laws.specs.Accepted.{All, accepted, refused, bind, bind-any, and_then, branch, checked}
use Rattle.laws.specs.Keep.Locals.{insert_all, capacity-all}
use Rattle.follow.specs.Writer.{Seen}
use Rattle.follow.proofs.Steps.{Tracks, none-closing, domain-tracks, activate-tracks, deactivate-tracks}
use Rattle.follow.proofs.Regions.{send-tracks, options-tracks, new-tracks, insert-tracks}

-- of the state beside an answer
abbrev pub TracksAfter : {A : Type 0} → (ℕ → Type 0) → Seen → A × State → Type 0
TracksAfter claimed v x = Tracks claimed v x.1

module _ {claimed : ℕ → Type 0} (v : Seen) where
  pub capacity-tracks : (d : ℕ) (s : State) → Tracks claimed v s → All (Tracks claimed v) (has_capacity d s)
  capacity-tracks d s h = capacity-all d s (Tracks claimed v) (λ l. domain-tracks v s h d _ refl)

  pub slot-tracks : (d : ℕ) (c : Capa) (s : State) → Tracks claimed v s → All (TracksAfter claimed v) (insert_capa d c s)
  slot-tracks d c s h = insert_all d s c (TracksAfter claimed v) (λ n l. domain-tracks v s h d _ refl)

  taken-tracks : (d l : ℕ) (s : State) → Tracks claimed v s → Tracks claimed v (remove_capa d l s)
  unfolding remove_capa
  taken-tracks d l s h = domain-tracks v s h d _ refl

  pub emptied-tracks : (d l : ℕ) (s : State) → Tracks claimed v s → Tracks claimed v (empty_capa d l s)
  unfolding empty_capa
  emptied-tracks d l s h = domain-tracks v s h d _ refl

  room-tracks : (d : ℕ) (a : Access) (s : State) → Tracks claimed v s → All (λ t. Tracks claimed v t × a.start < a.end) (room_for_region d a s)
  unfolding room_for_region
  room-tracks d a s h = and_then _ (bind (capacity-tracks d s h) (λ s₁ h₁. checked (ltb a.start a.end) _ (λ t. accepted (h₁, ltb→lt a.start a.end t))))

  child-tracks : (d p : ℕ) (k : Kind) (a : Access) (s : State) → a.start < a.end → Tracks claimed v s → All (TracksAfter claimed v) (add_child d p k a s)
  unfolding add_child
  child-tracks d p k a s z h = bind (new-tracks v d k a s z h) (λ (i, s₁) h₁. slot-tracks d _ (insert_child p i s₁) (insert-tracks v p i s₁ h₁))

  exchange-tracks : (d old : ℕ) (a : Access) (s : State) → a.start < a.end → Tracks claimed v s → All (Tracks claimed v) (exchange_rights d old a s)
  unfolding exchange_rights
  exchange-tracks d old a s z h = branch (eqb old a.rights) (accepted h) (bind (deactivate-tracks [] (none-closing claimed) v s h d _ (λ i. z)) (λ s₁ h₁. activate-tracks [] (none-closing claimed) v s₁ h₁ d a z))

  send-capa : (c : Capa) (to : ℕ) (o : SendOptions) (s : State) → Tracks claimed v s → All (Tracks claimed v) (send_capa c to o s)
  unfolding send_capa
  send-capa no_capa to o s h = accepted h
  send-capa (region k) to o s h = bind-any _ (λ i. and_then _ (bind (send-tracks v i to s h) (λ t w. accepted (options-tracks v i o t w))))
  send-capa (region_revoke k) to o s h = accepted h
  send-capa (management k) to o s h = refused
  send-capa (channel k) to o s h = accepted h

  module _ (s : State) (h : Tracks claimed v s) where
    pub channel-call : (k to : Handle) → All (TracksAfter claimed v) (open_channel k to s)
    unfolding open_channel
    channel-call k to = bind-any _ (λ d. bind-any _ (λ t. bind (capacity-tracks d s h) (λ s₁ h₁. slot-tracks d _ s₁ h₁)))

    pub cores-call : (k : Handle) (c : ℕ) → All (Tracks claimed v) (set_core_map k c s)
    unfolding set_core_map
    cores-call k c = bind-any _ (λ d. accepted (domain-tracks v s h d _ refl))

    pub root-call : (k : Handle) (a : Access) → All (TracksAfter claimed v) (create_root_region k a s)
    unfolding create_root_region
    root-call k a =
        bind-any _ (λ d.
        bind (room-tracks d a s h) (λ s₁ (h₁, z).
        bind (new-tracks v d Root a s₁ z h₁) (λ (i, s₂) h₂.
        bind (slot-tracks d _ s₂ h₂) (λ (l, s₃) h₃.
        bind (activate-tracks [] (none-closing claimed) v s₃ h₃ d a z) (λ s₄ h₄. accepted h₄)))))

    pub alias-call : (k : Handle) (l : ℕ) (a : Access) → All (TracksAfter claimed v) (alias_region k l a s)
    unfolding alias_region
    alias-call k l a =
        bind-any _ (λ d.
        bind-any _ (λ p.
        bind (room-tracks d a s h) (λ s₁ (h₁, z).
        and_then _ (bind (child-tracks d p (Alias p) a s₁ z h₁) (λ (n, s₂) h₂.
        bind (activate-tracks [] (none-closing claimed) v s₂ h₂ d a z) (λ s₃ h₃. accepted h₃))))))

    pub carve-call : (k : Handle) (l : ℕ) (a : Access) → All (TracksAfter claimed v) (carve_region k l a s)
    unfolding carve_region
    carve-call k l a =
        bind-any _ (λ d.
        bind-any _ (λ p.
        bind (room-tracks d a s h) (λ s₁ (h₁, z).
        and_then _ (bind (child-tracks d p (Carve p) a s₁ z h₁) (λ (n, s₂) h₂.
        bind (exchange-tracks d _ a s₂ z h₂) (λ s₃ h₃. accepted h₃))))))

    pub send-call : (k : Handle) (l target : ℕ) (o : SendOptions) → All (TracksAfter claimed v) (send k l target o s)
    unfolding send
    send-call k l target o =
        bind-any _ (λ d.
        bind-any _ (λ t.
        bind-any _ (λ m.
        bind-any _ (λ to.
        bind (capacity-tracks to s h) (λ s₁ h₁.
        bind-any _ (λ c.
        bind (send-capa c to o s₁ h₁) (λ s₂ h₂. slot-tracks to c (remove_capa d l s₂) (taken-tracks d l s₂ h₂))))))))

    pub make-revoke-call : (k : Handle) (l : ℕ) → All (TracksAfter claimed v) (create_revoke_capa k l s)
    unfolding create_revoke_capa
    make-revoke-call k l = bind-any _ (λ d. bind-any _ (λ i. and_then _ (bind (capacity-tracks d s h) (λ s₁ h₁. slot-tracks d _ s₁ h₁))))
