-- A law: no call but making, opening, setting, freezing and revoking changes the interface of a domain that is there, or the domain pool. Each step puts a
-- domain back as it was read, with another list, tracker or core map.
use Rattle.std.specs.Prelude.{◌≡◌, ℕ, ◌||◌, set}
use Rattle.std.proofs.Math.Path.{refl}
use Rattle.std.proofs.Common.{sym, ap, ◌∙◌, get_or-set_same, get_or-set_other}
use Rattle.std.proofs.Math.Option.{Option, none, some}
use mathlib.Core.List.{List, [], ◌∷◌}
use Rattle.std.proofs.Math.Decide.{ℕ_discrete}
use Rattle.std.proofs.Math.Dec.{eqb}
use Rattle.model.specs.Lists.{exists, In}
use Rattle.model.specs.State.{State, Sizes, Pool, Handle, Capa, no_capa, region, region_revoke, management, channel, Domain, Kind, Root, Alias, Carve, Access, Update, SendOptions, domain_at, put_domain}
use Rattle.model.specs.Pool.{handle_of}
use Rattle.model.specs.Locals.{has_capacity, insert_capa, remove_capa, empty_capa}
use Rattle.model.specs.Updates.{is_permission_of, push, push_permission, pop}
use Rattle.model.specs.Tracker.{Walk}
use Rattle.model.specs.Tree.{Range, insert_child}
use Rattle.model.specs.Regions.{put_walk, activate, deactivate, new_region, send_ranges, send_region, apply_options}
use Rattle.model.specs.Calls.{room_for_region, open_channel, set_core_map, create_root_region, add_child, alias_region, exchange_rights, carve_region, send_capa, send, create_revoke_capa}
use Rattle.model.specs.Perform.{Step, Call, perform_step, perform}
use Rattle.laws.specs.Accepted.{All, accepted, refused, bind, bind-any, and_then, branch}
use Rattle.laws.specs.Tree.Slots.{in-length}
use Rattle.laws.specs.Tree.Steps.{domain-at}

-- slot d has a domain with x's interface
abbrev pub SameInterface : List (Option Domain) → ℕ → Domain → Type 0
SameInterface ds d x = (y : Domain) × In ds d y × (y.interface ≡ x.interface)

-- sizes z, domain pool p and domains ds are as in s, but for the domains' other parts
pub record KeptFrom (s : State) (z : Sizes) (p : Pool) (ds : List (Option Domain)) : Type 0 where
  pub sizes : z ≡ s.sizes
  pub domain_pool : p ≡ s.domain_pool
  pub interfaces : (d : ℕ) (x : Domain) → In s.domains d x → SameInterface ds d x

abbrev pub Keeps : State → State → Type 0
Keeps s t = KeptFrom s t.sizes t.domain_pool t.domains

abbrev pub Keeps₁ : {A : Type 0} → State → A × State → Type 0
Keeps₁ s x = Keeps s x.1

pub kept_self : (s : State) → Keeps s s
kept_self s = record { sizes = refl; domain_pool = refl; interfaces = λ d x i. (x, i, refl) }

-- slot e is written: over domain x only with x's interface
pub put_same : (ds : List (Option Domain)) (e : ℕ) (y : Domain) (d : ℕ) (x : Domain) → In ds d x → (d ≡ e → y.interface ≡ x.interface) → SameInterface (set ds e (some y)) d x
put_same ds e y d x i k = elim (ℕ_discrete d e) [
  | yes m ↦ (y, rw (sym m) (get_or-set_same ds d (some y) none (in-length ds d x i)), k m)
  | no m ↦ (x, get_or-set_other ds e d (some y) none m ∙ i, refl)
]

-- what is read at slot e, where d is e
pub read-interface : (s : State) (d : ℕ) (x : Domain) → In s.domains d x → (e : ℕ) → d ≡ e → (domain_at s e).interface ≡ x.interface
read-interface s d x i e m = ap (λ k. (domain_at s k).interface) (sym m) ∙ ap (λ (z : Domain). z.interface) (domain-at s d x i)

module _ (s₀ : State) where
  put-kept : (e : ℕ) (y : Domain) (s : State) → y.interface ≡ (domain_at s e).interface → Keeps s₀ s → Keeps s₀ (put_domain e y s)
  put-kept e y s q h = record {
    sizes = h.sizes;
    domain_pool = h.domain_pool;
    interfaces = λ d x i. let (z, j, f) = h.interfaces d x i in let (u, k, g) = put_same s.domains e y d z j (λ m. q ∙ read-interface s d z j e m) in (u, k, g ∙ f);
  }

  -- ---- a domain's list

  pub capacity-kept : (d : ℕ) (s : State) → Keeps s₀ s → All (Keeps s₀) (has_capacity d s)
  unfolding has_capacity
  capacity-kept d s h = and_then _ (accepted (put-kept d _ s refl h))

  pub insert-kept : (d : ℕ) (c : Capa) (s : State) → Keeps s₀ s → All (Keeps₁ s₀) (insert_capa d c s)
  unfolding insert_capa
  insert-kept d c s h = bind-any _ (λ x. accepted (put-kept d _ s refl h))

  remove-kept : (d i : ℕ) (s : State) → Keeps s₀ s → Keeps s₀ (remove_capa d i s)
  unfolding remove_capa
  remove-kept d i s h = put-kept d _ s refl h

  empty-kept : (d i : ℕ) (s : State) → Keeps s₀ s → Keeps s₀ (empty_capa d i s)
  unfolding empty_capa
  empty-kept d i s h = put-kept d _ s refl h

  -- ---- queue and trackers

  push_kept : (u : Update) (s : State) → Keeps s₀ s → All (Keeps s₀) (push u s)
  unfolding push
  push_kept u s h = and_then _ (accepted h)

  permission-kept : (d m : ℕ) (s : State) → Keeps s₀ s → All (Keeps s₀) (push_permission d m s)
  unfolding push_permission
  permission-kept d m s h = branch (exists (is_permission_of (handle_of s.domain_pool d)) s.queue.items) (accepted h) (push_kept _ s h)

  walk_kept : (closing : List ℕ) → (d : ℕ) (w : Walk) (s : State) → Keeps s₀ s → All (Keeps s₀) (put_walk closing d w s)
  unfolding put_walk
  walk_kept closing d w s h = let k = put-kept d _ s refl h in branch (exists (eqb d) closing || eqb w.marks 0) (accepted k) (permission-kept d _ _ k)

  activate-kept : (closing : List ℕ) → (d : ℕ) (a : Access) (s : State) → Keeps s₀ s → All (Keeps s₀) (activate closing d a s)
  unfolding activate
  activate-kept closing d a s h = bind-any _ (λ w. walk_kept closing d w s h)

  deactivate-kept : (closing : List ℕ) → (d : ℕ) (a : Access) (s : State) → Keeps s₀ s → All (Keeps s₀) (deactivate closing d a s)
  unfolding deactivate
  deactivate-kept closing d a s h = bind-any _ (λ w. walk_kept closing d w s h)

  -- ---- regions

  new-region-kept : (d : ℕ) (k : Kind) (a : Access) (s : State) → Keeps s₀ s → All (Keeps₁ s₀) (new_region d k a s)
  unfolding new_region
  new-region-kept d k a s h = bind-any _ (λ x. accepted h)

  ranges-kept : (old new r : ℕ) (xs : List Range) (s : State) → Keeps s₀ s → All (Keeps s₀) (send_ranges old new r xs s)
  unfolding send_ranges
  ranges-kept old new r [] s h = accepted h
  ranges-kept old new r (x ∷ xs) s h = bind (deactivate-kept [] old _ s h) (λ s₁ k. bind (activate-kept [] new _ s₁ k) (λ s₂ l. ranges-kept old new r xs s₂ l))

  send-region-kept : (i new : ℕ) (s : State) → Keeps s₀ s → All (Keeps s₀) (send_region i new s)
  unfolding send_region
  send-region-kept i new s h = ranges-kept _ new _ _ _ h

  options-kept : (i : ℕ) (o : SendOptions) (s : State) → Keeps s₀ s → Keeps s₀ (apply_options i o s)
  unfolding apply_options
  options-kept i o s h = go o.flags
    where
      go : (x : Option ℕ) → Keeps s₀ (apply_options i (record { flags = x; hash = o.hash }) s)
      go none = h
      go (some f) = h

  room-kept : (d : ℕ) (a : Access) (s : State) → Keeps s₀ s → All (Keeps s₀) (room_for_region d a s)
  unfolding room_for_region
  room-kept d a s h = and_then _ (bind (capacity-kept d s h) (λ s₁ k. and_then _ (accepted k)))

  child-kept : (d p : ℕ) (k : Kind) (a : Access) (s : State) → Keeps s₀ s → All (Keeps₁ s₀) (add_child d p k a s)
  unfolding add_child insert_child
  child-kept d p k a s h = bind (new-region-kept d k a s h) (λ x j. insert-kept d _ _ j)

  -- ---- the calls

  channel-kept : (h to : Handle) (s : State) → Keeps s₀ s → All (Keeps₁ s₀) (open_channel h to s)
  unfolding open_channel
  channel-kept h to s q = bind-any _ (λ d. bind-any _ (λ t. bind (capacity-kept d s q) (λ s₁ k. insert-kept d _ s₁ k)))

  set-core-map-kept : (h : Handle) (c : ℕ) (s : State) → Keeps s₀ s → All (Keeps s₀) (set_core_map h c s)
  unfolding set_core_map
  set-core-map-kept h c s q = bind-any _ (λ d. accepted (put-kept d _ s refl q))

  root_kept : (h : Handle) (a : Access) (s : State) → Keeps s₀ s → All (Keeps₁ s₀) (create_root_region h a s)
  unfolding create_root_region
  root_kept h a s q =
      bind-any _ (λ d.
      bind (room-kept d a s q) (λ s₁ i.
      bind (new-region-kept d Root a s₁ i) (λ x j.
      bind (insert-kept d _ x.1 j) (λ y k.
      bind (activate-kept [] d a y.1 k) (λ s₄ l. accepted l)))))

  alias-kept : (h : Handle) (l : ℕ) (a : Access) (s : State) → Keeps s₀ s → All (Keeps₁ s₀) (alias_region h l a s)
  unfolding alias_region
  alias-kept h l a s q =
      bind-any _ (λ d.
      bind-any _ (λ p.
      bind (room-kept d a s q) (λ s₁ i.
      and_then _ (bind (child-kept d p (Alias p) a s₁ i) (λ x j.
      bind (activate-kept [] d a x.1 j) (λ s₃ k. accepted k))))))

  exchange-kept : (d old : ℕ) (a : Access) (s : State) → Keeps s₀ s → All (Keeps s₀) (exchange_rights d old a s)
  unfolding exchange_rights
  exchange-kept d old a s q = branch (eqb old a.rights) (accepted q) (bind (deactivate-kept [] d _ s q) (λ s₁ k. activate-kept [] d a s₁ k))

  carve-kept : (h : Handle) (l : ℕ) (a : Access) (s : State) → Keeps s₀ s → All (Keeps₁ s₀) (carve_region h l a s)
  unfolding carve_region
  carve-kept h l a s q =
      bind-any _ (λ d.
      bind-any _ (λ p.
      bind (room-kept d a s q) (λ s₁ i.
      and_then _ (bind (child-kept d p (Carve p) a s₁ i) (λ x j.
      bind (exchange-kept d _ a x.1 j) (λ s₃ k. accepted k))))))

  send-capa-kept : (c : Capa) (to : ℕ) (o : SendOptions) (s : State) → Keeps s₀ s → All (Keeps s₀) (send_capa c to o s)
  unfolding send_capa
  send-capa-kept no_capa to o s q = accepted q
  send-capa-kept (region h) to o s q = bind-any _ (λ i. and_then _ (bind (send-region-kept i to s q) (λ t k. accepted (options-kept i o t k))))
  send-capa-kept (region_revoke h) to o s q = accepted q
  send-capa-kept (management h) to o s q = refused
  send-capa-kept (channel h) to o s q = accepted q

  send-kept : (h : Handle) (l t : ℕ) (o : SendOptions) (s : State) → Keeps s₀ s → All (Keeps₁ s₀) (send h l t o s)
  unfolding send
  send-kept h l t o s q =
      bind-any _ (λ d.
      bind-any _ (λ c.
      bind-any _ (λ k.
      bind-any _ (λ to.
      bind (capacity-kept to s q) (λ s₁ i.
      bind-any _ (λ c'.
      bind (send-capa-kept c' to o s₁ i) (λ s₂ j. insert-kept to c' _ (remove-kept d l s₂ j))))))))

  create-revoke-capa-kept : (h : Handle) (l : ℕ) (s : State) → Keeps s₀ s → All (Keeps₁ s₀) (create_revoke_capa h l s)
  unfolding create_revoke_capa
  create-revoke-capa-kept h l s q = bind-any _ (λ d. bind-any _ (λ i. and_then _ (bind (capacity-kept d s q) (λ s₁ k. insert-kept d _ s₁ k))))

  pop_kept : (s : State) (us : List Update) → s.queue.items ≡ us → Keeps s₀ s → Keeps s₀ (pop s).1
  unfolding pop
  pop_kept s [] e h = rw (e, pop) h
  pop_kept s (u ∷ us) e h = rw (e, pop) h

-- ---- all calls

-- What a call can do to interfaces: five kinds of calls have a law of their own, and every other keeps those that are there. A revoke may close domains;
-- its law is `revoke-interfaces` (Close/Interfaces).
pub data InterfaceCase (s : State) : Call → Type 0 where
  making : (z : Sizes) → InterfaceCase s (Call.Make z)
  opening : (m : Option Handle) (cores : ℕ) → InterfaceCase s (Call.Do (Step.Open m cores))
  setting : (h : Handle) (word : ℕ) → InterfaceCase s (Call.Do (Step.SetInterface h word))
  freezing : (h : Handle) → InterfaceCase s (Call.Do (Step.FreezeInterface h))
  revoking : (h : Handle) (l : ℕ) → InterfaceCase s (Call.Do (Step.Revoke h l))
  keeping : (c : Call) → All (Keeps₁ s) (perform s c) → InterfaceCase s c

pub interface-case : (s : State) (c : Call) → InterfaceCase s c
unfolding perform perform_step
interface-case s (Call.Make z) = making z
interface-case s (Call.Do (Step.Open m cores)) = opening m cores
interface-case s (Call.Do (Step.SetInterface h word)) = setting h word
interface-case s (Call.Do (Step.FreezeInterface h)) = freezing h
interface-case s (Call.Do (Step.Revoke h l)) = revoking h l
interface-case s (Call.Do (Step.Channel h to)) = keeping _ (bind (channel-kept s h to s (kept_self s)) (λ x k. accepted k))
interface-case s (Call.Do (Step.SetCoreMap h cores)) = keeping _ (bind (set-core-map-kept s h cores s (kept_self s)) (λ x k. accepted k))
interface-case s (Call.Do (Step.Root h a)) = keeping _ (bind (root_kept s h a s (kept_self s)) (λ x k. accepted k))
interface-case s (Call.Do (Step.Alias h l a)) = keeping _ (bind (alias-kept s h l a s (kept_self s)) (λ x k. accepted k))
interface-case s (Call.Do (Step.Carve h l a)) = keeping _ (bind (carve-kept s h l a s (kept_self s)) (λ x k. accepted k))
interface-case s (Call.Do (Step.Send h l t o)) = keeping _ (bind (send-kept s h l t o s (kept_self s)) (λ x k. accepted k))
interface-case s (Call.Do (Step.CreateRevokeCapa h l)) = keeping _ (bind (create-revoke-capa-kept s h l s (kept_self s)) (λ x k. accepted k))
interface-case s Call.Pop = keeping _ (bind {P = Keeps₁ s} (accepted (pop_kept s s _ refl (kept_self s))) (λ x k. accepted k))
interface-case s (Call.Read r) = keeping _ (bind-any _ (λ x. accepted (kept_self s)))
