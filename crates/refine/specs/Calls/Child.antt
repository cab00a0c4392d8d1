-- What alias and carve share: the checks of the parent, and `add_child`: the region takes a slot, joins its parent's list and gets its capability.
use Rattle.std.specs.Prelude.{◌≡◌}
use Rattle.std.proofs.Math.Path.{refl, sym}
use Rattle.std.proofs.Common.{ap, ◌∙◌, arith}
use Prim.Native.Nat.{ℕ, ◌<◌}
use Rattle.std.proofs.Math.Option.{some}
use Rattle.model.specs.Lists.{at_slot, In}
use Rattle.model.specs.Outcome.{Outcome, ◌>>=◌}
use Rattle.model.specs.State as state
use Rattle.model.specs.State.{State, Domain, Kind, parent_of, region}
use Rattle.model.specs.Pool.{handle_of}
use Rattle.model.specs.Locals.{insert_capa}
use Rattle.model.specs.Layout.{link, kind_word}
use Rattle.model.specs.Tree as tree
use Rattle.model.specs.Regions as steps
use Rattle.model.specs.Calls as model
use Rattle.model.specs.Sound.{Sound}
use Rattle.laws.specs.Accepted.{All, weaken, both}
use Rattle.laws.specs.Tree.Slots.{in-length, live-is, is_live_lem}
use Rattle.laws.specs.Keep.Agreement.{TrackersAgreeWith, TrackersAgree}
use Rattle.laws.specs.Keep.Base.{Base, sound-base}
use Rattle.laws.specs.Keep.BaseSteps.{Live, Ready, new-base, join-base}
use Rattle.laws.specs.Keep.Locals.{new-all}
use Rattle.laws.specs.Keep.Checks.{Room, room-agree}
use Rattle.tables.specs.declared.Handle.{Handle}
use Rattle.tables.specs.Tables.{Tables}
use Rattle.answers.specs.Answers.{Effect, and_then}
use Rattle.region.specs.declared.AccessRights.{AccessRights}
use Rattle.tables.specs.Links.{link_to}
use Rattle.domain.specs.Activate.{insert}
use Rattle.children.specs.Children.{insert_child}
use Rattle.segment.specs.Regions.{capa_for, new_region}
use Rattle.checks.specs.Checks.{caller_with, region_held, room_for_region, capa_of}
use Rattle.region_calls.specs.Calls.{held_region, add_child}
use Rattle.decoded.specs.Tables.{capa_slot, tables_of}
use Rattle.refine.specs.Arenas.Pools.{handle_in}
use Rattle.refine.specs.Agrees.{Agrees, agrees-step}
use Rattle.refine.specs.Calls.Sequence.{agrees_on, agrees-next}
use Rattle.refine.specs.Tree.Search.{Children, regions-children}
use Rattle.refine.specs.Tree.ChildLists.{link-to}
use Rattle.refine.specs.Tree.NewChild.{join-made}
use Rattle.refine.specs.Tree.ChildChecks.{access_for}
use Rattle.refine.specs.Tree.RegionSteps.{new-region-refines}
use Rattle.refine.specs.Calls.Bounds.{Bounded, regions-few}
use Rattle.refine.specs.Calls.Checks.{Lists, room-refines}
use Rattle.refine.specs.Calls.KeptLists.{sound-lists, domain-small, room-lists}
use Rattle.refine.specs.Calls.SharedSteps.{Fit, from-caller, from-held, insert-here, region-of}
use Rattle.refine.specs.Calls.NewRegion.{agree-children, agree-bounded}

-- ---- a child of region h in slot p

module _ (s : State) (agree : TrackersAgree s) (base : Base s) (lists : Lists s) (d : ℕ) (live : Live s d) (p : ℕ) (h : state.Region) (at : In s.regions p h) (k : Kind) (under : parent_of k ≡ some p) (a : AccessRights) where
  -- the region has its slot: it can join the list, and then get its capability
  record Joinable (i : ℕ) (t : State) : Type 0 where
    joins : insert_child (tables_of t) p i ≡ tables_of (tree.insert_child p i t)
    fit : Fit d (tree.insert_child p i t)

  new-joinable : All (λ (y : ℕ × State). Joinable y.0 y.1) (steps.new_region d k (access_for a) s)
  unfolding tree.insert_child
  new-joinable =
      let size = base.regions.size in
      let pool = base.regions.pool in
      weaken (both (join-made s size pool (omega (arith, regions-few s base)) p h at (regions-children s.regions agree.regions p h at) d k under (access_for a))
      (both (new-base s d base live k (access_for a)) (new-all s size pool d k (access_for a) (λ (y : ℕ × State). Lists y.1) (λ i q l free. lists))))
      (λ (i, t) (j, (((b, v), still), l)). let (b₁, v₁) = join-base t d b v p i (still p (is_live_lem _ h at)) in record { joins = j; fit = (b₁, l, v₁) })

  same-pool : (i : ℕ) (t : State) → handle_of (tree.insert_child p i t).region_pool i ≡ handle_of t.region_pool i
  unfolding tree.insert_child
  same-pool i t = refl

  held-refines : (i : ℕ) (t : State) → Joinable i t → Agrees (insert d (capa_of 2 (insert_child (tables_of t) p i).region_pool i) (insert_child (tables_of t) p i)) (insert_capa d (region (handle_of t.region_pool i)) (tree.insert_child p i t))
  held-refines i t c =
      let u = tree.insert_child p i t in
      let n = region (handle_of t.region_pool i) in
      agrees-step _ _ (insert_capa d n u) (ap (λ (w : Tables). insert d (capa_of 2 w.region_pool i) w) c.joins)
      (insert-here u d c.fit n _ (region-of u i ∙ ap (λ m. capa_slot (region m)) (same-pool i t)))

  pub add-child-refines : Agrees (add_child d p (kind_word k) a (tables_of s)) (model.add_child d p k (access_for a) s)
  unfolding add_child held_region model.add_child
  add-child-refines =
      let (x, e) = live-is (at_slot s.domains d) live in
      let parent : link_to p ≡ link (parent_of k) = link-to p (omega (arith, regions-few s base, in-length s.regions p h at)) ∙ sym (ap link under) in
      agrees-next _ _ (steps.new_region d k (access_for a) s) _
      (agrees-step _ _ (steps.new_region d k (access_for a) s) (ap (λ (n : ℕ). new_region (capa_for d (kind_word k) n a) (tables_of s)) parent)
      (new-region-refines s base.regions.size base.regions.pool (agree-children s agree) d (domain-small s base d x e) k a))
      new-joinable held-refines

-- ---- the parent

module _ (s : State) (sound : Sound s) (a : AccessRights) where
  -- the checks that alias and carve share, passed: there is room in the tables t, and region g in slot p is live and the domain's
  pub record Parent (d p : ℕ) (t : State) : Type 0 where
    pub domain : Domain
    pub here : In s.domains d domain
    pub room : Room s sound d domain here (access_for a) t
    pub lists : Lists t
    pub parent : state.Region
    pub at : In t.regions p parent
    pub own : parent.owner ≡ d

  pub with-parent : (bit : ℕ) (h : Handle) (l : ℕ) (f : ℕ → ℕ → Tables → Effect) (k : ℕ → ℕ → State → Outcome (ℕ × State)) → ((d p : ℕ) (t : State) → Parent d p t → Agrees (f d p (tables_of t)) (k d p t))
      → Agrees (and_then (caller_with bit h (tables_of s)) (λ d s₁. and_then (region_held d l s₁) (λ p s₂. and_then (room_for_region d a s₂) (λ u. f d p))))
      (model.caller_with bit s (handle_in h) >>= λ d. model.region_held s d l >>= λ p. model.room_for_region d (access_for a) s >>= λ t. k d p t)
  with-parent bit h l f k j =
      let base = sound-base s sound in
      let lists = sound-lists s sound in
      from-caller s base bit h _ _ (λ d x e.
      from-held s sound d x e l _ _ (λ p g i own.
      agrees_on _ _ (model.room_for_region d (access_for a) s) (λ t. (0, t)) _ (room-refines s base d x e lists a)
      (both (room-agree s sound d x e (access_for a)) (room-lists s lists d x e base (access_for a))) (λ t (r, l₁).
      j d p t (record { domain = x; here = e; room = r; lists = l₁; parent = g; at = ap (λ rs. at_slot rs p) r.regions ∙ i; own = own }))))

  module _ (d p : ℕ) (t : State) (k : Parent d p t) where
    pub parent-children : Children t.regions p k.parent.children
    parent-children = regions-children t.regions k.room.agree.regions p k.parent k.at

    pub parent-byte : k.parent.rights < 256
    parent-byte = (k.room.agree.regions p k.parent k.at).rights_byte

    -- the tables with the child, whose trackers follow next
    abbrev pub Next : ℕ × State → Type 0
    Next y = TrackersAgreeWith t.regions y.1 × Ready d y.1

    pub next-bounded : (u : State) → TrackersAgreeWith t.regions u → Base u → Bounded 1024 u
    next-bounded u b j = agree-bounded t u k.room.base b j
