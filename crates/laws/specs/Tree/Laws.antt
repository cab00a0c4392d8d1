-- The laws of each change, for the tables that the steps leave: the regions stay sound, and the counts are what the change says.
-- A root, an alias and a carve are added by the rules that the calls check; an alias and a carve without children are removed; a region changes its owner,
-- or extends its rights and changes its hash.
use Rattle.std.specs.Prelude.{◌≡◌, ℕ, ◌≤◌, ◌<◌, List, [], T, length, set}
use Rattle.std.proofs.Common.{ap}
use Rattle.std.proofs.Math.Option.{Option, none, some}
use Rattle.model.specs.Lists.{at_slot, In}
use Rattle.model.specs.State.{State, Hash, HashWords, Region, Root, Alias, Carve, parent_of, with_owner, with_rights_hash}
use Rattle.model.specs.Tree.{is_carve, access_of, check_alias, check_carve, effective_ranges}
use Rattle.laws.specs.Tree.Facts.{Regions}
use Rattle.laws.specs.Tree.Slots.{in-length}
use Rattle.laws.specs.Tree.Extends.{Extends}
use Rattle.laws.specs.Tree.Change.{Changed, child_in, child_out, set-slot}
use Rattle.laws.specs.Tree.Rule.{Fits, alias-fits, carve-fits}
use Rattle.laws.specs.Tree.Shape.{Sized, under-sized, to-shape}
use Rattle.laws.specs.Tree.CountsInclude.{CountsInclude}
use Rattle.laws.specs.Tree.Pieces.{spread}
use Rattle.laws.specs.Tree.Keep.{slot_added, root_kept, child-added, child-kept, slot-removed, removed-kept, owner-kept, rights-hash-kept}
use Rattle.laws.specs.Tree.Tallies.{Gains, Exchanges, Moves, SameCounts, add-plain, add-carve, added-include, remove-plain, remove-carve, removed-include, changes-owner, owner-include, extends-counts}

module _ (s : State) (ok : Regions s.regions) where
  -- ---- region g is added in the free slot i

  module _ (i : ℕ) (g : Region) (l : i < length s.regions) (free : at_slot s.regions i ≡ none) (empty : g.children ≡ []) where
    pub root-law : Sized g → g.kind ≡ Root → Regions (set s.regions i (some g)) × Gains s.regions (set s.regions i (some g)) g
    root-law z e = (root_kept s.regions ok i g l free empty z e, add-plain s.regions ok _ i free g (slot_added s.regions ok i g l free empty z) (ap is_carve e))

    -- under region h in slot p
    module _ (p : ℕ) (h : Region) (at : In s.regions p h) (n : g.start < g.end) (w : HashWords g.hash) where
      abbrev with : List (Option Region)
      with = child_in (set s.regions i (some g)) i g p h

      size : Fits s.regions p g → Sized g
      size r = under-sized s.regions (to-shape s.regions ok) p g r.under n w

      added : Fits s.regions p g → Changed s.regions with i none (some g)
      added r = child-added s.regions ok i g l free empty (size r) p h at r

      sound : Fits s.regions p g → Regions with
      sound r = child-kept s.regions ok i g l free empty (size r) p h at r

      pub alias-law : g.kind ≡ Alias p → T (check_alias s h (access_of g)) → Regions with × Gains s.regions with g
      alias-law e t =
          let r = alias-fits s ok p h at g (ap parent_of e) (ap is_carve e) t in
          (sound r, add-plain s.regions ok with i free g (added r) (ap is_carve e))

      -- and what the parent's owner loses was there
      pub carve-law : g.kind ≡ Carve p → T (check_carve s h (access_of g)) → Regions with × Exchanges s.regions with g h × ((a : ℕ) → g.start ≤ a → a < g.end → CountsInclude s.regions h.owner a h.rights)
      carve-law e t =
          let r = carve-fits s ok p h at g (ap parent_of e) t in
          (sound r, add-carve s.regions ok with i free g (added r) p h at e r, added-include s.regions ok with i free g (added r) p h at e r)

  -- ---- region g without children is removed from slot i, and from the list of region h in slot p; what its owner loses was there

  module _ (i : ℕ) (g : Region) (e : In s.regions i g) (empty : g.children ≡ []) (p : ℕ) (h : Region) (at : In s.regions p h) where
    abbrev less : List (Option Region)
    less = set (child_out s.regions i p h) i none

    left : parent_of g.kind ≡ some p → Changed s.regions less i (some g) none
    left q = slot-removed s.regions ok i g e empty p h at q

    pub leaf-law : parent_of g.kind ≡ some p → Regions less × ((a : ℕ) → g.start ≤ a → a < g.end → CountsInclude s.regions g.owner a g.rights)
    leaf-law q = (removed-kept s.regions ok i g e empty p h at q, removed-include s.regions ok less i g e empty (left q))

    pub alias-removed : g.kind ≡ Alias p → Gains less s.regions g
    alias-removed q = remove-plain s.regions ok less i g e empty (left (ap parent_of q)) (ap is_carve q)

    pub carve-removed : g.kind ≡ Carve p → Exchanges less s.regions g h
    carve-removed q = remove-carve s.regions ok less i g e empty (left (ap parent_of q)) p h at q

  -- ---- region g in slot i becomes domain o's; what its owner loses was there

  pub owner-law : (i : ℕ) (g : Region) → In s.regions i g → (o : ℕ) → Regions (set s.regions i (some (with_owner o g))) × Moves s.regions (set s.regions i (some (with_owner o g))) g o (effective_ranges s g) × ((a : ℕ) → 0 < spread 1 (effective_ranges s g) a → CountsInclude s.regions g.owner a g.rights)
  owner-law i g e o = (owner-kept s.regions ok i g e o, changes-owner s.regions ok i g e _ o (set-slot s.regions i (some g) (some (with_owner o g)) (in-length s.regions i g e) e), owner-include s.regions ok i g e)

  -- ---- region g in slot i extends its rights, and its hash is another

  pub rights-hash-law : (i : ℕ) (g : Region) → In s.regions i g → (n : ℕ) (y : Option Hash) → Extends g.rights n → HashWords y → Regions (set s.regions i (some (with_rights_hash n y g))) × SameCounts s.regions (set s.regions i (some (with_rights_hash n y g)))
  rights-hash-law i g e n y x w = (rights-hash-kept s.regions ok i g e n y x w, extends-counts s.regions _ i g n y x (set-slot s.regions i (some g) (some (with_rights_hash n y g)) (in-length s.regions i g e) e))
