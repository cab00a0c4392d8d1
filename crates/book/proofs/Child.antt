-- A region with a parent: alias and carve make one, and its parent's list of children grows.
use Rattle.std.specs.Prelude.{◌≡◌, refl, ℕ, ◌<◌, true, ◌&&◌, List, eqb, length, get_or, set}
use Rattle.std.proofs.Common.{sym, ap, ◌∙◌, arith, eqb→eq, get_or-set_same, get_or-set_other, eq-eqb}
use Rattle.std.proofs.Math.Option
use Rattle.std.proofs.Math.Option.{Option, none, some}
use Rattle.base.specs.Cases.{holds, fails, test}
use Rattle.base.specs.Tests.{true-is, false-is}
use Rattle.model.specs.Lists.{is_some, at_slot}
use Rattle.model.specs.State.{State, Pool, Handle, Region, Kind, Alias, Access, none_region, region_at, put_region, with_children, parent_of}
use Rattle.model.specs.Tree.{insert_child}
use Rattle.model.specs.Calls.{add_child}
use Rattle.model.specs.Sound.{OnceEach, slot_uses}
use Rattle.laws.specs.Accepted.{All, bind}
use Rattle.book.specs.Book.{Book, Noted, noted}
use Rattle.book.specs.Demand3.{kind_by}
use Rattle.book.specs.Matches.{Regions, MatchesAt}
use Rattle.book.specs.Tests.{set-some, some_below}
use Rattle.book.proofs.NewRegion.{new-region-match, RegionPut, slot-match}

-- a region's node, all but its children
pub record SameNode (g g' : Region) : Type 0 where
  pub kind : g'.kind ≡ g.kind
  pub owner : g'.owner ≡ g.owner
  pub start : g'.start ≡ g.start
  pub end : g'.end ≡ g.end
  pub rights : g'.rights ≡ g.rights

same-node : (g : Region) → SameNode g g
same-node g = record { kind = refl; owner = refl; start = refl; end = refl; rights = refl }

node-as : (g g' g'' : Region) → g'' ≡ g' → SameNode g g' → SameNode g g''
node-as g g' g'' e h = rw e h

pub edit-regions : (rs : List Noted) (p : Pool) (gs gs' : List (Option Region)) (at : ℕ → Handle) (place : ℕ → ℕ) → ((j : ℕ) → is_some (at_slot gs' j) ≡ is_some (at_slot gs j)) → ((j : ℕ) → SameNode (Option.get_or (at_slot gs j) none_region) (Option.get_or (at_slot gs' j) none_region)) → Regions rs p gs at place → Regions rs p gs' at place
edit-regions rs p gs gs' at place e n m = record {
  alive_is_live = λ k u. m.alive_is_live k u ∙ sym (ap (λ c. c && eqb (get_or p.gens (at k).slot 0) (at k).generation) (e (at k).slot));
  dead_is_older = m.dead_is_older;
  stored = λ k u a. let h = m.stored k u a in let v = n (at k).slot in record { kind = v.kind ∙ h.kind; owner = v.owner ∙ h.owner; start = v.start ∙ h.start; end = v.end ∙ h.end; rights = v.rights ∙ h.rights };
  back = λ i h. m.back i (sym (e i) ∙ h);
  one = m.one;
  parent_earlier = m.parent_earlier;
  parent_lives = m.parent_lives;
  roots_live = m.roots_live;
}

module _ (gs : List (Option Region)) (q : ℕ) (g : Region) (i : is_some (at_slot gs q) ≡ true) (n : SameNode (Option.get_or (at_slot gs q) none_region) g) where
  node_at : (j : ℕ) → j ≡ q → SameNode (Option.get_or (at_slot gs j) none_region) (Option.get_or (at_slot (set gs q (some g)) j) none_region)
  node_at j e = rw e (node-as _ g _ (ap (λ o. Option.get_or o none_region) (get_or-set_same gs q (some g) none (some_below gs q i))) n)

  set-node : (j : ℕ) → SameNode (Option.get_or (at_slot gs j) none_region) (Option.get_or (at_slot (set gs q (some g)) j) none_region)
  set-node j = elim (test (eqb j q)) [
    | holds t ↦ node_at j (eqb→eq j q (true-is t))
    | fails t ↦ node-as _ _ _ (ap (λ o. Option.get_or o none_region) (get_or-set_other gs q j (some g) none (λ e. false-is t (true-is (eq-eqb j q e))))) (same-node _)
  ]

  pub set-regions : (rs : List Noted) (p : Pool) (at : ℕ → Handle) (place : ℕ → ℕ) → Regions rs p gs at place → Regions rs p (set gs q (some g)) at place
  set-regions rs p at place m = edit-regions rs p gs _ at place (set-some gs q g i) set-node m

-- the child list of a live region changes in the tables alone
pub children-match : (b : Book) (s : State) (at : ℕ → Handle) (place : ℕ → ℕ) (q : ℕ) (cs : List ℕ) → is_some (at_slot s.regions q) ≡ true → MatchesAt b s at place → MatchesAt b (put_region q (with_children cs (region_at s q)) s) at place
children-match b s at place q cs i m = record { sizes = m.sizes; regions = set-regions s.regions q _ i (record { kind = refl; owner = refl; start = refl; end = refl; rights = refl }) b.regions s.region_pool at place m.regions; lists = m.lists; generations = m.generations }

pub child-match : (b : Book) (s : State) (at : ℕ → Handle) (place : ℕ → ℕ) (d p : ℕ) (k k' : Kind) (a : Access) (n : ℕ) → OnceEach n (slot_uses s.regions) s.region_pool.free → length s.regions ≡ n → MatchesAt b s at place → k' ≡ kind_by (λ j. (at j).slot) k → ((q : ℕ) → parent_of k ≡ some q → q < length b.regions) → ((q : ℕ) → parent_of k ≡ some q → (noted b.regions q).alive ≡ true) → is_some (at_slot s.regions p) ≡ true → is_some (at_slot s.domains d) ≡ true → All (RegionPut b s d k a) (add_child d p k' a s)
unfolding add_child insert_child
child-match b s at place d p k k' a n once len m same parent parent_lives i j =
    bind (new-region-match b s at place d k k' a n once len m same parent parent_lives) (λ x g.
    slot-match b s _ d k a _ _ _ (children-match _ x.1 _ _ p _ (ap is_some (g.slots p i) ∙ i) g.fits) g.last g.domains j)

pub parent-lives : (b : Book) (k q : ℕ) → (noted b.regions k).alive ≡ true → parent_of (Alias k) ≡ some q → (noted b.regions q).alive ≡ true
parent-lives b k q l e = ap (λ o. (noted b.regions (Option.get_or o 0)).alive) (sym e) ∙ l

pub parent-below : (k n q : ℕ) → k < n → parent_of (Alias k) ≡ some q → q < n
parent-below k n q u e = let f : k ≡ q = some_inj k q e in omega arith
  where
    some_inj : (k q : ℕ) → some k ≡ some q → k ≡ q
    some_inj k q e = ap (λ o. Option.get_or o 0) e
