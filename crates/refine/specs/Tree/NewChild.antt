-- A child joins in the state that its making leaves: the children of its parent are as they were, and the new slot is not among them.
use Rattle.std.specs.Prelude.{◌≡◌, ◌≢◌, ℕ, ◌^◌, ◌<◌, List, eqb, length, set}
use Rattle.std.proofs.Common.{sym, ap, ◌∙◌, arith, length-set, get_or-set_same, get_or-set_other}
use Rattle.std.proofs.Math.Option.{Option, none, some}
use Rattle.base.specs.Cases.{lt, ge, cmp}
use Rattle.base.specs.Options.{none-some}
use Rattle.model.specs.Lists.{count_if, at_slot, In}
use Rattle.model.specs.State as state
use Rattle.model.specs.State.{State, Kind, Access, parent_of}
use Rattle.model.specs.Tree as tree
use Rattle.model.specs.Regions as model
use Rattle.model.specs.Sound.{PoolSound, slot_uses}
use Rattle.laws.specs.Accepted.{All}
use Rattle.laws.specs.Keep.Locals.{made, new-all}
use Rattle.children.specs.Children.{insert_child}
use Rattle.refine.specs.Tree.Search.{Children}
use Rattle.refine.specs.Tree.ChildLists.{insert-child-is}
use Rattle.decoded.specs.Tables.{tables_of}

-- a free slot is no child, and what is put there leaves the children
module _ (rs : List (Option state.Region)) (p : ℕ) (cs : List ℕ) (children : Children rs p cs) (i : ℕ) (free : at_slot rs i ≡ none) where
  pub children-free : count_if (eqb i) cs ≡ 0
  children-free = elim (cmp 0 (count_if (eqb i) cs)) [
    | lt h ↦ let (x, e, q) = children.under i h in absurd (none-some (at_slot rs i) x free e)
    | ge h ↦ omega arith
  ]

  pub children-put : (o : Option state.Region) → Children (set rs i o) p cs
  children-put o = record {
    under = λ c h.
        let (x, e, q) = children.under c h in
        (x, get_or-set_other rs i c o none (λ z. none-some (at_slot rs c) x (ap (at_slot rs) z ∙ free) e) ∙ e, q);
    once = children.once;
    other = children.other;
  }

-- a region of that kind is made under g, in slot p
module _ (s : State) (long : length s.regions ≡ s.sizes.regions) (sound : PoolSound s.sizes.regions (slot_uses s.regions) s.region_pool) (few : s.sizes.regions < 2 ^ 64) (p : ℕ) (g : state.Region) (at : In s.regions p g) (children : Children s.regions p g.children) (d : ℕ) (k : Kind) (of : parent_of k ≡ some p) (a : Access) where
  pub join-made : All (λ (y : ℕ × State). insert_child (tables_of y.1) p y.0 ≡ tables_of (tree.insert_child p y.0 y.1)) (model.new_region d k a s)
  join-made = new-all s long sound d k a _ (λ i q l free.
      let ne : p ≢ i = λ z. none-some (at_slot s.regions i) g free (rw z at at) in
      insert-child-is (state.with_regions q (set s.regions i (some (made d k a))) s) (length-set s.regions i (some (made d k a)) ∙ long) p g
      (get_or-set_other s.regions i p (some (made d k a)) none ne ∙ at)
      (children-put s.regions p g.children children i free (some (made d k a)))
      i (made d k a) (get_or-set_same s.regions i (some (made d k a)) none l) of (λ z. ne (sym z)) few
      (children-free s.regions p g.children children i free))
