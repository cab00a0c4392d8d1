-- The pieces of a live region, walked along its children's links, are its effective ranges with its rights: the region that is read has these
-- children, each as its row has it.
use Rattle.std.specs.Prelude.{◌≡◌, refl, Bool, true, false, ltb, leb, if◌then◌else◌}
use Rattle.std.proofs.Math.Path.{sym, ap}
use Rattle.std.proofs.Common.{◌∙◌, arith, le-leb}
use Prim.Native.Nat.{ℕ, zero, suc}
use Rattle.std.proofs.Math.Option.{Option, get_or}
use mathlib.Core.List.{List, [], ◌∷◌, ◌++◌, map, map-append}
use Rattle.std.proofs.Math.Dec.{T}
use Rattle.base.specs.Cases.{holds, fails, test, pick}
use Rattle.model.specs.Lists.{Each, is_some, at_slot, In}
use Rattle.model.specs.State as state
use Rattle.model.specs.State.{none_region, region_in}
use Rattle.model.specs.Tree as tree
use Rattle.model.specs.Tree.{Range, is_carve, effective_from}
use Rattle.laws.specs.Lists.{each_weaken}
use Rattle.laws.specs.Tree.Slots.{live-is}
use Rattle.laws.specs.Tree.Facts.{Regions}
use Rattle.tables.specs.Kinds.{CARVE}
use Rattle.tables.specs.Tables.{Tables, region_at}
use Rattle.decoded.specs.Decode.Read.{kind_from, children_from, region_read, regions_from}
use Rattle.decoded.specs.Canonical.Pools.{table-in}
use Rattle.sweep.specs.Events.{Piece}
use Rattle.sweep.proofs.Gather.{as_piece, with_rights, pieces_of}
use Rattle.sound_pieces.specs.Pieces.{piece, between, region_pieces}

-- ---- one piece, and one child

piece_is : (r s e : ℕ) → piece r s e ≡ with_rights r (tree.piece s e)
piece_is r s e = elim (test (ltb s e)) [ holds t ↦ rw t refl | fails t ↦ rw t refl ]

-- a child that is a carve, or none
child-is : (b : Bool) (r a s : ℕ) (p q : List Piece) (x y : List Range) → p ≡ with_rights r x → q ≡ with_rights r y → pick b (piece r a s ++ p) q ≡ with_rights r (if b then tree.piece a s ++ x else y)
child-is true r a s p q x y e e' = (λ i. piece_is r a s i ++ e i) ∙ sym (map-append (as_piece r) (tree.piece a s) x)
child-is false r a s p q x y e e' = e'

-- kinds above CARVE are read as a carve
kind-is : (n p : ℕ) → leb CARVE n ≡ is_carve (kind_from n p)
kind-is zero p = refl
kind-is (suc zero) p = refl
kind-is (suc (suc zero)) p = refl
kind-is (suc (suc (suc n))) p = le-leb CARVE (suc (suc (suc n))) (omega arith)

-- ---- along the links

module _ (v : Tables) (r e : ℕ) where
  -- the children from link k on, as they are read
  abbrev from : ℕ → ℕ → List state.Region
  from n k = map (region_read v) (children_from n v.regions k)

  between_is : (n a k : ℕ) → between (region_at v) n r e a k ≡ with_rights r (effective_from a e (from n k))
  unfolding between region_at
  between_is zero a k = piece_is r a e
  between_is (suc n) a zero = piece_is r a e
  between_is (suc n) a (suc i) =
      let c = region_at v i in
      let cs = from n c.next in
      child-is (leb CARVE c.kind) r a c.start (between (region_at v) n r e c.end c.next) (between (region_at v) n r e a c.next) (effective_from c.end e cs) (effective_from a e cs) (between_is n c.end c.next) (between_is n a c.next)
      ∙ ap (λ (b : Bool). with_rights r (if b then tree.piece a c.start ++ effective_from c.end e cs else effective_from a e cs)) (kind-is c.kind c.parent)

-- ---- one region

map_each : {A B : Type 0} (f g : A → B) (l : List A) → Each (λ x. f x ≡ g x) l → map f l ≡ map g l
map_each f g [] h = refl
map_each f g (x ∷ l) h = λ i. h.0 i ∷ map_each f g l h.1 i

module _ (v : Tables) (sound : Regions (regions_from v)) where
  -- a live region is as it is read
  row-live : (i : ℕ) → T (is_some (at_slot (regions_from v) i)) → region_in (regions_from v) i ≡ region_read v i
  unfolding regions_from
  row-live i t =
      let x = live-is (at_slot (regions_from v) i) t in
      ap (λ (o : Option state.Region). get_or o none_region) x.1 ∙ sym (table-in v.sizes.regions v.region_pool (region_read v) i x.0 x.1).2

  pub pieces_are : (i : ℕ) → In (regions_from v) i (region_read v i) → region_pieces (region_at v) v.sizes.regions i ≡ pieces_of (regions_from v) (region_in (regions_from v) i)
  unfolding region_pieces region_at
  pieces_are i at =
      let g = region_read v i in
      let rs = regions_from v in
      between_is v g.rights g.end v.sizes.regions g.start (region_at v i).child
      ∙ ap (λ (cs : List state.Region). with_rights g.rights (effective_from g.start g.end cs)) (sym (map_each (region_in rs) (region_read v) g.children (each_weaken (λ c. T (is_some (at_slot rs c))) (λ c. region_in rs c ≡ region_read v c) g.children row-live (sound i g at).children_live)))
      ∙ ap (λ (o : Option state.Region). pieces_of rs (get_or o none_region)) (sym at)
