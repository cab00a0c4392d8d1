-- The checks of alias and carve: the search for an overlapping child finds none exactly where the model's test finds none among the children.
use Rattle.std.specs.Prelude.{◌≡◌, refl, ℕ, suc, ◌%◌, ◌<◌, Bool, true, false, not, ◌&&◌, List, [], ◌∷◌, map, ltb, leb, length}
use Rattle.std.proofs.Common.{sym, ◌∙◌, arith, mod-eq_of_lt, ne_eqb}
use Rattle.std.proofs.Math.Path.{ap, ap₂}
use Rattle.std.proofs.Math.Option.{Option}
use Rattle.std.proofs.Math.Dec.{eqb}
use Rattle.base.specs.Cases.{holds, fails, test, pick}
use Rattle.base.specs.Tests.{both}
use Rattle.model.specs.Lists.{exists, count_if, In, first_of}
use Rattle.model.specs.State as state
use Rattle.model.specs.State.{State, Kind, Root, Alias, Carve, Access, region_in}
use Rattle.model.specs.Tree.{is_carve, overlaps, fits, check_alias, check_carve}
use Rattle.model.specs.Layout.{link, kind_word}
use Rattle.rights.specs.Rights.{allowed}
use Rattle.laws.specs.Stack.{one}
use Rattle.laws.specs.Tree.Steps.{region-at}
use Rattle.tables.specs.declared.RegionCapa.{RegionCapa}
use Rattle.tables.specs.Tables.{region_at}
use Rattle.region.specs.declared.AccessRights.{AccessRights}
use Rattle.children.specs.declared.Place.{Place}
use Rattle.children.specs.declared.Overlap.{Overlap}
use Rattle.children.specs.declared.Search.{Search}
use Rattle.children.specs.declared.Search.TheVariants as search
use Rattle.children.specs.Children.{overlaps_b, fits_b, check_child}
use Rattle.decoded.specs.Sizes.{and_both}
use Rattle.decoded.specs.Tree.Regions.{region-read}
use Rattle.refine.specs.Tree.Search.{rest, ends, Children, find-is}
use Rattle.decoded.specs.Tables.{tables_of}

-- the range and rights that a call is given
abbrev pub access_for : AccessRights → Access
access_for a = record { start = a.start; end = a.end; rights = a.ops.0 }

-- ---- tests

three : (b c d : Bool) → both (both b c) d ≡ b && c && d
three true true d = refl
three true false d = refl
three false c d = refl

-- nothing is left behind the cut where none passes the test
none_left : (f : ℕ → Bool) (p : state.Region → Bool) (rs : List (Option state.Region)) (cs : List ℕ) → ((c : ℕ) → 0 < count_if (eqb c) cs → f c ≡ p (region_in rs c))
    → eqb (link (first_of (rest f cs))) 0 ≡ not (exists p (map (region_in rs) cs))
none_left f p rs [] h = refl
none_left f p rs (c ∷ cs) h =
    let e = h c (omega (arith, one c c refl)) in
    elim (test (f c)) [
      | holds t ↦ rw (t, sym e ∙ t) (ne_eqb (suc c) 0 (λ z. omega arith))
      | fails t ↦ rw (t, sym e ∙ t) (none_left f p rs cs (λ d k. h d (omega arith)))
    ]

-- the kind word of a carve
pub carve-word : (k : Kind) → eqb (kind_word k) 3 ≡ is_carve k
carve-word Root = refl
carve-word (Alias p) = refl
carve-word (Carve p) = refl

-- region g, in slot p, with its children
module _ (s : State) (long : length s.regions ≡ s.sizes.regions) (p : ℕ) (g : state.Region) (at : In s.regions p g) (children : Children s.regions p g.children) (byte : g.rights < 256) (a : AccessRights) where
  fits-is : fits_b a (region_at (tables_of s) p) ≡ fits (access_for a) g
  unfolding fits_b
  fits-is =
      ap (λ (r : RegionCapa). both (both (leb r.start a.start) (leb a.end r.end)) (allowed (r.rights % 256) a.ops.0)) (region-read s long p g at)
      ∙ ap (λ (n : ℕ). both (both (leb g.start a.start) (leb a.end g.end)) (allowed n a.ops.0)) (mod-eq_of_lt byte)
      ∙ three (leb g.start a.start) (leb a.end g.end) (allowed g.rights a.ops.0)

  -- the test of a child, among carves only or among all
  abbrev passes : Bool → state.Region → Bool
  passes carves c = both (pick carves (is_carve c.kind) true) (overlaps (access_for a) c)

  abbrev sought : Bool → Search
  sought carves = search.Overlap (record { start = a.start; end = a.end; carves = carves })

  overlap-is : (carves : Bool) (c : ℕ) → 0 < count_if (eqb c) g.children → ends (sought carves) (tables_of s) c ≡ passes carves (region_in s.regions c)
  unfolding overlaps_b
  overlap-is carves c h =
      let (y, e, q) = children.under c h in
      ap (overlaps_b (record { start = a.start; end = a.end; carves = carves })) (region-read s long c y e)
      ∙ ap₂ (λ b d. both (pick carves b true) d) (carve-word y.kind) (sym (and_both (ltb a.start y.end) (ltb y.start a.end)))
      ∙ ap (passes carves) (sym (region-at s c y e))

  check-is : (carves : Bool) → check_child carves (tables_of s) p a ≡ both (fits (access_for a) g) (not (exists (passes carves) (map (region_in s.regions) g.children)))
  unfolding check_child
  check-is carves =
      ap₂ both fits-is (ap (λ (c : Place). eqb c.at 0) (find-is s long p g at children (sought carves)) ∙ none_left (ends (sought carves) (tables_of s)) (passes carves) s.regions g.children (overlap-is carves))

  any_same : (p q : state.Region → Bool) (l : List state.Region) → ((c : state.Region) → p c ≡ q c) → exists p l ≡ exists q l
  any_same p q [] e = refl
  any_same p q (c ∷ l) e = rw (e c, any_same p q l e)

  pub check-alias-is : check_child true (tables_of s) p a ≡ check_alias s g (access_for a)
  check-alias-is =
      check-is true
      ∙ sym (and_both (fits (access_for a) g) _)
      ∙ ap (λ b. fits (access_for a) g && not b) (any_same (passes true) (λ c. is_carve c.kind && overlaps (access_for a) c) (map (region_in s.regions) g.children) (λ c. sym (and_both (is_carve c.kind) (overlaps (access_for a) c))))

  pub check-carve-is : check_child false (tables_of s) p a ≡ check_carve s g (access_for a)
  check-carve-is =
      check-is false
      ∙ sym (and_both (fits (access_for a) g) _)
      ∙ ap (λ b. fits (access_for a) g && not b) (any_same (passes false) (overlaps (access_for a)) (map (region_in s.regions) g.children) (λ c. refl))
