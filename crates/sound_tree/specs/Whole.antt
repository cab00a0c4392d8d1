-- What is tested over the lent sections is what `tree_holds` says of the tables.
use Rattle.std.specs.Prelude.{◌≡◌, refl, Bool, true, false, List, [], ℕ, ◌+◌, ◌<◌, ◌≤◌, length, get_or, drop}
use Rattle.std.proofs.Math.Path.{ap}
use Rattle.std.proofs.Common.{◌∙◌, zero-add, arith}
use Rattle.std.proofs.Math.ListN.{replicate, get_or-eq_default}
use Rattle.base.specs.Cases.{pick}
use Rattle.words.specs.Cuts.{cuts, offset}
use Rattle.words.specs.Rows.{length-rows}
use Rattle.tables.specs.declared.RegionCapa.{RegionCapa}
use Rattle.tables.specs.Tables.{region_at, no_region}
use Rattle.sizes.specs.Sizes.{sizes_of, widths, total}
use Rattle.tables.specs.View.{view, of_parts, region_of, Sized}
use Rattle.tables.specs.Header.{regions-seen}
use Rattle.sound_tree.specs.Tree.{is_child, child_count, count_from, rows_hold, lists_from, lists_hold, rooted_from, marks_from, roots_hold, tree_holds}
use Rattle.sound_tree.specs.Turns.{tally-few, count-is}
use Rattle.sound_tree.specs.Ways.{marks-beyond}

-- one more than is counted where the rows fit, else 0
some-counted : (b : Bool) (m k : ℕ) → m + 1 ≡ pick b (k + 1) 0 → (b ≡ true) × (m ≡ k)
some-counted true m k e = (refl, omega arith)
some-counted false m k e = absurd (omega arith)

none-counted : (b : Bool) (k : ℕ) → 0 ≡ pick b (k + 1) 0 → b ≡ false
none-counted true k e = absurd (omega arith)
none-counted false k e = refl

module _ (t : List ℕ) (n : ℕ) (s : Sized t) (en : n ≡ get_or t 2 0) where
  pub regions-few : n ≤ 1024
  unfolding sizes_of
  regions-few = omega (arith, s.limits.regions-high)

  -- there are fewer regions than words
  pub regions-fit : n ≤ length t
  unfolding sizes_of total offset
  regions-fit = omega (arith, s.exact)

  none-outside : (j : ℕ) → n ≤ j → (region_at (view t) j).kind < 2
  unfolding region_at view of_parts sizes_of
  none-outside j h =
      let e = get_or-eq_default (view t).regions no_region {n = j} (omega (arith, length-rows 8 (get_or t 2 0) region_of (get_or (cuts (widths (sizes_of t)) t) 5 []))) in
      omega (arith, ap (λ (r : RegionCapa). r.kind) e)

  -- the rows of the section that is lent
  module _ (row : ℕ → RegionCapa) (er : row ≡ region_at (view t)) where
    module _ (links : List ℕ) (el : links ≡ (view t).region_pool.links) where
      counted : count_from links row 0 n 0 ≡ pick (rows_hold (view t)) (child_count (region_at (view t)) n + 1) 0
      unfolding rows_hold child_count
      counted = count-is links row 0 n 0 ∙ rw (el, er, regions-seen t n en, zero-add)

      pub rows-fail : 0 ≡ count_from links row 0 n 0 → false ≡ tree_holds (view t)
      unfolding tree_holds
      rows-fail e = rw (none-counted (rows_hold (view t)) (child_count (region_at (view t)) n) (e ∙ counted))

      module _ (m : ℕ) (em : m + 1 ≡ count_from links row 0 n 0) where
        children : m ≡ child_count (region_at (view t)) n
        children = (some-counted (rows_hold (view t)) m (child_count (region_at (view t)) n) (em ∙ counted)).1

        pub children-few : m ≤ 1024
        unfolding child_count
        children-few = omega (arith, children, tally-few (is_child (region_at (view t))) n 0, regions-few)

      module _ (m : ℕ) (em : m + 1 ≡ count_from links row 0 n 0) (b : Bool) (eb : b ≡ lists_from row m n 0) where
        rows_are : rows_hold (view t) ≡ true
        rows_are = (some-counted (rows_hold (view t)) m (child_count (region_at (view t)) n) (em ∙ counted)).0

        lists-are : b ≡ lists_hold (view t)
        unfolding lists_hold
        lists-are = eb ∙ rw (children m em, er, regions-seen t n en)

        pub lists-fail : b ≡ false → false ≡ tree_holds (view t)
        unfolding tree_holds
        lists-fail y = rw (rows_are, ← lists-are, y)

        -- no region is known to lead to a root at first
        module _ (w : List ℕ) (long : length w ≡ length t) (clear : w ≡ replicate (length w) 0) where
          roots-are : rooted_from row n w n 0 ≡ roots_hold (view t)
          unfolding roots_hold view of_parts sizes_of
          roots-are =
              let z : w ≡ replicate (total (sizes_of t)) 0 = clear ∙ ap (λ k. replicate k 0) (long ∙ s.exact) in
              rw (er, en, z)

          pub all_tested : (r : Bool) → b ≡ true → r ≡ rooted_from row n w n 0 → r ≡ tree_holds (view t)
          unfolding tree_holds
          all_tested r y e = rw (rows_are, ← lists-are, y) (e ∙ roots-are)

    pub marks-inside : (u w : List ℕ) → u ≡ marks_from row n w n 0 → drop n u ≡ drop n w
    marks-inside u w e = ap (drop n) e ∙ marks-beyond row n (rw er none-outside) n w n 0
