-- A right that is counted for a domain at an address comes from a live root that covers the address and has the right:
-- a child lies in its parent's range and rights, and the parents lead to a root.
use Rattle.std.specs.Prelude.{◌≡◌, refl, ℕ, zero, suc, ◌≤◌, ◌<◌, Bool, true, false, List, T, eqb, length, if◌then◌else◌}
use Rattle.std.proofs.Math.Option.{Option, none, some}
use Rattle.std.proofs.Common.{arith, eqb→eq}
use Rattle.base.specs.Cases.{Test, test}
use Rattle.base.specs.Tests.{true-is}
use Rattle.base.specs.Options.{none-some, some_same}
use Rattle.model.specs.Lists.{one_if, at_slot, In}
use Rattle.model.specs.State.{Region, Kind, Root, Alias, Carve, parent_of}
use Rattle.model.specs.Fields.{Field, counter, passes}
use Rattle.model.specs.Counts.{region_count}
use Rattle.model.specs.Sound.{Rooted}
use Rattle.laws.specs.Tree.Sum.{sum-find}
use Rattle.laws.specs.Tree.Shares.{tally-is, weight, share, clear, carved, within-pos}
use Rattle.laws.specs.Tree.Facts.{Regions, under, self, hangs, counter-allowed}

-- a live root over a whose rights pass the field's test
pub record RootAt (rs : List (Option Region)) (a : ℕ) (f : Field) : Type 0 where
  pub slot : ℕ
  pub root : Region
  pub is : In rs slot root
  pub is_root : root.kind ≡ Root
  pub low : root.start ≤ a
  pub high : a < root.end
  pub has : T (passes f root.rights)

-- a slot that counts for d
pub record CountsAt (x : Option Region) (d a : ℕ) (f : Field) : Type 0 where
  pub region : Region
  pub is : x ≡ some region
  pub owner : region.owner ≡ d
  pub low : region.start ≤ a
  pub high : a < region.end
  pub has : 0 < counter f region.rights

pub share-pos : (x : Option Region) (d a : ℕ) (f : Field) → 0 < share f x d a → CountsAt x d a f
share-pos none d a f h = absurd (omega arith)
share-pos (some g) d a f h =
    let w = within-pos g.start g.end a (if eqb g.owner d then counter f g.rights else 0) h in
    elim (test (eqb g.owner d)) [
      | Test.holds t ↦ record { region = g; is = refl; owner = eqb→eq g.owner d (true-is t); low = w.0; high = w.1; has = rw t at w.2 }
      | Test.fails t ↦ absurd (omega (arith, rw t at w.2))
    ]

clear-pos : (c x : ℕ) → 0 < clear c x → 0 < x
clear-pos zero x h = h
clear-pos (suc c) x h = absurd (omega arith)

no-parent : (k : Kind) → parent_of k ≡ none → k ≡ Root
no-parent Root e = refl
no-parent (Alias p) e = absurd (none-some (parent_of (Alias p)) p e refl)
no-parent (Carve p) e = absurd (none-some (parent_of (Carve p)) p e refl)

passed : (b : Bool) → 0 < one_if b → T b
passed true h = tt
passed false h = absurd (omega arith)

module _ (rs : List (Option Region)) (s : Regions rs) (a : ℕ) (f : Field) where
  climb : (k : ℕ) (x : Region) → Rooted rs k → In rs k x → x.start ≤ a → a < x.end → 0 < counter f x.rights → RootAt rs a f
  climb k x (Rooted.top _ g e q) i l h c =
      let z = some_same (at_slot rs k) g x e i in
      record { slot = k; root = x; is = i; is_root = no-parent x.kind (rw z at q); low = l; high = h; has = passed (passes f x.rights) (omega arith) }
  climb k x (Rooted.under _ p g e q r) i l h c =
      let z = some_same (at_slot rs k) g x e i in
      let u = under rs s k p x i (omega (arith, hangs x.kind p (rw z at q) p, self p)) in
      climb p u.parent r u.is (omega arith) (omega arith) (omega (arith, counter-allowed f u.parent.rights x.rights u.rights))

  -- a region of d's that counts there
  pub counting : (d : ℕ) → 0 < region_count f rs d a → (k : ℕ) × CountsAt (at_slot rs k) d a f
  counting d h =
      let r = sum-find (weight f rs d a) (length rs) (omega (arith, tally-is f rs d a)) in
      (r.at, share-pos (at_slot rs r.at) d a f (clear-pos (carved rs r.at a) (share f (at_slot rs r.at) d a) r.counts))

  pub count-root : (d : ℕ) → 0 < region_count f rs d a → RootAt rs a f
  count-root d h = let (k, c) = counting d h in climb k c.region (s k c.region c.is).rooted c.is c.low c.high c.has
