-- The merge of neighbours. Invariant: every address reads as before, the list stays rising, and no neighbours are left that may be one record.
-- A merge grows the left record to the right only, so whether its own left neighbour may join it does not change.
use Rattle.std.specs.Prelude.{◌≡◌, refl, ℕ, ◌≤◌, ◌<◌, not, List, [], ◌∷◌, T, eqb}
use Rattle.std.proofs.Common.{ap, ◌∙◌, arith, eqb→eq}
use Rattle.std.proofs.Math.Option.{Option, some}
use Rattle.std.proofs.Math.Dec.{eqb_refl}
use Rattle.std.specs.Float.Ieee.Fits.{and_l, and_r, and_i}
use Rattle.base.specs.Cases.{lt, ge, cmp, below, inside, above, pos}
use Rattle.model.specs.State.{Counts, Record, Pool}
use Rattle.model.specs.Fields.{Field, get, each}
use Rattle.model.specs.Tracker.{with_end, same_counts, mergeable, merge_into, coalesce}
use Rattle.model.specs.Sound.{Rising, Merged}
use Rattle.laws.specs.Fields.{every-field}
use Rattle.laws.specs.Accepted.{All, accepted, bind, bind-any, weaken, branch-on}
use Rattle.laws.specs.Tracker.Look.{look}
use Rattle.laws.specs.Within.{within, W}

-- ---- when two records may be one

same→eq : (j k : Counts) → T (same_counts j k) → j ≡ k
same→eq j k t =
    let e : (f : Field) → get f j ≡ get f k = λ f. eqb→eq _ _ (every-field (λ g. eqb (get g j) (get g k)) (search and_l) f) in
    let u : j.uncacheable ≡ k.uncacheable = eqb→eq _ _ (search and_r) in
    λ i. each (λ f. e f i) (u i)

mergeable→ : (q n : Record) → T (mergeable q n) → (q.end ≡ n.start) × (q.counts ≡ n.counts)
mergeable→ q n t = (eqb→eq _ _ (search and_l), same→eq _ _ (search (and_l, and_r)))

pub →mergeable : (q n : Record) → q.end ≡ n.start → q.counts ≡ n.counts → T (mergeable q n)
→mergeable q n e k = rw (e, k) (search (and_i, eqb_refl) depth 12)

-- ---- one merge

join : (q n : Record) (l : List Record) (a : ℕ) → q.start < q.end → n.start < n.end → q.end ≡ n.start → q.counts ≡ n.counts → look (with_end n.end q ∷ l) a ≡ look (q ∷ n ∷ l) a
join q n l a h i e k = elim (pos q.start n.end a) [
  | below j ↦ let u : a < n.start = omega arith in simp W
  | inside j m ↦ elim (cmp a q.end) [
    | lt u ↦ simp W
    | ge u ↦ let v : n.start ≤ a = omega arith in simp W (ap some k)
  ]
  | above j ↦ let u : q.end ≤ a = omega arith in simp W
]

-- q may not be one with the first record of the list
abbrev pub Apart : Record → List Record → Type 0
Apart q [] = Unit {0}
Apart q (n ∷ l) = T (not (mergeable q n))

pub merged-cons : (q : Record) (l : List Record) → Apart q l → Merged l → Merged (q ∷ l)
merged-cons q [] h k = tt
merged-cons q (n ∷ l) h k = (h, k)

pub merged-head : (q : Record) (l : List Record) → Merged (q ∷ l) → Apart q l
merged-head q [] k = tt
merged-head q (n ∷ l) k = k.0

pub merged-tail : (q : Record) (l : List Record) → Merged (q ∷ l) → Merged l
merged-tail q [] k = tt
merged-tail q (n ∷ l) k = k.1

-- ---- the whole list

-- the same counts at every address
abbrev pub Alike : List Record → List Record → Type 0
Alike l m = (a : ℕ) → look m a ≡ look l a

pub record Coalesced (lo : ℕ) (l : List Record) (x : List Record × Pool) : Type 0 where
  pub alike : Alike l x.0
  pub rising : Rising lo x.0
  pub merged : Merged x.0
  -- what was apart from the first record still is
  pub apart : (n : Record) → Apart n l → Apart n x.0

module _ (lo : ℕ) (q n : Record) (l : List Record) (o : Rising lo (q ∷ n ∷ l)) (x : List Record × Pool) where
  joined : T (mergeable q n) → Coalesced lo (with_end n.end q ∷ l) x → Coalesced lo (q ∷ n ∷ l) x
  joined t f =
      let ek = mergeable→ q n t in
      record { alike = λ a. f.alike a ∙ join q n l a o.1 o.2.1 ek.0 ek.1; rising = f.rising; merged = f.merged; apart = f.apart }

  left : T (not (mergeable q n)) → Coalesced q.end (n ∷ l) x → Coalesced lo (q ∷ n ∷ l) (q ∷ x.0, x.1)
  left t f = record {
    alike = λ a. ap (λ (z : Option Counts). within q.start q.end a (some q.counts) z) (f.alike a);
    rising = (o.0, o.1, f.rising);
    merged = merged-cons q x.0 (f.apart q t) f.merged;
    apart = λ m h. h;
  }

merge-law : (lo : ℕ) (q : Record) (l : List Record) (p : Pool) → Rising lo (q ∷ l) → All (Coalesced lo (q ∷ l)) (merge_into q l p)
unfolding merge_into
merge-law lo q [] p o = accepted (record { alike = λ a. refl; rising = o; merged = tt; apart = λ m h. h })
merge-law lo q (n ∷ l) p o =
    branch-on (mergeable q n)
    (λ t. let ek = mergeable→ q n t in let e = ek.0 in
    bind-any _ (λ p'. weaken (merge-law lo (with_end n.end q) l p' (omega arith, omega arith, o.2.2)) (λ x f. joined lo q n l o x t f)))
    (λ t. bind (merge-law q.end n l p o.2) (λ x f. accepted (left lo q n l o x t f)))

pub coalesce-law : (lo : ℕ) (l : List Record) (p : Pool) → Rising lo l → All (Coalesced lo l) (coalesce l p)
unfolding coalesce
coalesce-law lo [] p o = accepted (record { alike = λ a. refl; rising = tt; merged = tt; apart = λ m h. h })
coalesce-law lo (q ∷ l) p o = merge-law lo q l p o
