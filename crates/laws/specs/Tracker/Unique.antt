-- Two trackers with the same counts at every address are the same but for their slots. Invariant: both rise from lo on and are merged.
-- The first records start together and have the same counts there; a merged record ends where other counts begin; so they end together.
use Rattle.std.specs.Prelude.{◌≡◌, refl, ℕ, ◌≤◌, ◌<◌, List, [], ◌∷◌, map}
use Rattle.std.proofs.Common.{sym, ap, ap₂, ◌∙◌, arith, T_not}
use Rattle.std.proofs.Math.Option.{Option, none, some}
use Rattle.base.specs.Cases.{lt, ge, cmp}
use Rattle.model.specs.Lists.{Each}
use Rattle.model.specs.State.{Counts, Record}
use Rattle.model.specs.Counts.{counts_at}
use Rattle.model.specs.Tracker.{mergeable}
use Rattle.model.specs.Sound.{Rising, Merged}
use Rattle.laws.specs.Tracker.Look.{look, look-low, look-head, counts_of, counts-look, Has, has-look}
use Rattle.laws.specs.Tracker.Span.{weaken-rising}
use Rattle.laws.specs.Tracker.Merge.{Apart, →mergeable, merged-head, merged-tail}
use Rattle.laws.specs.Within.{within_in, within-hi}

-- a record without its slot
abbrev pub stripped : Record → Record
stripped q = record { slot = 0; start = q.start; end = q.end; counts = q.counts }

none-some : (x : Option Counts) (k : Counts) → x ≡ none → x ≡ some k → ⊥
none-some x k p q = let z : ◌≡◌ {A = ℕ} 0 1 = cc in omega arith

-- right behind a record that may not be one with the next there are not its counts
look-apart : (q : Record) (l : List Record) → Rising q.end l → Apart q l → look l q.end ≡ some q.counts → ⊥
look-apart q [] o h p = none-some none q.counts refl p
look-apart q (n ∷ l) o h p = elim (cmp q.end n.start) [
  | lt k ↦ none-some _ _ (look-low n.start q.end (n ∷ l) (omega arith, o.1, o.2) k) p
  | ge k ↦
      let e : q.end ≡ n.start = omega arith in
      let i : q.end < n.end = omega arith in
      let m = within_in n.start n.end q.end (some n.counts) (look l q.end) k i in
      T_not (mergeable q n) h (→mergeable q n e (cc))
]

module _ (lo : ℕ) (q n : Record) (l m : List Record) (o : Rising lo (q ∷ l)) (o' : Rising lo (n ∷ m)) (f : (a : ℕ) → look (q ∷ l) a ≡ look (n ∷ m) a) where
  start-le : n.start ≤ q.start
  start-le = elim (cmp q.start n.start) [
    | ge h ↦ h
    | lt h ↦ absurd (none-some _ _ (f q.start ∙ look-low n.start q.start (n ∷ m) (omega arith, o'.1, o'.2) h) (look-head lo q l o))
  ]

  end-le : q.start ≡ n.start → q.counts ≡ n.counts → Apart q l → n.end ≤ q.end
  end-le e k h = elim (cmp q.end n.end) [
    | ge i ↦ i
    | lt i ↦ absurd (look-apart q l o.2 h (sym (within-hi _ _ _ _ _ (omega arith)) ∙ f q.end ∙ within_in _ _ _ _ _ (omega arith) i ∙ ap some (sym k)))
  ]

-- The same counts where there is a record, and records at the same addresses.
pub unique : (lo : ℕ) (l m : List Record) → Rising lo l → Rising lo m → Merged l → Merged m → ((a : ℕ) → look l a ≡ look m a) → map stripped l ≡ map stripped m
unique lo [] [] o o' g g' f = refl
unique lo [] (n ∷ m) o o' g g' f = cc (f n.start, look-head lo n m o')
unique lo (q ∷ l) [] o o' g g' f = cc (f q.start, look-head lo q l o)
unique lo (q ∷ l) (n ∷ m) o o' g g' f =
    let b = start-le lo q n l m o o' f in
    let c = start-le lo n q m l o' o (λ a. sym (f a)) in
    let s : q.start ≡ n.start = omega arith in
    let k : q.counts ≡ n.counts = cc (f q.start, look-head lo q l o, look-head lo n m o') in
    let b' = end-le lo q n l m o o' f s k (merged-head q l g) in
    let c' = end-le lo n q m l o' o (λ a. sym (f a)) (sym s) (sym k) (merged-head n m g') in
    let e : q.end ≡ n.end = omega arith in
    let h : stripped q ≡ stripped n = λ i. record { slot = 0; start = s i; end = e i; counts = k i } in
    ap₂ ◌∷◌ h (unique q.end l m o.2 (weaken-rising q.end n.end m (omega arith) o'.2) (merged-tail q l g) (merged-tail n m g')
    (λ a. elim (cmp a q.end) [
      | lt i ↦ look-low q.end a l o.2 i ∙ sym (look-low n.end a m o'.2 (omega arith))
      | ge i ↦ sym (within-hi q.start q.end a (some q.counts) (look l a) i) ∙ f a ∙ within-hi n.start n.end a (some n.counts) (look m a) (omega arith)
    ]))

-- counts with a reach above 0 stand in a record
same-options : (x y : Option Counts) → Has (λ k. 0 < k.reach) x → Has (λ k. 0 < k.reach) y → counts_of x ≡ counts_of y → x ≡ y
same-options none none v w e = refl
same-options none (some k) v w e = absurd (omega (arith, ap (λ (c : Counts). c.reach) e))
same-options (some k) none v w e = absurd (omega (arith, ap (λ (c : Counts). c.reach) e))
same-options (some j) (some k) v w e = ap some e

-- The same stored counts everywhere.
pub unique-counts : (l m : List Record) → Rising 0 l → Rising 0 m → Merged l → Merged m → Each (λ q. 0 < q.counts.reach) l → Each (λ q. 0 < q.counts.reach) m → ((a : ℕ) → counts_at l a ≡ counts_at m a) → map stripped l ≡ map stripped m
unique-counts l m o o' g g' v w f =
    unique 0 l m o o' g g'
    (λ a. same-options (look l a) (look m a) (has-look (λ k. 0 < k.reach) l v a) (has-look (λ k. 0 < k.reach) m w a) (sym (counts-look l a) ∙ f a ∙ counts-look m a))
