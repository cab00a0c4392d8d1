-- One mark of a walk, as a flag. Invariant: it is set if and only if at some address of the range the test c tells a change of the counts that were there.
-- A list's flag is its gap's, its first record's and the others', each with addresses of its own.
use Rattle.std.specs.Prelude.{◌≡◌, ◌↔◌, ℕ, ◌≤◌, ◌<◌, min, max, Bool, true, false, ◌&&◌, ◌||◌, List, [], ◌∷◌, T, ltb}
use Rattle.std.proofs.Common.{sym, arith, le_refl, ltb→lt, lt→ltb}
use Rattle.std.proofs.Math.Option.{Option, none, some}
use Rattle.std.specs.Float.Ieee.Fits.{and_l, and_r, and_i}
use Rattle.base.specs.Cases.{lt, ge, cmp, below, inside, above, pos}
use Rattle.base.specs.Tests.{false-is, or_l, or_r}
use Rattle.model.specs.State.{Counts, Record}
use Rattle.model.specs.Tracker.{meets}
use Rattle.model.specs.Sound.{Rising}
use Rattle.laws.specs.Tracker.Look.{look, look-low}
use Rattle.laws.specs.Within.{within_in, within-hi}

-- an address of the range at which c tells a change
abbrev pub Changed : (Option Counts → Bool) → ℕ → ℕ → List Record → Type 0
Changed c s e l = (a : ℕ) × (s ≤ a) × (a < e) × T (c (look l a))

abbrev pub Flagged : (Option Counts → Bool) → ℕ → ℕ → List Record → Bool → Type 0
Flagged c s e l b = T b ↔ Changed c s e l

or_cases : {X : Type 0} (b d : Bool) → T (b || d) → (T b → X) → (T d → X) → X
or_cases true d t f g = f tt
or_cases false d t f g = g t

-- the test of one look, by what is known of it
at-look : (c : Option Counts → Bool) {x y : Option Counts} → x ≡ y → T (c y) → T (c x)
at-look c e t = rw e t

module _ (c : Option Counts → Bool) (s e : ℕ) where
  -- the flag of the gap before a record, and of the record itself
  abbrev pub gap_flag : Record → Bool
  gap_flag q = c none && ltb s (min e q.start)

  abbrev pub own_flag : Record → Bool
  own_flag q = meets s e q && c (some q.counts)

  pub flag-nil : Flagged c s e [] (c none && ltb s e)
  flag-nil = (
    λ t. (s, le_refl s, ltb→lt s e (search and_r), search and_l),
    λ x. and_i (c none) (ltb s e) x.3 (lt→ltb s e (let h = x.1 in let k = x.2 in omega arith)),
  )

  pub flag-cons : (lo : ℕ) (q : Record) (l : List Record) (z : Bool) → Rising lo (q ∷ l) → (q.start < e → s < e) → Flagged c (max s q.end) e l z → Flagged c s e (q ∷ l) (gap_flag q || own_flag q || z)
  flag-cons lo q l z o h f = (to, from)
    where
      by-gap : T (gap_flag q) → Changed c s e (q ∷ l)
      by-gap t =
          let k = ltb→lt s (min e q.start) (search and_r) in
          (s, le_refl s, omega arith, at-look c (look-low q.start s (q ∷ l) (le_refl _, o.1, o.2) (omega arith)) (search and_l))

      by-record : T (own_flag q) → Changed c s e (q ∷ l)
      by-record t =
          let i = ltb→lt s q.end (search (and_l, and_r)) in
          let j = ltb→lt q.start e (search (and_l, and_r)) in
          let k = h j in
          (max s q.start, omega arith, omega arith, at-look c (within_in q.start q.end (max s q.start) (some q.counts) (look l (max s q.start)) (omega arith) (omega arith)) (search and_r))

      by-others : Changed c (max s q.end) e l → Changed c s e (q ∷ l)
      by-others x = let i = x.1 in (x.0, omega arith, x.2, at-look c (within-hi q.start q.end x.0 (some q.counts) (look l x.0) (omega arith)) x.3)

      to : T (gap_flag q || own_flag q || z) → Changed c s e (q ∷ l)
      to t = or_cases (gap_flag q || own_flag q) z t (λ u. or_cases (gap_flag q) (own_flag q) u by-gap by-record) (λ u. by-others (f.0 u))

      from : Changed c s e (q ∷ l) → T (gap_flag q || own_flag q || z)
      from x = let a = x.0 in let i = x.1 in let j = x.2 in elim (pos q.start q.end a) [
        | below u ↦
            let t = at-look c (sym (look-low q.start a (q ∷ l) (le_refl _, o.1, o.2) u)) x.3 in
            or_l (gap_flag q || own_flag q) z (or_l (gap_flag q) (own_flag q) (and_i (c none) (ltb s (min e q.start)) t (lt→ltb s (min e q.start) (omega arith))))
        | inside u v ↦
            let t = at-look c (sym (within_in q.start q.end a (some q.counts) (look l a) u v)) x.3 in
            let m = and_i (ltb s q.end) (ltb q.start e) (lt→ltb s q.end (omega arith)) (lt→ltb q.start e (omega arith)) in
            or_l (gap_flag q || own_flag q) z (or_r (gap_flag q) (own_flag q) (and_i (meets s e q) (c (some q.counts)) m t))
        | above u ↦
            let t = at-look c (sym (within-hi q.start q.end a (some q.counts) (look l a) u)) x.3 in
            or_r (gap_flag q || own_flag q) z (f.1 (a, omega arith, j, t))
      ]

  -- where nothing changes at an address with no record, the range may begin where the records do
  pub flag-late : (lo : ℕ) (l : List Record) (b : Bool) → c none ≡ false → Rising lo l → Flagged c s e l b → Flagged c (max s lo) e l b
  flag-late lo l b n o f = (λ t. late (f.0 t), λ x. let i = x.1 in f.1 (x.0, omega arith, x.2, x.3))
    where
      late : Changed c s e l → Changed c (max s lo) e l
      late x = let a = x.0 in let i = x.1 in elim (cmp a lo) [
        | lt u ↦ absurd (false-is n (at-look c (sym (look-low lo a l o u)) x.3))
        | ge u ↦ (a, omega arith, x.2, x.3)
      ]
