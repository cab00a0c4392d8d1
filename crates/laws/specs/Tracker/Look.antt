-- What a list of records says at each address. Invariant: records rise, so at most one holds an address; every law of the tracker is stated by
-- what the list reads as there, and the stored counts follow from that.
use Rattle.std.specs.Prelude.{◌≡◌, refl, ℕ, ◌≤◌, ◌<◌, List, [], ◌∷◌, ◌++◌}
use Rattle.std.proofs.Math.Option.{Option, none, some}
use Rattle.std.proofs.Common.{arith, lt-ltb, le-ltb, le-leb}
use Rattle.std.proofs.lemmas.Bool.{lt-leb}
use Rattle.base.specs.Cases.{lt, ge, cmp, below, inside, above, pos}
use Rattle.model.specs.Lists.{Each}
use Rattle.model.specs.State.{Counts, Record}
use Rattle.model.specs.Counts.{counts_at}
use Rattle.model.specs.Tracker.{no_counts}
use Rattle.model.specs.Sound.{Rising}
use Rattle.laws.specs.Within.{within, W, within_in, within-hi}

-- the counts of the record that holds a
abbrev pub look : List Record → ℕ → Option Counts
look [] a = none
look (q ∷ l) a = within q.start q.end a (some q.counts) (look l a)

-- the first that is there
abbrev pub first : Option Counts → Option Counts → Option Counts
first none y = y
first (some k) y = some k

pub first-none : (x : Option Counts) → first x none ≡ x
first-none none = refl
first-none (some k) = refl

pub look-append : (l m : List Record) (a : ℕ) → look (l ++ m) a ≡ first (look l a) (look m a)
look-append [] m a = refl
look-append (q ∷ l) m a = elim (pos q.start q.end a) [
  | below h ↦ simp W (look-append l m a)
  | inside h k ↦ simp W
  | above h ↦ simp W (look-append l m a)
]

-- below a rising list there is nothing
pub look-low : (lo a : ℕ) (l : List Record) → Rising lo l → a < lo → look l a ≡ none
look-low lo a [] o h = refl
look-low lo a (q ∷ l) o h = let i : a < q.start = omega arith in simp W (look-low q.end a l o.2 (omega arith))

-- a record's first address is its own
pub look-head : (lo : ℕ) (q : Record) (l : List Record) → Rising lo (q ∷ l) → look (q ∷ l) q.start ≡ some q.counts
look-head lo q l o = within_in _ _ _ _ _ (omega arith) o.1

-- ---- the stored counts

abbrev pub counts_of : Option Counts → Counts
counts_of none = no_counts
counts_of (some k) = k

pub counts-look : (l : List Record) (a : ℕ) → counts_at l a ≡ counts_of (look l a)
counts-look [] a = refl
counts-look (q ∷ l) a = elim (pos q.start q.end a) [
  | below h ↦ rw (lt-leb q.start a h) (simp W (counts-look l a))
  | inside h k ↦ rw (le-leb q.start a h, lt-ltb a q.end k) (simp W)
  | above h ↦ elim (cmp a q.start) [
    | lt i ↦ rw (lt-leb q.start a i) (simp W (counts-look l a))
    | ge i ↦ rw (le-leb q.start a i, le-ltb a q.end h) (simp W (counts-look l a))
  ]
]

-- ---- a property of each record's counts is one of the counts at each address

abbrev pub Has : (Counts → Type 0) → Option Counts → Type 0
Has P none = Unit {0}
Has P (some k) = P k

-- whichever of two is taken
pub has_within : (P : Counts → Type 0) (s e a : ℕ) (x y : Option Counts) → (s ≤ a → a < e → Has P x) → Has P y → Has P (within s e a x y)
has_within P s e a x y h k = elim (pos s e a) [ below i ↦ simp W k | inside i j ↦ simp W (h i j) | above i ↦ simp W k ]

pub has-look : (P : Counts → Type 0) (l : List Record) → Each (λ q. P q.counts) l → (a : ℕ) → Has P (look l a)
has-look P [] h a = tt
has-look P (q ∷ l) h a = has_within P q.start q.end a (some q.counts) (look l a) (λ i j. h.0) (has-look P l h.1 a)

pub each-of-look : (P : Counts → Type 0) (lo : ℕ) (l : List Record) → Rising lo l → ((a : ℕ) → Has P (look l a)) → Each (λ q. P q.counts) l
each-of-look P lo [] o h = tt
each-of-look P lo (q ∷ l) o h = (rw (look-head lo q l o) at (h q.start), each-of-look P q.end l o.2 rest)
  where
    rest : (a : ℕ) → Has P (look l a)
    rest a = elim (cmp a q.end) [
      | lt i ↦ rw (look-low q.end a l o.2 i) tt
      | ge i ↦ rw (within-hi q.start q.end a (some q.counts) (look l a) i) at (h a)
    ]
