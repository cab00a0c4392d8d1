-- The rows of the tracker records: a record's row is that of the tracker that has it, and a change of one tracker changes no other row.
use Rattle.std.specs.Prelude.{◌≡◌, refl, ◌≢◌, ℕ, zero, suc, ◌+◌, ◌≤◌, ◌<◌, List, [], ◌∷◌, ◌++◌, eqb, set}
use Rattle.std.proofs.Common.{sym, ap, subst, ◌∙◌, arith, eq-eqb, ne_eqb}
use Rattle.std.proofs.Math.Option.{Option, none, some}
use Rattle.base.specs.Cases.{holds, fails, test}
use Rattle.model.specs.Lists.{In, at_slot}
use Rattle.model.specs.State.{Record, Domain}
use Rattle.model.specs.Sound.{record_uses}
use Rattle.laws.specs.Stack.{one}
use Rattle.laws.specs.Words.SameTrackers.{uses, first_slot}
use Rattle.laws.specs.Tracker.Pools.{uses-append}
use Rattle.tables.specs.declared.Region.{Region}
use Rattle.tables.specs.Tables.{no_record}
use Rattle.decoded.specs.Tables.{record_for, in_tracker_for, record_in}

-- ---- one tracker

pub not-here : (i : ℕ) (l : List Record) (r : Region) → uses i l ≡ 0 → in_tracker_for i l r ≡ r
not-here i [] r h = refl
not-here i (q ∷ l) r h = elim (test (eqb i q.slot)) [
  | holds t ↦ absurd (omega (arith, rw t at h))
  | fails t ↦ rw t (not-here i l r (omega (arith, rw t at h)))
]

here : (i : ℕ) (l : List Record) (r : Region) → 0 < uses i l → in_tracker_for i l r ≡ in_tracker_for i l no_record
here i [] r h = absurd (omega arith)
here i (q ∷ l) r h = elim (test (eqb i q.slot)) [
  | holds t ↦ rw t
  | fails t ↦ rw t (here i l r (omega (arith, rw t at h)))
]

pub row_first : (q : Record) (l : List Record) (r : Region) → in_tracker_for q.slot (q ∷ l) r ≡ record_for q (first_slot l)
row_first q l r = rw (eq-eqb q.slot q.slot refl)

pub row-later : (i : ℕ) (q : Record) (l : List Record) (r : Region) → i ≢ q.slot → in_tracker_for i (q ∷ l) r ≡ in_tracker_for i l r
row-later i q l r h = rw (ne_eqb i q.slot h)

-- behind records with other slots
pub row-behind : (i : ℕ) (b l : List Record) (r : Region) → uses i b ≡ 0 → in_tracker_for i (b ++ l) r ≡ in_tracker_for i l r
row-behind i [] l r h = refl
row-behind i (q ∷ b) l r h = row-later i q (b ++ l) r (λ e. omega (arith, one i q.slot e)) ∙ row-behind i b l r (omega arith)

pub first-same : (b l m : List Record) → first_slot l ≡ first_slot m → first_slot (b ++ l) ≡ first_slot (b ++ m)
first-same [] l m e = e
first-same (q ∷ b) l m e = refl

-- the records before a change have the rows that they had, where the change starts with the same slot
pub row_before : (i : ℕ) (b l m : List Record) (r : Region) → first_slot l ≡ first_slot m → in_tracker_for i l r ≡ in_tracker_for i m r → in_tracker_for i (b ++ l) r ≡ in_tracker_for i (b ++ m) r
row_before i [] l m r e h = h
row_before i (q ∷ b) l m r e h = elim (test (eqb i q.slot)) [
  | holds t ↦ rw t (ap (record_for q) (first-same b l m e))
  | fails t ↦ rw t (row_before i b l m r e h)
]

-- ---- all trackers

pub record-unused : (ds : List (Option Domain)) (i : ℕ) → record_uses ds i ≡ 0 → record_in ds i ≡ no_record
record-unused [] i h = refl
record-unused (none ∷ ds) i h = record-unused ds i h
record-unused (some x ∷ ds) i h = not-here i x.tracker (record_in ds i) (omega arith) ∙ record-unused ds i (omega arith)

-- no slot is used more often by domain x than by all; if x has the only record in slot i, the row is that of its tracker
abbrev Owned : List (Option Domain) → Domain → ℕ → Type 0
Owned ds x i = (uses i x.tracker ≤ record_uses ds i) × (record_uses ds i ≤ 1 → 0 < uses i x.tracker → record_in ds i ≡ in_tracker_for i x.tracker no_record)

owned-first : (ds : List (Option Domain)) (x : Domain) (i : ℕ) → Owned (some x ∷ ds) x i
owned-first ds x i = (omega arith, λ h u. here i x.tracker (record_in ds i) u)

owned-later : (y : Option Domain) (ds : List (Option Domain)) (x : Domain) (i : ℕ) → Owned ds x i → Owned (y ∷ ds) x i
owned-later none ds x i o = o
owned-later (some y) ds x i o = (omega arith, λ h u. not-here i y.tracker (record_in ds i) (omega arith) ∙ o.1 (omega arith) u)

owned : (ds : List (Option Domain)) (d : ℕ) (x : Domain) → In ds d x → (i : ℕ) → Owned ds x i
owned [] d x e i = let z : ◌≡◌ {A = ℕ} 0 1 = cc in absurd (omega arith)
owned (y ∷ ds) zero x e i = subst (λ w. Owned (w ∷ ds) x i) (sym e) (owned-first ds x i)
owned (y ∷ ds) (suc d) x e i = owned-later y ds x i (owned ds d x e i)

-- the record in slot i, where it stands in the tracker of domain x
pub record-read : (ds : List (Option Domain)) (d : ℕ) (x : Domain) → In ds d x → (b a : List Record) (q : Record) → x.tracker ≡ b ++ q ∷ a → record_uses ds q.slot ≤ 1 → record_in ds q.slot ≡ record_for q (first_slot a)
record-read ds d x e b a q l h =
    let i = q.slot in
    let n : uses i x.tracker ≡ uses i b + uses i (q ∷ a) = ap (uses i) l ∙ uses-append i b (q ∷ a) in
    (owned ds d x e i).1 h (omega (arith, one i i refl))
    ∙ ap (λ t. in_tracker_for i t no_record) l
    ∙ row-behind i b (q ∷ a) no_record (omega (arith, one i i refl, (owned ds d x e i).0))
    ∙ row_first q a no_record

-- ---- a domain is put back

abbrev pub tracker_of : Option Domain → List Record
tracker_of none = []
tracker_of (some x) = x.tracker

record-next : (o : Option Domain) (ds : List (Option Domain)) (i : ℕ) → record_in (o ∷ ds) i ≡ in_tracker_for i (tracker_of o) (record_in ds i)
record-next none ds i = refl
record-next (some x) ds i = refl

-- the row of slot i is kept where this one tracker keeps it
pub record_same : (ds : List (Option Domain)) (d : ℕ) (o : Option Domain) (i : ℕ) → ((r : Region) → in_tracker_for i (tracker_of o) r ≡ in_tracker_for i (tracker_of (at_slot ds d)) r) → record_in (set ds d o) i ≡ record_in ds i
record_same [] d o i e = refl
record_same (x ∷ ds) zero o i e = record-next o ds i ∙ e (record_in ds i) ∙ sym (record-next x ds i)
record_same (x ∷ ds) (suc d) o i e = record-next x (set ds d o) i ∙ ap (in_tracker_for i (tracker_of x)) (record_same ds d o i e) ∙ sym (record-next x ds i)
