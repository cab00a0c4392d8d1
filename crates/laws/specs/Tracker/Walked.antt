-- A walk over a list. Invariant: from s up to e each address reads as the change makes of it, elsewhere as before; the list stays rising from lo on.
-- One step over the first record serves gain and loss: a loss has an empty gap before it, and its range may begin with the records.
use Rattle.std.specs.Prelude.{◌≡◌, refl, ℕ, ◌+◌, ◌≤◌, ◌<◌, min, max, Bool, true, false, not, ◌&&◌, ◌||◌, List, [], ◌∷◌, ◌++◌, eqb, ltb, if◌then◌else◌}
use Rattle.std.proofs.Common.{sym, ◌∙◌, arith}
use Rattle.std.proofs.Math.Bool.{and-false, and-true}
use Rattle.std.proofs.Math.Option.{Option, none, some}
use Rattle.base.specs.Cases.{lt, ge, cmp, below, inside, above, pos}
use Rattle.base.specs.Tests.{false-is}
use Rattle.rights.specs.Rights.{union}
use Rattle.model.specs.Lists.{is_empty}
use Rattle.model.specs.State.{Counts, Record, Pool}
use Rattle.model.specs.Fields.{Field, get, is_marked}
use Rattle.model.specs.Tracker.{Walk, no_counts, new_counts, crosses, fill_marks, add_region, remove_region}
use Rattle.model.specs.Sound.{Rising}
use Rattle.laws.specs.Accepted.{All, accepted, bind}
use Rattle.laws.specs.Tracker.Look.{look, first-none, look-append, look-low}
use Rattle.laws.specs.Tracker.Span.{Span, span-append, span-rising, rising-of}
use Rattle.laws.specs.Tracker.Cut.{Reads, Gap, gap-law}
use Rattle.laws.specs.Tracker.Marks.{marked-where, marked-union, marked-none}
use Rattle.laws.specs.Tracker.One.{gained, lost, moves, One, add-one, remove-one}
use Rattle.laws.specs.Tracker.Flag.{Flagged, gap_flag, flag-nil, flag-cons, flag-late}
use Rattle.laws.specs.Within.{within, W, within_same}

-- what the list reads as after a change g from s up to e
abbrev pub Turned : (Option Counts → Option Counts) → ℕ → ℕ → List Record → List Record → Type 0
Turned g s e l m = (a : ℕ) → look m a ≡ within s e a (g (look l a)) (look l a)

-- nothing moves where nothing is made of no counts
still : (g : Option Counts → Option Counts) (f : Field) → g none ≡ none → moves g f none ≡ false
still g f h = rw h (same (eqb (get f no_counts) 0))
  where
    same : (b : Bool) → (if b then not b else b) ≡ false
    same true = refl
    same false = refl

pub record Walked (g : Option Counts → Option Counts) (lo s e : ℕ) (l : List Record) (w : Walk) : Type 0 where
  pub reads : Turned g s e l w.records
  pub rising : Rising lo w.records
  pub flag : (f : Field) → Flagged (moves g f) s e l (is_marked f w.marks)

module _ (g : Option Counts → Option Counts) (s e : ℕ) where
  -- what is in the gap, the first record and the rest, put together
  chain : (q : Record) (l n h m : List Record) → q.start < q.end → Rising q.end l → Reads n s (min e q.start) (g none) → ((a : ℕ) → look h a ≡ within q.start q.end a (within s e a (g (some q.counts)) (some q.counts)) none) → Turned g (max s q.end) e l m → Turned g s e (q ∷ l) (n ++ h ++ m)
  chain q l n h m i o rn rh rm a = look-append (n ++ h) m a ∙ rw (look-append n h a) (simp (rn a, rh a, rm a) (elim (pos q.start q.end a) [
    | below u ↦ let e₀ = look-low q.end a l o (omega arith) in let v : a < max s q.end = omega arith in elim (pos s e a) [
      | below j ↦ simp (W, e₀)
      | inside j k ↦ let w : a < min e q.start = omega arith in simp (W, e₀, first-none)
      | above j ↦ let w : min e q.start ≤ a = omega arith in simp (W, e₀)
    ]
    | inside u v ↦ let e₀ = look-low q.end a l o v in let w : min e q.start ≤ a = omega arith in let x : a < max s q.end = omega arith in elim (pos s e a) [ below k ↦ simp (W, e₀) | inside k k' ↦ simp (W, e₀, first-none) | above k ↦ simp (W, e₀) ]
    | above u ↦ let w : min e q.start ≤ a = omega arith in elim (pos s e a) [
      | below j ↦ let v : a < max s q.end = omega arith in simp W
      | inside j k ↦ let v : max s q.end ≤ a = omega arith in simp W
      | above j ↦ simp W
    ]
  ]))

  -- n fills the gap before q, h is what became of q, and w of the others; x has the marks of all three
  walked-cons : (lo : ℕ) (q : Record) (l n : List Record) (x : ℕ) (h w : Walk) → Rising lo (q ∷ l) → (q.start < e → s < e) → Reads n s (min e q.start) (g none) → Span lo q.start n → ((f : Field) → is_marked f x ≡ (gap_flag (moves g f) s e q || is_marked f h.marks || is_marked f w.marks)) → One g s e q h → Walked g q.end (max s q.end) e l w → Walked g lo s e (q ∷ l) (record { records = n ++ h.records ++ w.records; pool = w.pool; marks = x })
  walked-cons lo q l n x h w o z rn k m one rest = record {
    reads = chain q l n h.records w.records o.1 o.2 rn one.reads rest.reads;
    rising = span-rising lo q.end (n ++ h.records) w.records (span-append lo q.start q.end n h.records k one.span) rest.rising;
    flag = λ f. rw (m f, one.flag f) (flag-cons (moves g f) s e lo q l (is_marked f w.marks) o z (rest.flag f));
  }

  -- where nothing is made of an address with no record, the range may begin where the records do
  walked-late : (lo : ℕ) (l : List Record) (w : Walk) → g none ≡ none → Rising lo l → Walked g lo s e l w → Walked g lo (max s lo) e l w
  walked-late lo l w n o k = record { reads = late; rising = k.rising; flag = λ f. flag-late (moves g f) s e lo l (is_marked f w.marks) (still g f n) o (k.flag f) }
    where
      late : Turned g (max s lo) e l w.records
      late a = k.reads a ∙ elim (cmp a lo) [
        | lt u ↦ let v : a < max s lo = omega arith in let e₀ = look-low lo a l o u in simp (W, e₀, n) (within_same s e a none none refl)
        | ge u ↦ elim (pos s e a) [
          | below i ↦ let v : a < max s lo = omega arith in simp W
          | inside i j ↦ let v : max s lo ≤ a = omega arith in simp W
          | above i ↦ simp W
        ]
      ]

-- ---- the marks of a step

-- what is filled has the marks of its counts
fill-marked : (r : ℕ) (f : Field) (n : List Record) → is_marked f (fill_marks r n) ≡ (moves (gained r) f none && not (is_empty n))
fill-marked r f [] = marked-none f ∙ sym (and-false (moves (gained r) f none))
fill-marked r f (q ∷ n) = marked-where (λ g. crosses (get g no_counts) (get g (new_counts r))) f ∙ sym (and-true (moves (gained r) f none))

-- a gap, a record and the others; and without a gap
module _ (r : ℕ) (f : Field) (s e : ℕ) (q : Record) where
  three-marked : (n : List Record) (h w : ℕ) → not (is_empty n) ≡ ltb s (min e q.start) → is_marked f (union (union (fill_marks r n) h) w) ≡ (gap_flag (moves (gained r) f) s e q || is_marked f h || is_marked f w)
  three-marked n h w k = rw (marked-union f (union (fill_marks r n) h) w, marked-union f (fill_marks r n) h, fill-marked r f n, k)

  two-marked : (h w : ℕ) → is_marked f (union h w) ≡ (gap_flag (moves (lost r) f) s e q || is_marked f h || is_marked f w)
  two-marked h w = rw (still (lost r) f refl) (marked-union f h w)

-- From s on, s < e or nothing is left to fill.
pub add-walked : (r s e lo : ℕ) (l : List Record) (p : Pool) → Rising lo l → lo ≤ s → s < max e (lo + 1) → All (Walked (gained r) lo s e l) (add_region r s e l p)
unfolding add_region
add-walked r s e lo [] p o u z = bind (gap-law r s e p) (λ x h. accepted (filled x h))
  where
    filled : (x : List Record × Pool) → Gap r s e x → Walked (gained r) lo s e [] (record { records = x.0; pool = x.1; marks = fill_marks r x.0 })
    filled x h = record { reads = h.reads; rising = rising-of lo (max s e) x.0 (h.span lo (max s e) u (omega arith) (omega arith)); flag = λ f. rw (fill-marked r f x.0, h.filled) (flag-nil (moves (gained r) f) s e) }
add-walked r s e lo (q ∷ l) p o u z =
    bind (gap-law r s (min e q.start) p) (λ x f.
    bind (add-one r s e q x.1 o.1 (λ i. omega arith)) (λ h one.
    bind (add-walked r (max s q.end) e q.end l h.pool o.2 (omega arith) (omega arith)) (λ w rest.
    accepted (walked-cons (gained r) s e lo q l x.0 _ h w o (λ i. omega arith) f.reads (f.span lo q.start u o.0 (omega arith)) (λ g. three-marked r g s e q x.0 h.marks w.marks f.filled) one rest))))

pub remove-walked : (r s e lo : ℕ) (l : List Record) (p : Pool) → Rising lo l → s < e → All (Walked (lost r) lo s e l) (remove_region r s e l p)
unfolding remove_region
remove-walked r s e lo [] p o z = accepted nothing
  where
    nothing : Walked (lost r) lo s e [] (record { records = []; pool = p; marks = 0 })
    nothing = record { reads = λ a. sym (within_same s e a none none refl); rising = tt; flag = λ f. rw (marked-none f) (λ t. absurd t, λ x. false-is (still (lost r) f refl) x.3) }
remove-walked r s e lo (q ∷ l) p o z =
    bind (remove-one r s e q p o.1 (λ i. z)) (λ h one.
    bind (remove-walked r s e q.end l h.pool o.2 z) (λ w rest.
    accepted (walked-cons (lost r) s e lo q l [] _ h w o (λ i. z) (λ a. sym (within_same s (min e q.start) a none none refl)) o.0 (λ f. two-marked r f s e q h.marks w.marks) one
    (walked-late (lost r) s e q.end l w refl o.2 rest))))
