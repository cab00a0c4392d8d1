-- One record gains or loses. Invariant: it reads as before outside the range, and as the change makes of it inside; its pieces stay in its place.
-- The change is a parameter, so that gain and loss are one proof; what differs is the piece in the middle.
use Rattle.std.specs.Prelude.{◌≡◌, refl, ℕ, ◌-◌, ◌≤◌, ◌<◌, Bool, true, false, not, ◌&&◌, List, [], ◌∷◌, ◌++◌, T, eqb, if◌then◌else◌}
use Rattle.std.proofs.Common.{sym, ap, ◌∙◌, append_assoc, arith, le_refl, ltb→lt, lt-ltb}
use Rattle.std.proofs.Math.Option.{Option, none, some}
use Rattle.std.specs.Float.Ieee.Fits.{and_l, and_r}
use Rattle.base.specs.Cases.{below, inside, above, pos}
use Rattle.base.specs.Tests.{is_true, is_false}
use Rattle.model.specs.Outcome.{ok, ◌>>=◌}
use Rattle.model.specs.State.{Counts, Record, Pool}
use Rattle.model.specs.Fields.{Field, get, is_marked}
use Rattle.model.specs.Tracker.{Walk, no_counts, new_counts, raise, lower, crosses, crossings, left_counts, with_counts, meets, keep_or_drop, add_to, remove_from}
use Rattle.laws.specs.Accepted.{All, accepted, bind, bind-any, branch-on}
use Rattle.laws.specs.Tracker.Look.{look, first-none, look-append, counts_of}
use Rattle.laws.specs.Tracker.Span.{Span, span-append}
use Rattle.laws.specs.Tracker.Cut.{Reads, Cut, cutting}
use Rattle.laws.specs.Tracker.Marks.{marked-where, marked-none}
use Rattle.laws.specs.Within.{within, W, within_same}

-- what a gain makes of the counts at an address
abbrev pub gained : ℕ → Option Counts → Option Counts
gained r none = some (new_counts r)
gained r (some k) = some (raise r k)

-- the same of a loss
abbrev pub lost : ℕ → Option Counts → Option Counts
lost r none = none
lost r (some k) = if eqb (k.reach - 1) 0 then none else some (lower r k)

-- Does the field's count come to or leave 0 where g is made of the counts?
abbrev pub moves : (Option Counts → Option Counts) → Field → Option Counts → Bool
moves g f x = crosses (get f (counts_of x)) (get f (counts_of (g x)))

-- What a walk leaves of q, where g is made of its counts from s up to e.
pub record One (g : Option Counts → Option Counts) (s e : ℕ) (q : Record) (w : Walk) : Type 0 where
  pub reads : (a : ℕ) → look w.records a ≡ within q.start q.end a (within s e a (g (some q.counts)) (some q.counts)) none
  pub span : Span q.start q.end w.records
  pub flag : (f : Field) → is_marked f w.marks ≡ (meets s e q && moves g f (some q.counts))

module _ (g : Option Counts → Option Counts) (s e : ℕ) (q : Record) (n : q.start < q.end) where
  -- q is not met
  missed : (p : Pool) → T (not (meets s e q)) → One g s e q (record { records = q ∷ []; pool = p; marks = 0 })
  missed p t = record { reads = reads; span = (le_refl _, n, le_refl _); flag = λ f. marked-none f ∙ rw (is_false {b = meets s e q} t) }
    where
      -- no address is in both ranges
      outside : (a : ℕ) → q.start ≤ a → a < q.end → within s e a (g (some q.counts)) (some q.counts) ≡ some q.counts
      outside a i j = elim (pos s e a) [
        | below u ↦ simp W
        | inside u v ↦ absurd (rw (lt-ltb s q.end (omega arith), lt-ltb q.start e (omega arith)) at t)
        | above u ↦ simp W
      ]

      reads : (a : ℕ) → look (q ∷ []) a ≡ within q.start q.end a (within s e a (g (some q.counts)) (some q.counts)) none
      reads a = elim (pos q.start q.end a) [ below i ↦ simp W | inside i j ↦ simp W (sym (outside a i j)) | above i ↦ simp W ]

  -- q is met, d is what became of the middle piece m, and x has its marks
  module _ (b : List Record) (m : Record) (d c : List Record) (cut : Cut s e q b m c) (z : s < e) (t : T (meets s e q)) (r : Reads d m.start m.end (g (some m.counts))) (k : Span m.start m.end d) (x : ℕ) (marked : (f : Field) → is_marked f x ≡ moves g f (some m.counts)) where
    joined : (a : ℕ) → look (b ++ d ++ c) a ≡ within q.start q.end a (within s e a (g (some q.counts)) (some q.counts)) none
    joined a =
        let h = ltb→lt s q.end (search and_l) in
        let i = ltb→lt q.start e (search and_r) in
        look-append (b ++ d) c a ∙ rw (look-append b d a) (simp (cut.before a, cut.after a, r a, cut.counts) (elim (pos q.start q.end a) [
          | below j ↦ let u : a < m.start = omega arith in let v : a < e = omega arith in simp W
          | inside j k ↦ elim (pos s e a) [
            | below u ↦ let v : a < m.start = omega arith in simp W
            | inside u v ↦ let w : m.start ≤ a = omega arith in let x : a < m.end = omega arith in simp (W, first-none)
            | above u ↦ let w : m.end ≤ a = omega arith in let x : s ≤ a = omega arith in simp W
          ]
          | above j ↦ let u : m.end ≤ a = omega arith in let v : s ≤ a = omega arith in simp W
        ]))

    met : (p : Pool) → One g s e q (record { records = b ++ d ++ c; pool = p; marks = x })
    met p = record {
      reads = joined;
      span = span-append q.start m.end q.end (b ++ d) c (span-append q.start m.start m.end b d cut.span_before k) cut.span_after;
      flag = λ f. marked f ∙ rw (is_true {b = meets s e q} t, cut.counts);
    }

-- the middle piece is not empty
middle : (s e : ℕ) (q : Record) (b : List Record) (m : Record) (f : List Record) → Cut s e q b m f → q.start < q.end → s < e → T (meets s e q) → m.start < m.end
middle s e q b m f cut n z t = let h = ltb→lt s q.end (search and_l) in let i = ltb→lt q.start e (search and_r) in omega arith

-- the same list in another bracketing
rebracket : (g : Option Counts → Option Counts) (s e : ℕ) (q : Record) (l m : List Record) (p : Pool) (h : ℕ) → l ≡ m → One g s e q (record { records = l; pool = p; marks = h }) → One g s e q (record { records = m; pool = p; marks = h })
rebracket g s e q l m p h x o = rw x at o

pub add-one : (r s e : ℕ) (q : Record) (p : Pool) → q.start < q.end → (q.start < e → s < e) → All (One (gained r) s e q) (add_to r s e q p)
unfolding add_to
add-one r s e q p n z =
    branch-on (meets s e q)
    (λ t. let z' = z (ltb→lt q.start e (search and_r)) in
    cutting s e q p (λ b m f p'. ok (record { records = b ++ (with_counts (raise r m.counts) m ∷ f); pool = p'; marks = crossings m.counts (raise r m.counts) }))
    (λ b m f p' cut.
    let d = with_counts (raise r m.counts) m ∷ [] in
    accepted (rebracket (gained r) s e q (b ++ d ++ f) (b ++ (d ++ f)) p' _ (append_assoc b d f)
    (met (gained r) s e q n b m d f cut z' t (λ a. refl) (le_refl _, middle s e q b m f cut n z' t, le_refl _) _ (marked-where _) p'))))
    (λ t. accepted (missed (gained r) s e q n p t))

-- the middle piece after a loss
keep-reads : (r : ℕ) (m : Record) (p : Pool) → m.start < m.end → All (λ (x : List Record × Pool). Reads x.0 m.start m.end (lost r (some m.counts)) × Span m.start m.end x.0) (keep_or_drop (with_counts (lower r m.counts) m) p)
unfolding keep_or_drop
keep-reads r m p h =
    branch-on (eqb (m.counts.reach - 1) 0)
    (λ t. bind-any _ (λ p'. accepted (λ a. rw (is_true {b = eqb (m.counts.reach - 1) 0} t) (sym (within_same m.start m.end a none none refl)), omega arith)))
    (λ t. accepted (λ a. rw (is_false {b = eqb (m.counts.reach - 1) 0} t), (le_refl _, h, le_refl _)))

-- a dropped record leaves no counts
lost-marks : (r : ℕ) (k : Counts) (f : Field) → is_marked f (crossings k (left_counts (lower r k))) ≡ moves (lost r) f (some k)
lost-marks r k f = marked-where (λ g. crosses (get g k) (get g (left_counts (lower r k)))) f ∙ ap (λ (j : Counts). crosses (get f k) (get f j)) (left (eqb (k.reach - 1) 0))
  where
    left : (b : Bool) → (if b then no_counts else lower r k) ≡ counts_of (if b then none else some (lower r k))
    left true = refl
    left false = refl

pub remove-one : (r s e : ℕ) (q : Record) (p : Pool) → q.start < q.end → (q.start < e → s < e) → All (One (lost r) s e q) (remove_from r s e q p)
unfolding remove_from
remove-one r s e q p n z =
    branch-on (meets s e q)
    (λ t. let z' = z (ltb→lt q.start e (search and_r)) in
    cutting s e q p (λ b m f p'. keep_or_drop (with_counts (lower r m.counts) m) p' >>= λ x. ok (record { records = b ++ x.0 ++ f; pool = x.1; marks = crossings m.counts (left_counts (lower r m.counts)) }))
    (λ b m f p' cut. bind (keep-reads r m p' (middle s e q b m f cut n z' t)) (λ x h. accepted (met (lost r) s e q n b m x.0 f cut z' t h.0 h.1 _ (lost-marks r m.counts) x.1))))
    (λ t. accepted (missed (lost r) s e q n p t))
