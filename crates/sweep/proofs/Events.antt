-- What is counted of events is counted of the pieces that they begin and end (specs/Events), in whatever order they are.
use Rattle.std.specs.Prelude.{◌≡◌, refl, ℕ, ◌+◌, ◌≤◌, ◌<◌, Bool, true, false, not, ◌&&◌, List, [], ◌∷◌, T, eqb, leb, if◌then◌else◌}
use Rattle.std.proofs.Common.{ap, arith, eqb→eq, lt-ltb, le-ltb, eq-eqb, le-leb}
use Rattle.std.proofs.lemmas.Bool.{lt-leb}
use Rattle.base.specs.Cases.{below, inside, above, pos, Test, test}
use Rattle.base.specs.Tests.{true-is}
use Rattle.model.specs.Lists.{one_if, count_if, Each}
use Rattle.model.specs.Fields.{Field, passes}
use Rattle.model.specs.Counts.{holds}
use Rattle.laws.specs.Stack.{one_at_most}
use Rattle.sweep.specs.Events.{Piece, Proper, Event, starts, ends, cover, up_to, Perm}

-- ---- tests

pub and-le : (b c : Bool) → one_if (b && c) ≤ one_if b
and-le true c = one_at_most c
and-le false c = omega arith

-- a branch on two tests
pub branch : {A : Type 0} (P : A → Type 0) (c d : Bool) (x y : A) → (T c → T d → P x) → (T (not c) → P y) → (T c → T (not d) → P y) → P (if c && d then x else y)
branch P true true x y f g h = f tt tt
branch P true false x y f g h = h tt tt
branch P false d x y f g h = g tt

-- ---- starts and ends tell the cover

piece_is : (s e a : ℕ) (t : Bool) → s < e → one_if (leb s a && t) ≡ one_if (leb e a && t) + one_if (holds s e a && t)
piece_is s e a t h = elim (pos s e a) [
  | below u ↦ rw (lt-leb s a u, lt-leb e a (omega arith)) refl
  | inside u v ↦ rw (le-leb s a u, lt-leb e a v, lt-ltb a e v) (omega arith)
  | above u ↦ rw (le-leb s a (omega arith), le-leb e a u, le-ltb a e u) (omega arith)
]

pub cover-is : (f : Field) (ps : List Piece) (a : ℕ) → Proper ps → up_to f a (starts ps) ≡ up_to f a (ends ps) + cover f ps a
cover-is f [] a h = refl
cover-is f (p ∷ ps) a h = omega (arith, piece_is p.start p.end a (passes f p.rights) h.0, cover-is f ps a h.1)

-- no right counts for more than the reach
and-true : (b : Bool) → one_if (b && true) ≡ one_if b
and-true true = refl
and-true false = refl

pub cover-small : (f : Field) (ps : List Piece) (a : ℕ) → cover f ps a ≤ cover Field.Reach ps a
cover-small f [] a = omega arith
cover-small f (p ∷ ps) a = let b = holds p.start p.end a in omega (arith, and-le b (passes f p.rights), and-true b, cover-small f ps a)

-- ---- where a piece starts something is covered

at-start : (s e x : ℕ) → s < e → one_if (eqb s x) ≤ one_if (holds s e x && true)
at-start s e x h = elim (test (eqb s x)) [
  | Test.holds t ↦ let k = eqb→eq s x (true-is t) in rw (t, le-leb s x (omega arith), lt-ltb x e (omega arith)) (omega arith)
  | Test.fails t ↦ rw t (omega arith)
]

starts-cover : (ps : List Piece) (x : ℕ) → Proper ps → count_if (λ e. eqb e.at x) (starts ps) ≤ cover Field.Reach ps x
starts-cover [] x h = omega arith
starts-cover (p ∷ ps) x h = omega (arith, at-start p.start p.end x h.0, starts-cover ps x h.1)

-- what holds wherever there is an event holds of each
each_at : (P : ℕ → Type 0) (l : List Event) → ((x : ℕ) → 0 < count_if (λ e. eqb e.at x) l → P x) → Each (λ e. P e.at) l
each_at P [] h = tt
each_at P (e ∷ l) h = (h e.at (omega (arith, ap one_if (eq-eqb e.at e.at refl))), each_at P l (λ x k. h x (omega arith)))

pub starts-covered : (ps : List Piece) (l : List Event) → Proper ps → Perm l (starts ps) → Each (λ e. 0 < cover Field.Reach ps e.at) l
starts-covered ps l h p = each_at (λ x. 0 < cover Field.Reach ps x) l (λ x k. omega (arith, p (λ e. eqb e.at x), starts-cover ps x h))
