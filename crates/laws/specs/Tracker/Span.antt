-- A piece of a rising list. Invariant: the piece rises from lo on and ends by hi, so pieces whose bounds meet make one, and the last rests on hi.
use Rattle.std.specs.Prelude.{ℕ, ◌≤◌, ◌<◌, List, [], ◌∷◌, ◌++◌}
use Rattle.std.proofs.Common.{arith}
use Rattle.model.specs.State.{Record}
use Rattle.model.specs.Sound.{Rising}

-- rising from lo on, and ending by hi
abbrev pub Span : ℕ → ℕ → List Record → Type 0
Span lo hi [] = lo ≤ hi
Span lo hi (q ∷ l) = (lo ≤ q.start) × (q.start < q.end) × Span q.end hi l

pub weaken-rising : (lo hi : ℕ) (l : List Record) → lo ≤ hi → Rising hi l → Rising lo l
weaken-rising lo hi [] h o = tt
weaken-rising lo hi (q ∷ l) h o = (omega arith, o.1, o.2)

pub span-append : (lo mid hi : ℕ) (l m : List Record) → Span lo mid l → Span mid hi m → Span lo hi (l ++ m)
span-append lo mid hi [] [] h o = omega arith
span-append lo mid hi [] (q ∷ m) h o = (omega arith, o.1, o.2)
span-append lo mid hi (q ∷ l) m h o = (h.0, h.1, span-append q.end mid hi l m h.2 o)

pub span-rising : (lo mid : ℕ) (l m : List Record) → Span lo mid l → Rising mid m → Rising lo (l ++ m)
span-rising lo mid [] m h o = weaken-rising lo mid m h o
span-rising lo mid (q ∷ l) m h o = (h.0, h.1, span-rising q.end mid l m h.2 o)

pub rising-of : (lo hi : ℕ) (l : List Record) → Span lo hi l → Rising lo l
rising-of lo hi [] h = tt
rising-of lo hi (q ∷ l) h = (h.0, h.1, rising-of q.end hi l h.2)
