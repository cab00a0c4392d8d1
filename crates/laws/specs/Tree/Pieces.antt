-- Effective ranges by one pass over children in order: the pieces rise, and hold each address of the range where no carve is, once.
-- Invariant of the pass: the carves that are left lie in order between the place reached and the end (`Cuts`).
use Rattle.std.specs.Prelude.{◌≡◌, refl, ℕ, ◌+◌, ◌≤◌, ◌<◌, List, [], ◌∷◌, ◌++◌, cond, if◌then◌else◌}
use Rattle.std.proofs.Common.{ap, ◌∙◌, arith, lt-ltb, le-ltb}
use Rattle.base.specs.Cases.{lt, ge, cmp, below, inside, above, pos, holds, fails, test}
use Rattle.model.specs.State.{Region}
use Rattle.model.specs.Tree.{is_carve, Range, piece, effective_from}
use Rattle.laws.specs.Tree.Shares.{clear, clear-0, clear-s, clear_zero}
use Rattle.laws.specs.Within.{within, W, within-lo, within_same}

-- rising, disjoint and nonempty, from lo on, and none beyond hi
abbrev pub Pieces : ℕ → ℕ → List Range → Type 0
Pieces lo hi [] = Unit {0}
Pieces lo hi (x ∷ l) = (lo ≤ x.0) × (x.0 < x.1) × (x.1 ≤ hi) × Pieces x.1 hi l

-- v once for each piece that holds a
abbrev pub spread : ℕ → List Range → ℕ → ℕ
spread v [] a = 0
spread v (x ∷ l) a = within x.0 x.1 a v 0 + spread v l a

-- the carves of cs lie in order between cur and e
abbrev pub Cuts : ℕ → ℕ → List Region → Type 0
Cuts cur e [] = cur ≤ e
Cuts cur e (c ∷ cs) = cond (is_carve c.kind) ((cur ≤ c.start) × (c.start < c.end) × Cuts c.end e cs) (Cuts cur e cs)

-- how many carves of cs cover a
abbrev pub cuts : List Region → ℕ → ℕ
cuts [] a = 0
cuts (c ∷ cs) a = (if is_carve c.kind then within c.start c.end a 1 0 else 0) + cuts cs a

cuts-room : (cur e : ℕ) (cs : List Region) → Cuts cur e cs → cur ≤ e
cuts-room cur e [] h = h
cuts-room cur e (c ∷ cs) h = elim (test (is_carve c.kind)) [
  | holds t ↦ let h' = rw t at h in omega (arith, cuts-room c.end e cs h'.2)
  | fails t ↦ cuts-room cur e cs (rw t at h)
]

-- ---- the pieces rise

pieces-lower : (lo lo' hi : ℕ) (l : List Range) → lo' ≤ lo → Pieces lo hi l → Pieces lo' hi l
pieces-lower lo lo' hi [] h r = tt
pieces-lower lo lo' hi (x ∷ l) h r = (omega arith, r.1, r.2, r.3)

piece-first : (s e m hi : ℕ) (l : List Range) → e ≤ m → s ≤ m → e ≤ hi → Pieces m hi l → Pieces s hi (piece s e ++ l)
piece-first s e m hi l h k j r = elim (cmp s e) [
  | lt u ↦ rw (lt-ltb s e u) (omega arith, u, omega arith, pieces-lower m e hi l h r)
  | ge u ↦ rw (le-ltb s e u) (pieces-lower m s hi l k r)
]

piece-last : (s e : ℕ) → Pieces s e (piece s e)
piece-last s e = elim (cmp s e) [ lt u ↦ rw (lt-ltb s e u) (omega arith) | ge u ↦ rw (le-ltb s e u) tt ]

pub pass-rises : (cur e : ℕ) (cs : List Region) → Cuts cur e cs → Pieces cur e (effective_from cur e cs)
pass-rises cur e [] h = piece-last cur e
pass-rises cur e (c ∷ cs) h = elim (test (is_carve c.kind)) [
  | holds t ↦ let h' = rw t at h in
      let r = cuts-room c.end e cs h'.2 in
      rw t (piece-first cur c.start c.end e (effective_from c.end e cs) (omega arith) (omega arith) (omega arith) (pass-rises c.end e cs h'.2))
  | fails t ↦ rw t (pass-rises cur e cs (rw t at h))
]

-- ---- and cover what is not carved

spread-append : (v : ℕ) (l m : List Range) (a : ℕ) → spread v (l ++ m) a ≡ spread v l a + spread v m a
spread-append v [] m a = omega arith
spread-append v (x ∷ l) m a = omega (arith, spread-append v l m a)

spread-piece : (v s e a : ℕ) → spread v (piece s e) a ≡ within s e a v 0
spread-piece v s e a = elim (cmp s e) [
  | lt u ↦ rw (lt-ltb s e u) (omega arith)
  | ge u ↦ rw (le-ltb s e u) (elim (pos s e a) [ below w ↦ simp W | inside w x ↦ absurd (omega arith) | above w ↦ simp W ])
]

-- before the first carve nothing is carved
cuts-before : (cur e a : ℕ) (cs : List Region) → Cuts cur e cs → a < cur → cuts cs a ≡ 0
cuts-before cur e a [] h l = refl
cuts-before cur e a (c ∷ cs) h l = elim (test (is_carve c.kind)) [
  | holds t ↦ let h' = rw t at h in rw t (omega (arith, within-lo {A = ℕ} c.start c.end a 1 0 (omega arith), cuts-before c.end e a cs h'.2 (omega arith)))
  | fails t ↦ rw t (omega (arith, cuts-before cur e a cs (rw t at h) l))
]

spread-step : (v cur s m e a c : ℕ) → cur ≤ s → s < m → m ≤ e → (a < m → c ≡ 0) → within cur s a v 0 + clear c (within m e a v 0) ≡ clear (within s m a 1 0 + c) (within cur e a v 0)
spread-step v cur s m e a c h i j z = elim (cmp a cur) [
  | lt u ↦ let l1 : a < s = omega arith in let l2 : a < m = omega arith in simp (W, clear_zero) (omega arith)
  | ge u ↦ elim (cmp a s) [
    | lt w ↦ let l2 : a < m = omega arith in let l3 : a < e = omega arith in simp (W, clear_zero) (omega (arith, clear-0 (0 + c) v (omega (arith, z l2))))
    | ge w ↦ elim (cmp a m) [
      | lt l2 ↦ let l3 : a < e = omega arith in simp (W, clear_zero) (omega (arith, clear-s (1 + c) v (omega arith)))
      | ge l2 ↦ let same : 0 + c ≡ c = omega arith in elim (cmp a e) [ lt l3 ↦ simp (W, same) (omega arith) | ge l3 ↦ simp (W, clear_zero) (omega arith) ]
    ]
  ]
]

pub pass-spread : (v cur e a : ℕ) (cs : List Region) → Cuts cur e cs → spread v (effective_from cur e cs) a ≡ clear (cuts cs a) (within cur e a v 0)
pass-spread v cur e a [] h = spread-piece v cur e a
pass-spread v cur e a (c ∷ cs) h = elim (test (is_carve c.kind)) [
  | holds t ↦ let h' = rw t at h in
      let r = cuts-room c.end e cs h'.2 in
      rw t (spread-append v (piece cur c.start) (effective_from c.end e cs) a ∙ rw (spread-piece v cur c.start a, pass-spread v c.end e a cs h'.2) (spread-step v cur c.start c.end e a (cuts cs a) h'.0 h'.1 r (cuts-before c.end e a cs h'.2)))
  | fails t ↦ let same : cuts cs a ≡ 0 + cuts cs a = omega arith in rw t (pass-spread v cur e a cs (rw t at h) ∙ ap (λ (n : ℕ). clear n (within cur e a v 0)) same)
]

-- ---- at an address of the first piece that piece alone counts, and where nothing is spread there is nothing

pub spread-below : (v lo hi a : ℕ) (l : List Range) → Pieces lo hi l → a < lo → spread v l a ≡ 0
spread-below v lo hi a [] r h = refl
spread-below v lo hi a (x ∷ l) r h = omega (arith, within-lo x.0 x.1 a v 0 (omega arith), spread-below v x.1 hi a l r.3 (omega arith))

pub spread-zero : (l : List Range) (a : ℕ) → spread 0 l a ≡ 0
spread-zero [] a = refl
spread-zero (x ∷ l) a = omega (arith, within_same {A = ℕ} x.0 x.1 a 0 0 refl, spread-zero l a)
