-- One turn of each walk, and where it ends: over the children of a region, over the slots of a domain.
use Rattle.std.specs.Prelude.{◌≡◌, Bool, List, ◌++◌, eqb, ltb, length, get_or, set}
use Rattle.std.proofs.Math.Path.{refl, sym}
use Rattle.std.proofs.Common.{ap, ◌∙◌}
use Rattle.std.proofs.Math.Bool.{true, false}
use Prim.Native.Nat.{ℕ, zero, suc, ◌+◌, ◌-◌, ◌*◌, ◌≤◌, ◌<◌}
use Rattle.std.proofs.Math.Numerals.{add-one}
use native.Mathlib.Omega.{arith}
use borrow.Author.Tests.{lt-ltb, le-ltb, le-leb, lt-leb, ltb-true, eq-eqb, ne_eqb}
use Rattle.base.specs.Cases.{pick_same}
use Rattle.base.specs.Tests.{both, both-i, both_true, true-false}
use Rattle.tables.specs.declared.Slot.{Slot}
use Rattle.tables.specs.declared.RegionCapa.{RegionCapa}
use Rattle.tables.specs.Kinds.{REGION, CARVE}
use Rattle.tables.specs.Tables.{Arena}
use Rattle.arena.specs.Arena.{live_b}
use Rattle.sweep.specs.Events.{Piece}
use Rattle.sound_pieces.specs.Pieces.{piece, between, region_pieces, names_b, slot_pieces, slots_pieces}
use Rattle.sound_pieces.specs.Laid.{space, Filled, filled, place_in, place_out, places, places-append}

-- ---- one piece

module _ (w : List ℕ) (n r s e : ℕ) where
  pub piece-in : s < e → n < space w
      → filled (set (set (set (set w (2 * n) s) (2 * n + 1) r) (2 * (space w + n)) e) (2 * (space w + n) + 1) r) (n + 1) ≡ places (filled w n) (piece r s e)
  unfolding places
  piece-in h k = rw (lt-ltb s e h) (rw (add-one (2 * n), add-one (2 * (space w + n))) (sym (place_in w n (record { start = s; end = e; rights = r }) k)))

  pub piece-out : s < e → space w ≤ n → filled w n ≡ places (filled w n) (piece r s e)
  unfolding places
  piece-out h k = rw (lt-ltb s e h) (sym (place_out w n (record { start = s; end = e; rights = r }) k))

  pub piece-none : e ≤ s → filled w n ≡ places (filled w n) (piece r s e)
  unfolding places
  piece-none h = rw (le-ltb s e h)

-- ---- the children from link k on, n at most

pub goes : (b : Bool) (n k : ℕ) → b ≡ both (ltb 0 n) (ltb 0 k) → b ≡ true → (0 < n) × (0 < k)
goes b n k e h = let u = both_true (ltb 0 n) (ltb 0 k) (sym e ∙ h) in (ltb-true 0 n u.0, ltb-true 0 k u.1)

module _ (f : ℕ → RegionCapa) (r e : ℕ) where
  pub between-end : (n a k : ℕ) → both (ltb 0 n) (ltb 0 k) ≡ false → piece r a e ≡ between f n r e a k
  unfolding between
  between-end zero a k h = refl
  between-end (suc n) a zero h = refl
  between-end (suc n) a (suc i) h = absurd (true-false (both-i (ltb 0 (suc n)) (ltb 0 (suc i)) (lt-ltb 0 (suc n) (omega arith)) (lt-ltb 0 (suc i) (omega arith))) h)

  module _ (x : Filled) (c : RegionCapa) where
    pub between-cut : (y : Filled) (n a k : ℕ) → (0 < n) × (0 < k) → c ≡ f (k - 1) → CARVE ≤ c.kind → y ≡ places x (piece r a c.start)
        → places y (between f (n - 1) r e c.end c.next) ≡ places x (between f n r e a k)
    unfolding between
    between-cut y zero a k h ec hc ey = absurd (omega arith)
    between-cut y (suc n) a zero h ec hc ey = absurd (omega arith)
    between-cut y (suc n) a (suc i) h ec hc ey =
        let en : suc n - 1 ≡ n = omega arith in
        let ei : suc i - 1 ≡ i = omega arith in
        let ef : c ≡ f i = rw ei at ec in
        rw (en, ey, ← ef, le-leb CARVE c.kind hc) (sym (places-append x (piece r a c.start) (between f n r e c.end c.next)))

    pub between-skip : (n a k : ℕ) → (0 < n) × (0 < k) → c ≡ f (k - 1) → c.kind < CARVE
        → places x (between f (n - 1) r e a c.next) ≡ places x (between f n r e a k)
    unfolding between
    between-skip zero a k h ec hc = absurd (omega arith)
    between-skip (suc n) a zero h ec hc = absurd (omega arith)
    between-skip (suc n) a (suc i) h ec hc =
        let en : suc n - 1 ≡ n = omega arith in
        let ei : suc i - 1 ≡ i = omega arith in
        let ef : c ≡ f i = rw ei at ec in
        rw (en, ← ef, lt-leb CARVE c.kind hc)

-- ---- slots

-- a pool with these links and generations, which is all that a test of handles reads
abbrev pub pool : List ℕ → List ℕ → Arena
pool links gens = record { head = 0; count = 0; links = links; gens = gens }

pub same-pool : (p : Arena) (f : ℕ → RegionCapa) (n : ℕ) (g : ℕ → Slot) (m j : ℕ) → slots_pieces (pool p.links p.gens) f n g m j ≡ slots_pieces p f n g m j
unfolding slots_pieces slot_pieces names_b live_b
same-pool p f n g zero j = refl
same-pool p f n g (suc m) j = ap (λ (ps : List Piece). slot_pieces p f n (g j) ++ ps) (same-pool p f n g m (suc j))

module _ (links gens : List ℕ) (x : Slot) where
  pub names-live : (b : Bool) (v : ℕ) → x.kind ≡ REGION → x.handle.slot < length links → v ≡ get_or gens x.handle.slot 0
      → b ≡ both (eqb (get_or links x.handle.slot 0) 0) (eqb v x.handle.generation) → b ≡ names_b (pool links gens) x
  unfolding names_b live_b
  names-live b v ek h ev eb = rw (eq-eqb x.kind REGION ek, lt-ltb x.handle.slot (length links) h, ← ev) eb

  pub names-far : length links ≤ x.handle.slot → false ≡ names_b (pool links gens) x
  unfolding names_b live_b
  names-far h = rw (le-ltb x.handle.slot (length links) h) (sym (pick_same (eqb x.kind REGION) false))

  pub names-other : (x.kind ≡ REGION → ⊥) → false ≡ names_b (pool links gens) x
  unfolding names_b
  names-other n = rw (ne_eqb x.kind REGION n)

-- the slots from number j on, of m in all
module _ (p : Arena) (f : ℕ → RegionCapa) (n : ℕ) (g : ℕ → Slot) (m j : ℕ) (x : Filled) where
  pub slots_end : m ≤ j → x ≡ places x (slots_pieces p f n g (m - j) j)
  unfolding slots_pieces places
  slots_end h = let e : m - j ≡ 0 = omega arith in rw e

  module _ (h : j < m) (c : Slot) (ec : c ≡ g j) (b : Bool) (eb : b ≡ names_b p c) where
    abbrev rest : List Piece
    rest = slots_pieces p f n g (m - (j + 1)) (j + 1)

    one_more : places x (slots_pieces p f n g (m - j) j) ≡ places (places x (slot_pieces p f n c)) rest
    unfolding slots_pieces
    one_more =
        let e : m - j ≡ suc (m - (j + 1)) = omega arith in
        rw (e, ← (add-one j), ← ec) (places-append x (slot_pieces p f n c) rest)

    pub slot-named : (y : Filled) → y ≡ places x (region_pieces f n c.handle.slot) → b ≡ true → places y rest ≡ places x (slots_pieces p f n g (m - j) j)
    unfolding slot_pieces
    slot-named y ey t = let e : names_b p c ≡ true = sym eb ∙ t in rw ey (sym (one_more ∙ rw e))

    pub slot-passed : b ≡ false → places x rest ≡ places x (slots_pieces p f n g (m - j) j)
    unfolding slot_pieces places
    slot-passed t = let e : names_b p c ≡ false = sym eb ∙ t in sym (one_more ∙ rw e)
