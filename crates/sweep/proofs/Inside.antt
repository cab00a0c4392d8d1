-- The rounds inside a record. Invariant: from the address x on, where both cursors stand, what started is what ended and what is covered.
-- Between two events nothing changes, so the counts agree at every address of the record if and only if they do at its start and at each event.
use Rattle.std.specs.Prelude.{◌≡◌, Bool, not, List, [], ◌∷◌, T, ltb, length}
use Prim.Native.Nat.{ℕ, zero, suc, ◌+◌, ◌≤◌, ◌<◌}
use Rattle.std.proofs.Common.{arith, nltb→le, T_not}
use Rattle.std.proofs.Math.Dec.{ltb→lt}
use Rattle.base.specs.Cases.{lt, ge, cmp}
use Rattle.model.specs.Lists.{Each}
use Rattle.model.specs.State.{Record}
use Rattle.model.specs.Fields.{Field, get}
use Rattle.sweep.specs.Events.{Event}
use Rattle.sweep.proofs.Events.{branch}
use Rattle.sweep.specs.Sweep.{Cursor, Sorted, upto, next, next_of, agrees, Both, inside}
use Rattle.sweep.proofs.Cursor.{reads, sorted-lower, reads-sums, moved, moved-each, left, round-shorter, next-above, sorted-next, next-most, agrees→, →agrees}

-- From x on p and m read as the cover; their events ahead lie from y on, and where a piece starts something is covered.
pub record Ready (cov : Field → ℕ → ℕ) (x y : ℕ) (p m : Cursor) : Type 0 where
  pub starts : Sorted y p.ahead
  pub ends : Sorted y m.ahead
  pub covers : (f : Field) (a : ℕ) → x ≤ a → reads f p a ≡ reads f m a + cov f a
  pub started : Each (λ e. 0 < cov Field.Reach e.at) p.ahead

-- the counts of q are the cover, from x up to its end
abbrev pub Counted : (Field → ℕ → ℕ) → Record → ℕ → Type 0
Counted cov q x = (f : Field) (a : ℕ) → x ≤ a → a < q.end → get f q.counts ≡ cov f a

pub record Inside (cov : Field → ℕ → ℕ) (q : Record) (x : ℕ) (p m : Cursor) (b : Both) : Type 0 where
  pub tells : T b.ok → Counted cov q x
  pub told : Counted cov q x → T b.ok
  pub ready : T b.ok → Ready cov q.end q.end b.p b.m
  pub room : left b.p b.m ≤ left p m

none_left : (y : ℕ) (l : List Event) → length l ≤ 0 → Sorted y l
none_left y [] h = tt
none_left y (e ∷ l) h = absurd (omega arith)

module _ (cov : Field → ℕ → ℕ) where
  pub ready-lower : (x x' y y' : ℕ) (p m : Cursor) → x ≤ x' → y' ≤ y → Ready cov x y p m → Ready cov x' y' p m
  ready-lower x x' y y' p m h i r = record { starts = sorted-lower y y' p.ahead i r.starts; ends = sorted-lower y y' m.ahead i r.ends; covers = λ f a j. r.covers f a (omega arith); started = r.started }

  -- where nothing is ahead the sums tell the cover
  pub still : (x y : ℕ) (p m : Cursor) → Ready cov x y p m → (f : Field) (a : ℕ) → x ≤ a → a < y → get f p.sums ≡ get f m.sums + cov f a
  still x y p m r f a i j = omega (arith, reads-sums f y a p r.starts j, reads-sums f y a m r.ends j, r.covers f a i)

  -- both cursors move up to z
  pub ready_moved : (x y z : ℕ) (p m : Cursor) → x ≤ z → Ready cov x y p m → Ready cov z (suc z) (upto z p) (upto z m)
  ready_moved x y z p m h r =
      let u = moved z y p r.starts in
      let v = moved z y m r.ends in
      record { starts = u.above; ends = v.above; covers = λ f a i. omega (arith, u.keeps f a i, v.keeps f a i, r.covers f a (omega arith)); started = moved-each (λ e. 0 < cov Field.Reach e.at) z p r.started }

  module _ (q : Record) (x : ℕ) (p m : Cursor) (i : x < q.end) where
    abbrev ok : Bool
    ok = agrees p.sums m.sums q.counts

    abbrev stopped : Both
    stopped = record { p = p; m = m; ok = ok }

    told_here : Ready cov x (suc x) p m → Counted cov q x → T ok
    told_here r h = →agrees p.sums m.sums q.counts (λ f. omega (arith, still x (suc x) p m r f x (omega arith) (omega arith), h f x (omega arith) i))

    -- no event is left inside
    stop-law : Ready cov x q.end p m → Inside cov q x p m stopped
    stop-law r = record { tells = λ t f a j k. omega (arith, agrees→ p.sums m.sums q.counts t f, still x q.end p m r f a j k); told = told_here (ready-lower x x q.end (suc x) p m (omega arith) i r); ready = λ t. ready-lower x q.end q.end q.end p m (omega arith) (omega arith) r; room = omega arith }

    fail-law : Ready cov x (suc x) p m → T (not ok) → Inside cov q x p m stopped
    fail-law r n = record { tells = λ t. absurd (T_not ok n t); told = told_here r; ready = λ t. absurd (T_not ok n t); room = omega arith }

    -- the next events stand at z
    go-law : (z : ℕ) (b : Both) → x < z → Ready cov x z p m → T ok → left (upto z p) (upto z m) ≤ left p m → Inside cov q z (upto z p) (upto z m) b → Inside cov q x p m b
    go-law z b h r t w k = record {
      tells = λ u f a j l. elim (cmp a z) [ lt v ↦ omega (arith, agrees→ p.sums m.sums q.counts t f, still x z p m r f a j v) | ge v ↦ k.tells u f a v l ];
      told = λ c. k.told (λ f a j l. c f a (omega arith) l);
      ready = k.ready;
      room = omega (arith, k.room);
    }

  -- ---- a round, to the next event below y, or to y

  module _ (x y : ℕ) (p m : Cursor) (r : Ready cov x (suc x) p m) where
    ready-to : Ready cov x (next_of p m y) p m
    ready-to = record { starts = sorted-lower (next p.ahead y) (next_of p m y) p.ahead (next-most (next p.ahead y) m.ahead) (sorted-next (suc x) y p.ahead r.starts); ends = sorted-next (suc x) (next p.ahead y) m.ahead r.ends; covers = r.covers; started = r.started }

    to-above : x < y → x < next_of p m y
    to-above h = next-above (suc x) (next p.ahead y) m.ahead r.ends (next-above (suc x) y p.ahead r.starts h)

  pub inside-law : (n : ℕ) (q : Record) (x : ℕ) (p m : Cursor) → x < q.end → Ready cov x (suc x) p m → left p m ≤ n → Inside cov q x p m (inside n q p m)
  unfolding inside
  inside-law zero q x p m i r w = stop-law q x p m i (record { starts = none_left q.end p.ahead (omega arith); ends = none_left q.end m.ahead (omega arith); covers = r.covers; started = r.started })
  inside-law (suc n) q x p m i r w =
      let z = next_of p m q.end in
      branch (Inside cov q x p m) (agrees p.sums m.sums q.counts) (ltb z q.end) (inside n q (upto z p) (upto z m)) _
      (λ t u.
      let h = ltb→lt z q.end u in
      let s = round-shorter q.end p m h in
      let k = ready-to x q.end p m r in
      let v = to-above x q.end p m r i in
      go-law q x p m i z (inside n q (upto z p) (upto z m)) v k t (omega arith)
      (inside-law n q z (upto z p) (upto z m) h (ready_moved x z z p m (omega arith) k) (omega arith)))
      (λ t. fail-law q x p m i r t)
      (λ t u. stop-law q x p m i (ready-lower x x z q.end p m (omega arith) (nltb→le z q.end u) (ready-to x q.end p m r)))
