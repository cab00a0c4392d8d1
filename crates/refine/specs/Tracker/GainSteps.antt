-- The model's gain in single steps, one for each turn of the code's walk: a gap filled, a record passed, cut at the range's start, cut at the range's end,
-- raised. Each law takes the whole walk over the rest of the list to one step and the walk over what is then left.
-- Where the range is done, nothing more changes: the records rise, and those still to come lie beyond it.
use Rattle.std.specs.Prelude.{◌≡◌, true, false}
use Rattle.std.proofs.Math.Path.{refl, sym, ap}
use Rattle.std.proofs.Common.{◌∙◌, le_refl, lt-ltb, le-ltb}
use Prim.Native.Nat.{ℕ, ◌≤◌, ◌<◌, min, max}
use mathlib.Core.List.{List, [], ◌∷◌, ◌++◌}
use native.Mathlib.Omega.{arith}
use Rattle.std.specs.Int.Bits.{or_zero_r}
use Rattle.base.specs.Cases.{lt, ge, cmp}
use Rattle.rights.specs.Rights.{union}
use Rattle.model.specs.Outcome.{Outcome, ok, ◌>>=◌}
use Rattle.refusals.specs.Refusals.{no_tracker}
use Rattle.model.specs.State.{Record, Pool}
use Rattle.model.specs.Pool.{allocate}
use Rattle.model.specs.Tracker.{Walk, new_counts, raise, no_counts, crossings, with_end, with_counts, cut_before, cut_after, fill_gap, fill_marks, meets, add_to, add_region}
use Rattle.model.specs.Sound.{Rising}
use Rattle.refine.specs.Agrees.{ok-then, bind_assoc, bind-same}
use Rattle.refine.specs.Tracker.RecordSteps.{from}
use Rattle.refine.specs.Tracker.WalkSteps.{walked, ahead, ahead-ahead, ahead-then, ahead-out, before-whole, before-cut, after-whole, after-cut, meets-t, meets-below, meets-above}

-- a new record; a record raised
abbrev pub new_record : ℕ → ℕ → ℕ → ℕ → Record
new_record r s e i = record { slot = i; start = s; end = e; counts = new_counts r }

abbrev pub raised_record : ℕ → Record → Record
raised_record r q = with_counts (raise r q.counts) q

-- the marks of each
abbrev pub fills : ℕ → ℕ
fills r = crossings no_counts (new_counts r)

abbrev pub raises : ℕ → Record → ℕ
raises r q = crossings q.counts (raise r q.counts)

-- the walk from record q on, where no gap lies before it
unfoldable add_here : ℕ → ℕ → ℕ → Record → List Record → Pool → Outcome Walk
add_here r s e q l p = add_to r s e q p >>= λ w. ahead w.records w.marks (add_region r (max s q.end) e l w.pool)

-- the walk with the gap before q filled, or not
unfoldable add_after : ℕ → ℕ → ℕ → Record → List Record → List Record × Pool → Outcome Walk
add_after r s e q l y = add_to r s e q y.1 >>= λ w. ahead (y.0 ++ w.records) (union (fill_marks r y.0) w.marks) (add_region r (max s q.end) e l w.pool)

module _ (r s e : ℕ) (p : Pool) where
  fill_none : e ≤ s → fill_gap r s e p ≡ ok ([], p)
  unfolding fill_gap
  fill_none h = rw (le-ltb s e h)

  fill-some : s < e → fill_gap r s e p ≡ allocate no_tracker p >>= λ z. ok (new_record r s e z.0 ∷ [], z.1)
  unfolding fill_gap
  fill-some h = rw (lt-ltb s e h)

module _ (r s e : ℕ) (q : Record) (l : List Record) where
  add-cons : (p : Pool) → add_region r s e (q ∷ l) p ≡ fill_gap r s (min e q.start) p >>= add_after r s e q l
  unfolding add_region add_after ahead
  add-cons p = refl

  after_is : (y : List Record × Pool) → add_after r s e q l y ≡ ahead y.0 (fill_marks r y.0) (add_here r s e q l y.1)
  unfolding add_after add_here
  after_is y =
      sym (ahead-then y.0 (fill_marks r y.0) (add_to r s e q y.1) _
      ∙ bind-same (add_to r s e q y.1) _ _ (λ w. ahead-ahead y.0 w.records (fill_marks r y.0) w.marks (add_region r (max s q.end) e l w.pool)))

  no_gap : (p : Pool) → min e q.start ≤ s → add_region r s e (q ∷ l) p ≡ add_here r s e q l p
  unfolding add_after add_here ◌>>=◌
  no_gap p h = add-cons p ∙ ap (λ m. m >>= add_after r s e q l) (fill_none r s (min e q.start) p h)

  a-gap : (p : Pool) → s < min e q.start → add_region r s e (q ∷ l) p ≡ allocate no_tracker p >>= λ z. ahead (new_record r s (min e q.start) z.0 ∷ []) (fills r) (add_here r s e q l z.1)
  a-gap p h =
      add-cons p
      ∙ ap (λ m. m >>= add_after r s e q l) (fill-some r s (min e q.start) p h)
      ∙ bind_assoc (allocate no_tracker p) _ _
      ∙ bind-same (allocate no_tracker p) _ _ (λ z. ok-then _ (add_after r s e q l) ∙ after_is (new_record r s (min e q.start) z.0 ∷ [], z.1))

-- ---- one record

-- the part of a record from its start on, and behind records that were cut off it
unfoldable raise_from : ℕ → ℕ → Record → Pool → Outcome Walk
raise_from r e m p = cut_after e m p >>= λ y. ok (walked (raised_record r y.0 ∷ y.1) y.2 (raises r y.0))

unfoldable raise_after : ℕ → ℕ → List Record × Record × Pool → Outcome Walk
raise_after r e x = cut_after e x.1 x.2 >>= λ y. ok (walked (x.0 ++ raised_record r y.0 ∷ y.1) y.2 (raises r y.0))

module _ (r s e : ℕ) (q : Record) (p : Pool) where
  missed : meets s e q ≡ false → add_to r s e q p ≡ ok (walked (q ∷ []) p 0)
  unfolding add_to
  missed h = rw h

  met : meets s e q ≡ true → add_to r s e q p ≡ cut_before s q p >>= raise_after r e
  unfolding add_to raise_after
  met h = rw h

  raise-after : (x : List Record × Record × Pool) → raise_after r e x ≡ ahead x.0 0 (raise_from r e x.1 x.2)
  unfolding raise_after raise_from ahead ◌>>=◌
  raise-after x = sym (bind_assoc (cut_after e x.1 x.2) _ _)

  met-whole : meets s e q ≡ true → s ≤ q.start → add_to r s e q p ≡ raise_from r e q p
  unfolding raise_after raise_from ◌>>=◌
  met-whole h a = met h ∙ ap (λ m. m >>= raise_after r e) (before-whole s q p a)

  met-cut : meets s e q ≡ true → q.start < s → add_to r s e q p ≡ allocate no_tracker p >>= λ z. ahead (with_end s q ∷ []) 0 (raise_from r e (from s z.0 q) z.1)
  met-cut h a =
      met h
      ∙ ap (λ m. m >>= raise_after r e) (before-cut s q p a)
      ∙ bind_assoc (allocate no_tracker p) _ _
      ∙ bind-same (allocate no_tracker p) _ _ (λ z. ok-then _ (raise_after r e) ∙ raise-after (with_end s q ∷ [], from s z.0 q, z.1))

  raise-whole : q.end ≤ e → raise_from r e q p ≡ ok (walked (raised_record r q ∷ []) p (raises r q))
  unfolding raise_from ◌>>=◌
  raise-whole b = rw (after-whole e q p b)

  raise-left : e < q.end → raise_from r e q p ≡ allocate no_tracker p >>= λ z. ok (walked (raised_record r (with_end e q) ∷ from e z.0 q ∷ []) z.1 (raises r q))
  unfolding raise_from ◌>>=◌
  raise-left b = rw (after-cut e q p b) (bind_assoc (allocate no_tracker p) _ _)

  -- the walk goes on behind q
  module _ (l : List Record) where
    onward : Walk → Outcome Walk
    onward w = ahead w.records w.marks (add_region r (max s q.end) e l w.pool)

    here-ok : (w : Walk) → add_to r s e q p ≡ ok w → add_here r s e q l p ≡ ahead w.records w.marks (add_region r (max s q.end) e l w.pool)
    unfolding add_here onward ◌>>=◌
    here-ok w h = ap (λ m. m >>= onward) h

    here-then : (f : ℕ × Pool → Outcome Walk) → add_to r s e q p ≡ allocate no_tracker p >>= f
        → add_here r s e q l p ≡ allocate no_tracker p >>= λ z. f z >>= λ w. ahead w.records w.marks (add_region r (max s q.end) e l w.pool)
    unfolding add_here onward
    here-then f h = ap (λ m. m >>= onward) h ∙ bind_assoc (allocate no_tracker p) f onward

-- from another address the same
here-same : (r s m e : ℕ) (q : Record) (p : Pool) (l : List Record) → add_to r s e q p ≡ add_to r m e q p → max s q.end ≡ max m q.end → add_here r s e q l p ≡ add_here r m e q l p
unfolding add_here
here-same r s m e q p l a b = λ i. a i >>= λ w. ahead w.records w.marks (add_region r (b i) e l w.pool)

-- ---- the steps

-- nothing is left of the range
pub add_done : (r s e : ℕ) (l : List Record) (p : Pool) → e ≤ s → Rising s l → add_region r s e l p ≡ ok (walked l p 0)
unfolding add_region ahead ◌>>=◌
add_done r s e [] p h o = rw (fill_none r s e p h)
add_done r s e (q ∷ l) p h o =
    let k : max s q.end ≡ q.end = omega arith in
    no_gap r s e q l p (omega arith)
    ∙ here-ok r s e q p l (walked (q ∷ []) p 0) (missed r s e q p (meets-above s e q (omega arith) (omega arith)))
    ∙ ap (λ (z : ℕ). ahead (q ∷ []) 0 (add_region r z e l p)) k
    ∙ ap (ahead (q ∷ []) 0) (add_done r q.end e l p (omega arith) o.2)

module _ (r s e : ℕ) (p : Pool) (todo : s < e) where
  -- behind the last record
  pub add-last : add_region r s e [] p ≡ allocate no_tracker p >>= λ z. ahead (new_record r s e z.0 ∷ []) (fills r) (add_region r e e [] z.1)
  unfolding add_region ahead ◌>>=◌
  add-last =
      rw (fill-some r s e p todo)
      (bind_assoc (allocate no_tracker p) _ _
      ∙ bind-same (allocate no_tracker p) _ _ (λ z.
      sym (ap (ahead (new_record r s e z.0 ∷ []) (fills r)) (add_done r e e [] z.1 (le_refl e) tt)
      ∙ ap (λ (k : ℕ). ok (walked (new_record r s e z.0 ∷ []) z.1 k)) (or_zero_r (fills r)))))

  module _ (q : Record) (l : List Record) (some-of-it : q.start < q.end) where
    -- a gap before q
    pub add-gap : s < q.start
        → add_region r s e (q ∷ l) p ≡ allocate no_tracker p >>= λ z. ahead (new_record r s (min e q.start) z.0 ∷ []) (fills r) (add_region r (min e q.start) e (q ∷ l) z.1)
    add-gap h = a-gap r s e q l p (omega arith) ∙ bind-same (allocate no_tracker p) _ _ (λ z. ap (ahead (new_record r s (min e q.start) z.0 ∷ []) (fills r)) (filled z.1))
      where
        filled : (p₁ : Pool) → add_here r s e q l p₁ ≡ add_region r (min e q.start) e (q ∷ l) p₁
        filled p₁ =
            let m = min e q.start in
            let k : max s q.end ≡ max m q.end = omega arith in
            here-same r s m e q p₁ l (elim (cmp q.start e) [
              | lt u ↦ met-whole r s e q p₁ (meets-t s e q (omega arith) u) (omega arith) ∙ sym (met-whole r m e q p₁ (meets-t m e q (omega arith) u) (omega arith))
              | ge u ↦ missed r s e q p₁ (meets-above s e q (omega arith) u) ∙ sym (missed r m e q p₁ (meets-above m e q (omega arith) u))
            ]) k
            ∙ sym (no_gap r m e q l p₁ (le_refl m))

    -- q lies before the range
    pub add-pass : q.end ≤ s → add_region r s e (q ∷ l) p ≡ ahead (q ∷ []) 0 (add_region r s e l p)
    add-pass h =
        let k : max s q.end ≡ s = omega arith in
        no_gap r s e q l p (omega arith)
        ∙ here-ok r s e q p l (walked (q ∷ []) p 0) (missed r s e q p (meets-below s e q h))
        ∙ ap (λ (z : ℕ). ahead (q ∷ []) 0 (add_region r z e l p)) k

    -- the range starts inside q
    pub add-cut : q.start < s → s < q.end → add_region r s e (q ∷ l) p ≡ allocate no_tracker p >>= λ z. ahead (with_end s q ∷ []) 0 (add_region r s e (from s z.0 q ∷ l) z.1)
    unfolding add_here
    add-cut h k =
        no_gap r s e q l p (omega arith)
        ∙ here-then r s e q p l _ (met-cut r s e q p (meets-t s e q k (omega arith)) h)
        ∙ bind-same (allocate no_tracker p) _ _ (λ z.
        ahead-out (add_region r (max s q.end) e l) (with_end s q ∷ []) 0 (raise_from r e (from s z.0 q) z.1) ∙ ap (ahead (with_end s q ∷ []) 0) (right z.0 z.1))
      where
        right : (i : ℕ) (p₁ : Pool) → raise_from r e (from s i q) p₁ >>= (λ w. ahead w.records w.marks (add_region r (max s q.end) e l w.pool)) ≡ add_region r s e (from s i q ∷ l) p₁
        right i p₁ =
            ap (λ m. m >>= λ w. ahead w.records w.marks (add_region r (max s q.end) e l w.pool))
            (sym (met-whole r s e (from s i q) p₁ (meets-t s e (from s i q) k todo) (le_refl s)))
            ∙ sym (no_gap r s e (from s i q) l p₁ (omega arith))

    -- the range starts with q, and ends with it or later
    pub add-raise : q.start ≡ s → q.end ≤ e → add_region r s e (q ∷ l) p ≡ ahead (raised_record r q ∷ []) (raises r q) (add_region r q.end e l p)
    add-raise h k =
        let m : max s q.end ≡ q.end = omega arith in
        no_gap r s e q l p (omega arith)
        ∙ here-ok r s e q p l _ (met-whole r s e q p (meets-t s e q (omega arith) (omega arith)) (omega arith) ∙ raise-whole r s e q p k)
        ∙ ap (λ (z : ℕ). ahead (raised_record r q ∷ []) (raises r q) (add_region r z e l p)) m

-- the range starts with q, and ends inside it
module _ (r s e : ℕ) (p : Pool) (todo : s < e) (q : Record) (l : List Record) (h : q.start ≡ s) (k : e < q.end) (o : Rising q.end l) where
  trimmed : (i : ℕ) (p₁ : Pool) → ahead (raised_record r (with_end e q) ∷ from e i q ∷ []) (raises r q) (add_region r (max s q.end) e l p₁)
      ≡ add_region r s e (with_end e q ∷ from e i q ∷ l) p₁
  unfolding ahead ◌>>=◌
  trimmed i p₁ =
      let m : max s q.end ≡ q.end = omega arith in
      let c = raises r q in
      let u : q.start < e = omega arith in
      ap (λ (z : ℕ). ahead (raised_record r (with_end e q) ∷ from e i q ∷ []) c (add_region r z e l p₁)) m
      ∙ ap (ahead (raised_record r (with_end e q) ∷ from e i q ∷ []) c) (add_done r q.end e l p₁ (omega arith) o)
      ∙ sym (add-raise r s e p₁ todo (with_end e q) (from e i q ∷ l) u h (le_refl e)
      ∙ ap (ahead (raised_record r (with_end e q) ∷ []) c) (add_done r e e (from e i q ∷ l) p₁ (le_refl e) (le_refl e, k, o)))

  pub add-trim : add_region r s e (q ∷ l) p ≡ allocate no_tracker p >>= λ z. add_region r s e (with_end e q ∷ from e z.0 q ∷ l) z.1
  add-trim =
      no_gap r s e q l p (omega arith)
      ∙ here-then r s e q p l _ (met-whole r s e q p (meets-t s e q (omega arith) (omega arith)) (omega arith) ∙ raise-left r s e q p k)
      ∙ bind-same (allocate no_tracker p) _ _ (λ z. ok-then _ _ ∙ trimmed z.0 z.1)
