-- The model's loss in single steps, one for each turn of the code's walk: a record passed, cut at the range's start, cut at the range's end, lowered and
-- kept, lowered and dropped. Each law takes the whole walk over the rest of the list to one step and the walk over what is then left.
-- Beyond the range nothing changes: the records rise.
use Rattle.std.specs.Prelude.{◌≡◌, ℕ, ◌≤◌, ◌<◌, true, false, eqb}
use Rattle.std.proofs.Math.Path.{refl, sym, ap}
use Rattle.std.proofs.Common.{◌∙◌, arith, le_refl}
use mathlib.Core.List.{List, [], ◌∷◌, ◌++◌, append_assoc}
use Rattle.rights.specs.Rights.{union}
use Rattle.model.specs.Outcome.{Outcome, ok, ◌>>=◌}
use Rattle.refusals.specs.Refusals.{no_tracker}
use Rattle.model.specs.State.{Record, Pool}
use Rattle.model.specs.Pool.{allocate, free}
use Rattle.model.specs.Tracker.{Walk, lower, left_counts, crossings, with_end, with_counts, cut_before, cut_after, meets, keep_or_drop, remove_from, remove_region}
use Rattle.model.specs.Sound.{Rising}
use Rattle.refine.specs.Agrees.{ok-then, bind_assoc, bind-same}
use Rattle.refine.specs.Tracker.RecordSteps.{from}
use Rattle.refine.specs.Tracker.WalkSteps.{walked, ahead, ahead-out, before-whole, before-cut, after-whole, after-cut, meets-t, meets-below, meets-above}

-- a record lowered, and the marks of that
abbrev pub lowered_record : ℕ → Record → Record
lowered_record r q = with_counts (lower r q.counts) q

abbrev pub lowers : ℕ → Record → ℕ
lowers r q = crossings q.counts (left_counts (lower r q.counts))

-- ---- one record

-- record y .0 is lowered, and is kept or dropped, before the records y .1
unfoldable lower_then : ℕ → Record × List Record × Pool → Outcome Walk
lower_then r y = keep_or_drop (lowered_record r y.0) y.2 >>= λ u. ok (walked (u.0 ++ y.1) u.1 (lowers r y.0))

unfoldable lower_from : ℕ → ℕ → Record → Pool → Outcome Walk
lower_from r e m p = cut_after e m p >>= lower_then r

unfoldable lower_after : ℕ → ℕ → List Record × Record × Pool → Outcome Walk
lower_after r e x = cut_after e x.1 x.2 >>= λ y. keep_or_drop (lowered_record r y.0) y.2 >>= λ u. ok (walked (x.0 ++ u.0 ++ y.1) u.1 (lowers r y.0))

module _ (r s e : ℕ) (q : Record) (p : Pool) where
  missed : meets s e q ≡ false → remove_from r s e q p ≡ ok (walked (q ∷ []) p 0)
  unfolding remove_from
  missed h = rw h

  met : meets s e q ≡ true → remove_from r s e q p ≡ cut_before s q p >>= lower_after r e
  unfolding remove_from lower_after
  met h = rw h

  lower-after : (x : List Record × Record × Pool) → lower_after r e x ≡ ahead x.0 0 (lower_from r e x.1 x.2)
  unfolding lower_after lower_from lower_then ahead ◌>>=◌
  lower-after x =
      bind-same (cut_after e x.1 x.2) _ _ (λ y.
      bind-same (keep_or_drop (lowered_record r y.0) y.2) _ _ (λ u. ap (λ (l : List Record). ok (walked l u.1 (lowers r y.0))) (append_assoc x.0 u.0 y.1))
      ∙ sym (bind_assoc (keep_or_drop (lowered_record r y.0) y.2) _ _))
      ∙ sym (bind_assoc (cut_after e x.1 x.2) _ _)

  met-whole : meets s e q ≡ true → s ≤ q.start → remove_from r s e q p ≡ lower_from r e q p
  unfolding lower_after lower_from lower_then ◌>>=◌
  met-whole h a = met h ∙ ap (λ m. m >>= lower_after r e) (before-whole s q p a)

  met-cut : meets s e q ≡ true → q.start < s → remove_from r s e q p ≡ allocate no_tracker p >>= λ z. ahead (with_end s q ∷ []) 0 (lower_from r e (from s z.0 q) z.1)
  met-cut h a =
      met h
      ∙ ap (λ m. m >>= lower_after r e) (before-cut s q p a)
      ∙ bind_assoc (allocate no_tracker p) _ _
      ∙ bind-same (allocate no_tracker p) _ _ (λ z. ok-then _ (lower_after r e) ∙ lower-after (with_end s q ∷ [], from s z.0 q, z.1))

  lower-whole : q.end ≤ e → lower_from r e q p ≡ lower_then r (q, [], p)
  unfolding lower_from ◌>>=◌
  lower-whole b = ap (λ m. m >>= lower_then r) (after-whole e q p b)

  lower-left : e < q.end → lower_from r e q p ≡ allocate no_tracker p >>= λ z. lower_then r (with_end e q, from e z.0 q ∷ [], z.1)
  unfolding lower_from
  lower-left b = ap (λ m. m >>= lower_then r) (after-cut e q p b) ∙ bind_assoc (allocate no_tracker p) _ _ ∙ bind-same (allocate no_tracker p) _ _ (λ z. ok-then _ (lower_then r))

  then-kept : eqb (lower r q.counts).reach 0 ≡ false → lower_then r (q, [], p) ≡ ok (walked (lowered_record r q ∷ []) p (lowers r q))
  unfolding lower_then keep_or_drop ◌>>=◌
  then-kept h = rw h

  then-dropped : eqb (lower r q.counts).reach 0 ≡ true → lower_then r (q, [], p) ≡ free q.slot p >>= λ p₁. ok (walked [] p₁ (lowers r q))
  unfolding lower_then keep_or_drop ◌>>=◌
  then-dropped h = rw h (bind_assoc (free q.slot p) _ _)

-- ---- the walk goes on

module _ (r s e : ℕ) (l : List Record) where
  -- behind the record at hand
  unfoldable go_on : Walk → Outcome Walk
  go_on w = ahead w.records w.marks (remove_region r s e l w.pool)

  remove-cons : (q : Record) (p : Pool) → remove_region r s e (q ∷ l) p ≡ remove_from r s e q p >>= go_on
  unfolding remove_region go_on ahead
  remove-cons q p = refl

  remove-ok : (q : Record) (p : Pool) (w : Walk) → remove_from r s e q p ≡ ok w → remove_region r s e (q ∷ l) p ≡ ahead w.records w.marks (remove_region r s e l w.pool)
  unfolding go_on ◌>>=◌
  remove-ok q p w h = remove-cons q p ∙ ap (λ m. m >>= go_on) h

  remove-then : {A : Type 0} (q : Record) (p : Pool) (m : Outcome A) (f : A → Outcome Walk) → remove_from r s e q p ≡ m >>= f → remove_region r s e (q ∷ l) p ≡ m >>= λ z. f z >>= go_on
  remove-then q p m f h = remove-cons q p ∙ ap (λ m. m >>= go_on) h ∙ bind_assoc m f go_on

-- nothing is left of the range
pub lose-done : (r s e lo : ℕ) (l : List Record) (p : Pool) → s < e → e ≤ lo → Rising lo l → remove_region r s e l p ≡ ok (walked l p 0)
unfolding remove_region ahead ◌>>=◌
lose-done r s e lo [] p t h o = refl
lose-done r s e lo (q ∷ l) p t h o =
    remove-ok r s e l q p (walked (q ∷ []) p 0) (missed r s e q p (meets-above s e q (omega arith) (omega arith)))
    ∙ ap (ahead (q ∷ []) 0) (lose-done r s e q.end l p t (omega arith) o.2)

module _ (r s e : ℕ) (p : Pool) (todo : s < e) (q : Record) (l : List Record) where
  -- q lies before the range
  pub lose-pass : q.end ≤ s → remove_region r s e (q ∷ l) p ≡ ahead (q ∷ []) 0 (remove_region r s e l p)
  lose-pass h = remove-ok r s e l q p (walked (q ∷ []) p 0) (missed r s e q p (meets-below s e q h))

  -- the range starts inside q
  pub lose-cut : q.start < s → s < q.end → remove_region r s e (q ∷ l) p ≡ allocate no_tracker p >>= λ z. ahead (with_end s q ∷ []) 0 (remove_region r s e (from s z.0 q ∷ l) z.1)
  unfolding go_on
  lose-cut h k =
      remove-then r s e l q p (allocate no_tracker p) _ (met-cut r s e q p (meets-t s e q k (omega arith)) h)
      ∙ bind-same (allocate no_tracker p) _ _ (λ z.
      ahead-out (remove_region r s e l) (with_end s q ∷ []) 0 (lower_from r e (from s z.0 q) z.1) ∙ ap (ahead (with_end s q ∷ []) 0) (right z.0 z.1))
    where
      right : (i : ℕ) (p₁ : Pool) → lower_from r e (from s i q) p₁ >>= (λ w. ahead w.records w.marks (remove_region r s e l w.pool)) ≡ remove_region r s e (from s i q ∷ l) p₁
      right i p₁ = sym (remove-cons r s e l (from s i q) p₁ ∙ ap (λ m. m >>= go_on r s e l) (met-whole r s e (from s i q) p₁ (meets-t s e (from s i q) k todo) (le_refl s)))

  module _ (first : s ≤ q.start) (some-of-it : q.start < q.end) where
    -- the range holds q
    module _ (k : q.end ≤ e) where
      held : remove_from r s e q p ≡ lower_then r (q, [], p)
      held = met-whole r s e q p (meets-t s e q (omega arith) (omega arith)) first ∙ lower-whole r s e q p k

      pub lose-keep : eqb (lower r q.counts).reach 0 ≡ false → remove_region r s e (q ∷ l) p ≡ ahead (lowered_record r q ∷ []) (lowers r q) (remove_region r s e l p)
      lose-keep h = remove-ok r s e l q p _ (held ∙ then-kept r s e q p h)

      pub lose-drop : eqb (lower r q.counts).reach 0 ≡ true → remove_region r s e (q ∷ l) p ≡ free q.slot p >>= λ p₁. ahead [] (lowers r q) (remove_region r s e l p₁)
      unfolding go_on ◌>>=◌
      lose-drop h = remove-then r s e l q p (free q.slot p) _ (held ∙ then-dropped r s e q p h)

    -- the range ends inside q
    module _ (u : q.start < e) (k : e < q.end) (o : Rising q.end l) where
      -- the right part is passed with the others
      beyond : (i : ℕ) (y : List Record × Pool) → ahead (y.0 ++ from e i q ∷ []) (lowers r q) (remove_region r s e l y.1)
          ≡ ahead (y.0 ++ []) (lowers r q) (remove_region r s e (from e i q ∷ l) y.1)
      unfolding ahead ◌>>=◌
      beyond i y =
          let v = from e i q in
          ap (ahead (y.0 ++ v ∷ []) (lowers r q)) (lose-done r s e q.end l y.1 todo (omega arith) o)
          ∙ ap (λ (m : List Record). ok (walked m y.1 (union (lowers r q) 0))) (append_assoc y.0 (v ∷ []) l ∙ sym (append_assoc y.0 [] (v ∷ l)))
          ∙ sym (ap (ahead (y.0 ++ []) (lowers r q)) (lose-done r s e e (v ∷ l) y.1 todo (le_refl e) (le_refl e, k, o)))

      trimmed : (i : ℕ) (p₁ : Pool) → lower_then r (with_end e q, from e i q ∷ [], p₁) >>= go_on r s e l ≡ remove_region r s e (with_end e q ∷ from e i q ∷ l) p₁
      unfolding lower_then go_on ◌>>=◌
      trimmed i p₁ =
          let m = with_end e q in
          let c = keep_or_drop (lowered_record r m) p₁ in
          bind_assoc c _ (go_on r s e l)
          ∙ bind-same c _ _ (beyond i)
          ∙ sym (bind_assoc c _ (go_on r s e (from e i q ∷ l)))
          ∙ sym (remove-cons r s e (from e i q ∷ l) m p₁ ∙ ap (λ n. n >>= go_on r s e (from e i q ∷ l)) (met-whole r s e m p₁ (meets-t s e m todo u) first ∙ lower-whole r s e m p₁ (le_refl e)))

      pub lose-trim : remove_region r s e (q ∷ l) p ≡ allocate no_tracker p >>= λ z. remove_region r s e (with_end e q ∷ from e z.0 q ∷ l) z.1
      lose-trim =
          remove-then r s e l q p (allocate no_tracker p) _ (met-whole r s e q p (meets-t s e q (omega arith) u) first ∙ lower-left r s e q p k)
          ∙ bind-same (allocate no_tracker p) _ _ (λ z. trimmed z.0 z.1)
