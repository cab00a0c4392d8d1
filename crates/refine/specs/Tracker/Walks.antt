-- A walk in the middle agrees with the model's walk over the rest: how one turn leads to the next. A turn ends the walk, goes on to the next record,
-- or takes or frees a slot and goes on.
use Rattle.std.specs.Prelude.{◌≡◌, refl, Ok}
use Rattle.std.proofs.Common.{sym, ◌∙◌, arith, Continue}
use Rattle.std.proofs.Math.Path.{ap}
use Prim.Native.Nat.{ℕ, suc}
use mathlib.Core.List.{List, [], ◌∷◌, ◌++◌, append_assoc}
use Rattle.std.specs.Int.Bits.{or_zero_r}
use Rattle.rights.specs.Rights.{union}
use Rattle.model.specs.Outcome.{Outcome, ok, ◌>>=◌}
use Rattle.refusals.specs.Refusals.{no_tracker}
use Rattle.model.specs.State.{State, Record, Pool, Domain}
use Rattle.model.specs.Pool.{allocate}
use Rattle.model.specs.Layout.{link}
use Rattle.model.specs.Tracker.{Walk, with_end}
use Rattle.laws.specs.Words.SameTrackers.{first_slot}
use Rattle.laws.specs.Tracker.Pools.{uses-append}
use Rattle.tables.specs.Tables.{Tables}
use Rattle.answers.specs.Answers.{Effect, done}
use Rattle.region.specs.declared.AccessRights.{AccessRights}
use Rattle.walk_cursors.specs.declared.Cursor.{Cursor}
use Rattle.region.specs.declared.Way.{Way}
use Rattle.tracker_records.specs.Links.{split}
use Rattle.region.specs.Turns.{to, over, onward}
use Rattle.tracker.specs.Walks.{turn, walk}
use Rattle.decoded.specs.Tables.{tables_of}
use Rattle.refine.specs.Agrees.{Agrees, agrees-step, agrees-call, bind_assoc}
use Rattle.refine.specs.Tracker.Linked.{last_of}
use Rattle.refine.specs.Tracker.RecordSteps.{tracked, from}
use Rattle.refine.specs.Tracker.WalkSteps.{walked, ahead}
use Rattle.refine.specs.Tracker.Walking.{walk-going, walk-over, turned, cursor, finish, finish-ahead, Fits, fits_on, fits_in_lem, split-here}

-- the cursor behind record q
abbrev pub behind : Record → List Record → ℕ → ℕ → Cursor
behind q l st z = record { prev = suc q.slot; at = link (first_slot l); start = st; marks = z }

-- n turns from address st on, with marks z before: b is done, l is to come, and m is the model's walk over l
pub record Walks (s : State) (d : ℕ) (x : Domain) (a : AccessRights) (w : Way) (n st z : ℕ) (b l : List Record) (p : Pool) (m : Outcome Walk) : Type 0 where
  pub agrees : Agrees (walk w d a n (cursor b l st z) (tables_of (tracked s d x (b ++ l) p))) (m >>= finish s d x z b)

module _ {s : State} {d : ℕ} {x : Domain} {a : AccessRights} {w : Way} where
  module _ {n st z : ℕ} {b l : List Record} {p : Pool} where
    pub walks_same : {m m' : Outcome Walk} → m ≡ m' → Walks s d x a w n st z b l p m' → Walks s d x a w n st z b l p m
    walks_same e h = record { agrees = agrees-call _ _ _ (ap (λ (k : Outcome Walk). k >>= finish s d x z b) e) h.agrees }

    -- the walk is over, and the model changes nothing more
    pub walks-over : turn w (tables_of (tracked s d x (b ++ l) p)) d a (cursor b l st z) ≡ over (cursor b l st z) (tables_of (tracked s d x (b ++ l) p))
        → Walks s d x a w (suc n) st z b l p (ok (walked l p 0))
    unfolding finish cursor ◌>>=◌
    walks-over e =
        let t = tables_of (tracked s d x (b ++ l) p) in
        let y : Outcome (ℕ × State) = ok (union z 0, tracked s d x (b ++ l) p) in
        record { agrees = agrees-step _ (done z t) y (walk-over w d a n (cursor b l st z) t (Ok z) t e) (ap Ok (sym (or_zero_r z)), refl) }

  -- the last record done, in the cursor and in the tables
  pub behind-last : {n st z : ℕ} {l : List Record} {p : Pool} {m : Outcome Walk} (b : List Record) (q : Record) → Walks s d x a w n st z (b ++ q ∷ []) l p m
      → Agrees (walk w d a n (behind q l st z) (tables_of (tracked s d x (b ++ q ∷ l) p))) (m >>= finish s d x z (b ++ q ∷ []))
  unfolding cursor
  behind-last {n} {st} {z} {l} {p} {m} b q h =
      let step : ℕ → List Record → Effect = λ k c. walk w d a n (record { prev = k; at = link (first_slot l); start = st; marks = z }) (tables_of (tracked s d x c p)) in
      agrees-step _ _ (m >>= finish s d x z (b ++ q ∷ []))
      (sym (ap (λ (k : ℕ). step k ((b ++ q ∷ []) ++ l)) (last_of b q) ∙ ap (step (suc q.slot)) (append_assoc b (q ∷ []) l))) h.agrees

  -- on to the records l: r is done, with marks k
  pub walks-on : {n st st' z : ℕ} {b l₀ l : List Record} {p₀ p : Pool} {m : Outcome Walk} (r : Record) (k : ℕ)
      → turn w (tables_of (tracked s d x (b ++ l₀) p₀)) d a (cursor b l₀ st z) ≡ to (Continue (behind r l st' (union z k))) (tables_of (tracked s d x (b ++ r ∷ l) p))
      → Walks s d x a w n st' (union z k) (b ++ r ∷ []) l p m → Walks s d x a w (suc n) st z b l₀ p₀ (ahead (r ∷ []) k m)
  walks-on {n} {st} {st'} {z} {b} {l₀} {l} {p₀} {p} {m} r k e h =
      let next = behind r l st' (union z k) in
      record {
        agrees =
            agrees-call _ _ _ (finish-ahead s d x z k b (r ∷ []) m)
            (agrees-step _ _ (m >>= finish s d x (union z k) (b ++ r ∷ []))
            (walk-going w d a n (cursor b l₀ st z) (tables_of (tracked s d x (b ++ l₀) p₀)) next (tables_of (tracked s d x (b ++ r ∷ l) p)) e) (behind-last b r h));
      }

  -- a step that takes or frees a slot: the pool gives y
  module _ {A : Type 0} {n st z : ℕ} {b l₀ : List Record} {p₀ : Pool} (u : Effect) (v : ℕ → Cursor) (c : Outcome A) (g : A → ℕ × State) (m : A → Outcome Walk) where
    pub walks-then : turn w (tables_of (tracked s d x (b ++ l₀) p₀)) d a (cursor b l₀ st z) ≡ onward u v → Agrees u (c >>= λ y. ok (g y))
        → ((y : A) → c ≡ ok y → Agrees (walk w d a n (v (g y).0) (tables_of (g y).1)) (m y >>= finish s d x z b)) → Walks s d x a w (suc n) st z b l₀ p₀ (c >>= m)
    walks-then e h k =
        let t = tables_of (tracked s d x (b ++ l₀) p₀) in
        record { agrees = agrees-call _ _ _ (bind_assoc c m (finish s d x z b)) (turned w d a n (cursor b l₀ st z) t u v c g (λ y. m y >>= finish s d x z b) e h k) }

-- ---- a record cut in two at c, in both walks

module _ (s : State) (d : ℕ) (x : Domain) (a : AccessRights) (w : Way) (c n st z : ℕ) (b : List Record) (q : Record) (l : List Record) (p : Pool) (h : Fits s d x (b ++ q ∷ l) p)
    (m : ℕ → Pool → Outcome Walk)
  where
    halves : (y : ℕ × Pool) → allocate no_tracker p ≡ ok y → Fits s d x (b ++ with_end c q ∷ from c y.0 q ∷ l) y.1
    halves y f =
        let u = with_end c q in
        let v = from c y.0 q in
        fits_in_lem s d x (b ++ q ∷ l) (b ++ u ∷ v ∷ l) p y v h f refl (λ j. omega (arith, uses-append j b (q ∷ l), uses-append j b (u ∷ v ∷ l)))

    abbrev t : Tables
    t = tables_of (tracked s d x (b ++ q ∷ l) p)

    abbrev left : ℕ × Pool → ℕ × State
    left y = (suc y.0, tracked s d x (b ++ with_end c q ∷ from c y.0 q ∷ l) y.1)

    -- the left part is done
    pub walks-cut : turn w t d a (cursor b (q ∷ l) st z) ≡ onward (split t q.slot c) (λ k. record { prev = suc q.slot; at = k; start = st; marks = z })
        → ((i : ℕ) (p₁ : Pool) → Fits s d x ((b ++ with_end c q ∷ []) ++ from c i q ∷ l) p₁ → Walks s d x a w n st z (b ++ with_end c q ∷ []) (from c i q ∷ l) p₁ (m i p₁))
        → Walks s d x a w (suc n) st z b (q ∷ l) p (allocate no_tracker p >>= λ y. ahead (with_end c q ∷ []) 0 (m y.0 y.1))
    walks-cut e k =
        let u = with_end c q in
        walks-then _ _ (allocate no_tracker p) left (λ y. ahead (u ∷ []) 0 (m y.0 y.1)) e (split-here s d x b l q p h c) (λ y f.
        agrees-call _ _ _ (finish-ahead s d x z 0 b (u ∷ []) (m y.0 y.1) ∙ ap (λ (o : ℕ). m y.0 y.1 >>= finish s d x o (b ++ u ∷ [])) (or_zero_r z))
        (behind-last b u (k y.0 y.1 (fits_on s d x b (from c y.0 q ∷ l) u y.1 (halves y f)))))

    -- the left part stays at hand
    pub walks-trim : turn w t d a (cursor b (q ∷ l) st z) ≡ onward (split t q.slot c) (λ k. cursor b (q ∷ l) st z)
        → ((i : ℕ) (p₁ : Pool) → Fits s d x (b ++ with_end c q ∷ from c i q ∷ l) p₁ → Walks s d x a w n st z b (with_end c q ∷ from c i q ∷ l) p₁ (m i p₁))
        → Walks s d x a w (suc n) st z b (q ∷ l) p (allocate no_tracker p >>= λ y. m y.0 y.1)
    unfolding cursor
    walks-trim e k = walks-then _ _ (allocate no_tracker p) left (λ y. m y.0 y.1) e (split-here s d x b l q p h c) (λ y f. (k y.0 y.1 (halves y f)).agrees)
