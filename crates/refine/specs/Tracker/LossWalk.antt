-- The code's loss, turn by turn, against the model's walk. Induction along the records that are to come; a record takes three turns at most: a cut at the
-- range's start, a cut at the range's end, the counts lowered. The walk stops at a record beyond the range: the records rise, so that the model changes
-- nothing more. Invariant: slots in use or free once; the rest rises.
use Rattle.std.specs.Prelude.{◌≡◌, true, false, eqb, length}
use Rattle.std.proofs.Common.{ap, ◌∙◌, arith, le_refl}
use Prim.Native.Nat.{ℕ, zero, suc, ◌+◌, ◌*◌, ◌≤◌, ◌<◌}
use mathlib.Core.List.{List, [], ◌∷◌, ◌++◌, append-nil}
use Rattle.base.specs.Cases.{lt, ge, cmp, holds, fails, test}
use Rattle.rights.specs.Rights.{union}
use Rattle.model.specs.Outcome.{◌>>=◌}
use Rattle.model.specs.State.{State, Record, Pool, Domain}
use Rattle.model.specs.Pool.{free}
use Rattle.model.specs.Tracker.{lower, with_end, remove_region}
use Rattle.model.specs.Sound.{Rising}
use Rattle.laws.specs.Words.SameTrackers.{uses}
use Rattle.laws.specs.Tracker.Pools.{uses-append}
use Rattle.laws.specs.Tracker.Span.{weaken-rising}
use Rattle.region.specs.declared.AccessRights.{AccessRights}
use Rattle.region.specs.declared.Way.TheVariants.{Remove}
use Rattle.refine.specs.Agrees.{agrees-call}
use Rattle.refine.specs.Tracker.RecordSteps.{tracked, from}
use Rattle.refine.specs.Tracker.RecordFrees.{moves_out}
use Rattle.refine.specs.Tracker.WalkSteps.{ahead}
use Rattle.refine.specs.Tracker.LossSteps.{lowered_record, lowers, lose-done, lose-pass, lose-cut, lose-keep, lose-drop, lose-trim}
use Rattle.refine.specs.Tracker.Walking.{finish, finish-ahead, Fits, fits_moved, fits_on, fits_kept, removed-here}
use Rattle.refine.specs.Tracker.Walks.{Walks, walks_same, walks-over, walks-on, walks-then, walks-cut, walks-trim}
use Rattle.refine.specs.Tracker.LossTurns.{turn_last, turn-beyond, turn-pass, turn-cut, turn-trim, turn-keep, turn-drop}

module _ (s : State) (d : ℕ) (x : Domain) (a : AccessRights) (todo : a.start < a.end) where
  abbrev r : ℕ
  r = a.ops.0

  abbrev st : ℕ
  st = a.start

  abbrev e : ℕ
  e = a.end

  -- n turns on the rest l
  abbrev Loses : ℕ → ℕ → List Record → List Record → Pool → Type 0
  Loses n z b l p = Walks s d x a Remove n st z b l p (remove_region r st e l p)

  -- ---- one turn

  lose-nil : (n z : ℕ) (b : List Record) (p : Pool) → Loses (suc n) z b [] p
  lose-nil n z b p = walks_same (lose-done r st e e [] p todo (le_refl e) tt) (walks-over (turn_last s d x a st z b p))

  module _ (n z : ℕ) (b : List Record) (q : Record) (l : List Record) (p : Pool) (h : Fits s d x (b ++ q ∷ l) p) where
    lose-over : Rising e (q ∷ l) → Loses (suc n) z b (q ∷ l) p
    lose-over o = walks_same (lose-done r st e e (q ∷ l) p todo (le_refl e) o) (walks-over (turn-beyond s d x a st z b p q l h o.0))

    module _ (near : q.start < e) where
      pass-turn : q.end ≤ st → Loses n (union z 0) (b ++ q ∷ []) l p → Loses (suc n) z b (q ∷ l) p
      pass-turn m k = walks_same (lose-pass r st e p todo q l m) (walks-on q 0 (turn-pass s d x a st z b p q l h near m) k)

      cut-turn : q.start < st → st < q.end
          → ((i : ℕ) (p₁ : Pool) → Fits s d x ((b ++ with_end st q ∷ []) ++ from st i q ∷ l) p₁ → Loses n z (b ++ with_end st q ∷ []) (from st i q ∷ l) p₁) → Loses (suc n) z b (q ∷ l) p
      cut-turn m o k =
          walks_same (lose-cut r st e p todo q l m o)
          (walks-cut s d x a Remove st n st z b q l p h (λ i p₁. remove_region r st e (from st i q ∷ l) p₁) (turn-cut s d x a st z b p q l h near m o) k)

      module _ (first : st ≤ q.start) (some-of-it : q.start < q.end) where
        trim-turn : e < q.end → Rising q.end l
            → ((i : ℕ) (p₁ : Pool) → Fits s d x (b ++ with_end e q ∷ from e i q ∷ l) p₁ → Loses n z b (with_end e q ∷ from e i q ∷ l) p₁) → Loses (suc n) z b (q ∷ l) p
        trim-turn m o k =
            walks_same (lose-trim r st e p todo q l first some-of-it near m o)
            (walks-trim s d x a Remove e n st z b q l p h (λ i p₁. remove_region r st e (with_end e q ∷ from e i q ∷ l) p₁) (turn-trim s d x a st z b p q l h near first some-of-it m) k)

        -- q is lowered, and dropped or kept
        module _ (m : q.end ≤ e) (k : (b' : List Record) (p' : Pool) → Fits s d x (b' ++ l) p' → Loses n (union z (lowers r q)) b' l p') where
          drop-turn : eqb (lower r q.counts).reach 0 ≡ true → Loses (suc n) z b (q ∷ l) p
          drop-turn v =
              let out : (j : ℕ) → uses j (b ++ q ∷ l) ≡ uses j (b ++ l) + uses j (q ∷ []) = λ j. omega (arith, uses-append j b (q ∷ l), uses-append j b l) in
              walks_same (lose-drop r st e p todo q l first some-of-it m v)
              (walks-then _ _ (free q.slot p) (λ p₁. (0, tracked s d x (b ++ l) p₁)) (λ p₁. ahead [] (lowers r q) (remove_region r st e l p₁))
              (turn-drop s d x a st z b p q l h near first some-of-it m v) (removed-here s d x b l q p h) (λ p₁ f.
              agrees-call _ _ _ (finish-ahead s d x z (lowers r q) b [] (remove_region r st e l p₁)
              ∙ ap (λ (c : List Record). remove_region r st e l p₁ >>= finish s d x (union z (lowers r q)) c) (append-nil b))
              (k b p₁ (fits_moved s d x (b ++ q ∷ l) (b ++ l) p p₁ h (moves_out p p₁ q (b ++ q ∷ l) (b ++ l) f out))).agrees))

          keep-turn : eqb (lower r q.counts).reach 0 ≡ false → Loses (suc n) z b (q ∷ l) p
          keep-turn v =
              let c = lowered_record r q in
              let same : (j : ℕ) → uses j (b ++ q ∷ l) ≡ uses j ((b ++ c ∷ []) ++ l) = λ j. omega (arith, uses-append j b (q ∷ l), uses-append j b (c ∷ []), uses-append j (b ++ c ∷ []) l) in
              walks_same (lose-keep r st e p todo q l first some-of-it m v)
              (walks-on c (lowers r q) (turn-keep s d x a st z b p q l h near first some-of-it m v) (k (b ++ c ∷ []) p (fits_kept s d x (b ++ q ∷ l) ((b ++ c ∷ []) ++ l) p h same)))

          lower-turn : Loses (suc n) z b (q ∷ l) p
          lower-turn = elim (test (eqb (lower r q.counts).reach 0)) [ holds v ↦ drop-turn v | fails v ↦ keep-turn v ]

  -- ---- the walk

  unfoldable LoseOk : List Record → Type 0
  LoseOk l = (n z : ℕ) (b : List Record) (p : Pool) → Fits s d x (b ++ l) p → Rising 0 l → 3 * length l + 1 ≤ n → Loses n z b l p

  lose-end : LoseOk []
  unfolding LoseOk
  lose-end zero z b p h o k = absurd (omega arith)
  lose-end (suc n) z b p h o k = lose-nil n z b p

  module _ (l : List Record) (after : LoseOk l) where
    -- the range starts with record q or before it
    module _ (q : Record) (near : q.start < e) (first : st ≤ q.start) (some-of-it : q.start < q.end) (o : Rising q.end l) where
      lose-from : (n z : ℕ) (b : List Record) (p : Pool) → Fits s d x (b ++ q ∷ l) p → 3 * length l ≤ n → Loses (suc (suc (suc n))) z b (q ∷ l) p
      unfolding LoseOk
      lose-from n z b p h k = elim (cmp e q.end) [
        | lt t ↦
            trim-turn (suc (suc n)) z b q l p h near first some-of-it t o (λ i p₁ g.
            lower-turn (suc n) z b (with_end e q) (from e i q ∷ l) p₁ g near first near (le_refl e) (λ b' p' f.
            lose-over n _ b' (from e i q) l p' f (le_refl e, t, o)))
        | ge t ↦
            lower-turn (suc (suc n)) z b q l p h near first some-of-it t (λ b' p' f.
            after (suc (suc n)) _ b' p' f (weaken-rising 0 q.end l (omega arith) o) (omega arith))
      ]

  lose-cons : (q : Record) (l : List Record) → LoseOk l → LoseOk (q ∷ l)
  unfolding LoseOk
  lose-cons q l after zero z b p h o k = absurd (omega arith)
  lose-cons q l after (suc zero) z b p h o k = absurd (omega arith)
  lose-cons q l after (suc (suc zero)) z b p h o k = absurd (omega arith)
  lose-cons q l after (suc (suc (suc zero))) z b p h o k = absurd (omega arith)
  lose-cons q l after (suc (suc (suc (suc n)))) z b p h o k = elim (cmp q.start e) [
    | ge t ↦ lose-over (suc (suc (suc n))) z b q l p h (t, o.1, o.2)
    | lt t ↦ elim (cmp st q.end) [
      | ge u ↦
          pass-turn (suc (suc (suc n))) z b q l p h t u
          (after (suc (suc (suc n))) (union z 0) (b ++ q ∷ []) p (fits_on s d x b l q p h) (weaken-rising 0 q.end l (omega arith) o.2) (omega arith))
      | lt u ↦ elim (cmp q.start st) [
        | lt v ↦
            cut-turn (suc (suc (suc n))) z b q l p h t v u (λ i p₁ g.
            lose-from l after (from st i q) todo (le_refl st) u o.2 n z (b ++ with_end st q ∷ []) p₁ g (omega arith))
        | ge v ↦ lose-from l after q t v o.1 o.2 (suc n) z b p h (omega arith)
      ]
    ]
  ]

  lose-ok : (l : List Record) → LoseOk l
  lose-ok [] = lose-end
  lose-ok (q ∷ l) = lose-cons q l (lose-ok l)

  -- from the head on, with n turns
  pub lose-walks : (n : ℕ) (l : List Record) (p : Pool) → Fits s d x l p → Rising 0 l → 3 * length l + 1 ≤ n
      → Walks s d x a Remove n a.start 0 [] l p (remove_region a.ops.0 a.start a.end l p)
  unfolding LoseOk
  lose-walks n l p h o k = lose-ok l n 0 [] p h o k
