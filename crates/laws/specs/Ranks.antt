-- A table whose elements may name a parent, as regions do and domains their managers. Where the parents lead from each element to one that has none,
-- each has a rank: how many stand above it. An element and those above it have different ranks, so a rank lies below the number of elements.
use Rattle.std.specs.Prelude.{◌≡◌, List, T, eqb, length, if◌then◌else◌}
use Rattle.std.proofs.Math.Path.{refl, ap}
use Rattle.std.proofs.Common.{sym, ◌∙◌, arith, eq-eqb}
use Prim.Native.Nat.{ℕ, zero, suc, ◌+◌, ◌-◌, ◌<◌}
use Rattle.std.proofs.Math.Option.{Option, none, some}
use Rattle.base.specs.Options.{none-some, some_same}
use Rattle.model.specs.Lists.{one_if, is_some, count_if, at_slot, In}
use Rattle.laws.specs.Tree.Sum.{sum, sum-le, sum-get, sum-swap, sum-pick-le, sum_ones}
use Rattle.laws.specs.Tree.Slots.{in-length, count-sum, live-is}

-- from slot i the parents lead to an element without one
pub data Ends {A : Type 0} (up : A → Option ℕ) (l : List (Option A)) : ℕ → Type 0 where
  top : (i : ℕ) (x : A) → In l i x → up x ≡ none → Ends up l i
  under : (i p : ℕ) (x : A) → In l i x → up x ≡ some p → Ends up l p → Ends up l i

pub record RankedBy {A : Type 0} (up : A → Option ℕ) (l : List (Option A)) (r : ℕ → ℕ) : Type 0 where
  pub root : (k : ℕ) (x : A) → In l k x → up x ≡ none → r k ≡ 0
  pub child : (k p : ℕ) (x : A) → In l k x → up x ≡ some p → r k ≡ suc (r p)

-- a parent is there
abbrev pub ParentsLive : {A : Type 0} → (A → Option ℕ) → List (Option A) → Type 0
ParentsLive {A} up l = (i : ℕ) (x : A) → In l i x → (p : ℕ) → up x ≡ some p → T (is_some (at_slot l p))

-- ---- such a table has ranks

height : {A : Type 0} (up : A → Option ℕ) (l : List (Option A)) (i : ℕ) → Ends up l i → ℕ
height up l i (Ends.top _ x e q) = 0
height up l i (Ends.under _ p x e q r) = suc (height up l p r)

height-same : {A : Type 0} (up : A → Option ℕ) (l : List (Option A)) (i j : ℕ) (a : Ends up l i) (b : Ends up l j) → i ≡ j → height up l i a ≡ height up l j b
unfolding height
height-same up l i j (Ends.top _ g e q) (Ends.top _ h m n) o = refl
height-same up l i j (Ends.top _ g e q) (Ends.under _ p h m n r) o = absurd (none-some (up g) p q (rw (some_same (at_slot l j) g h (rw o at e) m) n))
height-same up l i j (Ends.under _ p g e q r) (Ends.top _ h m n) o = absurd (none-some (up h) p n (rw (some_same (at_slot l j) h g m (rw o at e)) q))
height-same up l i j (Ends.under _ p g e q r) (Ends.under _ p' h m n r') o =
    let z = some_same (at_slot l j) g h (rw o at e) m in
    ap suc (height-same up l p p' r r' (some_same (up h) p p' (rw z at q) n))

module _ {A : Type 0} (up : A → Option ℕ) (l : List (Option A)) (s : (i : ℕ) (x : A) → In l i x → Ends up l i) where
  rank-of : (k : ℕ) (x : Option A) → at_slot l k ≡ x → ℕ
  rank-of k none e = 0
  rank-of k (some g) e = height up l k (s k g e)

  pub rank_by : ℕ → ℕ
  rank_by k = rank-of k (at_slot l k) refl

  rank-go : (k : ℕ) (g : A) (x : Option A) (e : at_slot l k ≡ x) → x ≡ some g → (a : Ends up l k) → rank-of k x e ≡ height up l k a
  unfolding rank-of
  rank-go k g none e q a = absurd (none-some none g refl q)
  rank-go k g (some h) e q a = height-same up l k k (s k h e) a refl

  rank_is : (k : ℕ) (g : A) → In l k g → (a : Ends up l k) → rank_by k ≡ height up l k a
  unfolding rank_by
  rank_is k g e a = rank-go k g (at_slot l k) refl e a

  pub ranked-by : ParentsLive up l → RankedBy up l rank_by
  unfolding height
  ranked-by live = record {
    root = λ k x e q. rank_is k x e (Ends.top k x e q);
    child = λ k p x e q.
        let (y, f) = live-is (at_slot l p) (live k x e p q) in
        let a = s p y f in
        rank_is k x e (Ends.under k p x e q a) ∙ ap suc (sym (rank_is p y f a));
  }

-- ---- a rank lies below the number of elements

-- an element of rank m
record Level {A : Type 0} (l : List (Option A)) (r : ℕ → ℕ) (m : ℕ) : Type 0 where
  at : ℕ
  element : A
  is : In l at element
  level : r at ≡ m

module _ {A : Type 0} (up : A → Option ℕ) (l : List (Option A)) (live : ParentsLive up l) (r : ℕ → ℕ) (q : RankedBy up l r) where
  -- there is one of each rank up to an element's
  climb : (n m k : ℕ) (x : A) → In l k x → r k ≡ m + n → Level l r m
  climb zero m k x e h = record { at = k; element = x; is = e; level = omega arith }
  climb (suc n) m k x e h = go (up x) refl (λ p y i. climb n m p y i)
    where
      go : (o : Option ℕ) → up x ≡ o → ((p : ℕ) (y : A) → In l p y → r p ≡ m + n → Level l r m) → Level l r m
      go none u on = absurd (omega (arith, q.root k x e u))
      go (some p) u on = let (y, f) = live-is (at_slot l p) (live k x e p u) in on p y f (omega (arith, q.child k p x e u))

  abbrev alive : ℕ → ℕ
  alive k = one_if (is_some (at_slot l k))

  level-found : (m : ℕ) → Level l r m → 0 < sum (λ k. if eqb (r k) m then alive k else 0) (length l)
  level-found m v =
      let one : (if eqb (r v.at) m then alive v.at else 0) ≡ 1 = rw (eq-eqb (r v.at) m v.level, v.is) in
      omega (arith, one, sum-get (λ k. if eqb (r k) m then alive k else 0) (length l) v.at (in-length l v.at v.element v.is))

  pub rank_below : (k : ℕ) (x : A) → In l k x → r k < count_if is_some l
  rank_below k x e = omega (
    arith,
    count-sum is_some l,
    sum_ones (λ m. sum (λ j. if eqb (r j) m then alive j else 0) (length l)) (suc (r k)) (λ m h. level-found m (climb (r k - m) m k x e (omega arith))),
    sum-swap (λ m j. if eqb (r j) m then alive j else 0) (suc (r k)) (length l),
    sum-le (λ j. sum (λ m. if eqb (r j) m then alive j else 0) (suc (r k))) alive (length l) (λ j. sum-pick-le (suc (r k)) (r j) (alive j)),
  )
