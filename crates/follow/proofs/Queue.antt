-- The marks of the updates in the queue: a push adds an update and leaves the others; what is gathered only adds marks.
use Rattle.std.specs.Prelude.{ℕ, Bool, true, false, ◌&&◌, ◌||◌, List, [], ◌∷◌, ◌++◌, map, T, eqb, if◌then◌else◌}
use Rattle.std.proofs.Math.Dec.{eqb_refl}
use Rattle.std.specs.Float.Ieee.Fits.{and_l, and_r, and_i}
use Rattle.base.specs.Tests.{or_l, or_r}
use Rattle.rights.specs.Rights.{union}
use Rattle.model.specs.Lists.{exists}
use Rattle.model.specs.State.{Handle, Update, permission, cleanup}
use Rattle.model.specs.Fields.{Field, is_marked}
use Rattle.model.specs.Pool.{same_handle}
use Rattle.model.specs.Updates.{is_permission_of, gather}
use Rattle.laws.specs.Tracker.Marks.{marked-union}
use Rattle.follow.specs.Writer.{is_permission_with}

-- ---- one of a list passes a test

or_map : (a b c d : Bool) → (T a → T c) → (T b → T d) → T (a || b) → T (c || d)
or_map true b c d f g t = or_l c d (f tt)
or_map false b c d f g t = or_r c d (g t)

-- another test, which each that passes the first passes too
pub any_of : {A : Type 0} (p q : A → Bool) (l : List A) → ((x : A) → T (p x) → T (q x)) → T (exists p l) → T (exists q l)
any_of p q [] f t = t
any_of p q (x ∷ l) f t = or_map (p x) (exists p l) (q x) (exists q l) (f x) (any_of p q l f) t

-- of a list in which each is replaced
any-map : {A : Type 0} (p q : A → Bool) (g : A → A) (l : List A) → ((x : A) → T (p x) → T (q (g x))) → T (exists p l) → T (exists q (map g l))
any-map p q g [] f t = t
any-map p q g (x ∷ l) f t = or_map (p x) (exists p l) (q (g x)) (exists q (map g l)) (f x) (any-map p q g l f) t

-- ---- an update is pushed

-- those that were queued are
pub any-more : {A : Type 0} (p : A → Bool) (l : List A) (u : A) → T (exists p l) → T (exists p (l ++ (u ∷ [])))
any-more p [] u t = absurd t
any-more p (x ∷ l) u t = or_map (p x) (exists p l) (p x) (exists p (l ++ (u ∷ []))) (λ s. s) (any-more p l u) t

any_last : {A : Type 0} (p : A → Bool) (l : List A) (u : A) → T (p u) → T (exists p (l ++ (u ∷ [])))
any_last p [] u t = or_l (p u) false t
any_last p (x ∷ l) u t = or_r (p x) (exists p (l ++ (u ∷ []))) (any_last p l u t)

same_self : (h : Handle) → T (same_handle h h)
same_self h = and_i (eqb h.slot h.slot) (eqb h.generation h.generation) (eqb_refl h.slot) (eqb_refl h.generation)

module _ (f : Field) (h : Handle) (m : ℕ) where
  -- the new one has its own marks
  pub pushed-with : (cores : ℕ) (us : List Update) → T (is_marked f m) → T (exists (is_permission_with f h) (us ++ (permission h cores m ∷ [])))
  pushed-with cores us t = any_last (is_permission_with f h) us (permission h cores m) (and_i (same_handle h h) (is_marked f m) (same_self h) t)

  -- ---- marks are gathered

  -- an update keeps the marks that it had
  gather-keeps : (k : Handle) (u : Update) → T (is_permission_with f k u) → T (is_permission_with f k (gather h m u))
  gather-keeps k (permission j cores n) t = and_i (same_handle k j) _ (and_l (same_handle k j) (is_marked f n) t) (kept (same_handle h j) (and_r (same_handle k j) (is_marked f n) t))
    where
      kept : (b : Bool) → T (is_marked f n) → T (is_marked f (if b then union n m else n))
      kept true s = rw (marked-union f n m) (or_l (is_marked f n) (is_marked f m) s)
      kept false s = s
  gather-keeps k (cleanup a b) t = t

  -- the domain's own gets those of the change
  gather-adds : T (is_marked f m) → (u : Update) → T (is_permission_of h u) → T (is_permission_with f h (gather h m u))
  gather-adds t (permission j cores n) s = adds (same_handle h j) s
    where
      adds : (b : Bool) → T b → T (b && is_marked f (if b then union n m else n))
      adds true s = rw (marked-union f n m) (or_r (is_marked f n) (is_marked f m) t)
      adds false s = absurd s
  gather-adds t (cleanup a b) s = s

  pub gathered-keeps : (k : Handle) (us : List Update) → T (exists (is_permission_with f k) us) → T (exists (is_permission_with f k) (map (gather h m) us))
  gathered-keeps k us = any-map (is_permission_with f k) (is_permission_with f k) (gather h m) us (gather-keeps k)

  pub gathered-with : (us : List Update) → T (is_marked f m) → T (exists (is_permission_of h) us) → T (exists (is_permission_with f h) (map (gather h m) us))
  gathered-with us t = any-map (is_permission_of h) (is_permission_with f h) (gather h m) us (gather-adds t)
