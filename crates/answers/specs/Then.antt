-- Code that takes one step after another: what the whole answers and leaves, from what each step did.
use Rattle.std.specs.Prelude.{◌≡◌, refl, List, ℕ, Option, Some, None, Ok, Err, IsErrAnd, ok_or}
use Rattle.std.proofs.Common.{sym, ap, ◌∙◌}
use Rattle.tables.specs.Tables.{Tables}
use Rattle.tables.specs.View.{view, Sized, Left}
use Rattle.refusals.specs.declared.Refusal.{Refusal}
use Rattle.answers.specs.Answers.{Answer, Effect, and_then, then-done, then-refused}
use Rattle.std.proofs.lemmas.Result.{err_from_is_err_and}

-- the words u and the answer a are what step x gives
abbrev pub Realizes : List ℕ → Answer → Effect → Type 0
Realizes u a x = (a ≡ x.answer) × Left u x.tables

-- nothing is changed
pub stays : (u : List ℕ) → Sized u → Left u (view u)
stays u s = record { seen = refl; sized = s }

-- a step that only reads
pub read : (u : List ℕ) (a : Answer) (x : Effect) → Sized u → a ≡ x.answer → x.tables ≡ view u → Realizes u a x
read u a x s e k = (e, record { seen = sym k; sized = s })

-- a step by another name
pub same_step : (x y : Effect) (u : List ℕ) (a : Answer) → x ≡ y → Realizes u a x → Realizes u a y
same_step x y u a e r = rw e at r

-- what `?` passes on
pub passed : (b : Answer) (r : Refusal) → IsErrAnd b (λ y. y ≡ r) → b ≡ Err r
passed b r p = let q = err_from_is_err_and b p in rw (q.1, q.2)

-- what `ok_or` answers tells which option it was
pub or-some : {A : Type 0} (o : Option A) (r : Refusal) (x : A) → ok_or o r ≡ Ok x → o ≡ Some x
or-some (Some y) r x e = cc
or-some None r x e = cc

no-ok : {A : Type 0} (y : A) (q : Refusal) → Ok y ≡ Err q → ⊥
no-ok y q e = cc

pub or-none : {A : Type 0} (o : Option A) (r q : Refusal) → ok_or o r ≡ Err q → (o ≡ None) × (q ≡ r)
or-none (Some y) r q e = absurd (no-ok y q e)
or-none None r q e = (refl, cc)

module _ (x : Effect) (f : ℕ → Tables → Effect) (u : List ℕ) (a : Answer) (h : Realizes u a x) where
  pub step-done : (v : ℕ) → a ≡ Ok v → and_then x f ≡ f v (view u)
  step-done v e = then-done x f v (sym h.0 ∙ e) ∙ ap (f v) (sym h.1.seen)

  -- the step was done, and the rest ran on what it left
  pub on-done : (v : ℕ) (w : List ℕ) (b : Answer) → a ≡ Ok v → Realizes w b (f v (view u)) → Realizes w b (and_then x f)
  on-done v w b e r = rw (step-done v e) r

  -- it was refused, and so is the whole
  pub on-refused : (r : Refusal) → a ≡ Err r → Realizes u (Err r) (and_then x f)
  on-refused r e = rw (then-refused x f r (sym h.0 ∙ e)) (refl, h.1)

  -- the same, where `?` passes the refusal on
  pub on-err : (r : Refusal) → a ≡ Err r → (b : Answer) → IsErrAnd b (λ y. y ≡ r) → Realizes u b (and_then x f)
  on-err r e b p = rw (passed b r p) (on-refused r e)
