-- What a step of the code comes to against what the model says. A step agrees with an accepted call where it answers the call's number and leaves the
-- words of the call's state; it agrees with a refused call where it answers the same refusal. Of the tables after a refusal nothing is said.
-- Steps compose as calls do: `and_then` against `◌>>=◌`.
use Rattle.std.specs.Prelude.{◌≡◌, refl, ℕ, Ok, Err}
use Rattle.std.proofs.Common.{sym, ap, subst, ◌∙◌}
use Rattle.model.specs.Outcome.{Outcome, ok, refuse, ◌>>=◌, ◌>>◌}
use Rattle.model.specs.State.{State}
use Rattle.tables.specs.Tables.{Tables}
use Rattle.refusals.specs.declared.Refusal.{Refusal}
use Rattle.answers.specs.Answers.{Effect, done, refused, and_then, then-done, then-refused}
use Rattle.decoded.specs.Tables.{tables_of}

-- ---- a step and a call

abbrev pub Agrees : Effect → Outcome (ℕ × State) → Type 0
Agrees x (ok y) = (x.answer ≡ Ok y.0) × (x.tables ≡ tables_of y.1)
Agrees x (refuse r) = x.answer ≡ Err r

pub agrees-done : (v : ℕ) (t : Tables) (s : State) → t ≡ tables_of s → Agrees (done v t) (ok (v, s))
agrees-done v t s e = (refl, e)

pub agrees-refused : (r : Refusal) (t : Tables) → Agrees (refused r t) (refuse r)
agrees-refused r t = refl

-- another step, or another call, that is the same
pub agrees-step : (x y : Effect) (m : Outcome (ℕ × State)) → x ≡ y → Agrees y m → Agrees x m
agrees-step x y m e h = subst (λ (z : Effect). Agrees z m) (sym e) h

pub agrees-call : (x : Effect) (m n : Outcome (ℕ × State)) → m ≡ n → Agrees x n → Agrees x m
agrees-call x m n e h = subst (Agrees x) (sym e) h

-- ---- one after another

go_on_lem : (x : Effect) (f : ℕ → Tables → Effect) (v : ℕ) (s : State) (m : Outcome (ℕ × State)) → Agrees x (ok (v, s)) → Agrees (f v (tables_of s)) m → Agrees (and_then x f) m
go_on_lem x f v s m h k = agrees-step (and_then x f) (f v (tables_of s)) m (then-done x f v h.0 ∙ ap (f v) h.1) k

stop : (x : Effect) (f : ℕ → Tables → Effect) (r : Refusal) → x.answer ≡ Err r → (and_then x f).answer ≡ Err r
stop x f r h = ap (λ (z : Effect). z.answer) (then-refused x f r h)

-- the first call gives some y, from which its number and its state are known
pub agrees_from : {A : Type 0} (x : Effect) (f : ℕ → Tables → Effect) (m : Outcome A) (g : A → ℕ × State) (k : A → Outcome (ℕ × State))
    → Agrees x (m >>= λ y. ok (g y)) → ((y : A) → m ≡ ok y → Agrees (f (g y).0 (tables_of (g y).1)) (k y)) → Agrees (and_then x f) (m >>= k)
unfolding ◌>>=◌
agrees_from x f (ok y) g k h j = go_on_lem x f (g y).0 (g y).1 (k y) h (j y refl)
agrees_from x f (refuse r) g k h j = stop x f r h

pub agrees-then : (x : Effect) (f : ℕ → Tables → Effect) (m : Outcome (ℕ × State)) (k : ℕ × State → Outcome (ℕ × State))
    → Agrees x m → ((v : ℕ) (s : State) → m ≡ ok (v, s) → Agrees (f v (tables_of s)) (k (v, s))) → Agrees (and_then x f) (m >>= k)
unfolding ◌>>=◌
agrees-then x f (ok y) k h j = go_on_lem x f y.0 y.1 (k y) h (j y.0 y.1 refl)
agrees-then x f (refuse r) k h j = stop x f r h

-- the first call has no number: the step answers 0
pub agrees-state : (x : Effect) (f : Tables → Effect) (m : Outcome State) (k : State → Outcome (ℕ × State))
    → Agrees x (m >>= λ s. ok (0, s)) → ((s : State) → m ≡ ok s → Agrees (f (tables_of s)) (k s)) → Agrees (and_then x (λ v. f)) (m >>= k)
agrees-state x f m k h j = agrees_from x (λ v. f) m (λ s. (0, s)) k h j

-- ---- laws of calls

pub ok-then : {A B : Type 0} (y : A) (f : A → Outcome B) → ok y >>= f ≡ f y
unfolding ◌>>=◌
ok-then y f = refl

pub bind_assoc : {A B C : Type 0} (m : Outcome A) (f : A → Outcome B) (g : B → Outcome C) → (m >>= f) >>= g ≡ m >>= (λ y. f y >>= g)
unfolding ◌>>=◌
bind_assoc (ok y) f g = refl
bind_assoc (refuse r) f g = refl

pub bind-same : {A B : Type 0} (m : Outcome A) (f g : A → Outcome B) → ((y : A) → f y ≡ g y) → m >>= f ≡ m >>= g
unfolding ◌>>=◌
bind-same (ok y) f g e = e y
bind-same (refuse r) f g e = refl

pub bind_ok : {A : Type 0} (m : Outcome A) → m >>= ok ≡ m
unfolding ◌>>=◌
bind_ok (ok y) = refl
bind_ok (refuse r) = refl

pub then-bind : {A B C : Type 0} (c : Outcome A) (m : Outcome B) (k : B → Outcome C) → (c >> m) >>= k ≡ c >> (m >>= k)
unfolding ◌>>=◌ ◌>>◌
then-bind (ok y) m k = refl
then-bind (refuse r) m k = refl
