-- Two outcomes side by side: both accepted, with related answers, or both refused alike. One rule for each form that the definitions use.
use Rattle.std.specs.Prelude.{◌≡◌, Bool, true, false, if◌then◌else◌}
use Rattle.std.proofs.Common.{sym, subst}
use Rattle.model.specs.Outcome.{Outcome, ok, refuse, ◌>>=◌, ◌>>◌}
use Rattle.refusals.specs.declared.Refusal.{Refusal}

pub data Both {A : Type 0} (R : A → A → Type 0) : Outcome A → Outcome A → Type 0 where
  accepted : {a b : A} → R a b → Both R (ok a) (ok b)
  refused : {r : Refusal} → Both R (refuse r) (refuse r)

-- the second answer is e of the first; nothing is known of the two
abbrev pub By : {A : Type 0} → (A → A) → A → A → Type 0
By e a b = b ≡ e a

abbrev pub Any : {A : Type 0} → A → A → Type 0
Any a b = Unit {0}

-- ---- one after the other

pub bind : {A B : Type 0} {R : A → A → Type 0} {Q : B → B → Type 0} {m n : Outcome A} {f g : A → Outcome B} → Both R m n → ((a b : A) → R a b → Both Q (f a) (g b)) → Both Q (m >>= f) (n >>= g)
unfolding ◌>>=◌
bind (accepted h) k = k _ _ h
bind refused k = refused

pub bind-by : {A B : Type 0} {e : A → A} {Q : B → B → Type 0} {m n : Outcome A} {f : A → Outcome B} (g : A → Outcome B) → Both (By e) m n → ((a : A) → Both Q (f a) (g (e a))) → Both Q (m >>= f) (n >>= g)
bind-by {Q = Q} {f = f} g h k = bind h (λ a b p. subst (λ c. Both Q (f a) (g c)) (sym p) (k a))

-- where the first outcome is the same
pub bind-same : {A B : Type 0} {Q : B → B → Type 0} {m n : Outcome A} {f g : A → Outcome B} → n ≡ m → ((a : A) → Both Q (f a) (g a)) → Both Q (m >>= f) (n >>= g)
unfolding ◌>>=◌
bind-same {A = A} {Q = Q} {m = m} {f = f} {g = g} e k = subst (λ n. Both Q (m >>= f) (n >>= g)) (sym e) (go m)
  where
    go : (m : Outcome A) → Both Q (m >>= f) (m >>= g)
    go (ok a) = k a
    go (refuse r) = refused

pub and_same : {A B : Type 0} {Q : B → B → Type 0} {m n : Outcome A} {x y : Outcome B} → n ≡ m → Both Q x y → Both Q (m >> x) (n >> y)
unfolding ◌>>◌
and_same {A = A} {Q = Q} {m = m} {x = x} {y = y} e h = subst (λ n. Both Q (m >> x) (n >> y)) (sym e) (go m)
  where
    go : (m : Outcome A) → Both Q (m >> x) (m >> y)
    go (ok a) = h
    go (refuse r) = refused

pub branch : {A : Type 0} {Q : A → A → Type 0} (b : Bool) {m n x y : Outcome A} → Both Q m x → Both Q n y → Both Q (if b then m else n) (if b then x else y)
branch true h k = h
branch false h k = k

-- ---- refused alike

pub turned : {A : Type 0} {m n : Outcome A} → Both Any m n → Both Any n m
turned (accepted h) = accepted tt
turned refused = refused

pub both-then : {A : Type 0} {m n o : Outcome A} → Both Any m n → Both Any n o → Both Any m o
both-then (accepted h) (accepted k) = accepted tt
both-then refused refused = refused
