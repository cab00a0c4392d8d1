-- What holds of an outcome if it is accepted: one rule for each form that the definitions use. For the laws; no part of what a reader must believe.
use Rattle.std.specs.Prelude.{◌≡◌, Bool, true, false, not, ℕ, T, if◌then◌else◌}
use Rattle.std.proofs.Common.{subst, arith}
use Rattle.model.specs.Outcome.{Outcome, ok, refuse, ◌>>=◌, ◌>>◌, require}
use Rattle.refusals.specs.declared.Refusal.{Refusal}

pub data All {A : Type 0} (P : A → Type 0) : Outcome A → Type 0 where
  accepted : {a : A} → P a → All P (ok a)
  refused : {r : Refusal} → All P (refuse r)

pub bind : {A B : Type 0} {P : A → Type 0} {Q : B → Type 0} {m : Outcome A} {f : A → Outcome B} → All P m → ((a : A) → P a → All Q (f a)) → All Q (m >>= f)
unfolding ◌>>=◌
bind (accepted h) k = k _ h
bind refused k = refused

pub weaken : {A : Type 0} {P Q : A → Type 0} {m : Outcome A} → All P m → ((a : A) → P a → Q a) → All Q m
weaken (accepted h) k = accepted (k _ h)
weaken refused k = refused

-- nothing is known of the first outcome
pub bind-any : {A B : Type 0} {Q : B → Type 0} (m : Outcome A) {f : A → Outcome B} → ((a : A) → All Q (f a)) → All Q (m >>= f)
unfolding ◌>>=◌
bind-any (ok a) k = k a
bind-any (refuse r) k = refused

pub and_then : {A B : Type 0} {Q : B → Type 0} (m : Outcome A) {n : Outcome B} → All Q n → All Q (m >> n)
unfolding ◌>>◌
and_then (ok a) h = h
and_then (refuse r) h = refused

pub branch : {A : Type 0} {Q : A → Type 0} (b : Bool) {m n : Outcome A} → All Q m → All Q n → All Q (if b then m else n)
branch true h k = h
branch false h k = k

-- the same, with what the test says
pub branch-on : {A : Type 0} {Q : A → Type 0} (b : Bool) {m n : Outcome A} → (T b → All Q m) → (T (not b) → All Q n) → All Q (if b then m else n)
branch-on true h k = h tt
branch-on false h k = k tt

-- the test that a call has passed
pub checked : {B : Type 0} {Q : B → Type 0} (b : Bool) (r : Refusal) {n : Outcome B} → (T b → All Q n) → All Q (require b r >> n)
unfolding require ◌>>◌
checked true r h = h tt
checked false r h = refused

-- the same, with another check behind it that nothing is known of
pub checked-first : {A B : Type 0} {Q : B → Type 0} (b : Bool) (r : Refusal) (m : Outcome A) {n : Outcome B} → (T b → All Q n) → All Q (require b r >> m >> n)
unfolding require ◌>>◌
checked-first true r m h = and_then m (h tt)
checked-first false r m h = refused

pub both : {A : Type 0} {P Q : A → Type 0} {m : Outcome A} → All P m → All Q m → All (λ x. P x × Q x) m
both (accepted h) (accepted k) = accepted (h, k)
both refused refused = refused

-- what is known of an accepted call
pub all-ok : {A : Type 0} (P : A → Type 0) (m : Outcome A) (a : A) → All P m → m ≡ ok a → P a
all-ok P m a (accepted {a = b} h) e = let z : b ≡ a = cc in subst P z h
all-ok P m a refused e = absurd (let z : ◌≡◌ {A = ℕ} 0 1 = cc in omega arith)
