-- What holds of an outcome, whether it is accepted or refused: P of the answer, or R of the refusal. One rule for each form that the definitions use.
use Rattle.std.specs.Prelude.{◌≡◌, ℕ, Bool, true, false, T, if◌then◌else◌}
use Rattle.std.proofs.Common.{arith}
use Rattle.model.specs.Outcome.{Outcome, ok, refuse, ◌>>=◌, ◌>>◌, require}
use Rattle.refusals.specs.declared.Refusal.{Refusal}
use Rattle.laws.specs.Accepted.{All, accepted, refused}

pub data Gives {A : Type 0} (P : A → Type 0) (R : Refusal → Type 0) : Outcome A → Type 0 where
  gives : {a : A} → P a → Gives P R (ok a)
  refuses : {r : Refusal} → R r → Gives P R (refuse r)

pub gives_then : {A B : Type 0} {P : A → Type 0} {R : Refusal → Type 0} {Q : B → Type 0} {m : Outcome A} {f : A → Outcome B} → Gives P R m → ((a : A) → P a → Gives Q R (f a)) → Gives Q R (m >>= f)
unfolding ◌>>=◌
gives_then (gives h) k = k _ h
gives_then (refuses h) k = refuses h

pub gives-weaken : {A : Type 0} {P Q : A → Type 0} {R : Refusal → Type 0} {m : Outcome A} → Gives P R m → ((a : A) → P a → Q a) → Gives Q R m
gives-weaken (gives h) k = gives (k _ h)
gives-weaken (refuses h) k = refuses h

pub gives-branch : {A : Type 0} {P : A → Type 0} {R : Refusal → Type 0} (b : Bool) {m n : Outcome A} → Gives P R m → Gives P R n → Gives P R (if b then m else n)
gives-branch true h k = h
gives-branch false h k = k

pub gives-checked : {A : Type 0} {P : A → Type 0} {R : Refusal → Type 0} (b : Bool) (r : Refusal) {n : Outcome A} → R r → (T b → Gives P R n) → Gives P R (require b r >> n)
unfolding require ◌>>◌
gives-checked true r x h = h tt
gives-checked false r x h = refuses x

-- two checks, one after the other
pub gives-checked-both : {A : Type 0} {P : A → Type 0} {R : Refusal → Type 0} (b c : Bool) (r x : Refusal) {n : Outcome A} → R r × R x → Gives P R n → Gives P R (require b r >> require c x >> n)
unfolding require ◌>>◌
gives-checked-both true c r x i h = gives-checked c x i.1 (λ t. h)
gives-checked-both false c r x i h = refuses i.0

-- what is said of the answer alone, and of the refusal alone
pub answer : {A : Type 0} {P : A → Type 0} {R : Refusal → Type 0} {m : Outcome A} → Gives P R m → All P m
answer (gives h) = accepted h
answer (refuses h) = refused

pub refusal : {A : Type 0} {P : A → Type 0} {R : Refusal → Type 0} {m : Outcome A} → Gives P R m → (x : Refusal) → m ≡ refuse x → R x
refusal (gives h) x e = let z : ◌≡◌ {A = ℕ} 0 1 = cc in absurd (omega arith)
refusal (refuses {r} h) x e = let z : r ≡ x = cc in rw z at h
