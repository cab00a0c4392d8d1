-- What the checks of a call say where it is accepted.
use Rattle.std.specs.Prelude.{◌≡◌, refl, ℕ, ◌+◌, ◌<◌, Bool, true, false, List, [], ◌∷◌, eqb, ltb, get_or}
use Rattle.std.proofs.Common.{ap, ◌∙◌, arith, le-ltb, lt-ltb, eq-eqb}
use Rattle.base.specs.Cases.{lt, ge, cmp}
use Rattle.base.specs.Tests.{is_true}
use Rattle.model.specs.Lists.{is_some, at_slot, count_if, one_if}
use Rattle.model.specs.Outcome.{Outcome, ok, refuse, ◌>>=◌, ◌>>◌, require}
use Rattle.refusals.specs.declared.Refusal.{Refusal}
use Rattle.model.specs.State.{State, Pool, Handle}
use Rattle.model.specs.Pool.{is_live, allocate}
use Rattle.model.specs.Calls.{live_domain, caller_with, live_region}
use Rattle.model.specs.Sound.{OnceEach}
use Rattle.laws.specs.Accepted.{All, accepted, refused, bind, checked}
use Rattle.laws.specs.Caller.{caller}
use Rattle.book.specs.Tests.{and_left}

pub on-check : {B : Type 0} {Q : B → Type 0} (b : Bool) (r : Refusal) (i : ℕ) (f : ℕ → Outcome B) → (b ≡ true → All Q (f i)) → All Q ((require b r >> ok i) >>= f)
unfolding require ◌>>◌ ◌>>=◌
on-check true r i f h = h refl
on-check false r i f h = refused

-- with the outcome itself
pub with-ok : {A : Type 0} {P : A → Type 0} (m : Outcome A) → All P m → All (λ t. P t × m ≡ ok t) m
with-ok (ok a) (accepted p) = accepted (p, refl)
with-ok (refuse r) refused = refused

pub on-domain : {B : Type 0} {Q : B → Type 0} (s : State) (h : Handle) (f : ℕ → Outcome B) → (is_live s.domain_pool s.domains h ≡ true → All Q (f h.slot)) → All Q (live_domain s h >>= f)
unfolding live_domain
on-domain s h f k = on-check _ _ h.slot f k

-- the caller of alias, carve and send, which needs a bit besides
pub on-caller : {B : Type 0} {Q : B → Type 0} (bit : ℕ) (s : State) (h : Handle) (f : ℕ → Outcome B) → (is_live s.domain_pool s.domains h ≡ true → All Q (f h.slot)) → All Q (caller_with bit s h >>= f)
unfolding live_domain
on-caller {Q = Q} bit s h f k = bind (caller {P = λ d. All Q (f d)} bit s h (checked _ _ (λ t. accepted (k (is_true t))))) (λ d q. q)

pub on-allocate : {B : Type 0} {Q : B → Type 0} (r : Refusal) (gs fs : List ℕ) (f : ℕ × Pool → Outcome B) → ((i : ℕ) (is : List ℕ) → fs ≡ i ∷ is → All Q (f (i, record { gens = gs; free = is }))) → All Q (allocate r (record { gens = gs; free = fs }) >>= f)
unfolding allocate ◌>>=◌
on-allocate r gs [] f k = refused
on-allocate r gs (i ∷ is) f k = k i is refl

-- a free slot lies in the table, and is not used
pub free-below : (n : ℕ) (u : ℕ → ℕ) (i : ℕ) (is : List ℕ) → OnceEach n u (i ∷ is) → (i < n) × u i ≡ 0
free-below n u i is o =
    let e : u i + (1 + count_if (eqb i) is) ≡ one_if (ltb i n) = rw (eq-eqb i i refl) at (o i) in
    elim (cmp i n) [
      | lt h ↦ let e' : u i + (1 + count_if (eqb i) is) ≡ 1 = e ∙ ap one_if (lt-ltb i n h) in (h, omega arith)
      | ge h ↦ let e' : u i + (1 + count_if (eqb i) is) ≡ 0 = e ∙ ap one_if (le-ltb i n h) in absurd (omega arith)
    ]

pub once-free : (n : ℕ) (u : ℕ → ℕ) (fs : List ℕ) (i : ℕ) (is : List ℕ) → fs ≡ i ∷ is → OnceEach n u fs → (i < n) × u i ≡ 0
once-free n u fs i is e o = free-below n u i is (rw e at o)

pub live-opens : (s : State) (h : Handle) → is_live s.domain_pool s.domains h ≡ true → is_some (at_slot s.domains h.slot) ≡ true
live-opens s h = and_left _ (eqb (get_or s.domain_pool.gens h.slot 0) h.generation)

pub on-region : {B : Type 0} {Q : B → Type 0} (s : State) (h : Handle) (f : ℕ → Outcome B) → (is_live s.region_pool s.regions h ≡ true → All Q (f h.slot)) → All Q (live_region s h >>= f)
unfolding live_region
on-region s h f k = on-check _ _ h.slot f k
