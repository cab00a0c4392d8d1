-- Small laws on tests and on values that may be missing.
use Rattle.std.specs.Prelude.{◌≡◌, refl, ℕ, zero, suc, ◌<◌, Bool, true, false, ◌&&◌, ◌||◌, List, [], ◌∷◌, length, set}
use Rattle.std.proofs.Common.{sym, arith}
use Rattle.std.proofs.Math.Option.{Option, none, some, get_or}
use Rattle.base.specs.Tests.{true-is}
use Rattle.model.specs.Lists.{is_some, at_slot}
use Rattle.book.specs.Book.{Noted, noted}

pub and_left : (c e : Bool) → (c && e) ≡ true → c ≡ true
and_left true e h = refl
and_left false e h = h

pub and_right : (c e : Bool) → (c && e) ≡ true → e ≡ true
and_right true e h = h
and_right false e h = absurd (true-is h)

pub or_left : (c e : Bool) → c ≡ true → (c || e) ≡ true
or_left c e h = rw h

pub or_right : (c e : Bool) → e ≡ true → (c || e) ≡ true
or_right true e h = refl
or_right false e h = h

pub or_else : (c e : Bool) → (c || e) ≡ true → c ≡ false → e ≡ true
or_else true e h f = absurd (true-is {b = false} (sym f))
or_else false e h f = h

pub iff : (x y : Bool) → (x ≡ true → y ≡ true) → (y ≡ true → x ≡ true) → x ≡ y
iff true y f g = sym (f refl)
iff false true f g = g refl
iff false false f g = refl

pub some_is : {A : Type 0} (x : Option A) (d : A) → is_some x ≡ true → x ≡ some (get_or x d)
some_is none d h = absurd (true-is h)
some_is (some a) d h = refl

-- a slot in use is given another value
pub set-some : {A : Type 0} (gs : List (Option A)) (q : ℕ) (g : A) → is_some (at_slot gs q) ≡ true → (j : ℕ) → is_some (at_slot (set gs q (some g)) j) ≡ is_some (at_slot gs j)
set-some [] q g i j = refl
set-some (x ∷ gs) zero g i zero = sym i
set-some (x ∷ gs) zero g i (suc j) = refl
set-some (x ∷ gs) (suc q) g i zero = refl
set-some (x ∷ gs) (suc q) g i (suc j) = set-some gs q g i j

pub some_below : {A : Type 0} (gs : List (Option A)) (q : ℕ) → is_some (at_slot gs q) ≡ true → q < length gs
some_below [] q h = absurd (true-is h)
some_below (x ∷ gs) zero h = omega arith
some_below (x ∷ gs) (suc q) h = let u = some_below gs q h in omega arith

pub lives-below : (rs : List Noted) (k : ℕ) → (noted rs k).alive ≡ true → k < length rs
lives-below [] k h = absurd (true-is h)
lives-below (r ∷ rs) zero h = omega arith
lives-below (r ∷ rs) (suc k) h = let u = lives-below rs k h in omega arith
