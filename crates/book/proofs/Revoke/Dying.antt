-- What dies in the book, and lists of slots where only trackers change.
use Rattle.std.specs.Prelude.{◌≡◌, refl, ℕ, zero, suc, ◌+◌, ◌<◌, Bool, true, false, List, [], ◌∷◌, length, if◌then◌else◌}
use Rattle.std.proofs.Common.{sym, ap, ◌∙◌, arith}
use Rattle.std.proofs.Math.Option.{Option, none, some, get_or}
use Rattle.base.specs.Tests.{true-is}
use Rattle.base.specs.Options.{none-some}
use Rattle.model.specs.Lists.{is_some, at_slot}
use Rattle.model.specs.State.{Handle, LocalList, Domain, Kind, Root, Alias, Carve, parent_of, with_tracker}
use Rattle.laws.specs.Keep.SameDomains.{untracked}
use Rattle.book.specs.Book.{Noted, Opened, noted, dying}
use Rattle.book.specs.Demand3.{kind_by}
use Rattle.book.specs.Matches.{Both, nil, cons, SameList, not_opened, is_opened}
use Rattle.book.proofs.Slots.{slots-as}

-- ---- small laws

-- the parent's place, and the slot where it stands
pub parent-at : (f : ℕ → ℕ) (kd : Kind) (p : ℕ) → parent_of kd ≡ some p → parent_of (kind_by f kd) ≡ some (f p)
parent-at f Root p e = absurd (none-some none p refl e)
parent-at f (Alias q) p e = ap (λ o. some (f (get_or o 0))) e
parent-at f (Carve q) p e = ap (λ o. some (f (get_or o 0))) e

pub parent-of : (f : ℕ → ℕ) (kd : Kind) (p : ℕ) → parent_of (kind_by f kd) ≡ some p → (q : ℕ) × (parent_of kd ≡ some q) × (f q ≡ p)
parent-of f Root p e = absurd (none-some none p refl e)
parent-of f (Alias q) p e = (q, refl, ap (λ o. get_or o 0) e)
parent-of f (Carve q) p e = (q, refl, ap (λ o. get_or o 0) e)

-- ---- the book after a kill

abbrev pub dies_if : Bool → Noted → Noted
dies_if c r = record { kind = r.kind; owner = r.owner; start = r.start; end = r.end; rights = r.rights; alive = if c then false else r.alive }

pub dying-length : (t : ℕ → Bool) (i : ℕ) (rs : List Noted) → length (dying t i rs) ≡ length rs
dying-length t i [] = refl
dying-length t i (r ∷ rs) = ap suc (dying-length t (suc i) rs)

pub noted-dying : (t : ℕ → Bool) (i : ℕ) (rs : List Noted) (j : ℕ) → j < length rs → noted (dying t i rs) j ≡ dies_if (t (i + j)) (noted rs j)
noted-dying t i [] j u = absurd (omega arith)
noted-dying t i (r ∷ rs) zero u = ap (λ c. dies_if (t c) r) (let z : i ≡ i + 0 = omega arith in z)
noted-dying t i (r ∷ rs) (suc j) u = noted-dying t (suc i) rs j (omega arith) ∙ ap (λ c. dies_if (t c) (noted rs j)) (let z : suc i + j ≡ i + suc j = omega arith in z)

pub dies-if-alive : (c l : Bool) → (if c then false else l) ≡ true → (c ≡ false) × (l ≡ true)
dies-if-alive true l h = absurd (true-is h)
dies-if-alive false l h = (refl, h)

-- ---- the lists

locals_of : Option Domain → LocalList
locals_of none = record { held = []; free = [] }
locals_of (some d) = d.locals

same_locals : (w v : Domain) → untracked (some w) ≡ untracked (some v) → w.locals ≡ v.locals
unfolding locals_of
same_locals w v e = ap locals_of e

list-untracked : {P : ℕ → Handle → Type 0} (x : Option Opened) (y z : Option Domain) → untracked z ≡ untracked y → SameList P x y → SameList P x z
list-untracked x y none e not_opened = not_opened
list-untracked x y (some w) e not_opened = absurd (none-some none (with_tracker [] w) refl (sym e))
list-untracked x y none e (is_opened {x = v} h) = absurd (none-some none (with_tracker [] v) refl e)
list-untracked x y (some w) e (is_opened {o} {x = v} h) = is_opened (slots-as o.slots v.locals w.locals (same_locals w v e) h)

pub lists-untracked : {P : ℕ → Handle → Type 0} (ls : List (Option Opened)) (ds es : List (Option Domain)) → length es ≡ length ds → ((d : ℕ) → untracked (at_slot es d) ≡ untracked (at_slot ds d)) → Both (SameList P) ls ds → Both (SameList P) ls es
lists-untracked ls ds [] n e nil = nil
lists-untracked ls ds (y ∷ es) n e nil = absurd (omega arith)
lists-untracked ls ds [] n e (cons r h) = absurd (omega arith)
lists-untracked ls ds (y ∷ es) n e (cons r h) = cons (list-untracked _ _ y (e 0) r) (lists-untracked _ _ es (omega arith) (λ d. e (suc d)) h)

pub some-untracked : (x y : Option Domain) → untracked x ≡ untracked y → is_some x ≡ is_some y
some-untracked x y e = sym (at x) ∙ ap is_some e ∙ at y
  where
    at : (z : Option Domain) → is_some (untracked z) ≡ is_some z
    at none = refl
    at (some d) = refl
