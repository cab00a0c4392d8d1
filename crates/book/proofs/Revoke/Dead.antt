-- A dead region killed again: all below it are dead too, and the book stays.
use Rattle.std.specs.Prelude.{◌≡◌, refl, ℕ, zero, suc, ◌+◌, ◌<◌, Bool, true, false, List, [], ◌∷◌, eqb, length, if◌then◌else◌}
use Rattle.std.proofs.Common.{sym, ap, ◌∙◌, eqb→eq}
use Rattle.std.proofs.Math.Option.{Option, none, some}
use native.Mathlib.Omega.{arith}
use Rattle.base.specs.Tests.{true-is, false-is}
use Rattle.model.specs.State.{State, Handle, parent_of}
use Rattle.book.specs.Book.{Book, Noted, noted, is_under, most_above, dying, killed}
use Rattle.book.specs.Tests.{or_else, lives-below}
use Rattle.book.specs.Matches.{MatchesAt}

noted-path : (r : Noted) (c : Bool) → c ≡ r.alive → record { kind = r.kind; owner = r.owner; start = r.start; end = r.end; rights = r.rights; alive = c } ≡ r
noted-path r c e = λ x. record { kind = r.kind; owner = r.owner; start = r.start; end = r.end; rights = r.rights; alive = e x }

pick_same : (c v : Bool) → (c ≡ true → v ≡ false) → (if c then false else v) ≡ v
pick_same true v h = sym (h refl)
pick_same false v h = refl

dying-same : (t : ℕ → Bool) (i : ℕ) (rs : List Noted) → ((j : ℕ) → j < length rs → t (i + j) ≡ true → (noted rs j).alive ≡ false) → dying t i rs ≡ rs
dying-same t i [] h = refl
dying-same t i (r ∷ rs) h =
    ap (λ x. x ∷ dying t (suc i) rs) (noted-path r _ (pick_same (t i) r.alive (λ e. h 0 (omega arith) (ap t (let z : i + 0 ≡ i = omega arith in z) ∙ e))))
    ∙ ap (λ (l : List Noted). r ∷ l) (dying-same t (suc i) rs (λ j u e. h (suc j) (omega arith) (ap t (let z : i + suc j ≡ suc i + j = omega arith in z) ∙ e)))

module _ (b : Book) (s : State) (at : ℕ → Handle) (place : ℕ → ℕ) (m : MatchesAt b s at place) (k : ℕ) where
  under-lives : (n j : ℕ) → is_under b.regions n k j ≡ true → (noted b.regions j).alive ≡ true → (noted b.regions k).alive ≡ true
  under-lives zero j u l = ap (λ c. (noted b.regions c).alive) (sym (eqb→eq j k (true-is u))) ∙ l
  under-lives (suc n) j u l = go (eqb j k) refl (λ p h a. under-lives n p h a)
    where
      up : (o : Option ℕ) → parent_of (noted b.regions j).kind ≡ o → elim o [ none ↦ false | some p ↦ is_under b.regions n k p ] ≡ true → ((p : ℕ) → is_under b.regions n k p ≡ true → (noted b.regions p).alive ≡ true → (noted b.regions k).alive ≡ true) → (noted b.regions k).alive ≡ true
      up none e h ih = absurd (true-is h)
      up (some p) e h ih = ih p h (m.regions.parent_lives j p (lives-below b.regions j l) l e)

      go : (c : Bool) → eqb j k ≡ c → ((p : ℕ) → is_under b.regions n k p ≡ true → (noted b.regions p).alive ≡ true → (noted b.regions k).alive ≡ true) → (noted b.regions k).alive ≡ true
      go true e ih = ap (λ c. (noted b.regions c).alive) (sym (eqb→eq j k (true-is e))) ∙ l
      go false e ih = up (parent_of (noted b.regions j).kind) refl (or_else (eqb j k) _ u e) ih

  dead-under : (n j : ℕ) → (noted b.regions k).alive ≡ false → is_under b.regions n k j ≡ true → (noted b.regions j).alive ≡ false
  dead-under n j d u = go (noted b.regions j).alive refl
    where
      go : (c : Bool) → (noted b.regions j).alive ≡ c → (noted b.regions j).alive ≡ false
      go true e = absurd (false-is d (true-is (under-lives n j u e)))
      go false e = e

  pub killed-same : (noted b.regions k).alive ≡ false → killed k b ≡ b
  unfolding killed
  killed-same d = let e = dying-same (is_under b.regions (most_above b.regions) k) 0 b.regions (λ j u h. dead-under (most_above b.regions) j d (ap (is_under b.regions (most_above b.regions) k) (let z : j ≡ 0 + j = omega arith in z) ∙ h)) in λ x. record { sizes = b.sizes; regions = e x; lists = b.lists }
