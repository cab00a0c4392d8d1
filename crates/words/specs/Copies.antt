-- A run of words written over, word by word from the first.
use Rattle.std.specs.Prelude.{◌≡◌, refl, List, ℕ, suc, ◌+◌, ◌≤◌, ◌<◌, eqb, length, get_or, take, drop, set}
use Rattle.std.proofs.Common.{sym, ◌∙◌, add-one, arith, eq-eqb, length-set, take_all, take-suc, take-suc-set}
use borrow.Rule.Slice.PartMut.{put_mid}
use Rattle.base.specs.Cases.{pick}
use Rattle.words.specs.Runs.{part, length_part, lent_back, stored, stored-in}

-- what a copy leaves of `to`
unfoldable pub copied : List ℕ → List ℕ → List ℕ
copied from to = pick (eqb (length from) (length to)) from to

-- t is as long as vs, and its first i words are those of vs
pub record Begun (vs t : List ℕ) (i : ℕ) : Type 0 where
  pub long : length t ≡ length vs
  pub same : take i t ≡ take i vs

pub begun-none : (vs t : List ℕ) → length t ≡ length vs → Begun vs t 0
begun-none vs t h = record { long = h; same = refl }

pub begun_more : (vs t : List ℕ) (i v : ℕ) → i < length vs → Begun vs t i → v ≡ get_or vs i 0 → Begun vs (set t i v) (i + 1)
begun_more vs t i v h b e =
    let ht : i < length t = omega (arith, b.long) in
    let step : take (suc i) (set t i v) ≡ take (suc i) vs =
    take-suc-set t i v ht ∙ rw (b.same, e) (sym (take-suc vs i 0 h)) in
    record { long = simp length-set b.long; same = rw add-one step }

pub begun_all : (vs t : List ℕ) (i : ℕ) → Begun vs t i → length vs ≤ i → t ≡ vs
begun_all vs t i b h = sym (take_all i t (omega (arith, b.long))) ∙ b.same ∙ take_all i vs h

-- vs copied into the part from a on
pub copied-back : (t vs p : List ℕ) (a k : ℕ) → k ≡ length vs → a + length vs ≤ length t → p ≡ copied vs (take k (drop a t)) → put_mid a k t p ≡ stored t a vs
unfolding copied part
copied-back t vs p a k ek h ep =
    let hk : a + k ≤ length t = omega arith in
    let e : p ≡ vs = ep ∙ rw (eq-eqb (length vs) (length (take k (drop a t))) (sym (length_part t a k hk ∙ ek))) in
    rw e (lent_back t vs a k (length vs) ek refl h ∙ sym (stored-in t a vs h))
