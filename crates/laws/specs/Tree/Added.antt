-- A region is added in a free slot: what it does to the counts at one address. Its owner gains its range; where it is a carve, its parent's owner
-- loses that range with the parent's rights. Read backwards, a region is removed.
use Rattle.std.specs.Prelude.{◌≡◌, ◌≢◌, ℕ, ◌+◌, ◌≤◌, ◌<◌, false, List, eqb, length, if◌then◌else◌}
use Rattle.std.proofs.Common.{sym, ap, ◌∙◌, arith}
use Rattle.std.proofs.Math.Option.{Option, none, some}
use Rattle.base.specs.Cases.{below, inside, above, pos}
use Rattle.model.specs.Lists.{one_if, at_slot}
use Rattle.model.specs.State.{Region}
use Rattle.model.specs.Fields.{Field, counter}
use Rattle.model.specs.Tree.{is_carve}
use Rattle.model.specs.Counts.{region_count}
use Rattle.laws.specs.Tree.Sum.{sum, sum_one, sum-two}
use Rattle.laws.specs.Tree.Shares.{grant, share, carve, carve_of, carved, clear, clear-0, clear-s, clear_zero, weight, tally-is}
use Rattle.laws.specs.Tree.Facts.{self, other}
use Rattle.laws.specs.Tree.Change.{bare, Changed, same-share, carved-change}
use Rattle.laws.specs.Within.{within, within-lo, within_in, within-hi, within_same}

-- ---- one slot changes, and no carve is added or removed

module _ (rs rs' : List (Option Region)) (i : ℕ) (x y : Option Region) (t : Changed rs rs' i x y) where
  pub tally-change : (f : Field) (d a : ℕ) → ((k : ℕ) → carved rs' k a ≡ carved rs k a) → region_count f rs' d a + clear (carved rs i a) (share f x d a) ≡ region_count f rs d a + clear (carved rs i a) (share f y d a)
  tally-change f d a e =
      omega (
        arith,
        tally-is f rs d a,
        tally-is f rs' d a,
        ap (sum (weight f rs' d a)) t.size,
        sum_one (weight f rs' d a) (weight f rs d a) (length rs) i t.low (λ k n. rw (e k, same-share f (at_slot rs' k) (at_slot rs k) d a (t.others k n))),
        ap (λ (c : ℕ). clear c (share f (at_slot rs' i) d a)) (e i),
        ap (clear (carved rs i a)) (same-share f (at_slot rs i) x d a t.was),
        ap (clear (carved rs i a)) (same-share f (at_slot rs' i) y d a t.now),
      )

-- ---- a region is added in a slot that was free, and of which nothing was carved

module _ (rs rs' : List (Option Region)) (i : ℕ) (g : Region) (t : Changed rs rs' i none (some g)) (a : ℕ) (fresh : carved rs i a ≡ 0) where
  carved-now : (k : ℕ) → carved rs' k a ≡ carved rs k a + carve (some g) k a
  carved-now k = omega (arith, carved-change rs rs' i none (some g) t k a)

  -- where it carves nothing its owner gains its share
  alone : ((k : ℕ) → carve (some g) k a ≡ 0) → (f : Field) (d : ℕ) → region_count f rs' d a ≡ region_count f rs d a + share f (some g) d a
  alone z f d = omega (arith, tally-change rs rs' i none (some g) t f d a (λ k. omega (arith, carved-now k, z k)), clear_zero (carved rs i a), clear-0 (carved rs i a) (share f (some g) d a) fresh)

  pub tally-plain : is_carve g.kind ≡ false → (f : Field) (d : ℕ) → region_count f rs' d a ≡ region_count f rs d a + share f (some g) d a
  tally-plain z f d = alone (λ k. within_same g.start g.end a (carve_of g.kind k) 0 (rw z)) f d

  -- a carve of p, whose region is h
  module _ (p : ℕ) (h : Region) (low : p < length rs) (apart : i ≢ p) (is : bare (at_slot rs p) ≡ bare (some h)) (from : h.start ≤ g.start) (to : g.end ≤ h.end) (hangs : (k : ℕ) → carve_of g.kind k ≡ one_if (eqb p k)) where
    -- what p's owner loses
    abbrev loss : Field → ℕ → ℕ
    loss f d = grant f h.owner g.start g.end h.rights d a

    outside : ((v : ℕ) → within g.start g.end a v 0 ≡ 0) → (f : Field) (d : ℕ) → region_count f rs' d a + loss f d ≡ region_count f rs d a + share f (some g) d a
    outside z f d = omega (arith, alone (λ k. z (carve_of g.kind k)) f d, z (if eqb h.owner d then counter f h.rights else 0))

    within-carve : g.start ≤ a → a < g.end → carved rs p a ≡ 0 → (f : Field) (d : ℕ) → region_count f rs' d a + loss f d ≡ region_count f rs d a + share f (some g) d a
    within-carve u v free f d =
        let w : (b : ℕ) → within g.start g.end a b 0 ≡ b = λ b. within_in _ _ _ _ _ u v in
        let c : (k : ℕ) → carved rs' k a ≡ carved rs k a + one_if (eqb p k) = λ k. carved-now k ∙ ap (λ (b : ℕ). carved rs k a + b) (w (carve_of g.kind k) ∙ hangs k) in
        let no : one_if (eqb p i) ≡ 0 = other p i (λ e. apart (sym e)) in
        let was-i : weight f rs d a i ≡ 0 = ap (clear (carved rs i a)) (same-share f (at_slot rs i) none d a t.was) ∙ clear_zero (carved rs i a) in
        let was-p : weight f rs d a p ≡ loss f d = clear-0 (carved rs p a) _ free ∙ same-share f (at_slot rs p) (some h) d a is ∙ within_in _ _ _ _ _ (omega arith) (omega arith) ∙ sym (w _) in
        let now-i : weight f rs' d a i ≡ share f (some g) d a = clear-0 (carved rs' i a) _ (omega (arith, c i)) ∙ same-share f (at_slot rs' i) (some g) d a t.now in
        let now-p : weight f rs' d a p ≡ 0 = clear-s (carved rs' p a) _ (omega (arith, c p, self p)) in
        omega (
          arith,
          tally-is f rs d a,
          tally-is f rs' d a,
          ap (sum (weight f rs' d a)) t.size,
          sum-two (weight f rs' d a) (weight f rs d a) (length rs) i p t.low low apart (λ k n o.
              let z : carved rs' k a ≡ carved rs k a = omega (arith, c k, other p k (λ e. o (sym e))) in
              rw (z, same-share f (at_slot rs' k) (at_slot rs k) d a (t.others k n))),
        )

    pub tally-carve : (g.start ≤ a → a < g.end → carved rs p a ≡ 0) → (f : Field) (d : ℕ) → region_count f rs' d a + loss f d ≡ region_count f rs d a + share f (some g) d a
    tally-carve free f d = elim (pos g.start g.end a) [
      | below u ↦ outside (λ v. within-lo _ _ _ _ _ u) f d
      | inside u v ↦ within-carve u v (free u v) f d
      | above u ↦ outside (λ v. within-hi _ _ _ _ _ u) f d
    ]
