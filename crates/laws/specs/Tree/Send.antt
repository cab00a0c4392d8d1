-- A send moves the effective ranges one by one. From what one loss and one gain of a range do to the stored counts (Q is what they need and keep)
-- follows what all do: at an address of a later range nothing has changed yet, so what is lost there is there still.
use Rattle.std.specs.Prelude.{◌≡◌, refl, ℕ, ◌+◌, ◌≤◌, ◌<◌, eqb, set, if◌then◌else◌}
use Rattle.std.proofs.Common.{sym, ◌∙◌, arith}
use Rattle.std.proofs.Math.Option.{some}
use mathlib.Core.List.{List, [], ◌∷◌}
use Rattle.base.specs.Cases.{lt, ge, cmp}
use Rattle.model.specs.Lists.{In}
use Rattle.model.specs.State.{State, Region, Counts, put_region, with_owner}
use Rattle.model.specs.Fields.{Field, get, counter}
use Rattle.model.specs.Tree.{Range, effective_ranges}
use Rattle.model.specs.Counts.{stored_counts, region_count}
use Rattle.model.specs.Regions.{activate, deactivate, send_ranges, send_region}
use Rattle.laws.specs.Accepted.{All, accepted, bind, weaken, both}
use Rattle.laws.specs.Tracker.Fields.{Enough}
use Rattle.laws.specs.Tree.Shares.{grant}
use Rattle.laws.specs.Tree.Facts.{Regions}
use Rattle.laws.specs.Tree.CountsInclude.{include-enough}
use Rattle.laws.specs.Tree.Effective.{effective-rises}
use Rattle.laws.specs.Tree.Laws.{owner-law}
use Rattle.laws.specs.Tree.Steps.{region-at, ranges-regions}
use Rattle.laws.specs.Tree.Pieces.{Pieces, spread, spread-below}
use Rattle.laws.specs.Within.{within_in, within-hi}

-- domain d's stored count at a
abbrev pub held : State → Field → ℕ → ℕ → ℕ
held s f d a = get f (stored_counts s d a)

-- domain o loses, and gains, a range with rights r
unfoldable pub Loses : (State → Type 0) → ℕ → ℕ → Type 0
Loses Q o r = (s : State) (b e : ℕ) → Q s → b < e → ((a : ℕ) → b ≤ a → a < e → Enough r (stored_counts s o a)) → All (λ t. Q t × ((f : Field) (d a : ℕ) → held t f d a + grant f o b e r d a ≡ held s f d a)) (deactivate [] o (record { start = b; end = e; rights = r }) s)

unfoldable pub Receives : (State → Type 0) → ℕ → ℕ → Type 0
Receives Q o r = (s : State) (b e : ℕ) → Q s → b < e → All (λ t. Q t × ((f : Field) (d a : ℕ) → held t f d a ≡ held s f d a + grant f o b e r d a)) (activate [] o (record { start = b; end = e; rights = r }) s)

enough-same : (r : ℕ) (j k : Counts) → ((f : Field) → get f k ≡ get f j) → Enough r j → Enough r k
enough-same r j k e h = record { counted = λ f. omega (arith, e f, h.counted f); last = λ o f. e f ∙ h.last (sym (e Field.Reach) ∙ o) f }

module _ (Q : State → Type 0) (old new r : ℕ) (loses : Loses Q old r) (receives : Receives Q new r) where
  -- what domain o has of it for domain d
  abbrev part : Field → ℕ → ℕ → ℕ
  part f o d = if eqb o d then counter f r else 0

  abbrev Sent : List Range → State → State → Type 0
  Sent l s t = Q t × ((f : Field) (d a : ℕ) → held t f d a + spread (part f old d) l a ≡ held s f d a + spread (part f new d) l a)

  -- past the first range the counts are as they were
  later : (lo hi : ℕ) (x : Range) (l : List Range) → Pieces lo hi (x ∷ l) → (a : ℕ) → 0 < spread 1 l a → x.1 ≤ a
  later lo hi x l p a h = elim (cmp a x.1) [ lt u ↦ absurd (omega (arith, spread-below 1 x.1 hi a l p.3 u)) | ge u ↦ u ]

  pub send-ranges : (lo hi : ℕ) (l : List Range) → Pieces lo hi l → (s : State) → Q s → ((a : ℕ) → 0 < spread 1 l a → Enough r (stored_counts s old a)) → All (Sent l s) (send_ranges old new r l s)
  unfolding send_ranges Loses Receives
  send-ranges lo hi [] p s q n = accepted (q, λ f d a. refl)
  send-ranges lo hi (x ∷ l) p s q n =
      bind (loses s x.0 x.1 q p.1 (λ a u v. n a (omega (arith, within_in {A = ℕ} x.0 x.1 a 1 0 u v)))) (λ s₁ (q₁, h₁).
      bind (receives s₁ x.0 x.1 q₁ p.1) (λ s₂ (q₂, h₂).
      weaken (send-ranges x.1 hi l p.3 s₂ q₂ (λ a m.
      let u = later lo hi x l p a m in
      enough-same r (stored_counts s old a) (stored_counts s₂ old a) (λ f. omega (arith, h₁ f old a, h₂ f old a, within-hi x.0 x.1 a (part f old old) 0 u, within-hi x.0 x.1 a (part f new old) 0 u)) (n a (omega arith))))
      (λ t (k, h). (k, λ f d a. omega (arith, h₁ f d a, h₂ f d a, h f d a)))))

-- the stored counts of every domain are the regions'
abbrev pub Agrees : State → Type 0
Agrees s = (f : Field) (d a : ℕ) → held s f d a ≡ region_count f s.regions d a

-- so where the stored counts agree they still do after a send of region g in slot i
pub send-agrees : (Q : State → Type 0) (s : State) (ok : Regions s.regions) (i new : ℕ) (g : Region) → In s.regions i g → Loses Q g.owner g.rights → Receives Q new g.rights → Q (put_region i (with_owner new g) s) → Agrees s → All (λ t. Q t × (t.regions ≡ set s.regions i (some (with_owner new g))) × Agrees t) (send_region i new s)
unfolding send_region
send-agrees Q s ok i new g e loses receives q agrees =
    let law = owner-law s ok i g e new in
    let ranges = effective_ranges s g in
    let s₁ = put_region i (with_owner new g) s in
    let had : (a : ℕ) → 0 < spread 1 ranges a → Enough g.rights (stored_counts s g.owner a) = λ a h. include-enough s.regions g.owner a g.rights (stored_counts s g.owner a) (law.2 a h) (λ f. agrees f g.owner a) in
    rw (region-at s i g e) (weaken (both (send-ranges Q g.owner new g.rights loses receives g.start g.end ranges (effective-rises s.regions ok i g e) s₁ q had) (ranges-regions g.owner new g.rights ranges s₁))
    (λ t h. (h.0.0, h.1, λ f d a. rw h.1 (omega (arith, h.0.1 f d a, law.1 f d a, agrees f d a)))))
