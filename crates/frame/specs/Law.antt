-- Lent memory that is not admitted is not that of a sound state; where it is admitted, the tables are the words of one sound state. So what a call
-- that is refused for its memory returns, and one on a sound state by the model's answer, is what the model's `After` says.
use Rattle.std.specs.Prelude.{◌≡◌, ℕ, Bool, true, false, List, eqb, length}
use Rattle.std.proofs.Math.Path.{refl}
use Rattle.std.proofs.Common.{sym, subst, ◌∙◌, eq-eqb, eqb-true}
use Rattle.base.specs.Cases.{holds, fails, test}
use Rattle.base.specs.Tests.{true-is, false-is, both_true}
use Rattle.model.specs.Lists.{Each}
use Rattle.refusals.specs.Refusals.{memory}
use Rattle.model.specs.State.{State, Word}
use Rattle.model.specs.Perform.{Call, Answer, step}
use Rattle.model.specs.Layout.{words}
use Rattle.model.specs.Memory.{Lent, NotMake, After, zeroed}
use Rattle.tables.specs.View.{Sized}
use Rattle.sizes.specs.Tests.{sized_b}
use Rattle.tables.specs.Tests.{sized-true}
use Rattle.sound.specs.Test.{is_sound}
use Rattle.exact.specs.Law.{sound-words, words-sound}
use Rattle.replies.specs.Replies.{Returns}
use Rattle.frame.specs.Finish.{admitted, kept, kept-clear}

-- ---- what is admitted

module _ (t w : List ℕ) where
  lent-admitted : (s : State) → Lent t w s → admitted t w ≡ true
  unfolding admitted
  lent-admitted s l = rw (eq-eqb (length w) (length t) l.work) (words-sound t (s, l.sound, l.tables))

  -- "1 Memory, either length wrong or tables not sound"
  pub not-admitted : (c : Call) → NotMake c → admitted t w ≡ false → After t w c (Answer.no memory) t (zeroed w)
  not-admitted c n e = After.not_sound c n (λ s l. false-is e (true-is (lent-admitted s l)))

  parts : admitted t w ≡ true → (length w ≡ length t) × (is_sound t ≡ true)
  unfolding admitted
  parts h = elim (test (eqb (length w) (length t))) [
    | holds p ↦ (eqb-true (length w) (length t) p, rw p at h)
    | fails p ↦ absurd (false-is refl (true-is (rw p at h)))
  ]

  pub lent : Each Word t → admitted t w ≡ true → (s : State) × Lent t w s
  lent known h = let x = sound-words t known (parts h).1 in (x.0, record { sound = x.1; tables = x.2; work = (parts h).0 })

-- ---- as the calls cite it

-- what a call on a sound state returns by f, where its answer is that of the model
pub step-returns : {R : Type 0} (f : Answer → R) (t w : List ℕ) (c : Call) → NotMake c
    → (s : State) → Lent t w s → (r : R) (t₂ w₂ : List ℕ) → r ≡ f (step s c).0 → t₂ ≡ words (step s c).1 → w₂ ≡ zeroed w → Returns f t w c r t₂ w₂
step-returns f t w c q s l r t₂ w₂ er et ew = record {
  answer = (step s c).0;
  after = subst (λ v. After t w c (step s c).0 t₂ v) (sym ew) (subst (λ v. After t w c (step s c).0 v (zeroed w)) (sym et) (After.performed c s q l));
  reply = er;
}

-- the tables that a call may run on are as long as their sizes ask
pub admitted-sized : (t w : List ℕ) → (b : Bool) → b ≡ admitted t w → b ≡ true → Sized t
unfolding is_sound
admitted-sized t w b e h = sized-true t (both_true (sized_b t) _ (parts t w (sym e ∙ h)).1).0

-- and the work area as long as they
pub admitted-long : (t w : List ℕ) → (b : Bool) → b ≡ admitted t w → b ≡ true → length w ≡ length t
admitted-long t w b e h = (parts t w (sym e ∙ h)).0

-- the lent memory is refused
pub memory-returns : {R : Type 0} (f : Answer → R) (t w : List ℕ) (c : Call) → NotMake c → (b : Bool) → b ≡ admitted t w → b ≡ false
    → (r : R) (w₂ : List ℕ) → r ≡ f (Answer.no memory) → w₂ ≡ kept t w → Returns f t w c r t w₂
memory-returns f t w c n b e h r w₂ er ew =
    let d = sym e ∙ h in
    record { answer = Answer.no memory; after = subst (λ v. After t w c (Answer.no memory) t v) (sym (ew ∙ kept-clear t w d)) (not-admitted t w c n d); reply = er }
