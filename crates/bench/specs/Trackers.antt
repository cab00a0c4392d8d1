-- What the steps on a domain's tracker answer and leave.
use Rattle.std.specs.Prelude.{◌≡◌, Bool, true, false, List, [], ◌∷◌, ℕ, Ok, Err}
use Rattle.std.proofs.Math.Path.{refl}
use Rattle.std.proofs.Common.{sym, ◌∙◌}
use Rattle.base.specs.Cases.{pick}
use Rattle.sizes.specs.Tests.{sized_b}
use Rattle.answers.specs.Answers.{Answer}
use Rattle.region.specs.declared.AccessRights.{AccessRights}
use Rattle.readings.specs.declared.Permission.{Permission}
use Rattle.readings.specs.Readings.{fill_run}
use Rattle.bench.specs.Steps.{nothing, reply}

abbrev pub change_of : Answer → ℕ
change_of (Ok v) = v
change_of (Err r) = nothing

abbrev pub access_of : ℕ → ℕ → ℕ → AccessRights
access_of s e r = record { start = s; end = e; ops = record { 0 = r } }

-- a permission list as words, three for each
abbrev pub words_of : List Permission → List ℕ
words_of [] = []
words_of (p ∷ l) = p.start ∷ p.end ∷ p.rights ∷ words_of l

-- a list in a lent run, on tables of the right length
unfoldable pub filled : List ℕ → List ℕ → List ℕ → List ℕ
filled t l run = pick (sized_b t) (fill_run l run) run

module _ (t : List ℕ) (b : Bool) (e : b ≡ sized_b t) where
  -- a reading of the tables
  pub read : b ≡ true → {m n : ℕ} → m ≡ n → m ≡ reply t n
  unfolding reply
  read h a = rw (sym e ∙ h) a

  pub unread : b ≡ false → (n : ℕ) → nothing ≡ reply t n
  unfolding reply
  unread h n = rw (sym e ∙ h) refl

  -- with a run
  pub listed : b ≡ true → {m n : ℕ} → m ≡ n → (run l run₀ : List ℕ) → run ≡ fill_run l run₀ → (m ≡ reply t n) × (run ≡ filled t l run₀)
  unfolding filled
  listed h a run l run₀ w = (read h a, rw (sym e ∙ h) w)

  pub unlisted : b ≡ false → (n : ℕ) (l run : List ℕ) → (nothing ≡ reply t n) × (run ≡ filled t l run)
  unfolding filled
  unlisted h n l run = (unread h n, rw (sym e ∙ h) refl)
