-- What holds of everything in a table of which one slot was written: of what is put there, and of the others as before.
use Rattle.std.specs.Prelude.{◌≡◌, refl, ℕ, ◌<◌, List, T, length, set}
use Rattle.std.proofs.Common.{sym, subst, ◌∙◌, get_or-set_same, get_or-set_other}
use Rattle.std.proofs.Math.Option.{Option, none, some}
use Rattle.std.proofs.Math.Decide.{ℕ_discrete}
use Rattle.base.specs.Options.{none-some, some_same}
use Rattle.model.specs.Lists.{is_some, at_slot, In}

-- what is live stays live
pub taken-alive : {A : Type 0} (l : List (Option A)) (i : ℕ) (x : A) → i < length l → (k : ℕ) → T (is_some (at_slot l k)) → T (is_some (at_slot (set l i (some x)) k))
taken-alive l i x low k t = elim (ℕ_discrete k i) [
  | yes m ↦ rw (m, get_or-set_same l i (some x) none low) tt
  | no m ↦ rw (get_or-set_other l i k (some x) none m) t
]

module _ {A : Type 0} (P : A → Type 0) (l : List (Option A)) (i : ℕ) (low : i < length l) (all : (k : ℕ) (y : A) → In l k y → P y) where
  every_set : (o : Option A) → ((y : A) → o ≡ some y → P y) → (k : ℕ) (y : A) → In (set l i o) k y → P y
  every_set o h k y e = elim (ℕ_discrete k i) [
    | yes m ↦ h y (sym (get_or-set_same l i o none low) ∙ (rw m at e))
    | no m ↦ all k y (sym (get_or-set_other l i k o none m) ∙ e)
  ]

  pub every-put : (x : A) → P x → (k : ℕ) (y : A) → In (set l i (some x)) k y → P y
  every-put x p = every_set (some x) (λ y e. subst P (some_same (some x) x y refl e) p)

  pub every-less : (k : ℕ) (y : A) → In (set l i none) k y → P y
  every-less = every_set none (λ y e. absurd (none-some none y refl e))
