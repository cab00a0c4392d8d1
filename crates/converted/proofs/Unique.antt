-- The converter's answer, and all that it leaves, are settled by what it is handed.
use Rattle.std.specs.Prelude.{◌≡◌, refl, ℕ, List}
use Rattle.std.proofs.Common.{sym, ap, ◌∙◌}
use Rattle.model.specs.State.{State}
use Rattle.model.specs.Layout.{words}
use Rattle.model.specs.Perform.{Answer}
use Rattle.model.specs.Converting.{Convertible, Converted, not_convertible, converted}
use Rattle.converted.specs.Former.{rebuilt}
use Rattle.converted.proofs.Former.{marked-rebuilt}

-- the old tables tell the new ones
pub convertible-words : (o t v w : List ℕ) (s : State) → Convertible o t v w s → words s ≡ rebuilt o
convertible-words o t v w s c = marked-rebuilt s c.sound c.marked ∙ ap rebuilt (sym c.old)

-- THEOREM
pub converted-unique : {o t v w : List ℕ} {a b : Answer} {t₁ v₁ w₁ t₂ v₂ w₂ : List ℕ} → Converted o t v w a t₁ v₁ w₁ → Converted o t v w b t₂ v₂ w₂ → (a ≡ b) × (t₁ ≡ t₂) × (v₁ ≡ v₂) × (w₁ ≡ w₂)
converted-unique (not_convertible n) (not_convertible m) = (refl, refl, refl, refl)
converted-unique (not_convertible n) (converted s c) = absurd (n s c)
converted-unique (converted s c) (not_convertible n) = absurd (n s c)
converted-unique {o = o} {t = t} {v = v} {w = w} (converted s c) (converted s' c') = (refl, convertible-words o t v w s c ∙ sym (convertible-words o t v w s' c'), refl, refl)
