-- A law: `After` settles the answer and every word, whatever the call. Two of its cases never hold together, and a sound state is the only one with its words.
use Rattle.std.specs.Prelude.{◌≡◌, refl, ℕ, List}
use Rattle.std.proofs.Common.{sym, ap, ◌∙◌}
use Rattle.model.specs.State.{State}
use Rattle.model.specs.Layout.{words}
use Rattle.model.specs.Perform.{Call, Answer, step}
use Rattle.model.specs.Memory.{Lent, After, made, not_sound, performed}
use Rattle.laws.specs.Words.Unique.{words-unique}

-- lent tables are those of one state
lent-unique : (t w : List ℕ) (s s' : State) → Lent t w s → Lent t w s' → s ≡ s'
lent-unique t w s s' l l' = words-unique s s' l.sound l'.sound (sym l.tables ∙ l'.tables)

pub after-unique : {t w : List ℕ} {c : Call} {a b : Answer} {t₁ w₁ t₂ w₂ : List ℕ} → After t w c a t₁ w₁ → After t w c b t₂ w₂ → (a ≡ b) × (t₁ ≡ t₂) × (w₁ ≡ w₂)
after-unique (made z) (made z') = (refl, refl, refl)
after-unique (made z) (not_sound c q u) = absurd q
after-unique (made z) (performed c s q l) = absurd q
after-unique (not_sound c q u) (made z) = absurd q
after-unique (not_sound c q u) (not_sound c' q' u') = (refl, refl, refl)
after-unique (not_sound c q u) (performed c' s q' l) = absurd (u s l)
after-unique (performed c s q l) (made z) = absurd q
after-unique (performed c s q l) (not_sound c' q' u) = absurd (u s l)
after-unique {t = t} {w = w} (performed c s q l) (performed c' s' q' l') =
    let e = lent-unique t w s s' l l' in
    (ap (λ x. (step x c).0) e, ap (λ x. words (step x c).1) e, refl)
