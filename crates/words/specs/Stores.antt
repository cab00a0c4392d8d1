-- Runs of stores: one behind another, apart from another, over another.
use Rattle.std.specs.Prelude.{◌≡◌, refl, List, [], ◌∷◌, ◌++◌, ℕ, suc, ◌+◌, ◌≤◌, ◌<◌, length, set}
use Rattle.std.proofs.Common.{sym, ap, ◌∙◌, add-zero, arith, set-set}
use Rattle.std.proofs.lemmas.List.Edits.{sets}
use Rattle.std.proofs.lemmas.List.{set_comm}

pub sets-append : (a b l : List ℕ) (i : ℕ) → sets l i (a ++ b) ≡ sets (sets l i a) (i + length a) b
sets-append [] b l i = rw (add-zero i)
sets-append (v ∷ a) b l i =
    let e : suc i + length a ≡ i + suc (length a) = omega arith in
    sets-append a b (set l i v) (suc i) ∙ ap (λ (k : ℕ). sets (sets (set l i v) (suc i) a) k b) e

sets-set : (b l : List ℕ) (i j v : ℕ) → i < j → sets (set l i v) j b ≡ set (sets l j b) i v
sets-set [] l i j v h = refl
sets-set (x ∷ b) l i j v h =
    ap (λ (m : List ℕ). sets m (suc j) b) (set_comm l i j v x (λ e. omega arith)) ∙ sets-set b (set l j x) i (suc j) v (omega arith)

pub sets-apart : (a b l : List ℕ) (i j : ℕ) → i + length a ≤ j → sets (sets l i a) j b ≡ sets (sets l j b) i a
sets-apart [] b l i j h = refl
sets-apart (v ∷ a) b l i j h =
    sets-apart a b (set l i v) (suc i) j (omega arith) ∙ ap (λ (m : List ℕ). sets m (suc i) a) (sets-set b l i j v (omega arith))

pub sets_over : (a b l : List ℕ) (i : ℕ) → length a ≡ length b → sets (sets l i a) i b ≡ sets l i b
sets_over [] [] l i e = refl
sets_over [] (x ∷ b) l i e = absurd (omega arith)
sets_over (v ∷ a) [] l i e = absurd (omega arith)
sets_over (v ∷ a) (x ∷ b) l i e =
    ap (λ (m : List ℕ). sets m (suc i) b) (sym (sets-set a (set l i v) i (suc i) x (omega arith)) ∙ ap (λ (m : List ℕ). sets m (suc i) a) (set-set l i v x))
    ∙ sets_over a b (set l i x) (suc i) (omega arith)
