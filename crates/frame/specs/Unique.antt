-- The contracts settle every returned record, every word of tables and work area, and every place of a lent run.
use Rattle.std.specs.Prelude.{◌≡◌, refl, ℕ, List, [], ◌∷◌, map}
use Rattle.std.proofs.Common.{sym, ap, ◌∙◌}
use Rattle.model.specs.State.{Handle, Access}
use Rattle.model.specs.Perform.{Call, Answer}
use Rattle.laws.specs.AfterUnique.{after-unique}
use Rattle.laws.specs.FilledUnique.{permissions-unique, holders-unique}
use Rattle.readings.specs.declared.Permission.{Permission}
use Rattle.replies.specs.declared.Reply.{Reply}
use Rattle.replies.specs.Replies.{reply_of, Returns, access_of, ListsPermissions, ListsHolders}

pub returns-unique : {R : Type 0} {f : Answer → R} {t w : List ℕ} {c : Call} {r r' : R} {t₁ w₁ t₂ w₂ : List ℕ}
    → Returns f t w c r t₁ w₁ → Returns f t w c r' t₂ w₂ → (r ≡ r') × (t₁ ≡ t₂) × (w₁ ≡ w₂)
returns-unique {f = f} x y = let u = after-unique x.after y.after in (x.reply ∙ ap f u.0 ∙ sym y.reply, u.1, u.2)

-- a run of records is settled by what the model has of it
permission-of : Access → Permission
permission-of a = record { start = a.start; end = a.end; rights = a.rights }

runs_same : (l m : List Permission) → map access_of l ≡ map access_of m → l ≡ m
unfolding permission-of
runs_same l m e = sym (back l) ∙ ap (map permission-of) e ∙ back m
  where
    back : (l : List Permission) → map permission-of (map access_of l) ≡ l
    back [] = refl
    back (p ∷ l) = ap (◌∷◌ p) (back l)

pub lists-permissions-unique : {t w : List ℕ} {h : Handle} {run : List Permission} {r r' : Reply} {w₁ w₂ : List ℕ} {run₁ run₂ : List Permission}
    → ListsPermissions t w h run r w₁ run₁ → ListsPermissions t w h run r' w₂ run₂ → (r ≡ r') × (w₁ ≡ w₂) × (run₁ ≡ run₂)
lists-permissions-unique {run₁ = run₁} {run₂ = run₂} x y =
    let u = permissions-unique x.after y.after in
    (x.reply ∙ ap reply_of u.0 ∙ sym y.reply, u.2, runs_same run₁ run₂ u.3)

pub lists-holders-unique : {t w : List ℕ} {a : ℕ} {run : List ℕ} {r r' : Reply} {w₁ w₂ run₁ run₂ : List ℕ}
    → ListsHolders t w a run r w₁ run₁ → ListsHolders t w a run r' w₂ run₂ → (r ≡ r') × (w₁ ≡ w₂) × (run₁ ≡ run₂)
lists-holders-unique x y = let u = holders-unique x.after y.after in (x.reply ∙ ap reply_of u.0 ∙ sym y.reply, u.2, u.3)
