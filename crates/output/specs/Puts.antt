-- Bytes put into a run one behind another.
use Rattle.std.specs.Prelude.{◌≡◌, refl, ℕ, ◌+◌, ◌≤◌, List, ◌++◌, length, take, drop}
use Rattle.std.proofs.Common.{sym, ap, subst, ◌∙◌, append_assoc, arith, length-append, length-take-le, take_at}
use Rattle.std.proofs.lemmas.List.Edits.{sets, sets-eq}
use Rattle.std.proofs.lemmas.List.{drop-drop}
use Rattle.words.specs.Stores.{sets-append}
use Rattle.output.specs.Text.{Puts}

pub puts_then : {t : List ℕ} {n : ℕ} {a : List ℕ} {m : ℕ} {t₁ b : List ℕ} {r : ℕ} {t₂ : List ℕ} → Puts t n a m t₁ → Puts t₁ m b r t₂ → Puts t n (a ++ b) r t₂
puts_then {t} {n} {a} {m} {t₁} {b} {r} {t₂} h k = record {
  end = omega (arith, h.end, k.end, length-append a b);
  stored = k.stored ∙ ap (λ (x : List ℕ). sets x m b) h.stored ∙ ap (λ (i : ℕ). sets (sets t n a) i b) h.end ∙ sym (sets-append a b t n);
}

pub puts-same : {t : List ℕ} {n : ℕ} {a b : List ℕ} {r : ℕ} {t₁ : List ℕ} → a ≡ b → Puts t n a r t₁ → Puts t n b r t₁
puts-same {t} {n} {r = r} {t₁ = t₁} e h = subst (λ (l : List ℕ). Puts t n l r t₁) e h

-- copied into a part of the run
pub puts-copied : (t : List ℕ) (n : ℕ) (s : List ℕ) (k : ℕ) → k ≡ length s → n + length s ≤ length t → Puts t n s (n + length s) (take n t ++ (s ++ drop k (drop n t)))
puts-copied t n s k e room = record {
  end = refl;
  stored = rw (e, drop-drop) (sym (append_assoc (take n t) s (drop (n + length s) t)) ∙ sym (sets-eq s t n room));
}

-- ---- as it reads, where the bytes end in the run

module _ {t : List ℕ} {n : ℕ} {l : List ℕ} {r : ℕ} {t₁ : List ℕ} (h : Puts t n l r t₁) (room : r ≤ length t) where
  -- what stands before them and behind them is as it was
  pub puts-reads : t₁ ≡ take n t ++ l ++ drop r t
  puts-reads = h.stored ∙ sets-eq l t n (omega (arith, h.end)) ∙ ap (λ (j : ℕ). take n t ++ l ++ drop j t) (sym h.end)

  -- the bytes up to their end
  pub puts-front : take r t₁ ≡ take n t ++ l
  puts-front =
      let e : length (take n t ++ l) ≡ r = omega (arith, h.end, length-append (take n t) l, length-take-le n t (omega (arith, h.end))) in
      ap (take r) puts-reads ∙ take_at (take n t ++ l) (drop r t) r e
