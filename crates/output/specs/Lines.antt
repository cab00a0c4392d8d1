-- Lines put into a run part by part.
use Rattle.std.specs.Prelude.{◌≡◌, refl, eqb, get_or}
use Rattle.std.proofs.Math.Path.{sym, ap}
use Rattle.std.proofs.Common.{◌∙◌, eq-eqb, ne_eqb}
use Prim.Native.Nat.{ℕ, suc, ◌+◌, ◌-◌, ◌≤◌, ◌<◌}
use mathlib.Core.List.{List, [], ◌∷◌, ◌++◌}
use native.Mathlib.Omega.{arith}
use Rattle.base.specs.Cases.{pick-t, pick-f}
use Rattle.replies.specs.declared.Reply.{Reply}
use Rattle.replies.specs.declared.UpdateReply.{UpdateReply}
use Rattle.output.specs.Text.{decimal, ended, call_line, domain_line, queue_line, numbers_at, Puts}
use Rattle.output.specs.Puts.{puts_then, puts-same}

-- ---- a call's

module _ (k : ℕ) (y : Reply) where
  abbrev ok : List ℕ
  ok = 32 ∷ 111 ∷ 107 ∷ ended (y.value ∷ [])

  abbrev no : List ℕ
  no = 32 ∷ 110 ∷ 111 ∷ ended (y.refusal ∷ [])

  pub call_ok : y.refusal ≡ 0 → decimal k ++ ((32 ∷ 111 ∷ 107 ∷ []) ++ ((32 ∷ decimal y.value) ++ (10 ∷ []))) ≡ call_line k y
  unfolding call_line ended
  call_ok e = ap (λ (l : List ℕ). decimal k ++ l) (sym (pick-t (eqb y.refusal 0) ok no (eq-eqb y.refusal 0 e)))

  pub call-no : (y.refusal ≡ 0 → ⊥) → decimal k ++ ((32 ∷ 110 ∷ 111 ∷ []) ++ ((32 ∷ decimal y.refusal) ++ (10 ∷ []))) ≡ call_line k y
  unfolding call_line ended
  call-no e = ap (λ (l : List ℕ). decimal k ++ l) (sym (pick-f (eqb y.refusal 0) ok no (ne_eqb y.refusal 0 e)))

-- ---- an update's

module _ (u : UpdateReply) where
  abbrev p : List ℕ
  p = 112 ∷ ended (u.a ∷ u.c ∷ [])

  abbrev c : List ℕ
  c = 99 ∷ ended (u.a ∷ u.b ∷ [])

  pub queue-p : u.kind ≡ 1 → p ≡ queue_line u
  unfolding queue_line
  queue-p e = sym (pick-t (eqb u.kind 1) p c (eq-eqb u.kind 1 e))

  pub queue-c : (u.kind ≡ 1 → ⊥) → c ≡ queue_line u
  unfolding queue_line
  queue-c e = sym (pick-f (eqb u.kind 1) p c (ne_eqb u.kind 1 e))

pub pair_is : (l x y : ℕ) → (l ∷ []) ++ ((32 ∷ decimal x) ++ ((32 ∷ decimal y) ++ (10 ∷ []))) ≡ l ∷ ended (x ∷ y ∷ [])
unfolding ended
pair_is l x y = refl

-- ---- a domain's, number by number: what puts the rest of the five numbers puts them all

module _ (run t₀ : List ℕ) (m₀ at : ℕ) where
  abbrev pub Begun : ℕ → ℕ → List ℕ → Type 0
  Begun i m t = (r : ℕ) (t₂ : List ℕ) → Puts t m (ended (numbers_at run (at + i) (5 - i))) r t₂ → Puts t₀ m₀ (ended (numbers_at run at 5)) r t₂

  pub begun-none : Begun 0 m₀ t₀
  begun-none r t₂ k = let e : at + 0 ≡ at = omega arith in puts-same (ap (λ (j : ℕ). ended (numbers_at run j 5)) e) k

  module _ (i m : ℕ) (t : List ℕ) (b : Begun i m t) where
    pub begun_more : {v m₁ : ℕ} {t₁ : List ℕ} → i < 5 → v ≡ get_or run (at + i) 0 → Puts t m (32 ∷ decimal v) m₁ t₁ → Begun (i + 1) m₁ t₁
    unfolding ended numbers_at
    begun_more {v} u e h r t₂ k =
        let p : 5 - i ≡ suc (5 - (i + 1)) = omega arith in
        let q : at + (i + 1) ≡ suc (at + i) = omega arith in
        b r t₂ (puts-same (ap (λ (j : ℕ). (32 ∷ decimal v) ++ ended (numbers_at run j (5 - (i + 1)))) q
        ∙ ap (λ (x : ℕ). (32 ∷ decimal x) ++ ended (numbers_at run (suc (at + i)) (5 - (i + 1)))) e
        ∙ ap (λ (j : ℕ). ended (numbers_at run (at + i) j)) (sym p)) (puts_then h k))

    -- the letter before them, the line feed behind
    pub begun_all : {s : List ℕ} {n r : ℕ} {t₂ : List ℕ} → 5 ≤ i → Puts s n (100 ∷ []) m₀ t₀ → Puts t m (10 ∷ []) r t₂ → Puts s n (domain_line (numbers_at run at 5)) r t₂
    unfolding ended numbers_at domain_line
    begun_all {r = r} {t₂ = t₂} u h k =
        let z : 5 - i ≡ 0 = omega arith in
        puts_then h (b r t₂ (puts-same (sym (ap (λ (j : ℕ). ended (numbers_at run (at + i) j)) z)) k))
