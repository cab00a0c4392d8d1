-- Printing step by step: writes, lines, and lines in a loop.
use Rattle.std.specs.Prelude.{◌≡◌, refl, ℕ, ◌+◌, ◌≤◌, ◌<◌, true, false, List, [], ◌++◌, length, take}
use Rattle.std.proofs.Common.{sym, ap, subst, ◌∙◌, append-nil, append_assoc}
use Rattle.base.specs.Cases.{lt, ge, cmp, holds, fails, test}
use Rattle.base.specs.Tests.{true-false}
use Rattle.output.specs.declared.Pending.{Pending}
use Rattle.output.specs.Text.{Puts}
use Rattle.output.specs.Puts.{puts-front}
use Rattle.output.specs.Printed.{Printed, Prints}

-- ---- from nothing on, one behind another

pub printed-none : (run : List ℕ) → Printed [] run (record { n = 0; failed = false })
printed-none run = record { handed = []; others = []; whole = refl; pending = λ _. refl }

as-printed : (out run : List ℕ) (p : Pending) → Printed out run p → Printed (out ++ []) run p
as-printed out run p h = subst (λ (l : List ℕ). Printed l run p) (sym (append-nil out)) h

pub prints-none : (run : List ℕ) (p : Pending) → Prints run p [] run p
prints-none run p = record { failed = λ f. f; behind = λ out h. as-printed out run p h }

pub prints-then : {t : List ℕ} {p : Pending} {a t₁ : List ℕ} {q : Pending} {b t₂ : List ℕ} {r : Pending} → Prints t p a t₁ q → Prints t₁ q b t₂ r → Prints t p (a ++ b) t₂ r
prints-then {a = a} {b = b} {t₂ = t₂} {r = r} h k = record {
  failed = λ f. k.failed (h.failed f);
  behind = λ out o. subst (λ (l : List ℕ). Printed l t₂ r) (append_assoc out a b) (k.behind (out ++ a) (h.behind out o));
}

pub prints-same : {t : List ℕ} {p : Pending} {a b t₁ : List ℕ} {q : Pending} → a ≡ b → Prints t p a t₁ q → Prints t p b t₁ q
prints-same {t} {p} {t₁ = t₁} {q = q} e h = subst (λ (l : List ℕ). Prints t p l t₁ q) e h

-- ---- a write

module _ (run : List ℕ) (p r : Pending) (empty : r.n ≡ 0) (kept : p.failed ≡ true → r.failed ≡ true) where
  written : (out : List ℕ) → Printed out run p → Printed out run r
  written out h = elim (test p.failed) [
    | holds t ↦ record { handed = h.handed; others = h.others; whole = h.whole; pending = λ f. absurd (true-false (kept t) f) }
    | fails f ↦ record { handed = out; others = []; whole = sym (append-nil out); pending = λ _. ap (λ (n : ℕ). take n run) (sym empty) }
  ]

  pub prints-written : Prints run p [] run r
  prints-written = record { failed = kept; behind = λ out h. as-printed out run r (written out h) }

-- ---- a line

-- behind the bytes pending
pub prints-line : {run : List ℕ} {p : Pending} {l run' : List ℕ} {n : ℕ} → Puts run p.n l n run' → n ≤ length run → Prints run p l run' (record { n = n; failed = p.failed })
prints-line {l = l} h room = record {
  failed = λ f. f;
  behind = λ out o. record {
    handed = o.handed;
    others = o.others ++ l;
    whole = ap (λ (x : List ℕ). x ++ l) o.whole ∙ append_assoc o.handed o.others l;
    pending = λ f. ap (λ (x : List ℕ). x ++ l) (o.pending f) ∙ sym (puts-front h room);
  };
}

-- `room` leaves what was printed
module _ (run : List ℕ) (p r : Pending) (stays : p.n + 128 ≤ length run → r ≡ p) (empty : length run < p.n + 128 → r.n ≡ 0) (kept : p.failed ≡ true → r.failed ≡ true) where
  pub prints-room : Prints run p [] run r
  prints-room = elim (cmp (length run) (p.n + 128)) [
    | lt v ↦ prints-written run p r (empty v) kept
    | ge v ↦ subst (λ (q : Pending). Prints run p [] run q) (sym (stays v)) (prints-none run p)
  ]

  -- and a line follows
  pub prints-next : {l run' : List ℕ} {n : ℕ} → Puts run r.n l n run' → n ≤ length run → Prints run p l run' (record { n = n; failed = r.failed })
  prints-next h room = prints-then prints-room (prints-line h room)

-- ---- in a loop: whoever prints the rest has printed the whole

abbrev pub Rest : List ℕ → Pending → List ℕ → List ℕ → Pending → List ℕ → Type 0
Rest t p whole t₁ q rest = (t₂ : List ℕ) (r : Pending) → Prints t₁ q rest t₂ r → Prints t p whole t₂ r

module _ {t : List ℕ} {p : Pending} {whole : List ℕ} where
  pub rest_more : {t₁ : List ℕ} {q : Pending} {a b l t₂ : List ℕ} {q₂ : Pending} → l ≡ a ++ b → Rest t p whole t₁ q l → Prints t₁ q a t₂ q₂ → Rest t p whole t₂ q₂ b
  rest_more e h k t₃ r m = h t₃ r (prints-same (sym e) (prints-then k m))

  pub rest-none : {t₁ : List ℕ} {q : Pending} {l : List ℕ} → l ≡ [] → Rest t p whole t₁ q l → Prints t p whole t₁ q
  rest-none {t₁} {q} e h = h t₁ q (prints-same (sym e) (prints-none t₁ q))
