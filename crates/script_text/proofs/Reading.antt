-- Records as they are read: the bytes at hand lie in a run, and more are read behind them.
use Rattle.std.specs.Prelude.{◌≡◌, ◌≢◌, refl, ℕ, ◌+◌, ◌≤◌, ◌<◌, List, [], true, false, length}
use Rattle.std.proofs.Common.{sym, subst, arith}
use Rattle.base.specs.Cases.{lt, ge, cmp}
use Rattle.base.specs.Tests.{true-false}
use Rattle.model.specs.State.{State}
use Rattle.model.specs.Memory.{Lent}
use Rattle.input.specs.declared.Buffered.{Buffered}
use Rattle.input.specs.declared.Source.TheVariants as source
use Rattle.input.specs.Buffered.{Within, Keeps, Whole}
use Rattle.script_records.specs.Parsed.{parsed}
use Rattle.output.specs.declared.Pending.{Pending}
use Rattle.output.specs.Printed.{Prints}
use Rattle.script_text.proofs.Hand.{hand_of, hand-grows, hand-taken, hand-none, hand-some}
use Rattle.script_text.specs.Turns.{Turns}
use Rattle.script_text.specs.Records.{RanAll}
use Rattle.script_text.proofs.Records.{Between, between_none, between-read, between-room, between_more, ran-bad, ran-end}

-- Between two records, with the bytes of b that h says at hand.
pub record At (s : State) (k : ℕ) (h : Buffered) (b t w text : List ℕ) (p : Pending) : Type 0 where
  pub between : Between s k (hand_of h b) t w text p

pub at_none : {s : State} {t w : List ℕ} (h : Buffered) (b text : List ℕ) → h.end ≤ h.at → Lent t w s → At s 1 h b t w text (record { n = 0; failed = false })
at_none {s} {t} {w} h b text u l = record { between = subst (λ (x : List ℕ). Between s 1 x t w text (record { n = 0; failed = false })) (sym (hand-none h b u)) (between_none text l) }

-- a whole record is made ready, and room for its line
pub at_ready : {s : State} {k : ℕ} {h : Buffered} {b t w text : List ℕ} {p : Pending} {n : ℕ} {r : Buffered} {b₁ : List ℕ} {q : Pending}
    → At s k h b t w text p → Within h n → length b ≡ n → Within r (length b) → length b₁ ≡ length b → Keeps h b r b₁ → Prints text p [] text q → At s k r b₁ t w text q
at_ready {h = h} {b = b} {r = r} {b₁ = b₁} x w e v f keeps room =
    let w₁ : Within h (length b) = record { rising = w.rising; inside = omega (arith, w.inside) } in
    let v₁ : Within r (length b₁) = record { rising = v.rising; inside = omega (arith, v.inside) } in
    record { between = between-room (between-read x.between _ (hand-grows h b r b₁ w₁ v₁ keeps)) room }

-- where none is at hand, none may come
no_more : (h : Buffered) → Whole h → h.at ≡ h.end → h.source ≢ source.Open
no_more h v e o = omega (arith, v o, e)

module _ {s : State} {k : ℕ} {h : Buffered} {b t w text : List ℕ} {p : Pending} (x : At s k h b t w text p) where
  -- it is run
  pub at_more : {size n : ℕ} {t₁ w₁ text₁ : List ℕ} → Turns (parsed (hand_of h b)) k p.n t w text n size t₁ w₁ text₁ → (size ≡ 0 → ⊥) → n ≤ length text → length t₁ ≡ length t
      → At s (k + 1) (record { at = h.at + size; end = h.end; source = h.source }) b t₁ w₁ text₁ (record { n = n; failed = p.failed })
  at_more {size} {n} {t₁} {w₁} {text₁} y z room long = record { between = subst (λ (l : List ℕ). Between s (k + 1) l t₁ w₁ text₁ (record { n = n; failed = p.failed })) (hand-taken h b size) (between_more x.between room long y z) }

  -- it is a bad one
  pub at-bad : {m : ℕ} {size n : ℕ} {t₁ w₁ text₁ : List ℕ} → Within h m → length b ≡ m → (h.at ≡ h.end → ⊥) → Turns (parsed (hand_of h b)) k p.n t w text n size t₁ w₁ text₁ → size ≡ 0 → n ≤ length text → length t₁ ≡ length t
      → (i : Buffered) → RanAll s t₁ w₁ text₁ (record { n = n; failed = p.failed }) i
  at-bad v e u y z room long i =
      let v₁ : Within h (length b) = record { rising = v.rising; inside = omega (arith, v.inside) } in
      ran-bad x.between room long i refl (hand-some h b v₁ (rises h.at h.end v.rising u)) y z
    where
      rises : (i j : ℕ) → i ≤ j → (i ≡ j → ⊥) → i < j
      rises i j r n = elim (cmp i j) [ lt q ↦ q | ge q ↦ absurd (n (omega arith)) ]

  -- none is left, a write failed, or no more can be numbered
  pub at-end : Whole h → h.at ≡ h.end → RanAll s t w text p h
  at-end v e = ran-end x.between h (λ _ _. (hand-none h b (omega arith), no_more h v e))

  pub at-failed : p.failed ≡ true → RanAll s t w text p h
  at-failed e = ran-end x.between h (λ f _. absurd (true-false e f))

  pub at_last : 18446744073709551615 ≤ k → RanAll s t w text p h
  at_last e = ran-end x.between h (λ _ u. absurd (omega (arith, x.between.count, u, e)))
