-- The bytes at hand lie in the run that holds them, and stay at hand when more are read. What the answer of a read says.
use Rattle.std.proofs.Math.Path.{◌≡◌, refl}
use Rattle.std.specs.Prelude.{ℕ, suc, Result, Ok, Err, IfOk, ◌+◌, ◌-◌, ◌≤◌, ◌<◌, List, ◌++◌, eqb, length, get_or, take, if◌then◌else◌}
use Rattle.std.proofs.Common.{◌∙◌, arith, length-take, get_or-take}
use Rattle.std.proofs.Math.ListN.{get_or-append}
use borrow.Author.Tests.{eqb-false}
use Rattle.base.specs.Cases.{holds, fails, test}
use Rattle.input.specs.declared.Buffered.{Buffered}
use Rattle.input.specs.declared.Source.{Source}
use Rattle.input.specs.declared.Source.TheVariants as source

pub record Within (h : Buffered) (n : ℕ) : Type 0 where
  pub rising : h.at ≤ h.end
  pub inside : h.end ≤ n

-- The bytes at hand h in b are the first of those at hand r in b'.
pub record Keeps (h : Buffered) (b : List ℕ) (r : Buffered) (b' : List ℕ) : Type 0 where
  pub as_many : h.end - h.at ≤ r.end - r.at
  pub same : (k : ℕ) → k < h.end - h.at → get_or b' (r.at + k) 0 ≡ get_or b (h.at + k) 0

pub keeps-none : (h : Buffered) (b : List ℕ) → Keeps h b h b
keeps-none h b = record { as_many = omega arith; same = λ k u. refl }

pub keeps_then : (h r s : Buffered) (b b₁ b₂ : List ℕ) → Keeps h b r b₁ → Keeps r b₁ s b₂ → Keeps h b s b₂
keeps_then h r s b b₁ b₂ x y = record {
  as_many = omega (arith, x.as_many, y.as_many);
  same = λ k u. y.same k (omega (arith, x.as_many)) ∙ x.same k u;
}

-- What is at hand when a read behind the bytes h has answered: as many more; none where the input has ended, or the read failed.
unfoldable pub behind : {E : Type 0} → Buffered → Result ℕ E → Buffered
behind h (Ok n) = record { at = h.at; end = h.end + n; source = if eqb n 0 then source.Ended else source.Open }
behind h (Err e) = record { at = h.at; end = h.end; source = source.Failed }

-- A read after which more may come has brought some.
abbrev pub Grows : Buffered → Buffered → Type 0
Grows h r = r.source ≡ source.Open → h.end - h.at < r.end - r.at

-- Where more may come, the longest record is at hand: none is taken for cut there.
abbrev pub Whole : Buffered → Type 0
Whole h = h.source ≡ source.Open → 52 ≤ h.end - h.at

-- ---- one read

front_same : (b rest : List ℕ) (n j : ℕ) → n ≤ length b → j < n → get_or (take n b ++ rest) j 0 ≡ get_or b j 0
front_same b rest n j h u = get_or-append (take n b) rest 0 j (omega (arith, length-take n b)) ∙ get_or-take n b j 0 u

ended-open : source.Ended ≡ source.Open → ⊥
ended-open e = cc

module _ {E : Type 0} (h : Buffered) (b rest : List ℕ) (w : Within h (length b)) where
  behind-keeps : (got : Result ℕ E) → Keeps h b (behind h got) (take h.end b ++ rest)
  unfolding behind
  behind-keeps (Ok n) = record { as_many = omega (arith, w.rising); same = λ j u. front_same b rest h.end (h.at + j) w.inside (omega arith) }
  behind-keeps (Err e) = record { as_many = omega arith; same = λ j u. front_same b rest h.end (h.at + j) w.inside (omega arith) }

  behind-within : (got : Result ℕ E) → IfOk got (λ n. h.end + n ≤ length b) → Within (behind h got) (length b)
  unfolding behind
  behind-within (Ok n) m = record { rising = omega (arith, w.rising); inside = omega (arith, m) }
  behind-within (Err e) m = record { rising = w.rising; inside = w.inside }

  behind-grows : (got : Result ℕ E) → Grows h (behind h got)
  unfolding behind
  behind-grows (Ok n) t = elim (test (eqb n 0)) [ holds z ↦ absurd (ended-open (rw z at t)) | fails z ↦ omega (arith, w.rising, eqb-false n 0 z) ]
  behind-grows (Err e) t = cc

  pub read-once : (r : Buffered) (got : Result ℕ E) → r ≡ behind h got → IfOk got (λ n. h.end + n ≤ length b) → Within r (length b) × (Keeps h b r (take h.end b ++ rest) × Grows h r)
  read-once r got e m = rw e (behind-within got m, (behind-keeps got, behind-grows got))

-- ---- reading on

-- How many reads there can still be: each brings a byte of the record, or is the last.
abbrev pub left_at : Source → ℕ → ℕ
left_at source.Open n = suc n
left_at source.Ended n = 0
left_at source.Failed n = 0

abbrev pub left : Buffered → ℕ
left h = left_at h.source (52 - (h.end - h.at))
