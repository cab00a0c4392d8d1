-- Taking bits of domains' words away never makes a refused call succeed on lent tables. Tables that differ by such words alone are sound together, and
-- `fewer-bits` speaks of their states.
use Rattle.std.specs.Prelude.{◌≡◌, refl, ◌⊎◌, ℕ, ◌+◌, ◌*◌, ◌<◌, List, T, length, get_or}
use Rattle.std.proofs.Common.{sym, ap, subst, ◌∙◌, inl, arith, eqb→eq}
use Rattle.std.proofs.Math.Option.{Option, none, some}
use Rattle.std.specs.Int.Bits.{bit_and}
use Rattle.std.proofs.lemmas.Nat.{and_le_l}
use Rattle.rights.specs.Rights.{contains}
use Rattle.refusals.specs.declared.Refusal.{Refusal}
use Rattle.refusals.specs.Refusals.{not_allowed}
use Rattle.model.specs.Lists.{Each, at_slot}
use Rattle.model.specs.Outcome.{Outcome, ok, refuse}
use Rattle.model.specs.State.{Word, State, Domain}
use Rattle.model.specs.Making.{make_in}
use Rattle.model.specs.Perform.{Call, Value, Answer, perform, after, step}
use Rattle.model.specs.Memory.{Lent, made_answer, After, made, not_sound, performed}
use Rattle.laws.specs.Lists.{word_at}
use Rattle.laws.specs.Words.Unique.{words-unique}
use Rattle.interface.specs.Fewer.{FewerDomain, free, used, Fewer}
use Rattle.interface.specs.FewerTables.{sizes_in, InUse, interfaces_at, word_place, FewerTables}
use Rattle.interface.proofs.Bits.{fewer-bits}
use Rattle.interface.proofs.Reword.{reword_in, reword, reword-at, reword-length}
use Rattle.interface.proofs.Reworded.{Others, lent-reword, lent-use, lent-word}

-- ---- what tables with fewer bits have in common, read from either

module _ (t t' : List ℕ) (o : Others t t') where
  early : (i : ℕ) → i < interfaces_at (sizes_in t) → get_or t' i 0 ≡ get_or t i 0
  early i l = o i (λ d u e. omega arith)

  same-sizes : sizes_in t' ≡ sizes_in t
  same-sizes = λ j. record { domains = early 0 (omega arith) j; slots = early 1 (omega arith) j; regions = early 2 (omega arith) j; records = early 3 (omega arith) j; updates = early 4 (omega arith) j }

  same_place : (d : ℕ) → word_place t' d ≡ word_place t d
  same_place d = ap (λ z. interfaces_at z + 2 * d) same-sizes

  use-back : (d : ℕ) → InUse t' d → InUse t d
  use-back d (l, e) = let m : d < get_or t 0 0 = omega (arith, early 0 (omega arith)) in (m, sym (early (9 + d) (omega arith)) ∙ e)

  use-forth : (d : ℕ) → InUse t d → InUse t' d
  use-forth d (l, e) = (omega (arith, early 0 (omega arith)), early (9 + d) (omega arith) ∙ e)

  others-back : Others t' t
  others-back i h = sym (o i (λ d u e. h d (use-forth d u) (e ∙ sym (same_place d))))

-- fewer bits are a smaller number
fewer-word : (a b : ℕ) → T (contains a b) → Word a → Word b
fewer-word a b t w = omega (arith, eqb→eq (bit_and a b) b t, and_le_l a b)

module _ (t t' w : List ℕ) (k : Each Word t) (h : FewerTables t t') where
  -- sound together
  forth : (s : State) → Lent t w s → Lent t' w (reword (λ d. get_or t' (word_place t d) 0) s)
  forth s l = lent-reword t t' w s l h.same_length h.others (λ d u. fewer-word _ _ (h.fewer d u) (word_at t (word_place t d) k))

  back : (s : State) → Lent t' w s → Lent t w (reword (λ d. get_or t (word_place t' d) 0) s)
  back s l = lent-reword t' t w s l (sym h.same_length) (others-back t t' h.others) (λ d u. word_at t (word_place t' d) k)

  fewer-slot : (s : State) → Lent t w s → (d : ℕ) (o : Option Domain) → at_slot s.domains d ≡ o → FewerDomain o (reword_in (get_or t' (word_place t d) 0) o)
  fewer-slot s l d none e = free
  fewer-slot s l d (some x) e = used x (get_or t' (word_place t d) 0) (subst (λ n. T (contains n (get_or t' (word_place t d) 0))) (lent-word t w s l d x e) (h.fewer d (lent-use t w s l d x e)))

  fewer-states : (s : State) → Lent t w s → Fewer s (reword (λ d. get_or t' (word_place t d) 0) s)
  fewer-states s l = record {
    sizes = refl;
    domain_pool = refl;
    region_pool = refl;
    record_pool = refl;
    regions = refl;
    queue = refl;
    domains_length = reword-length _ s.domains;
    domains = λ d. subst (FewerDomain (at_slot s.domains d)) (sym (reword-at _ s.domains d)) (fewer-slot s l d (at_slot s.domains d) refl);
  }

-- ---- the claim

yes-no : (v : Value) (r : Refusal) → Answer.yes v ≡ Answer.no r → ⊥
yes-no v r e = let z : ◌≡◌ {A = ℕ} 0 1 = cc in omega arith

-- the answer of a step is a refusal exactly if the call is refused
refusal-of : (s : State) (m : Outcome (Value × State)) (r : Refusal) → (after s m).0 ≡ Answer.no r → m ≡ refuse r
refusal-of s (ok x) r e = absurd (yes-no x.0 r e)
refusal-of s (refuse q) r e = let z : q ≡ r = cc in ap refuse z

-- an answer that is a refusal too: the same one, or 20
abbrev Too : Refusal → Answer → Type 0
Too r y = (q : Refusal) × (y ≡ Answer.no q) × ((q ≡ r) ⊎ (q ≡ not_allowed))

step-too : (s s' : State) → Fewer s s' → (c : Call) (r : Refusal) → (step s c).0 ≡ Answer.no r → Too r (step s' c).0
unfolding step
step-too s s' h c r e = let (q, p, o) = fewer-bits s s' h c r (refusal-of s (perform s c) r e) in (q, ap (λ m. (after s' m).0) p, o)

module _ (t t' w : List ℕ) (k : Each Word t) (h : FewerTables t t') where
  lent-too : {c : Call} {x y : Answer} {t₁ w₁ t₂ w₂ : List ℕ} → After t w c x t₁ w₁ → After t' w c y t₂ w₂ → (r : Refusal) → x ≡ Answer.no r → Too r y
  lent-too (made z) (made z') r e = (r, ap (λ n. made_answer (make_in n (length w) z)) h.same_length ∙ e, inl refl)
  lent-too (made z) (not_sound c q u) r e = absurd q
  lent-too (made z) (performed c s q l) r e = absurd q
  lent-too (not_sound c q u) (made z) r e = absurd q
  lent-too (not_sound c q u) (not_sound c' q' u') r e = (r, e, inl refl)
  lent-too (not_sound c q u) (performed c' s q' l) r e = absurd (u _ (back t t' w k h s l))
  lent-too (performed c s q l) (made z) r e = absurd q
  lent-too (performed c s q l) (not_sound c' q' u) r e = absurd (u _ (forth t t' w k h s l))
  lent-too (performed c s q l) (performed c' s' q' l') r e =
      let f = forth t t' w k h s l in
      let same = words-unique _ s' f.sound l'.sound (sym f.tables ∙ l'.tables) in
      subst (λ x. Too r (step x c).0) same (step-too s _ (fewer-states t t' w k h s l) c r e)

-- Of lent memory, whatever it holds: a call that is refused on the tables t is refused on t', with the same number or with 20. Memory is of 64-bit words:
-- a number above could lose bits and so become a word. Eighteen of the exported functions are such a call by their contracts; the two that fill a run are by
-- way of it, and `fewer-exported` (crate promise) says it of all twenty. The converter is left out: no domain calls it, and it asks for no bit.
pub fewer-lent : (t t' w t₁ w₁ t₂ w₂ : List ℕ) (c : Call) (r : Refusal) (y : Answer) → Each Word t → FewerTables t t' → After t w c (Answer.no r) t₁ w₁ → After t' w c y t₂ w₂ → (q : Refusal) × (y ≡ Answer.no q) × ((q ≡ r) ⊎ (q ≡ not_allowed))
fewer-lent t t' w t₁ w₁ t₂ w₂ c r y k h a b = lent-too t t' w k h a b r refl
