-- One update with its marks, and two: what the ring's test says of their words.
use Rattle.std.specs.Prelude.{◌≡◌, ◌≢◌, ℕ, ◌<◌, true, eqb}
use Rattle.std.proofs.Common.{arith, ltb-true, eqb-true, lt-ltb, eq-eqb, ne_eqb}
use Rattle.std.proofs.Math.Decide.{ℕ_discrete}
use Rattle.base.specs.Cases.{lt, ge, cmp}
use Rattle.base.specs.Tests.{both, both_true}
use Rattle.tables.specs.declared.Update.{Update}
use Rattle.tables.specs.Tables.{no_update}
use Rattle.decoded.specs.Canonical.WellFormed.{UpdateWellFormed}
use Rattle.sound_updates.specs.Updates.{clear_b, well_formed_b, marks_fit, same_domain}

pub zero_is : (u : Update) → clear_b u ≡ true → u ≡ no_update
zero_is u t =
    let p = both_true (both (eqb u.kind 0) (eqb u.a 0)) (both (eqb u.b 0) (eqb u.c 0)) t in
    let q = both_true (eqb u.kind 0) (eqb u.a 0) p.0 in
    let r = both_true (eqb u.b 0) (eqb u.c 0) p.1 in
    let e₀ = eqb-true u.kind 0 q.0 in
    let e₁ = eqb-true u.a 0 q.1 in
    let e₂ = eqb-true u.b 0 r.0 in
    let e₃ = eqb-true u.c 0 r.1 in
    λ i. record { kind = e₀ i; a = e₁ i; b = e₂ i; c = e₃ i }

-- the marks beside a permission update are five bits, and beside anything else none
pub fit_small : (u : Update) (x : ℕ) → marks_fit u x ≡ true → u.kind ≡ 1 → x < 32
unfolding marks_fit
fit_small u x h e = ltb-true x 32 (rw (eq-eqb u.kind 1 e) at h)

pub fit_none : (u : Update) (x : ℕ) → marks_fit u x ≡ true → u.kind ≢ 1 → x ≡ 0
unfolding marks_fit
fit_none u x h ne = eqb-true x 0 (rw (ne_eqb u.kind 1 ne) at h)

pub marks-fit : (u : Update) (x : ℕ) → (u.kind ≡ 1 → x < 32) → (u.kind ≢ 1 → x ≡ 0) → marks_fit u x ≡ true
unfolding marks_fit
marks-fit u x l z = elim (ℕ_discrete u.kind 1) [
  | yes e ↦ rw (eq-eqb u.kind 1 e) (lt-ltb x 32 (l e))
  | no ne ↦ rw (ne_eqb u.kind 1 ne) (eq-eqb x 0 (z ne))
]

pub well-formed-is : (u : Update) (x : ℕ) → well_formed_b u ≡ true → marks_fit u x ≡ true → UpdateWellFormed u x
well-formed-is u x h f = elim (ℕ_discrete u.kind 1) [
  | yes e ↦ record { kind_low = omega arith; kind_high = omega arith; cleanup_clear = λ z. absurd (omega arith); cleanup_marks = λ z. absurd (omega arith) }
  | no ne ↦
      let p = both_true (eqb u.kind 2) (eqb u.c 0) (rw (ne_eqb u.kind 1 ne) at h) in
      let k = eqb-true u.kind 2 p.0 in
      record { kind_low = omega arith; kind_high = omega arith; cleanup_clear = λ z. eqb-true u.c 0 p.1; cleanup_marks = λ z. fit_none u x f ne }
]

-- a queued update that is no permission is a cleanup
pub is-cleanup : (u : Update) (x : ℕ) → UpdateWellFormed u x → u.kind ≢ 1 → u.kind ≡ 2
is-cleanup u x t ne = elim (cmp 1 u.kind) [ lt h ↦ omega (arith, t.kind_high) | ge h ↦ absurd (ne (omega (arith, t.kind_low))) ]

pub is-well-formed : (u : Update) (x : ℕ) → UpdateWellFormed u x → well_formed_b u ≡ true
is-well-formed u x t = elim (ℕ_discrete u.kind 1) [
  | yes e ↦ rw (eq-eqb u.kind 1 e)
  | no ne ↦ let k = is-cleanup u x t ne in rw (ne_eqb u.kind 1 ne, eq-eqb u.kind 2 k, eq-eqb u.c 0 (t.cleanup_clear k))
]

pub record Same (u x : Update) : Type 0 where
  pub one : u.kind ≡ 1
  pub other : x.kind ≡ 1
  pub slot : u.a ≡ x.a
  pub generation : u.b ≡ x.b

pub is_same : (u x : Update) → Same u x → same_domain u x ≡ true
unfolding same_domain
is_same u x h = rw (eq-eqb u.kind 1 h.one, eq-eqb x.kind 1 h.other, eq-eqb u.a x.a h.slot, eq-eqb u.b x.b h.generation)

pub same-is : (u x : Update) → same_domain u x ≡ true → Same u x
unfolding same_domain
same-is u x h =
    let p = both_true (both (eqb u.kind 1) (eqb x.kind 1)) (both (eqb u.a x.a) (eqb u.b x.b)) h in
    let q = both_true (eqb u.kind 1) (eqb x.kind 1) p.0 in
    let r = both_true (eqb u.a x.a) (eqb u.b x.b) p.1 in
    record { one = eqb-true u.kind 1 q.0; other = eqb-true x.kind 1 q.1; slot = eqb-true u.a x.a r.0; generation = eqb-true u.b x.b r.1 }
