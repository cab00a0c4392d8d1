-- Updates that are queued: what a list of them says of each by its number, and what an update's words say of it.
use Rattle.std.specs.Prelude.{◌≡◌, refl, ℕ, zero, suc, ◌+◌, ◌≤◌, ◌<◌, Bool, true, false, List, ◌∷◌, map, eqb}
use Rattle.std.proofs.Common.{sym, ap, subst, ◌∙◌, arith, eqb→eq, eq-eqb, ne_eqb}
use Rattle.std.proofs.Math.Decide.{ℕ_discrete}
use Rattle.std.specs.Float.Ieee.Fits.{and_l, and_r}
use Rattle.base.specs.Cases.{lt, ge, cmp}
use Rattle.base.specs.Tests.{true-is, true-false}
use Rattle.model.specs.Lists.{one_if, count_if, Each, count_up}
use Rattle.model.specs.State as state
use Rattle.model.specs.State.{permission, cleanup}
use Rattle.model.specs.Updates.{is_permission_of}
use Rattle.model.specs.Sound.{Singly}
use Rattle.tables.specs.declared.Update.{Update}
use Rattle.decoded.specs.Decode.Read.{update_from}

-- ---- lists by number

pub each-up : {A : Type 0} (P : A → Type 0) (g : ℕ → A) (k m : ℕ) → ((j : ℕ) → k ≤ j → j < k + m → P (g j)) → Each P (map g (count_up k m))
each-up P g k zero h = tt
each-up P g k (suc m) h = (h k (omega arith) (omega arith), each-up P g (suc k) m (λ j a b. h j (omega arith) (omega arith)))

pub up-each : {A : Type 0} (P : A → Type 0) (g : ℕ → A) (k m : ℕ) → Each P (map g (count_up k m)) → (j : ℕ) → k ≤ j → j < k + m → P (g j)
up-each P g k zero h j a b = absurd (omega arith)
up-each P g k (suc m) h j a b = elim (cmp k j) [
  | lt q ↦ up-each P g (suc k) m h.1 j q (omega arith)
  | ge q ↦ let e : k ≡ j = omega arith in subst (λ i. P (g i)) e h.0
]

none-up : {A : Type 0} (p : A → Bool) (g : ℕ → A) (k m : ℕ) → ((j : ℕ) → k ≤ j → j < k + m → p (g j) ≡ false) → count_if p (map g (count_up k m)) ≡ 0
none-up p g k zero h = refl
none-up p g k (suc m) h = omega (arith, ap one_if (h k (omega arith) (omega arith)), none-up p g (suc k) m (λ j a b. h j (omega arith) (omega arith)))

some_up : {A : Type 0} (p : A → Bool) (g : ℕ → A) (k m j : ℕ) → k ≤ j → j < k + m → p (g j) ≡ true → 0 < count_if p (map g (count_up k m))
some_up p g k zero j a b e = absurd (omega arith)
some_up p g k (suc m) j a b e = elim (cmp k j) [
  | lt q ↦ omega (arith, some_up p g (suc k) m j q (omega arith) e)
  | ge q ↦ let z : k ≡ j = omega arith in omega (arith, ap one_if (ap (λ i. p (g i)) z ∙ e))
]

-- ---- queued singly

-- no later update is of the same handle
abbrev pub Apart : (ℕ → state.Update) → ℕ → ℕ → Type 0
Apart g k m = (i j : ℕ) → k ≤ i → i < j → j < k + m → (h : state.Handle) (c x : ℕ) → g i ≡ permission h c x → is_permission_of h (g j) ≡ false

pub apart-singly : (g : ℕ → state.Update) (k m : ℕ) → Apart g k m → Singly (map g (count_up k m))
apart-singly g k zero h = tt
apart-singly g k (suc m) h = go (g k) refl (apart-singly g (suc k) m (λ i j a b d. h i j (omega arith) b (omega arith)))
  where
    go : (u : state.Update) → g k ≡ u → Singly (map g (count_up (suc k) m)) → Singly (u ∷ map g (count_up (suc k) m))
    go (permission y c x) e r = (none-up (is_permission_of y) g (suc k) m (λ j a b. h k j (omega arith) a (omega arith) y c x e), r)
    go (cleanup a b) e r = r

singly-rest : (u : state.Update) (us : List state.Update) → Singly (u ∷ us) → Singly us
singly-rest (permission h c x) us s = s.1
singly-rest (cleanup a b) us s = s

singly-first : (u : state.Update) (us : List state.Update) → Singly (u ∷ us) → (h : state.Handle) (c x : ℕ) → u ≡ permission h c x → count_if (is_permission_of h) us ≡ 0
singly-first u us s h c x e = (subst (λ (y : state.Update). Singly (y ∷ us)) e s).0

pub singly-apart : (g : ℕ → state.Update) (k m : ℕ) → Singly (map g (count_up k m)) → (i j : ℕ) → k ≤ i → i < j → j < k + m → (h : state.Handle) (c x : ℕ) → g i ≡ permission h c x → is_permission_of h (g j) ≡ true → ⊥
singly-apart g k zero s i j a b d h c x e t = omega arith
singly-apart g k (suc m) s i j a b d h c x e t = elim (cmp k i) [
  | lt q ↦ singly-apart g (suc k) m (singly-rest (g k) (map g (count_up (suc k) m)) s) i j q b (omega arith) h c x e t
  | ge q ↦
      let z : k ≡ i = omega arith in
      let n = singly-first (g k) (map g (count_up (suc k) m)) s h c x (ap g z ∙ e) in
      omega (arith, n, some_up (is_permission_of h) g (suc k) m j (omega arith) (omega arith) t)
]

-- ---- an update's words

abbrev kind_in : state.Update → ℕ
kind_in (permission h c x) = 1
kind_in (cleanup a b) = 0

abbrev slot_in : state.Update → ℕ
slot_in (permission h c x) = h.slot
slot_in (cleanup a b) = 0

abbrev gen_in : state.Update → ℕ
gen_in (permission h c x) = h.generation
gen_in (cleanup a b) = 0

pub permission-read : (u : Update) (x : ℕ) → u.kind ≡ 1 → update_from u x ≡ permission (record { slot = u.a; generation = u.b }) u.c x
permission-read u x e = rw (eq-eqb u.kind 1 e)

pub cleanup-read : (u : Update) (x : ℕ) → (u.kind ≡ 1 → ⊥) → update_from u x ≡ cleanup u.a u.b
cleanup-read u x e = rw (ne_eqb u.kind 1 e)

pub permission-is : (u : Update) (x : ℕ) (h : state.Handle) (c y : ℕ) → update_from u x ≡ permission h c y → (u.kind ≡ 1) × (u.a ≡ h.slot) × (u.b ≡ h.generation)
permission-is u x h c y e = elim (ℕ_discrete u.kind 1) [
  | yes k ↦ let p = sym (permission-read u x k) ∙ e in (k, ap slot_in p, ap gen_in p)
  | no k ↦ absurd (let z = ap kind_in (sym (cleanup-read u x k) ∙ e) in omega arith)
]

pub names-is : (u : Update) (x : ℕ) (h : state.Handle) → is_permission_of h (update_from u x) ≡ true → (u.kind ≡ 1) × (h.slot ≡ u.a) × (h.generation ≡ u.b)
names-is u x h t = elim (ℕ_discrete u.kind 1) [
  | yes k ↦
      let y = true-is (ap (is_permission_of h) (sym (permission-read u x k)) ∙ t) in
      (k, eqb→eq h.slot u.a (and_l (eqb h.slot u.a) (eqb h.generation u.b) y), eqb→eq h.generation u.b (and_r (eqb h.slot u.a) (eqb h.generation u.b) y))
  | no k ↦ absurd (true-false t (ap (is_permission_of h) (cleanup-read u x k)))
]

pub is-names : (u : Update) (x : ℕ) (h : state.Handle) → u.kind ≡ 1 → h.slot ≡ u.a → h.generation ≡ u.b → is_permission_of h (update_from u x) ≡ true
is-names u x h k a b = ap (is_permission_of h) (permission-read u x k) ∙ rw (eq-eqb h.slot u.a a, eq-eqb h.generation u.b b)
