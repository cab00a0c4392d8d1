-- Equal words of the tracker records give each domain the same tracker: the first record's link starts it, each row holds a record and the next one's
-- link. A record's slot is used once over all domains, so the row is this domain's.
use Rattle.std.specs.Prelude.{◌≡◌, refl, ℕ, zero, suc, ◌≤◌, ◌<◌, List, [], ◌∷◌, map, eqb, get_or}
use Rattle.std.proofs.Common.{ap, sym, subst, ◌∙◌, arith, eq-eqb, ne_eqb}
use Rattle.std.proofs.Math.Option.{Option, none, some}
use Rattle.base.specs.Cases.{holds, fails, test}
use Rattle.model.specs.Lists.{count_if, In, first_of}
use Rattle.model.specs.State.{Record, Domain}
use Rattle.model.specs.Layout.{link, record_words, tracker_words, record_slot_words}
use Rattle.model.specs.Sound.{record_uses}
use Rattle.laws.specs.Stack.{one}

-- how many records of a tracker have slot i, and the slot of its first record; used only in proofs
abbrev pub uses : ℕ → List Record → ℕ
uses i l = count_if (λ q. eqb i q.slot) l

abbrev pub first_slot : List Record → Option ℕ
first_slot l = first_of (map (λ (q : Record). q.slot) l)

pub slots-uses : (k : ℕ) (l : List Record) → count_if (eqb k) (map (λ (q : Record). q.slot) l) ≡ uses k l
slots-uses k [] = refl
slots-uses k (q ∷ l) = omega (arith, slots-uses k l)

-- ---- the row of a record is that of the domain that has it

not-here : (i : ℕ) (l : List Record) (others : List ℕ) → uses i l ≡ 0 → tracker_words i l others ≡ others
not-here i [] others h = refl
not-here i (q ∷ l) others h = elim (test (eqb i q.slot)) [
  | holds t ↦ absurd (omega (arith, rw t at h))
  | fails t ↦ rw t (not-here i l others (omega (arith, rw t at h)))
]

here : (i : ℕ) (l : List Record) (others : List ℕ) → 0 < uses i l → tracker_words i l others ≡ tracker_words i l []
here i [] others h = absurd (omega arith)
here i (q ∷ l) others h = elim (test (eqb i q.slot)) [
  | holds t ↦ rw t
  | fails t ↦ rw t (here i l others (omega (arith, rw t at h)))
]

-- domain x has no more records in slot i than all domains have; if it has the only one, the row is its own
abbrev Owned : List (Option Domain) → Domain → ℕ → Type 0
Owned ds x i = (uses i x.tracker ≤ record_uses ds i) × (record_uses ds i ≤ 1 → 0 < uses i x.tracker → record_slot_words ds i ≡ tracker_words i x.tracker [])

owned-first : (ds : List (Option Domain)) (x : Domain) (i : ℕ) → Owned (some x ∷ ds) x i
owned-first ds x i = (omega arith, λ h u. here i x.tracker (record_slot_words ds i) u)

pub owned : (ds : List (Option Domain)) (d : ℕ) (x : Domain) → In ds d x → (i : ℕ) → Owned ds x i
owned [] d x e i = let z : ◌≡◌ {A = ℕ} 0 1 = cc in absurd (omega arith)
owned (none ∷ ds) zero x e i = let z : ◌≡◌ {A = ℕ} 0 1 = cc in absurd (omega arith)
owned (none ∷ ds) (suc d) x e i = owned ds d x e i
owned (some y ∷ ds) zero x e i =
    let z : y ≡ x = cc in
    subst (λ w. Owned (some w ∷ ds) x i) (sym z) (owned-first ds x i)
owned (some y ∷ ds) (suc d) x e i =
    let r = owned ds d x e i in
    (omega arith, λ h u. not-here i y.tracker (record_slot_words ds i) (omega arith) ∙ r.1 (omega arith) u)

-- ---- one tracker

same-record : (q r : Record) (next next' : Option ℕ) → q.slot ≡ r.slot → record_words q next ≡ record_words r next' → q ≡ r
same-record q r next next' s e =
    let word : (w : ℕ) → get_or (record_words q next) w 0 ≡ get_or (record_words r next') w 0 = λ w. ap (λ l. get_or l w 0) e in
    λ i. record {
      slot = s i;
      start = word 0 i;
      end = word 1 i;
      counts = record { reach = word 2 i; read = word 3 i; write = word 4 i; exec = word 5 i; super = word 6 i; uncacheable = word 7 i };
    }

pub same-tracker : (a b : List Record) → ((i : ℕ) → uses i a ≤ 1) → ((i : ℕ) → uses i b ≤ 1) → ((i : ℕ) → 0 < uses i a → 0 < uses i b → tracker_words i a [] ≡ tracker_words i b []) → link (first_slot a) ≡ link (first_slot b) → a ≡ b
same-tracker [] [] o o' rows f = refl
same-tracker [] (r ∷ b) o o' rows f = absurd (omega arith)
same-tracker (q ∷ a) [] o o' rows f = absurd (omega arith)
same-tracker (q ∷ a) (r ∷ b) o o' rows f =
    let tail = same-tracker a b (λ i. omega (arith, o i)) (λ i. omega (arith, o' i)) rest (ap (λ l. get_or l 8 0) row) in
    λ t. same-record q r (first_slot a) (first_slot b) s row t ∷ tail t
  where
    s : q.slot ≡ r.slot
    s = omega arith

    row : record_words q (first_slot a) ≡ record_words r (first_slot b)
    row =
        let i = q.slot in
        rw (eq-eqb i i refl, eq-eqb i r.slot s) at (rows i (omega (arith, one i i refl)) (omega (arith, one i r.slot s)))

    -- a record that is still to come is in another slot
    rest : (i : ℕ) → 0 < uses i a → 0 < uses i b → tracker_words i a [] ≡ tracker_words i b []
    rest i h h' = rw (ne_eqb i q.slot (λ e. omega (arith, o i, one i q.slot e)), ne_eqb i r.slot (λ e. omega (arith, o' i, one i r.slot e))) at (rows i (omega arith) (omega arith))
