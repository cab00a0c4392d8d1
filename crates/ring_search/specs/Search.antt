-- The search for a domain in a ring is the search in its queue, and so is queueing.
use Rattle.std.specs.Prelude.{ℕ, zero, suc, ◌+◌, ◌-◌, ◌%◌, ◌<◌, ◌≤◌, ◌≡◌, refl, ◌≢◌, Bool, true, false, List, [], ◌∷◌, ltb, eqb, length, get_or, set}
use Rattle.std.proofs.Common.{sym, ◌∙◌, mod-lt, arith, lt-ltb, eq-eqb, ne_eqb}
use Rattle.std.proofs.Math.Path.{ap}
use Rattle.std.proofs.Math.Nat.{mod-add-mod}
use Rattle.base.specs.Cases.{pick, test, holds, fails}
use Rattle.base.specs.Tests.{true-false}
use Rattle.base.specs.Rounds.{along-at}
use Rattle.ring.specs.declared.Entry.{Entry}
use Rattle.ring.specs.declared.Ring.{Ring}
use Rattle.ring.specs.Ring.{cap, no_entry, after_of, permission_of, push_of}
use Rattle.ring_search.specs.Queueing.{names_of, place_from, place_of, gathered, found_b, queue_of}
use Rattle.ring.specs.Turns.{after_is, away, turn-none}
use Rattle.ring.proofs.Queue.{Queues, set-queues}

-- whether a permission update of the domain is among the entries
abbrev pub any_names : ℕ → ℕ → List Entry → Bool
any_names d g [] = false
any_names d g (e ∷ es) = pick (names_of e.update d g) true (any_names d g es)

-- how far on the first one is; as far as the entries go where there is none
abbrev pub first_names : ℕ → ℕ → List Entry → ℕ
first_names d g [] = 0
first_names d g (e ∷ es) = pick (names_of e.update d g) 0 (suc (first_names d g es))

-- marks m join those of the first one
abbrev pub gather_first : ℕ → ℕ → ℕ → List Entry → List Entry
gather_first d g m [] = []
gather_first d g m (e ∷ es) = pick (names_of e.update d g) (gathered e m ∷ es) (e ∷ gather_first d g m es)

-- ---- in the entries

first-none : (d g : ℕ) (es : List Entry) → any_names d g es ≡ false → first_names d g es ≡ length es
first-none d g [] h = refl
first-none d g (e ∷ es) h = elim (test (names_of e.update d g)) [
  | holds t ↦ let k : true ≡ false = rw t at h in absurd (true-false refl k)
  | fails t ↦ rw t (ap suc (first-none d g es (rw t at h)))
]

first_some : (d g : ℕ) (es : List Entry) → any_names d g es ≡ true → first_names d g es < length es
first_some d g [] h = absurd (true-false h refl)
first_some d g (e ∷ es) h = elim (test (names_of e.update d g)) [
  | holds t ↦ rw t (omega arith)
  | fails t ↦ let k = first_some d g es (rw t at h) in rw t (omega arith)
]

gather-set : (d g m : ℕ) (es : List Entry) → gather_first d g m es ≡ set es (first_names d g es) (gathered (get_or es (first_names d g es) no_entry) m)
gather-set d g m [] = refl
gather-set d g m (e ∷ es) = elim (test (names_of e.update d g)) [
  | holds t ↦ rw t
  | fails t ↦ rw t (ap (λ (l : List Entry). e ∷ l) (gather-set d g m es))
]

-- ---- in the ring

-- the entries es stand from place i on, up to the write place
abbrev Along : Ring → ℕ → List Entry → Type 0
Along r i [] = i ≡ r.write
Along r i (e ∷ es) = (i ≢ r.write) × (i < cap) × (get_or r.places i no_entry ≡ e) × Along r (after_of i r.size) es

-- one place on, and k from there
on : (n i k : ℕ) → i < n → (i + suc k) % n ≡ (after_of i n + k) % n
on n i k h = let e : i + suc k ≡ i + 1 + k = omega arith in rw (after_is i n h, e) (sym (mod-add-mod (i + 1) n k))

after-inside : (n i : ℕ) → i < n → after_of i n < n
after-inside n i h = rw (after_is i n h) (mod-lt (i + 1) {m = n} (omega arith))

along-search : (r : Ring) (d g n i : ℕ) (es : List Entry) → length es ≤ n → i < r.size → Along r i es → place_from r d g n i ≡ (i + first_names d g es) % r.size
unfolding place_from
along-search r d g zero i [] h hi a = sym (turn-none r.size i hi ∙ a)
along-search r d g zero i (e ∷ es) h hi a = absurd (omega arith)
along-search r d g (suc n) i [] h hi a = rw (eq-eqb i r.write a) (sym (turn-none r.size i hi ∙ a))
along-search r d g (suc n) i (e ∷ es) h hi a =
    let ih = along-search r d g n (after_of i r.size) es (omega arith) (after-inside r.size i hi) a.3 in
    rw (ne_eqb i r.write a.0, lt-ltb i cap a.1, a.2) (elim (test (names_of e.update d g)) [
      | holds t ↦ rw t (sym (turn-none r.size i hi))
      | fails t ↦ rw t (ih ∙ sym (on r.size i (first_names d g es) hi))
    ])

-- where no place is found, it is the write place
missed-from : (r : Ring) (d g n i : ℕ) → found_b r (place_from r d g n i) ≡ false → place_from r d g n i ≡ r.write
unfolding place_from
missed-from r d g zero i h = refl
missed-from r d g (suc n) i h = elim (test (eqb i r.write)) [
  | holds t ↦ rw t
  | fails t ↦ elim (test (ltb i cap)) [
    | fails u ↦ rw (t, u)
    | holds u ↦ elim (test (names_of (get_or r.places i no_entry).update d g)) [
      | holds v ↦ let k : found_b r i ≡ false = rw (t, u, v) at h in let z : true ≡ false = rw (t, u) at k in absurd (true-false refl z)
      | fails v ↦ rw (t, u, v) (missed-from r d g n (after_of i r.size) (rw (t, u, v) at h))
    ]
  ]
]

pub place-missed : (r : Ring) (d g : ℕ) → found_b r (place_of r d g) ≡ false → place_of r d g ≡ r.write
unfolding place_of
place-missed r d g h = missed-from r d g cap r.read h

module _ (r : Ring) (high : r.size ≤ cap) where
  stands-along : (es : List Entry) (i : ℕ) → i < r.size → length es < r.size → r.write ≡ (i + length es) % r.size
      → ((k : ℕ) → k < length es → get_or r.places ((i + k) % r.size) no_entry ≡ get_or es k no_entry) → Along r i es
  stands-along [] i hi few w at = sym (w ∙ turn-none r.size i hi)
  stands-along (e ∷ es) i hi few w at =
      let here : get_or r.places i no_entry ≡ e = rw (turn-none r.size i hi) at (at 0 (omega arith)) in (
        λ d. away r.size i hi (suc (length es)) (omega arith) few (sym w ∙ sym d),
        omega arith,
        here,
        stands-along es (after_of i r.size) (after-inside r.size i hi) (omega arith) (w ∙ on r.size i (length es) hi)
            (λ k h. rw (on r.size i k hi) at (at (suc k) (omega arith))),
      )

module _ (r : Ring) (f : ℕ) (items : List Entry) (q : Queues r f items) where
  stands : (k : ℕ) → k < length items → get_or r.places ((f + k) % r.size) no_entry ≡ get_or items k no_entry
  stands k h =
      q.place ((f + k) % r.size) (mod-lt (f + k) {m = r.size} (omega (arith, q.inside)))
      ∙ ap (λ (x : ℕ). get_or items x no_entry) (along-at r.size f q.inside k (omega (arith, q.few)))

  -- the place of the first one; the write place where there is none
  pub place-first : (d g : ℕ) → place_of r d g ≡ (f + first_names d g items) % r.size
  unfolding place_of
  place-first d g =
      ap (place_from r d g cap) q.read
      ∙ along-search r d g cap f items (omega (arith, q.few, q.high)) q.inside (stands-along r q.high items f q.inside q.few q.write stands)

  -- an entry's place is not the write place
  found : (j : ℕ) → j < length items → found_b r ((f + j) % r.size) ≡ true
  found j h =
      let p = (f + j) % r.size in
      let low : p < r.size = mod-lt (f + j) {m = r.size} (omega (arith, q.inside)) in
      let along : (k : ℕ) → k < r.size → ((f + k) % r.size + r.size - f) % r.size ≡ k = along-at r.size f q.inside in
      let d : p ≢ r.write = λ e.
      let s : j ≡ length items = sym (along j (omega (arith, q.few))) ∙ ap (λ (x : ℕ). (x + r.size - f) % r.size) (e ∙ q.write) ∙ along (length items) q.few in
      omega arith in
      rw (ne_eqb p r.write d, lt-ltb p cap (omega (arith, q.high)))

  missed : found_b r ((f + length items) % r.size) ≡ false
  missed = rw (eq-eqb ((f + length items) % r.size) r.write (sym q.write))

  -- a place is found where the domain is queued
  pub found-any : (d g : ℕ) → found_b r (place_of r d g) ≡ any_names d g items
  found-any d g = elim (test (any_names d g items)) [
    | holds t ↦ rw (place-first d g, found (first_names d g items) (first_some d g items t)) (sym t)
    | fails t ↦ rw (place-first d g, first-none d g items t, missed) (sym t)
  ]

  -- a domain that is not queued joins the end
  pub queue-new : (d g c m : ℕ) → any_names d g items ≡ false → queue_of r d g c m ≡ push_of r (permission_of d g c m)
  unfolding queue_of
  queue-new d g c m h = rw (found-any d g ∙ h)

  -- one that is queued already keeps its place, and its marks are gathered
  pub queue-gathers : (d g c m : ℕ) → any_names d g items ≡ true
      → ((queue_of r d g c m).ok ≡ true) × Queues (queue_of r d g c m).ring f (gather_first d g m items)
  unfolding queue_of
  queue-gathers d g c m h =
      let j = first_names d g items in
      let low = first_some d g items h in
      let u = gathered (get_or items j no_entry) m in
      rw (place-first d g, found j low, stands j low, gather-set d g m items) (refl, set-queues r f items q j u low)
