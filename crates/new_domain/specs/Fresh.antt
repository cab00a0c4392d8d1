-- The list of a new domain, place by place.
use Rattle.std.specs.Prelude.{◌≡◌, refl, List, [], ◌∷◌, ◌++◌, ℕ, zero, suc, ◌+◌, ◌-◌, ◌<◌, ltb, length, set, replicate}
use Rattle.std.proofs.Common.{sym, ap, ◌∙◌, append-nil, append_assoc, add-one, arith}
use Rattle.std.proofs.lemmas.List.{set_at}
use Rattle.sizes.specs.Limits.{most_slots}
use Rattle.base.specs.Cases.{pick}
use Rattle.tables.specs.declared.Slot.{Slot}
use Rattle.tables.specs.Tables.{no_slot}
use Rattle.slot_list.specs.Lists.{free_slot}
use Rattle.new_domain.specs.Opened.{fresh_from}

-- place i
unfoldable pub fresh_slot : ℕ → ℕ → Slot
fresh_slot n i = pick (ltb i n) (free_slot (pick (ltb (i + 1) n) (i + 1) 0)) no_slot

length-fresh : (n m i : ℕ) → length (fresh_from n m i) ≡ m
unfolding fresh_from
length-fresh n zero i = refl
length-fresh n (suc m) i = rw (length-fresh n m (suc i))

-- one place more, at the end
fresh-more : (n m i : ℕ) → fresh_from n (suc m) i ≡ fresh_from n m i ++ (fresh_slot n (i + m) ∷ [])
unfolding fresh_from fresh_slot
fresh-more n zero i = let e : i + 0 ≡ i = omega arith in rw e
fresh-more n (suc m) i = let e : i + suc m ≡ suc i + m = omega arith in rw e (ap (λ r. fresh_slot n i ∷ r) (fresh-more n m (suc i)))

-- the first i places are made
abbrev pub fresh_to : ℕ → ℕ → List Slot
fresh_to n i = fresh_from n i 0 ++ replicate (most_slots - i) no_slot

pub fresh-none : (n : ℕ) → fresh_to n 0 ≡ replicate most_slots no_slot
unfolding fresh_from
fresh-none n = refl

pub fresh-next : (n i : ℕ) → i < most_slots → set (fresh_to n i) i (fresh_slot n i) ≡ fresh_to n (i + 1)
fresh-next n i h =
    let x = fresh_slot n i in
    let rest : List Slot = replicate (most_slots - suc i) no_slot in
    let e : most_slots - i ≡ suc (most_slots - suc i) = omega arith in
    let z : 0 + i ≡ i = omega arith in
    let more : fresh_from n (suc i) 0 ≡ fresh_from n i 0 ++ (x ∷ []) = rw z at (fresh-more n i 0) in
    rw (e, add-one)
    (set_at (fresh_from n i 0) no_slot rest x i (length-fresh n i 0)
    ∙ sym (append_assoc (fresh_from n i 0) (x ∷ []) rest)
    ∙ ap (λ (r : List Slot). r ++ rest) (sym more))

pub fresh-all : (n i : ℕ) → i ≡ most_slots → fresh_to n i ≡ fresh_from n most_slots 0
fresh-all n i e = rw e (append-nil (fresh_from n most_slots 0))
