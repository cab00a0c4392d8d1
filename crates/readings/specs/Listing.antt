-- The permission list, record by record, and what a loop that stores them one by one leaves in the run.
use Rattle.std.specs.Prelude.{◌≡◌, refl, Bool, true, false, List, [], ◌∷◌, map, ℕ, zero, suc, ◌+◌, ◌≤◌, ltb, eqb, length, set}
use Rattle.std.proofs.Common.{sym, ◌∙◌, ap, zero-add, add-zero, suc-add, add-suc, arith, lt-ltb, le-ltb, ltb-true, length-set}
use Rattle.std.proofs.Math.Dec.{leb-suc-suc}
use Rattle.base.specs.Cases.{pick}
use Rattle.tables.specs.Tables.{Tables, record_at}
use Rattle.readings.specs.declared.Permission.{Permission}
use Rattle.tables.specs.Links.{slot_to}
use Rattle.tracker_records.specs.Links.{first_link}
use Rattle.readings.specs.Readings.{records_from, records_of, permission_of, permission_list, found_at, plan_of, fill_run}

abbrev pub list_from : Tables → ℕ → ℕ → List Permission
list_from s n k = map permission_of (records_from n s k)

-- the run after j more turns, from place i and link k on
abbrev stored : Tables → ℕ → ℕ → ℕ → List Permission → List Permission
stored s zero i k ys = ys
stored s (suc j) i k ys = stored s j (suc i) (found_at s k).next (set ys i (found_at s k).p)

-- a loop that begins past the first place leaves it
stored_past : (s : Tables) (j i k : ℕ) (y : Permission) (ys : List Permission) → stored s j (suc i) k (y ∷ ys) ≡ y ∷ stored s j i k ys
stored_past s zero i k y ys = refl
stored_past s (suc j) i k y ys = stored_past s j (suc i) (found_at s k).next y (set ys i (found_at s k).p)

-- ---- as many turns as there are records, or places

abbrev fewer : ℕ → ℕ → ℕ
fewer a b = pick (ltb a b) a b

fewer-zero : (n : ℕ) → fewer 0 n ≡ 0
fewer-zero zero = refl
fewer-zero (suc n) = ap (λ (b : Bool). pick b 0 (suc n)) (lt-ltb 0 (suc n) (omega arith))

fewer-none : (n : ℕ) → fewer n 0 ≡ 0
fewer-none n = ap (λ (b : Bool). pick b n 0) (le-ltb n 0 (omega arith))

pick-suc : (b : Bool) (m n : ℕ) → pick b (suc m) (suc n) ≡ suc (pick b m n)
pick-suc true m n = refl
pick-suc false m n = refl

fewer-suc : (m n : ℕ) → fewer (suc m) (suc n) ≡ suc (fewer m n)
fewer-suc m n = ap (λ (b : Bool). pick b (suc m) (suc n)) (leb-suc-suc (suc m) n) ∙ pick-suc (ltb m n) m n

fewer-le : (m n : ℕ) (b : Bool) → ltb m n ≡ b → pick b m n ≤ n
fewer-le m n true e = omega (arith, ltb-true m n e)
fewer-le m n false e = omega arith

-- ---- the loop writes the list into the run

no-turn : (s : Tables) (k : ℕ) (l xs : List Permission) → fewer (length l) (length xs) ≡ 0 → fill_run l xs ≡ xs → stored s (fewer (length l) (length xs)) 0 k xs ≡ fill_run l xs
no-turn s k l xs e o = ap (λ (j : ℕ). stored s j 0 k xs) e ∙ sym o

one-turn : (s : Tables) (n k : ℕ) (x : Permission) (xs : List Permission)
    → stored s (fewer (length (list_from s n (found_at s k).next)) (length xs)) 0 (found_at s k).next xs ≡ fill_run (list_from s n (found_at s k).next) xs → (b : Bool)
    → (let l = map permission_of (pick b [] (record_at s (slot_to k) ∷ records_from n s (found_at s k).next)) in stored s (fewer (length l) (suc (length xs))) 0 k (x ∷ xs) ≡ fill_run l (x ∷ xs))
one-turn s n k x xs h true = no-turn s k [] (x ∷ xs) (fewer-zero (suc (length xs))) refl
one-turn s n k x xs h false =
    let m = fewer (length (list_from s n (found_at s k).next)) (length xs) in
    ap (λ (j : ℕ). stored s j 0 k (x ∷ xs)) (fewer-suc (length (list_from s n (found_at s k).next)) (length xs))
    ∙ stored_past s m 0 (found_at s k).next (found_at s k).p xs ∙ ap (◌∷◌ (found_at s k).p) h

filled : (s : Tables) (n k : ℕ) (xs : List Permission) → stored s (fewer (length (list_from s n k)) (length xs)) 0 k xs ≡ fill_run (list_from s n k) xs
unfolding records_from
filled s n k [] = no-turn s k (list_from s n k) [] (fewer-none (length (list_from s n k))) refl
filled s zero k (x ∷ xs) = no-turn s k [] (x ∷ xs) (fewer-zero (suc (length xs))) refl
filled s (suc n) k (x ∷ xs) = one-turn s n k x xs (filled s n (found_at s k).next xs) (eqb k 0)

-- ---- the state after i turns, from link k and the run xs: the next link, and the run

abbrev pub link_at : Tables → ℕ → ℕ → ℕ
link_at s k zero = k
link_at s k (suc i) = (found_at s (link_at s k i)).next

abbrev pub run_at : Tables → ℕ → List Permission → ℕ → List Permission
run_at s k xs zero = xs
run_at s k xs (suc i) = set (run_at s k xs i) i (found_at s (link_at s k i)).p

pub run_length : (s : Tables) (k : ℕ) (xs : List Permission) (i : ℕ) → length (run_at s k xs i) ≡ length xs
run_length s k xs zero = refl
run_length s k xs (suc i) = length-set (run_at s k xs i) i (found_at s (link_at s k i)).p ∙ run_length s k xs i

run-stored : (s : Tables) (k : ℕ) (xs : List Permission) (j i : ℕ) → stored s j i (link_at s k i) (run_at s k xs i) ≡ run_at s k xs (i + j)
run-stored s k xs zero i = ap (run_at s k xs) (sym (add-zero i))
run-stored s k xs (suc j) i = run-stored s k xs j (suc i) ∙ ap (run_at s k xs) (suc-add i j ∙ sym (add-suc i j))

-- ---- what the plan makes of the run; no turn stores past it

pub plan_run : (s : Tables) (d : ℕ) (xs : List Permission) → run_at s (plan_of s d (length xs)).at xs (plan_of s d (length xs)).turns ≡ fill_run (permission_list s d) xs
unfolding permission_list records_of
plan_run s d xs =
    let m = fewer (length (permission_list s d)) (length xs) in
    ap (run_at s (first_link s d) xs) (sym (zero-add m)) ∙ sym (run-stored s (first_link s d) xs m 0) ∙ filled s s.sizes.records (first_link s d) xs

pub plan-turns : (s : Tables) (d room : ℕ) → (plan_of s d room).turns ≤ room
plan-turns s d room = fewer-le (length (permission_list s d)) room (ltb (length (permission_list s d)) room) refl
