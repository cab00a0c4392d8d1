-- A run of words that is filled with permissions, three words at a time.
use mathlib.Core.Path.{◌≡◌, refl, sym, ap, ◌∙◌}
use mathlib.Core.Bool.{Bool, true, false}
use mathlib.Core.List.{List, [], ◌∷◌, map}
use Prim.Native.Nat.{ℕ, zero, suc, ◌+◌, ◌-◌, ◌*◌, ◌≤◌, ◌<◌}
use native.Mathlib.Omega.{arith}
use borrow.Author.Tests.{ltb-false}
use lib.Dec.{ltb, eqb}
use lib.ListN.{length, set, length-set}
use Rattle.base.specs.Cases.{pick}
use Rattle.tables.specs.Tables.{Tables, record_at}
use Rattle.sizes.specs.Sizes.{sizes_of}
use Rattle.tables.specs.View.{view, of_parts, Sized}
use Rattle.tables.specs.Links.{slot_to}
use Rattle.tracker_records.specs.Links.{first_link}
use Rattle.readings.specs.declared.Permission.{Permission}
use Rattle.readings.specs.declared.Plan.{Plan}
use Rattle.readings.specs.Readings.{records_from, records_of, permission_of, permission_list, found_at, plan_of, fill_run}
use Rattle.readings.specs.Listing.{plan-turns as at_most, list_from}
use Rattle.readings.proofs.Runs.{fill_from, fill_none, fill-put}
use Rattle.bench.specs.Trackers.{words_of}

-- the permissions of j records from link k on
abbrev pub chain : Tables → ℕ → ℕ → List Permission
chain s zero k = []
chain s (suc j) k = (found_at s k).p ∷ chain s j (found_at s k).next

-- ---- the loop

-- with n records to come from link k on, and the next place i
pub record Listing (s : Tables) (n k i : ℕ) (run : List ℕ) (n₀ k₀ : ℕ) (run₀ : List ℕ) : Type 0 where
  pub fewer : n ≤ n₀
  pub place : i + 3 * n ≡ 3 * n₀
  pub same : length run ≡ length run₀
  pub words : fill_from i (words_of (chain s n k)) run ≡ fill_run (words_of (chain s n₀ k₀)) run₀

pub listing_start : (s : Tables) (n k : ℕ) (run : List ℕ) → Listing s n k 0 run n k run
listing_start s n k run = record { fewer = omega arith; place = omega arith; same = refl; words = refl }

pub listing-end : (s : Tables) (n k i : ℕ) (run : List ℕ) (n₀ k₀ : ℕ) (run₀ : List ℕ) (l : List Permission) → n ≤ 0 → Listing s n k i run n₀ k₀ run₀ → chain s n₀ k₀ ≡ l
    → run ≡ fill_run (words_of l) run₀
listing-end s n k i run n₀ k₀ run₀ l h f w =
    let e : n ≡ 0 = omega arith in
    let f₀ : Listing s 0 k i run n₀ k₀ run₀ = rw e at f in
    sym (fill_none i run) ∙ f₀.words ∙ ap (λ (m : List Permission). fill_run (words_of m) run₀) w

three : (i a b c : ℕ) (l run : List ℕ) → fill_from (suc (suc (suc i))) l (set (set (set run i a) (suc i) b) (suc (suc i)) c) ≡ fill_from i (a ∷ b ∷ c ∷ l) run
three i a b c l run = fill-put (suc (suc i)) c l (set (set run i a) (suc i) b) ∙ fill-put (suc i) b (c ∷ l) (set run i a) ∙ fill-put i a (b ∷ c ∷ l) run

-- a permission's three words at place i
abbrev pub put_at : List ℕ → ℕ → Permission → List ℕ
put_at run i p = set (set (set run i p.start) (i + 1) p.end) (i + 2) p.rights

put-length : (run : List ℕ) (i : ℕ) (p : Permission) → length (put_at run i p) ≡ length run
put-length run i p = length-set (set (set run i p.start) (i + 1) p.end) (i + 2) p.rights ∙ length-set (set run i p.start) (i + 1) p.end ∙ length-set run i p.start

pub listing-more : (s : Tables) (n k i : ℕ) (run : List ℕ) (n₀ k₀ : ℕ) (run₀ : List ℕ) → 0 < n → Listing s n k i run n₀ k₀ run₀
    → Listing s (n - 1) (found_at s k).next (i + 3) (put_at run i (found_at s k).p) n₀ k₀ run₀
listing-more s n k i run n₀ k₀ run₀ h f =
    let m : n ≡ suc (n - 1) = omega arith in
    let f₁ : Listing s (suc (n - 1)) k i run n₀ k₀ run₀ = rw m at f in
    let a : i + 1 ≡ suc i = omega arith in
    let b : i + 2 ≡ suc (suc i) = omega arith in
    let c : i + 3 ≡ suc (suc (suc i)) = omega arith in
    record {
      fewer = omega (arith, f.fewer);
      place = omega (arith, f.place);
      same = put-length run i (found_at s k).p ∙ f.same;
      words = rw (a, b, c) (three i _ _ _ (words_of (chain s (n - 1) (found_at s k).next)) run ∙ f₁.words);
    }

-- ---- as many turns as there are records

one-chain : (s : Tables) (n k : ℕ) → (let k' = (found_at s k).next in chain s (length (list_from s n k')) k' ≡ list_from s n k' → (b : Bool)
    → (let l = map permission_of (pick b [] (record_at s (slot_to k) ∷ records_from n s k')) in chain s (length l) k ≡ l))
one-chain s n k h true = refl
one-chain s n k h false = ap (◌∷◌ (found_at s k).p) h

chain-list : (s : Tables) (n k : ℕ) → chain s (length (list_from s n k)) k ≡ list_from s n k
unfolding records_from
chain-list s zero k = refl
chain-list s (suc n) k = one-chain s n k (chain-list s n (found_at s k).next) (eqb k 0)

one-few : (s : Tables) (n k : ℕ) → (let k' = (found_at s k).next in length (list_from s n k') ≤ n → (b : Bool)
    → length (map permission_of (pick b [] (record_at s (slot_to k) ∷ records_from n s k'))) ≤ suc n)
one-few s n k h true = omega arith
one-few s n k h false = omega (arith, h)

few : (s : Tables) (n k : ℕ) → length (list_from s n k) ≤ n
unfolding records_from
few s zero k = omega arith
few s (suc n) k = one-few s n k (few s n (found_at s k).next) (eqb k 0)

full : (m n : ℕ) (b : Bool) → ltb m n ≡ b → m ≤ n → pick b m n ≡ m
full m n true e h = refl
full m n false e h = omega (arith, ltb-false m n e)

few-records : (t : List ℕ) (d : ℕ) → Sized t → length (permission_list (view t) d) ≤ 1024
unfolding permission_list records_of view of_parts
few-records t d z = omega (arith, few (view t) (sizes_of t).records (first_link (view t) d), z.limits.records-high)

-- what the plan is
pub plan-turns : (t : List ℕ) (d : ℕ) (p : Plan) → p ≡ plan_of (view t) d 1024 → p.turns ≤ 1024
plan-turns t d p e = rw e (at_most (view t) d 1024)

pub plan-list : (t : List ℕ) (d : ℕ) (p : Plan) → Sized t → p ≡ plan_of (view t) d 1024 → chain (view t) p.turns p.at ≡ permission_list (view t) d
unfolding permission_list records_of
plan-list t d p z e =
    let l = permission_list (view t) d in
    rw e (ap (λ (n : ℕ). chain (view t) n (first_link (view t) d)) (full (length l) 1024 (ltb (length l) 1024) refl (few-records t d z)) ∙ chain-list (view t) (view t).sizes.records (first_link (view t) d))
