-- Making a pool, slot by slot.
use Rattle.std.specs.Prelude.{◌≡◌, refl, List, ℕ, zero, suc, ◌+◌, ◌≤◌, ◌<◌, length, get_or, set, replicate}
use Rattle.std.proofs.Common.{sym, ap, ◌∙◌, arith, length-set, get_or-set_same, get_or-set_other, ext_get_or}
use Rattle.std.proofs.lemmas.List.{length-replicate, get_or-replicate}
use Rattle.base.specs.Cases.{cmp, lt, ge}
use Rattle.tables.specs.Tables.{Arena}
use Rattle.arena.specs.Arena.{with_top, with_link, with_gen, fresh_link, links_from, new_arena}

-- the first i slots are as they should be
pub record Filled (n i : ℕ) (a : Arena) : Type 0 where
  pub no-head : a.head ≡ 0
  pub no-count : a.count ≡ 0
  pub links-long : length a.links ≡ n
  pub gens-long : length a.gens ≡ n
  pub links-set : (k : ℕ) → k < i → get_or a.links k 0 ≡ fresh_link n k
  pub gens-set : (k : ℕ) → k < i → get_or a.gens k 0 ≡ 0

pub filled_none : (n : ℕ) (a b : Arena) → length a.links ≡ n → length a.gens ≡ n → b ≡ with_top a 0 0 → Filled n 0 b
filled_none n a b hl hg e =
    rw e (record { no-head = refl; no-count = refl; links-long = hl; gens-long = hg; links-set = λ k q. absurd (omega arith); gens-set = λ k q. absurd (omega arith) })

set_more : (l : List ℕ) (f : ℕ → ℕ) (i : ℕ) → i < length l → ((k : ℕ) → k < i → get_or l k 0 ≡ f k) → (k : ℕ) → k < i + 1 → get_or (set l i (f i)) k 0 ≡ f k
set_more l f i h all k hk =
    elim (cmp k i) [
      | lt q ↦ get_or-set_other l i k (f i) 0 (omega arith) ∙ all k q
      | ge q ↦ let e : k ≡ i = omega arith in rw e (get_or-set_same l i (f i) 0 h)
    ]

pub filled_more : (n i : ℕ) (a b c : Arena) → i < n → Filled n i a → b ≡ with_link a i (fresh_link n i) → c ≡ with_gen b i 0 → Filled n (i + 1) c
filled_more n i a b c h f eb ec =
    rw (ec, eb)
    (record {
      no-head = f.no-head;
      no-count = f.no-count;
      links-long = simp length-set f.links-long;
      gens-long = simp length-set f.gens-long;
      links-set = set_more a.links (fresh_link n) i (omega (arith, f.links-long)) f.links-set;
      gens-set = set_more a.gens (λ k. 0) i (omega (arith, f.gens-long)) f.gens-set;
    })

length_from : (n k m : ℕ) → length (links_from n k m) ≡ m
unfolding links_from
length_from n k zero = refl
length_from n k (suc m) = ap suc (length_from n (suc k) m)

get_or-from : (n k m i : ℕ) → i < m → get_or (links_from n k m) i 0 ≡ fresh_link n (k + i)
unfolding links_from
get_or-from n k zero i h = absurd (omega arith)
get_or-from n k (suc m) zero h = let e : k + 0 ≡ k = omega arith in rw e
get_or-from n k (suc m) (suc i) h = let e : k + suc i ≡ suc k + i = omega arith in rw e (get_or-from n (suc k) m i (omega arith))

-- a list that is f at each index below n
filled-list : (n : ℕ) (l m : List ℕ) (f : ℕ → ℕ) → length l ≡ n → length m ≡ n → ((k : ℕ) → k < n → get_or l k 0 ≡ f k)
    → ((k : ℕ) → k < n → get_or m k 0 ≡ f k) → l ≡ m
filled-list n l m f hl hm el em = ext_get_or 0 l m (hl ∙ sym hm) (λ i h. el i (omega arith) ∙ sym (em i (omega arith)))

pub filled-all : (n i : ℕ) (a : Arena) → n ≤ i → Filled n i a → a ≡ new_arena n
unfolding new_arena
filled-all n i a h f =
    let l = filled-list n a.links (links_from n 0 n) (fresh_link n) f.links-long (length_from n 0 n) (λ k q. f.links-set k (omega arith)) (λ k q. get_or-from n 0 n k q ∙ ap (fresh_link n) (omega arith)) in
    let g = filled-list n a.gens (replicate n 0) (λ k. 0) f.gens-long (length-replicate n 0) (λ k q. f.gens-set k (omega arith)) (λ k q. get_or-replicate n k 0 0 q) in
    λ i. record { head = f.no-head i; count = f.no-count i; links = l i; gens = g i }
