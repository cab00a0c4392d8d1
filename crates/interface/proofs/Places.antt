-- Where the free links and the interfaces of a sound state stand among its words.
use Rattle.std.specs.Prelude.{◌≡◌, ℕ, zero, suc, ◌+◌, ◌-◌, ◌*◌, ◌<◌, Bool, true, false, T, eqb, length, get_or, drop}
use Rattle.std.proofs.Math.Path.{ap}
use Rattle.std.proofs.Common.{◌∙◌, arith, length-append, get_or-append-add, lt-ltb}
use mathlib.Core.List.{List, [], ◌∷◌, ◌++◌, map, flat_map}
use Rattle.std.proofs.lemmas.List.{length-map}
use Rattle.std.proofs.Math.ListN.{get_or-append, get_or-map}
use Rattle.base.specs.Cases.{lt, ge, cmp}
use Rattle.base.specs.Lists.{get_d_any}
use Rattle.model.specs.Lists.{one_if, is_some, count_if, at_slot, In, count_up, first_of}
use Rattle.model.specs.State.{State, Domain}
use Rattle.model.specs.Layout.{slot_or0, header_words, free_link, interface_words, words}
use Rattle.model.specs.Sound.{Sound}
use Rattle.laws.specs.Parts.{up-length, join}
use Rattle.laws.specs.Stack.{link-in, link-out}
use Rattle.laws.specs.Tree.Slots.{in-length, live-is}
use Rattle.laws.specs.Words.Length.{sections, words-join, interface-width}
use Rattle.interface.specs.FewerTables.{InUse}
use Rattle.interface.proofs.Reword.{interface_rows}

-- ---- rows of two words for the slots k, k + 1, ..

row_at : (f : ℕ → List ℕ) → ((i : ℕ) → length (f i) ≡ 2) → (k n d e : ℕ) → d < n → e < 2 → get_or (flat_map f (count_up k n)) (2 * d + e) 0 ≡ get_or (f (k + d)) e 0
unfolding flat_map
row_at f h k zero d e l m = absurd (omega arith)
row_at f h k (suc n) zero e l m = ap (λ i. get_or (f k ++ flat_map f (count_up (suc k) n)) i 0) (omega arith) ∙ get_or-append (f k) (flat_map f (count_up (suc k) n)) 0 e (omega (arith, h k)) ∙ ap (λ i. get_or (f i) e 0) (omega arith)
row_at f h k (suc n) (suc d) e l m =
    ap (λ i. get_or (f k ++ flat_map f (count_up (suc k) n)) i 0) (omega (arith, h k)) ∙ get_or-append-add (f k) (flat_map f (count_up (suc k) n)) (2 * d + e) 0
    ∙ row_at f h (suc k) n d e (omega arith) m ∙ ap (λ i. get_or (f i) e 0) (omega arith)

pub interface-at : (s : State) (d e : ℕ) → d < s.sizes.domains → e < 2 → get_or (interface_rows s) (2 * d + e) 0 ≡ get_or (interface_words (at_slot s.domains d)) e 0
interface-at s d e l m = row_at (λ i. interface_words (at_slot s.domains i)) (interface-width s.domains) 0 s.sizes.domains d e l m ∙ ap (λ i. get_or (interface_words (at_slot s.domains i)) e 0) (omega arith)

-- ---- the domain pool's free links

up_at : (k n d : ℕ) → d < n → get_or (count_up k n) d 0 ≡ k + d
up_at k zero d l = absurd (omega arith)
up_at k (suc n) zero l = omega arith
up_at k (suc n) (suc d) l = up_at (suc k) n d (omega arith) ∙ omega arith

link_at : (s : State) (d : ℕ) → d < s.sizes.domains → get_or (words s) (9 + d) 0 ≡ free_link s.domain_pool.free d
link_at s d l =
    let free = s.domain_pool.free in
    let n = s.sizes.domains in
    let links = map (free_link free) (count_up 0 n) in
    let first = header_words s ++ (slot_or0 (first_of free) ∷ (n - length free) ∷ []) in
    let rest = join (drop 2 (sections s)) in
    let low : d < length links = omega (arith, length-map (count_up 0 n) (free_link free), up-length 0 n) in
    ap (λ x. get_or x (9 + d) 0) (words-join s) ∙ get_or-append-add first (links ++ s.domain_pool.gens ++ rest) d 0
    ∙ get_or-append (links ++ s.domain_pool.gens) rest 0 d (omega (arith, length-append links s.domain_pool.gens)) ∙ get_or-append links s.domain_pool.gens 0 d low
    ∙ get_d_any links d 0 (free_link free 0) low ∙ get_or-map (free_link free) (count_up 0 n) d 0 ∙ ap (free_link free) (up_at 0 n d l ∙ omega arith)

one-is : (b : Bool) → one_if b ≡ 1 → T b
one-is true e = tt
one-is false e = absurd (omega arith)

-- a slot is in use exactly if its link is 0
module _ (s : State) (k : Sound s) where
  pub use-in : (d : ℕ) → InUse (words s) d → (x : Domain) × In s.domains d x
  unfolding words
  use-in d (l, e) = live-is (at_slot s.domains d) (elim (cmp 0 (count_if (eqb d) s.domain_pool.free)) [
    | lt p ↦ absurd (omega (arith, link_at s d l, link-in s.domain_pool.free d p))
    | ge p ↦ one-is (is_some (at_slot s.domains d)) (omega (arith, k.outside.domain_pool.once d, ap one_if (lt-ltb d s.sizes.domains l)))
  ])

  pub in_use_lem : (d : ℕ) (x : Domain) → In s.domains d x → InUse (words s) d
  unfolding words
  in_use_lem d x e =
      let l : d < s.sizes.domains = omega (arith, in-length s.domains d x e, k.outside.domains_length) in
      (l, link_at s d l ∙ link-out s.domain_pool.free d (omega (arith, k.outside.domain_pool.once d, ap one_if (lt-ltb d s.sizes.domains l), ap (λ o. one_if (is_some o)) e)))
