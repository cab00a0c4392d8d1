-- Equal words of a pool give the same pool, and the same slots in use; two tables with the same slots in use are equal if what they hold is.
use Rattle.std.specs.Prelude.{◌≡◌, refl, ℕ, zero, suc, ◌<◌, ◌-◌, List, ◌∷◌, map, length}
use Rattle.std.proofs.Common.{ap, sym, ◌∙◌, arith, ext_get_or}
use Rattle.std.proofs.Math.Option.{Option, none, some}
use Rattle.std.proofs.lemmas.List.{length-map}
use Rattle.model.specs.Lists.{one_if, is_some, at_slot, In, count_up, first_of}
use Rattle.model.specs.State.{Pool}
use Rattle.model.specs.Layout.{link, slot_or0, free_link, pool_words}
use Rattle.model.specs.Sound.{slot_uses, PoolSound}
use Rattle.laws.specs.Parts.{cut, same_map}
use Rattle.laws.specs.Stack.{same-free, same-used}

-- ---- pools

pub same-pool : (n : ℕ) (used used' : ℕ → ℕ) (p q : Pool) → PoolSound n used p → PoolSound n used' q → pool_words n p ≡ pool_words n q → (p ≡ q) × ((i : ℕ) → used i ≡ used' i)
same-pool n used used' p q h k e =
    let up = count_up 0 n in
    let first = slot_or0 (first_of p.free) ∷ (n - length p.free) ∷ map (free_link p.free) up in
    let first' = slot_or0 (first_of q.free) ∷ (n - length q.free) ∷ map (free_link q.free) up in
    let r = cut first first' p.gens q.gens (omega (arith, length-map up (free_link p.free), length-map up (free_link q.free))) e in
    let f = r.0 in
    let links : (i : ℕ) → i < n → free_link p.free i ≡ free_link q.free i = λ i j. same_map (free_link p.free) (free_link q.free) 0 n (cc) i (omega arith) (omega arith) in
    let free = same-free n used p.free h.once used' q.free k.once links (cc) in
    ((λ i. record { gens = r.1 i; free = free i }), same-used n used p.free h.once used' q.free k.once links)

-- ---- tables

-- two slots, both in use or both free
pub data Both {A : Type 0} (o p : Option A) : Type 0 where
  neither : o ≡ none → p ≡ none → Both o p
  both : (x y : A) → o ≡ some x → p ≡ some y → Both o p

pub pair : {A : Type 0} (o p : Option A) → one_if (is_some o) ≡ one_if (is_some p) → Both o p
pair none none h = neither refl refl
pair none (some y) h = absurd (omega arith)
pair (some x) none h = absurd (omega arith)
pair (some x) (some y) h = both x y refl refl

pub same-table : {A : Type 0} (l m : List (Option A)) → length l ≡ length m → ((i : ℕ) → slot_uses l i ≡ slot_uses m i) → ((i : ℕ) (x y : A) → In l i x → In m i y → x ≡ y) → l ≡ m
same-table l m e u f = ext_get_or none l m e (λ i h. elim (pair (at_slot l i) (at_slot m i) (u i)) [
  | neither a b ↦ a ∙ sym b
  | both x y a b ↦ a ∙ ap some (f i x y a b) ∙ sym b
])

-- a row that depends on what its slot holds
pub at_slots : {A : Type 0} (f g : Option A → List ℕ) (o p : Option A) (x y : A) → o ≡ some x → p ≡ some y → f o ≡ g p → f (some x) ≡ g (some y)
at_slots f g o p x y a b e = sym (ap f a) ∙ e ∙ ap g b

-- ---- links

-- the slot of a link, 0 for none; used only in proofs
abbrev pub unlink : ℕ → ℕ
unlink zero = 0
unlink (suc i) = i

pub same-link : (o p : Option ℕ) → link o ≡ link p → o ≡ p
same-link none none e = refl
same-link none (some j) e = absurd (omega arith)
same-link (some i) none e = absurd (omega arith)
same-link (some i) (some j) e = ap some (omega arith)

pub same-slot : (o p : Option ℕ) → link o ≡ link p → slot_or0 o ≡ slot_or0 p
same-slot o p e = ap slot_or0 (same-link o p e)
