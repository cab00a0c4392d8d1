-- The pieces gathered over the slots of a domain's capability list, as the code does: in sound tables each region of the domain has one slot,
-- and no slot names a live region of another domain, so they are the pieces of its regions in another order (`listed-cover`).
use Rattle.std.specs.Prelude.{◌≡◌, refl, Bool, true, false, not, ◌&&◌, List, [], ◌∷◌, ◌++◌, T, length, if◌then◌else◌}
use Rattle.std.proofs.Math.Path.{sym, ap}
use Rattle.std.proofs.Common.{◌∙◌, arith, eqb→eq, eq-eqb, ne_eqb}
use Prim.Native.Nat.{ℕ, ◌+◌, ◌<◌}
use Rattle.std.proofs.Math.Option
use Rattle.std.proofs.Math.Option.{Option, none, some}
use Rattle.std.proofs.Math.Dec.{eqb, not_T}
use Rattle.std.proofs.Math.ListN.{get_or}
use Rattle.std.specs.Float.Ieee.Fits.{and_l, and_r}
use Rattle.base.specs.Cases.{holds as is, fails, test}
use Rattle.base.specs.Tests.{true-is, false-is}
use Rattle.model.specs.Lists.{one_if, count_if, is_some, at_slot, In}
use Rattle.model.specs.State.{Region, Pool, Handle, Capa, no_capa, region, region_revoke, management, channel, none_region, region_in}
use Rattle.model.specs.Fields.{Field, counter, passes}
use Rattle.model.specs.Pool.{handle_of, is_live}
use Rattle.model.specs.Tree.{Range, children_of, effective_from}
use Rattle.model.specs.Counts.{holds, region_count}
use Rattle.model.specs.Sound.{is_region_of}
use Rattle.laws.specs.Tree.Sum.{sum, sum-add, sum_same, sum-zero, sum-at}
use Rattle.laws.specs.Tree.Slots.{in-length, live-is}
use Rattle.laws.specs.Tree.Shares.{weight, tally-is, clear, clear_zero, holds-within, carved, share}
use Rattle.laws.specs.Tree.Facts.{Regions}
use Rattle.laws.specs.Tree.Pieces.{spread, spread-zero}
use Rattle.laws.specs.Tree.Effective.{effective-spread}
use Rattle.laws.specs.Lists.{each-join}
use Rattle.laws.specs.Within.{within}
use Rattle.sweep.specs.Events.{Piece, Proper, over, cover}
use Rattle.sweep.proofs.Gather.{with_rights, pieces_of, count-append, count-if, if-proper, pieces-proper}

-- the pieces of the live region that a slot names
abbrev pub slot_pieces : Pool → List (Option Region) → Option Capa → List Piece
slot_pieces rp rs none = []
slot_pieces rp rs (some no_capa) = []
slot_pieces rp rs (some (region h)) = if is_live rp rs h then pieces_of rs (region_in rs h.slot) else []
slot_pieces rp rs (some (region_revoke h)) = []
slot_pieces rp rs (some (management h)) = []
slot_pieces rp rs (some (channel h)) = []

-- and of all slots of the list
abbrev pub listed : Pool → List (Option Region) → List (Option Capa) → List Piece
listed rp rs [] = []
listed rp rs (c ∷ l) = slot_pieces rp rs c ++ listed rp rs l

-- ---- a region's cover is its weight

within-if : (f : Field) (r s e a : ℕ) → one_if (holds s e a && passes f r) ≡ within s e a (counter f r) 0
within-if f r s e a = flip (holds s e a) (passes f r) ∙ holds-within s e a (counter f r)
  where
    flip : (b t : Bool) → one_if (b && t) ≡ (if b then one_if t else 0)
    flip true t = refl
    flip false t = refl

spread-cover : (f : Field) (r a : ℕ) (l : List Range) → cover f (with_rights r l) a ≡ spread (counter f r) l a
spread-cover f r a [] = refl
spread-cover f r a (x ∷ l) = omega (arith, within-if f r x.0 x.1 a, spread-cover f r a l)

spread-if : (o : Bool) (v : ℕ) (l : List Range) (a : ℕ) → (if o then spread v l a else 0) ≡ spread (if o then v else 0) l a
spread-if true v l a = refl
spread-if false v l a = sym (spread-zero l a)

-- ---- v for each slot that passes a test

abbrev pub total : (Option Capa → ℕ) → List (Option Capa) → ℕ
total w [] = 0
total w (c ∷ l) = w c + total w l

module _ (t : Option Capa → Bool) (v : ℕ) where
  total-none : (l : List (Option Capa)) → count_if t l ≡ 0 → total (λ c. if t c then v else 0) l ≡ 0
  total-none [] h = refl
  total-none (c ∷ l) h = elim (test (t c)) [
    | is e ↦ absurd (omega (arith, rw e at h))
    | fails e ↦ rw e (omega (arith, total-none l (omega (arith, rw e at h))))
  ]

  total-one : (l : List (Option Capa)) → count_if t l ≡ 1 → total (λ c. if t c then v else 0) l ≡ v
  total-one [] h = absurd (omega arith)
  total-one (c ∷ l) h = elim (test (t c)) [
    | is e ↦ rw e (omega (arith, total-none l (omega (arith, rw e at h))))
    | fails e ↦ rw e (omega (arith, total-one l (omega (arith, rw e at h))))
  ]

  total-if : (b : Bool) (l : List (Option Capa)) → count_if t l ≡ one_if b → total (λ c. if t c then v else 0) l ≡ (if b then v else 0)
  total-if true l h = total-one l h
  total-if false l h = total-none l h

  total-zero : (l : List (Option Capa)) → v ≡ 0 → total (λ c. if t c then v else 0) l ≡ 0
  total-zero [] e = refl
  total-zero (c ∷ l) e = elim (test (t c)) [ is k ↦ rw k (omega (arith, total-zero l e)) | fails k ↦ rw k (omega (arith, total-zero l e)) ]

-- ---- the one number s below n, if its generation is g

module _ (gen w : ℕ → ℕ) (n s g : ℕ) where
  abbrev at : ℕ → ℕ
  at i = if eqb i s && eqb (gen i) g then w i else 0

  at-live : s < n → gen s ≡ g → sum at n ≡ w s
  at-live h e = sum-at at n s h (λ k m. rw (ne_eqb k s m)) ∙ rw (eq-eqb s s refl, eq-eqb (gen s) g e)

  at_dead : (gen s ≡ g → w s ≡ 0) → sum at n ≡ 0
  at_dead h = sum_same at (λ k. 0) n (λ k i. none-at k) ∙ sum-zero n
    where
      none-at : (k : ℕ) → at k ≡ 0
      none-at k = elim (test (eqb k s && eqb (gen k) g)) [
        | is t ↦
            let e = eqb→eq k s (and_l (eqb k s) (eqb (gen k) g) (true-is t)) in
            let e' = eqb→eq (gen k) g (and_r (eqb k s) (eqb (gen k) g) (true-is t)) in
            rw t (ap w e ∙ h (ap gen (sym e) ∙ e'))
        | fails t ↦ rw t
      ]

dead-none : (x : Option Region) (b : Bool) → T (not (is_some x && b)) → T b → x ≡ none
dead-none none b t u = refl
dead-none (some g) true t u = absurd t
dead-none (some g) false t u = absurd u

-- ---- the slots of a list

-- how many pieces of region i pass a test
unfoldable pub own : (Piece → Bool) → List (Option Region) → ℕ → ℕ
own t rs i = count_if t (pieces_of rs (region_in rs i))

own-none : (t : Piece → Bool) (rs : List (Option Region)) (i : ℕ) → at_slot rs i ≡ none → own t rs i ≡ 0
unfolding own
own-none t rs i e = rw e

module _ (rp : Pool) (rs : List (Option Region)) (t : Piece → Bool) where
  abbrev pub by : ℕ → Option Capa → ℕ
  by i c = if is_region_of (handle_of rp i) c then own t rs i else 0

  -- a live handle counts for its region
  handle-sum : (h : Handle) → count_if t (if is_live rp rs h then pieces_of rs (region_in rs h.slot) else []) ≡ sum (λ i. by i (some (region h))) (length rs)
  unfolding own
  handle-sum h = elim (test (is_live rp rs h)) [
    | is e ↦
        let u = and_l (is_some (at_slot rs h.slot)) (eqb (gens h.slot) h.generation) (true-is e) in
        let v = and_r (is_some (at_slot rs h.slot)) (eqb (gens h.slot) h.generation) (true-is e) in
        let g = live-is (at_slot rs h.slot) u in
        count-if t (is_live rp rs h) _ ∙ ap (λ (b : Bool). if b then own t rs h.slot else 0) e ∙ sym (at-live gens (own t rs) (length rs) h.slot h.generation (in-length rs h.slot g.0 g.1) (eqb→eq (gens h.slot) h.generation v))
    | fails e ↦
        count-if t (is_live rp rs h) _ ∙ ap (λ (b : Bool). if b then own t rs h.slot else 0) e ∙ sym (at_dead gens (own t rs) (length rs) h.slot h.generation (λ z. own-none t rs h.slot (dead-none (at_slot rs h.slot) (eqb (gens h.slot) h.generation) (not_T (is_live rp rs h) (false-is e)) (true-is (eq-eqb (gens h.slot) h.generation z)))))
  ]
    where
      gens : ℕ → ℕ
      gens i = get_or rp.gens i 0

  slot-sum : (c : Option Capa) → count_if t (slot_pieces rp rs c) ≡ sum (λ i. by i c) (length rs)
  slot-sum none = sym (sum-zero (length rs))
  slot-sum (some no_capa) = sym (sum-zero (length rs))
  slot-sum (some (region h)) = handle-sum h
  slot-sum (some (region_revoke h)) = sym (sum-zero (length rs))
  slot-sum (some (management h)) = sym (sum-zero (length rs))
  slot-sum (some (channel h)) = sym (sum-zero (length rs))

  pub listed-sum : (l : List (Option Capa)) → count_if t (listed rp rs l) ≡ sum (λ i. total (by i) l) (length rs)
  listed-sum [] = sym (sum-zero (length rs))
  listed-sum (c ∷ l) = omega (arith, count-append t (slot_pieces rp rs c) (listed rp rs l), slot-sum c, listed-sum l, sum-add (λ i. by i c) (λ i. total (by i) l) (λ i. total (by i) (c ∷ l)) (length rs) (λ k h. refl))

-- ---- each region of domain d has one slot of d's list, others have none

-- Is the slot's region d's?
abbrev pub is_own : ℕ → Option Region → Bool
is_own d none = false
is_own d (some g) = eqb g.owner d

-- as `OwnerSound` says it of every live region
abbrev pub OneSlot : Pool → List (Option Region) → ℕ → List (Option Capa) → Type 0
OneSlot rp rs d l = (i : ℕ) (g : Region) → In rs i g → count_if (is_region_of (handle_of rp i)) l ≡ one_if (eqb g.owner d)

module _ (rp : Pool) (rs : List (Option Region)) (s : Regions rs) (d : ℕ) (l : List (Option Capa)) (once : OneSlot rp rs d l) where
  -- region i is counted once if it is d's, else not at all
  pub own-once : (t : Piece → Bool) (i : ℕ) (x : Option Region) → at_slot rs i ≡ x → total (by rp rs t i) l ≡ (if is_own d x then own t rs i else 0)
  own-once t i none e = total-zero (is_region_of (handle_of rp i)) (own t rs i) l (own-none t rs i e)
  own-once t i (some g) e = total-if (is_region_of (handle_of rp i)) (own t rs i) (eqb g.owner d) l (once i g e)

  region-weight : (f : Field) (a i : ℕ) (x : Option Region) → at_slot rs i ≡ x → (if is_own d x then own (over f a) rs i else 0) ≡ clear (carved rs i a) (share f x d a)
  unfolding own
  region-weight f a i none e = sym (clear_zero (carved rs i a))
  region-weight f a i (some g) e =
      let ranges = effective_from g.start g.end (children_of rs g) in
      let mine = eqb g.owner d in
      ap (λ (x : Option Region). if mine then cover f (pieces_of rs (Option.get_or x none_region)) a else 0) e
      ∙ ap (λ (n : ℕ). if mine then n else 0) (spread-cover f g.rights a ranges)
      ∙ spread-if mine (counter f g.rights) ranges a
      ∙ effective-spread rs s i g e (if mine then counter f g.rights else 0) a

  -- the pieces gathered over the slots are, at every address, the regions that count there
  pub listed-cover : (f : Field) (a : ℕ) → cover f (listed rp rs l) a ≡ region_count f rs d a
  listed-cover f a = listed-sum rp rs (over f a) l ∙ sum_same (λ i. total (by rp rs (over f a) i) l) (weight f rs d a) (length rs) (λ i h. own-once (over f a) i (at_slot rs i) refl ∙ region-weight f a i (at_slot rs i) refl) ∙ sym (tally-is f rs d a)

-- ---- none is empty

module _ (rp : Pool) (rs : List (Option Region)) (s : Regions rs) where
  live-proper : (i : ℕ) (x : Option Region) → at_slot rs i ≡ x → Proper (pieces_of rs (Option.get_or x none_region))
  live-proper i none e = tt
  live-proper i (some g) e = pieces-proper rs s i g e

  slot-proper : (c : Option Capa) → Proper (slot_pieces rp rs c)
  slot-proper none = tt
  slot-proper (some no_capa) = tt
  slot-proper (some (region h)) = if-proper (is_live rp rs h) (pieces_of rs (region_in rs h.slot)) (live-proper h.slot (at_slot rs h.slot) refl)
  slot-proper (some (region_revoke h)) = tt
  slot-proper (some (management h)) = tt
  slot-proper (some (channel h)) = tt

  pub listed-proper : (l : List (Option Capa)) → Proper (listed rp rs l)
  listed-proper [] = tt
  listed-proper (c ∷ l) = each-join (λ p. p.start < p.end) (slot_pieces rp rs c) (listed rp rs l) (slot-proper c) (listed-proper l)
