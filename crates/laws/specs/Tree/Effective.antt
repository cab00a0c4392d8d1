-- A sound region's effective ranges: its child list, which rises, has the carves of it in order, so the pass over it leaves
-- the region's range but for its carves.
use Rattle.std.specs.Prelude.{◌≡◌, refl, ◌≢◌, ℕ, zero, suc, ◌≤◌, ◌<◌, Bool, true, false, not, ◌&&◌, List, [], ◌∷◌, map, T, eqb, if◌then◌else◌}
use Rattle.std.proofs.Math.Path.{sym, ap}
use Rattle.std.proofs.Common.{◌∙◌, arith, eqb→eq}
use Rattle.std.proofs.Math.Option.{Option, none, some}
use Rattle.base.specs.Cases.{lt, ge, cmp, Test, test}
use Rattle.base.specs.Tests.{true-is, is_true}
use Rattle.model.specs.Lists.{one_if, exists, count_if, at_slot, In}
use Rattle.model.specs.State.{Region, region_in}
use Rattle.model.specs.Tree.{is_carve, Range, children_of, effective_from}
use Rattle.model.specs.Counts.{holds, carves}
use Rattle.laws.specs.Tree.Shares.{clear, clear-any, child, child_of, carve_of, carved, holds-within, within-pos}
use Rattle.laws.specs.Tree.Facts.{Regions, Apart, self, child-le, carve-child, is-carve, carve-is, under, lies, apart, listing}
use Rattle.laws.specs.Tree.Carved.{carved-get, carved-find}
use Rattle.laws.specs.Tree.Rises.{Rises, ordered-from, rises-all}
use Rattle.laws.specs.Tree.Pieces.{Pieces, spread, Cuts, cuts, pass-rises, pass-spread}
use Rattle.laws.specs.Within.{within, within_in}

-- ---- a list of slots, rising and without repeats; f gives the region of a slot

-- its carves lie between cur and e
abbrev Between : (ℕ → Region) → ℕ → ℕ → List ℕ → Type 0
Between f cur e ks = (k : ℕ) → 0 < count_if (eqb k) ks → T (is_carve (f k).kind) → (cur ≤ (f k).start) × ((f k).start < (f k).end) × ((f k).end ≤ e)

-- and overlap no other member
abbrev CarvesApart : (ℕ → Region) → List ℕ → Type 0
CarvesApart f ks = (j k : ℕ) → j ≢ k → 0 < count_if (eqb j) ks → 0 < count_if (eqb k) ks → T (is_carve (f j).kind) → Apart (f j) (f k)

differ : (i j : ℕ) → one_if (eqb i j) ≡ 0 → j ≢ i
differ i j h e = omega (arith, self i, ap (λ (n : ℕ). one_if (eqb i n)) e)

-- so they lie there in order
in_order_lem : (f : ℕ → Region) (cur e lo : ℕ) (ks : List ℕ) → ((k : ℕ) → count_if (eqb k) ks ≤ 1) → Rises f lo ks → cur ≤ e → Between f cur e ks → CarvesApart f ks → Cuts cur e (map f ks)
in_order_lem f cur e lo [] once r h between parted = h
in_order_lem f cur e lo (c ∷ ks) once r h between parted = elim (test (is_carve (f c).kind)) [
  | Test.holds t ↦ let m = between c (omega (arith, self c)) (true-is t) in
      rw t (
        m.0,
        m.1,
        in_order_lem f (f c).end e (f c).start ks (λ k. omega (arith, once k)) r.1 m.2
            (λ k o u.
            let n = between k (omega arith) u in
            let d : one_if (eqb k c) ≡ 0 = omega (arith, once k) in
            elim (cmp (f k).start (f c).end) [
              | lt v ↦ absurd (omega (arith, parted c k (differ k c d) (omega (arith, self c)) (omega arith) (true-is t) v, rises-all f (f c).start k ks r.1 o))
              | ge v ↦ (v, n.1, n.2)
            ])
            (λ j k d u v. parted j k d (omega arith) (omega arith)),
      )
  | Test.fails t ↦ rw t (in_order_lem f cur e (f c).start ks (λ k. omega (arith, once k)) r.1 h (λ k o. between k (omega arith)) (λ j k d u v. parted j k d (omega arith) (omega arith)))
]

-- ---- a carve of the list over a

record CutAt (f : ℕ → Region) (ks : List ℕ) (a : ℕ) : Type 0 where
  at : ℕ
  among : 0 < count_if (eqb at) ks
  is : T (is_carve (f at).kind)
  low : (f at).start ≤ a
  high : a < (f at).end

later : (f : ℕ → Region) (c : ℕ) (ks : List ℕ) (a : ℕ) → CutAt f ks a → CutAt f (c ∷ ks) a
later f c ks a r = record { at = r.at; among = omega (arith, r.among); is = r.is; low = r.low; high = r.high }

cuts-find : (f : ℕ → Region) (ks : List ℕ) (a : ℕ) → 0 < cuts (map f ks) a → CutAt f ks a
cuts-find f [] a h = absurd (omega arith)
cuts-find f (c ∷ ks) a h = elim (cmp 0 (cuts (map f ks) a)) [
  | lt u ↦ later f c ks a (cuts-find f ks a u)
  | ge u ↦ elim (test (is_carve (f c).kind)) [
    | Test.holds t ↦ let w = within-pos (f c).start (f c).end a 1 (omega (arith, rw t at h)) in record { at = c; among = omega (arith, self c); is = true-is t; low = w.0; high = w.1 }
    | Test.fails t ↦ absurd (omega (arith, rw t at h))
  ]
]

cuts-get : (f : ℕ → Region) (ks : List ℕ) (a k : ℕ) → 0 < count_if (eqb k) ks → T (is_carve (f k).kind) → (f k).start ≤ a → a < (f k).end → 0 < cuts (map f ks) a
cuts-get f [] a k o t u v = absurd (omega arith)
cuts-get f (c ∷ ks) a k o t u v = elim (test (eqb k c)) [
  | Test.holds e ↦ rw (← eqb→eq k c (true-is e), is_true {b = is_carve (f k).kind} t, within_in {A = ℕ} (f k).start (f k).end a 1 0 u v) (omega arith)
  | Test.fails e ↦ omega (arith, cuts-get f ks a k (omega (arith, rw e at o)) t u v)
]

-- only whether there is a carve counts
clear-iff : (c b x : ℕ) → (0 < c → 0 < b) → (0 < b → 0 < c) → clear c x ≡ clear b x
clear-iff zero zero x h k = refl
clear-iff zero (suc b) x h k = absurd (omega (arith, k (omega arith)))
clear-iff (suc c) zero x h k = absurd (omega (arith, h (omega arith)))
clear-iff (suc c) (suc b) x h k = refl

-- the number of pieces that hold a
holding : (a : ℕ) (l : List Range) → count_if (λ x. holds x.0 x.1 a) l ≡ spread 1 l a
holding a [] = refl
holding a (x ∷ l) = omega (arith, holds-within x.0 x.1 a 1, holding a l)

-- two tests as a branch
tests : (b c : Bool) → one_if (b && not c) ≡ (if c then 0 else one_if b)
tests true true = refl
tests true false = refl
tests false true = refl
tests false false = refl

-- ---- the effective ranges of region g in slot i

module _ (rs : List (Option Region)) (s : Regions rs) (i : ℕ) (g : Region) (e : In rs i g) where
  abbrev ranges : List Range
  ranges = effective_from g.start g.end (children_of rs g)

  -- a listed slot's region hangs under i
  record Listed (k : ℕ) : Type 0 where
    region : Region
    is : In rs k region
    of : 0 < child_of region.kind i
    at : region_in rs k ≡ region

  listed-go : (k : ℕ) (x : Option Region) → at_slot rs k ≡ x → 0 < child x i → Listed k
  listed-go k none q h = absurd (omega arith)
  listed-go k (some y) q h = record { region = y; is = q; of = h; at = rw q }

  listed : (k : ℕ) → 0 < count_if (eqb k) g.children → Listed k
  listed k o = listed-go k (at_slot rs k) refl (omega (arith, listing rs s i g e k))

  between : Between (region_in rs) g.start g.end g.children
  between k o t =
      let c = listed k o in
      let l = lies rs i c.region g (under rs s k i c.region c.is c.of) e in
      rw c.at (l.0, (s k c.region c.is).nonempty, l.1)

  parted : CarvesApart (region_in rs) g.children
  parted j k d u v t =
      let b = listed j u in
      let c = listed k v in
      let o : 0 < carve_of b.region.kind i = omega (arith, carve-is b.region.kind i (rw b.at at t), b.of) in
      rw (b.at, c.at) (apart rs s j k i b.region c.region d b.is c.is o c.of)

  in-cuts : Cuts g.start g.end (children_of rs g)
  in-cuts = in_order_lem (region_in rs) g.start g.end 0 g.children (λ k. omega (arith, listing rs s i g e k, child-le (at_slot rs k) i)) (ordered-from (region_in rs) g.children (s i g e).ordered) (omega (arith, (s i g e).nonempty)) between parted

  -- the pieces rise from the region's start to its end
  pub effective-rises : Pieces g.start g.end ranges
  effective-rises = pass-rises g.start g.end (children_of rs g) in-cuts

  cut-carved : (a : ℕ) → 0 < cuts (children_of rs g) a → 0 < carved rs i a
  cut-carved a h =
      let r = cuts-find (region_in rs) g.children a h in
      let c = listed r.at r.among in
      let o : 0 < carve_of c.region.kind i = omega (arith, carve-is c.region.kind i (rw c.at at r.is), c.of) in
      carved-get rs i a r.at (record { region = c.region; is = c.is; low = rw c.at at r.low; high = rw c.at at r.high; of = o })

  carved-cut : (a : ℕ) → 0 < carved rs i a → 0 < cuts (children_of rs g) a
  carved-cut a h =
      let r = carved-find rs i a h in
      let k = r.0 in
      let c = r.1 in
      let at : region_in rs k ≡ c.region = rw c.is in
      let o : 0 < child (at_slot rs k) i = rw c.is (omega (arith, carve-child c.region.kind i, c.of)) in
      cuts-get (region_in rs) g.children a k (omega (arith, listing rs s i g e k)) (rw at (is-carve c.region.kind i c.of)) (rw at c.low) (rw at c.high)

  -- v once at each address that the region covers and where it is not carved
  pub effective-spread : (v a : ℕ) → spread v ranges a ≡ clear (carved rs i a) (within g.start g.end a v 0)
  effective-spread v a = pass-spread v g.start g.end a (children_of rs g) in-cuts ∙ clear-iff (cuts (children_of rs g) a) (carved rs i a) _ (cut-carved a) (carved-cut a)

  -- the same by the model's tests: an address lies in one piece where the region covers it and is not carved, else in none
  pub effective-hold : (a : ℕ) → count_if (λ x. holds x.0 x.1 a) ranges ≡ one_if (holds g.start g.end a && not (exists (carves i a) rs))
  unfolding carved
  effective-hold a = holding a ranges ∙ effective-spread 1 a ∙ sym (tests (holds g.start g.end a) (exists (carves i a) rs) ∙ clear-any (carves i a) rs (one_if (holds g.start g.end a)) ∙ ap (clear (count_if (carves i a) rs)) (holds-within g.start g.end a 1))
