-- Where book and tables match, the regions match one for one, and counts, roots and aliases read off both are the same.
use Rattle.std.specs.Prelude.{◌≡◌, refl, ℕ, ◌+◌, ◌≤◌, ◌<◌, Bool, true, false, ◌&&◌, List, T, eqb, length, get_or}
use Rattle.std.proofs.Common.{sym, ap, ◌∙◌, arith, eqb→eq, eq-eqb, le-leb, lt-ltb}
use Rattle.std.proofs.Math.Option
use Rattle.std.proofs.Math.Option.{Option, none, some}
use Rattle.base.specs.Tests.{is_true, true-is}
use Rattle.model.specs.Lists.{one_if, is_some, at_slot, exists, count_if}
use Rattle.model.specs.State.{State, Handle, Region, Kind, Root, Alias, Carve, none_region, region_at, parent_of}
use Rattle.model.specs.Fields.{Field, passes}
use Rattle.model.specs.Pool.{is_live, handle_of}
use Rattle.model.specs.Tree.{is_root_kind}
use Rattle.model.specs.Counts.{holds, carves, tally as region_tally}
use Rattle.laws.specs.Tree.Sum.{sum_same}
use Rattle.laws.specs.Tree.Slots.{count-sum}
use Rattle.laws.specs.Tree.Total.{is_alias, covers_as}
use Rattle.laws.specs.Tree.FromRoot.{RootAt}
use Rattle.laws.specs.Lists.{one-true}
use Rattle.book.specs.Book.{Book, Noted, noted, no_noted}
use Rattle.book.specs.Demand3.{covers, carves_at, note_tally, is_root_over, is_alias_over, root_had, kind_by, SameRegion, OneForOne}
use Rattle.book.specs.Tests.{and_left, iff, some_is, some_below, lives-below}
use Rattle.book.specs.Matches.{Matches}
use Rattle.book.proofs.Sums.{paired}
use Rattle.book.proofs.Counts.{any-get, any-put, carve-agree, carves-some, carves-alive, list-tally, note_counts, slot_counts, note-list, slot-list, counts-alive, counts_some, counts_same, count-notes}

-- ---- tests of a kind and of a range, on both sides

kind-root : (f : ℕ → ℕ) (kd : Kind) → is_root_kind (kind_by f kd) ≡ is_root_kind kd
kind-root f Root = refl
kind-root f (Alias p) = refl
kind-root f (Carve p) = refl

kind-alias : (f : ℕ → ℕ) (kd : Kind) → is_alias (kind_by f kd) ≡ is_alias kd
kind-alias f Root = refl
kind-alias f (Alias p) = refl
kind-alias f (Carve p) = refl

root_none : (kd : Kind) (c : Bool) → (is_root_kind kd && c) ≡ true → parent_of kd ≡ none
root_none Root c h = refl
root_none (Alias p) c h = absurd (true-is h)
root_none (Carve p) c h = absurd (true-is h)

alias-alive : (kd : Kind) (l c : Bool) → elim kd [ Root ↦ false | Alias p ↦ l && c | Carve p ↦ false ] ≡ true → l ≡ true
alias-alive Root l c h = absurd (true-is h)
alias-alive (Alias p) l c h = and_left l c h
alias-alive (Carve p) l c h = absurd (true-is h)

alias-is : (kd : Kind) (l c : Bool) → l ≡ true → elim kd [ Root ↦ false | Alias p ↦ l && c | Carve p ↦ false ] ≡ (is_alias kd && c)
alias-is Root l c e = refl
alias-is (Alias p) l c e = ap (λ x. x && c) e
alias-is (Carve p) l c e = refl

covers-some : (t : Kind → Bool) (a : ℕ) (x : Option Region) → covers_as t a x ≡ true → is_some x ≡ true
covers-some t a none h = h
covers-some t a (some g) h = refl

over_agree : (t : Kind → Bool) (a : ℕ) (f : ℕ → ℕ) (r : Noted) (g : Region) → ((kd : Kind) → t (kind_by f kd) ≡ t kd) → SameRegion f r g → (t r.kind && covers a r) ≡ covers_as t a (some g)
over_agree t a f r g e s =
    ap (λ c. c && covers a r) (sym (e r.kind) ∙ ap t (sym s.kind))
    ∙ ap (λ v. t g.kind && holds v r.end a) (sym s.start)
    ∙ ap (λ v. t g.kind && holds g.start v a) (sym s.end)

both_true : (x y z : Bool) → x ≡ true → y ≡ true → z ≡ true → (x && y && z) ≡ true
both_true x y z e f g = rw (e, f, g)

holds-so : (from to a : ℕ) → from ≤ a → a < to → holds from to a ≡ true
holds-so from to a h k = rw (le-leb from a h, lt-ltb a to k)

root-agree : (f : Field) (a : ℕ) (at : ℕ → ℕ) (r : Noted) (g h : Region) → g ≡ h → SameRegion at r g → h.kind ≡ Root → h.start ≤ a → a < h.end → T (passes f h.rights) → (is_root_over a r && passes f r.rights) ≡ true
root-agree f a at r g h e s k lo hi t =
    let z₁ : r.start ≡ h.start = sym s.start ∙ ap (λ (x : Region). x.start) e in
    let z₂ : r.end ≡ h.end = sym s.end ∙ ap (λ (x : Region). x.end) e in
    both_true (is_root_kind r.kind) (covers a r) (passes f r.rights)
    (sym (kind-root at r.kind) ∙ ap is_root_kind (sym s.kind ∙ ap (λ (x : Region). x.kind) e ∙ k))
    (holds-so r.start r.end a (omega arith) (omega arith))
    (ap (passes f) (sym s.rights ∙ ap (λ (x : Region). x.rights) e) ∙ is_true t)

module _ (b : Book) (s : State) (g : Matches b s) where
  abbrev pub slot : ℕ → ℕ
  slot k = (g.at k).slot

  abbrev pub rs : List Noted
  rs = b.regions

  abbrev pub gs : List (Option Region)
  gs = s.regions

  pub below : (k : ℕ) → (noted rs k).alive ≡ true → k < length rs
  below k l = lives-below b.regions k l

  pub in_table : (k : ℕ) → (noted rs k).alive ≡ true → is_some (at_slot gs (slot k)) ≡ true
  in_table k l = and_left (is_some (at_slot s.regions (g.at k).slot)) _ (sym (g.fits.regions.alive_is_live k (below k l)) ∙ l)

  pub same_at : (k : ℕ) → (noted rs k).alive ≡ true → SameRegion slot (noted rs k) (region_at s (slot k))
  same_at k l = g.fits.regions.stored k (below k l) l

  slot-back : (i : ℕ) → is_some (at_slot gs i) ≡ true → slot (g.place i) ≡ i
  slot-back i h = ap (λ (x : Handle). x.slot) (g.fits.regions.back i h).1

  place-lives : (i : ℕ) → is_some (at_slot gs i) ≡ true → (noted rs (g.place i)).alive ≡ true
  place-lives i h = let q = g.fits.regions.back i h in g.fits.regions.alive_is_live (g.place i) q.0 ∙ ap (is_live s.region_pool s.regions) q.1 ∙ live_here
    where
      live_here : is_live s.region_pool s.regions (handle_of s.region_pool i) ≡ true
      live_here = ap (λ c. c && eqb (get_or s.region_pool.gens i 0) (get_or s.region_pool.gens i 0)) h ∙ eq-eqb (get_or s.region_pool.gens i 0) (get_or s.region_pool.gens i 0) refl

  pub place_at : (k : ℕ) → (noted rs k).alive ≡ true → g.place (slot k) ≡ k
  place_at k l = g.fits.regions.one k (below k l) l

  -- "Stored live regions match the book's one for one"
  pub one-for-one : OneForOne b s
  one-for-one = record {
    at = slot;
    place = g.place;
    stored = λ k l. (region_at s (slot k), some_is (at_slot s.regions (slot k)) none_region (in_table k (is_true l)), same_at k (is_true l));
    there = λ i x e. (true-is (place-lives i (ap is_some e)), slot-back i (ap is_some e));
    back = λ k l. place_at k (is_true l);
    parent = λ k p l e. true-is (g.fits.regions.parent_lives k p (below k (is_true l)) (is_true l) e);
  }

  same_place : (p k : ℕ) → (noted rs p).alive ≡ true → (noted rs k).alive ≡ true → eqb p k ≡ eqb (slot p) (slot k)
  same_place p k l m = iff (eqb p k) (eqb (slot p) (slot k)) (λ h. eq-eqb (slot p) (slot k) (ap slot (eqb→eq p k (true-is h)))) (λ h. eq-eqb p k (sym (place_at p l) ∙ ap g.place (eqb→eq (slot p) (slot k) (true-is h)) ∙ place_at k m))

  carve-same : (k j a : ℕ) → (noted rs k).alive ≡ true → (noted rs j).alive ≡ true → carves_at k a (noted rs j) ≡ carves (slot k) a (at_slot gs (slot j))
  carve-same k j a l m =
      carve-agree (noted b.regions j) (region_at s (slot j)) slot k (slot k) a (same_at j m) m (λ p e. same_place p k (g.fits.regions.parent_lives j p (below j m) m e) l)
      ∙ ap (carves (slot k) a) (sym (some_is (at_slot s.regions (slot j)) none_region (in_table j m)))

  carved-same : (k a : ℕ) → (noted rs k).alive ≡ true → exists (carves_at k a) rs ≡ exists (carves (slot k) a) gs
  carved-same k a l = iff (exists (carves_at k a) b.regions) (exists (carves (slot k) a) s.regions)
      (λ h. let r = any-get (carves_at k a) no_noted b.regions h in let m = carves-alive k a (noted b.regions r.at) r.yes in
      any-put (carves (slot k) a) none s.regions (slot r.at) (some_below s.regions _ (in_table r.at m)) (sym (carve-same k r.at a l m) ∙ r.yes))
      (λ h. let r = any-get (carves (slot k) a) none s.regions h in let i = carves-some (slot k) a (at_slot s.regions r.at) r.yes in let m = place-lives r.at i in
      any-put (carves_at k a) no_noted b.regions (g.place r.at) (below _ m) (carve-same k (g.place r.at) a l m ∙ ap (λ c. carves (slot k) a (at_slot s.regions c)) (slot-back r.at i) ∙ r.yes))

  -- ---- the counts of the book are those of the stored regions

  module _ (d a : ℕ) (t : ℕ → Bool) where
    counts-agree : (k : ℕ) → (noted rs k).alive ≡ true → note_counts rs d a t k (noted rs k) ≡ slot_counts gs d a t (slot k) (at_slot gs (slot k))
    counts-agree k l =
        counts_same b.regions s.regions d a t k (slot k) slot (noted b.regions k) (region_at s (slot k)) l (same_at k l) (carved-same k a l)
        ∙ ap (slot_counts s.regions d a t (slot k)) (sym (some_is (at_slot s.regions (slot k)) none_region (in_table k l)))

    pub tally-same-as : note_tally rs d a t 0 rs ≡ region_tally gs d a t 0 gs
    tally-same-as =
        note-list b.regions d a t 0 b.regions
        ∙ list-tally (note_counts b.regions d a t) no_noted 0 b.regions
        ∙ sum_same _ (λ k. note_counts b.regions d a t k (noted b.regions k)) (length b.regions) (λ k u. ap (λ c. note_counts b.regions d a t c (noted b.regions k)) (let z : 0 + k ≡ k = omega arith in z))
        ∙ paired (λ k. note_counts b.regions d a t k (noted b.regions k)) (λ i. slot_counts s.regions d a t i (at_slot s.regions i)) (length b.regions) (length s.regions) slot g.place
        (λ k u h. let l = counts-alive b.regions d a t k (noted b.regions k) h in (some_below s.regions (slot k) (in_table k l), sym (counts-agree k l), place_at k l))
        (λ i u h. let v = counts_some s.regions d a t i (at_slot s.regions i) h in let l = place-lives i v in (below (g.place i) l, counts-agree (g.place i) l ∙ ap (λ c. slot_counts s.regions d a t c (at_slot s.regions c)) (slot-back i v), slot-back i v))
        ∙ sym (sum_same _ (λ i. slot_counts s.regions d a t i (at_slot s.regions i)) (length s.regions) (λ i u. ap (λ c. slot_counts s.regions d a t c (at_slot s.regions i)) (let z : 0 + i ≡ i = omega arith in z)))
        ∙ sym (list-tally (slot_counts s.regions d a t) none 0 s.regions)
        ∙ sym (slot-list s.regions d a t 0 s.regions)

  -- ---- roots_live and aliases

  -- two tests that pass live regions alone, and pass the same
  count_same : (p : Noted → Bool) (q : Option Region → Bool) → ((k : ℕ) → k < length rs → p (noted rs k) ≡ true → (noted rs k).alive ≡ true) → ((x : Option Region) → q x ≡ true → is_some x ≡ true) → ((k : ℕ) → (noted rs k).alive ≡ true → p (noted rs k) ≡ q (at_slot gs (slot k))) → count_if p rs ≡ count_if q gs
  count_same p q lp lq same =
      count-notes p b.regions
      ∙ paired (λ k. one_if (p (noted b.regions k))) (λ i. one_if (q (at_slot s.regions i))) (length b.regions) (length s.regions) slot g.place
      (λ k u h. let l = lp k u (one-true _ h) in (some_below s.regions (slot k) (in_table k l), sym (ap one_if (same k l)), place_at k l))
      (λ i u h. let v = lq (at_slot s.regions i) (one-true _ h) in let l = place-lives i v in (below (g.place i) l, ap one_if (same (g.place i) l ∙ ap (λ c. q (at_slot s.regions c)) (slot-back i v)), slot-back i v))
      ∙ sym (count-sum q s.regions)

  over-same : (t : Kind → Bool) (a k : ℕ) → ((kd : Kind) → t (kind_by slot kd) ≡ t kd) → (noted rs k).alive ≡ true → (t (noted rs k).kind && covers a (noted rs k)) ≡ covers_as t a (at_slot gs (slot k))
  over-same t a k e l =
      over_agree t a slot (noted b.regions k) (region_at s (slot k)) e (same_at k l)
      ∙ ap (covers_as t a) (sym (some_is (at_slot s.regions (slot k)) none_region (in_table k l)))

  pub roots-same : (a : ℕ) → count_if (is_root_over a) rs ≡ count_if (covers_as is_root_kind a) gs
  roots-same a = count_same (is_root_over a) (covers_as is_root_kind a) (λ k u h. g.fits.regions.roots_live k u (root_none (noted b.regions k).kind _ h)) (covers-some is_root_kind a) (λ k l. over-same is_root_kind a k (kind-root slot) l)

  pub aliases-same : (a : ℕ) → count_if (is_alias_over a) rs ≡ count_if (covers_as is_alias a) gs
  aliases-same a = count_same (is_alias_over a) (covers_as is_alias a) (λ k u h. alias-alive (noted b.regions k).kind _ _ h) (covers-some is_alias a) (λ k l. alias-is (noted b.regions k).kind _ _ l ∙ over-same is_alias a k (kind-alias slot) l)

  -- ---- a count comes from a root

  pub root-had : (f : Field) (a : ℕ) → RootAt gs a f → T (root_had b f a)
  root-had f a x =
      let k = g.place x.slot in
      let l = place-lives x.slot (ap is_some x.is) in
      let e : region_at s (slot k) ≡ x.root = ap (region_at s) (slot-back x.slot (ap is_some x.is)) ∙ ap (λ o. Option.get_or o none_region) x.is in
      true-is (any-put (λ r. is_root_over a r && passes f r.rights) no_noted b.regions k (below k l)
      (root-agree f a slot (noted b.regions k) (region_at s (slot k)) x.root e (same_at k l) x.is_root x.low x.high x.has))
