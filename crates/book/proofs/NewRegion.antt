-- A region more: the book's next place, and a free slot of the tables. Root, alias and carve make one.
use Rattle.std.specs.Prelude.{◌≡◌, refl, ◌≢◌, ℕ, zero, suc, ◌<◌, true, false, ◌&&◌, List, [], ◌∷◌, ◌++◌, eqb, length, get_or, if◌then◌else◌}
use Rattle.std.proofs.Common.{sym, ap, ◌∙◌, arith, eqb→eq, get_or-set_same, get_or-set_other, eq-eqb, ne_eqb}
use Rattle.std.proofs.Math.Bool.{and-false}
use Rattle.std.proofs.Math.Option
use Rattle.std.proofs.Math.Option.{Option, none, some}
use Rattle.std.proofs.Math.Seq.{get_or-append_seam}
use Rattle.base.specs.Cases.{lt, ge, cmp, holds, fails, test}
use Rattle.base.specs.Tests.{true-is, true-false}
use Rattle.model.specs.Lists.{is_some, at_slot}
use Rattle.model.specs.State.{Pool, Handle, Region, Kind, Root, Alias, Carve, none_region, parent_of, State, region, Access}
use Rattle.model.specs.Pool.{is_live, handle_of}
use Rattle.model.specs.Locals.{insert_capa}
use Rattle.model.specs.Regions.{new_region}
use Rattle.model.specs.Calls.{room_for_region}
use Rattle.model.specs.Sound.{Sound, OnceEach, slot_uses}
use Rattle.laws.specs.Accepted.{All, accepted, bind, and_then, weaken}
use Rattle.laws.specs.Lists.{not-used}
use Rattle.book.specs.Book.{Noted, noted, Book, region_of, make_room, put, added}
use Rattle.book.specs.Demand3.{SameRegion, kind_by}
use Rattle.book.specs.Matches.{Regions, both-map, same_region, MatchesAt, list-map}
use Rattle.book.proofs.Slots.{OnlyDomains, capacity-match, insert-match}
use Rattle.book.proofs.Checks.{on-allocate, once-free}

-- ---- small laws

pub old-is-dead : (p : Pool) (gs : List (Option Region)) (h : Handle) → h.generation < get_or p.gens h.slot 0 → is_live p gs h ≡ false
old-is-dead p gs h k = rw (ne_eqb (get_or p.gens h.slot 0) h.generation (λ e. omega arith)) (and-false (is_some (at_slot gs h.slot)))

pub kind-move : (k : Kind) (f f' : ℕ → ℕ) → ((q : ℕ) → parent_of k ≡ some q → f' q ≡ f q) → kind_by f' k ≡ kind_by f k
kind-move Root f f' h = refl
kind-move (Alias p) f f' h = ap Alias (h p refl)
kind-move (Carve p) f f' h = ap Carve (h p refl)

same-as : (f : ℕ → ℕ) (r r' : Noted) (g g' : Region) → r' ≡ r → g' ≡ g → SameRegion f r g → SameRegion f r' g'
same-as f r r' g g' e d h = rw (e, d) h

pub same_move : (f f' : ℕ → ℕ) (r r' : Noted) (g g' : Region) → r' ≡ r → g' ≡ g → ((q : ℕ) → parent_of r.kind ≡ some q → f' q ≡ f q) → SameRegion f r g → SameRegion f' r' g'
same_move f f' r r' g g' e d k h = same-as f' r r' g g' e d (record { kind = h.kind ∙ sym (kind-move r.kind f f' k); owner = h.owner; start = h.start; end = h.end; rights = h.rights })

pub noted-old : (rs : List Noted) (r : Noted) (k : ℕ) → k < length rs → noted (rs ++ (r ∷ [])) k ≡ noted rs k
noted-old [] r k h = absurd (omega arith)
noted-old (x ∷ rs) r zero h = refl
noted-old (x ∷ rs) r (suc k) h = noted-old rs r k (omega arith)

pub noted-length : (rs : List Noted) (r : Noted) → length (rs ++ (r ∷ [])) ≡ suc (length rs)
noted-length [] r = refl
noted-length (x ∷ rs) r = ap suc (noted-length rs r)

-- one value more
unfoldable pub extend : {A : Type 0} → (ℕ → A) → ℕ → A → ℕ → A
extend f n v j = if eqb j n then v else f j

pub extend-here : {A : Type 0} (f : ℕ → A) (n : ℕ) (v : A) → extend f n v n ≡ v
unfolding extend
extend-here f n v = rw (eq-eqb n n refl)

pub extend-off : {A : Type 0} (f : ℕ → A) (n : ℕ) (v : A) (j : ℕ) → j ≢ n → extend f n v j ≡ f j
unfolding extend
extend-off f n v j h = rw (ne_eqb j n h)

module _ (rs rs' : List Noted) (p : Pool) (is : List ℕ) (gs gs' : List (Option Region)) (at at' : ℕ → Handle) (place place' : ℕ → ℕ) (i : ℕ) (r : Noted) (g : Region) (m : Regions rs p gs at place) (len : length rs' ≡ suc (length rs)) (old : (k : ℕ) → k < length rs → noted rs' k ≡ noted rs k) (new : noted rs' (length rs) ≡ r) (was : at_slot gs i ≡ none) (now : at_slot gs' i ≡ some g) (others : (j : ℕ) → j ≢ i → at_slot gs' j ≡ at_slot gs j) (at_old : (k : ℕ) → k < length rs → at' k ≡ at k) (at_new : at' (length rs) ≡ handle_of p i) (pl-old : (j : ℕ) → j ≢ i → place' j ≡ place j) (pl-new : place' i ≡ length rs) (alive : r.alive ≡ true) (same : SameRegion (λ j. (at j).slot) r g) (parent : (q : ℕ) → parent_of r.kind ≡ some q → q < length rs) (parent_lives : (q : ℕ) → parent_of r.kind ≡ some q → (noted rs q).alive ≡ true) where
  dead-there : (h : Handle) → h.slot ≡ i → is_live p gs h ≡ false
  dead-there h e = ap (λ o. is_some o && eqb (get_or p.gens h.slot 0) h.generation) (ap (at_slot gs) e ∙ was)

  live-off : (h : Handle) → h.slot ≢ i → is_live p gs' h ≡ is_live p gs h
  live-off h n = ap (λ o. is_some o && eqb (get_or p.gens h.slot 0) h.generation) (others h.slot n)

  off : (k : ℕ) → k < length rs → (noted rs k).alive ≡ true → (at k).slot ≢ i
  off k u e s = true-false e (m.alive_is_live k u ∙ dead-there (at k) s)

  live_same : (k : ℕ) → k < length rs → is_live p gs' (at k) ≡ is_live p gs (at k)
  live_same k u = elim (test (eqb (at k).slot i)) [
    | holds t ↦ let s = eqb→eq _ _ (true-is t) in old-is-dead p gs' (at k) (m.dead_is_older k u (m.alive_is_live k u ∙ dead-there (at k) s)) ∙ sym (dead-there (at k) s)
    | fails t ↦ live-off (at k) (λ s. true-false (eq-eqb _ _ s) t)
  ]

  live-new : is_live p gs' (handle_of p i) ≡ true
  live-new = rw (now, eq-eqb (get_or p.gens i 0) (get_or p.gens i 0) refl)

  at_last : (k : ℕ) → k ≡ length rs → at' k ≡ handle_of p i
  at_last k e = ap at' e ∙ at_new

  noted-last : (k : ℕ) → k ≡ length rs → noted rs' k ≡ r
  noted-last k e = ap (noted rs') e ∙ new

  alive_is_live' : (k : ℕ) → k < length rs' → (noted rs' k).alive ≡ is_live p gs' (at' k)
  alive_is_live' k h = elim (cmp k (length rs)) [
    | lt u ↦ ap (λ (x : Noted). x.alive) (old k u) ∙ m.alive_is_live k u ∙ sym (live_same k u) ∙ ap (is_live p gs') (sym (at_old k u))
    | ge u ↦ let e : k ≡ length rs = omega arith in ap (λ (x : Noted). x.alive) (noted-last k e) ∙ alive ∙ sym live-new ∙ ap (is_live p gs') (sym (at_last k e))
  ]

  dead_is_older' : (k : ℕ) → k < length rs' → (noted rs' k).alive ≡ false → (at' k).generation < get_or p.gens (at' k).slot 0
  dead_is_older' k h d = elim (cmp k (length rs)) [
    | lt u ↦ gen-as _ _ (at_old k u) (m.dead_is_older k u (ap (λ (x : Noted). x.alive) (sym (old k u)) ∙ d))
    | ge u ↦ let e : k ≡ length rs = omega arith in absurd (true-false (ap (λ (x : Noted). x.alive) (noted-last k e) ∙ alive) d)
  ]
    where
      gen-as : (x y : Handle) → x ≡ y → y.generation < get_or p.gens y.slot 0 → x.generation < get_or p.gens x.slot 0
      gen-as x y e k = rw e k

  stored' : (k : ℕ) → k < length rs' → (noted rs' k).alive ≡ true → SameRegion (λ j. (at' j).slot) (noted rs' k) (Option.get_or (at_slot gs' (at' k).slot) none_region)
  stored' k h d = elim (cmp k (length rs)) [
    | lt u ↦ let d' = ap (λ (x : Noted). x.alive) (sym (old k u)) ∙ d in
        same_move (λ j. (at j).slot) (λ j. (at' j).slot) (noted rs k) (noted rs' k) _ _ (old k u) (ap (λ (x : Handle). Option.get_or (at_slot gs' x.slot) none_region) (at_old k u) ∙ ap (λ o. Option.get_or o none_region) (others _ (off k u d')))
        (λ q e. ap (λ (x : Handle). x.slot) (at_old q (let v = m.parent_earlier k q u e in omega arith))) (m.stored k u d')
    | ge u ↦ let e : k ≡ length rs = omega arith in
        same_move (λ j. (at j).slot) (λ j. (at' j).slot) r (noted rs' k) g _ (noted-last k e) (ap (λ (x : Handle). Option.get_or (at_slot gs' x.slot) none_region) (at_last k e) ∙ ap (λ o. Option.get_or o none_region) now)
        (λ q f. ap (λ (x : Handle). x.slot) (at_old q (parent q f))) same
  ]

  back' : (j : ℕ) → is_some (at_slot gs' j) ≡ true → (place' j < length rs') × at' (place' j) ≡ handle_of p j
  back' j h = elim (test (eqb j i)) [
    | holds t ↦ let s = eqb→eq j i (true-is t) in let e = ap place' s ∙ pl-new in (omega arith, ap at' e ∙ at_new ∙ ap (handle_of p) (sym s))
    | fails t ↦ let s : j ≢ i = λ s. true-false (eq-eqb _ _ s) t in let u = m.back j (ap is_some (sym (others j s)) ∙ h) in let e = pl-old j s in let v = u.0 in (omega arith, ap at' e ∙ at_old _ v ∙ u.1)
  ]

  one' : (k : ℕ) → k < length rs' → (noted rs' k).alive ≡ true → place' (at' k).slot ≡ k
  one' k h d = elim (cmp k (length rs)) [
    | lt u ↦ let d' = ap (λ (x : Noted). x.alive) (sym (old k u)) ∙ d in ap (λ (x : Handle). place' x.slot) (at_old k u) ∙ pl-old _ (off k u d') ∙ m.one k u d'
    | ge u ↦ let e : k ≡ length rs = omega arith in ap (λ (x : Handle). place' x.slot) (at_last k e) ∙ pl-new ∙ sym e
  ]

  parent_earlier' : (k q : ℕ) → k < length rs' → parent_of (noted rs' k).kind ≡ some q → q < k
  parent_earlier' k q h e = elim (cmp k (length rs)) [
    | lt u ↦ m.parent_earlier k q u (ap (λ (x : Noted). parent_of x.kind) (sym (old k u)) ∙ e)
    | ge u ↦ let f : k ≡ length rs = omega arith in let v = parent q (ap (λ (x : Noted). parent_of x.kind) (sym (noted-last k f)) ∙ e) in omega arith
  ]

  parent_lives' : (k q : ℕ) → k < length rs' → (noted rs' k).alive ≡ true → parent_of (noted rs' k).kind ≡ some q → (noted rs' q).alive ≡ true
  parent_lives' k q h d e = elim (cmp k (length rs)) [
    | lt u ↦ let f = ap (λ (x : Noted). parent_of x.kind) (sym (old k u)) ∙ e in ap (λ (x : Noted). x.alive) (old q (let v = m.parent_earlier k q u f in omega arith)) ∙ m.parent_lives k q u (ap (λ (x : Noted). x.alive) (sym (old k u)) ∙ d) f
    | ge u ↦ let n : k ≡ length rs = omega arith in let f = ap (λ (x : Noted). parent_of x.kind) (sym (noted-last k n)) ∙ e in ap (λ (x : Noted). x.alive) (old q (parent q f)) ∙ parent_lives q f
  ]

  roots_live' : (k : ℕ) → k < length rs' → parent_of (noted rs' k).kind ≡ none → (noted rs' k).alive ≡ true
  roots_live' k h e = elim (cmp k (length rs)) [
    | lt u ↦ ap (λ (x : Noted). x.alive) (old k u) ∙ m.roots_live k u (ap (λ (x : Noted). parent_of x.kind) (sym (old k u)) ∙ e)
    | ge u ↦ let n : k ≡ length rs = omega arith in ap (λ (x : Noted). x.alive) (noted-last k n) ∙ alive
  ]

  pub add-region : Regions rs' (record { gens = p.gens; free = is }) gs' at' place'
  add-region = record { alive_is_live = alive_is_live'; dead_is_older = dead_is_older'; stored = stored'; back = back'; one = one'; parent_earlier = parent_earlier'; parent_lives = parent_lives'; roots_live = roots_live' }

-- ---- the step that makes it

-- the place n of the book now stands in slot i
pub record RegionAdded (b : Book) (s : State) (d : ℕ) (k : Kind) (a : Access) (at : ℕ → Handle) (x : ℕ × State) : Type 0 where
  pub at' : ℕ → Handle
  pub place' : ℕ → ℕ
  pub fits : MatchesAt (added k d a b) x.1 at' place'
  pub last : handle_of x.1.region_pool x.0 ≡ at' (length b.regions)
  pub olds : (j : ℕ) → j < length b.regions → at' j ≡ at j
  pub domains : x.1.domains ≡ s.domains
  pub pools : x.1.domain_pool ≡ s.domain_pool
  -- the new one is a leaf, and other regions are as they were
  pub slots : (j : ℕ) → is_some (at_slot s.regions j) ≡ true → at_slot x.1.regions j ≡ at_slot s.regions j

none-not : {A : Type 0} (x : Option A) → x ≡ none → is_some x ≡ true → ⊥
none-not x e h = true-is (sym (ap is_some e) ∙ h)

pub new-region-match : (b : Book) (s : State) (at : ℕ → Handle) (place : ℕ → ℕ) (d : ℕ) (k k' : Kind) (a : Access) (n : ℕ) → OnceEach n (slot_uses s.regions) s.region_pool.free → length s.regions ≡ n → MatchesAt b s at place → k' ≡ kind_by (λ j. (at j).slot) k → ((q : ℕ) → parent_of k ≡ some q → q < length b.regions) → ((q : ℕ) → parent_of k ≡ some q → (noted b.regions q).alive ≡ true) → All (RegionAdded b s d k a at) (new_region d k' a s)
unfolding new_region added
new-region-match b s at place d k k' a n once len m same parent parent_lives =
    on-allocate _ s.region_pool.gens s.region_pool.free _ (λ i is e.
    let f = once-free n (slot_uses s.regions) s.region_pool.free i is e once in
    let in-range : i < length s.regions = (let u = f.0 in omega arith) in
    let was = not-used (at_slot s.regions i) f.1 in
    let N = length b.regions in
    let at' = extend at N (handle_of s.region_pool i) in
    let at_old : (j : ℕ) → j < N → at' j ≡ at j = λ j u. extend-off at N _ j (λ (v : j ≡ N). omega arith) in
    accepted (record {
      at' = at';
      place' = extend place i N;
      fits = record {
        sizes = m.sizes;
        regions = add-region b.regions _ s.region_pool is s.regions _ at at' place _ i _ _ m.regions (noted-length b.regions _) (noted-old b.regions _) (get_or-append_seam b.regions _ [] _) was (get_or-set_same s.regions i _ none in-range) (λ j v. get_or-set_other s.regions i j _ none v) at_old (extend-here at N _) (extend-off place i N) (extend-here place i N) refl (record { kind = same; owner = refl; start = refl; end = refl; rights = refl }) parent parent_lives;
        lists = both-map (list-map (λ j h t. (let u = t.0 in let v = noted-length b.regions (record { kind = k; owner = d; start = a.start; end = a.end; rights = a.rights; alive = true }) in omega arith, t.1 ∙ sym (at_old j t.0)))) m.lists;
        generations = m.generations;
      };
      last = sym (extend-here at N (handle_of s.region_pool i));
      olds = at_old;
      domains = refl;
      pools = refl;
      slots = λ j v. get_or-set_other s.regions i j _ none (λ w. none-not _ was (ap (λ (c : ℕ). is_some (at_slot s.regions c)) (sym w) ∙ v));
    }))

-- ---- its slot

pub room-match : (b : Book) (s : State) (at : ℕ → Handle) (place : ℕ → ℕ) (d : ℕ) (a : Access) → MatchesAt b s at place → is_some (at_slot s.domains d) ≡ true → All (λ t. MatchesAt (make_room d b) t at place × OnlyDomains s t) (room_for_region d a s)
unfolding room_for_region
room-match b s at place d a m i = and_then _ (bind (capacity-match b s at place m d i) (λ s₁ q. and_then _ (accepted q)))

-- a region made, and its slot given: what the book has then
pub record RegionPut (b : Book) (s : State) (d : ℕ) (k : Kind) (a : Access) (x : ℕ × State) : Type 0 where
  pub at : ℕ → Handle
  pub place : ℕ → ℕ
  pub fits : MatchesAt (put d x.0 (region_of (length b.regions)) (added k d a b)) x.1 at place
  pub opens : (e : ℕ) → is_some (at_slot x.1.domains e) ≡ is_some (at_slot s.domains e)

pub slot-match : (b : Book) (s t : State) (d : ℕ) (k : Kind) (a : Access) (at : ℕ → Handle) (place : ℕ → ℕ) (h : Handle) → MatchesAt (added k d a b) t at place → h ≡ at (length b.regions) → t.domains ≡ s.domains → is_some (at_slot s.domains d) ≡ true → All (RegionPut b s d k a) (insert_capa d (region h) t)
unfolding added
slot-match b s t d k a at place h m e o i =
    weaken (insert-match (added k d a b) t at place m d (ap (λ ds. is_some (at_slot ds d)) o ∙ i) (region_of (length b.regions)) (region h) (same_region (let v = noted-length b.regions (record { kind = k; owner = d; start = a.start; end = a.end; rights = a.rights; alive = true }) in omega arith, e))) (λ x r.
    record { at = at; place = place; fits = r.0; opens = λ f. r.1.opens f ∙ ap (λ ds. is_some (at_slot ds f)) o })

once-as : (n : ℕ) (rs rs' : List (Option Region)) (p p' : Pool) → rs' ≡ rs → p' ≡ p → OnceEach n (slot_uses rs) p.free → OnceEach n (slot_uses rs') p'.free
once-as n rs rs' p p' e d o = rw (e, d) o

pub once_after : (s t : State) → OnlyDomains s t → Sound s → OnceEach s.sizes.regions (slot_uses t.regions) t.region_pool.free
once_after s t q sound = once-as s.sizes.regions s.regions t.regions s.region_pool t.region_pool q.regions q.pool sound.outside.region_pool.once
