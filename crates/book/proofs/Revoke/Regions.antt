-- Revoking a live region: it and all below it die, in the book and in the tables.
use Rattle.std.specs.Prelude.{◌≡◌, refl, ℕ, zero, suc, ◌+◌, ◌≤◌, ◌<◌, Bool, true, false, ◌&&◌, List, eqb, length, if◌then◌else◌}
use Rattle.std.proofs.Math.Path.{sym, ap}
use Rattle.std.proofs.Common.{◌∙◌, arith, eqb→eq, eq-eqb}
use Rattle.std.proofs.Math.Option
use Rattle.std.proofs.Math.Option.{Option, none, some}
use Rattle.std.proofs.Math.ListN.{get_or}
use Rattle.base.specs.Cases.{holds, fails, test}
use Rattle.base.specs.Tests.{true-is, true-false}
use Rattle.base.specs.Options.{none-some, some_same}
use Rattle.model.specs.Lists.{is_some, at_slot, In}
use Rattle.model.specs.State.{State, Handle, Region, parent_of, none_region, region_at}
use Rattle.model.specs.Pool.{is_live, handle_of}
use Rattle.laws.specs.Tree.Change.{bare, same-bare}
use Rattle.laws.specs.Tree.Below.{Below, Revoked}
use Rattle.laws.specs.Keep.SameDomains.{SameDomains}
use Rattle.laws.specs.Tree.Generations.{GensAfter}
use Rattle.laws.specs.Close.Revoke.{Fell}
use Rattle.book.specs.Book.{Book, Noted, noted, is_under, most_above, dying, killed}
use Rattle.book.specs.Demand3.{SameRegion, kind_by}
use Rattle.book.specs.Tests.{and_left, and_right, or_left, or_right, or_else, some_is, lives-below}
use Rattle.book.specs.Matches.{both-map, Regions, MatchesAt, list-map}
use Rattle.book.proofs.NewRegion.{old-is-dead}
use Rattle.book.proofs.Revoke.Dying.{parent-at, parent-of, dies_if, dying-length, noted-dying, dies-if-alive, lists-untracked, some-untracked}

most-above : (rs : List Noted) → length rs ≤ most_above rs
most-above rs = omega arith

-- ---- the regions

module _ (b : Book) (s t : State) (at : ℕ → Handle) (place : ℕ → ℕ) (m : MatchesAt b s at place) (k : ℕ) (below : k < length b.regions) (lives : (noted b.regions k).alive ≡ true) (p₀ : ℕ) (child : parent_of (noted b.regions k).kind ≡ some p₀) (others : SameDomains s t) (gens : GensAfter s t) (done : Revoked s.regions (at k).slot t.regions) where
  abbrev rs : List Noted
  rs = b.regions

  abbrev slot : ℕ → ℕ
  slot j = (at j).slot

  abbrev N : ℕ
  N = length b.regions

  abbrev under : ℕ → Bool
  under j = is_under b.regions (most_above b.regions) k j

  abbrev rs' : List Noted
  rs' = dying (is_under b.regions (most_above b.regions) k) 0 b.regions

  low : (j : ℕ) → (noted rs j).alive ≡ true → j < N
  low j l = lives-below b.regions j l

  live_at : (j : ℕ) → (noted rs j).alive ≡ true → is_live s.region_pool s.regions (at j) ≡ true
  live_at j l = sym (m.regions.alive_is_live j (low j l)) ∙ l

  in_table : (j : ℕ) → (noted rs j).alive ≡ true → is_some (at_slot s.regions (slot j)) ≡ true
  in_table j l = and_left (is_some (at_slot s.regions (slot j))) _ (live_at j l)

  gen-at : (j : ℕ) → (noted rs j).alive ≡ true → get_or s.region_pool.gens (slot j) 0 ≡ (at j).generation
  gen-at j l = eqb→eq _ _ (true-is (and_right (is_some (at_slot s.regions (slot j))) _ (live_at j l)))

  there : (j : ℕ) → (noted rs j).alive ≡ true → In s.regions (slot j) (region_at s (slot j))
  there j l = some_is (at_slot s.regions (slot j)) none_region (in_table j l)

  kind_at : (j : ℕ) → (noted rs j).alive ≡ true → (region_at s (slot j)).kind ≡ kind_by slot (noted rs j).kind
  kind_at j l = (m.regions.stored j (low j l) l).kind

  -- under k in the book, below its slot in the tables
  under-below : (n j : ℕ) → (noted rs j).alive ≡ true → is_under rs n k j ≡ true → Below s.regions (slot k) (slot j)
  under-below zero j l u = Below.here (ap slot (eqb→eq j k (true-is u)))
  under-below (suc n) j l u = elim (test (eqb j k)) [
    | holds e ↦ Below.here (ap slot (eqb→eq j k (true-is e)))
    | fails e ↦ up (parent_of (noted b.regions j).kind) refl (or_else (eqb j k) _ u e) (λ p a v. under-below n p a v)
  ]
    where
      up : (o : Option ℕ) → parent_of (noted b.regions j).kind ≡ o → elim o [ none ↦ false | some p ↦ is_under b.regions n k p ] ≡ true → ((p : ℕ) → (noted b.regions p).alive ≡ true → is_under b.regions n k p ≡ true → Below s.regions (slot k) (slot p)) → Below s.regions (slot k) (slot j)
      up none e v ih = absurd (true-is v)
      up (some p) e v ih = Below.step (slot p) (region_at s (slot j)) (there j l) (ap parent_of (kind_at j l) ∙ parent-at slot (noted b.regions j).kind p e) (ih p (m.regions.parent_lives j p (low j l) l e) v)

  same_place : (j : ℕ) → (noted rs j).alive ≡ true → slot j ≡ slot k → j ≡ k
  same_place j l e = sym (m.regions.one j (low j l) l) ∙ ap place e ∙ m.regions.one k below lives

  below-under : (i : ℕ) → Below s.regions (slot k) i → (n j : ℕ) → j ≤ n → (noted rs j).alive ≡ true → slot j ≡ i → is_under rs n k j ≡ true
  below-under i (Below.here o) zero j u l e = eq-eqb j k (same_place j l (e ∙ o))
  below-under i (Below.here o) (suc n) j u l e = or_left (eqb j k) _ (eq-eqb j k (same_place j l (e ∙ o)))
  below-under i (Below.step p x y q z) n j u l e =
      let w : x ≡ region_at s (slot j) = some_same (at_slot s.regions i) x (region_at s (slot j)) y (ap (at_slot s.regions) (sym e) ∙ there j l) in
      let r = parent-of slot (noted b.regions j).kind p (ap parent_of (sym (kind_at j l)) ∙ ap (λ (v : Region). parent_of v.kind) (sym w) ∙ q) in
      let v = m.regions.parent_earlier j r.0 (low j l) r.1 in
      go n u r.0 r.1 v (λ n' a. below-under p z n' r.0 a (m.regions.parent_lives j r.0 (low j l) l r.1) r.2)
    where
      go : (n : ℕ) → j ≤ n → (q : ℕ) → parent_of (noted b.regions j).kind ≡ some q → q < j → ((n : ℕ) → q ≤ n → is_under b.regions n k q ≡ true) → is_under b.regions n k j ≡ true
      go zero a q f v ih = absurd (omega arith)
      go (suc n) a q f v ih = or_right (eqb j k) _ (ap (λ o. elim o [ none ↦ false | some p ↦ is_under b.regions n k p ]) f ∙ ih n (omega arith))

  to_below : (j : ℕ) → (noted rs j).alive ≡ true → under j ≡ true → Below s.regions (slot k) (slot j)
  to_below j l u = under-below (most_above b.regions) j l u

  to-under : (j : ℕ) → (noted rs j).alive ≡ true → Below s.regions (slot k) (slot j) → under j ≡ true
  to-under j l z = below-under (slot j) z (most_above b.regions) j (omega (arith, low j l, most-above b.regions)) l refl

  -- a live region that is not under k is left, but for its child list
  left-bare : (j : ℕ) → (noted rs j).alive ≡ true → under j ≡ false → bare (at_slot t.regions (slot j)) ≡ bare (at_slot s.regions (slot j))
  left-bare j l u = done.kept (slot j) (λ z. true-false (to-under j l z) u)

  left-some : (j : ℕ) → (noted rs j).alive ≡ true → under j ≡ false → is_some (at_slot t.regions (slot j)) ≡ true
  left-some j l u = same-bare is_some (λ r. refl) (at_slot t.regions (slot j)) (at_slot s.regions (slot j)) (left-bare j l u) ∙ in_table j l

  gone-none : (j : ℕ) → (noted rs j).alive ≡ true → under j ≡ true → is_some (at_slot t.regions (slot j)) ≡ false
  gone-none j l u = ap is_some (done.gone (slot j) (to_below j l u))

  noted' : (j : ℕ) → j < N → noted rs' j ≡ dies_if (under j) (noted rs j)
  noted' j u = noted-dying (is_under b.regions (most_above b.regions) k) 0 b.regions j u ∙ ap (λ c. dies_if (under c) (noted b.regions j)) (let z : 0 + j ≡ j = omega arith in z)

  size' : length rs' ≡ N
  size' = dying-length (is_under b.regions (most_above b.regions) k) 0 b.regions

  alive' : (j : ℕ) → j < N → (noted rs' j).alive ≡ true → (under j ≡ false) × ((noted rs j).alive ≡ true)
  alive' j u h = dies-if-alive (under j) (noted b.regions j).alive (sym (ap (λ (r : Noted). r.alive) (noted' j u)) ∙ h)

  kind' : (j : ℕ) → j < N → (noted rs' j).kind ≡ (noted rs j).kind
  kind' j u = ap (λ (r : Noted). r.kind) (noted' j u)

  old-gen : (j : ℕ) → j < N → (noted rs j).alive ≡ false → (at j).generation < get_or t.region_pool.gens (slot j) 0
  old-gen j u d = omega (arith, m.regions.dead_is_older j u d, gens.rise (slot j))

  like-alive : (j : ℕ) → j < N → (if under j then false else (noted rs j).alive) ≡ is_live t.region_pool t.regions (at j)
  like-alive j u = elim (test (noted b.regions j).alive) [
    | fails d ↦ dies (under j) _ d ∙ sym (old-is-dead t.region_pool t.regions (at j) (old-gen j u d))
    | holds l ↦ elim (test (under j)) [
      | holds c ↦ ap (λ x. if x then false else (noted b.regions j).alive) c ∙ sym (ap (λ x. x && eqb (get_or t.region_pool.gens (slot j) 0) (at j).generation) (gone-none j l c))
      | fails c ↦ ap (λ x. if x then false else (noted b.regions j).alive) c ∙ l ∙ sym (ap (λ x. x && eqb (get_or t.region_pool.gens (slot j) 0) (at j).generation) (left-some j l c) ∙ eq-eqb _ _ (gens.kept (slot j) (left-some j l c) ∙ gen-at j l))
    ]
  ]
    where
      dies : (c l : Bool) → l ≡ false → (if c then false else l) ≡ false
      dies true l d = refl
      dies false l d = d

  dead_is_older' : (j : ℕ) → j < N → (if under j then false else (noted rs j).alive) ≡ false → (at j).generation < get_or t.region_pool.gens (slot j) 0
  dead_is_older' j u h = elim (test (noted b.regions j).alive) [
    | fails d ↦ old-gen j u d
    | holds l ↦ elim (test (under j)) [
      | holds c ↦ omega (arith, gens.freed (slot j) (in_table j l) (gone-none j l c), gen-at j l)
      | fails c ↦ absurd (true-false (ap (λ x. if x then false else (noted b.regions j).alive) c ∙ l) h)
    ]
  ]

  same-bare-region : (f : ℕ → ℕ) (r r' : Noted) (x y : Option Region) → bare y ≡ bare x → r' ≡ dies_if false r → SameRegion f r (Option.get_or x none_region) → SameRegion f r' (Option.get_or y none_region)
  same-bare-region f r r' x y e d h = record {
    kind = same-bare (λ o. (Option.get_or o none_region).kind) (λ g. refl) y x e ∙ h.kind ∙ ap (λ (n : Noted). kind_by f n.kind) (sym d);
    owner = same-bare (λ o. (Option.get_or o none_region).owner) (λ g. refl) y x e ∙ h.owner ∙ ap (λ (n : Noted). n.owner) (sym d);
    start = same-bare (λ o. (Option.get_or o none_region).start) (λ g. refl) y x e ∙ h.start ∙ ap (λ (n : Noted). n.start) (sym d);
    end = same-bare (λ o. (Option.get_or o none_region).end) (λ g. refl) y x e ∙ h.end ∙ ap (λ (n : Noted). n.end) (sym d);
    rights = same-bare (λ o. (Option.get_or o none_region).rights) (λ g. refl) y x e ∙ h.rights ∙ ap (λ (n : Noted). n.rights) (sym d);
  }

  was-some : (i : ℕ) → is_some (at_slot t.regions i) ≡ true → is_some (at_slot s.regions i) ≡ true
  was-some i h = sym (same-bare is_some (λ r. refl) (at_slot t.regions i) (at_slot s.regions i) (done.left i (region_at t i) (some_is (at_slot t.regions i) none_region h))) ∙ h

  -- a root is under none but itself, and k is none
  root-not-under : (j : ℕ) → j < N → parent_of (noted rs j).kind ≡ none → under j ≡ false
  root-not-under j u e = elim (test (under j)) [
    | fails c ↦ c
    | holds c ↦ absurd (no (slot j) (to_below j (m.regions.roots_live j u e) c) refl)
  ]
    where
      no : (i : ℕ) → Below s.regions (slot k) i → slot j ≡ i → ⊥
      no i (Below.here o) f = none-some (parent_of (noted b.regions k).kind) p₀ (ap (λ c. parent_of (noted b.regions c).kind) (sym (same_place j (m.regions.roots_live j u e) (f ∙ o))) ∙ e) child
      no i (Below.step p x y q z) f =
          let l = m.regions.roots_live j u e in
          let w : x ≡ region_at s (slot j) = some_same (at_slot s.regions i) x (region_at s (slot j)) y (ap (at_slot s.regions) (sym f) ∙ there j l) in
          let r = parent-of slot (noted b.regions j).kind p (ap parent_of (sym (kind_at j l)) ∙ ap (λ (v : Region). parent_of v.kind) (sym w) ∙ q) in
          none-some (parent_of (noted b.regions j).kind) r.0 e r.1

  parent-not-under : (j q : ℕ) → (noted rs j).alive ≡ true → under j ≡ false → parent_of (noted rs j).kind ≡ some q → (noted rs q).alive ≡ true → under q ≡ false
  parent-not-under j q l c e a = elim (test (under q)) [
    | fails d ↦ d
    | holds d ↦ absurd (true-false (to-under j l (Below.step (slot q) (region_at s (slot j)) (there j l) (ap parent_of (kind_at j l) ∙ parent-at slot (noted b.regions j).kind q e) (to_below q a d))) c)
  ]

  still-alive : (j : ℕ) → j < N → under j ≡ false → (noted rs j).alive ≡ true → (noted rs' j).alive ≡ true
  still-alive j u c l = ap (λ (r : Noted). r.alive) (noted' j u) ∙ ap (λ x. if x then false else (noted b.regions j).alive) c ∙ l

  killed-regions : Regions rs' t.region_pool t.regions at place
  killed-regions = record {
    alive_is_live = λ j v. let u : j < N = omega (arith, size') in ap (λ (r : Noted). r.alive) (noted' j u) ∙ like-alive j u;
    dead_is_older = λ j v d. let u : j < N = omega (arith, size') in dead_is_older' j u (sym (ap (λ (r : Noted). r.alive) (noted' j u)) ∙ d);
    stored = λ j v h. let u : j < N = omega (arith, size') in let a = alive' j u h in
        same-bare-region slot (noted b.regions j) (noted rs' j) (at_slot s.regions (slot j)) (at_slot t.regions (slot j)) (left-bare j a.1 a.0) (noted' j u ∙ ap (λ c. dies_if c (noted b.regions j)) a.0) (m.regions.stored j u a.1);
    back = λ i h. let r = m.regions.back i (was-some i h) in let z = r.0 in (omega (arith, size'), r.1 ∙ same-handle i h);
    one = λ j v h. let u : j < N = omega (arith, size') in m.regions.one j u (alive' j u h).1;
    parent_earlier = λ j q v e. let u : j < N = omega (arith, size') in m.regions.parent_earlier j q u (ap parent_of (sym (kind' j u)) ∙ e);
    parent_lives = λ j q v h e.
        let u : j < N = omega (arith, size') in
        let a = alive' j u h in
        let f = ap parent_of (sym (kind' j u)) ∙ e in
        let l = m.regions.parent_lives j q u a.1 f in
        still-alive q (low q l) (parent-not-under j q a.1 a.0 f l) l;
    roots_live = λ j v e.
        let u : j < N = omega (arith, size') in
        let f = ap parent_of (sym (kind' j u)) ∙ e in
        still-alive j u (root-not-under j u f) (m.regions.roots_live j u f);
  }
    where
      same-handle : (i : ℕ) → is_some (at_slot t.regions i) ≡ true → handle_of s.region_pool i ≡ handle_of t.region_pool i
      same-handle i h = ap (λ c. record { slot = i; generation = c }) (sym (gens.kept i h))

  pub killed-match : MatchesAt (killed k b) t at place
  unfolding killed
  killed-match = record {
    sizes = m.sizes ∙ sym others.sizes;
    regions = killed-regions;
    lists = both-map (list-map (λ j x q. let u = q.0 in (omega (arith, size'), q.1))) (lists-untracked b.lists s.domains t.domains others.size others.domains m.lists);
    generations = λ d i. m.generations d (sym (some-untracked (at_slot t.domains d) (at_slot s.domains d) (others.domains d)) ∙ i) ∙ ap (λ p. get_or p.gens d 0) (sym others.domain_pool);
  }

-- THEOREM: a live region that is no root has gone with all below it, and the book in which they died matches
pub fell-match : (b : Book) (s t : State) (at : ℕ → Handle) (place : ℕ → ℕ) (k p : ℕ) → MatchesAt b s at place → k < length b.regions → is_live s.region_pool s.regions (at k) ≡ true → parent_of (region_at s (at k).slot).kind ≡ some p → Fell s (at k).slot t → MatchesAt (killed k b) t at place
fell-match b s t at place k p m u l n f =
    let a : (noted b.regions k).alive ≡ true = m.regions.alive_is_live k u ∙ l in
    let q = parent-of (λ j. (at j).slot) (noted b.regions k).kind p (ap parent_of (sym (m.regions.stored k u a).kind) ∙ n) in
    killed-match b s t at place m k u a q.0 q.1 f.same_domains f.generations f.revoked
