-- The walk along all trackers, and how often each record is used: the test holds exactly where each record in use is on one tracker, once.
use Rattle.std.specs.Prelude.{◌≡◌, ℕ, zero, suc, ◌+◌, ◌≤◌, ◌<◌, Bool, true, false, eqb, get_or, if◌then◌else◌}
use Rattle.std.proofs.Math.Path.{refl, ap}
use Rattle.std.proofs.Common.{sym, ◌∙◌, arith}
use Rattle.std.proofs.Math.Bool.{not}
use Rattle.std.proofs.Math.Option.{Option, none, some}
use mathlib.Core.List.{List, [], ◌∷◌, map}
use Rattle.std.proofs.Math.Decide.{ℕ_discrete}
use Rattle.base.specs.Cases.{lt, ge, cmp, holds, fails, test}
use Rattle.base.specs.Tests.{true-false}
use Rattle.base.specs.Options.{none-some, some_same}
use Rattle.model.specs.Lists.{one_if, count_if, count_up}
use Rattle.model.specs.State as state
use Rattle.model.specs.Sound.{record_uses}
use Rattle.laws.specs.Stack.{one_at_most}
use Rattle.tables.specs.declared.Region.{Region}
use Rattle.tables.specs.Tables.{Tables, no_domain, no_record, head_at, record_at}
use Rattle.decoded.specs.Decode.Read.{chain_from, taken, record_from, domain_read}
use Rattle.decoded.specs.Canonical.Ends.{chain_end}
use Rattle.list_links.specs.declared.Stack.TheVariants.{Trackers}
use Rattle.list_links.specs.Walk.{covered, met}
use Rattle.list_links.specs.Stacks.{may_meet, eligible, next_of}
use Rattle.sound_lists.specs.Counting.{covers_at, at-covers}
use Rattle.sound_pools.specs.Hold.{onward, trackers_met, trackers_hold}
use Rattle.exact_pools.specs.Walks.{marked-once, once-marked, Met, met-is, Goes, is-met}
use Rattle.exact_pools.specs.Pools.{inside_of}
use Rattle.exact_pools.specs.Domains.{domain-free}

count-slots : (l : List Region) (i : ℕ) (ks : List ℕ) → count_if (λ (q : state.Record). eqb i q.slot) (map (λ j. record_from j (get_or l j no_record)) ks) ≡ count_if (eqb i) ks
count-slots l i [] = refl
count-slots l i (k ∷ ks) = ap (λ m. one_if (eqb i k) + m) (count-slots l i ks)

module _ (v : Tables) where
  abbrev after : ℕ → ℕ
  after i = (get_or v.records i no_record).next

  -- the records of domain d's tracker
  abbrev pub along : ℕ → List ℕ
  along d = chain_from after v.sizes.records (get_or v.domains d no_domain).head.tracker

  abbrev pub end_of : ℕ → ℕ
  end_of d = chain_end after v.sizes.records (get_or v.domains d no_domain).head.tracker

  abbrev read_at : ℕ → Option state.Domain
  read_at d = if taken v.domain_pool d then some (domain_read v d) else none

  -- how often record i is on the trackers of k domains from d on
  unfoldable pub uses : ℕ → ℕ → ℕ → ℕ
  uses d k i = record_uses (map read_at (count_up d k)) i

  uses-used : (d k i : ℕ) → taken v.domain_pool d ≡ true → uses d (suc k) i ≡ count_if (eqb i) (along d) + uses (suc d) k i
  unfolding uses
  uses-used d k i t = rw t (ap (λ m. m + record_uses (map read_at (count_up (suc d) k)) i) (count-slots v.records i (along d)))

  uses-free : (d k i : ℕ) → taken v.domain_pool d ≡ false → uses d (suc k) i ≡ uses (suc d) k i
  unfolding uses
  uses-free d k i t = rw t

  uses-none : (d i : ℕ) → uses d 0 i ≡ 0
  unfolding uses
  uses-none d i = refl

  abbrev ok : ℕ → Bool
  ok i = may_meet v Trackers i

  -- the walk along domain d's tracker
  abbrev here : ℕ → List ℕ → Option (List ℕ)
  here d vs = met after ok 0 v.sizes.records (get_or v.domains d no_domain).head.tracker vs

  met-used : (d k : ℕ) (vs : List ℕ) → d < v.sizes.domains → taken v.domain_pool d ≡ true → trackers_met v (suc k) d vs ≡ onward (here d vs) (trackers_met v k (suc d))
  unfolding trackers_met next_of record_at head_at
  met-used d k vs b t = rw (domain-free v d b ∙ ap not t)

  met-free : (d k : ℕ) (vs : List ℕ) → d < v.sizes.domains → taken v.domain_pool d ≡ false → trackers_met v (suc k) d vs ≡ trackers_met v k (suc d) vs
  unfolding trackers_met
  met-free d k vs b t = rw (domain-free v d b ∙ ap not t)

  met-none : (d : ℕ) (vs : List ℕ) → trackers_met v 0 d vs ≡ some vs
  unfolding trackers_met
  met-none d vs = refl

  -- ---- from the walk

  pub record AllMet (k d : ℕ) (vs us : List ℕ) : Type 0 where
    pub counts : (i : ℕ) → count_if (eqb i) us ≡ uses d k i + count_if (eqb i) vs
    pub passed : (i : ℕ) → 0 < uses d k i → ok i ≡ true
    pub single : (i : ℕ) → 0 < uses d k i → uses d k i + count_if (eqb i) vs ≡ 1
    pub ends : (j : ℕ) → d ≤ j → j < d + k → taken v.domain_pool j ≡ true → end_of j ≡ 0

  all_none : (d : ℕ) (vs us : List ℕ) → vs ≡ us → AllMet 0 d vs us
  all_none d vs us e = record {
    counts = λ i. omega (arith, uses-none d i, ap (count_if (eqb i)) e);
    passed = λ i o. absurd (omega (arith, uses-none d i));
    single = λ i o. absurd (omega (arith, uses-none d i));
    ends = λ j a b t. absurd (omega arith);
  }

  all-skip : (k d : ℕ) (vs us : List ℕ) → taken v.domain_pool d ≡ false → AllMet k (suc d) vs us → AllMet (suc k) d vs us
  all-skip k d vs us t m = record {
    counts = λ i. omega (arith, uses-free d k i t, m.counts i);
    passed = λ i o. m.passed i (omega (arith, uses-free d k i t));
    single = λ i o. omega (arith, uses-free d k i t, m.single i (omega (arith, uses-free d k i t)));
    ends = λ j a b u. elim (ℕ_discrete j d) [
      | yes e ↦ absurd (true-false u (ap (taken v.domain_pool) e ∙ t))
      | no ne ↦ m.ends j (omega arith) (omega arith) u
    ];
  }

  all_more : (k d : ℕ) (vs ws us : List ℕ) → taken v.domain_pool d ≡ true → Met after ok 0 v.sizes.records (get_or v.domains d no_domain).head.tracker vs ws → AllMet k (suc d) ws us → AllMet (suc k) d vs us
  all_more k d vs ws us t h m = record {
    counts = λ i. omega (arith, uses-used d k i t, m.counts i, h.counts i);
    passed = λ i o. elim (cmp 0 (uses (suc d) k i)) [
      | lt q ↦ m.passed i q
      | ge q ↦ h.passed i (omega (arith, uses-used d k i t))
    ];
    single = λ i o. elim (cmp 0 (uses (suc d) k i)) [
      | lt q ↦ omega (arith, uses-used d k i t, m.single i q, h.counts i)
      | ge q ↦ omega (arith, uses-used d k i t, h.single i (omega (arith, uses-used d k i t)))
    ];
    ends = λ j a b u. elim (ℕ_discrete j d) [
      | yes e ↦ ap end_of e ∙ h.ends
      | no ne ↦ m.ends j (omega arith) (omega arith) u
    ];
  }

  go_on_lem : (k d : ℕ) (vs us : List ℕ) → taken v.domain_pool d ≡ true → (o : Option (List ℕ)) → here d vs ≡ o → ((ws : List ℕ) → trackers_met v k (suc d) ws ≡ some us → AllMet k (suc d) ws us) → onward o (trackers_met v k (suc d)) ≡ some us → AllMet (suc k) d vs us
  go_on_lem k d vs us t none e rest h = absurd (none-some none us refl h)
  go_on_lem k d vs us t (some ws) e rest h = all_more k d vs ws us t (met-is after ok 0 v.sizes.records (get_or v.domains d no_domain).head.tracker vs ws e) (rest ws h)

  all-is : (k d : ℕ) (vs us : List ℕ) → d + k ≤ v.sizes.domains → trackers_met v k d vs ≡ some us → AllMet k d vs us
  all-is zero d vs us b h = all_none d vs us (some_same (some vs) vs us refl (sym (met-none d vs) ∙ h))
  all-is (suc k) d vs us b h = elim (test (taken v.domain_pool d)) [
    | holds t ↦ go_on_lem k d vs us t (here d vs) refl (λ ws q. all-is k (suc d) ws us (omega arith) q) (sym (met-used d k vs (omega arith) t) ∙ h)
    | fails t ↦ all-skip k d vs us t (all-is k (suc d) vs us (omega arith) (sym (met-free d k vs (omega arith) t) ∙ h))
  ]

  -- ---- and back

  record AllGoes (k d : ℕ) (vs : List ℕ) : Type 0 where
    us : List ℕ
    finds : trackers_met v k d vs ≡ some us
    counts : (i : ℕ) → count_if (eqb i) us ≡ uses d k i + count_if (eqb i) vs

  goes-skip : (k d : ℕ) (vs : List ℕ) → d < v.sizes.domains → taken v.domain_pool d ≡ false → AllGoes k (suc d) vs → AllGoes (suc k) d vs
  goes-skip k d vs b t g = record { us = g.us; finds = met-free d k vs b t ∙ g.finds; counts = λ i. omega (arith, g.counts i, uses-free d k i t) }

  goes-more : (k d : ℕ) (vs : List ℕ) → d < v.sizes.domains → taken v.domain_pool d ≡ true → (h : Goes after ok 0 v.sizes.records (get_or v.domains d no_domain).head.tracker vs) → AllGoes k (suc d) h.us → AllGoes (suc k) d vs
  goes-more k d vs b t h g = record {
    us = g.us;
    finds = met-used d k vs b t ∙ ap (λ o. onward o (trackers_met v k (suc d))) h.finds ∙ g.finds;
    counts = λ i. omega (arith, g.counts i, h.counts i, uses-used d k i t);
  }

  is_all : (k d : ℕ) (vs : List ℕ) → d + k ≤ v.sizes.domains → ((i : ℕ) → 0 < uses d k i → ok i ≡ true) → ((i : ℕ) → 0 < uses d k i → uses d k i + count_if (eqb i) vs ≤ 1) → ((j : ℕ) → d ≤ j → j < d + k → taken v.domain_pool j ≡ true → end_of j ≡ 0) → AllGoes k d vs
  is_all zero d vs b p o e = record { us = vs; finds = met-none d vs; counts = λ i. omega (arith, uses-none d i) }
  is_all (suc k) d vs b p o e = elim (test (taken v.domain_pool d)) [
    | holds t ↦
        let h = is-met after ok 0 v.sizes.records (get_or v.domains d no_domain).head.tracker vs (λ i q. p i (omega (arith, uses-used d k i t))) (λ i q. omega (arith, o i (omega (arith, uses-used d k i t)), uses-used d k i t)) (e d (omega arith) (omega arith) t) in
        goes-more k d vs (omega arith) t h
        (is_all k (suc d) h.us (omega arith) (λ i q. p i (omega (arith, uses-used d k i t))) (λ i q. omega (arith, o i (omega (arith, uses-used d k i t)), uses-used d k i t, h.counts i)) (λ j x y u. e j (omega arith) (omega arith) u))
    | fails t ↦
        goes-skip k d vs (omega arith) t
        (is_all k (suc d) vs (omega arith) (λ i q. p i (omega (arith, uses-free d k i t))) (λ i q. omega (arith, o i (omega (arith, uses-free d k i t)), uses-free d k i t)) (λ j x y u. e j (omega arith) (omega arith) u))
  ]

  -- ---- the test

  may-inside : (i : ℕ) → ok i ≡ true → i < v.sizes.records
  unfolding may_meet eligible
  may-inside i h = (inside_of i v.sizes.records _ h).0

  -- every record in use is used once, and every tracker ends
  pub record TrackersGood : Type 0 where
    pub once : (i : ℕ) → uses 0 v.sizes.domains i ≡ one_if (ok i)
    pub ends : (j : ℕ) → j < v.sizes.domains → taken v.domain_pool j ≡ true → end_of j ≡ 0

  good-from : (o : Option (List ℕ)) → trackers_met v v.sizes.domains 0 [] ≡ o → covered ok v.sizes.records o ≡ true → TrackersGood
  good-from none e h = absurd (true-false h refl)
  good-from (some us) e h =
      let m = all-is v.sizes.domains 0 [] us (omega arith) e in
      record { once = once m; ends = λ j b t. m.ends j (omega arith) (omega arith) t }
    where
      few : AllMet v.sizes.domains 0 [] us → (i : ℕ) → uses 0 v.sizes.domains i ≤ 1
      few m i = elim (cmp 0 (uses 0 v.sizes.domains i)) [ lt q ↦ omega (arith, m.single i q) | ge q ↦ omega arith ]

      once : AllMet v.sizes.domains 0 [] us → (i : ℕ) → uses 0 v.sizes.domains i ≡ one_if (ok i)
      once m i = elim (cmp i v.sizes.records) [
        | lt b ↦ omega (arith, m.counts i, marked-once i us (ok i) (omega (arith, m.counts i, few m i)) (covers_at ok v.sizes.records us h i b))
        | ge b ↦ elim (test (ok i)) [
          | holds t ↦ absurd (omega (arith, may-inside i t))
          | fails t ↦ elim (cmp 0 (uses 0 v.sizes.domains i)) [ lt q ↦ absurd (true-false (m.passed i q) t) | ge q ↦ omega (arith, ap one_if t) ]
        ]
      ]

  pub trackers-good : trackers_hold v ≡ true → TrackersGood
  unfolding trackers_hold
  trackers-good h = good-from (trackers_met v v.sizes.domains 0 []) refl h

  pub good-trackers : TrackersGood → trackers_hold v ≡ true
  unfolding trackers_hold
  good-trackers g =
      let w = is_all v.sizes.domains 0 [] (omega arith) (λ i q. elim (test (ok i)) [ holds t ↦ t | fails t ↦ absurd (omega (arith, g.once i, ap one_if t)) ]) (λ i q. omega (arith, g.once i, one_at_most (ok i))) (λ j a b t. g.ends j (omega arith) t) in
      rw w.finds (at-covers ok v.sizes.records w.us (λ i b. once-marked i w.us (ok i) (omega (arith, w.counts i, g.once i))))
