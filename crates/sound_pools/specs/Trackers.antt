-- The walk along all trackers, domain by domain: what it leaves, and what stays true turn by turn.
use Rattle.std.specs.Prelude.{◌≡◌, refl, Bool, true, false, List, [], length}
use Rattle.std.proofs.Common.{sym, ap, ◌∙◌, add-one}
use Prim.Native.Nat.{ℕ, suc, ◌+◌, ◌-◌, ◌≤◌, ◌<◌}
use Rattle.std.proofs.Math.Option.{Option, none, some}
use native.Mathlib.Omega.{arith}
use Rattle.base.specs.Cases.{pick}
use Rattle.base.specs.Tests.{true-false}
use Rattle.tables.specs.Tables.{Tables, head_at}
use Rattle.list_links.specs.declared.Stack.TheVariants.{Domains, Trackers}
use Rattle.list_links.specs.Stacks.{may_meet, met_in}
use Rattle.sound_lists.specs.declared.walks.Followed.{Followed}
use Rattle.sound_lists.specs.Counting.{once-few}
use Rattle.sound_lists.specs.Marks.{Marks}
use Rattle.sound_lists.specs.Loops.{found, Gone, Beyond, Marked, Rest, none-gone, some-gone, may-inside}
use Rattle.sound_pools.specs.Hold.{onward, trackers_met}

pub record TrackersMarked (v : Tables) (w : List ℕ) (r : Followed) (w' : List ℕ) : Type 0 where
  pub beyond : Beyond v.sizes.records w w'
  pub goes : (vs : List ℕ) → Marks (may_meet v Trackers) w vs → Gone (may_meet v Trackers) (trackers_met v v.sizes.domains 0 vs) (length vs) r w'

some_of : (o : Option (List ℕ)) → true ≡ found o → (us : List ℕ) × (o ≡ some us)
some_of none e = absurd (true-false (sym e) refl)
some_of (some us) e = (us, refl)

none_of : (o : Option (List ℕ)) → false ≡ found o → o ≡ none
none_of none e = refl
none_of (some us) e = absurd (true-false refl (sym e))

module _ (v : Tables) (w₀ : List ℕ) where
  abbrev ok : ℕ → Bool
  ok = may_meet v Trackers

  -- the trackers before d have m records
  pub record Along (d m : ℕ) (w : List ℕ) : Type 0 where
    pub beyond : Beyond v.sizes.records w₀ w
    pub goes : (vs : List ℕ) → Marks ok w₀ vs → Rest ok (trackers_met v v.sizes.domains 0 vs) (trackers_met v (v.sizes.domains - d) d) (length vs + m) w

  pub along-start : Along 0 0 w₀
  along-start =
      let z : v.sizes.domains - 0 ≡ v.sizes.domains = omega arith in
      record { beyond = λ j h. refl; goes = λ vs m. record { us = vs; marks = m; rest = ap (λ k. trackers_met v k 0 vs) z; many = omega arith } }

  module _ (d m : ℕ) (w : List ℕ) (a : Along d m w) where
    -- as no record is met twice, they are no more than there are
    pub along-few : Marks ok w₀ [] → m ≤ v.sizes.records
    along-few z = let r = a.goes [] z in omega (arith, r.many, once-few ok v.sizes.records (may-inside v Trackers) r.us r.marks.once)

    abbrev Tail : ℕ → List ℕ → Option (List ℕ)
    Tail e us = trackers_met v (v.sizes.domains - e) e us

    next-is : d < v.sizes.domains → (us : List ℕ) → Tail d us ≡ pick (may_meet v Domains d) (Tail (d + 1) us) (onward (met_in v Trackers 0 v.sizes.records (head_at v d).tracker us) (Tail (d + 1)))
    unfolding trackers_met
    next-is h us =
        let z : v.sizes.domains - d ≡ suc (v.sizes.domains - (d + 1)) = omega arith in
        rw (z, add-one)

    pub along-skip : d < v.sizes.domains → may_meet v Domains d ≡ true → Along (d + 1) m w
    along-skip h f = record {
      beyond = a.beyond;
      goes = λ vs k. let r = a.goes vs k in record { us = r.us; marks = r.marks; rest = sym (next-is h r.us ∙ rw f) ∙ r.rest; many = r.many };
    }

    -- what the walk along this tracker finds
    here : List ℕ → Option (List ℕ)
    here us = met_in v Trackers 0 v.sizes.records (head_at v d).tracker us

    tail-is : d < v.sizes.domains → may_meet v Domains d ≡ false → (us : List ℕ) → Tail d us ≡ onward (here us) (Tail (d + 1))
    unfolding here
    tail-is h f us = next-is h us ∙ rw f

    module _ (h : d < v.sizes.domains) (f : may_meet v Domains d ≡ false) (x : Followed) (w' : List ℕ) (g : Marked v Trackers 0 v.sizes.records (head_at v d).tracker w x w') where
      gone : (us : List ℕ) → Marks ok w us → Gone ok (here us) (length us) x w'
      unfolding here
      gone us k = g.goes us k

      go-rest : x.ended ≡ true → (o : Option (List ℕ)) (n : ℕ) → Rest ok o (Tail d) (n + m) w → Rest ok o (Tail (d + 1)) (n + (m + x.links)) w'
      go-rest e o n r =
          let q = gone r.us r.marks in
          let y = some_of (here r.us) (sym e ∙ q.said) in
          record {
            us = y.0;
            marks = q.marks y.0 y.1;
            rest = sym (tail-is h f r.us ∙ ap (λ z. onward z (Tail (d + 1))) y.1) ∙ r.rest;
            many = omega (arith, q.many y.0 y.1, r.many);
          }

      pub along-go : x.ended ≡ true → Along (d + 1) (m + x.links) w'
      along-go e = record { beyond = λ j b. g.beyond j b ∙ a.beyond j b; goes = λ vs k. go-rest e (trackers_met v v.sizes.domains 0 vs) (length vs) (a.goes vs k) }

      stop-gone : x.ended ≡ false → (o : Option (List ℕ)) (n : ℕ) → Rest ok o (Tail d) (n + m) w → Gone ok o n (record { ended = false; links = m }) w'
      stop-gone e o n r =
          let z = none_of (here r.us) (sym e ∙ (gone r.us r.marks).said) in
          none-gone ok o n m w' (sym r.rest ∙ tail-is h f r.us ∙ ap (λ y. onward y (Tail (d + 1))) z)

      pub along-stop : x.ended ≡ false → TrackersMarked v w₀ (record { ended = false; links = m }) w'
      along-stop e = record { beyond = λ j b. g.beyond j b ∙ a.beyond j b; goes = λ vs k. stop-gone e (trackers_met v v.sizes.domains 0 vs) (length vs) (a.goes vs k) }

    end-gone : v.sizes.domains ≤ d → (o : Option (List ℕ)) (n : ℕ) → Rest ok o (Tail d) (n + m) w → Gone ok o n (record { ended = true; links = m }) w
    unfolding trackers_met
    end-gone h o n r =
        let z : v.sizes.domains - d ≡ 0 = omega arith in
        some-gone ok o r.us n m w r.marks r.many (sym (sym (ap (λ k. trackers_met v k d r.us) z) ∙ r.rest))

    pub along-end : v.sizes.domains ≤ d → TrackersMarked v w₀ (record { ended = true; links = m }) w
    along-end h = record { beyond = a.beyond; goes = λ vs k. end-gone h (trackers_met v v.sizes.domains 0 vs) (length vs) (a.goes vs k) }
