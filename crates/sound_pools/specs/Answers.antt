-- What the functions above the loops answer.
use Rattle.std.specs.Prelude.{◌≡◌, ℕ, ◌+◌, ◌≤◌, ◌<◌, Bool, true, false, not, List, [], length}
use Rattle.std.proofs.Common.{sym, subst, ◌∙◌, arith}
use Rattle.std.proofs.lemmas.Bool.{not-true, not-false}
use Rattle.tables.specs.declared.DomainHead.{DomainHead}
use Rattle.tables.specs.Tables.{Tables, head_at}
use Rattle.tables.specs.View.{view}
use Rattle.list_links.specs.declared.Stack.TheVariants.{Domains, Trackers}
use Rattle.list_links.specs.Stacks.{may_meet}
use Rattle.sound_lists.specs.declared.walks.Followed.{Followed}
use Rattle.sound_lists.specs.Marks.{Clean, Marks, marks-none}
use Rattle.sound_lists.specs.Loops.{Marked, Settled}
use Rattle.sound_lists.specs.Answers.{back}
use Rattle.sound_pools.specs.Hold.{trackers_met, trackers_hold}
use Rattle.sound_pools.specs.Trackers.{TrackersMarked, Along, along-few, along-go, along-skip, along-stop}

-- ---- the trackers

pub trackers-is : (t w : List ℕ) (cl : Clean t w) (x : Followed) (r : Bool) (w₁ w₂ : List ℕ) → TrackersMarked (view t) w x w₁ → length w₁ ≡ length w → Settled (view t) Trackers x w₁ r w₂ → (r ≡ trackers_hold (view t)) × (w₂ ≡ w)
unfolding trackers_hold
trackers-is t w cl x r w₁ w₂ g e q = (
  q.answer (trackers_met (view t) (view t).sizes.domains 0 []) (g.goes [] (marks-none (may_meet (view t) Trackers) t w cl)),
  back t w cl (view t).sizes.records w₁ w₂ g.beyond e q.clean,
)

-- ---- a tracker, in the loop

module _ (v : Tables) (w₀ : List ℕ) (d m : ℕ) (w : List ℕ) (a : Along v w₀ d m w) (n k : ℕ) (en : n ≡ v.sizes.domains) (ek : k ≡ v.sizes.records) (h : d < n) (may : Bool) (em : may ≡ may_meet v Domains d) where
  pub tracker-skip : not may ≡ false → Along v w₀ (d + 1) m w
  tracker-skip f = along-skip v w₀ d m w a (omega arith) (sym em ∙ not-false may f)

  module _ (f : not may ≡ true) (hd : DomainHead) (eh : hd ≡ head_at v d) (x : Followed) (w' : List ℕ) (g : Marked v Trackers 0 k hd.tracker w x w') where
    marked-here : Marked v Trackers 0 v.sizes.records (head_at v d).tracker w x w'
    marked-here = subst (λ (y : DomainHead). Marked v Trackers 0 v.sizes.records y.tracker w x w') eh (subst (λ y. Marked v Trackers 0 y hd.tracker w x w') ek g)

    pub tracker-go : not x.ended ≡ false → Along v w₀ (d + 1) (m + x.links) w'
    tracker-go e = along-go v w₀ d m w a (omega arith) (sym em ∙ not-true may f) x w' marked-here (not-false x.ended e)

    -- the count does not wrap
    pub tracker-few : not x.ended ≡ false → Marks (may_meet v Trackers) w₀ [] → m + x.links ≤ k
    tracker-few e z = omega (arith, along-few v w₀ (d + 1) (m + x.links) w' (tracker-go e) z)

    pub tracker-stop : not x.ended ≡ true → TrackersMarked v w₀ (record { ended = false; links = m }) w'
    tracker-stop e = along-stop v w₀ d m w a (omega arith) (sym em ∙ not-true may f) x w' marked-here (not-true x.ended e)
