-- A close keeps `Tracks` of the live domains that are not closing. A domain's turn begins: nothing is claimed of it from then on. Its slot is freed: of
-- an empty slot nothing is claimed, and every other domain has its tracker and its handle as before.
use Rattle.std.proofs.Common.{sym, subst, get_or-set_other, ne_eqb}
use Rattle.std.specs.Prelude.{◌≢◌, ℕ, zero, suc, ◌≤◌, Bool, true, false, not, ◌||◌, List, [], ◌∷◌, T, eqb, get_or, set}
use Rattle.std.proofs.Math.Option
use Rattle.std.proofs.Math.Option.{Option, none}
use Rattle.model.specs.Lists.{is_some, exists, at_slot}
use Rattle.model.specs.State.{State, Domain, none_domain}
use Rattle.model.specs.Regions.{revoke_region, live_count}
use Rattle.model.specs.Closing.{free_domain, close_domain, live_domains}
use Rattle.model.specs.Sound.{Sound}
use Rattle.laws.specs.Accepted.{All, weaken, all-ok}
use Rattle.laws.specs.Tracker.Form.{Form}
use Rattle.laws.specs.Keep.Agreement.{sound-agree}
use Rattle.laws.specs.Keep.Base.{sound-base}
use Rattle.laws.specs.Keep.BaseSteps.{Live}
use Rattle.laws.specs.Keep.SameDomains.{SameDomains}
use Rattle.laws.specs.Close.FreeDomain.{Idle, freed, free-domain-sound}
use Rattle.laws.specs.Close.Visit.{Turn}
use Rattle.laws.specs.Close.Induction.{OfClose, OfRest, Steps, rest_of, rest-free, rest-passes, rest-revokes, rest-closes, close-begins, close-all, bind-on}
use Rattle.follow.specs.Writer.{Seen}
use Rattle.follow.proofs.Steps.{Tracks, tracks-fewer, set_reads}
use Rattle.follow.proofs.Told.{empty-form}
use Rattle.follow.proofs.Stays.{Stays, Tracking, region-follows}

-- ---- which domains are spoken of

-- another domain is closing
fewer-stay : (closing : List ℕ) (d : ℕ) (s : State) (k : ℕ) → Stays (d ∷ closing) s k → Stays closing s k
fewer-stay closing d s k (l, o) = (l, go (eqb k d) o)
  where
    go : (b : Bool) → T (not (b || exists (eqb k) closing)) → T (not (exists (eqb k) closing))
    go true t = absurd t
    go false t = t

-- those that stay where domain d, which is closing, is gone
abbrev Left : List ℕ → ℕ → State → ℕ → Type 0
Left closing d s k = Live s k × (k ≢ d → T (not (exists (eqb k) closing)))

stays-left : (closing : List ℕ) (d : ℕ) (s : State) (k : ℕ) → Stays closing s k → Left (d ∷ closing) d s k
stays-left closing d s k (l, o) = (l, λ n. rw (ne_eqb k d n) o)

-- ---- a domain is freed

no_own : {A : Type 0} (l : List (Option A)) (d : ℕ) → T (is_some (at_slot (set l d none) d)) → ⊥
no_own [] d t = t
no_own (y ∷ l) zero t = t
no_own (y ∷ l) (suc d) t = no_own l d t

module _ (closing : List ℕ) (v : Seen) (s : State) (h : Tracking closing v s) (d : ℕ) where
  freed-tracks : Tracks (Left closing d (freed d s)) v (freed d s)
  freed-tracks = record {
    form = λ k. set_reads (λ o. Form (Option.get_or o none_domain).tracker) s.domains d k none (h.form k) (λ e. empty-form);
    ranges = h.ranges;
    queued_or_exact = λ k (l, o) x.
        let n : k ≢ d = λ e. no_own s.domains d (subst (λ m. T (is_some (at_slot (set s.domains d none) m))) e l) in
        let same = get_or-set_other s.domains d k none none n in
        rw (same, get_or-set_other s.domain_pool.gens d k (suc (get_or s.domain_pool.gens d 0)) 0 n) (h.queued_or_exact k (rw same at l, o n) x);
  }

  free-tracks : Sound s → (x : Domain) → Idle s d x → All (λ t. Tracks (Left closing d t) v t) (free_domain d s)
  free-tracks sound x i = weaken (free-domain-sound s sound d x i) (λ t (z, e, g). subst (λ u. Tracks (Left closing d u) v u) (sym e) freed-tracks)

-- ---- the close

module _ (v : Seen) where
  abbrev AfterClose : OfClose
  AfterClose n closing s d x = Tracking closing v s → All (Tracking closing v) (close_domain n closing d s)

  abbrev AfterRest : OfRest
  AfterRest n closing s d x u k cs = Tracking closing v u → All (λ t. Tracks (Left closing d t) v t) (rest_of n closing d cs u)

  steps : Steps AfterClose AfterRest
  steps = record {
    begins = λ n closing s d x b r h. subst (All (Tracking closing v)) (sym (close-begins n closing d s x b.is))
        (weaken (r (tracks-fewer (Stays closing s) (Stays (d ∷ closing) s) v s (fewer-stay closing d s) h)) (λ t g. tracks-fewer (Left (d ∷ closing) d t) (Stays closing t) v t (stays-left closing d t) g));
    passes = λ n closing s d x u k c cs w p r h. subst (All (λ t. Tracks (Left closing d t) v t)) (sym (rest-passes n closing d c cs u p)) (r h);
    revokes = λ n closing s d x u k c cs w i q l p g e m fell r h.
        let sound = w.between.sound in
        let one = region-follows closing v u (sound-agree u sound, sound-base u sound) h i.slot p g e m in
        subst (All (λ t. Tracks (Left closing d t) v t)) (sym (rest-revokes n closing d i c cs u q l))
        (bind-on (revoke_region closing (live_count u) i.slot u) (λ t o. r t o (all-ok (λ t. Tracking closing v t × SameDomains u t) _ t one o).0));
    closes = λ n closing s d x u k i cs w l z b m closed one r h. subst (All (λ t. Tracks (Left closing d t) v t)) (sym (rest-closes n closing d i cs u l))
        (bind-on (close_domain n closing i.slot u) (λ t o. r t o (all-ok (Tracking closing v) _ t (one h) o)));
    frees = λ n closing s d x u k w y i h. subst (All (λ t. Tracks (Left closing d t) v t)) (sym (rest-free n closing d u)) (free-tracks closing v u h d w.between.sound y i);
  }

  pub close-tracks : (s : State) (d : ℕ) (x : Domain) → Turn s d x → (n : ℕ) → live_domains s ≤ n → Tracking [] v s → All (Tracking [] v) (close_domain n [] d s)
  close-tracks s d x b n enough = close-all AfterClose AfterRest steps n [] s d x b enough
