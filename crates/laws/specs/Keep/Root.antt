-- Root: the regions are sound with the new one, and the trackers store the counts without it, until its domain gains its range.
use Rattle.std.specs.Prelude.{◌≡◌, refl, T, length}
use Prim.Native.Nat.{ℕ}
use mathlib.Core.List.{[]}
use Rattle.model.specs.Lists.{is_some, at_slot, In}
use Rattle.model.specs.State.{State, Domain, Region, Root, Access, Handle}
use Rattle.model.specs.Regions.{new_region}
use Rattle.model.specs.Calls.{create_root_region}
use Rattle.model.specs.Sound.{PoolSound, slot_uses, Sound}
use Rattle.laws.specs.Accepted.{All, bind, accepted, both}
use Rattle.laws.specs.Tree.Slots.{is_live_lem, live-is}
use Rattle.laws.specs.Tree.Shape.{Sized}
use Rattle.laws.specs.Tree.Tallies.{Gains}
use Rattle.laws.specs.Tree.Laws.{root-law}
use Rattle.laws.specs.Keep.Agreement.{TrackersAgreeWith, TrackersAgree}
use Rattle.laws.specs.Keep.Slots.{every-put}
use Rattle.laws.specs.Keep.Activate.{activate-agree}
use Rattle.laws.specs.Keep.Locals.{listed-agree, insert_all, made, new-all}
use Rattle.model.specs.CallWords.{AccessWords}
use Rattle.laws.specs.Keep.BaseSteps.{new-base, insert-base, gained-base}
use Rattle.laws.specs.Keep.Checks.{domain-live, room-agree}
use Rattle.laws.specs.Keep.Whole.{After}

module _ (s : State) (agree : TrackersAgree s) (size : length s.regions ≡ s.sizes.regions) (pool : PoolSound s.sizes.regions (slot_uses s.regions) s.region_pool) (d : ℕ) (x : Domain) (at : In s.domains d x) (a : Access) where
  -- a region's owner is live
  abbrev Owned : Region → Type 0
  Owned y = T (is_some (at_slot s.domains y.owner))

  pub root-agree : Sized (made d Root a) → All (λ (y : ℕ × State). TrackersAgreeWith s.regions y.1 × Gains s.regions y.1.regions (made d Root a) × In y.1.domains d x) (new_region d Root a s)
  root-agree z = new-all s size pool d Root a _ (λ i p l free.
      let law = root-law s agree.regions i (made d Root a) l free refl z refl in (
        record {
          tracked = record { form = agree.tracked.form; counts = agree.tracked.counts; pool = agree.tracked.pool };
          regions = law.0;
          owners = every-put Owned s.regions i l agree.owners (made d Root a) (is_live_lem _ x at);
        },
        law.1,
        at,
      ))

module _ (s : State) (sound : Sound s) (h : Handle) (a : Access) where
  pub root-keeps : AccessWords a → All After (create_root_region h a s)
  unfolding create_root_region
  root-keeps w =
      bind (domain-live s h) (λ d (x, e).
      bind (room-agree s sound d x e a) (λ s₁ r.
      bind (both (root-agree s₁ r.agree r.base.regions.size r.base.regions.pool d r.domain r.at a (record { nonempty = r.nonempty; start_word = w.0; end_word = w.1; rights_byte = w.2; hash_words = tt })) (new-base s₁ d r.base (is_live_lem _ _ r.at) Root a)) (λ (i, s₂) ((b, gains, at), ((k, live), still)).
      bind (both (insert_all d s₂ _ (λ (y : ℕ × State). TrackersAgreeWith s₁.regions y.1 × (y.1.regions ≡ s₂.regions)) (λ n l. (listed-agree s₂ d _ at l s₁.regions b, refl))) (insert-base s₂ d k live _)) (λ (n, s₃) ((b₃, same), (k₃, live₃)).
      let y = live-is _ live₃ in
      bind (both (activate-agree s₁.regions s₃ b₃ d y.0 y.1 a r.nonempty (λ f j c. rw same (gains f j c))) (gained-base [] s₃ d (k₃, live₃) a)) (λ s₄ (g, k₄). accepted (g.0, k₄.0))))))
