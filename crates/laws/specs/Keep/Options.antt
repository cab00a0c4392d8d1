-- A region's rights are extended, and its hash is another: the trackers stay in agreement, since it counts as before, and the ring and the pools stay sound.
-- So do a send's options.
use Rattle.std.specs.Prelude.{refl, ℕ, T}
use Rattle.std.proofs.Math.Option.{Option}
use Rattle.model.specs.Lists.{is_some, at_slot, In}
use Rattle.model.specs.State.{State, Hash, HashWords, Region, SendOptions, put_region, with_rights_hash}
use Rattle.model.specs.Regions.{apply_options}
use Rattle.laws.specs.Options.{Joinable, applied}
use Rattle.laws.specs.Tree.Slots.{in-length}
use Rattle.laws.specs.Tree.Extends.{Extends}
use Rattle.laws.specs.Tree.Laws.{rights-hash-law}
use Rattle.laws.specs.Keep.SameDomains.{same-domains-self}
use Rattle.laws.specs.Keep.Tracked.{tracked-same}
use Rattle.laws.specs.Keep.Agreement.{TrackersAgree, counts_over}
use Rattle.laws.specs.Keep.Slots.{every-put}
use Rattle.laws.specs.Keep.BaseSteps.{region-base}
use Rattle.laws.specs.Keep.Whole.{Whole, StaysWhole}

module _ (s : State) (i : ℕ) (g : Region) (e : In s.regions i g) where
  rights-hash-agree : TrackersAgree s → (n : ℕ) (y : Option Hash) → Extends g.rights n → HashWords y → TrackersAgree (put_region i (with_rights_hash n y g) s)
  rights-hash-agree k n y x w =
      let t = put_region i (with_rights_hash n y g) s in
      let law = rights-hash-law s k.regions i g e n y x w in
      record {
        tracked = tracked-same t (counts_over s.regions) (counts_over t.regions) law.1 (record { form = k.tracked.form; counts = k.tracked.counts; pool = k.tracked.pool });
        regions = law.0;
        owners = every-put (λ (z : Region). T (is_some (at_slot s.domains z.owner))) s.regions i (in-length s.regions i g e) k.owners (with_rights_hash n y g) (k.owners i g e);
      }

  rights-hash-whole : Whole s → (n : ℕ) (y : Option Hash) → Extends g.rights n → HashWords y → StaysWhole s (put_region i (with_rights_hash n y g) s)
  rights-hash-whole (k, b) n y x w = ((rights-hash-agree k n y x w, (region-base s g.owner b (k.owners i g e) i g (with_rights_hash n y g) e).0), record { sizes = refl; domain_pool = refl; size = refl; domains = λ d. refl })

  pub options-whole : Whole s → (o : SendOptions) → HashWords o.hash → Joinable o → StaysWhole s (apply_options i o s)
  options-whole k o w j = applied (StaysWhole s) s i g e o (k, same-domains-self s) (λ n x. rights-hash-whole k n o.hash x w) j
