-- The limits that the code tests are the model's.
use Rattle.std.specs.Prelude.{◌≡◌, refl, ℕ, Bool, true, false, ◌&&◌, T, leb}
use Rattle.std.proofs.Common.{sym, ◌∙◌}
use Rattle.base.specs.Tests.{is_true, true-is, both}
use Rattle.model.specs.State as state
use Rattle.model.specs.Making.{up_to, good_sizes}
use Rattle.sizes.specs.Limits.{most_domains, most_slots, most_regions, most_records, most_updates, Limits, within_b, limits_b, limits-true, true-limits}
use Rattle.decoded.specs.Tables.{sizes_for}

pub and_both : (a b : Bool) → a && b ≡ both a b
and_both true b = refl
and_both false b = refl

five : (d s r t u : Bool) → d && s && r && t && u ≡ both (both d s) (both (both r t) u)
five true true true true u = refl
five true true true false u = refl
five true true false t u = refl
five true false r t u = refl
five false s r t u = refl

up-to : (most n : ℕ) → up_to most n ≡ within_b n most
up-to most n = and_both (leb 1 n) (leb n most)

pub good-sizes : (z : state.Sizes) → good_sizes z ≡ limits_b (sizes_for z)
unfolding limits_b
good-sizes z =
    five (up_to most_domains z.domains) (up_to most_slots z.slots) (up_to most_regions z.regions) (up_to most_records z.records) (up_to most_updates z.updates)
    ∙ rw (up-to most_domains z.domains, up-to most_slots z.slots, up-to most_regions z.regions, up-to most_records z.records, up-to most_updates z.updates)

pub good-limits : (z : state.Sizes) → T (good_sizes z) → Limits (sizes_for z)
good-limits z h = limits-true (sizes_for z) (sym (good-sizes z) ∙ is_true h)

pub limits-good : (z : state.Sizes) → Limits (sizes_for z) → T (good_sizes z)
limits-good z l = true-is (good-sizes z ∙ true-limits (sizes_for z) l)
