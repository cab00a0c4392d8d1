-- A law: two sound states with the same words are the same state. The header gives the sizes; then the words are the same section by section.
use Rattle.std.specs.Prelude.{◌≡◌, ℕ, ◌+◌, [], get_or}
use Rattle.std.proofs.Common.{ap, sym, subst, ◌∙◌}
use Rattle.model.specs.Lists.{In}
use Rattle.model.specs.State.{Sizes, Domain, State}
use Rattle.model.specs.Layout.{words}
use Rattle.model.specs.Sound.{Sound}
use Rattle.laws.specs.Parts.{same_parts, same_rows}
use Rattle.laws.specs.Words.Length.{sections, words-join, section-lengths, domain-width, region-width, record-width, place-width, hash-width, interface-width, mark-width}
use Rattle.laws.specs.Words.SameTables.{same-pool}
use Rattle.laws.specs.Words.SameRegions.{same-regions}
use Rattle.laws.specs.Words.SameDomains.{Listed, same-domains}
use Rattle.laws.specs.Words.SameQueue.{same_queue}

-- the first five words
same-sizes : (s t : State) → words s ≡ words t → s.sizes ≡ t.sizes
unfolding words
same-sizes s t e =
    let word : (w : ℕ) → get_or (words s) w 0 ≡ get_or (words t) w 0 = λ w. ap (λ l. get_or l w 0) e in
    λ i. record { domains = word 0 i; slots = word 1 i; regions = word 2 i; records = word 3 i; updates = word 4 i }

-- what is used of the capability lists
listed : (s : State) → Sound s → (d : ℕ) (x : Domain) → In s.domains d x → Listed s.sizes.slots x.locals
listed s h d x i = let l = h.outside.lists d x i in record { held_length = l.held_length; once = l.once }

-- the state with other sizes; used only in proofs
abbrev with_sizes : Sizes → State → State
with_sizes z s = record { sizes = z; domain_pool = s.domain_pool; region_pool = s.region_pool; record_pool = s.record_pool; domains = s.domains; regions = s.regions; queue = s.queue }

-- with the same sizes each section is as long in both
same-state : (s t₀ : State) → let t = with_sizes s.sizes t₀ in Sound s → Sound t → words s ≡ words t → s ≡ t
same-state s t₀ h k e =
    let t = with_sizes s.sizes t₀ in
    let z = s.sizes in
    let same = same_parts (sections s) (sections t) (section-lengths s h ∙ sym (section-lengths t k)) (sym (words-join s) ∙ e ∙ words-join t) in
    let part : (w : ℕ) → get_or (sections s) w [] ≡ get_or (sections t) w [] = λ w. ap (λ l. get_or l w []) same in
    let dp = same-pool z.domains _ _ s.domain_pool t.domain_pool h.outside.domain_pool k.outside.domain_pool (part 1) in
    let rp = same-pool z.regions _ _ s.region_pool t.region_pool h.outside.region_pool k.outside.region_pool (part 2) in
    let tp = same-pool z.records _ _ s.record_pool t.record_pool h.tracked.record_pool k.tracked.record_pool (part 3) in
    let drows = same_rows _ _ _ (domain-width z.slots s.domains) (domain-width z.slots t.domains) z.domains (part 4) in
    let rrows = same_rows _ _ _ (region-width s.regions) (region-width t.regions) z.regions (part 5) in
    let trows = same_rows _ _ _ (record-width s.domains) (record-width t.domains) z.records (part 6) in
    let qrows = same_rows _ _ _ (place-width z.updates s.queue) (place-width z.updates t.queue) (z.updates + 1) (part 7) in
    let hrows = same_rows _ _ _ (hash-width s.regions) (hash-width t.regions) z.regions (part 8) in
    let irows = same_rows _ _ _ (interface-width s.domains) (interface-width t.domains) z.domains (part 9) in
    let mrows = same_rows _ _ _ (mark-width z.updates s.queue) (mark-width z.updates t.queue) (z.updates + 1) (part 10) in
    let ds = same-domains _ _ _ s.domains t.domains h.outside.domains_length k.outside.domains_length dp.1 drows trows irows (listed s h) (listed t k) h.tracked.record_pool k.tracked.record_pool in
    let rs = same-regions _ s.regions t.regions h.outside.regions_length k.outside.regions_length rp.1 rrows hrows h.outside.regions k.outside.regions in
    let q = same_queue z.updates s.queue t.queue (ap (λ l. get_or l 5 0) (part 0)) h.queue.read_place h.queue.fits k.queue.fits qrows mrows in
    λ i. record { sizes = z; domain_pool = dp.0 i; region_pool = rp.0 i; record_pool = tp.0 i; domains = ds i; regions = rs i; queue = q i }

pub words-unique : (s t : State) → Sound s → Sound t → words s ≡ words t → s ≡ t
words-unique s t h k e =
    let p : t ≡ with_sizes s.sizes t = ap (λ z. with_sizes z t) (sym (same-sizes s t e)) in
    same-state s t h (subst Sound p k) (e ∙ ap words p) ∙ sym p
