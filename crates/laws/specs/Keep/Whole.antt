-- What every call keeps (`Whole`): the trackers store the counts of the regions, and the ring and the pools are sound. The steps on a capability list keep it.
use Rattle.std.specs.Prelude.{◌≡◌, ℕ, T}
use Rattle.model.specs.Lists.{at_slot, In}
use Rattle.model.specs.State.{State, Word, Domain, Region, Handle, Capa, LocalList, domain_at, put_domain, with_locals}
use Rattle.laws.specs.Accepted.{All}
use Rattle.laws.specs.Tree.Slots.{live-is, is_live_lem}
use Rattle.laws.specs.Keep.SameDomains.{SameDomains}
use Rattle.laws.specs.Keep.Agreement.{TrackersAgree}
use Rattle.laws.specs.Keep.Base.{Base}
use Rattle.laws.specs.Keep.BaseSteps.{Live, written-base, listed-base}
use Rattle.laws.specs.Keep.Locals.{written-agree, listed-agree, insert_all, listed-live, capacity-all}
use Rattle.std.specs.Float.Ieee.Fits.{and_l}
use Rattle.model.specs.Pool.{is_live}
use Rattle.model.specs.Locals.{remove_capa, empty_capa, has_capacity, insert_capa}

-- what every call keeps
abbrev pub Whole : State → Type 0
Whole s = TrackersAgree s × Base s

-- of the state beside an answer
abbrev pub After : {A : Type 0} → A × State → Type 0
After y = Whole y.1

-- and the domains differ in their trackers only
abbrev pub StaysWhole : State → State → Type 0
StaysWhole s t = Whole t × SameDomains s t

-- ---- a domain is put back with its tracker as it was

pub written-whole : (s : State) → Whole s → (d : ℕ) (x : Domain) → In s.domains d x → (y : Domain) → y.tracker ≡ (domain_at s d).tracker → Word y.cores → Whole (put_domain d y s)
written-whole s whole d x e y q w = (written-agree s d x e y q s.regions whole.0, written-base s d whole.1 (is_live_lem _ x e) y w)

-- ---- the lists

pub list-whole : (s : State) → Whole s → (d : ℕ) → Live s d → (l : LocalList) → Whole (put_domain d (with_locals l (domain_at s d)) s) × ((k : ℕ) → Live s k → Live (put_domain d (with_locals l (domain_at s d)) s) k)
list-whole s whole d t l =
    let x = live-is (at_slot s.domains d) t in
    ((listed-agree s d x.0 x.1 l s.regions whole.0, (listed-base s d whole.1 t l).0), listed-live s d x.0 x.1 l)

pub remove-whole : (s : State) → Whole s → (d l : ℕ) → Live s d → Whole (remove_capa d l s) × ((k : ℕ) → Live s k → Live (remove_capa d l s) k)
unfolding remove_capa
remove-whole s whole d l t = list-whole s whole d t _

pub empty-whole : (s : State) → Whole s → (d l : ℕ) → Live s d → Whole (empty_capa d l s)
unfolding empty_capa
empty-whole s whole d l t = (list-whole s whole d t _).0

module _ (s : State) (whole : Whole s) (d : ℕ) (t : Live s d) where
  pub capacity-whole : All (λ u. Whole u × Live u d) (has_capacity d s)
  capacity-whole = capacity-all d s _ (λ l. let r = list-whole s whole d t l in (r.0, r.1 d t))

  pub insert-whole : (c : Capa) → All After (insert_capa d c s)
  insert-whole c = insert_all d s c After (λ n l. (list-whole s whole d t l).0)

-- ---- a region's handle

pub live-slot : (s : State) (h : Handle) → T (is_live s.region_pool s.regions h) → (g : Region) × In s.regions h.slot g
live-slot s h t = live-is (at_slot s.regions h.slot) (search and_l)
