-- Steps that change only lists: regions stay, domains stay with their managers and trackers. So Sound is kept where the lists fit.
use Rattle.std.specs.Prelude.{◌≡◌, refl, ℕ, false}
use Rattle.std.proofs.Common.{sym, subst, ◌∙◌, arith}
use Rattle.std.proofs.Math.Path.{ap}
use Rattle.std.proofs.Math.Option.{some}
use Rattle.model.specs.Lists.{one_if, In}
use Rattle.model.specs.State.{State, Handle, Capa, no_capa, LocalList, Domain, with_locals}
use Rattle.model.specs.Pool.{handle_of}
use Rattle.model.specs.Outcome.{◌>>=◌}
use Rattle.model.specs.Locals.{free_local, has_capacity, insert_capa, remove_capa, empty_capa}
use Rattle.model.specs.Sound.{Sound, RevokeFit, HandleFit, is_region_of, is_management_of}
use Rattle.laws.specs.Accepted.{All, bind, weaken}
use Rattle.laws.specs.Capas.List.{written}
use Rattle.laws.specs.Capas.Held.{Shares, Held, owned_by, managed_by, OthersSound, capas-sound, others-sound, sound-of}
use Rattle.laws.specs.Capas.Domain.{SameManagers, same-managers-then, same-held-capas, back}
use Rattle.laws.specs.Capas.Change.{relist, relist-in, relist-others, Room, Inserted, capacity, Plus, room-held, insert-held}
use Rattle.laws.specs.Tree.Steps.{domain-at}

-- t has the regions of s and its domains with their managers; what Sound says of regions and trackers holds in it too.
pub record Listed (s t : State) : Type 0 where
  pub regions : t.regions ≡ s.regions
  pub managers : SameManagers t.domains s.domains
  pub others : OthersSound s → OthersSound t

pub listed_then : (s t u : State) → Listed s t → Listed t u → Listed s u
listed_then s t u a b = record {
  regions = b.regions ∙ a.regions;
  managers = same-managers-then u.domains t.domains s.domains b.managers a.managers;
  others = λ h. b.others (a.others h);
}

relisted : (s : State) (d : ℕ) (x : Domain) → In s.domains d x → (l : LocalList) → Listed s (relist d x l s)
relisted s d x e l = record { regions = refl; managers = back s d x (with_locals l x) e refl; others = relist-others s d x e l }

pub room-listed : (s : State) (d : ℕ) (x : Domain) (t : State) → In s.domains d x → Room s d x t → Listed s t
room-listed s d x t e r = subst (Listed s) (sym r.is) (relisted s d x e r.list)

pub inserted-listed : (s : State) (d : ℕ) (x : Domain) (c : Capa) (i : ℕ) (t : State) → In s.domains d x → Inserted s d x c i t → Listed s t
inserted-listed s d x c i t e r = subst (Listed s) (sym r.is) (relisted s d x e r.list)

-- a slot freed, and a slot emptied
module _ (s : State) (d l : ℕ) (x : Domain) (e : In s.domains d x) where
  pub remove-is : remove_capa d l s ≡ relist d x (free_local l x.locals) s
  unfolding remove_capa
  remove-is = ap (λ (z : Domain). relist d z (free_local l z.locals) s) (domain-at s d x e)

  pub remove-listed : Listed s (remove_capa d l s)
  remove-listed = subst (Listed s) (sym remove-is) (relisted s d x e (free_local l x.locals))

  empty-is : empty_capa d l s ≡ relist d x (written l (some no_capa) x.locals.free x.locals) s
  unfolding empty_capa
  empty-is = ap (λ (z : Domain). relist d z (written l (some no_capa) z.locals.free z.locals) s) (domain-at s d x e)

  pub empty-listed : Listed s (empty_capa d l s)
  empty-listed = subst (Listed s) (sym empty-is) (relisted s d x e (written l (some no_capa) x.locals.free x.locals))

pub listed-sound : (s t : State) → OthersSound s → Listed s t → Held (owned_by s) (managed_by s) t → Sound t
listed-sound s t h l k = sound-of t (same-held-capas s t l.managers l.regions k) (l.others h)

-- ---- a capability that is no region's and no domain's

pub plus_none : (s : State) (d : ℕ) (c : Capa) (own man : Shares) → ((k : Handle) → is_region_of k (some c) ≡ false) → ((k : Handle) → is_management_of k (some c) ≡ false) → Plus s d c own man own man
plus_none s d c own man a b = record {
  regions = λ i g e. omega (arith, ap one_if (a (handle_of s.region_pool i)));
  domains = λ k z e. omega (arith, ap one_if (b (handle_of s.domain_pool k)));
  own_else = λ i k o. refl;
  man_else = λ i k o. refl;
}

-- what the capability is may hang on the state after the sweep
pub add-sound : (s : State) (d : ℕ) (x : Domain) (c : State → Capa) → Sound s → In s.domains d x → ((t : State) (k : Handle) → is_region_of k (some (c t)) ≡ false) → ((t : State) (k : Handle) → is_management_of k (some (c t)) ≡ false) → ((t : State) → Room s d x t → RevokeFit t.region_pool t.regions (some (c t)) × HandleFit t.region_pool t.regions t.domain_pool t.domains (some (c t))) → All (λ y. Sound y.1) (has_capacity d s >>= λ t. insert_capa d (c t) t)
add-sound s d x c h e a b f =
    bind (capacity s d x e) (λ t r.
    let y = with_locals r.list x in
    let i : In t.domains d y = subst (λ (u : State). In u.domains d y) (sym r.is) (relist-in s d x e r.list) in
    let (p, q) = f t r in
    weaken (insert-held (owned_by s) (managed_by s) t (room-held (owned_by s) (managed_by s) s (capas-sound s h) d x e t r) d y i (owned_by s) (managed_by s) (c t) p q (plus_none t d (c t) (owned_by s) (managed_by s) (a t) (b t)))
    (λ z k. listed-sound s z.1 (others-sound s h) (listed_then s t z.1 (room-listed s d x t e r) (inserted-listed t d y (c t) z.0 z.1 i k.0)) k.1))
