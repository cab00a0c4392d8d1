-- One slot of a closing domain. What it names, if it is live: a region that is no root, or a domain that the closing one manages. After the slot's turn
-- the next one's begins (`Visit`): whatever a slot that had its turn names is gone for good (`Past`), so nothing needs to be counted.
use Rattle.std.specs.Prelude.{◌≡◌, refl, ◌≢◌, ℕ, suc, ◌+◌, ◌<◌, Bool, true, false, List, [], ◌∷◌, T, length, take, drop}
use Rattle.std.proofs.Common.{sym, ap, subst, ◌∙◌, arith, eq-eqb}
use Rattle.std.proofs.Math.Option.{Option, none, some}
use Rattle.std.proofs.Math.Decide.{ℕ_discrete}
use Rattle.std.proofs.Math.Dec.{not_T}
use Rattle.std.specs.Float.Ieee.Fits.{and_l}
use Rattle.base.specs.Cases.{lt, ge, cmp}
use Rattle.base.specs.Tests.{true-false}
use Rattle.base.specs.Options.{none-some, some_same}
use Rattle.model.specs.Lists.{count_if, Each, at_slot, In}
use Rattle.model.specs.State.{State, Handle, Capa, region, region_revoke, management, LocalList, Domain, Region, parent_of, with_tracker}
use Rattle.model.specs.Pool.{handle_of, is_live, same_handle}
use Rattle.model.specs.Tree.{is_root_kind}
use Rattle.model.specs.Sound.{Sound, HandleFit, RevokeFit, is_region_of, is_management_of}
use Rattle.laws.specs.Lists.{none_pass, each_next, drop-next, take_next}
use Rattle.laws.specs.Tree.Slots.{live-is}
use Rattle.laws.specs.Tree.Facts.{same, named, not_root}
use Rattle.laws.specs.Tree.Below.{Below}
use Rattle.laws.specs.Capas.Live.{live-handle}
use Rattle.laws.specs.Keep.SameDomains.{untracked}
use Rattle.laws.specs.Close.Managers.{Leads, leads-then, leads-rank, ranks, ranks-are}
use Rattle.laws.specs.Close.Revoke.{Fell}
use Rattle.laws.specs.Close.Less.{Less, less-self, less_then, fell-less, was, had, leads-less, Old, gone_old, Past}
use Rattle.laws.specs.Close.Doomed.{is_revoke_of, Doomed, below_less, live-less, doomed-less}
use Rattle.laws.specs.Close.Between.{NoRoot, Closed, Between, pasts-on, still-there}

-- the turn of domain x in slot d begins in s
pub record Turn (s : State) (d : ℕ) (x : Domain) : Type 0 where
  pub sound : Sound s
  pub is : In s.domains d x
  pub no_root : NoRoot s d

-- The turn of domain x in slot d began in s, its first k slots have had theirs, and the tables are u. The slots cs are left.
pub record Visit (s : State) (d : ℕ) (x : Domain) (u : State) (k : ℕ) (cs : List (Option Capa)) : Type 0 where
  pub turn : Turn s d x
  pub between : Between s d u
  pub past : Each (Past u) (take k x.locals.held)
  pub left : drop k x.locals.held ≡ cs
  pub place : k + length cs ≡ length x.locals.held

pub first-visit : (s : State) (d : ℕ) (x : Domain) → Turn s d x → Visit s d x s 0 x.locals.held
first-visit s d x b = record { turn = b; between = record { sound = b.sound; less = less-self s; kept = λ k o. refl; past = λ k y e z. absurd (none-some (at_slot s.domains k) y z e); regions = λ i o. refl }; past = tt; left = refl; place = omega arith }

-- ---- at slot c

module _ (s : State) (d : ℕ) (x : Domain) (u : State) (k : ℕ) (c : Option Capa) (cs : List (Option Capa)) (v : Visit s d x u k (c ∷ cs)) where
  b : Between s d u
  b = v.between

  mine : (y : Domain) × In u.domains d y × (with_tracker [] y ≡ with_tracker [] x)
  mine = still-there s d x v.turn.is u b

  -- what holds of every slot of the list holds of this one
  at : (P : Option Capa → Type 0) → Each P mine.0.locals.held → P c
  at P h = each_next P k x.locals.held c cs v.left (subst (λ (l : LocalList). Each P l.held) (ap (λ (z : Domain). z.locals) mine.2) h)

  -- a test that this slot passes is passed
  counted : (p : Option Capa → Bool) → p c ≡ true → 0 < count_if p mine.0.locals.held
  counted p t = elim (cmp 0 (count_if p mine.0.locals.held)) [
    | lt o ↦ o
    | ge o ↦ absurd (true-false t (at (λ w. p w ≡ false) (none_pass p mine.0.locals.held (omega arith))))
  ]

  pub fit : HandleFit u.region_pool u.regions u.domain_pool u.domains c
  fit = at _ (b.sound.outside.lists d mine.0 mine.1).handles_fit

  revoke-fit : RevokeFit u.region_pool u.regions c
  revoke-fit = at _ (b.sound.outside.lists d mine.0 mine.1).revokes_fit

  -- the next slot's turn, where this one's left t
  next : (t : State) → Between s d t → Less u t → Past t c → Visit s d x t (suc k) cs
  next t b₁ l p = record { turn = v.turn; between = b₁; past = take_next (Past t) k x.locals.held c cs v.left p (pasts-on u t l (take k x.locals.held) v.past); left = drop-next k x.locals.held c cs v.left; place = omega (arith, v.place) }

  -- nothing is done
  pub passed : Past u c → Visit s d x u (suc k) cs
  passed p = next u b (less-self u) p

  -- region i has gone with all below it
  fell : (i : ℕ) (t : State) → ((j : ℕ) → Below s.regions i j → Doomed s d j) → Fell u i t → Between s d t × Less u t
  fell i t why f =
      let l = fell-less u t i f in (
        record {
          sound = f.sound;
          less = less_then s u t b.less l;
          kept = λ j o. f.same_domains.domains j ∙ b.kept j o;
          past = λ j y e z. pasts-on u t l y.locals.held (b.past j y e (gone-before (at_slot u.domains j) (at_slot t.domains j) (f.same_domains.domains j) z));
          regions = λ j n. f.revoked.kept j (λ m. n (why j (below_less s u b.less i j m))) ∙ b.regions j n;
        },
        l,
      )
    where
      gone-before : (o p : Option Domain) → untracked p ≡ untracked o → p ≡ none → o ≡ none
      gone-before none p q z = refl
      gone-before (some y) p q z = absurd (none-some (untracked p) (with_tracker [] y) (ap untracked z) q)

  fell-next : (h : Handle) (t : State) → ((j : ℕ) → Below s.regions h.slot j → Doomed s d j) → (Old t.region_pool t.regions h → Past t c) → Fell u h.slot t → Visit s d x t (suc k) cs
  fell-next h t why old f = let (b₁, l) = fell h.slot t why f in next t b₁ l (old (gone_old t.region_pool t.regions h (f.revoked.gone h.slot (Below.here refl))))

-- ---- a slot that names a live region

-- the region, which is no root, and what a revoke of it leaves
pub record RegionNamed (s : State) (d : ℕ) (x : Domain) (u : State) (k : ℕ) (cs : List (Option Capa)) (h : Handle) : Type 0 where
  pub region : Region
  pub parent : ℕ
  pub is : In u.regions h.slot region
  pub under : parent_of region.kind ≡ some parent
  pub next : (t : State) → Fell u h.slot t → Visit s d x t (suc k) cs

-- a domain that d manages, and what a close of it leaves
pub record DomainNamed (s : State) (d : ℕ) (x : Domain) (u : State) (k : ℕ) (cs : List (Option Capa)) (h : Handle) : Type 0 where
  pub domain : Domain
  pub turn : Turn u h.slot domain
  pub managed : domain.manager ≡ some d
  pub next : (t : State) → Closed u h.slot t → Visit s d x t (suc k) cs

same_self : (h : Handle) → same_handle h h ≡ true
same_self h = rw (eq-eqb h.slot h.slot refl, eq-eqb h.generation h.generation refl)

module _ (s : State) (d : ℕ) (x : Domain) (u : State) (k : ℕ) (h : Handle) (cs : List (Option Capa)) where
  module _ (v : Visit s d x u k (some (region h) ∷ cs)) (l : T (is_live u.region_pool u.regions h)) where
    its-owner : (g : Region) → In u.regions h.slot g → g.owner ≡ d
    its-owner g e =
        let y = mine s d x u k (some (region h)) cs v in
        let p = is_region_of (handle_of u.region_pool h.slot) in
        same g.owner d (omega (arith, (v.between.sound.outside.owners h.slot g e).one_slot d y.0 y.1, counted s d x u k (some (region h)) cs v p (ap (λ n. same_handle n h) (live-handle u.region_pool u.regions h l) ∙ same_self h)))

    pub region-named : RegionNamed s d x u k cs h
    region-named =
        let (g, e) = live-is (at_slot u.regions h.slot) (search and_l) in
        let (w, f, q) = had s u v.between.less h.slot g e in
        let leads : Leads s.domains d w.owner = Leads.here (ap (λ (r : Region). r.owner) q ∙ its-owner g e) in
        let (p, n) = not_root g.kind (not_T (is_root_kind g.kind) (λ t. v.turn.no_root h.slot w f (subst (λ (r : Region). T (is_root_kind r.kind)) (sym q) t) leads)) in
        record { region = g; parent = p; is = e; under = n; next = λ t r. fell-next s d x u k (some (region h)) cs v h t (λ j m. Doomed.owned h.slot w f leads m) (λ o. o) r }

  module _ (v : Visit s d x u k (some (region_revoke h) ∷ cs)) (l : T (is_live u.region_pool u.regions h)) where
    revoke-there : 0 < count_if (is_revoke_of h) x.locals.held
    revoke-there = subst (λ (m : LocalList). 0 < count_if (is_revoke_of h) m.held) (ap (λ (z : Domain). z.locals) (mine s d x u k (some (region_revoke h)) cs v).2) (counted s d x u k (some (region_revoke h)) cs v (is_revoke_of h) (same_self h))

    pub revoke-named : RegionNamed s d x u k cs h
    revoke-named =
        let (g, e) = live-is (at_slot u.regions h.slot) (search and_l) in
        let (p, n) = not_root g.kind (revoke-fit s d x u k (some (region_revoke h)) cs v g e l) in
        record { region = g; parent = p; is = e; under = n; next = λ t r. fell-next s d x u k (some (region_revoke h)) cs v h t (λ j m. Doomed.named d x h v.turn.is (Leads.here refl) revoke-there (live-less s u v.between.less h l) m) (λ o. o) r }

  -- ---- a slot that names a live domain

  module _ (v : Visit s d x u k (some (management h) ∷ cs)) (l : T (is_live u.domain_pool u.domains h)) where
    b₀ : Between s d u
    b₀ = v.between

    further : (z : Domain) × In u.domains h.slot z
    further = live-is (at_slot u.domains h.slot) (search and_l)

    managed : further.0.manager ≡ some d
    managed =
        let y = mine s d x u k (some (management h)) cs v in
        let p = is_management_of (handle_of u.domain_pool h.slot) in
        named further.0.manager d (omega (arith, (b₀.sound.outside.managers h.slot further.0 further.1).one_management d y.0 y.1, counted s d x u k (some (management h)) cs v p (ap (λ n. same_handle n h) (live-handle u.domain_pool u.domains h l) ∙ same_self h)))

    lead : Leads s.domains d h.slot
    lead = leads-less s u b₀.less d h.slot (Leads.step d further.0 further.1 managed (Leads.here refl))

    down : (j : ℕ) → Leads u.domains h.slot j → Leads s.domains d j
    down j m = leads-then s.domains d h.slot j lead (leads-less s u b₀.less h.slot j m)

    begins : Turn u h.slot further.0
    begins = record {
      sound = b₀.sound;
      is = further.1;
      no_root = λ i g e m n. let (w, f, q) = had s u b₀.less i g e in v.turn.no_root i w f (subst (λ (r : Region). T (is_root_kind r.kind)) (sym q) m) (subst (Leads s.domains d) (sym (ap (λ (r : Region). r.owner) q)) (down g.owner n));
    }

    -- the closing domain is not closed with a domain that it manages
    apart : (j : ℕ) → (j ≢ d → Leads s.domains d j → ⊥) → Leads u.domains h.slot j → ⊥
    apart j o m = elim (ℕ_discrete j d) [
      | yes n ↦ let r = ranks u b₀.sound in let q = ranks-are u b₀.sound in omega (arith, q.child h.slot d further.0 further.1 managed, leads-rank u.domains r q h.slot j m, ap r n)
      | no n ↦ o n (down j m)
    ]

    -- whoever is gone now was gone before, or has gone in this close
    gone-now : (j : ℕ) (y : Domain) → In s.domains j y → (t : State) → Closed u h.slot t → at_slot t.domains j ≡ none → (o : Option Domain) → at_slot u.domains j ≡ o → Each (Past t) y.locals.held
    gone-now j y e t m z none f = pasts-on u t m.less y.locals.held (b₀.past j y e f)
    gone-now j y e t m z (some w) f =
        let (a, i, q) = was s u b₀.less j w f in
        subst (λ (n : LocalList). Each (Past t) n.held) (sym (ap (λ (n : Domain). n.locals) q) ∙ ap (λ (n : Domain). n.locals) (some_same (at_slot s.domains j) a y i e)) (m.past j w f z)

    after : (t : State) → Closed u h.slot t → Visit s d x t (suc k) cs
    after t m = next s d x u k (some (management h)) cs v t (record {
      sound = m.sound;
      less = less_then s u t b₀.less m.less;
      kept = λ j o. m.kept j (apart j o) ∙ b₀.kept j o;
      past = λ j y e z. gone-now j y e t m z (at_slot u.domains j) refl;
      regions = λ i o. m.regions i (λ n. o (doomed-less s u b₀.less d h.slot i down n)) ∙ b₀.regions i o;
    }) m.less (gone_old t.domain_pool t.domains h m.free)

    pub domain-named : DomainNamed s d x u k cs h
    domain-named = record { domain = further.0; turn = begins; managed = managed; next = after }
