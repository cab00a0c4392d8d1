-- A new region gets its Region capability. Until then no list holds one of it; then its owner's list holds one. So root, alias and carve
-- keep the clauses about lists, owners, managers and the queue.
use Rattle.std.specs.Prelude.{◌≡◌, refl, ◌≢◌, ℕ, List, [], ◌∷◌, T, eqb, set, if◌then◌else◌}
use Rattle.std.proofs.Common.{sym, ap, ◌∙◌, arith, get_or-set_other, eq-eqb, ne_eqb}
use Rattle.std.proofs.Math.Path.{subst}
use Rattle.std.proofs.Math.Option.{none, some}
use Rattle.std.proofs.Math.Decide.{ℕ_discrete}
use Rattle.base.specs.Options.{none-some, some_same}
use Rattle.model.specs.Lists.{one_if, is_some, at_slot, In}
use Rattle.model.specs.State.{Pool, region, Domain, Region, Kind, Access, State, with_locals, with_regions, with_children, put_region, region_at}
use Rattle.model.specs.Pool.{handle_of}
use Rattle.model.specs.Locals.{insert_capa}
use Rattle.model.specs.Tree.{insert_child, insert_sorted}
use Rattle.model.specs.Regions.{new_region}
use Rattle.laws.specs.Accepted.{All, accepted, bind, weaken}
use Rattle.laws.specs.Tree.Facts.{self, other}
use Rattle.laws.specs.Tree.Slots.{in-length, is_live_lem, live-is}
use Rattle.laws.specs.Tree.Steps.{region-at}
use Rattle.laws.specs.Capas.Slots.{this, that, was, used-same}
use Rattle.laws.specs.Capas.Live.{handle-one, handle-live, live-fits}
use Rattle.laws.specs.Capas.Held.{Shares, Held, owned_by, managed_by, CapasSound}
use Rattle.laws.specs.Capas.Domain.{held-capas}
use Rattle.laws.specs.Capas.Change.{relist-in, Inserted, Plus, insert-held}
use Rattle.laws.specs.Capas.Listed.{inserted-listed}
use Rattle.laws.specs.Capas.NewDomain.{taken}
use Rattle.laws.specs.Capas.Region.{write-region, grown, grow-next, grow-in, grow-held}
use Rattle.laws.specs.Keep.Slots.{taken-alive}

-- the shares with those of region i left out
abbrev pub shares_without : ℕ → Shares → Shares
shares_without i own j k = if eqb j i then 0 else own j k

pub without-here : (i : ℕ) (own : Shares) (k : ℕ) → shares_without i own i k ≡ 0
without-here i own k = rw (eq-eqb i i refl)

pub without-else : (i : ℕ) (own : Shares) (j k : ℕ) → j ≢ i → shares_without i own j k ≡ own j k
without-else i own j k o = rw (ne_eqb j i o)

-- the Region capability of i is the one slot that i has, in list d
pub region-plus : (t : State) (d i : ℕ) (own₀ own man : Shares) → ((k : ℕ) → own₀ i k ≡ 0) → ((j k : ℕ) → j ≢ i → own₀ j k ≡ own j k) → ((k : ℕ) → own i k ≡ one_if (eqb d k)) → Plus t d (region (handle_of t.region_pool i)) own₀ man own man
region-plus t d i own₀ own man zero rest one = record {
  regions = λ j g e. elim (ℕ_discrete j i) [
    | yes o ↦ rw o (omega (arith, zero d, one d, self d, handle-one t.region_pool i i, self i))
    | no o ↦ omega (arith, rest j d o, handle-one t.region_pool j i, other j i o)
  ];
  domains = λ k z e. omega arith;
  own_else = λ j k n. elim (ℕ_discrete j i) [
    | yes o ↦ rw o (omega (arith, zero k, one k, other d k (λ p. n (sym p))))
    | no o ↦ sym (rest j k o)
  ];
  man_else = λ j k n. refl;
}

-- the shares with one slot of region i, in list d
abbrev pub shares_with : ℕ → ℕ → Shares → Shares
shares_with i d own j k = if eqb j i then one_if (eqb d k) else own j k

pub with-here : (i d : ℕ) (own : Shares) (k : ℕ) → shares_with i d own i k ≡ one_if (eqb d k)
with-here i d own k = rw (eq-eqb i i refl)

pub with-elsewhere : (i d : ℕ) (own : Shares) (j k : ℕ) → j ≢ i → shares_with i d own j k ≡ own j k
with-elsewhere i d own j k o = rw (ne_eqb j i o)

-- a live region without a slot gets one in list d
pub give-region : (own man : Shares) (u : State) (d i : ℕ) (x : Domain) (g : Region) → ((k : ℕ) → own i k ≡ one_if (eqb d k)) → Held (shares_without i own) man u → In u.domains d x → In u.regions i g → All (λ y. Inserted u d x (region (handle_of u.region_pool i)) y.0 y.1 × Held own man y.1) (insert_capa d (region (handle_of u.region_pool i)) u)
give-region own man u d i x g one h e r = insert-held (shares_without i own) man u h d x e own man (region (handle_of u.region_pool i)) tt (live-fits u.region_pool u.regions (handle_of u.region_pool i) (handle-live u.region_pool u.regions i g r)) (region-plus u d i (shares_without i own) own man (without-here i own) (without-else i own) one)

-- ---- a new region

-- Region i of domain d came into s, which gave u; it has no slot yet.
pub record NewRegion (s : State) (d i : ℕ) (u : State) : Type 0 where
  pub held : Held (shares_without i (shares_with i d (owned_by s))) (managed_by s) u
  pub new : Region
  pub is : In u.regions i new
  pub owner : new.owner ≡ d
  pub was_free : at_slot s.regions i ≡ none
  pub owners : (j : ℕ) (g : Region) → In u.regions j g → j ≢ i → g.owner ≡ (region_at s j).owner
  pub stays : (j : ℕ) (g : Region) → In s.regions j g → T (is_some (at_slot u.regions j))
  pub domains : u.domains ≡ s.domains

abbrev new_region_of : ℕ → Kind → Access → Region
new_region_of d k a = record { owner = d; kind = k; start = a.start; end = a.end; rights = a.rights; children = []; hash = none }

module _ (s : State) (h : CapasSound s) (d : ℕ) (x : Domain) (e : In s.domains d x) where
  grow-new : (i : ℕ) (is : List ℕ) (k : Kind) (a : Access) → s.region_pool.free ≡ i ∷ is → NewRegion s d i (grown i is (new_region_of d k a) s)
  grow-new i is k a next =
      let g = new_region_of d k a in
      let own = shares_without i (shares_with i d (owned_by s)) in
      let start = grow-next (owned_by s) own (managed_by s) s h i is next g in
      record {
        held = grow-held (owned_by s) own (managed_by s) s h i is next g (is_live_lem (at_slot s.domains d) x e) (λ j n o. rw (ne_eqb j i o)) (λ n. rw (eq-eqb i i refl));
        new = g;
        is = grow-in (owned_by s) own (managed_by s) s h i is next g;
        owner = refl;
        was_free = start.was_free;
        owners = λ j r f o. elim (was s.regions i g start.low j r f) [
          | this p q ↦ absurd (o p)
          | that p w ↦ ap (λ (v : Region). v.owner) (sym (region-at s j r w))
        ];
        stays = λ j r f. taken-alive s.regions i g start.low j (is_live_lem (at_slot s.regions j) r f);
        domains = refl;
      }

  pub new-region : (k : Kind) (a : Access) → All (λ y. NewRegion s d y.0 y.1) (new_region d k a s)
  unfolding new_region
  new-region k a = bind (taken _ s.region_pool) (λ y t. accepted (subst (λ (p : Pool). NewRegion s d y.0 (with_regions p (set s.regions y.0 (some (new_region_of d k a))) s)) (sym t.is) (grow-new y.0 t.rest k a t.was_next)))

  children-new : (p i : ℕ) (u : State) (r : Region) (cs : List ℕ) → In u.regions p r → p ≢ i → NewRegion s d i u → NewRegion s d i (put_region p (with_children cs r) u)
  children-new p i u r cs f o b =
      let q = with_children cs r in
      let low = in-length u.regions p r f in
      record {
        held = write-region (shares_without i (shares_with i d (owned_by s))) (managed_by s) u b.held p r q f refl (b.held.owner_live p r f);
        new = b.new;
        is = get_or-set_other u.regions p i (some q) none (λ z. o (sym z)) ∙ b.is;
        owner = b.owner;
        was_free = b.was_free;
        owners = λ j g k n. elim (was u.regions p q low j g k) [
          | this a w ↦ ap (λ (v : Region). v.owner) (sym w) ∙ subst (λ m. r.owner ≡ (region_at s m).owner) (sym a) (b.owners p r f o)
          | that a w ↦ b.owners j g w n
        ];
        stays = λ j g k. subst T (sym (used-same u.regions p low (some q) (ap is_some f) j)) (b.stays j g k);
        domains = b.domains;
      }

  -- it joins the child list of another region
  pub child-new : (p i : ℕ) (u : State) (r : Region) → In s.regions p r → NewRegion s d i u → NewRegion s d i (insert_child p i u)
  unfolding insert_child
  child-new p i u r f b =
      let (g, k) = live-is (at_slot u.regions p) (b.stays p r f) in
      subst (λ (v : Region). NewRegion s d i (put_region p (with_children (insert_sorted u.regions i (region_at u i).start v.children) v) u)) (sym (region-at u p g k))
      (children-new p i u g (insert_sorted u.regions i (region_at u i).start g.children) k (λ o. none-some (at_slot s.regions i) r b.was_free (rw o at f)) b)

  owns : (i : ℕ) (u : State) (b : NewRegion s d i u) (j : ℕ) (g : Region) → In u.regions j g → (k : ℕ) → shares_with i d (owned_by s) j k ≡ one_if (eqb g.owner k)
  owns i u b j g f k = elim (ℕ_discrete j i) [
    | yes o ↦ rw o (with-here i d (owned_by s) k ∙ ap (λ n. one_if (eqb n k)) (sym b.owner ∙ ap (λ (v : Region). v.owner) (some_same (at_slot u.regions i) b.new g b.is (rw o at f))))
    | no o ↦ rw (ne_eqb j i o) (ap (λ n. one_if (eqb n k)) (sym (b.owners j g f o)))
  ]

  -- and gets its capability
  pub new-sound : (i : ℕ) (u : State) → NewRegion s d i u → All (λ y. CapasSound y.1 × T (is_some (at_slot y.1.domains d))) (insert_capa d (region (handle_of u.region_pool i)) u)
  new-sound i u b =
      let there : In u.domains d x = ap (λ ds. at_slot ds d) b.domains ∙ e in
      weaken (give-region (shares_with i d (owned_by s)) (managed_by s) u d i x b.new (with-here i d (owned_by s)) b.held there b.is) (λ y (n, k).
      let l = inserted-listed u d x (region (handle_of u.region_pool i)) y.0 y.1 there n in (
        held-capas (shares_with i d (owned_by s)) s y.1 (λ j z f. let (w, m, q) = l.managers j z f in (w, ap (λ ds. at_slot ds j) (sym b.domains) ∙ m, q))
            (λ j g f o. owns i u b j g (ap (λ rs. at_slot rs j) (sym l.regions) ∙ f) o) k,
        is_live_lem (at_slot y.1.domains d) (with_locals n.list x) (subst (λ (z : State). In z.domains d (with_locals n.list x)) (sym n.is) (relist-in u d x there n.list)),
      ))
