-- Who has gone and who is as it was, slot by slot, tells all that `RegionsAfter` and `DomainsAfter` say, once the caller's slot is emptied.
use Rattle.std.specs.Prelude.{◌≡◌, refl, ◌≢◌, ℕ, Bool, true, false, not, List, [], T, if◌then◌else◌}
use Rattle.std.proofs.Common.{sym, ◌∙◌, arith, eq-eqb, ne_eqb}
use Rattle.std.proofs.Math.Path.{ap, subst}
use Rattle.std.proofs.Math.Option.{Option, none, some, get_or}
use Rattle.std.proofs.Math.Decide.{ℕ_discrete}
use Rattle.std.proofs.Math.Dec.{not_T}
use Rattle.std.proofs.Math.ListN.{set}
use Rattle.std.proofs.Math.Seq.{get_or-set_same, get_or-set_other}
use Rattle.base.specs.Options.{none-some}
use Rattle.base.specs.Tests.{true-is, false-is}
use Rattle.model.specs.Lists.{at_slot, In}
use Rattle.model.specs.State.{State, no_capa, Record, Domain, Region, none_domain, domain_at, with_locals, with_tracker, with_children}
use Rattle.model.specs.Fields.{Field, get}
use Rattle.model.specs.Pool.{handle_of}
use Rattle.model.specs.Locals.{empty_capa}
use Rattle.model.specs.Counts.{counts_at, stored_counts, region_count}
use Rattle.model.specs.Sound.{Sound}
use Rattle.laws.specs.Tree.Slots.{in-length, live-is}
use Rattle.laws.specs.Tree.Steps.{domain-at}
use Rattle.laws.specs.Tree.Change.{bare, Alike}
use Rattle.laws.specs.Tree.Stored.{stored}
use Rattle.laws.specs.Keep.SameDomains.{untracked}
use Rattle.laws.specs.Close.Less.{Less, was, had, region-was, domain-was}
use Rattle.closed.specs.Ends.{dies, regions_left, list_left, RegionsAfter, DomainsAfter}
use Rattle.closed.proofs.Left.{left_at, left-length, alike-counts}
use Rattle.closed.proofs.Returns.{changed-counts}

-- ---- regions

-- a region but for its list of children
same-region : (w g : Region) → with_children [] w ≡ with_children [] g → w ≡ with_children w.children g
same-region w g q = λ i. record { owner = (q i).owner; kind = (q i).kind; start = (q i).start; end = (q i).end; rights = (q i).rights; children = w.children; hash = (q i).hash }

module _ (s : State) (sound : Sound s) (taken : ℕ → Bool) (t : State) (soundly : Sound t) (less : Less s t) (gone : (i : ℕ) (g : Region) → In s.regions i g → T (dies s taken i) → at_slot t.regions i ≡ none) (kept : (i : ℕ) (g : Region) → In s.regions i g → T (not (dies s taken i)) → bare (at_slot t.regions i) ≡ bare (at_slot s.regions i)) where
  none-new : (i : ℕ) → at_slot s.regions i ≡ none → (o : Option Region) → at_slot t.regions i ≡ o → o ≡ none
  none-new i n none f = refl
  none-new i n (some z) f = let (w, e, q) = had s t less i z f in absurd (none-some (at_slot s.regions i) w n e)

  unused : (i : ℕ) → at_slot s.regions i ≡ none → at_slot t.regions i ≡ none
  unused i n = none-new i n (at_slot t.regions i) refl

  -- slot by slot the table of the regions that are left
  left-slot : (i : ℕ) (b : Bool) → dies s taken i ≡ b → (o : Option Region) → at_slot s.regions i ≡ o → bare (at_slot t.regions i) ≡ bare (if b then none else at_slot s.regions i)
  left-slot i true c none e = ap bare (unused i e)
  left-slot i true c (some g) e = ap bare (gone i g e (true-is c))
  left-slot i false c none e = ap bare (unused i e ∙ sym e)
  left-slot i false c (some g) e = kept i g e (not_T (dies s taken i) (false-is c))

  left-alike : Alike (regions_left s taken) t.regions
  left-alike = record {
    size = soundly.outside.regions_length ∙ ap (λ z. z.regions) less.sizes ∙ sym sound.outside.regions_length ∙ sym (left-length s taken);
    slots = λ i. left-slot i (dies s taken i) refl (at_slot s.regions i) refl ∙ sym (ap bare (left_at s taken i));
  }

  module _ (c l : ℕ) (m : Sound (empty_capa c l t)) where
    counts-after : (f : Field) (e a : ℕ) → get f (stored_counts (empty_capa c l t) e a) ≡ region_count f (regions_left s taken) e a
    unfolding empty_capa
    counts-after f e a = stored (empty_capa c l t) m a f e ∙ alike-counts (regions_left s taken) t.regions left-alike a f e

    pub regions-after : RegionsAfter s taken (empty_capa c l t)
    unfolding empty_capa
    regions-after = record {
      dead = λ i g e u. let n = gone i g e u in (n, less.region_freed i g e n);
      lives = λ i g e u.
          let (w, f, q) = region-was (at_slot s.regions i) (at_slot t.regions i) g (sym (kept i g e u)) e in
          let own = less.region_own i w f in
          (w.children, f ∙ ap some (same-region w g q), λ j. record { slot = i; generation = own j });
      unused = unused;
      before = λ f e a. stored s sound a f e;
      after = counts-after;
      changed = λ f e a. omega (arith, stored s sound a f e, counts-after f e a, changed-counts s taken f e a);
    }

-- ---- domains

-- the caller with its slot emptied, and another, each but for its tracker
emptied-list : (c l e : ℕ) (y x : Domain) → with_tracker [] y ≡ with_tracker [] x → e ≡ c → with_locals (record { held = set y.locals.held l (some no_capa); free = y.locals.free }) y ≡ with_tracker y.tracker (with_locals (list_left c l e x.locals) x)
emptied-list c l e y x q o = rw (eq-eqb e c o) (λ i. record { manager = (q i).manager; cores = (q i).cores; locals = record { held = set (q i).locals.held l (some no_capa); free = (q i).locals.free }; tracker = y.tracker; interface = (q i).interface })

same-list : (c l e : ℕ) (y x : Domain) → with_tracker [] y ≡ with_tracker [] x → e ≢ c → y ≡ with_tracker y.tracker (with_locals (list_left c l e x.locals) x)
same-list c l e y x q o = rw (ne_eqb e c o) (λ i. record { manager = (q i).manager; cores = (q i).cores; locals = (q i).locals; tracker = y.tracker; interface = (q i).interface })

module _ (s : State) (closes : ℕ → Bool) (c l : ℕ) (x : Domain) (is : In s.domains c x) (apart : T (not (closes c))) (t : State) (less : Less s t) (gone : (e : ℕ) → T (closes e) → at_slot t.domains e ≡ none) (kept : (e : ℕ) → T (not (closes e)) → untracked (at_slot t.domains e) ≡ untracked (at_slot s.domains e)) where
  -- a domain that stays
  there : (e : ℕ) (z : Domain) → In s.domains e z → T (not (closes e)) → (y : Domain) × (at_slot t.domains e ≡ some y) × (with_tracker [] y ≡ with_tracker [] z)
  there e z f n = domain-was (at_slot s.domains e) (at_slot t.domains e) z (sym (kept e n)) f

  abbrev u : State
  u = empty_capa c l t

  other : (e : ℕ) → e ≢ c → at_slot u.domains e ≡ at_slot t.domains e
  unfolding empty_capa
  other e n = get_or-set_other t.domains c e _ none n

  still-free : (e : ℕ) → at_slot t.domains e ≡ none → at_slot u.domains e ≡ none
  still-free e n = let (y, f, q) = there c x is apart in other e (λ o. none-some (at_slot t.domains c) y (subst (λ m. at_slot t.domains m ≡ none) o n) f) ∙ n

  nobody-new : (e : ℕ) → at_slot s.domains e ≡ none → (o : Option Domain) → at_slot t.domains e ≡ o → o ≡ none
  nobody-new e n none f = refl
  nobody-new e n (some y) f = let (z, i, q) = was s t less e y f in absurd (none-some (at_slot s.domains e) z n i)

  stays-in : (e : ℕ) (z : Domain) → In s.domains e z → T (not (closes e)) → (q : List Record) × In u.domains e (with_tracker q (with_locals (list_left c l e z.locals) z)) × (handle_of u.domain_pool e ≡ handle_of s.domain_pool e)
  unfolding empty_capa
  stays-in e z f n =
      let (y, g, q) = there e z f n in
      let own = less.domain_own e y g in
      elim (ℕ_discrete e c) [
        | yes o ↦
            let i : In t.domains c y = subst (λ m. In t.domains m y) o g in
            let w : at_slot u.domains e ≡ _ = ap (at_slot u.domains) o ∙ get_or-set_same t.domains c (some (with_locals (record { held = set (domain_at t c).locals.held l (some no_capa); free = (domain_at t c).locals.free }) (domain_at t c))) none (in-length t.domains c y i) in
            (y.tracker, w ∙ ap some (ap (λ (m : Domain). with_locals (record { held = set m.locals.held l (some no_capa); free = m.locals.free }) m) (domain-at t c y i) ∙ emptied-list c l e y z q o), λ j. record { slot = e; generation = own j })
        | no o ↦ (y.tracker, other e o ∙ g ∙ ap some (same-list c l e y z q o), λ j. record { slot = e; generation = own j })
      ]

  pub domains-after : Sound u → DomainsAfter s closes c l u
  unfolding empty_capa
  domains-after m = record {
    closed = λ e z f n. (still-free e (gone e n), less.domain_freed e z f (gone e n));
    ownerless = λ i g e. not_T (closes g.owner) (λ n. let (z, f) = live-is (at_slot u.domains g.owner) (m.outside.owners i g e).owner_live in none-some (at_slot u.domains g.owner) z (still-free g.owner (gone g.owner n)) f);
    nothing = λ e a n. ap (λ (o : Option Domain). counts_at (get_or o none_domain).tracker a) (still-free e (gone e n));
    stays = stays-in;
    caller = apart;
    vacant = λ e n. still-free e (nobody-new e n (at_slot t.domains e) refl);
  }
