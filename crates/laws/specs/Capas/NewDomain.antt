-- A domain is opened in a free slot. No stored handle names the slot's next life, no region has it as owner and no domain as manager,
-- so nothing counts for it: the shares stay as they are until its manager gets the Management capability.
use Rattle.std.specs.Prelude.{◌≡◌, refl, ◌≢◌, ℕ, zero, suc, false, List, [], ◌∷◌, T, set, replicate}
use Rattle.std.proofs.Common.{sym, ap, subst, ◌∙◌, le_refl, lit<, length-set, get_or-set_same, get_or-set_other}
use Rattle.std.proofs.Math.Option.{Option, none, some}
use Rattle.std.proofs.lemmas.List.{length-replicate}
use Rattle.model.specs.Lists.{is_some, count_if, Each, at_slot, In}
use Rattle.refusals.specs.declared.Refusal.{Refusal}
use Rattle.model.specs.State.{Word, Handle, Pool, Capa, LocalList, Domain, Region, State, open_interface, with_domains}
use Rattle.model.specs.Pool.{allocate, handle_of, is_live}
use Rattle.model.specs.Locals.{fresh_locals}
use Rattle.model.specs.Sound.{ListSound, RevokeFit, HandleFit, Managed, is_region_of, is_management_of}
use Rattle.laws.specs.Accepted.{All, accepted, refused}
use Rattle.laws.specs.Empty.{all-free, unused}
use Rattle.laws.specs.Tree.Slots.{live-is}
use Rattle.base.specs.Options.{none-some}
use Rattle.laws.specs.Keep.Slots.{taken-alive}
use Rattle.laws.specs.Capas.Slots.{this, that, was, Next, next-slot, once-take, count_none}
use Rattle.laws.specs.Capas.List.{Test}
use Rattle.laws.specs.Capas.Live.{not-management, live-onward, live-fits, fits-onward, no-handle, list-onward, queue-onward}
use Rattle.laws.specs.Capas.Held.{Shares, Held}
use Rattle.laws.specs.Capas.Domain.{SameManagers, managed-onward}

-- ---- a slot of a pool is taken

-- i was the slot given next
pub record Taken (p : Pool) (i : ℕ) (q : Pool) : Type 0 where
  pub rest : List ℕ
  pub was_next : p.free ≡ i ∷ rest
  pub is : q ≡ record { gens = p.gens; free = rest }

taken-go : (r : Refusal) (gs fs : List ℕ) → All (λ (x : ℕ × Pool). Taken (record { gens = gs; free = fs }) x.0 x.1) (allocate r (record { gens = gs; free = fs }))
unfolding allocate
taken-go r gs [] = refused
taken-go r gs (i ∷ is) = accepted (record { rest = is; was_next = refl; is = refl })

pub taken : (r : Refusal) (p : Pool) → All (λ (x : ℕ × Pool). Taken p x.0 x.1) (allocate r p)
taken r p = taken-go r p.gens p.free

-- ---- a new list

each_none : (P : Option Capa → Type 0) (n : ℕ) → P none → Each P (replicate n none)
each_none P zero h = tt
each_none P (suc n) h = (h, each_none P n h)

count-fresh : (p : Test) (n : ℕ) → p none ≡ false → count_if p (replicate n none) ≡ 0
count-fresh p n z = count_none (λ x. x ≡ none) p (replicate n none) (λ x e. subst (λ y. p y ≡ false) (sym e) z) (each_none (λ x. x ≡ none) n refl)

fresh-list : (n : ℕ) (rp : Pool) (rs : List (Option Region)) (dp : Pool) (ds : List (Option Domain)) → ListSound n rp rs dp ds (fresh_locals n)
fresh-list n rp rs dp ds = record {
  held_length = length-replicate n none;
  once = λ i. rw (unused Capa n i) (all-free n i);
  revokes_fit = each_none (RevokeFit rp rs) n tt;
  handles_fit = each_none (HandleFit rp rs dp ds) n tt;
}

-- ---- the new domain

abbrev pub new_one : Option ℕ → ℕ → State → Domain
new_one m c s = record { manager = m; cores = c; locals = fresh_locals s.sizes.slots; tracker = []; interface = open_interface }

abbrev pub opened : ℕ → List ℕ → Option ℕ → ℕ → State → State
opened i is m c s = with_domains (record { gens = s.domain_pool.gens; free = is }) (set s.domains i (some (new_one m c s))) s

module _ (own man : Shares) (s : State) (h : Held own man s) (i : ℕ) (is : List ℕ) (next : s.domain_pool.free ≡ i ∷ is) (m : Option ℕ) (c : ℕ) where
  abbrev ds' : List (Option Domain)
  ds' = set s.domains i (some (new_one m c s))

  abbrev dp' : Pool
  dp' = record { gens = s.domain_pool.gens; free = is }

  pub open_next : Next s.sizes.domains s.domains i is
  open_next = next-slot s.sizes.domains s.domains s.domain_pool.free i is h.domains_length h.domain_pool.once next

  pub open_in : In ds' i (new_one m c s)
  open_in = get_or-set_same s.domains i (some (new_one m c s)) none open_next.low

  alive-on : (k : ℕ) → T (is_some (at_slot s.domains k)) → T (is_some (at_slot ds' k))
  alive-on = taken-alive s.domains i (new_one m c s) open_next.low

  -- a slot in use is another one
  other-slot : (k : ℕ) (z : Domain) → In s.domains k z → k ≢ i
  other-slot k z e o = none-some (at_slot s.domains i) z open_next.was_free (rw o at e)

  forth : SameManagers s.domains ds'
  forth k z e = (z, get_or-set_other s.domains i k (some (new_one m c s)) none (other-slot k z e) ∙ e, refl)

  pub open-live : (k : Handle) → T (is_live s.domain_pool s.domains k) → T (is_live dp' ds' k)
  open-live k t = live-onward s.domain_pool s.domains ds' alive-on k t

  list_on : (l : LocalList) → ListSound s.sizes.slots s.region_pool s.regions s.domain_pool s.domains l → ListSound s.sizes.slots s.region_pool s.regions dp' ds' l
  list_on l k = list-onward s.region_pool s.region_pool s.regions s.regions s.domain_pool dp' s.domains ds' (λ h t. t) (λ h t u. u) (fits-onward s.domain_pool dp' s.domains ds' (λ h t. live-fits dp' ds' h (open-live h t)) (λ j. le_refl _)) s.sizes.slots l k

  -- no Management capability of the new domain is in a list yet
  none_yet : (k : ℕ) (z : Domain) → In s.domains k z → count_if (is_management_of (handle_of s.domain_pool i)) z.locals.held ≡ 0
  none_yet k z e = count_none (HandleFit s.region_pool s.regions s.domain_pool s.domains) _ z.locals.held (not-management (HandleFit s.region_pool s.regions s.domain_pool s.domains) (handle_of s.domain_pool i) (no-handle s.domain_pool s.domains i open_next.was_free)) (h.lists k z e).handles_fit

  managed-new : (o : Option ℕ) → m ≡ o → ((k : ℕ) → m ≡ some k → T (is_some (at_slot s.domains k))) → Managed ds' i
  managed-new none e l = Managed.no_manager i (new_one m c s) open_in e
  managed-new (some k) e l = let (w, u) = live-is (at_slot s.domains k) (l k e) in Managed.by i k (new_one m c s) open_in e (managed-onward s.domains ds' forth k (h.managed k w u))

  module _ (word : Word c) (live : (k : ℕ) → m ≡ some k → T (is_some (at_slot s.domains k)))
      (own_new : (j : ℕ) (g : Region) → In s.regions j g → own j i ≡ 0)
      (man-in : (j : ℕ) (z : Domain) → In s.domains j z → man j i ≡ 0)
      (man-new : (k : ℕ) → man i k ≡ 0) where
    fresh_at : (p : Test) → p none ≡ false → (z : Domain) → new_one m c s ≡ z → count_if p z.locals.held ≡ 0
    fresh_at p n z q = ap (λ (w : Domain). count_if p w.locals.held) (sym q) ∙ count-fresh p s.sizes.slots n

    manages : (j : ℕ) (v : Domain) → In ds' j v → (k : ℕ) (z : Domain) → In ds' k z → count_if (is_management_of (handle_of s.domain_pool j)) z.locals.held ≡ man j k
    manages j v f k z n = elim (was s.domains i (new_one m c s) open_next.low j v f) [
      | this a b ↦ rw a (elim (was s.domains i (new_one m c s) open_next.low k z n) [
        | this o q ↦ fresh_at (is_management_of (handle_of s.domain_pool i)) refl z q ∙ sym (man-new k)
        | that o w ↦ none_yet k z w ∙ sym (man-new k)
      ])
      | that a b ↦ elim (was s.domains i (new_one m c s) open_next.low k z n) [
        | this o q ↦ rw o (fresh_at (is_management_of (handle_of s.domain_pool j)) refl z q ∙ sym (man-in j v b))
        | that o w ↦ h.management_slots j v b k z w
      ]
    ]

    pub open-held : Held own man (opened i is m c s)
    open-held = record {
      sizes_good = h.sizes_good;
      domains_length = length-set s.domains i (some (new_one m c s)) ∙ h.domains_length;
      regions_length = h.regions_length;
      domain_pool = record { gens_length = h.domain_pool.gens_length; gens_words = h.domain_pool.gens_words; once = once-take s.sizes.domains s.domains h.domains_length i is (new_one m c s) open_next.once };
      region_pool = h.region_pool;
      owner_live = λ j g f. alive-on g.owner (h.owner_live j g f);
      region_slots = λ j g f k z n. elim (was s.domains i (new_one m c s) open_next.low k z n) [
        | this o q ↦ rw o (fresh_at (is_region_of (handle_of s.region_pool j)) refl z q ∙ sym (own_new j g f))
        | that o w ↦ h.region_slots j g f k z w
      ];
      manager_live = λ k z f n q. elim (was s.domains i (new_one m c s) open_next.low k z f) [
        | this o p ↦ alive-on n (live n (ap (λ (w : Domain). w.manager) p ∙ q))
        | that o w ↦ alive-on n (h.manager_live k z w n q)
      ];
      management_slots = manages;
      managed = λ k z f. elim (was s.domains i (new_one m c s) open_next.low k z f) [
        | this o p ↦ subst (Managed ds') (sym o) (managed-new m refl live)
        | that o w ↦ managed-onward s.domains ds' forth k (h.managed k z w)
      ];
      lists = λ k z f. elim (was s.domains i (new_one m c s) open_next.low k z f) [
        | this o q ↦ subst (λ (w : Domain). ListSound s.sizes.slots s.region_pool s.regions dp' ds' w.locals) q (fresh-list _ _ _ _ _)
        | that o w ↦ list_on z.locals (h.lists k z w)
      ];
      cores_words = λ k z f. elim (was s.domains i (new_one m c s) open_next.low k z f) [
        | this o q ↦ subst (λ (w : Domain). Word w.cores) q word
        | that o w ↦ h.cores_words k z w
      ];
      interface_words = λ k z f. elim (was s.domains i (new_one m c s) open_next.low k z f) [
        | this o q ↦ subst (λ (w : Domain). Word w.interface.word) q (lit< tt)
        | that o w ↦ h.interface_words k z w
      ];
      queue = queue-onward s.sizes.updates s.domain_pool dp' s.domains ds' (fits-onward s.domain_pool dp' s.domains ds' (λ n t. live-fits dp' ds' n (open-live n t)) (λ i. le_refl _)) s.queue h.queue;
    }
