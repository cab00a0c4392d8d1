-- A domain is closed, slot by slot, along the model's close (crate laws, Close/Induction). No step of a close changes the list that is gone through, so
-- that the slot that the code reads in the tables is the one whose turn it is in the model.
use Rattle.std.specs.Prelude.{◌≡◌, refl, not, T, length, get_or}
use Rattle.std.proofs.Common.{sym, ◌∙◌, get_or-drop}
use Rattle.std.proofs.Math.Path.{ap}
use Prim.Native.Nat.{ℕ, suc, ◌+◌}
use Rattle.std.proofs.Math.Option.{Option, none, some}
use mathlib.Core.List.{List, [], ◌∷◌}
use native.Mathlib.Omega.{arith}
use Rattle.base.specs.Tests.{is_true, is_false}
use Rattle.model.specs.Lists.{at_slot, In}
use Rattle.model.specs.State as state
use Rattle.model.specs.State.{State, Capa, no_capa, region, region_revoke, management, channel, Domain}
use Rattle.model.specs.Pool.{is_live}
use Rattle.model.specs.Sound.{Sound}
use Rattle.model.specs.Regions as steps
use Rattle.model.specs.Regions.{live_count}
use Rattle.model.specs.Closing as model
use Rattle.model.specs.Closing.{live_domains, closes_root}
use Rattle.laws.specs.Keep.Base.{Base, sound-base}
use Rattle.laws.specs.Close.Between.{still-there}
use Rattle.laws.specs.Close.Visit.{Visit}
use Rattle.laws.specs.Close.Closes.{rootless}
use Rattle.laws.specs.Close.Induction.{rest_of, Passes, Names, by_region, by_revoke, rest-free, rest-passes, rest-revokes, rest-closes, close-begins, OfClose, OfRest, Steps, close-all}
use Rattle.tables.specs.Tables.{Tables}
use Rattle.answers.specs.Answers.{Effect, done, and_then, then-done}
use Rattle.slots.specs.Capas.{capa_at}
use Rattle.closing_set.specs.Closing.{with_closing}
use Rattle.revocation.specs.Revoke.{revoke}
use Rattle.closing.specs.Close.{freed_domain, revoke_live, slot_by, close_from, close_domain, close}
use Rattle.decoded.specs.Tables.{handle_for, capa_slot, tables_of}
use Rattle.refine.specs.Agrees.{Agrees, agrees-step, agrees-call, agrees-state, bind_assoc}
use Rattle.refine.specs.Arenas.Pools.{count-is}
use Rattle.refine.specs.Slots.ListSteps.{capa-read, capa-none}
use Rattle.refine.specs.Slots.Freeing.{free-domain-refines}
use Rattle.refine.specs.Calls.Activate.{plain}
use Rattle.refine.specs.Calls.Checks.{domain-test, region-test}
use Rattle.refine.specs.Calls.KeptLists.{sound-lists}
use Rattle.refine.specs.Calls.HeldSlot.{sound-whole}
use Rattle.refine.specs.Calls.ClosingSet.{SameClosing, none-same, more_same, domain-low}
use Rattle.refine.specs.Calls.RevokeRegion.{revoke-region-refines}

-- what is shown of a close, and of the rest of a turn: w has the closing domains as bits
abbrev CloseAgrees : OfClose
CloseAgrees n ls s d x = (w : ℕ) → SameClosing w ls → Agrees (close_domain n w d (tables_of s)) (plain (model.close_domain n ls d s))

abbrev RestAgrees : OfRest
RestAgrees n ls s d x u k cs = (w : ℕ) → SameClosing w ls → Agrees (close_from (slot_by (close_domain n w) w d) (length cs) d k (tables_of u)) (plain (rest_of n ls d cs u))

-- ---- one slot

module _ (s : State) (d : ℕ) (x : Domain) (u : State) (k : ℕ) (c : Option Capa) (cs : List (Option Capa)) (v : Visit s d x u k (c ∷ cs)) where
  sound : Sound u
  sound = v.between.sound

  base : Base u
  base = sound-base u sound

  abbrev T' : Tables
  T' = tables_of u

  mine : (y : Domain) × In u.domains d y × (at_slot y.locals.held k ≡ c)
  mine =
      let (y, e, m) = still-there s d x v.turn.is u v.between in
      let z : k + 0 ≡ k = omega arith in
      (y, e, ap (λ (r : Domain). at_slot r.locals.held k) m ∙ ap (λ (j : ℕ). at_slot x.locals.held j) (sym z) ∙ sym (get_or-drop k x.locals.held 0 none) ∙ ap (λ (l : List (Option Capa)). get_or l 0 none) v.left)

  -- what the code reads there
  slot-used : (a : Capa) → c ≡ some a → capa_at T' d k ≡ capa_slot a
  slot-used a q = let (y, e, m) = mine in capa-read u base.domains.size d y e k a (sound-lists u sound d y e).held_length (m ∙ q)

  slot-free : c ≡ none → (capa_at T' d k).kind ≡ 1
  slot-free q = let (y, e, m) = mine in capa-none u base.domains.size d y e k (m ∙ q)

  module _ (f : ℕ → Tables → Effect) (w : ℕ) where
    pass-code : (o : Option Capa) → c ≡ o → Passes u o → slot_by f w d k T' ≡ done 0 T'
    unfolding slot_by revoke_live
    pass-code none q p = rw (slot-free q)
    pass-code (some no_capa) q p = rw (slot-used no_capa q)
    pass-code (some (region h)) q p = rw (slot-used (region h) q, region-test u base (handle_for h) ∙ is_false {b = is_live u.region_pool u.regions h} p)
    pass-code (some (region_revoke h)) q p = rw (slot-used (region_revoke h) q, region-test u base (handle_for h) ∙ is_false {b = is_live u.region_pool u.regions h} p)
    pass-code (some (management h)) q p = rw (slot-used (management h) q, domain-test u base (handle_for h) ∙ is_false {b = is_live u.domain_pool u.domains h} p)
    pass-code (some (channel h)) q p = rw (slot-used (channel h) q)

    names-code : (h : state.Handle) (o : Option Capa) → c ≡ o → Names h o → T (is_live u.region_pool u.regions h) → slot_by f w d k T' ≡ revoke w h.slot T'
    unfolding slot_by revoke_live
    names-code h _ q by_region l = rw (slot-used (region h) q, region-test u base (handle_for h) ∙ is_true {b = is_live u.region_pool u.regions h} l)
    names-code h _ q by_revoke l = rw (slot-used (region_revoke h) q, region-test u base (handle_for h) ∙ is_true {b = is_live u.region_pool u.regions h} l)

    close-code : (h : state.Handle) → c ≡ some (management h) → T (is_live u.domain_pool u.domains h) → slot_by f w d k T' ≡ f h.slot T'
    unfolding slot_by
    close-code h q l = rw (slot-used (management h) q, domain-test u base (handle_for h) ∙ is_true {b = is_live u.domain_pool u.domains h} l)

    -- the slot, and the rest
    turn-code : (z : Effect) → slot_by f w d k T' ≡ z → close_from (slot_by f w d) (length (c ∷ cs)) d k T' ≡ and_then z (λ v. close_from (slot_by f w d) (length cs) d (suc k))
    unfolding close_from
    turn-code z q = let m : k + 1 ≡ suc k = omega arith in ap (λ (y : Effect). and_then y (λ v. close_from (slot_by f w d) (length cs) d (k + 1))) q ∙ ap (λ (j : ℕ). and_then z (λ v. close_from (slot_by f w d) (length cs) d j)) m

    pass_on : Passes u c → close_from (slot_by f w d) (length (c ∷ cs)) d k T' ≡ close_from (slot_by f w d) (length cs) d (suc k) T'
    pass_on p = turn-code (done 0 T') (pass-code c refl p) ∙ then-done (done 0 T') _ 0 refl

-- ---- all steps

-- the turn begins: as many slots as the list has
begin-code : (s : State) → Sound s → (n w d : ℕ) (x : Domain) → In s.domains d x
    → close_domain (suc n) w d (tables_of s) ≡ close_from (slot_by (close_domain n (with_closing w d)) (with_closing w d) d) (length x.locals.held) d 0 (tables_of s)
unfolding close_domain tables_of
begin-code s h n w d x e = ap (λ (m : ℕ). close_from (slot_by (close_domain n (with_closing w d)) (with_closing w d) d) m d 0 (tables_of s)) (sym (sound-lists s h d x e).held_length)

end-code : (f : ℕ → Tables → Effect) (d k : ℕ) (t : Tables) → close_from f 0 d k t ≡ freed_domain d t
unfolding close_from
end-code f d k t = refl

refine-steps : Steps CloseAgrees RestAgrees
refine-steps = record {
  begins = λ n ls s d x b r w same.
      agrees-step _ _ (plain (model.close_domain (suc n) ls d s)) (begin-code s b.sound n w d x b.is)
      (agrees-call _ _ _ (ap plain (close-begins n ls d s x b.is)) (r (with_closing w d) (more_same w d ls (domain-low s (sound-base s b.sound) d x b.is) same)));
  passes = λ n ls s d x u k c cs v p r w same.
      agrees-step _ _ (plain (rest_of n ls d (c ∷ cs) u)) (pass_on s d x u k c cs v (close_domain n w) w p)
      (agrees-call _ _ _ (ap plain (rest-passes n ls d c cs u p)) (r w same));
  revokes = λ n ls s d x u k c cs v h q l p g e m fell r w same.
      agrees-step _ _ (plain (rest_of n ls d (c ∷ cs) u)) (turn-code s d x u k c cs v (close_domain n w) w _ (names-code s d x u k c cs v (close_domain n w) w h c refl q l))
      (agrees-call _ _ _ (ap plain (rest-revokes n ls d h c cs u q l) ∙ bind_assoc _ _ _)
      (agrees-state (revoke w h.slot (tables_of u)) _ (steps.revoke_region ls (live_count u) h.slot u) (λ t. plain (rest_of n ls d cs t))
      (revoke-region-refines w ls same u (sound-whole u v.between.sound) h.slot p g e m) (λ t o. r t o w same)));
  closes = λ n ls s d x u k h cs v l z b m closed one r w same.
      agrees-step _ _ (plain (rest_of n ls d (some (management h) ∷ cs) u)) (turn-code s d x u k (some (management h)) cs v (close_domain n w) w _ (close-code s d x u k (some (management h)) cs v (close_domain n w) w h refl l))
      (agrees-call _ _ _ (ap plain (rest-closes n ls d h cs u l) ∙ bind_assoc _ _ _)
      (agrees-state (close_domain n w h.slot (tables_of u)) _ (model.close_domain n ls h.slot u) (λ t. plain (rest_of n ls d cs t)) (one w same) (λ t o. r t o w same)));
  frees = λ n ls s d x u k v y i w same.
      let b = sound-base u v.between.sound in
      agrees-step _ _ (plain (rest_of n ls d [] u)) (end-code (slot_by (close_domain n w) w d) d k (tables_of u))
      (agrees-call _ _ _ (ap plain (rest-free n ls d u)) (free-domain-refines u b.domains.size b.domains.pool d y i.is i.no_record));
}

-- ---- from the number of live domains

module _ (s : State) (h : Sound s) (d : ℕ) (x : Domain) (e : In s.domains d x) (r : T (not (closes_root s d))) where
  count_word : (tables_of s).domain_pool.count ≡ live_domains s
  unfolding tables_of
  count_word = let b = sound-base s h in count-is s.sizes.domains s.domains s.domain_pool b.domains.pool b.domains.size

  pub close-refines : Agrees (close d (tables_of s)) (plain (model.close_domain (live_domains s) [] d s))
  unfolding close
  close-refines =
      agrees-step (close d (tables_of s)) (close_domain (live_domains s) 0 d (tables_of s)) (plain (model.close_domain (live_domains s) [] d s)) (ap (λ (m : ℕ). close_domain m 0 d (tables_of s)) count_word)
      (close-all CloseAgrees RestAgrees refine-steps (live_domains s) [] s d x (record { sound = h; is = e; no_root = rootless s h d r }) (omega arith) 0 none-same)
