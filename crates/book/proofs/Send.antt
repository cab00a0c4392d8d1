-- **Send** keeps book and tables matched.
use Rattle.std.specs.Prelude.{◌≡◌, ◌≢◌, ℕ, ◌<◌, true, ◌&&◌, List, [], ◌∷◌, eqb, get_or, set}
use Rattle.std.proofs.Math.Path.{refl, sym, ap}
use Rattle.std.proofs.Common.{◌∙◌, arith, eqb→eq, length-set, get_or-set_same, get_or-set_other, eq-eqb}
use Rattle.std.proofs.Math.Option
use Rattle.std.proofs.Math.Option.{Option, none, some}
use Rattle.std.proofs.Math.ListN.{length}
use Rattle.base.specs.Cases.{holds, fails, test}
use Rattle.base.specs.Tests.{is_true, true-is, false-is}
use Rattle.model.specs.Lists.{is_some, at_slot}
use Rattle.model.specs.Outcome.{Outcome, ok, ◌>>=◌, ◌>>◌, ok_or}
use Rattle.refusals.specs.Refusals.{no_slot}
use Rattle.model.specs.State.{State, Pool, Handle, Capa, no_capa, region, region_revoke, channel, Region, SendOptions, none_region, region_at, put_region, with_owner, parent_of}
use Rattle.model.specs.Pool.{is_live}
use Rattle.model.specs.Locals.{capa_at, insert_capa, remove_capa}
use Rattle.model.specs.Tree.{Range}
use Rattle.rights.specs.Rights.{union}
use Rattle.model.specs.Regions.{send_ranges, send_region, apply_options}
use Rattle.model.specs.Calls.{live_domain, live_region, as_target, check_options, send_capa, send}
use Rattle.model.specs.Sound.{Sound}
use Rattle.laws.specs.Accepted.{All, accepted, refused, bind, and_then, weaken}
use Rattle.book.specs.Book.{Book, Noted, Held, emptied, region_of, revoke_of, channel_of, noted, with_noted, held_at, domain_in, make_room, put, put_any, freed, flagged, handed_to, owned_by, sent}
use Rattle.book.specs.Demand3.{SameRegion}
use Rattle.book.specs.Tests.{and_left, some_is, some_below}
use Rattle.book.specs.Matches.{both-map, SameHeld, same_free, same_emptied, same_region, same_revoke, same_management, same_channel, AtPlace, Regions, MatchesAt, list-map, Matches, matches}
use Rattle.book.proofs.Slots.{OnlyDomains, only-domains-then, slots-of, capacity-match, insert-match, put-match, put-only-domains, free-same}
use Rattle.book.proofs.Checks.{on-domain, on-caller, live-opens, on-region}
use Rattle.book.proofs.Trackers.{activate-match, deactivate-match}
use Rattle.book.proofs.Held.{held_same}

-- ---- a live region changed at its place and in its slot, but not in kind or life

module _ (rs rs' : List Noted) (p : Pool) (gs gs' : List (Option Region)) (at : ℕ → Handle) (place : ℕ → ℕ) (k i : ℕ) (r : Noted) (g : Region) (m : Regions rs p gs at place) (len : length rs' ≡ length rs) (on : noted rs' k ≡ r) (off : (j : ℕ) → j ≢ k → noted rs' j ≡ noted rs j) (alive : r.alive ≡ (noted rs k).alive) (kind : r.kind ≡ (noted rs k).kind) (below : k < length rs) (lives : (noted rs k).alive ≡ true) (here : (at k).slot ≡ i) (was : is_some (at_slot gs i) ≡ true) (now : at_slot gs' i ≡ some g) (others : (j : ℕ) → j ≢ i → at_slot gs' j ≡ at_slot gs j) (same : SameRegion (λ j. (at j).slot) r g) where
  same-alive : (j : ℕ) → (noted rs' j).alive ≡ (noted rs j).alive
  same-alive j = elim (test (eqb j k)) [
    | holds t ↦ let e = eqb→eq j k (true-is t) in ap (λ c. (noted rs' c).alive) e ∙ ap (λ (x : Noted). x.alive) on ∙ alive ∙ ap (λ c. (noted rs c).alive) (sym e)
    | fails t ↦ ap (λ (x : Noted). x.alive) (off j (λ e. false-is t (true-is (eq-eqb j k e))))
  ]

  same_kind : (j : ℕ) → (noted rs' j).kind ≡ (noted rs j).kind
  same_kind j = elim (test (eqb j k)) [
    | holds t ↦ let e = eqb→eq j k (true-is t) in ap (λ c. (noted rs' c).kind) e ∙ ap (λ (x : Noted). x.kind) on ∙ kind ∙ ap (λ c. (noted rs c).kind) (sym e)
    | fails t ↦ ap (λ (x : Noted). x.kind) (off j (λ e. false-is t (true-is (eq-eqb j k e))))
  ]

  same_some : (j : ℕ) → is_some (at_slot gs' j) ≡ is_some (at_slot gs j)
  same_some j = elim (test (eqb j i)) [
    | holds t ↦ let e = eqb→eq j i (true-is t) in ap (λ c. is_some (at_slot gs' c)) e ∙ ap is_some now ∙ sym was ∙ ap (λ c. is_some (at_slot gs c)) (sym e)
    | fails t ↦ ap is_some (others j (λ e. false-is t (true-is (eq-eqb j i e))))
  ]

  same-as : (r' : Noted) (g' : Region) → r' ≡ r → g' ≡ g → SameRegion (λ j. (at j).slot) r' g'
  same-as r' g' e d = rw (e, d) same

  same-too : (x x' : Noted) (y y' : Region) → x' ≡ x → y' ≡ y → SameRegion (λ j. (at j).slot) x y → SameRegion (λ j. (at j).slot) x' y'
  same-too x x' y y' e d h = rw (e, d) h

  stored' : (j : ℕ) → j < length rs' → (noted rs' j).alive ≡ true → SameRegion (λ q. (at q).slot) (noted rs' j) (Option.get_or (at_slot gs' (at j).slot) none_region)
  stored' j u a = elim (test (eqb j k)) [
    | holds t ↦ let e = eqb→eq j k (true-is t) in same-as _ _ (ap (noted rs') e ∙ on) (ap (λ c. Option.get_or (at_slot gs' (at c).slot) none_region) e ∙ ap (λ c. Option.get_or (at_slot gs' c) none_region) here ∙ ap (λ o. Option.get_or o none_region) now)
    | fails t ↦ let n : j ≢ k = (λ e. false-is t (true-is (eq-eqb j k e))) in
        let v : j < length rs = omega arith in
        let a' = sym (same-alive j) ∙ a in
        same-too (noted rs j) (noted rs' j) _ _ (off j n) (ap (λ o. Option.get_or o none_region) (others (at j).slot (λ e. n (sym (m.one j v a') ∙ ap place (e ∙ sym here) ∙ m.one k below lives)))) (m.stored j v a')
  ]

  pub change-regions : Regions rs' p gs' at place
  change-regions = record {
    alive_is_live = λ j u. same-alive j ∙ m.alive_is_live j (omega arith) ∙ sym (ap (λ c. c && eqb (get_or p.gens (at j).slot 0) (at j).generation) (same_some (at j).slot));
    dead_is_older = λ j u d. m.dead_is_older j (omega arith) (sym (same-alive j) ∙ d);
    stored = stored';
    back = λ j h. let v = m.back j (sym (same_some j) ∙ h) in let w = v.0 in (omega arith, v.1);
    one = λ j u d. m.one j (omega arith) (sym (same-alive j) ∙ d);
    parent_earlier = λ j q u e. m.parent_earlier j q (omega arith) (ap parent_of (sym (same_kind j)) ∙ e);
    parent_lives = λ j q u d e. same-alive q ∙ m.parent_lives j q (omega arith) (sym (same-alive j) ∙ d) (ap parent_of (sym (same_kind j)) ∙ e);
    roots_live = λ j u e. same-alive j ∙ m.roots_live j (omega arith) (ap parent_of (sym (same_kind j)) ∙ e);
  }

-- ---- the owner, or the rights, change on both sides

abbrev at-place-set : (rs : List Noted) (k : ℕ) (r : Noted) (at : ℕ → Handle) (j : ℕ) (h : Handle) → AtPlace rs at j h → AtPlace (set rs k r) at j h
at-place-set rs k r at j h t = (let u = t.0 in let v = length-set rs k r in omega arith, t.1)

-- region g in the slot of the live region at place k, which the book has as r
module _ (b : Book) (s : State) (at : ℕ → Handle) (place : ℕ → ℕ) (k : ℕ) (m : MatchesAt b s at place) (u : k < length b.regions) (l : is_live s.region_pool s.regions (at k) ≡ true) where
  lives : (noted b.regions k).alive ≡ true
  lives = m.regions.alive_is_live k u ∙ l

  region-match : (r : Noted) (g : Region) → r.alive ≡ (noted b.regions k).alive → r.kind ≡ (noted b.regions k).kind → SameRegion (λ j. (at j).slot) r g → MatchesAt (with_noted (set b.regions k r) b) (put_region (at k).slot g s) at place
  region-match r g alive kind same =
      let i = (at k).slot in
      let was = and_left (is_some (at_slot s.regions i)) _ l in
      record {
        sizes = m.sizes;
        regions = change-regions b.regions _ s.region_pool s.regions _ at place k i r g m.regions (length-set b.regions k r) (get_or-set_same b.regions k r _ u) (λ j n. get_or-set_other b.regions k j r _ n) alive kind u lives refl was (get_or-set_same s.regions i _ none (some_below s.regions i was)) (λ j n. get_or-set_other s.regions i j _ none n) same;
        lists = both-map (list-map (λ j h t. at-place-set b.regions k r at j h t)) m.lists;
        generations = m.generations;
      }

  -- it becomes domain `to`'s
  pub own-match : (to : ℕ) → MatchesAt (owned_by to k b) (put_region (at k).slot (with_owner to (region_at s (at k).slot)) s) at place
  unfolding owned_by
  own-match to = let h = m.regions.stored k u lives in region-match _ _ refl refl (record { kind = h.kind; owner = refl; start = h.start; end = h.end; rights = h.rights })

  -- the flags join its rights; its hash is not noted
  pub options-match : (o : SendOptions) → MatchesAt (flagged o k b) (apply_options (at k).slot o s) at place
  unfolding flagged apply_options
  options-match o = go o.flags
    where
      go : (x : Option ℕ) → MatchesAt (flagged (record { flags = x; hash = o.hash }) k b) (apply_options (at k).slot (record { flags = x; hash = o.hash }) s) at place
      go none = m
      go (some f) = let h = m.regions.stored k u lives in region-match _ _ refl refl (record { kind = h.kind; owner = h.owner; start = h.start; end = h.end; rights = ap (λ n. union n f) h.rights })

-- ---- the ranges

pub ranges-match : (b : Book) (at : ℕ → Handle) (place : ℕ → ℕ) (old new r : ℕ) (xs : List Range) (s : State) → MatchesAt b s at place → is_some (at_slot s.domains old) ≡ true → is_some (at_slot s.domains new) ≡ true → All (λ t. MatchesAt b t at place × OnlyDomains s t) (send_ranges old new r xs s)
unfolding send_ranges
ranges-match b at place old new r [] s m i j = accepted (m, record { pool = refl; regions = refl; domain_pool = refl; opens = λ d. refl })
ranges-match b at place old new r (x ∷ xs) s m i j =
    bind (deactivate-match b at place [] s old _ m i) (λ s₁ c.
    bind (activate-match b at place [] s₁ new _ c.0 (c.1.opens new ∙ j)) (λ s₂ e.
    weaken (ranges-match b at place old new r xs s₂ e.0 (e.1.opens old ∙ c.1.opens old ∙ i) (e.1.opens new ∙ c.1.opens new ∙ j)) (λ t f.
    (f.0, only-domains-then s s₂ t f.1 (only-domains-then s s₁ s₂ e.1 c.1)))))

-- ---- send

-- every live region's domain is open
abbrev pub Owned : State → Type 0
Owned s = (i : ℕ) → is_some (at_slot s.regions i) ≡ true → is_some (at_slot s.domains (region_at s i).owner) ≡ true

pub owned : (s : State) → Sound s → Owned s
owned s sound i h = is_true (sound.outside.owners i (region_at s i) (some_is (at_slot s.regions i) none_region h)).owner_live

pub owned-after : (s t : State) → OnlyDomains s t → Owned s → Owned t
owned-after s t q o i h = q.opens _ ∙ (o-as (at_slot t.regions i) (at_slot s.regions i) (ap (λ gs. at_slot gs i) q.regions) (o i (ap (λ gs. is_some (at_slot gs i)) (sym q.regions) ∙ h)))
  where
    o-as : (x y : Option Region) → x ≡ y → is_some (at_slot s.domains (Option.get_or y none_region).owner) ≡ true → is_some (at_slot s.domains (Option.get_or x none_region).owner) ≡ true
    o-as x y e k = rw e k

-- t is matched, and the live domains are those of s
abbrev SentTo : State → (ℕ → Handle) → (ℕ → ℕ) → Book → State → Type 0
SentTo s at place b t = MatchesAt b t at place × ((d : ℕ) → is_some (at_slot t.domains d) ≡ is_some (at_slot s.domains d))

-- the domains of the state with the options applied are those it had
options-domains : (i : ℕ) (o : SendOptions) (t : State) → (apply_options i o t).domains ≡ t.domains
unfolding apply_options
options-domains i o t = go o.flags
  where
    go : (x : Option ℕ) → (apply_options i (record { flags = x; hash = o.hash }) t).domains ≡ t.domains
    go none = refl
    go (some f) = refl

module _ (b : Book) (s : State) (at : ℕ → Handle) (place : ℕ → ℕ) (m : MatchesAt b s at place) (to : ℕ) (o : SendOptions) (open-to : is_some (at_slot s.domains to) ≡ true) (own : Owned s) where
  -- the region at place k lives on, domain `to`'s
  lives-on : (k : ℕ) → k < length b.regions → is_live s.region_pool s.regions (at k) ≡ true → (t : State) → MatchesAt (owned_by to k b) t at place → (k < length (owned_by to k b).regions) × is_live t.region_pool t.regions (at k) ≡ true
  unfolding owned_by
  lives-on k u l t n =
      let v : k < length (owned_by to k b).regions = (at-place-set b.regions k _ at k (at k) (u, refl)).0 in
      (v, sym (n.regions.alive_is_live k v) ∙ ap (λ (r : Noted). r.alive) (get_or-set_same b.regions k _ _ u) ∙ m.regions.alive_is_live k u ∙ l)

  region-at : (k : ℕ) → k < length b.regions → All (SentTo s at place (flagged o k (owned_by to k b))) (live_region s (at k) >>= λ i. check_options o >> (send_region i to s >>= λ s₁. ok (apply_options i o s₁)))
  unfolding send_region
  region-at k u = on-region s (at k) _ (λ l. and_then _ (
      bind (ranges-match (owned_by to k b) at place _ to _ _ _ (own-match b s at place k m u l to) (own (at k).slot (and_left (is_some (at_slot s.regions (at k).slot)) _ l)) open-to) (λ t q.
      let (v, w) = lives-on k u l t q.0 in
      accepted (options-match (owned_by to k b) t at place k q.0 v w o, λ d. ap (λ ds. is_some (at_slot ds d)) (options-domains (at k).slot o t) ∙ q.1.opens d))))

  region-any : (k : ℕ) (h : Handle) → h ≡ at k → k < length b.regions → All (SentTo s at place (flagged o k (owned_by to k b))) (live_region s h >>= λ i. check_options o >> (send_region i to s >>= λ s₁. ok (apply_options i o s₁)))
  region-any k h e u = rw e (region-at k u)

handed-at-place : (b : Book) (at : ℕ → Handle) (to k : ℕ) (o : SendOptions) (h : Handle) → AtPlace b.regions at k h → AtPlace (flagged o k (owned_by to k b)).regions at k h
unfolding owned_by flagged
handed-at-place b at to k o h t = go o.flags
  where
    go : (x : Option ℕ) → AtPlace (flagged (record { flags = x; hash = o.hash }) k (owned_by to k b)).regions at k h
    go none = at-place-set b.regions k _ at k h t
    go (some f) = at-place-set (owned_by to k b).regions k _ at k h (at-place-set b.regions k _ at k h t)

put-sent : (b : Book) (s : State) (at : ℕ → Handle) (place : ℕ → ℕ) (d l to : ℕ) (c : Held) (c' : Capa) → MatchesAt b s at place → is_some (at_slot s.domains d) ≡ true → is_some (at_slot s.domains to) ≡ true → SameHeld (AtPlace b.regions at) (some c) (some c') → All (λ z. Matches (put to z.0 c (freed d l b)) z.1) (insert_capa to c' (remove_capa d l s))
unfolding remove_capa freed
put-sent b s at place d l to c c' m i j q =
    let m₁ = put-match b s at place m d i _ _ (free-same l _ _ (slots-of b s at place m d)) in
    weaken (insert-match _ _ at place m₁ to ((put-only-domains b s at place m d i _).opens to ∙ j) c c' q) (λ z r. matches _ _ _ _ r.0)

module _ (b : Book) (s : State) (at : ℕ → Handle) (place : ℕ → ℕ) (m : MatchesAt b s at place) (d l to : ℕ) (o : SendOptions) (open-d : is_some (at_slot s.domains d) ≡ true) (open-to : is_some (at_slot s.domains to) ≡ true) (own : Owned s) where
  send-held : (x : Option Held) (y : Option Capa) → SameHeld (AtPlace b.regions at) x y → All (λ z. Matches (put_any to z.0 x (freed d l (handed_to to o x b))) z.1) (ok_or y no_slot >>= λ c. send_capa c to o s >>= λ s₂. insert_capa to c (remove_capa d l s₂))
  unfolding ok_or ◌>>=◌ send_capa put_any handed_to
  send-held x y same_free = refused
  send-held x y same_emptied = put-sent b s at place d l to emptied no_capa m open-d open-to same_emptied
  send-held x y (same_region {k} {h} t) = bind (region-any b s at place m to o open-to own k h t.1 t.0) (λ s₂ r. put-sent (flagged o k (owned_by to k b)) s₂ at place d l to (region_of k) (region h) r.0 (r.1 d ∙ open-d) (r.1 to ∙ open-to) (same_region (handed-at-place b at to k o h t)))
  send-held x y (same_revoke {k} {h} t) = put-sent b s at place d l to (revoke_of k) (region_revoke h) m open-d open-to (same_revoke t)
  send-held x y same_management = refused
  send-held x y (same_channel {h}) = put-sent b s at place d l to (channel_of h) (channel h) m open-d open-to same_channel

on-target : {B : Type 0} {Q : B → Type 0} (s : State) (P : ℕ → Handle → Type 0) (x : Option Held) (y : Option Capa) (f : ℕ → Outcome B) → SameHeld P x y → ((k : Handle) → is_live s.domain_pool s.domains k ≡ true → k.slot ≡ domain_in x → All Q (f k.slot)) → All Q (ok_or y no_slot >>= λ t. as_target t >>= λ k. live_domain s k >>= f)
unfolding ok_or ◌>>=◌
on-target s P x y f same_free g = refused
on-target s P x y f same_emptied g = refused
on-target s P x y f (same_region t) g = refused
on-target s P x y f (same_revoke t) g = refused
on-target s P x y f (same_management {h = k}) g = on-domain s k f (λ l. g k l refl)
on-target s P x y f (same_channel {h = k}) g = on-domain s k f (λ l. g k l refl)

sent-as : (b : Book) (s : State) (d l n to to' : ℕ) (o : SendOptions) → to ≡ to' → Matches (sent d l to n o b) s → Matches (sent d l to' n o b) s
sent-as b s d l n to to' o e g = rw e at g

sent_is : (b : Book) (s : State) (d l n to : ℕ) (o : SendOptions) → Matches (put_any to n (held_at (make_room to b) d l) (freed d l (handed_to to o (held_at (make_room to b) d l) (make_room to b)))) s → Matches (sent d l to n o b) s
unfolding sent
sent_is b s d l n to o g = g

pub send-match : (b : Book) (s : State) (h : Handle) (l target : ℕ) (o : SendOptions) → Sound s → Matches b s → All (λ x. Matches (sent h.slot l (domain_in (held_at b h.slot target)) x.0 o b) x.1) (send h l target o s)
unfolding send capa_at
send-match b s h l target o sound g =
    on-caller _ s h _ (λ v.
    on-target s (AtPlace b.regions g.at) _ _ _ (held_same b s _ _ g.fits h.slot target) (λ k w e.
    bind (capacity-match b s _ _ g.fits k.slot (live-opens s k w)) (λ s₁ q.
    weaken (send-held (make_room k.slot b) s₁ _ _ q.0 h.slot l k.slot o (q.1.opens h.slot ∙ live-opens s h v) (q.1.opens k.slot ∙ live-opens s k w) (owned-after s s₁ q.1 (owned s sound)) _ _ (held_same (make_room k.slot b) s₁ _ _ q.0 h.slot l)) (λ x r.
    sent-as b x.1 h.slot l x.0 k.slot _ o e (sent_is b x.1 h.slot l x.0 k.slot o r)))))
