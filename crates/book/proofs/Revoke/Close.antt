-- Closing a domain, slot by slot on both sides: the book that closed it matches the tables that did.
use Rattle.std.specs.Prelude.{◌≡◌, ◌≢◌, ℕ, zero, suc, ◌+◌, ◌≤◌, Bool, false, not, List, [], ◌∷◌, T, length, if◌then◌else◌}
use Rattle.std.proofs.Math.Path.{refl, sym, ap, subst}
use Rattle.std.proofs.Common.{◌∙◌, arith}
use Rattle.std.proofs.Math.Bool.{true}
use Rattle.std.proofs.Math.Option
use Rattle.std.proofs.Math.Option.{Option, none, some}
use Rattle.std.proofs.Math.ListN.{get_or, set}
use Rattle.std.proofs.Math.Seq.{get_or-set_other}
use Rattle.base.specs.Tests.{is_true, is_false, true-false}
use Rattle.model.specs.Lists.{is_some, count_if, at_slot, In}
use Rattle.model.specs.Outcome.{Outcome, ok, ◌>>=◌}
use Rattle.model.specs.State.{State, Pool, Handle, Capa, management, Domain, Region, none_domain, parent_of, region_at, domain_at}
use Rattle.model.specs.Pool.{free, is_live}
use Rattle.model.specs.Regions.{revoke_region, live_count}
use Rattle.model.specs.Closing.{closes_root, free_domain, close_domain, live_domains}
use Rattle.model.specs.Calls.{close_managed}
use Rattle.model.specs.Sound.{Sound}
use Rattle.laws.specs.Accepted.{All, accepted, bind, and_then, weaken, checked}
use Rattle.laws.specs.Tree.Steps.{region-at, domain-at}
use Rattle.laws.specs.Close.Revoke.{Fell}
use Rattle.laws.specs.Close.FreeDomain.{Idle}
use Rattle.laws.specs.Close.Between.{Closed}
use Rattle.laws.specs.Close.Closes.{rootless}
use Rattle.laws.specs.Close.Visit.{Turn, Visit}
use Rattle.laws.specs.Close.Induction.{rest_of, Passes, Names, by_region, by_revoke, rest-free, rest-passes, rest-revokes, rest-closes, close-begins, OfClose, OfRest, Steps, close-all}
use Rattle.book.specs.Book.{Book, Held, emptied, region_of, revoke_of, management_of, channel_of, Opened, no_opened, slots_of, is_open, with_opened, killed, revoked, all_revoked, closed, open_domains}
use Rattle.book.specs.Tests.{some_is}
use Rattle.book.specs.Matches.{Both, nil, cons, both-map, both-set, SameHeld, same_free, same_emptied, same_region, same_revoke, same_management, same_channel, same_map, SameList, not_opened, is_opened, AtPlace, MatchesAt}
use Rattle.book.proofs.Slots.{open-is-live, slots-of}
use Rattle.book.proofs.Checks.{with-ok, on-domain, live-opens}
use Rattle.book.proofs.Revoke.Dying.{dying-length}
use Rattle.book.proofs.Revoke.Dead.{killed-same}
use Rattle.book.proofs.Revoke.Regions.{fell-match}

-- ---- as many domains are open as are live

lists-count : {P : ℕ → Handle → Type 0} {ls : List (Option Opened)} {ds : List (Option Domain)} → Both (SameList P) ls ds → count_if is_some ls ≡ count_if is_some ds
lists-count nil = refl
lists-count (cons not_opened h) = ap (λ n. 0 + n) (lists-count h)
lists-count (cons (is_opened r) h) = ap (λ n. 1 + n) (lists-count h)

pub open-count : (b : Book) (s : State) (at : ℕ → Handle) (place : ℕ → ℕ) → MatchesAt b s at place → open_domains b ≡ live_domains s
open-count b s at place m = lists-count m.lists

-- ---- no place is added or taken

abbrev SamePlaces : (Book → Book) → Type 0
SamePlaces f = (b : Book) → length (f b).regions ≡ length b.regions

killed-places : (k : ℕ) → SamePlaces (killed k)
unfolding killed
killed-places k b = dying-length _ 0 b.regions

if-places : (c : Bool) (b e : Book) (n : ℕ) → length b.regions ≡ n → length e.regions ≡ n → length (if c then b else e).regions ≡ n
if-places true b e n h k = h
if-places false b e n h k = k

revoked-places : (close : ℕ → Book → Book) → ((d : ℕ) → SamePlaces (close d)) → (c : Option Held) → SamePlaces (revoked close c)
unfolding revoked
revoked-places close h none b = refl
revoked-places close h (some emptied) b = refl
revoked-places close h (some (region_of k)) b = killed-places k b
revoked-places close h (some (revoke_of k)) b = killed-places k b
revoked-places close h (some (management_of e)) b = if-places (is_open b e) _ b _ (h e.slot b) refl
revoked-places close h (some (channel_of e)) b = refl

all-places : (f : Option Held → Book → Book) → ((c : Option Held) → SamePlaces (f c)) → (cs : List (Option Held)) → SamePlaces (all_revoked f cs)
unfolding all_revoked
all-places f h [] b = refl
all-places f h (c ∷ cs) b = all-places f h cs (f c b) ∙ h c b

closed-places : (n d : ℕ) → SamePlaces (closed n d)
unfolding closed
closed-places zero d b = refl
closed-places (suc n) d b = all-places (revoked (closed n)) (revoked-places (closed n) (closed-places n)) (slots_of b d).held b

-- slots that hold the same do so in a book with as many places
same-places : (b c : Book) (at : ℕ → Handle) (hs : List (Option Held)) (cs : List (Option Capa)) → length c.regions ≡ length b.regions → Both (SameHeld (AtPlace b.regions at)) hs cs → Both (SameHeld (AtPlace c.regions at)) hs cs
same-places b c at hs cs e h = both-map (same_map (λ k x t. let u = t.0 in (omega arith, t.1))) h

-- ---- the domain is freed

none-set : (ds : List (Option Domain)) (d : ℕ) → is_some (at_slot (set ds d none) d) ≡ false
none-set [] d = refl
none-set (x ∷ ds) zero = refl
none-set (x ∷ ds) (suc d) = none-set ds d

module _ (at : ℕ → Handle) (place : ℕ → ℕ) where
  freed-match : (b : Book) (s : State) (d : ℕ) → MatchesAt b s at place → All (λ t. MatchesAt (with_opened d none b) t at place) (free_domain d s)
  unfolding free_domain free
  freed-match b s d m = bind {P = λ p. p.gens ≡ set s.domain_pool.gens d (suc (get_or s.domain_pool.gens d 0))} (and_then _ (accepted refl)) (λ p e. accepted (record {
    sizes = m.sizes;
    regions = m.regions;
    lists = both-set d none none not_opened m.lists;
    generations = λ c i. other p e c (λ o. true-false (ap (λ v. is_some (at_slot (set s.domains d none) v)) (sym o) ∙ i) (none-set s.domains d)) i;
  }))
    where
      other : (p : Pool) → p.gens ≡ set s.domain_pool.gens d (suc (get_or s.domain_pool.gens d 0)) → (c : ℕ) → c ≢ d → is_some (at_slot (set s.domains d none) c) ≡ true → (Option.get_or (at_slot (set b.lists d none) c) no_opened).generation ≡ get_or p.gens c 0
      other p e c o i =
          ap (λ x. (Option.get_or x no_opened).generation) (get_or-set_other b.lists d c none none o)
          ∙ m.generations c (sym (ap is_some (get_or-set_other s.domains d c none none o)) ∙ i)
          ∙ sym (ap (λ gs. get_or gs c 0) e ∙ get_or-set_other s.domain_pool.gens d c _ 0 o)

  -- ---- both sides, slot by slot

  abbrev CloseMatches : OfClose
  CloseMatches n closing s d x = (b : Book) → MatchesAt b s at place → All (λ t. MatchesAt (closed n d b) t at place) (close_domain n closing d s)

  -- the rest of a turn in the book
  abbrev rest : ℕ → ℕ → List (Option Held) → Book → Book
  rest n d hs b = with_opened d none (all_revoked (revoked (closed n)) hs b)

  abbrev RestMatches : OfRest
  RestMatches n closing s d x u k cs = (b : Book) (hs : List (Option Held)) → MatchesAt b u at place → Both (SameHeld (AtPlace b.regions at)) hs cs → All (λ t. MatchesAt (rest n d hs b) t at place) (rest_of n closing d cs u)

  -- the slot changes the book to e, and the rest follows
  rest-as : (n d : ℕ) (c : Option Held) (hs : List (Option Held)) (b e : Book) (t : State) → revoked (closed n) c b ≡ e → MatchesAt (rest n d hs e) t at place → MatchesAt (rest n d (c ∷ hs) b) t at place
  unfolding all_revoked
  rest-as n d c hs b e t q m = subst (λ v. MatchesAt (rest n d hs v) t at place) (sym q) m

  passes-match : (n d : ℕ) (b : Book) (u : State) (c : Option Capa) (x : Option Held) → MatchesAt b u at place → Passes u c → SameHeld (AtPlace b.regions at) x c → revoked (closed n) x b ≡ b
  unfolding revoked
  passes-match n d b u c x m p same_free = refl
  passes-match n d b u c x m p same_emptied = refl
  passes-match n d b u c x m p (same_region {k} {h} t) = killed-same b u at place m k (m.regions.alive_is_live k t.0 ∙ ap (is_live u.region_pool u.regions) (sym t.1) ∙ is_false p)
  passes-match n d b u c x m p (same_revoke {k} {h} t) = killed-same b u at place m k (m.regions.alive_is_live k t.0 ∙ ap (is_live u.region_pool u.regions) (sym t.1) ∙ is_false p)
  passes-match n d b u c x m p (same_management {h}) = ap (λ v. if v then closed n h.slot b else b) (open-is-live b u at place m h ∙ is_false p)
  passes-match n d b u c x m p same_channel = refl

  open-closes : (n : ℕ) (b : Book) (h : Handle) → is_open b h ≡ true → revoked (closed n) (some (management_of h)) b ≡ closed n h.slot b
  unfolding revoked
  open-closes n b h e = ap (λ v. if v then closed n h.slot b else b) e

  -- the place of the region that a slot names
  record Placed (b : Book) (n : ℕ) (h : Handle) (x : Option Held) : Type 0 where
    spot : ℕ
    at_place : AtPlace b.regions at spot h
    dies : revoked (closed n) x b ≡ killed spot b

  placed : (b : Book) (n : ℕ) (h : Handle) (c : Option Capa) (x : Option Held) → Names h c → SameHeld (AtPlace b.regions at) x c → Placed b n h x
  unfolding revoked
  placed b n h c x by_region (same_region {k} t) = record { spot = k; at_place = t; dies = refl }
  placed b n h c x by_revoke (same_revoke {k} t) = record { spot = k; at_place = t; dies = refl }

  fell-at : (b : Book) (s t : State) (h : Handle) (k p : ℕ) (g : Region) → MatchesAt b s at place → AtPlace b.regions at k h → T (is_live s.region_pool s.regions h) → In s.regions h.slot g → parent_of g.kind ≡ some p → Fell s h.slot t → MatchesAt (killed k b) t at place
  fell-at b s t h k p g m (u, e) l i n f = fell-match b s t at place k p m u (ap (is_live s.region_pool s.regions) (sym e) ∙ is_true l) (ap (λ (v : Handle). parent_of (region_at s v.slot).kind) (sym e) ∙ ap (λ (v : Region). parent_of v.kind) (region-at s h.slot g i) ∙ n) (subst (λ (v : Handle). Fell s v.slot t) e f)

  -- the slots that are left, after a change of the book
  rest-match : (n : ℕ) (closing : List ℕ) (d : ℕ) (cs : List (Option Capa)) (hs : List (Option Held)) (x : Option Held) (b e : Book) (m : Outcome State) → revoked (closed n) x b ≡ e → length e.regions ≡ length b.regions → All (λ t. MatchesAt e t at place) m → Both (SameHeld (AtPlace b.regions at)) hs cs → ((t : State) → m ≡ ok t → (c : Book) (gs : List (Option Held)) → MatchesAt c t at place → Both (SameHeld (AtPlace c.regions at)) gs cs → All (λ v. MatchesAt (rest n d gs c) v at place) (rest_of n closing d cs t)) → All (λ v. MatchesAt (rest n d (x ∷ hs) b) v at place) (m >>= λ t. rest_of n closing d cs t)
  rest-match n closing d cs hs x b e m q l h k on = bind (with-ok m h) (λ t (g, o). weaken (on t o e hs g (same-places b e at hs cs l k)) (λ v f. rest-as n d x hs b e v q f))

  begins : (n : ℕ) (closing : List ℕ) (s : State) (d : ℕ) (x : Domain) → Turn s d x → RestMatches n (d ∷ closing) s d x s 0 x.locals.held → CloseMatches (suc n) closing s d x
  unfolding closed
  begins n closing s d x turn r b m = subst (All (λ t. MatchesAt (closed (suc n) d b) t at place)) (sym (close-begins n closing d s x turn.is)) (r b (slots_of b d).held m (subst (λ (y : Domain). Both (SameHeld (AtPlace b.regions at)) (slots_of b d).held y.locals.held) (domain-at s d x turn.is) (slots-of b s at place m d).held))

  passes : (n : ℕ) (closing : List ℕ) (s : State) (d : ℕ) (x : Domain) (u : State) (k : ℕ) (c : Option Capa) (cs : List (Option Capa)) → Visit s d x u k (c ∷ cs) → Passes u c → RestMatches n closing s d x u (suc k) cs → RestMatches n closing s d x u k (c ∷ cs)
  passes n closing s d x u k c cs v p r b hs m (cons {xs = gs} q h) = subst (All (λ t. MatchesAt (rest n d hs b) t at place)) (sym (rest-passes n closing d c cs u p)) (weaken (r b gs m h) (λ t f. rest-as n d _ gs b b t (passes-match n d b u c _ m p q) f))

  revokes : (n : ℕ) (closing : List ℕ) (s : State) (d : ℕ) (x : Domain) (u : State) (k : ℕ) (c : Option Capa) (cs : List (Option Capa)) → Visit s d x u k (c ∷ cs) → (h : Handle) → Names h c → T (is_live u.region_pool u.regions h) → (p : ℕ) (g : Region) → In u.regions h.slot g → parent_of g.kind ≡ some p → All (Fell u h.slot) (revoke_region closing (live_count u) h.slot u) → ((t : State) → revoke_region closing (live_count u) h.slot u ≡ ok t → RestMatches n closing s d x t (suc k) cs) → RestMatches n closing s d x u k (c ∷ cs)
  revokes n closing s d x u k c cs v h w l p g i o fell r b hs m (cons {x = y} {xs = gs} q z) =
      let a = placed b n h c y w q in
      subst (All (λ t. MatchesAt (rest n d hs b) t at place)) (sym (rest-revokes n closing d h c cs u w l))
      (rest-match n closing d cs gs y b (killed a.spot b) _ a.dies (killed-places a.spot b) (weaken fell (λ t f. fell-at b u t h a.spot p g m a.at_place l i o f)) z r)

  closes : (n : ℕ) (closing : List ℕ) (s : State) (d : ℕ) (x : Domain) (u : State) (k : ℕ) (h : Handle) (cs : List (Option Capa)) → Visit s d x u k (some (management h) ∷ cs) → T (is_live u.domain_pool u.domains h) → (z : Domain) → Turn u h.slot z → z.manager ≡ some d → All (Closed u h.slot) (close_domain n closing h.slot u) → CloseMatches n closing u h.slot z → ((t : State) → close_domain n closing h.slot u ≡ ok t → RestMatches n closing s d x t (suc k) cs) → RestMatches n closing s d x u k (some (management h) ∷ cs)
  closes n closing s d x u k h cs v l z turn o shut one r b hs m (cons {xs = gs} same_management w) =
      subst (All (λ t. MatchesAt (rest n d hs b) t at place)) (sym (rest-closes n closing d h cs u l))
      (rest-match n closing d cs gs (some (management_of h)) b (closed n h.slot b) _ (open-closes n b h (open-is-live b u at place m h ∙ is_true l)) (closed-places n h.slot b) (one b m) w r)

  frees : (n : ℕ) (closing : List ℕ) (s : State) (d : ℕ) (x : Domain) (u : State) (k : ℕ) → Visit s d x u k [] → (y : Domain) → Idle u d y → RestMatches n closing s d x u k []
  unfolding all_revoked
  frees n closing s d x u k v y i b hs m nil = subst (All (λ t. MatchesAt (rest n d hs b) t at place)) (sym (rest-free n closing d u)) (freed-match b u d m)

  close-steps : Steps CloseMatches RestMatches
  close-steps = record { begins = begins; passes = passes; revokes = revokes; closes = closes; frees = frees }

  -- THEOREM: where no domain to be closed holds a root, with any n from the number of live domains on
  pub close-match : (n : ℕ) (closing : List ℕ) (b : Book) (s : State) (d : ℕ) (x : Domain) → Turn s d x → live_domains s ≤ n → MatchesAt b s at place → All (λ t. MatchesAt (closed n d b) t at place) (close_domain n closing d s)
  close-match n closing b s d x turn enough m = close-all CloseMatches RestMatches close-steps n closing s d x turn enough b m

-- THEOREM: an accepted close of the domain that a Management capability names
pub managed-match : (b : Book) (s : State) (at : ℕ → Handle) (place : ℕ → ℕ) (h : Handle) → Sound s → MatchesAt b s at place → All (λ t. MatchesAt (revoked (closed (open_domains b)) (some (management_of h)) b) t at place) (close_managed h s)
unfolding close_managed
managed-match b s at place h sound m = on-domain s h _ (λ l.
    checked (not (closes_root s h.slot)) _ (λ u.
    let turn : Turn s h.slot (domain_at s h.slot) = record { sound = sound; is = some_is (at_slot s.domains h.slot) none_domain (live-opens s h l); no_root = rootless s sound h.slot u } in
    let same : closed (live_domains s) h.slot b ≡ revoked (closed (open_domains b)) (some (management_of h)) b = ap (λ n. closed n h.slot b) (sym (open-count b s at place m)) ∙ sym (open-closes at place (open_domains b) b h (open-is-live b s at place m h ∙ l)) in
    and_then _ (weaken (close-match at place (live_domains s) [] b s h.slot _ turn (omega arith) m) (λ t g. subst (λ c. MatchesAt c t at place) same g))))
