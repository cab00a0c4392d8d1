-- A book in which domain d has no region over address a, alive or dead, and that no call but a root or a send changes that.
use Rattle.std.specs.Prelude.{◌≡◌, refl, Bool, true, false, ◌&&◌, T, eqb, leb, ltb, set, if◌then◌else◌}
use Rattle.std.proofs.Common.{sym, ◌∙◌, arith, leb→le, ltb→lt, le→leb, lt→ltb, le-ltb}
use Rattle.std.proofs.Math.Path.{ap}
use Prim.Native.Nat.{ℕ, zero, suc, ◌+◌, ◌≤◌}
use Rattle.std.proofs.Math.Bool.{and-false}
use Rattle.std.proofs.Math.Option.{Option, none, some, get_or}
use mathlib.Core.List.{List, [], ◌∷◌, ◌++◌}
use Rattle.std.specs.Float.Ieee.Fits.{and_l, and_r}
use Rattle.base.specs.Cases.{test, fails}
use Rattle.base.specs.Cases as cases
use Rattle.base.specs.Tests.{is_true, true-is, true-false}
use Rattle.model.specs.Lists.{Each, is_empty, at_slot, one_if}
use Rattle.model.specs.Outcome.{Outcome, ok, refuse, ◌>>=◌}
use Rattle.model.specs.State.{State, Handle, Access, Region, SendOptions, ALIAS, CARVE, none_region, none_domain, region_at}
use Rattle.model.specs.Counts.{holds}
use Rattle.model.specs.Tree.{fits}
use Rattle.model.specs.Calls.{alias_region, carve_region}
use Rattle.model.specs.Perform.{Step, Call, Answer, code, perform_step, perform, after, step}
use Rattle.model.specs.Perform as model
use Rattle.model.specs.Sound.{Sound}
use Rattle.model.specs.Memory.{After, not_sound, performed}
use Rattle.laws.specs.Codes.{Coded, step-coded}
use Rattle.laws.specs.Accepted.{All, accepted, refused, bind, checked, both}
use Rattle.laws.specs.Keep.Checks.{held-own}
use Rattle.book.specs.Book.{Book, Noted, Held, emptied, region_of, revoke_of, management_of, channel_of, Slots, Opened, no_opened, no_noted, noted, slots_of, is_open, held_at, place_in, free_slots, dead_slots, swept, make_room, put, put_any, freed, owned_by, flagged, handed_to, dying, sent, killed, revoked, all_revoked, closed}
use Rattle.book.specs.Demand3.{covers, note_tally, SameRegion}
use Rattle.book.specs.Tests.{and_left, and_right, some_is}
use Rattle.book.specs.Matches.{Matches}
use Rattle.book.proofs.Checks.{on-caller, live-opens}
use Rattle.book.proofs.Held.{region-found}
use Rattle.book.proofs.NewRegion.{room-match}
use Rattle.book.specs.Lent.{BookOf}
use Rattle.book.proofs.Lent.{book-of-state}
use Rattle.promise.specs.Given.{region_over}

-- the region is d's and over a
abbrev pub mine : ℕ → ℕ → Noted → Bool
mine d a r = eqb r.owner d && covers a r

abbrev pub Clear : ℕ → ℕ → List Noted → Type 0
Clear d a rs = Each (λ r. mine d a r ≡ false) rs

-- ---- changes of the regions

module _ (d a : ℕ) where
  pub clear-end : (rs : List Noted) (r : Noted) → Clear d a rs → mine d a r ≡ false → Clear d a (rs ++ r ∷ [])
  clear-end [] r h k = (k, tt)
  clear-end (q ∷ rs) r h k = (h.0, clear-end rs r h.1 k)

  pub clear-set : (rs : List Noted) (i : ℕ) (r : Noted) → Clear d a rs → mine d a r ≡ false → Clear d a (set rs i r)
  clear-set [] i r h k = tt
  clear-set (q ∷ rs) zero r h k = (k, h.1)
  clear-set (q ∷ rs) (suc i) r h k = (h.0, clear-set rs i r h.1 k)

  pub clear-dying : (t : ℕ → Bool) (i : ℕ) (rs : List Noted) → Clear d a rs → Clear d a (dying t i rs)
  clear-dying t i [] h = tt
  clear-dying t i (r ∷ rs) h = (h.0, clear-dying t (suc i) rs h.1)

  none-mine : mine d a no_noted ≡ false
  none-mine = ap (λ c. eqb 0 d && (leb 0 a && c)) (le-ltb a 0 (omega arith)) ∙ ap (λ c. eqb 0 d && c) (and-false (leb 0 a)) ∙ and-false (eqb 0 d)

  pub clear_at : (rs : List Noted) (k : ℕ) → Clear d a rs → mine d a (noted rs k) ≡ false
  clear_at [] k h = none-mine
  clear_at (r ∷ rs) zero h = h.0
  clear_at (r ∷ rs) (suc k) h = clear_at rs k h.1

  -- ---- the counts read off such a book are 0

  not-counted : (x y z w v : Bool) → (y && z) ≡ false → ((x && y && z && w) && v) ≡ false
  not-counted false y z w v h = refl
  not-counted true false z w v h = refl
  not-counted true true false w v h = refl
  not-counted true true true w v h = absurd (true-false refl h)

  none_more : (c : Bool) (n : ℕ) → c ≡ false → n ≡ 0 → one_if c + n ≡ 0
  none_more c n e f = rw (e, f)

  pub clear-tally : (rs : List Noted) (t : ℕ → Bool) (i : ℕ) (l : List Noted) → Clear d a l → note_tally rs d a t i l ≡ 0
  clear-tally rs t i [] h = refl
  clear-tally rs t i (r ∷ l) h = none_more _ _ (not-counted r.alive (eqb r.owner d) (covers a r) _ (t r.rights) h.0) (clear-tally rs t (suc i) l h.1)

-- ---- a sweep only empties slots

pub data Less (y : Option Held) : Option Held → Type 0 where
  gone : Less y none
  stays : Less y y

less_then : (x y z : Option Held) → Less x y → Less y z → Less x z
less_then x y z h gone = gone
less_then x y z h stays = h

set-less : (l : List (Option Held)) (i j : ℕ) → Less (at_slot l j) (at_slot (set l i none) j)
set-less [] i j = stays
set-less (x ∷ l) zero zero = gone
set-less (x ∷ l) zero (suc j) = stays
set-less (x ∷ l) (suc i) zero = stays
set-less (x ∷ l) (suc i) (suc j) = set-less l i j

free-less : (is : List ℕ) (l : Slots) (j : ℕ) → Less (at_slot l.held j) (at_slot (free_slots is l).held j)
free-less [] l j = stays
free-less (i ∷ is) l j = less_then _ _ _ (set-less l.held i j) (free-less is _ j)

pick_less : (c : Bool) (x : Option Held) (l m : Slots) (j : ℕ) → Less x (at_slot l.held j) → Less x (at_slot m.held j) → Less x (at_slot (if c then l else m).held j)
pick_less true x l m j h k = h
pick_less false x l m j h k = k

swept-less : (b : Book) (l : Slots) (j : ℕ) → Less (at_slot l.held j) (at_slot (swept b l).held j)
unfolding swept
swept-less b l j = pick_less (is_empty l.free) _ _ l j (free-less (dead_slots b 0 l.held) l j) stays

-- a domain's slots after another's, or its own, were replaced
abbrev slots_in : List (Option Opened) → ℕ → Slots
slots_in ls d = (get_or (at_slot ls d) no_opened).slots

lists-less : (ls : List (Option Opened)) (to d j : ℕ) (o : Opened) → Less (at_slot (slots_in ls to).held j) (at_slot o.slots.held j) → Less (at_slot (slots_in ls d).held j) (at_slot (slots_in (set ls to (some o)) d).held j)
lists-less [] to d j o h = stays
lists-less (x ∷ ls) zero zero j o h = h
lists-less (x ∷ ls) zero (suc d) j o h = stays
lists-less (x ∷ ls) (suc to) zero j o h = stays
lists-less (x ∷ ls) (suc to) (suc d) j o h = lists-less ls to d j o h

room-less : (b : Book) (to d j : ℕ) → Less (held_at b d j) (held_at (make_room to b) d j)
unfolding make_room
room-less b to d j = lists-less b.lists to d j _ (swept-less b (slots_of b to) j)

-- ---- a send, a revoke

-- flags that join change no owner and no range
flagged-clear : (d a : ℕ) (o : SendOptions) (k : ℕ) (b : Book) → Clear d a b.regions → Clear d a (flagged o k b).regions
unfolding flagged
flagged-clear d a o k b h = go o.flags
  where
    go : (x : Option ℕ) → Clear d a (flagged (record { flags = x; hash = o.hash }) k b).regions
    go none = h
    go (some f) = clear-set d a b.regions k _ h (clear_at d a b.regions k h)

module _ (d a : ℕ) (b : Book) (h : Clear d a b.regions) (o : SendOptions) where
  sent-one-clear : (f l to n : ℕ) (c : Option Held) → (eqb to d && region_over b a c) ≡ false → Clear d a (put_any to n c (freed f l (handed_to to o c b))).regions
  unfolding put_any freed handed_to put owned_by
  sent-one-clear f l to n none e = h
  sent-one-clear f l to n (some emptied) e = h
  sent-one-clear f l to n (some (region_of k)) e = flagged-clear d a o k (owned_by to k b) (clear-set d a b.regions k _ h e)
  sent-one-clear f l to n (some (revoke_of k)) e = h
  sent-one-clear f l to n (some (management_of k)) e = h
  sent-one-clear f l to n (some (channel_of k)) e = h

  pub sent-any-clear : (f l to n : ℕ) (c c₁ : Option Held) → Less c c₁ → (eqb to d && region_over b a c) ≡ false → Clear d a (put_any to n c₁ (freed f l (handed_to to o c₁ b))).regions
  unfolding put_any freed handed_to
  sent-any-clear f l to n c c₁ gone e = h
  sent-any-clear f l to n c c₁ stays e = sent-one-clear f l to n c e

-- what changes a book keeps it so
abbrev Clears : ℕ → ℕ → (Book → Book) → Type 0
Clears d a f = (b : Book) → Clear d a b.regions → Clear d a (f b).regions

if-clear : (d a : ℕ) (c : Bool) (b e : Book) → Clear d a b.regions → Clear d a e.regions → Clear d a (if c then b else e).regions
if-clear d a true b e h k = h
if-clear d a false b e h k = k

module _ (d a : ℕ) where
  pub revoked-clear : (close : ℕ → Book → Book) → ((e : ℕ) → Clears d a (close e)) → (c : Option Held) → Clears d a (revoked close c)
  unfolding revoked killed
  revoked-clear close k none b h = h
  revoked-clear close k (some emptied) b h = h
  revoked-clear close k (some (region_of i)) b h = clear-dying d a _ 0 b.regions h
  revoked-clear close k (some (revoke_of i)) b h = clear-dying d a _ 0 b.regions h
  revoked-clear close k (some (management_of e)) b h = if-clear d a (is_open b e) _ b (k e.slot b h) h
  revoked-clear close k (some (channel_of e)) b h = h

  all-clear : (f : Option Held → Book → Book) → ((c : Option Held) → Clears d a (f c)) → (cs : List (Option Held)) → Clears d a (all_revoked f cs)
  unfolding all_revoked
  all-clear f k [] b h = h
  all-clear f k (c ∷ cs) b h = all-clear f k cs (f c b) (k c b h)

  pub closed-clear : (n e : ℕ) → Clears d a (closed n e)
  unfolding closed
  closed-clear zero e b h = h
  closed-clear (suc n) e b h = all-clear (revoked (closed n)) (revoked-clear (closed n) (closed-clear n)) (slots_of b e).held b h

pub room-clear : (d a : ℕ) (b : Book) (to : ℕ) → Clear d a b.regions → Clear d a (make_room to b).regions
unfolding make_room
room-clear d a b to h = h

over-room : (b : Book) (to a : ℕ) (c : Option Held) → region_over (make_room to b) a c ≡ region_over b a c
unfolding make_room
over-room b to a none = refl
over-room b to a (some emptied) = refl
over-room b to a (some (region_of k)) = refl
over-room b to a (some (revoke_of k)) = refl
over-room b to a (some (management_of e)) = refl
over-room b to a (some (channel_of e)) = refl

pub sent-clear : (d a : ℕ) (b : Book) (f l to n : ℕ) (o : SendOptions) → Clear d a b.regions → (eqb to d && region_over b a (held_at b f l)) ≡ false → Clear d a (sent f l to n o b).regions
unfolding sent
sent-clear d a b f l to n o h e = sent-any-clear d a (make_room to b) (room-clear d a b to h) o f l to n _ _ (room-less b to f l) (ap (λ c. eqb to d && c) (over-room b to a (held_at b f l)) ∙ e)

-- ---- an alias and a carve lie in a region of the same domain

pub record Inside (b : Book) (d l : ℕ) (x : Access) : Type 0 where
  pub owner : (noted b.regions (place_in (held_at b d l))).owner ≡ d
  pub start : (noted b.regions (place_in (held_at b d l))).start ≤ x.start
  pub end : x.end ≤ (noted b.regions (place_in (held_at b d l))).end

always : {A P : Type 0} (m : Outcome A) → P → All (λ x. P) m
always (ok a) p = accepted p
always (refuse r) p = refused

low_fits : (x : Access) (g : Region) (c : Bool) → T (fits x g && c) → g.start ≤ x.start
low_fits x g c t = let u = and_l (fits x g) c t in leb→le g.start x.start (search (and_l, and_r))

high_fits : (x : Access) (g : Region) (c : Bool) → T (fits x g && c) → x.end ≤ g.end
high_fits x g c t = let u = and_l (fits x g) c t in leb→le x.end g.end (search (and_l, and_r))

inside : (b : Book) (d l : ℕ) (x : Access) (f : ℕ → ℕ) (g g₀ g₁ : Region) (c : Bool) → SameRegion f (noted b.regions (place_in (held_at b d l))) g₀ → g₀ ≡ g → g₁ ≡ g → g.owner ≡ d → T (fits x g₁ && c) → Inside b d l x
inside b d l x f g g₀ g₁ c s e e₁ o t =
    let lo = low_fits x g₁ c t in
    let hi = high_fits x g₁ c t in
    let same : g₁ ≡ g₀ = e₁ ∙ sym e in
    let p : g₁.start ≡ (noted b.regions (place_in (held_at b d l))).start = ap (λ (r : Region). r.start) same ∙ s.start in
    let q : g₁.end ≡ (noted b.regions (place_in (held_at b d l))).end = ap (λ (r : Region). r.end) same ∙ s.end in
    record { owner = sym s.owner ∙ ap (λ (r : Region). r.owner) e ∙ o; start = omega arith; end = omega arith }

module _ (b : Book) (s : State) (h : Handle) (l : ℕ) (x : Access) (sound : Sound s) (g : Matches b s) where
  pub alias-inside : All (λ y. Inside b h.slot l x) (alias_region h l x s)
  unfolding alias_region
  alias-inside =
      on-caller ALIAS s h _ (λ v.
      bind (both (region-found b s _ _ g.fits h.slot l) (held-own s sound h.slot _ (some_is _ none_domain (live-opens s h v)) l)) (λ p (f, (r, i, o)).
      bind (room-match b s _ _ h.slot x g.fits (live-opens s h v)) (λ s₁ q.
      checked _ _ (λ t. always _ (inside b h.slot l x _ r _ (region_at s₁ p) _ (g.fits.regions.stored _ f.below f.lives) (ap (λ (k : Handle). region_at s k.slot) (sym f.here) ∙ ap (λ (y : Option Region). get_or y none_region) i) (ap (λ gs. get_or (at_slot gs p) none_region) q.1.regions ∙ ap (λ (y : Option Region). get_or y none_region) i) o t)))))

  pub carve-inside : All (λ y. Inside b h.slot l x) (carve_region h l x s)
  unfolding carve_region
  carve-inside =
      on-caller CARVE s h _ (λ v.
      bind (both (region-found b s _ _ g.fits h.slot l) (held-own s sound h.slot _ (some_is _ none_domain (live-opens s h v)) l)) (λ p (f, (r, i, o)).
      bind (room-match b s _ _ h.slot x g.fits (live-opens s h v)) (λ s₁ q.
      checked _ _ (λ t. always _ (inside b h.slot l x _ r _ (region_at s₁ p) _ (g.fits.regions.stored _ f.below f.lives) (ap (λ (k : Handle). region_at s k.slot) (sym f.here) ∙ ap (λ (y : Option Region). get_or y none_region) i) (ap (λ gs. get_or (at_slot gs p) none_region) q.1.regions ∙ ap (λ (y : Option Region). get_or y none_region) i) o t)))))

-- ---- so a new one is over a only if the domain had one

all_true : (c e f : Bool) → c ≡ true → e ≡ true → f ≡ true → (c && (e && f)) ≡ true
all_true c e f h k j = rw (h, k, j)

parent-mine : (d a n : ℕ) (r : Noted) (x : Access) → r.owner ≡ n → r.start ≤ x.start → x.end ≤ r.end → (eqb n d && holds x.start x.end a) ≡ true → mine d a r ≡ true
parent-mine d a n r x o s e t =
    let u = and_right (eqb n d) (holds x.start x.end a) t in
    let lo = leb→le x.start a (true-is (and_left (leb x.start a) (ltb a x.end) u)) in
    let hi = ltb→lt a x.end (true-is (and_right (leb x.start a) (ltb a x.end) u)) in
    all_true (eqb r.owner d) (leb r.start a) (ltb a r.end) (ap (λ c. eqb c d) o ∙ and_left (eqb n d) (holds x.start x.end a) t) (is_true (le→leb r.start a (omega arith))) (is_true (lt→ltb a r.end (omega arith)))

pub new-mine : (d a : ℕ) (b : Book) (n l : ℕ) (x : Access) → Inside b n l x → Clear d a b.regions → (eqb n d && holds x.start x.end a) ≡ false
new-mine d a b n l x i h = elim (test (eqb n d && holds x.start x.end a)) [
  | cases.holds t ↦ absurd (true-false (parent-mine d a n (noted b.regions (place_in (held_at b n l))) x i.owner i.start i.end t) (clear_at d a b.regions (place_in (held_at b n l)) h))
  | fails t ↦ t
]

-- ---- what an accepted alias or carve of a sequence has

accepted-has : {A P : Type 0} (s : State) (f : A → model.Value) (m : Outcome (A × State)) → Coded (after s (m >>= λ (a, t). ok (f a, t))).0 → All (λ y. P) m → code (after s (m >>= λ (a, t). ok (f a, t))).0 ≡ 0 → P
unfolding ◌>>=◌
accepted-has s f m k (accepted p) e = p
accepted-has s f m k (refused {r}) e = absurd (omega arith)

pub alias-has : (b : Book) (t w t₁ w₁ : List ℕ) (h : Handle) (l : ℕ) (x : Access) (y : Answer) → BookOf b t → code y ≡ 0 → After t w (Call.Do (Step.Alias h l x)) y t₁ w₁ → Inside b h.slot l x
unfolding step perform perform_step
alias-has b t w t₁ w₁ h l x y k e a = go h l x y t₁ w₁ e a
  where
    go : (h : Handle) (l : ℕ) (x : Access) (y : Answer) (u v : List ℕ) → code y ≡ 0 → After t w (Call.Do (Step.Alias h l x)) y u v → Inside b h.slot l x
    go h l x y u v e (not_sound d q n) = absurd (omega arith)
    go h l x y u v e (performed d s m q) = accepted-has s model.Value.local (alias_region h l x s) (step-coded s (Call.Do (Step.Alias h l x))) (alias-inside b s h l x q.sound (book-of-state b t w s k q)) e

pub carve-has : (b : Book) (t w t₁ w₁ : List ℕ) (h : Handle) (l : ℕ) (x : Access) (y : Answer) → BookOf b t → code y ≡ 0 → After t w (Call.Do (Step.Carve h l x)) y t₁ w₁ → Inside b h.slot l x
unfolding step perform perform_step
carve-has b t w t₁ w₁ h l x y k e a = go h l x y t₁ w₁ e a
  where
    go : (h : Handle) (l : ℕ) (x : Access) (y : Answer) (u v : List ℕ) → code y ≡ 0 → After t w (Call.Do (Step.Carve h l x)) y u v → Inside b h.slot l x
    go h l x y u v e (not_sound d q n) = absurd (omega arith)
    go h l x y u v e (performed d s m q) = accepted-has s model.Value.local (carve_region h l x s) (step-coded s (Call.Do (Step.Carve h l x))) (carve-inside b s h l x q.sound (book-of-state b t w s k q)) e
