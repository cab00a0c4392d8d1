-- **Revoke** keeps book and tables matched.
use Rattle.std.specs.Prelude.{◌≡◌, refl, ℕ, ◌<◌, Bool, true, false, length, if◌then◌else◌}
use Rattle.std.proofs.Common.{◌∙◌}
use Rattle.std.proofs.Math.Option.{Option, some}
use mathlib.Core.List.{[]}
use Rattle.model.specs.Lists.{is_some, at_slot, In}
use Rattle.model.specs.Outcome.{ok, ◌>>=◌, ok_or}
use Rattle.refusals.specs.Refusals.{no_slot}
use Rattle.model.specs.State.{State, Handle, Capa, no_capa, management, none_region, none_domain, region_at, domain_at}
use Rattle.model.specs.Pool.{is_live}
use Rattle.model.specs.Locals.{capa_at, empty_capa}
use Rattle.model.specs.Calls.{live_region, revoke_unless_root, close_managed, revoke_capa, revoke}
use Rattle.model.specs.Sound.{Sound}
use Rattle.laws.specs.Accepted.{All, accepted, refused, bind, checked, weaken, both}
use Rattle.laws.specs.Tree.Facts.{not_root}
use Rattle.laws.specs.Close.Revoke.{revoke-sound}
use Rattle.laws.specs.Close.Call.{managed-closes, caller-stays}
use Rattle.laws.specs.Keep.SameDomains.{SameDomains, same-domains-self}
use Rattle.book.specs.Book.{Book, Held, emptied, management_of, held_at, killed, revoked, closed, open_domains, empty_slot}
use Rattle.book.specs.Tests.{and_left, some_is}
use Rattle.book.specs.Matches.{both-set, SameHeld, same_free, same_emptied, same_region, same_revoke, same_management, same_channel, AtPlace, MatchesAt, Matches, matches}
use Rattle.book.proofs.Slots.{slots-of, put-match}
use Rattle.book.proofs.Checks.{on-domain, on-region, live-opens}
use Rattle.book.proofs.Held.{held_same}
use Rattle.book.proofs.Revoke.Regions.{fell-match}
use Rattle.book.proofs.Revoke.Dying.{some-untracked}
use Rattle.book.proofs.Revoke.Dead.{killed-same}
use Rattle.book.proofs.Revoke.Close.{managed-match}

empty-match : (b : Book) (s : State) (at : ℕ → Handle) (place : ℕ → ℕ) (d l : ℕ) → MatchesAt b s at place → is_some (at_slot s.domains d) ≡ true → Matches (empty_slot d l b) (empty_capa d l s)
unfolding empty_slot empty_capa
empty-match b s at place d l m i = let q = slots-of b s at place m d in matches _ _ at place (put-match b s at place m d i _ _ (record { held = both-set l (some emptied) (some no_capa) same_emptied q.held; stack = q.stack }))

match-as : (b c : Book) (s : State) (at : ℕ → Handle) (place : ℕ → ℕ) → c ≡ b → MatchesAt b s at place → MatchesAt c s at place
match-as b c s at place e m = rw e m

module _ (b : Book) (s : State) (at : ℕ → Handle) (place : ℕ → ℕ) (sound : Sound s) (m : MatchesAt b s at place) where
  -- the region at place k, with all below it, is dead, and the domains are the same
  abbrev KilledTo : ℕ → State → Type 0
  KilledTo k t = MatchesAt (killed k b) t at place × SameDomains s t

  unless-root : (k : ℕ) → k < length b.regions → is_live s.region_pool s.regions (at k) ≡ true → All (KilledTo k) (revoke_unless_root (at k).slot s)
  unfolding revoke_unless_root
  unless-root k u l = checked _ _ (λ r.
      let i = (at k).slot in
      let n = not_root (region_at s i).kind r in
      weaken (revoke-sound [] s sound i n.0 (region_at s i) (some_is (at_slot s.regions i) none_region (and_left (is_some (at_slot s.regions i)) _ l)) n.1) (λ t f. (fell-match b s t at place k n.0 m u l n.1 f, f.same_domains)))

  held-at : (k : ℕ) → k < length b.regions → All (KilledTo k) (live_region s (at k) >>= λ i. revoke_unless_root i s)
  held-at k u = on-region s (at k) _ (λ l. unless-root k u l)

  held_any : (k : ℕ) (h : Handle) → h ≡ at k → k < length b.regions → All (KilledTo k) (live_region s h >>= λ i. revoke_unless_root i s)
  held_any k h e u = rw e (held-at k u)

  named-at : (k : ℕ) → k < length b.regions → (c : Bool) → is_live s.region_pool s.regions (at k) ≡ c → All (KilledTo k) (if c then revoke_unless_root (at k).slot s else ok s)
  named-at k u true e = unless-root k u e
  named-at k u false e = accepted (match-as b (killed k b) s at place (killed-same b s at place m k (m.regions.alive_is_live k u ∙ e)) m, same-domains-self s)

  named-any : (k : ℕ) (h : Handle) → h ≡ at k → k < length b.regions → All (KilledTo k) (if is_live s.region_pool s.regions h then revoke_unless_root h.slot s else ok s)
  named-any k h e u = rw e (named-at k u (is_live s.region_pool s.regions (at k)) refl)

  -- the caller is domain d, which is live, and revokes its slot l
  module _ (d l : ℕ) (i : is_some (at_slot s.domains d) ≡ true) where
    -- the book after the revoke of what the slot holds
    abbrev after : Option Held → Book
    after x = revoked (closed (open_domains b)) x b

    empty-killed : (k : ℕ) (t : State) → KilledTo k t → Matches (empty_slot d l (killed k b)) (empty_capa d l t)
    empty-killed k t (q, o) = empty-match (killed k b) t at place d l q (some-untracked (at_slot t.domains d) (at_slot s.domains d) (o.domains d) ∙ i)

    -- the managed domain is closed with all below it, and the caller is not
    close-held : (h : Handle) → In (domain_at s d).locals.held l (management h) → All (λ t. MatchesAt (after (some (management_of h))) t at place × is_some (at_slot t.domains d) ≡ true) (close_managed h s)
    close-held h e =
        let stays = caller-stays s sound d l (domain_at s d) (some_is (at_slot s.domains d) none_domain i) h e in
        weaken (both (managed-match b s at place h sound m) (managed-closes s sound h)) (λ t (g, (live, c)). (g, some-untracked (at_slot t.domains d) (at_slot s.domains d) (c.kept d (stays live)) ∙ i))

    revoke-held : (x : Option Held) (y : Option Capa) → at_slot (domain_at s d).locals.held l ≡ y → SameHeld (AtPlace b.regions at) x y → All (λ t. Matches (empty_slot d l (after x)) t) (ok_or y no_slot >>= λ c. revoke_capa c s >>= λ s₁. ok (empty_capa d l s₁))
    unfolding ok_or ◌>>=◌ revoke_capa revoked
    revoke-held x y e same_free = refused
    revoke-held x y e same_emptied = accepted (empty-match b s at place d l m i)
    revoke-held x y e (same_region {k} {h} t) = bind (held_any k h t.1 t.0) (λ s₁ q. accepted (empty-killed k s₁ q))
    revoke-held x y e (same_revoke {k} {h} t) = bind (named-any k h t.1 t.0) (λ s₁ q. accepted (empty-killed k s₁ q))
    revoke-held x y e (same_management {h}) = bind (close-held h e) (λ s₁ q. accepted (empty-match (after (some (management_of h))) s₁ at place d l q.0 q.1))
    revoke-held x y e same_channel = accepted (empty-match b s at place d l m i)

-- THEOREM: an accepted revoke keeps book and tables matched
pub revoke-match : (b : Book) (s : State) (h : Handle) (l : ℕ) → Sound s → Matches b s → All (λ t. Matches (empty_slot h.slot l (revoked (closed (open_domains b)) (held_at b h.slot l) b)) t) (revoke h l s)
unfolding revoke capa_at
revoke-match b s h l sound g = on-domain s h _ (λ v. revoke-held b s g.at g.place sound g.fits h.slot l (live-opens s h v) _ _ refl (held_same b s g.at g.place g.fits h.slot l))
