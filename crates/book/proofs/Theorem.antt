-- Book and tables match from a making on and through any calls, and where they match all claims of demand 3 hold. Demand 3 follows.
-- A further call, or anything else that writes tables, has to show only that it keeps `Matches`.
use Rattle.std.specs.Prelude.{◌≡◌, ℕ, ◌+◌, ◌<◌, ◌&&◌, List, [], ◌∷◌, T}
use Rattle.std.proofs.Common.{sym, ap, ap₂, subst, ◌∙◌}
use Rattle.model.specs.Lists.{exists, Each}
use Rattle.model.specs.Outcome.{Outcome, ok, refuse}
use Rattle.refusals.specs.declared.Refusal.{Refusal}
use Rattle.model.specs.State.{State, Sizes}
use Rattle.model.specs.Fields.{Field, get, passes}
use Rattle.model.specs.Making.{make_tables}
use Rattle.model.specs.Counts.{stored_counts}
use Rattle.model.specs.Perform.{Call, step, run}
use Rattle.model.specs.CallWords.{CallWords}
use Rattle.model.specs.Sound.{Sound}
use Rattle.laws.specs.Accepted.{All, accepted, refused, both}
use Rattle.laws.specs.Empty.{empty-sound}
use Rattle.laws.specs.SoundKept.{sound-kept}
use Rattle.laws.specs.Tree.Stored.{stored, stored-total, stored-root}
use Rattle.book.specs.Book.{Book, blank, note}
use Rattle.book.specs.Demand3.{note_all, note_tally, is_root_over, sum_to, Claims, Demand3}
use Rattle.book.specs.Matches.{Matches}
use Rattle.book.proofs.Make.{make-match}
use Rattle.book.proofs.Calls.{perform-match, after-match}
use Rattle.book.proofs.Sums.{sum_is}
use Rattle.book.proofs.Claims.{tally-same-as, roots-same, aliases-same, root-had, one-for-one}

-- ---- an accepted making

from-ok : (P : State → Type 0) (s : State) (m : Outcome State) → All P m → m ≡ ok s → P s
from-ok P s (ok t) (accepted h) e = subst P (ok-inj t s e) h
  where
    from : State → Outcome State → State
    from d (ok x) = x
    from d (refuse r) = d

    ok-inj : (t s : State) → ok t ≡ ok s → t ≡ s
    ok-inj t s e = ap (from t) e
from-ok P s (refuse r) refused e = absurd (no_ok r s e)
  where
    is : Outcome State → Type 0
    is (ok x) = ⊥
    is (refuse r) = Unit {0}

    no_ok : (r : Refusal) (s : State) → ◌≡◌ {A = Outcome State} (refuse r) (ok s) → ⊥
    no_ok r s e = subst is e tt

-- THEOREM: an accepted making begins it
pub matches-made : (z : Sizes) (s : State) → make_tables z ≡ ok s → Matches (blank z) s × Sound s
matches-made z s e = from-ok (λ t. Matches (blank z) t × Sound t) s (make_tables z) (both (make-match z) (empty-sound z)) e

-- ---- calls

-- THEOREM: after any call, refused or not, the book noted from call and answer matches the state reached, which is sound
pub matches-step : (b : Book) (s : State) (c : Call) → CallWords c → Sound s → Matches b s → Matches (note b c (step s c).0) (step s c).1 × Sound (step s c).1
unfolding step
matches-step b s c w sound m = after-match b s c _ (both (perform-match b s c sound m) (sound-kept s c sound w)) sound m

-- THEOREM: the same after any list of calls
pub matches-run : (b : Book) (s : State) (cs : List Call) → Each CallWords cs → Sound s → Matches b s → Matches (note_all b cs (run s cs).0) (run s cs).1 × Sound (run s cs).1
unfolding run note_all
matches-run b s [] w sound m = (m, sound)
matches-run b s (c ∷ cs) w sound m = let q = matches-step b s c w.0 sound m in matches-run (note b c (step s c).0) _ cs w.1 q.1 q.0

-- ---- the claims

module _ (b : Book) (s : State) (sound : Sound s) (m : Matches b s) where
  counted : (f : Field) (d a : ℕ) → get f (stored_counts s d a) ≡ note_tally b.regions d a (passes f) 0 b.regions
  counted f d a = stored s sound a f d ∙ sym (tally-same-as b s m d a (passes f))

  from-root : (f : Field) (d a : ℕ) → 0 < get f (stored_counts s d a) → T (exists (λ r. is_root_over a r && passes f r.rights) b.regions)
  from-root f d a h = root-had b s m f a (stored-root s sound a f d h)

  -- THEOREM: where book and tables match and the tables are sound, all claims hold
  pub matches-claims : Claims b s
  matches-claims = record {
    counted = counted;
    total = λ a. ap (λ (z : Sizes). sum_to z.domains (λ d. (stored_counts s d a).reach)) m.fits.sizes ∙ sum_is (λ d. (stored_counts s d a).reach) s.sizes.domains ∙ stored-total s sound a ∙ sym (ap₂ ◌+◌ (roots-same b s m a) (aliases-same b s m a));
    rooted = from-root;
    regions = one-for-one b s m;
  }

-- THEOREM: for every list of calls from an accepted making, refused calls included
pub demand3 : Demand3
demand3 z s cs e w =
    let i = matches-made z s e in
    let q = matches-run (blank z) s cs w i.1 i.0 in
    matches-claims _ _ q.1 q.0
