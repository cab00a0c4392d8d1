-- A domain whose tables are to be read: the lent memory is tested, then the handle. Either the slot holds the live domain of a sound state whose words
-- were lent, or every reading of the domain is refused with the same refusal.
use Rattle.std.specs.Prelude.{◌≡◌, refl, ℕ, Bool, List, Ok, Err}
use Rattle.std.proofs.Math.Path.{sym, ap, subst}
use Rattle.std.proofs.Common.{◌∙◌, arith}
use Rattle.std.proofs.Math.Bool.{true, false}
use Rattle.base.specs.Cases.{holds, fails, test, pick}
use Rattle.model.specs.Lists.{Each, In}
use Rattle.model.specs.Outcome.{Outcome, ok, refuse, ◌>>=◌}
use Rattle.model.specs.State.{State, Handle, Domain, Word}
use Rattle.model.specs.Calls as model
use Rattle.model.specs.Perform.{Reading, Call, Value, Answer, read_tables, perform, step, after as outcome-after}
use Rattle.model.specs.Layout.{words}
use Rattle.model.specs.Memory.{Lent, After, zeroed}
use Rattle.laws.specs.Accepted.{all-ok}
use Rattle.laws.specs.Keep.Base.{sound-base}
use Rattle.laws.specs.Keep.Checks.{domain-live}
use Rattle.tables.specs.declared.Handle as tables
use Rattle.tables.specs.View.{view, Sized}
use Rattle.answers.specs.Answers as code
use Rattle.refusals.specs.declared.Refusal.{Refusal}
use Rattle.refusals.specs.Refusals.{memory}
use Rattle.answers.specs.Answers.{Effect}
use Rattle.checks.specs.Checks.{live_domain}
use Rattle.decoded.specs.Tables.{tables_of}
use Rattle.decoded.specs.Words.{words-held}
use Rattle.refine.specs.Agrees.{Agrees}
use Rattle.refine.specs.Calls.Checks.{live-domain-refines}
use Rattle.call.specs.Arguments.{handle}
use Rattle.frame.specs.Finish.{admitted}
use Rattle.frame.specs.Law.{lent, not-admitted, admitted-sized}

abbrev named : ℕ → ℕ → tables.Handle
named domain generation = record { slot = domain; generation = generation }

-- 1, 3; the answer is the domain's slot
unfoldable pub domain_read : List ℕ → List ℕ → ℕ → ℕ → code.Answer
domain_read t w domain generation = pick (admitted t w) (live_domain (named domain generation) (view t)).answer (Err memory)

-- ---- what the test and the handle say

-- the reading r reads f of domain h
abbrev pub Reads : Reading → Handle → (State → ℕ → Value) → Type 0
Reads r h f = (s : State) → read_tables s r ≡ (model.live_domain s h >>= λ d. ok (f s d))

-- slot d holds the live domain h of a sound state whose words were lent
pub record Live (t w : List ℕ) (h : Handle) (d : ℕ) : Type 0 where
  pub state : State
  pub lent : Lent t w state
  pub seen : view t ≡ tables_of state
  pub found : model.live_domain state h ≡ ok d
  pub domain : Domain
  pub at : In state.domains d domain

-- any reading of domain h is refused with r
abbrev pub Refuses : List ℕ → List ℕ → Handle → Refusal → Type 0
Refuses t w h r = (q : Reading) (f : State → ℕ → Value) → Reads q h f → After t w (Call.Read q) (Answer.no r) t (zeroed w)

abbrev pub Says : List ℕ → List ℕ → Handle → code.Answer → Type 0
Says t w h (Ok d) = Live t w h d
Says t w h (Err r) = Refuses t w h r

-- a reading on the sound state whose words were lent
pub after-step : (t w : List ℕ) (r : Reading) (s : State) → Lent t w s → (a : Answer) → step s (Call.Read r) ≡ (a, s) → After t w (Call.Read r) a t (zeroed w)
after-step t w r s l a e =
    subst (λ v. After t w (Call.Read r) a v (zeroed w)) (sym l.tables) (subst (λ (y : Answer × State). After t w (Call.Read r) y.0 (words y.1) (zeroed w)) e (After.performed (Call.Read r) s tt l))

-- what a caller sees of it, by what is read
abbrev seen_of : State → Outcome Value → Answer × State
seen_of s o = outcome-after s (o >>= λ a. ok (a, s))

module _ (t w : List ℕ) (known : Each Word t) (domain generation : ℕ) where
  abbrev h : Handle
  h = handle domain generation

  by-outcome : (s : State) → Lent t w s → view t ≡ tables_of s → (x : Effect) → (o : Outcome ℕ) → model.live_domain s h ≡ o → Agrees x (o >>= λ d. ok (d, s)) → Says t w h x.answer
  unfolding ◌>>=◌ step perform
  by-outcome s l see x (ok d) e g =
      let y = all-ok _ (model.live_domain s h) d (domain-live s h) e in
      subst (Says t w h) (sym g.0) (record { state = s; lent = l; seen = see; found = e; domain = y.0; at = y.1 })
  by-outcome s l see x (refuse r) e g =
      subst (Says t w h) (sym g)
      (λ q f p. after-step t w q s l (Answer.no r) (ap (seen_of s) (p s ∙ ap (λ (o : Outcome ℕ). o >>= λ d. ok (f s d)) e)))

  on-lent : (s : State) → Lent t w s → Says t w h (live_domain (named domain generation) (view t)).answer
  on-lent s l =
      let see : view t ≡ tables_of s = (words-held s l.sound t l.tables).seen in
      let k = named domain generation in
      subst (λ v. Says t w h (live_domain k v).answer) (sym see)
      (by-outcome s l see (live_domain k (tables_of s)) (model.live_domain s h) refl (live-domain-refines s (sound-base s l.sound) k))

  pub read-says : Says t w h (domain_read t w domain generation)
  unfolding domain_read
  read-says = elim (test (admitted t w)) [
    | holds p ↦ let l = lent t w known p in rw p (on-lent l.0 l.1)
    | fails p ↦ rw p (λ r f q. not-admitted t w (Call.Read r) tt p)
  ]

-- a reading of a live domain answers what the model says
pub live-after : (t w : List ℕ) (h : Handle) (d : ℕ) (y : Live t w h d) (r : Reading) (f : State → ℕ → Value) → Reads r h f → After t w (Call.Read r) (Answer.yes (f y.state d)) t (zeroed w)
unfolding ◌>>=◌ step perform
live-after t w h d y r f p =
    let s = y.state in
    after-step t w r s y.lent (Answer.yes (f s d)) (ap (seen_of s) (p s ∙ ap (λ (o : Outcome ℕ). o >>= λ i. ok (f s i)) y.found))

-- the tables that a live domain is read in are as long as their sizes ask
pub read-sized : (t w : List ℕ) (domain generation : ℕ) (a : code.Answer) → a ≡ domain_read t w domain generation → (d : ℕ) → a ≡ Ok d → Sized t
unfolding domain_read
read-sized t w domain generation a said d e = elim (test (admitted t w)) [
  | holds p ↦ admitted-sized t w (admitted t w) refl p
  | fails p ↦ let f : a ≡ Err memory = rw p at said in absurd (let z : ◌≡◌ {A = ℕ} 0 1 = cc in omega arith)
]

-- ---- as `domain_read` cites it: b is what the first test said

module _ (t w : List ℕ) (domain generation : ℕ) (b : Bool) (said : b ≡ admitted t w) where
  pub read-admitted : b ≡ true → (a : code.Answer) → a ≡ (live_domain (record { slot = domain; generation = generation }) (view t)).answer → a ≡ domain_read t w domain generation
  unfolding domain_read
  read-admitted e a h = let p : admitted t w ≡ true = sym said ∙ e in rw p h

  pub read-not-admitted : b ≡ false → Err memory ≡ domain_read t w domain generation
  unfolding domain_read
  read-not-admitted e = let p : admitted t w ≡ false = sym said ∙ e in rw p
