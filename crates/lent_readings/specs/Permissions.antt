-- The permission list of a live domain into a lent run: the records that the code finds along the links, stored one by one, are the model's list.
use Rattle.std.specs.Prelude.{◌≡◌, refl, ℕ, ◌<◌, ◌≤◌, List, [], ◌∷◌, map, length, Ok, Err}
use Rattle.std.proofs.Common.{sym, ap, subst, ◌∙◌, arith}
use Rattle.std.proofs.lemmas.List.{length-map}
use Rattle.model.specs.Lists.{Each}
use Rattle.model.specs.Outcome.{◌>>=◌}
use Rattle.model.specs.State.{State, Handle, Domain, Record, Access, Word, domain_at}
use Rattle.model.specs.Calls as model
use Rattle.model.specs.Readings.{permissions, permission_of, fill_run}
use Rattle.model.specs.Perform.{Reading, Value, Answer, read_tables}
use Rattle.model.specs.Memory.{Filled, AfterPermissions, zeroed}
use Rattle.laws.specs.Tree.Steps.{domain-at}
use Rattle.tables.specs.View.{view, Sized}
use Rattle.answers.specs.Answers as code
use Rattle.refusals.specs.declared.Refusal.{Refusal}
use Rattle.readings.specs.declared.Permission.{Permission}
use Rattle.readings.specs.declared.Plan.{Plan}
use Rattle.readings.specs.Readings as readings
use Rattle.readings.specs.Readings.{permission_list, plan_of}
use Rattle.readings.specs.Listing.{run_at, plan_run, plan-turns}
use Rattle.refine.specs.Agrees.{bind_assoc}
use Rattle.refine.specs.Calls.Readings.{permission_in, permissions-are, fill-same, fill-map}
use Rattle.replies.specs.declared.Reply as replies
use Rattle.lent_readings.specs.declared.Listing.{Listing}
use Rattle.call.specs.Arguments.{handle}
use Rattle.replies.specs.Replies.{access_of, ListsPermissions}
use Rattle.replies.specs.ReplyFor.{reply_for}
use Rattle.lent_readings.specs.Lookup.{domain_read, Reads, Live, Refuses, live-after, read-sized}
use Rattle.lent_readings.specs.Readings.{is_live_lem, is-refused}

-- What `listing_of` promises: that many turns, from that link on, make of any run of `room` places what the call is to leave.
pub record Plans (t w : List ℕ) (h : Handle) (room : ℕ) (p : Listing) (w' : List ℕ) : Type 0 where
  pub sized : 0 < p.turns → Sized t
  pub within : p.turns ≤ room
  pub lists : (run : List Permission) → length run ≡ room → ListsPermissions t w h run p.reply w' (run_at (view t) p.at run p.turns)

-- ---- the list

-- what the model reads of domain d
abbrev list_in : State → ℕ → List Access
list_in s d = map permission_of (domain_at s d).tracker

list-reads : (h : Handle) → Reads (Reading.Permissions h) h (λ s d. Value.permission_list (list_in s d))
unfolding read_tables permissions ◌>>=◌
list-reads h s = bind_assoc (model.live_domain s h) _ _

-- a list of the model that the code gives, and back
given_back : (l : List Record) → map access_of (map (λ q. permission_in (permission_of q)) l) ≡ map permission_of l
given_back [] = refl
given_back (q ∷ l) = ap (◌∷◌ (permission_of q)) (given_back l)

-- a run that is filled, as the model has it
fill-access : (l run : List Permission) → map access_of (readings.fill_run l run) ≡ fill_run (map access_of l) (map access_of run)
fill-access l run = ap (map access_of) (fill-same l run) ∙ sym (fill-map access_of l run) ∙ fill-same (map access_of l) (map access_of run)

module _ (t w : List ℕ) (h : Handle) (d : ℕ) (y : Live t w h d) where
  list_same : map access_of (permission_list (view t) d) ≡ list_in y.state d
  list_same =
      ap (λ v. map access_of (permission_list v d)) y.seen ∙ ap (map access_of) (permissions-are y.state y.lent.sound d y.domain y.at)
      ∙ given_back y.domain.tracker ∙ ap (λ (x : Domain). map permission_of x.tracker) (sym (domain-at y.state d y.domain y.at))

  -- n is the number of records, run₂ the run with the list in it
  list-filled : (run run₂ : List Permission) (n : ℕ) (w₂ : List ℕ) → run₂ ≡ readings.fill_run (permission_list (view t) d) run → n ≡ length (permission_list (view t) d) → w₂ ≡ zeroed w
      → ListsPermissions t w h run (record { refusal = 0; value = n }) w₂ run₂
  list-filled run run₂ n w₂ er en ew =
      let l = list_in y.state d in
      let yes = Answer.yes (Value.number (length l)) in
      let same : map access_of run₂ ≡ fill_run l (map access_of run) = ap (map access_of) er ∙ fill-access (permission_list (view t) d) run ∙ ap (λ m. fill_run m (map access_of run)) list_same in
      record {
        answer = yes;
        after = subst (λ u. AfterPermissions t w h (map access_of run) yes t u (map access_of run₂)) (sym ew) (subst (λ u. AfterPermissions t w h (map access_of run) yes t (zeroed w) u) (sym same)
            (Filled.filled l t (zeroed w) (live-after t w h d y (Reading.Permissions h) (λ s i. Value.permission_list (list_in s i)) (list-reads h))));
        reply = ap (λ (m : ℕ). record { refusal = 0; value = m }) (en ∙ sym (length-map (permission_list (view t) d) access_of) ∙ ap length list_same);
      }

list-refused : (t w : List ℕ) (h : Handle) (r : Refusal) → Refuses t w h r → (run : List Permission) (x : replies.Reply) (w₂ : List ℕ) → x ≡ reply_for (Err r) → w₂ ≡ zeroed w
    → ListsPermissions t w h run x w₂ run
list-refused t w h r y run x w₂ ex ew = record {
  answer = Answer.no r;
  after = subst (λ u. AfterPermissions t w h (map access_of run) (Answer.no r) t u (map access_of run)) (sym ew)
      (Filled.untouched r t (zeroed w) (y (Reading.Permissions h) (λ s i. Value.permission_list (list_in s i)) (list-reads h)));
  reply = ex;
}

-- ---- as `listing_of` cites it: a is what the tests said, w₂ the work area left

module _ (t w : List ℕ) (known : Each Word t) (domain generation : ℕ) (a : code.Answer) (said : a ≡ domain_read t w domain generation) (w₂ : List ℕ) (ew : w₂ ≡ zeroed w) (room : ℕ) where
  abbrev h : Handle
  h = handle domain generation

  pub plans-live : (d : ℕ) → a ≡ Ok d → (p : Plan) → p ≡ plan_of (view t) d room → Plans t w h room (record { turns = p.turns; at = p.at; reply = record { refusal = 0; value = p.answer } }) w₂
  plans-live d e p ep =
      let y = is_live_lem t w known domain generation a said w₂ ew d e in
      record {
        sized = λ _. read-sized t w domain generation a said d e;
        within = subst (λ (z : Plan). z.turns ≤ room) (sym ep) (plan-turns (view t) d room);
        lists = λ run l. list-filled t w h d y run _ _ w₂
            (let q : p ≡ plan_of (view t) d (length run) = ep ∙ ap (plan_of (view t) d) (sym l) in subst (λ (z : Plan). run_at (view t) z.at run z.turns ≡ readings.fill_run (permission_list (view t) d) run) (sym q) (plan_run (view t) d run))
            (ap (λ (z : Plan). z.answer) ep) ew;
      }

  pub plans-refused : (r : Refusal) → a ≡ Err r → (x : replies.Reply) → x ≡ reply_for (Err r) → Plans t w h room (record { turns = 0; at = 0; reply = x }) w₂
  plans-refused r e x ex = record {
    sized = λ n. absurd (omega (arith, n));
    within = omega arith;
    lists = λ run l. list-refused t w h r (is-refused t w known domain generation a said w₂ ew r e) run x w₂ ex ew;
  }
