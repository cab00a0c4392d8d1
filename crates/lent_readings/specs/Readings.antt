-- The readings return and leave what `After` says: what is read of the tables of a live domain is what the model reads of the domain.
use Rattle.std.specs.Prelude.{◌≡◌, refl, ℕ, Bool, true, false, List, length, Ok, Err}
use Rattle.std.proofs.Common.{sym, ap, subst, ◌∙◌}
use Rattle.model.specs.Lists.{Each}
use Rattle.refusals.specs.Refusals.{memory}
use Rattle.model.specs.Outcome.{◌>>=◌}
use Rattle.model.specs.State.{State, Handle, Domain, Word, domain_at}
use Rattle.model.specs.Calls as model
use Rattle.model.specs.Readings.{get_refcount, core_map, holders, largest_reach, fill_run}
use Rattle.model.specs.Perform.{Reading, Call, Value, Answer, read_tables, perform, step}
use Rattle.model.specs.Memory.{Lent, After, Filled, AfterHolders, zeroed}
use Rattle.laws.specs.Tree.Steps.{domain-at}
use Rattle.tables.specs.Tables.{head_at}
use Rattle.tables.specs.View.{view}
use Rattle.answers.specs.Answers as code
use Rattle.refusals.specs.declared.Refusal.{Refusal}
use Rattle.readings.specs.Readings as readings
use Rattle.holders.specs.Holders.{holders_of}
use Rattle.decoded.specs.Tables.{tables_of}
use Rattle.decoded.specs.Words.{words-held}
use Rattle.refine.specs.Agrees.{bind_assoc}
use Rattle.refine.specs.Calls.Readings.{refcount-is, cores-are, holders-are, fill-same}
use Rattle.replies.specs.declared.Reply as replies
use Rattle.call.specs.Arguments.{handle}
use Rattle.replies.specs.Replies.{reply_of, Returns, ListsHolders}
use Rattle.frame.specs.Finish.{admitted}
use Rattle.replies.specs.ReplyFor.{reply_for}
use Rattle.frame.specs.Law.{lent, not-admitted}
use Rattle.lent_readings.specs.Lookup.{domain_read, Reads, Live, Refuses, Says, read-says, after-step, live-after}

-- ---- a number of a live domain

-- n is what the model reads; v is what the code read
number-returns : (t w : List ℕ) (h : Handle) (d : ℕ) (y : Live t w h d) (q : Reading) (n : State → ℕ → ℕ) → Reads q h (λ s i. Value.number (n s i))
    → (v : ℕ) (w₂ : List ℕ) → v ≡ n y.state d → w₂ ≡ zeroed w → Returns reply_of t w (Call.Read q) (record { refusal = 0; value = v }) t w₂
number-returns t w h d y q n p v w₂ e ew = record {
  answer = Answer.yes (Value.number (n y.state d));
  after = subst (λ u. After t w (Call.Read q) (Answer.yes (Value.number (n y.state d))) t u) (sym ew) (live-after t w h d y q (λ s i. Value.number (n s i)) p);
  reply = ap (λ (m : ℕ). record { refusal = 0; value = m }) e;
}

-- the reading is refused
refused-returns : (t w : List ℕ) (h : Handle) (r : Refusal) (y : Refuses t w h r) (q : Reading) (f : State → ℕ → Value) → Reads q h f
    → (x : replies.Reply) (w₂ : List ℕ) → x ≡ reply_for (Err r) → w₂ ≡ zeroed w → Returns reply_of t w (Call.Read q) x t w₂
refused-returns t w h r y q f p x w₂ e ew = record {
  answer = Answer.no r;
  after = subst (λ u. After t w (Call.Read q) (Answer.no r) t u) (sym ew) (y q f p);
  reply = e;
}

-- ---- what each reads

-- the tracker's largest reach in a range
abbrev reach_in : ℕ → ℕ → State → ℕ → ℕ
reach_in a b s d = largest_reach a b (domain_at s d).tracker

abbrev cores_in : State → ℕ → ℕ
cores_in s d = (domain_at s d).cores

refcount-reads : (h : Handle) (a b : ℕ) → Reads (Reading.Refcount h a b) h (λ s d. Value.number (reach_in a b s d))
unfolding read_tables get_refcount ◌>>=◌
refcount-reads h a b s = bind_assoc (model.live_domain s h) _ _

cores-reads : (h : Handle) → Reads (Reading.CoreMap h) h (λ s d. Value.number (cores_in s d))
unfolding read_tables core_map ◌>>=◌
cores-reads h s = bind_assoc (model.live_domain s h) _ _

module _ (t w : List ℕ) (h : Handle) (d : ℕ) (y : Live t w h d) where
  reach-same : (a b : ℕ) → readings.largest_reach a b (readings.records_of (view t) d) ≡ reach_in a b y.state d
  reach-same a b =
      ap (λ v. readings.largest_reach a b (readings.records_of v d)) y.seen
      ∙ refcount-is y.state y.lent.sound d y.domain y.at a b ∙ ap (λ (x : Domain). largest_reach a b x.tracker) (sym (domain-at y.state d y.domain y.at))

  cores-same : (head_at (view t) d).cores ≡ cores_in y.state d
  cores-same =
      ap (λ v. (head_at v d).cores) y.seen ∙ cores-are y.state y.lent.sound d y.domain y.at
      ∙ ap (λ (x : Domain). x.cores) (sym (domain-at y.state d y.domain y.at))

-- ---- as the exported functions cite it: a is what the tests said, v what was read, w₂ the work area left

module _ (t w : List ℕ) (known : Each Word t) (domain generation : ℕ) (a : code.Answer) (said : a ≡ domain_read t w domain generation) (w₂ : List ℕ) (ew : w₂ ≡ zeroed w) where
  abbrev h : Handle
  h = handle domain generation

  pub is_live_lem : (d : ℕ) → a ≡ Ok d → Live t w h d
  is_live_lem d e = subst (Says t w h) (sym said ∙ e) (read-says t w known domain generation)

  pub is-refused : (r : Refusal) → a ≡ Err r → Refuses t w h r
  is-refused r e = subst (Says t w h) (sym said ∙ e) (read-says t w known domain generation)

  pub refcount-returns : (d from to v : ℕ) → a ≡ Ok d → v ≡ readings.largest_reach from to (readings.records_of (view t) d)
      → Returns reply_of t w (Call.Read (Reading.Refcount h from to)) (record { refusal = 0; value = v }) t w₂
  refcount-returns d from to v e ev =
      let y = is_live_lem d e in
      number-returns t w h d y (Reading.Refcount h from to) (reach_in from to) (refcount-reads h from to) v w₂ (ev ∙ reach-same t w h d y from to) ew

  pub refcount-refused : (from to : ℕ) (r : Refusal) → a ≡ Err r → (x : replies.Reply) → x ≡ reply_for (Err r) → Returns reply_of t w (Call.Read (Reading.Refcount h from to)) x t w₂
  refcount-refused from to r e x ex = refused-returns t w h _ (is-refused r e) (Reading.Refcount h from to) _ (refcount-reads h from to) x w₂ ex ew

  pub cores-returns : (d v : ℕ) → a ≡ Ok d → v ≡ (head_at (view t) d).cores → Returns reply_of t w (Call.Read (Reading.CoreMap h)) (record { refusal = 0; value = v }) t w₂
  cores-returns d v e ev =
      let y = is_live_lem d e in
      number-returns t w h d y (Reading.CoreMap h) cores_in (cores-reads h) v w₂ (ev ∙ cores-same t w h d y) ew

  pub cores-refused : (r : Refusal) → a ≡ Err r → (x : replies.Reply) → x ≡ reply_for (Err r) → Returns reply_of t w (Call.Read (Reading.CoreMap h)) x t w₂
  cores-refused r e x ex = refused-returns t w h _ (is-refused r e) (Reading.CoreMap h) _ (cores-reads h) x w₂ ex ew

-- ---- the holders of an address: b is what the test said, run₂ and w₂ what was left

holders-after : (t w : List ℕ) (a : ℕ) (s : State) → Lent t w s → After t w (Call.Read (Reading.Holders a)) (Answer.yes (Value.domain_list (holders a s))) t (zeroed w)
unfolding ◌>>=◌ read_tables step perform
holders-after t w a s l = after-step t w (Reading.Holders a) s l _ refl

module _ (t w : List ℕ) (a : ℕ) (run : List ℕ) (b : Bool) (said : b ≡ admitted t w) (w₂ : List ℕ) (ew : w₂ ≡ zeroed w) where
  pub holders-returns : Each Word t → b ≡ true → (n : ℕ) (run₂ : List ℕ) → n ≡ length (holders_of (view t) a) → run₂ ≡ readings.fill_run (holders_of (view t) a) run
      → ListsHolders t w a run (record { refusal = 0; value = n }) w₂ run₂
  holders-returns known e n run₂ en er =
      let l = lent t w known (sym said ∙ e) in
      let s = l.0 in
      let see : view t ≡ tables_of s = (words-held s l.1.sound t l.1.tables).seen in
      let same : holders_of (view t) a ≡ holders a s = ap (λ v. holders_of v a) see ∙ holders-are s l.1.sound a in
      let yes = Answer.yes (Value.number (length (holders a s))) in
      record {
        answer = yes;
        after = subst (λ u. AfterHolders t w a run yes t u run₂) (sym ew) (subst (λ u. AfterHolders t w a run yes t (zeroed w) u) (sym (er ∙ ap (λ u. readings.fill_run u run) same ∙ fill-same (holders a s) run))
            (Filled.filled (holders a s) t (zeroed w) (holders-after t w a s l.1)));
        reply = ap (λ (m : ℕ). record { refusal = 0; value = m }) (en ∙ ap length same);
      }

  pub holders-refused : b ≡ false → (x : replies.Reply) → x ≡ reply_for (Err memory) → ListsHolders t w a run x w₂ run
  holders-refused e x ex = record {
    answer = Answer.no memory;
    after = subst (λ u. AfterHolders t w a run (Answer.no memory) t u run) (sym ew) (Filled.untouched memory t (zeroed w) (not-admitted t w (Call.Read (Reading.Holders a)) tt (sym said ∙ e)));
    reply = ex;
  }
