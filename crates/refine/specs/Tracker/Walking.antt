-- Turns of the code's walks, and the tables that they meet. A walk over a domain's records is in the middle: the records b are done, the records l are
-- still to come. The tables are those of the state with the tracker b ++ l and the record pool p; the cursor has the link of the last record of b and of
-- the first of l. The walk agrees with the model where it agrees with the model's walk over l, put behind b.
use Rattle.std.specs.Prelude.{◌≡◌, List, [], ◌∷◌, ◌++◌, set, Ok, Err}
use Rattle.std.proofs.Math.Path.{refl, ap, subst}
use Rattle.std.proofs.Common.{sym, ◌∙◌, append_assoc, arith, Continue, Break}
use Prim.Native.Nat.{ℕ, suc, ◌+◌}
use Rattle.std.proofs.Math.Option.{Option, none}
use Rattle.std.proofs.lemmas.List.{set-get_or}
use Rattle.rights.specs.Rights.{union}
use Rattle.model.specs.Lists.{In}
use Rattle.refusals.specs.Refusals.{no_tracker}
use Rattle.model.specs.Outcome.{Outcome, ok, refuse, ◌>>=◌}
use Rattle.model.specs.State as state
use Rattle.model.specs.State.{State, Record, Pool, Domain, with_tracker}
use Rattle.model.specs.Pool.{allocate, free}
use Rattle.model.specs.Layout.{link}
use Rattle.model.specs.Tracker.{Walk, with_end}
use Rattle.laws.specs.Words.SameTrackers.{uses, first_slot}
use Rattle.laws.specs.Tracker.Pools.{Moved, moved_none, frame}
use Rattle.tables.specs.declared.DomainHead.{DomainHead}
use Rattle.tables.specs.Tables.{Tables, record_at, with_record}
use Rattle.answers.specs.Answers.{Answer, Effect, and_then}
use Rattle.region.specs.declared.AccessRights.{AccessRights}
use Rattle.walk_cursors.specs.declared.Cursor.{Cursor}
use Rattle.region.specs.declared.Way.{Way}
use Rattle.tracker_records.specs.Links.{with_next, first_link, inserted, split, freed_record}
use Rattle.region.specs.Turns.{Turn, to, onward}
use Rattle.tracker.specs.Walks.{turn, walk}
use Rattle.decoded.specs.Tables.{record_for, tables_of}
use Rattle.decoded.specs.Slots.Domains.{head_read}
use Rattle.refine.specs.Agrees.{Agrees, agrees-step, agrees-call, agrees_from, bind-same}
use Rattle.refine.specs.Tracker.Linked.{last_link, row_is}
use Rattle.refine.specs.Tracker.RecordSteps.{tracked, Held, spread, tracked-again, held_moved, in_slot, from, inserted-is, moves-in, split-is}
use Rattle.refine.specs.Tracker.RecordFrees.{removed-is, joined_is, changed-is}
use Rattle.refine.specs.Tracker.Unions.{union_assoc}
use Rattle.refine.specs.Tracker.WalkSteps.{ahead}

-- ---- one turn

module _ (w : Way) (d : ℕ) (a : AccessRights) (n : ℕ) where
  abbrev next : Turn → Effect
  next y = elim y.answer [ Continue k ↦ walk w d a n k y.tables | Break x ↦ record { answer = x; tables = y.tables } ]

  walk-next : (c : Cursor) (t : Tables) → walk w d a (suc n) c t ≡ next (turn w t d a c)
  unfolding walk
  walk-next c t = refl

  next-onward : (x : Answer) (u : Tables) (f : ℕ → Cursor) → next (onward (record { answer = x; tables = u }) f) ≡ and_then (record { answer = x; tables = u }) (λ v u. walk w d a n (f v) u)
  unfolding and_then
  next-onward (Ok v) u f = refl
  next-onward (Err r) u f = refl

  module _ (c : Cursor) (t : Tables) where
    pub walk-going : (k : Cursor) (u : Tables) → turn w t d a c ≡ to (Continue k) u → walk w d a (suc n) c t ≡ walk w d a n k u
    walk-going k u e = walk-next c t ∙ ap next e

    pub walk-over : (x : Answer) (u : Tables) → turn w t d a c ≡ to (Break x) u → walk w d a (suc n) c t ≡ record { answer = x; tables = u }
    walk-over x u e = walk-next c t ∙ ap next e

    walk-onward : (x : Effect) (f : ℕ → Cursor) → turn w t d a c ≡ onward x f → walk w d a (suc n) c t ≡ and_then x (λ v u. walk w d a n (f v) u)
    walk-onward x f e = walk-next c t ∙ ap next e ∙ next-onward x.answer x.tables f

    -- a step, and then the walk from the cursor that its value gives
    pub turned : {A : Type 0} (x : Effect) (f : ℕ → Cursor) (m : Outcome A) (g : A → ℕ × State) (k : A → Outcome (ℕ × State)) → turn w t d a c ≡ onward x f
        → Agrees x (m >>= λ y. ok (g y)) → ((y : A) → m ≡ ok y → Agrees (walk w d a n (f (g y).0) (tables_of (g y).1)) (k y)) → Agrees (walk w d a (suc n) c t) (m >>= k)
    turned x f m g k e h j = agrees-step (walk w d a (suc n) c t) (and_then x (λ v u. walk w d a n (f v) u)) (m >>= k) (walk-onward x f e) (agrees_from x (λ v u. walk w d a n (f v) u) m g k h j)

-- ---- where a walk is

unfoldable pub cursor : List Record → List Record → ℕ → ℕ → Cursor
cursor b l s z = record { prev = last_link b; at = link (first_slot l); start = s; marks = z }

-- the model's walk over the rest is put behind b; z are the marks before
unfoldable pub finish : State → ℕ → Domain → ℕ → List Record → Walk → Outcome (ℕ × State)
finish s d x z b w = ok (union z w.marks, tracked s d x (b ++ w.records) w.pool)

pub finish-ahead : (s : State) (d : ℕ) (x : Domain) (z k : ℕ) (b c : List Record) (m : Outcome Walk) → ahead c k m >>= finish s d x z b ≡ m >>= finish s d x (union z k) (b ++ c)
unfolding ahead finish ◌>>=◌
finish-ahead s d x z k b c (ok w) =
    let e = sym (union_assoc z k w.marks) in
    let l = sym (append_assoc b c w.records) in
    λ i. ok (e i, tracked s d x (l i) w.pool)
finish-ahead s d x z k b c (refuse r) = refl

-- ---- the state in the middle of a walk

pub tracked-same : (s : State) (d : ℕ) (x : Domain) → In s.domains d x → tracked s d x x.tracker s.record_pool ≡ s
unfolding tracked
tracked-same s d x at =
    ap (λ (ds : List (Option Domain)). state.with_domains s.domain_pool ds s) (ap (set s.domains d) (sym at) ∙ set-get_or s.domains d none)

module _ (s : State) (d : ℕ) (x : Domain) where
  abbrev pub Fits : List Record → Pool → Type 0
  Fits l p = Held (tracked s d x l p) d (with_tracker l x)

  pub fits_moved : (l m : List Record) (p p' : Pool) → Fits l p → Moved p p' l m → Fits m p'
  unfolding tracked
  fits_moved l m p p' h v = subst (λ (z : State). Held z d (with_tracker m x)) (tracked-again s d x l m p p') (held_moved (tracked s d x l p) d (with_tracker l x) h p' m v)

  -- the first of the rest is done
  pub fits_on : (b l : List Record) (q : Record) (p : Pool) → Fits (b ++ q ∷ l) p → Fits ((b ++ q ∷ []) ++ l) p
  fits_on b l q p h = subst (λ (m : List Record). Fits m p) (sym (append_assoc b (q ∷ []) l)) h

  -- a slot is taken, and goes into the list
  pub fits_in_lem : (l m : List Record) (p : Pool) (y : ℕ × Pool) (q : Record) → Fits l p → allocate no_tracker p ≡ ok y → q.slot ≡ y.0
      → ((k : ℕ) → uses k l + uses k (q ∷ []) ≡ uses k m) → Fits m y.1
  fits_in_lem l m p y q h e k u = fits_moved l m p y.1 h (moves-in p y.1 y.0 q l m e k u)

  -- the same slots
  pub fits_kept : (l m : List Record) (p : Pool) → Fits l p → ((k : ℕ) → uses k l ≡ uses k m) → Fits m p
  fits_kept l m p h u = fits_moved l m p p h (frame (moved_none p []) (λ k. omega (arith, u k)))

  module _ (l : List Record) (p : Pool) (h : Fits l p) where
    -- a call that puts back over it
    again : {A : Type 0} (m : Outcome A) (v : A → ℕ) (f : A → List Record) (g : A → Pool) (y : Effect)
        → Agrees y (m >>= λ z. ok (v z, tracked (tracked s d x l p) d (with_tracker l x) (f z) (g z))) → Agrees y (m >>= λ z. ok (v z, tracked s d x (f z) (g z)))
    again m v f g y k = agrees-call y _ _ (bind-same m _ _ (λ z. ap (λ (u : State). ok (v z, u)) (sym (tracked-again s d x l (f z) p (g z))))) k

    pub first-here : first_link (tables_of (tracked s d x l p)) d ≡ link (first_slot l)
    unfolding first_link tracked
    first-here = ap (λ (k : DomainHead). k.tracker) (head_read (tracked s d x l p) h.long d (with_tracker l x) h.at)

  module _ (b a : List Record) (p : Pool) (h : Fits (b ++ a) p) where
    pub inserted-here : (q : Record) → Agrees (inserted (tables_of (tracked s d x (b ++ a) p)) d (last_link b) (record_for q (first_slot a)))
        (allocate no_tracker p >>= λ z. ok (suc z.0, tracked s d x (b ++ in_slot z.0 q ∷ a) z.1))
    unfolding tracked
    inserted-here q =
        again (b ++ a) p h (allocate no_tracker p) (λ z. suc z.0) (λ z. b ++ in_slot z.0 q ∷ a) (λ z. z.1) _
        (inserted-is (tracked s d x (b ++ a) p) d (with_tracker (b ++ a) x) h b a q refl)

  module _ (b a : List Record) (q : Record) (p : Pool) (h : Fits (b ++ q ∷ a) p) where
    abbrev now : State
    now = tracked s d x (b ++ q ∷ a) p

    pub row_here : record_at (tables_of now) q.slot ≡ record_for q (first_slot a)
    unfolding tracked
    row_here = row_is now h.long d (with_tracker (b ++ q ∷ a) x) h.at (spread now.sizes.records now.domains p h.sound) b a q refl

    pub split-here : (c : ℕ) → Agrees (split (tables_of now) q.slot c)
        (allocate no_tracker p >>= λ z. ok (suc z.0, tracked s d x (b ++ with_end c q ∷ from c z.0 q ∷ a) z.1))
    unfolding tracked
    split-here c =
        again (b ++ q ∷ a) p h (allocate no_tracker p) (λ z. suc z.0) (λ z. b ++ with_end c q ∷ from c z.0 q ∷ a) (λ z. z.1) _
        (split-is now d (with_tracker (b ++ q ∷ a) x) h b a q refl c)

    pub removed-here : Agrees (freed_record (with_next (tables_of now) d (last_link b) (link (first_slot a))) q.slot) (free q.slot p >>= λ z. ok (0, tracked s d x (b ++ a) z))
    unfolding tracked
    removed-here = again (b ++ q ∷ a) p h (free q.slot p) (λ z. 0) (λ z. b ++ a) (λ z. z) _ (removed-is now d (with_tracker (b ++ q ∷ a) x) h b a q refl)

    pub changed-here : (r : Record) → r.slot ≡ q.slot → with_record (tables_of now) r.slot (record_for r (first_slot a)) ≡ tables_of (tracked s d x (b ++ r ∷ a) p)
    unfolding tracked
    changed-here r e = changed-is now d (with_tracker (b ++ q ∷ a) x) h b a q r e refl ∙ ap tables_of (tracked-again s d x (b ++ q ∷ a) (b ++ r ∷ a) p p)

  -- the row of the record behind q
  pub row-after-here : (b a : List Record) (q n : Record) (p : Pool) → Fits (b ++ q ∷ n ∷ a) p → record_at (tables_of (tracked s d x (b ++ q ∷ n ∷ a) p)) n.slot ≡ record_for n (first_slot a)
  unfolding tracked
  row-after-here b a q n p h =
      let y = tracked s d x (b ++ q ∷ n ∷ a) p in
      row_is y h.long d (with_tracker (b ++ q ∷ n ∷ a) x) h.at (spread y.sizes.records y.domains p h.sound) (b ++ q ∷ []) a n (sym (append_assoc b (q ∷ []) (n ∷ a)))

  pub joined-here : (b a : List Record) (q r n : Record) (p : Pool) → Fits (b ++ q ∷ n ∷ a) p → r.slot ≡ q.slot
      → Agrees (freed_record (with_record (tables_of (tracked s d x (b ++ q ∷ n ∷ a) p)) r.slot (record_for r (first_slot a))) n.slot)
      (free n.slot p >>= λ z. ok (0, tracked s d x (b ++ r ∷ a) z))
  unfolding tracked
  joined-here b a q r n p h e =
      let l = b ++ q ∷ n ∷ a in
      again l p h (free n.slot p) (λ z. 0) (λ z. b ++ r ∷ a) (λ z. z) _ (joined_is (tracked s d x l p) d (with_tracker l x) h b a q r n e refl)
