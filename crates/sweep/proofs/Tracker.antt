-- A sweep over a domain's pieces tests its tracker: it accepts the records if and only if they are the tracker that **Sound** asks for
-- (`tracker-exact`), given that the regions are sound and that each has its one slot.
use Rattle.std.specs.Prelude.{◌≡◌, ◌↔◌, ℕ, ◌≤◌, ◌<◌, true, List, [], ◌∷◌, T, leb, ltb}
use Rattle.std.proofs.Common.{sym, ◌∙◌, arith, leb→le, ltb→lt}
use Rattle.std.proofs.Math.Option.{Option}
use Rattle.std.specs.Float.Ieee.Fits.{and_l, and_r}
use Rattle.base.specs.Cases.{lt, ge, cmp, holds as is, fails, test}
use Rattle.base.specs.Tests.{true-is}
use Rattle.model.specs.Lists.{exists, Each, In}
use Rattle.model.specs.State.{State, Domain, Record, Region, Pool, Capa}
use Rattle.model.specs.Fields.{Field, get}
use Rattle.model.specs.Counts.{holds, counts_at, Agree, region_count}
use Rattle.model.specs.Sound.{OutsideSound, TrackerSound}
use Rattle.laws.specs.Fields.{get_none}
use Rattle.laws.specs.Tracker.Form.{sound-form}
use Rattle.laws.specs.Tracker.Stored.{tracker-sound}
use Rattle.laws.specs.Tree.Facts.{Regions}
use Rattle.sweep.specs.Events.{Piece, Proper, starts, ends, cover}
use Rattle.sweep.proofs.Events.{cover-small}
use Rattle.sweep.specs.Sweep.{sweep}
use Rattle.sweep.specs.Sort.{sort}
use Rattle.sweep.proofs.Sort.{sort-perm}
use Rattle.sweep.proofs.Sorts.{sort_sorted}
use Rattle.sweep.proofs.Theorem.{Tracks, sweep-exact}
use Rattle.sweep.proofs.Slots.{listed, OneSlot, listed-cover, listed-proper}

-- ---- a tracker against pieces that cover as the regions count

module _ (rs : List (Option Region)) (d : ℕ) (ps : List Piece) (same : (f : Field) (a : ℕ) → cover f ps a ≡ region_count f rs d a) where
  -- the first record that holds a agrees; where none does nothing is covered
  counted-at : (f : Field) (a : ℕ) (l : List Record) → Each (λ q. (b : ℕ) → q.start ≤ b → b < q.end → Agree rs d b q.counts) l → (0 < cover Field.Reach ps a → T (exists (λ q. holds q.start q.end a) l)) → get f (counts_at l a) ≡ cover f ps a
  counted-at f a [] h c = elim (cmp 0 (cover Field.Reach ps a)) [ lt i ↦ absurd (c i) | ge i ↦ omega (arith, get_none f, cover-small f ps a) ]
  counted-at f a (q ∷ l) h c = elim (test (holds q.start q.end a)) [
    | is e ↦
        let u = leb→le q.start a (and_l (leb q.start a) (ltb a q.end) (true-is e)) in
        let v = ltb→lt a q.end (and_r (leb q.start a) (ltb a q.end) (true-is e)) in
        rw e (h.0 a u v f ∙ sym (same f a))
    | fails e ↦ rw e (counted-at f a l h.1 (λ k. rw e at (c k)))
  ]

  tracks-sound : (l : List Record) → Tracks ps l → TrackerSound rs d l
  tracks-sound l t = tracker-sound rs d l t.0 (λ a f. t.1 f a ∙ same f a)

  sound-tracks : (l : List Record) → TrackerSound rs d l → Tracks ps l
  sound-tracks l s = (sound-form rs d l s, λ f a. counted-at f a l s.counted (λ k. s.covered a (omega (arith, same Field.Reach a))))

  -- sorted by passes with the gaps gs, whichever they are
  pub pieces_exact : Proper ps → (gs : List ℕ) (l : List Record) → (sweep l (sort gs (starts ps)) (sort gs (ends ps)) ≡ true) ↔ TrackerSound rs d l
  pieces_exact h gs l =
      let x = sweep-exact ps l (sort gs (starts ps)) (sort gs (ends ps)) h (sort_sorted gs (starts ps)) (sort_sorted gs (ends ps)) (sort-perm gs (starts ps)) (sort-perm gs (ends ps)) in
      (λ t. tracks-sound l (x.0 t), λ s. x.1 (sound-tracks l s))

-- The whole test of one domain's tracker l: pieces gathered over its capability list, sorted, swept.
pub tracker-exact : (rp : Pool) (rs : List (Option Region)) (d : ℕ) (held : List (Option Capa)) → Regions rs → OneSlot rp rs d held → (gs : List ℕ) (l : List Record) → (sweep l (sort gs (starts (listed rp rs held))) (sort gs (ends (listed rp rs held))) ≡ true) ↔ TrackerSound rs d l
tracker-exact rp rs d held s once gs l = pieces_exact rs d (listed rp rs held) (listed-cover rp rs s d held once) (listed-proper rp rs s held) gs l

-- The same of a domain x in slot d of a state that is sound outside its trackers: it is the clause of **Sound** about its tracker.
pub sound-exact : (s : State) → OutsideSound s → (d : ℕ) (x : Domain) → In s.domains d x → (gs : List ℕ) → let ps = listed s.region_pool s.regions x.locals.held in (sweep x.tracker (sort gs (starts ps)) (sort gs (ends ps)) ≡ true) ↔ TrackerSound s.regions d x.tracker
sound-exact s h d x e gs = tracker-exact s.region_pool s.regions d x.locals.held h.regions (λ i g k. (h.owners i g k).one_slot d x e) gs x.tracker
