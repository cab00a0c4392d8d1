-- The lines that the code finds in the tables of a sound state are the model's. A domain's records are the rows of its tracker, and a row says what its record
-- says. A slot in use is not free in its pool; one that is not in use has no first record, so it gives no line whether it counts as free or not.
use Rattle.std.specs.Prelude.{◌≡◌, refl, false, ltb, length, get_or}
use Rattle.std.proofs.Math.Path.{ap}
use Rattle.std.proofs.Common.{◌∙◌, arith}
use Prim.Native.Nat.{ℕ, suc, ◌≤◌, ◌<◌}
use Rattle.std.proofs.Math.Option.{Option, none, some}
use mathlib.Core.List.{List, [], ◌∷◌, ◌++◌, map}
use Rattle.std.proofs.Math.ListN.{get_or-eq_default}
use Rattle.base.specs.Cases.{lt, ge, cmp, pick_same}
use Rattle.model.specs.Lists.{one_if, is_some, at_slot, count_up, In}
use Rattle.model.specs.State as state
use Rattle.model.specs.State.{State, Record}
use Rattle.model.specs.Layout.{free_link}
use Rattle.model.specs.Readings as model
use Rattle.model.specs.Sound.{slot_uses, Sound}
use Rattle.laws.specs.Stack.{link-out}
use Rattle.words.specs.Rows.{flat}
use Rattle.tables.specs.declared.DomainHead.{DomainHead}
use Rattle.tables.specs.declared.Region.{Region}
use Rattle.tables.specs.Tables.{Domain, no_head, no_domain, head_at}
use Rattle.tables.specs.View.{view}
use Rattle.arena.specs.Arena.{is_free_b}
use Rattle.tracker_records.specs.Links.{first_link}
use Rattle.readings.specs.Readings as readings
use Rattle.readings.specs.Readings.{records_from, records_of}
use Rattle.decoded.specs.Rows.{map-up-length, get_or-up}
use Rattle.decoded.specs.Free.{used-not-free}
use Rattle.decoded.specs.Tables.{pool_of, record_for, domain_for, domains_for, tables_of}
use Rattle.refine.specs.Calls.Readings.{rows_of, records-read, fill-same}
use Rattle.refine.specs.Calls.Readings.{rows_of, records-read, fill-same, records-none}
use Rattle.laws.specs.Words.SameTrackers.{first_slot}
use Rattle.laws.specs.Tree.Slots.{in-length}
use Rattle.listing.specs.Lines.{record_line, slot_lines, numbers}
use Rattle.listing.specs.Listed.{line_of, listed_of}

-- ---- rows

line-is : (d : ℕ) (q : Record) (o : Option ℕ) → line_of d (record_for q o) ≡ record_line d q
unfolding readings.rights_of
line-is d q o = refl

rows-lines : (d : ℕ) (l : List Record) → flat (line_of d) (rows_of l) ≡ numbers (map (record_line d) l)
unfolding flat
rows-lines d [] = refl
rows-lines d (q ∷ l) = let p = line-is d q (first_slot l) in let r = rows-lines d l in λ i. p i ++ r i

rows-length : (d : ℕ) (l : List Record) → length (rows_of l) ≡ length (map (record_line d) l)
rows-length d [] = refl
rows-length d (q ∷ l) = ap suc (rows-length d l)

-- ---- slots

row-past : (f : ℕ → Domain) (n d : ℕ) → n ≤ d → get_or (map f (count_up 0 n)) d no_domain ≡ no_domain
row-past f n d h = get_or-eq_default (map f (count_up 0 n)) no_domain {n = d} (omega (arith, map-up-length f n))

module _ (s : State) (sound : Sound s) (d : ℕ) where
  -- a slot that is not in use
  no_row : at_slot s.domains d ≡ none → (get_or (tables_of s).domains d no_domain).head ≡ no_head
  unfolding tables_of domains_for
  no_row e =
      let n = s.sizes.domains in
      let f : ℕ → Domain = λ j. domain_for s.sizes.slots (at_slot s.domains j) in
      elim (cmp d n) [
        | lt h ↦ ap (λ (x : Domain). x.head) (get_or-up f n d no_domain h ∙ ap (domain_for s.sizes.slots) e)
        | ge h ↦ ap (λ (x : Domain). x.head) (row-past f n d h)
      ]

  no-records : at_slot s.domains d ≡ none → records_of (tables_of s) d ≡ []
  unfolding records_of first_link head_at
  no-records e = ap (λ (h : DomainHead). records_from (tables_of s).sizes.records (tables_of s) h.tracker) (no_row e) ∙ records-none (tables_of s).sizes.records (tables_of s)

  -- a slot in use
  module _ (x : state.Domain) (at : In s.domains d x) where
    not_free : is_free_b (tables_of s).domain_pool d ≡ false
    unfolding is_free_b pool_of tables_of
    not_free =
        let h : d < s.sizes.domains = omega (arith, in-length s.domains d x at, sound.outside.domains_length) in
        ap (ltb 0) (get_or-up (free_link s.domain_pool.free) s.sizes.domains d 0 h
        ∙ link-out s.domain_pool.free d (used-not-free s.sizes.domains (slot_uses s.domains) s.domain_pool.free sound.outside.domain_pool.once d (ap (λ (o : Option state.Domain). one_if (is_some o)) at)))

  -- ---- its records

  listed-from : (o : Option state.Domain) → at_slot s.domains d ≡ o → (flat (line_of d) (listed_of (tables_of s) d) ≡ numbers (slot_lines d o)) × (length (listed_of (tables_of s) d) ≡ length (slot_lines d o))
  unfolding listed_of flat
  listed-from none e = rw (no-records e, pick_same {A = List Region} (is_free_b (tables_of s).domain_pool d) []) (refl, refl)
  listed-from (some x) e = rw (not_free x e, records-read s sound d x e) (rows-lines d x.tracker, rows-length d x.tracker)

  -- ---- the laws

  pub lines_are : flat (line_of d) (listed_of (tables_of s) d) ≡ numbers (slot_lines d (at_slot s.domains d))
  lines_are = (listed-from (at_slot s.domains d) refl).0

  pub lines-counted : length (listed_of (tables_of s) d) ≡ length (slot_lines d (at_slot s.domains d))
  lines-counted = (listed-from (at_slot s.domains d) refl).1

  -- What `fill_lines` leaves in a run, and what it answers, on the words t of a sound state.
  module _ (t : List ℕ) (seen : view t ≡ tables_of s) where
    pub lines-filled : (run : List ℕ) → readings.fill_run (flat (line_of d) (listed_of (view t) d)) run ≡ model.fill_run (numbers (slot_lines d (at_slot s.domains d))) run
    lines-filled run = rw (seen, lines_are) (fill-same (numbers (slot_lines d (at_slot s.domains d))) run)

    pub lines-answered : length (listed_of (view t) d) ≡ length (slot_lines d (at_slot s.domains d))
    lines-answered = rw seen lines-counted
