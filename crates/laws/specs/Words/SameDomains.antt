-- Equal words of the domains, of the tracker records and of the interfaces give the same domains: the kind of a slot tells what it holds, and a free slot
-- has the link of the free stack.
use Rattle.std.specs.Prelude.{◌≡◌, refl, ℕ, zero, suc, ◌≤◌, ◌<◌, Bool, true, false, List, [], eqb, length, get_or, drop}
use Rattle.std.proofs.Common.{ap, sym, ◌∙◌, arith, ext_get_or}
use Rattle.std.proofs.Math.Option.{Option, none, some}
use Rattle.base.specs.Cases.{lt, ge, cmp}
use Rattle.model.specs.Lists.{one_if, count_if, at_slot, In, first_of, after_in}
use Rattle.model.specs.State.{Pool, Capa, no_capa, region, region_revoke, management, channel, LocalList, Domain}
use Rattle.model.specs.Layout.{slot_or0, slot_words, domain_words, tracker_words, record_slot_words, interface_words}
use Rattle.model.specs.Sound.{OnceEach, slot_uses, record_uses, PoolSound}
use Rattle.laws.specs.Parts.{same_rows}
use Rattle.laws.specs.Stack.{same-stack, once-at-most, none-beyond}
use Rattle.laws.specs.Words.SameTables.{same-table, at_slots, same-link}
use Rattle.laws.specs.Words.SameTrackers.{uses, owned, same-tracker}
use Rattle.laws.specs.Words.Length.{slot_row, slot-width}
use Rattle.laws.specs.Lists.{not-used}
use Rattle.laws.specs.Tree.Slots.{in-length}

-- ---- a capability list

-- what a slot holds, read from its three words; used only in proofs
abbrev read_slot : ℕ → ℕ → ℕ → Option Capa
read_slot zero a b = some no_capa
read_slot (suc zero) a b = none
read_slot (suc (suc zero)) a b = some (region (record { slot = a; generation = b }))
read_slot (suc (suc (suc zero))) a b = some (region_revoke (record { slot = a; generation = b }))
read_slot (suc (suc (suc (suc zero)))) a b = some (management (record { slot = a; generation = b }))
read_slot (suc (suc (suc (suc (suc n))))) a b = some (channel (record { slot = a; generation = b }))

abbrev read_row : List ℕ → Option Capa
read_row r = read_slot (get_or r 0 0) (get_or r 1 0) (get_or r 2 0)

read-slot : (free : List ℕ) (i : ℕ) (o : Option Capa) → read_row (slot_row free i o) ≡ o
read-slot free i none = refl
read-slot free i (some no_capa) = refl
read-slot free i (some (region h)) = refl
read-slot free i (some (region_revoke h)) = refl
read-slot free i (some (management h)) = refl
read-slot free i (some (channel h)) = refl

-- what is used of a domain's list of n slots
pub record Listed (n : ℕ) (l : LocalList) : Type 0 where
  pub held_length : length l.held ≡ n
  pub once : OnceEach n (slot_uses l.held) l.free

module _ (n : ℕ) (l m : LocalList) (h : Listed n l) (k : Listed n m) (rows : (i : ℕ) → i < n → slot_words l i ≡ slot_words m i) where
  same-held : l.held ≡ m.held
  same-held = ext_get_or none l.held m.held (h.held_length ∙ sym k.held_length) (λ i j.
      sym (read-slot l.free i (at_slot l.held i)) ∙ ap read_row (rows i (omega arith)) ∙ read-slot m.free i (at_slot m.held i))

  next : (i : ℕ) → 0 < count_if (eqb i) l.free → slot_or0 (after_in l.free i) ≡ slot_or0 (after_in m.free i)
  next i p = elim (cmp i n) [
    | ge j ↦ absurd (omega (arith, none-beyond n (slot_uses l.held) l.free h.once i j))
    | lt j ↦
        let a = not-used (at_slot l.held i) (omega (arith, once-at-most n (slot_uses l.held) l.free h.once i)) in
        let b = ap (λ t. at_slot t i) (sym same-held) ∙ a in
        ap (λ r. get_or r 1 0) (sym (ap (slot_row l.free i) a) ∙ rows i j ∙ ap (slot_row m.free i) b)
  ]

  same-list : slot_or0 (first_of l.free) ≡ slot_or0 (first_of m.free) → l ≡ m
  same-list f =
      let members : (i : ℕ) → count_if (eqb i) l.free ≡ count_if (eqb i) m.free = λ i. omega (arith, h.once i, k.once i, ap (λ t. slot_uses t i) same-held) in
      let once : (i : ℕ) → count_if (eqb i) l.free ≤ 1 = λ i. omega (arith, once-at-most n (slot_uses l.held) l.free h.once i) in
      let free = same-stack l.free m.free members once f next in
      λ i. record { held = same-held i; free = free i }

-- ---- an interface

same_flag : (b c : Bool) → one_if b ≡ one_if c → b ≡ c
same_flag true true e = refl
same_flag true false e = absurd (omega arith)
same_flag false true e = absurd (omega arith)
same_flag false false e = refl

-- ---- all n domains, with m list slots each, and z tracker records

module _ (n m z : ℕ) (ds es : List (Option Domain)) (ln : length ds ≡ n) (ln' : length es ≡ n) (used : (i : ℕ) → slot_uses ds i ≡ slot_uses es i)
    (rows : (i : ℕ) → i < n → domain_words m (at_slot ds i) ≡ domain_words m (at_slot es i))
    (records : (i : ℕ) → i < z → record_slot_words ds i ≡ record_slot_words es i)
    (interfaces : (i : ℕ) → i < n → interface_words (at_slot ds i) ≡ interface_words (at_slot es i))
    (lists : (d : ℕ) (x : Domain) → In ds d x → Listed m x.locals) (lists' : (d : ℕ) (x : Domain) → In es d x → Listed m x.locals)
    {p p' : Pool} (pool : PoolSound z (record_uses ds) p) (pool' : PoolSound z (record_uses es) p') where
  module _ (d : ℕ) (x y : Domain) (a : In ds d x) (b : In es d y) where
    row : domain_words m (some x) ≡ domain_words m (some y)
    row = at_slots (domain_words m) (domain_words m) (at_slot ds d) (at_slot es d) x y a b (rows d (omega (arith, in-length ds d x a)))

    word : (w : ℕ) → get_or (domain_words m (some x)) w 0 ≡ get_or (domain_words m (some y)) w 0
    word w = ap (λ r. get_or r w 0) row

    same_locals : x.locals ≡ y.locals
    same_locals =
        let slots = same_rows 3 (slot_words x.locals) (slot_words y.locals) (slot-width x.locals) (slot-width y.locals) m (ap (drop 5) row) in
        same-list m x.locals y.locals (lists d x a) (lists' d y b) slots (word 3)

    -- no record of a tracker is on another list, or twice on this one
    once : (i : ℕ) → record_uses ds i ≤ 1
    once i = omega (arith, once-at-most z (record_uses ds) p.free pool.once i)

    once' : (i : ℕ) → record_uses es i ≤ 1
    once' i = omega (arith, once-at-most z (record_uses es) p'.free pool'.once i)

    tracker-row : (i : ℕ) → 0 < uses i x.tracker → 0 < uses i y.tracker → tracker_words i x.tracker [] ≡ tracker_words i y.tracker []
    tracker-row i u v = elim (cmp i z) [
      | lt j ↦ sym ((owned ds d x a i).1 (once i) u) ∙ records i j ∙ (owned es d y b i).1 (once' i) v
      | ge j ↦ absurd (omega (arith, none-beyond z (record_uses ds) p.free pool.once i j, (owned ds d x a i).0))
    ]

    same-trackers : x.tracker ≡ y.tracker
    same-trackers =
        same-tracker x.tracker y.tracker (λ i. omega (arith, once i, (owned ds d x a i).0)) (λ i. omega (arith, once' i, (owned es d y b i).0)) tracker-row (word 2)

    same-interface : x.interface ≡ y.interface
    same-interface =
        let own = at_slots interface_words interface_words (at_slot ds d) (at_slot es d) x y a b (interfaces d (omega (arith, in-length ds d x a))) in
        λ i. record { word = ap (λ r. get_or r 0 0) own i; frozen = same_flag x.interface.frozen y.interface.frozen (ap (λ r. get_or r 1 0) own) i }

    same-domain : x ≡ y
    same-domain = λ i. record { manager = same-link x.manager y.manager (word 0) i; cores = word 1 i; locals = same_locals i; tracker = same-trackers i; interface = same-interface i }

  pub same-domains : ds ≡ es
  same-domains = same-table ds es (ln ∙ sym ln') used same-domain
