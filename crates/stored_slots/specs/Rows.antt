-- A domain's words as a row of the tables, and its slots as rows of three words.
use Rattle.std.specs.Prelude.{◌≡◌, get_or, set, drop, replicate}
use Rattle.std.proofs.Math.Path.{refl, sym, ap}
use Rattle.std.proofs.Common.{◌∙◌, add-one, lt-ltb, take_all, take-suc, take-suc-set, get_or-take}
use mathlib.Core.List.{List, [], ◌∷◌, ◌++◌, append_assoc}
use Prim.Native.Nat.{ℕ, suc, ◌+◌, ◌-◌, ◌*◌, ◌≤◌, ◌<◌}
use Rattle.std.proofs.Math.Nat.{mul-le-mul_right}
use native.Mathlib.Omega.{arith}
use borrow.Rule.Slice.PartMut.{put_mid}
use Rattle.std.proofs.Math.ListN.{length, take, length-take, length-drop, length-set, get_or-eq_default}
use Rattle.std.proofs.Math.Seq.{sets, length-sets, get_or-set_same, get_or-set_other}
use Rattle.std.proofs.lemmas.List.{set_at}
use Rattle.words.specs.Runs.{part, part-drop, length_part, fetched-in, stored, stored-in, lent_back, take-sets-le, take-sets-lt, drop-sets-lt, drop-sets-add, get_or-before}
use Rattle.words.specs.Rows.{rows, length-rows, get_d_rows, rows-store, rows_more}
use Rattle.words.specs.Cuts.{cuts, offset}
use Rattle.sizes.specs.declared.Sizes.{Sizes}
use Rattle.sizes.specs.Limits.{most_slots}
use Rattle.tables.specs.declared.Slot.{Slot}
use Rattle.tables.specs.Tables.{Domain, no_domain, no_slot, put_head, put_slot, with_domains}
use Rattle.sizes.specs.Sizes.{sizes_of, widths, stride, head_width, slot_width, domains_section}
use Rattle.tables.specs.View.{view, of_parts, Sized, Left, domain_of, slot_of, slot_words}
use Rattle.tables.specs.Sections.{section, section-inside, only-left}
use Rattle.tables.specs.Rows.{row_at, row-fetched, row-replaced}
use Rattle.tables.specs.Domains.{domain_place, length-slots}
use Rattle.slot_list.specs.declared.SlotList.{SlotList}
use Rattle.stored_slots.specs.declared.Row.{Row}
use Rattle.stored_slots.specs.Record.{list_of, put_list, with_top, domain_or, with_list}

-- ---- reading: the slots one by one

-- the first i of n slots are read
abbrev pub read_to : List ℕ → ℕ → List Slot
read_to p i = rows slot_width i slot_of (drop head_width p) ++ replicate (most_slots - i) no_slot

pub read_none : (p : List ℕ) → read_to p 0 ≡ replicate most_slots no_slot
unfolding rows
read_none p = refl

pub read_more : (p : List ℕ) (i : ℕ) → i < most_slots → set (read_to p i) i (slot_of (part p (5 + i * 3) 3)) ≡ read_to p (i + 1)
read_more p i h =
    let q = drop 5 p in
    let x = slot_of (part q (i * 3) 3) in
    let rest : List Slot = replicate (most_slots - suc i) no_slot in
    let e : most_slots - i ≡ suc (most_slots - suc i) = omega arith in
    rw (← part-drop p 5 (i * 3) 3, e, add-one)
    (set_at (rows 3 i slot_of q) no_slot rest x i (length-rows 3 i slot_of q)
    ∙ sym (append_assoc (rows 3 i slot_of q) (x ∷ []) rest)
    ∙ ap (λ r. r ++ rest) (sym (rows_more 3 i slot_of q)))

pub read_all : (p : List ℕ) (n : ℕ) → record { slots = read_to p n; head = get_or p 3 0; count = get_or p 4 0; size = n } ≡ list_of (domain_of n p)
unfolding list_of domain_of
read_all p n = rw (length-rows 3 n slot_of (drop 5 p), get_or-take 5 p 3 0 (omega arith), get_or-take 5 p 4 0 (omega arith))

-- ---- writing: the slots one by one, then head and count

-- the first i slots are written
pub record Written (n : ℕ) (x : Domain) (l : SlotList) (i : ℕ) (p : List ℕ) : Type 0 where
  pub long : length p ≡ head_width + n * slot_width
  pub top : (domain_of n p).head ≡ x.head
  pub same : take i (domain_of n p).slots ≡ take i l.slots

module _ (n : ℕ) (p : List ℕ) (long : length p ≡ 5 + n * 3) where
  put-slot : (j : ℕ) (x : Slot) → j < n → domain_of n (sets p (5 + j * 3) (slot_words x)) ≡ put_slot (domain_of n p) j x
  unfolding domain_of
  put-slot j x h =
      rw (take-sets-le (slot_words x) p 5 (5 + j * 3) (omega arith), drop-sets-add (slot_words x) p 5 (j * 3), rows-store 3 n slot_of (drop 5 p) (slot_words x) j refl h (simp length-drop (omega arith)))

  put-top : (h c : ℕ) → domain_of n (set (set p 3 h) 4 c) ≡ put_head (domain_of n p) (with_top (domain_of n p).head h c)
  unfolding domain_of
  put-top h c =
      let vs : List ℕ = h ∷ c ∷ [] in
      let q = take 5 p in
      let many : length q ≡ 5 = simp length-take (omega arith) in
      rw (take-sets-lt vs p 5 3 (omega arith), drop-sets-lt vs p 5 3 (omega arith))
      (rw (get_or-before vs q 0 3 (omega arith), get_or-before vs q 1 3 (omega arith), get_or-before vs q 2 3 (omega arith), get_or-set_other (set q 3 h) 4 3 c 0 (omega arith), get_or-set_same q 3 h 0 (omega arith), get_or-set_same (set q 3 h) 4 c 0 (simp length-set (omega arith))))

module _ (n : ℕ) (x : Domain) (l : SlotList) (i : ℕ) (p : List ℕ) (w : Written n x l i p) where
  pub written-more : (q : List ℕ) (y : Slot) → i < n → i < length l.slots → y ≡ get_or l.slots i no_slot → q ≡ stored p (5 + i * 3) (slot_words y) → Written n x l (i + 1) q
  written-more q y h hl ey eq =
      let e = put-slot n p w.long i y h in
      let es : q ≡ sets p (5 + i * 3) (slot_words y) = eq ∙ stored-in p (5 + i * 3) (slot_words y) (omega (arith, w.long)) in
      let many = length-slots n p in
      rw es record {
        long = length-sets p (5 + i * 3) (slot_words y) ∙ w.long;
        top = ap (λ (d : Domain). d.head) e ∙ w.top;
        same = rw (add-one, e) (take-suc-set (domain_of n p).slots i y (omega arith) ∙ rw (w.same, ey) (sym (take-suc l.slots i no_slot hl)));
      }

  pub written_all : i ≡ n → length x.slots ≡ n → domain_of n (set (set p 3 l.head) 4 l.count) ≡ put_list x l
  unfolding put_list
  written_all e many =
      let all : (domain_of n p).slots ≡ take (length x.slots) l.slots =
      sym (take_all n (domain_of n p).slots (omega (arith, length-slots n p))) ∙ rw e at w.same ∙ ap (λ (k : ℕ). take k l.slots) (sym many) in
      put-top n p w.long l.head l.count ∙ (λ k. record { head = with_top (w.top k) l.head l.count; slots = all k })

-- ---- the row in the tables

pub domain-slots : (t : List ℕ) (d : ℕ) → d < (sizes_of t).domains → length (domain_or (view t) d).slots ≡ (sizes_of t).slots
unfolding view of_parts domain_of
domain-slots t d h =
    let n = (sizes_of t).slots in
    ap (λ (x : Domain). length x.slots) (get_d_rows (stride (sizes_of t)) (sizes_of t).domains (domain_of n) (section t domains_section) d no_domain h)
    ∙ length-rows 3 n slot_of _

pub no-domain : (t : List ℕ) (d : ℕ) → (sizes_of t).domains ≤ d → domain_or (view t) d ≡ no_domain
unfolding view of_parts
no-domain t d h = get_or-eq_default (view t).domains no_domain {n = d} (rw length-rows h)

-- where the words of domain d stand in t
pub record RowAt (t : List ℕ) (d : ℕ) (r : Row) : Type 0 where
  pub slots : r.slots ≡ (sizes_of t).slots
  pub start : r.start ≡ domain_place t d
  pub end : r.end ≡ r.start + (head_width + r.slots * slot_width)
  pub inside : r.end ≤ length t

-- the place that the code computes from the sizes z
pub row-found : (t : List ℕ) (d : ℕ) (z : Sizes) (o w a : ℕ) → Sized t → d < (sizes_of t).domains → z ≡ sizes_of t → o ≡ offset (widths z) domains_section
    → w ≡ stride z → a ≡ row_at (length t) o z.domains w d → RowAt t d (record { start = a; end = a + w; slots = z.slots })
row-found t d z o w a s h ez eo ew ea =
    let place : a ≡ domain_place t d = ea ∙ rw (ew, eo, ez) in
    let e : domain_place t d ≡ offset (widths (sizes_of t)) domains_section + d * stride (sizes_of t) = unfold row_at in rw (lt-ltb d (sizes_of t).domains h) in
    let same : z.slots ≡ (sizes_of t).slots = ap (λ (y : Sizes). y.slots) ez in
    record { slots = same; start = place; end = rw ew; inside = omega (arith, ew, section-inside t domains_section s, mul-le-mul_right (stride (sizes_of t)) h) }

module _ (t : List ℕ) (d : ℕ) (r : Row) (s : Sized t) (h : d < (sizes_of t).domains) (at : RowAt t d r) where
  row-wide : r.end - r.start ≡ stride (sizes_of t)
  row-wide = omega (arith, at.end, at.slots)

  row-long : length (take (r.end - r.start) (drop r.start t)) ≡ 5 + r.slots * 3
  unfolding part
  row-long = length_part t r.start (r.end - r.start) (omega (arith, at.end, at.inside)) ∙ omega (arith, at.end)

  pub row_read : domain_of r.slots (take (r.end - r.start) (drop r.start t)) ≡ domain_or (view t) d
  unfolding part view of_parts
  row_read =
      let w = stride (sizes_of t) in
      let f = domain_of (sizes_of t).slots in
      let e : r.start ≡ domain_place t d + 0 = omega (arith, at.start) in
      let e₂ : d * w + 0 ≡ d * w = omega arith in
      let e₃ = row-fetched t (domains_section - 1) (sizes_of t).domains w s (omega arith) refl d 0 w h (omega arith) in
      rw (row-wide, at.slots) (ap f (sym (fetched-in t r.start w (omega (arith, at.end, at.inside, at.slots))) ∙ rw e (e₃ ∙ rw e₂))
      ∙ sym (get_d_rows w (sizes_of t).domains f (section t domains_section) d no_domain h))

  pub row_back : (p : List ℕ) (l : SlotList) → length p ≡ length (take (r.end - r.start) (drop r.start t))
      → domain_of r.slots p ≡ put_list (domain_of r.slots (take (r.end - r.start) (drop r.start t))) l
      → Left (put_mid r.start (r.end - r.start) t p) (with_list (view t) d l)
  unfolding view of_parts cuts with_domains with_list
  row_back p l hp e =
      let w = stride (sizes_of t) in
      let n = (sizes_of t).domains in
      let f = domain_of (sizes_of t).slots in
      let u = put_mid r.start (r.end - r.start) t p in
      let long : length p ≡ w = hp ∙ row-long ∙ rw at.slots in
      let eu : u ≡ sets t r.start p = lent_back t p r.start (r.end - r.start) w row-wide long (omega (arith, at.end, at.inside, at.slots)) in
      let ew : u ≡ stored t (domain_place t d) p = eu ∙ rw at.start (sym (stored-in t (domain_place t d) p (omega (arith, at.start, at.end, at.inside, at.slots)))) in
      let q = row-replaced t (domains_section - 1) n w s (omega arith) refl f u p d long (omega arith) ew in
      let new : f p ≡ put_list (domain_or (view t) d) l = ap (λ (k : ℕ). domain_of k p) (sym at.slots) ∙ e ∙ ap (λ x. put_list x l) row_read in
      only-left t u domains_section (with_list (view t) d l) s q.0 (ap (with_domains (view t)) (q.1 ∙ ap (set (view t).domains d) new))
