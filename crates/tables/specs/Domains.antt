-- A domain's five words, loaded and stored, and its slots, loaded each by itself: parts of one row. The whole row, cleared.
use Rattle.std.specs.Prelude.{◌≡◌, List, [], ℕ, ◌+◌, ◌-◌, ◌*◌, ◌≤◌, ◌<◌, ltb, get_or, take, drop}
use Rattle.std.proofs.Math.Path.{refl, sym, ap}
use Rattle.std.proofs.Common.{◌∙◌, lt-ltb, le-ltb, length-take}
use Rattle.std.proofs.Math.Nat.{mul-le-mul_right}
use native.Mathlib.Omega.{arith}
use Rattle.std.proofs.Math.ListN.{length, set, length-replicate, get_or-eq_default}
use borrow.Rule.Slice.PartMut.{put_mid}
use Rattle.std.proofs.lemmas.List.Edits.{sets}
use Rattle.std.proofs.Math.Seq.{set_out}
use Rattle.base.specs.Cases.{pick, cmp, lt, ge}
use Rattle.words.specs.Runs.{part, part-part, part-drop, length_part, fetched, fetched-out, stored, stored-in, lent_back, sets-all, take-sets-lt, drop-sets-lt}
use Rattle.words.specs.Rows.{rows, length-rows, get_d_rows}
use Rattle.words.specs.Cuts.{cuts, offset}
use Rattle.words.specs.Zeros.{zeros, take-zeros, drop-zeros, rows-zeros}
use Rattle.sizes.specs.declared.Sizes.{Sizes}
use Rattle.tables.specs.declared.DomainHead.{DomainHead}
use Rattle.tables.specs.Tables.{Domain, no_domain, no_slot, empty_domain, head_at, slot_at, put_head, with_domains, with_head, without_domain}
use Rattle.sizes.specs.Sizes.{sizes_of, widths, stride, head_width, slot_width, domains_section}
use Rattle.tables.specs.View.{view, of_parts, Sized, Left, domain_of, head_of, head_words, slot_of}
use Rattle.sizes.specs.Limits.{most_words}
use Rattle.sizes.specs.Tests.{total-fits}
use Rattle.tables.specs.Sections.{section, section-length, section-inside, only-left}
use Rattle.tables.specs.Rows.{row_at, placed, set_when, row-fetched, no-row-fetched, row-stored}

abbrev pub domain_place : List ℕ → ℕ → ℕ
domain_place t i = placed t domains_section (sizes_of t).domains (stride (sizes_of t)) i

abbrev pub slot_place : List ℕ → ℕ → ℕ → ℕ
slot_place t i j = pick (ltb j (sizes_of t).slots) (domain_place t i + (head_width + j * slot_width)) (length t)

-- no place of a slot wraps
pub domain-place-low : (t : List ℕ) (i : ℕ) → Sized t → domain_place t i ≤ most_words
unfolding row_at
domain-place-low t i s =
    let high = total-fits (sizes_of t) s.limits in
    elim (cmp i (sizes_of t).domains) [
      | lt h ↦ rw (lt-ltb i (sizes_of t).domains h) (omega (arith, s.exact, section-inside t domains_section s, mul-le-mul_right (stride (sizes_of t)) h))
      | ge h ↦ rw (le-ltb i (sizes_of t).domains h) (omega (arith, s.exact))
    ]

pub slot-place : (t : List ℕ) (i j n a : ℕ) → n ≡ get_or t 1 0 → j < n → a ≡ domain_place t i → a + (head_width + j * slot_width) ≡ slot_place t i j
unfolding sizes_of
slot-place t i j n a en h ea = rw (lt-ltb j (sizes_of t).slots (omega arith), ea)

pub no-slot-place : (t : List ℕ) (i j n : ℕ) → n ≡ get_or t 1 0 → n ≤ j → length t ≡ slot_place t i j
unfolding sizes_of
no-slot-place t i j n en h = rw (le-ltb j (sizes_of t).slots (omega arith))

-- ---- in one domain's words

pub length-slots : (n : ℕ) (p : List ℕ) → length (domain_of n p).slots ≡ n
unfolding domain_of
length-slots n p = length-rows slot_width n slot_of (drop head_width p)

domain-slot : (n j : ℕ) (p : List ℕ) → j < n → get_or (domain_of n p).slots j no_slot ≡ slot_of (part p (5 + j * 3) 3)
unfolding domain_of
domain-slot n j p h = get_d_rows 3 n slot_of (drop 5 p) j no_slot h ∙ ap slot_of (part-drop p 5 (j * 3) 3)

put-head : (n : ℕ) (p : List ℕ) (h : DomainHead) → length p ≡ 5 + n * 3 → domain_of n (sets p 0 (head_words h)) ≡ put_head (domain_of n p) h
unfolding domain_of
put-head n p h hp =
    let e : take 5 (sets p 0 (head_words h)) ≡ head_words h =
    take-sets-lt (head_words h) p 5 0 (omega arith) ∙ sets-all (head_words h) (take 5 p) (simp length-take (omega arith)) in
    rw (e, drop-sets-lt (head_words h) p 5 0 (omega arith))

pub domain-zeros : (z : Sizes) → domain_of z.slots (zeros (stride z)) ≡ empty_domain z
unfolding domain_of empty_domain
domain-zeros z = rw (take-zeros head_width (z.slots * slot_width), drop-zeros head_width (z.slots * slot_width), rows-zeros slot_width z.slots slot_of)

-- ---- in the tables

-- the words of domain i
abbrev domain_part : List ℕ → ℕ → List ℕ
domain_part t i = part (section t domains_section) (i * stride (sizes_of t)) (stride (sizes_of t))

domain-at : (t : List ℕ) (i : ℕ) → i < (sizes_of t).domains → get_or (view t).domains i no_domain ≡ domain_of (sizes_of t).slots (domain_part t i)
unfolding view of_parts
domain-at t i h = get_d_rows (stride (sizes_of t)) (sizes_of t).domains (domain_of (sizes_of t).slots) (section t domains_section) i no_domain h

no-domain : (t : List ℕ) (i : ℕ) → (sizes_of t).domains ≤ i → get_or (view t).domains i no_domain ≡ no_domain
unfolding view of_parts
no-domain t i h = get_or-eq_default (view t).domains no_domain {n = i} (rw length-rows h)

-- a domain has as many slots as the sizes say, or there is no such domain
slots-many : (t : List ℕ) (i : ℕ) → length (get_or (view t).domains i no_domain).slots ≤ (sizes_of t).slots
slots-many t i =
    elim (cmp i (sizes_of t).domains) [
      | lt h ↦ rw (domain-at t i h) (omega (arith, length-slots (sizes_of t).slots (domain_part t i)))
      | ge h ↦ rw (no-domain t i h) (omega arith)
    ]

module _ (t : List ℕ) (s : Sized t) (i : ℕ) where
  domain-long : i < (sizes_of t).domains → length (domain_part t i) ≡ stride (sizes_of t)
  domain-long h =
      length_part (section t domains_section) (i * stride (sizes_of t)) (stride (sizes_of t)) (omega (arith, section-length t domains_section s, mul-le-mul_right (stride (sizes_of t)) h))

  -- m words from j on of domain i
  in-domain : (j m : ℕ) → i < (sizes_of t).domains → j + m ≤ stride (sizes_of t) → fetched t (domain_place t i + j) m ≡ part (domain_part t i) j m
  in-domain j m h hj =
      row-fetched t (domains_section - 1) (sizes_of t).domains (stride (sizes_of t)) s (omega arith) refl i j m h hj
      ∙ sym (part-part (section t domains_section) (i * stride (sizes_of t)) (stride (sizes_of t)) j m hj)

  out-domain : (j m : ℕ) → (sizes_of t).domains ≤ i → 0 < m → fetched t (domain_place t i + j) m ≡ []
  out-domain j m h hm = no-row-fetched t (domains_section - 1) (sizes_of t).domains (stride (sizes_of t)) s (omega arith) refl i j m h hm

  head-fetched : head_of (fetched t (domain_place t i + 0) 5) ≡ head_at (view t) i
  unfolding head_at domain_of part
  head-fetched =
      elim (cmp i (sizes_of t).domains) [
        | lt h ↦ ap head_of (in-domain 0 5 h (omega arith)) ∙ sym (ap (λ (x : Domain). x.head) (domain-at t i h))
        | ge h ↦ ap head_of (out-domain 0 5 h (omega arith)) ∙ sym (ap (λ (x : Domain). x.head) (no-domain t i h))
      ]

  pub head-loaded : head_of (fetched t (domain_place t i) head_width) ≡ head_at (view t) i
  head-loaded = let z : domain_place t i ≡ domain_place t i + 0 = omega arith in rw z head-fetched

  pub slot-loaded : (a j : ℕ) (p : List ℕ) → a ≡ slot_place t i j → p ≡ fetched t a slot_width → slot_of p ≡ slot_at (view t) i j
  unfolding slot_at
  slot-loaded a j p e ep =
      elim (cmp j (sizes_of t).slots) [
        | lt hj ↦
            let z : a ≡ domain_place t i + (5 + j * 3) = e ∙ rw (lt-ltb j (sizes_of t).slots hj) in
            elim (cmp i (sizes_of t).domains) [
              | lt h ↦ rw (ep, z, domain-at t i h) (ap slot_of (in-domain (5 + j * 3) 3 h (omega arith)) ∙ sym (domain-slot (sizes_of t).slots j (domain_part t i) hj))
              | ge h ↦ rw (ep, z, no-domain t i h) (ap slot_of (out-domain (5 + j * 3) 3 h (omega arith)))
            ]
        | ge hj ↦
            let z : a ≡ length t = e ∙ rw (le-ltb j (sizes_of t).slots hj) in
            rw (ep, z) (ap slot_of (fetched-out t (length t) 3 (omega arith)) ∙ sym (get_or-eq_default (get_or (view t).domains i no_domain).slots no_slot {n = j} (omega (arith, slots-many t i))))
      ]

  -- vs stored from word j on of domain i, where that makes the domain x
  domain-stored : (u vs : List ℕ) (j : ℕ) (x : Domain) → j + length vs ≤ stride (sizes_of t) → 0 < length vs → u ≡ stored t (domain_place t i + j) vs
      → (i < (sizes_of t).domains → domain_of (sizes_of t).slots (sets (domain_part t i) j vs) ≡ x) → Left u (with_domains (view t) (set (view t).domains i x))
  unfolding view of_parts cuts with_domains
  domain-stored u vs j x hj hv eu ex =
      let n = (sizes_of t).domains in
      let f = domain_of (sizes_of t).slots in
      let q = row-stored t (domains_section - 1) n (stride (sizes_of t)) s (omega arith) refl f u vs i j hj hv eu in
      let e = set_when (rows (stride (sizes_of t)) n f (section t domains_section)) i (f (sets (domain_part t i) j vs)) x (λ h. ex (rw length-rows at h)) in
      only-left t u domains_section (with_domains (view t) (set (view t).domains i x)) s q.0 (ap (with_domains (view t)) (q.1 ∙ e))

  pub head-stored : (h : DomainHead) → Left (stored t (domain_place t i) (head_words h)) (with_head (view t) i h)
  unfolding with_head
  head-stored h =
      let z : domain_place t i ≡ domain_place t i + 0 = omega arith in
      domain-stored (stored t (domain_place t i) (head_words h)) (head_words h) 0 (put_head (get_or (view t).domains i no_domain) h) (omega arith) (omega arith) (ap (λ (a : ℕ). stored t a (head_words h)) z)
      (λ q. rw (domain-at t i q) (put-head (sizes_of t).slots (domain_part t i) h (domain-long q)))

  -- w words for each domain, by the sizes z
  module _ (a : ℕ) (z : Sizes) (w : ℕ) (ez : z ≡ sizes_of t) (ew : w ≡ stride z) where
    wide : w ≡ stride (sizes_of t)
    wide = ew ∙ ap stride ez

    here : i < z.domains → i < (sizes_of t).domains
    here h = rw ez at h

    pub domain-inside : i < z.domains → a ≡ domain_place t i → a + w ≤ length t
    unfolding row_at
    domain-inside h ea =
        let e : domain_place t i ≡ offset (widths (sizes_of t)) domains_section + i * stride (sizes_of t) = rw (lt-ltb i (sizes_of t).domains (here h)) in
        omega (arith, wide, section-inside t domains_section s, mul-le-mul_right (stride (sizes_of t)) (here h))

    -- what comes back of the row that was lent to be cleared
    pub domain-cleared : (p : List ℕ) → i < z.domains → a ≡ domain_place t i → p ≡ zeros (length (take (a + w - a) (drop a t)))
        → Left (put_mid a (a + w - a) t p) (without_domain (view t) i)
    unfolding without_domain part view of_parts
    domain-cleared p h ea ep =
        let n = stride (sizes_of t) in
        let inside = domain-inside h ea in
        let b : a ≡ domain_place t i + 0 = omega arith in
        let lent : length (take (a + w - a) (drop a t)) ≡ n = length_part t a (a + w - a) (omega arith) ∙ omega (arith, wide) in
        let q : p ≡ zeros n = ep ∙ ap zeros lent in
        let long : length p ≡ n = ap length q ∙ length-replicate n 0 in
        let u : put_mid a (a + w - a) t p ≡ stored t (domain_place t i + 0) p =
        lent_back t p a (a + w - a) n (omega (arith, wide)) long (omega (arith, wide)) ∙ sym (stored-in t a p (omega (arith, wide))) ∙ rw b in
        domain-stored (put_mid a (a + w - a) t p) p 0 (empty_domain (sizes_of t)) (omega arith) (omega arith) u
        (λ k. ap (domain_of (sizes_of t).slots) (sets-all p (domain_part t i) (domain-long k ∙ sym long) ∙ q) ∙ domain-zeros (sizes_of t))

    pub no-domain-cleared : z.domains ≤ i → Left t (without_domain (view t) i)
    unfolding without_domain with_domains view of_parts
    no-domain-cleared h =
        let e : set (view t).domains i (empty_domain (sizes_of t)) ≡ (view t).domains = set_out (view t).domains i _ (rw length-rows (rw ez at h)) in
        record { seen = sym (ap (with_domains (view t)) e); sized = s }
