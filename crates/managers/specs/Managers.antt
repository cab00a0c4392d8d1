-- A domain's link to its manager in the section of domains, and the way up from a link.
use Rattle.std.specs.Prelude.{◌≡◌, ltb}
use Rattle.std.proofs.Math.Path.{refl, sym, ap}
use Rattle.std.proofs.Common.{◌∙◌, mul-le-mul, lt-ltb, le-ltb, get_or-take}
use mathlib.Core.List.{List}
use Prim.Native.Nat.{ℕ, zero, suc, ◌+◌, ◌-◌, ◌*◌, ◌≤◌, ◌<◌}
use native.Mathlib.Omega.{arith}
use Rattle.std.proofs.Math.ListN.{get_or, get_or-eq_default}
use Rattle.base.specs.Cases.{pick, pick-t, pick-f, cmp, lt, ge}
use Rattle.words.specs.Runs.{part, part_at, fetched}
use Rattle.words.specs.Rows.{length-rows, get_d_rows}
use Rattle.words.specs.Cuts.{offset}
use Rattle.sizes.specs.declared.Sizes.{Sizes}
use Rattle.sizes.specs.Limits.{Limits, most_domains, most_slots}
use Rattle.sizes.specs.Sizes.{sizes_of, widths, stride, head_width, slot_width, domains_section}
use Rattle.tables.specs.Tables.{Tables, Domain, no_domain, head_at}
use Rattle.tables.specs.View.{view, of_parts, Sized, domain_of}
use Rattle.tables.specs.Sections.{section}
use Rattle.sections.specs.Sections.{section-run}

abbrev pub manager_of : Tables → ℕ → ℕ
manager_of v i = (head_at v i).manager

-- the first word of domain i
unfoldable pub manager_in : Sizes → List ℕ → ℕ → ℕ
manager_in z p i = pick (ltb i z.domains) (get_or p (i * stride z) 0) 0

pub place-fits : (z : Sizes) (i w : ℕ) → Limits z → i ≤ z.domains → w ≡ stride z → i * w ≤ most_domains * (head_width + most_slots * slot_width)
place-fits z i w l h e =
    let a : i ≤ most_domains = omega (arith, l.domains-high) in
    let b : w ≤ head_width + most_slots * slot_width = omega (arith, l.slots-high) in
    mul-le-mul a b

module _ (t : List ℕ) where
  manager-at : (i : ℕ) → manager_in (sizes_of t) (section t domains_section) i ≡ manager_of (view t) i
  unfolding manager_in head_at view of_parts domain_of
  manager-at i =
      let n = (sizes_of t).domains in
      let w = stride (sizes_of t) in
      let p = section t domains_section in
      let e : i * w + 0 ≡ i * w = omega arith in
      elim (cmp i n) [
        | lt h ↦
            pick-t (ltb i n) (get_or p (i * w) 0) 0 (lt-ltb i n h)
            ∙ ap (λ k. get_or p k 0) (sym e)
            ∙ sym (get_or-take 5 (part p (i * w) w) 0 0 (omega arith) ∙ part_at p (i * w) w 0 (omega arith))
            ∙ sym (ap (λ (x : Domain). x.head.manager) (get_d_rows w n (domain_of (sizes_of t).slots) p i no_domain h))
        | ge h ↦ pick-f (ltb i n) (get_or p (i * w) 0) 0 (le-ltb i n h) ∙ sym (ap (λ (x : Domain). x.head.manager) (get_or-eq_default (view t).domains no_domain {n = i} (rw length-rows h)))
      ]

  pub managers-lent : (p : List ℕ) (z : Sizes) (a w : ℕ) → Sized t → z ≡ sizes_of t → a ≡ offset (widths z) domains_section → w ≡ stride z → p ≡ fetched t a (z.domains * w) → manager_in (view t).sizes p ≡ manager_of (view t)
  unfolding view of_parts
  managers-lent p z a w s ez ea ew ep =
      let e : p ≡ section t domains_section = ep ∙ section-run t domains_section a (z.domains * w) s (rw ez at ea) (rw (ew, ez)) in
      λ j i. (ap (λ (x : List ℕ). manager_in (sizes_of t) x i) e ∙ manager-at i) j

-- ---- the way up

-- the manager's link of the domain that a link names
unfoldable pub above : (ℕ → ℕ) → ℕ → ℕ
above manager l = pick (ltb 0 l) (manager (l - 1)) 0

-- n steps up from a link
unfoldable pub climbed : (ℕ → ℕ) → ℕ → ℕ → ℕ
climbed manager zero l = l
climbed manager (suc n) l = climbed manager n (above manager l)

module _ (f : ℕ → ℕ) where
  pub climb-none : (n : ℕ) → climbed f n 0 ≡ 0
  unfolding climbed above
  climb-none zero = refl
  climb-none (suc n) = climb-none n

  pub climb-start : (n l : ℕ) → climbed f n l ≡ climbed f (n - 0) l
  climb-start n l = let e : n ≡ n - 0 = omega arith in ap (λ k. climbed f k l) e

  pub climb-step : (n i l : ℕ) → i < n → climbed f (n - i) l ≡ climbed f (n - (i + 1)) (above f l)
  unfolding climbed
  climb-step n i l h = let e : n - i ≡ suc (n - (i + 1)) = omega arith in ap (λ k. climbed f k l) e

  pub climb-end : (n i l : ℕ) → n ≤ i → climbed f (n - i) l ≡ l
  unfolding climbed
  climb-end n i l h = let e : n - i ≡ 0 = omega arith in ap (λ k. climbed f k l) e
