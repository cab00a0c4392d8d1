-- The lines of the domains: those that the code finds in its run of numbers are the model's, and they are printed in order.
use Rattle.std.specs.Prelude.{◌≡◌, refl, length, get_or, take}
use Rattle.std.proofs.Common.{sym, ◌∙◌, drop-cons, drop-drop, take-take}
use Rattle.std.proofs.Math.Path.{ap}
use Prim.Native.Nat.{ℕ, zero, suc, ◌+◌, ◌-◌, ◌*◌, ◌≤◌, ◌<◌}
use Rattle.std.proofs.Math.Option.{Option, none, some}
use mathlib.Core.List.{List, [], ◌∷◌, ◌++◌, map, append_assoc}
use native.Mathlib.Omega.{arith}
use Rattle.std.proofs.Math.ListN.{drop}
use Rattle.words.specs.Rows.{flat}
use Rattle.model.specs.Lists.{at_slot}
use Rattle.model.specs.State.{State, Sizes, Domain, Record}
use Rattle.tables.specs.Tables.{Tables}
use Rattle.tables.specs.View.{view}
use Rattle.readings.specs.Readings.{fill_run}
use Rattle.decoded.specs.Words.{view-words}
use Rattle.decoded.specs.Tables.{tables_of}
use Rattle.listing.specs.Lines.{record_line, slot_lines, numbers, lines_from, domain_lines}
use Rattle.listing.specs.Listed.{line_of, listed_of}
use Rattle.listing.specs.Rising.{lines-first, lines_next, lines-last}
use Rattle.listing.specs.Room.{listed-short, lines-front}
use Rattle.exact_listing.specs.Law.{lines_are, lines-counted}
use Rattle.output.specs.declared.Pending.{Pending}
use Rattle.output.specs.Text.{domain_line, numbers_at}
use Rattle.output.specs.Printed.{Prints}
use Rattle.output.specs.Printing.{prints-same, Rest, rest_more, rest-none}
use Rattle.script_text.specs.ScriptText.{domain_text}
use Rattle.script_text.proofs.Hand.{drop-take}
use Rattle.script_text.specs.Domains.{Holds}

text-append : (l m : List (List ℕ)) → domain_text (l ++ m) ≡ domain_text l ++ domain_text m
unfolding domain_text
text-append [] m = refl
text-append (x ∷ l) m = ap (λ (r : List ℕ). domain_line x ++ r) (text-append l m) ∙ sym (append_assoc (domain_line x) (domain_text l) (domain_text m))

-- ---- n lines at the front of a run

unfoldable pub lines_in : ℕ → List ℕ → List (List ℕ)
lines_in zero l = []
lines_in (suc n) l = take 5 l ∷ lines_in n (drop 5 l)

-- in the run
numbers-in : (run : List ℕ) (at n : ℕ) → at + n ≤ length run → numbers_at run at n ≡ take n (drop at run)
unfolding numbers_at
numbers-in run at zero h = refl
numbers-in run at (suc n) h = ap (λ (l : List ℕ). get_or run at 0 ∷ l) (numbers-in run (suc at) n (omega arith)) ∙ sym (ap (take (suc n)) (drop-cons run at 0 (omega arith)))

-- the first i of n lines are passed
module _ (run : List ℕ) (n : ℕ) (fits : 5 * n ≤ length run) where
  line-next : (i : ℕ) → i < n → domain_text (lines_in (n - i) (drop (5 * i) run)) ≡ domain_line (numbers_at run (5 * i) 5) ++ domain_text (lines_in (n - (i + 1)) (drop (5 * (i + 1)) run))
  unfolding lines_in domain_text
  line-next i u =
      let p : n - i ≡ suc (n - (i + 1)) = omega arith in
      let q : 5 * i + 5 ≡ 5 * (i + 1) = omega arith in
      ap (λ (j : ℕ). domain_text (lines_in j (drop (5 * i) run))) p
      ∙ ap (λ (l : List ℕ). domain_line l ++ domain_text (lines_in (n - (i + 1)) (drop 5 (drop (5 * i) run)))) (sym (numbers-in run (5 * i) 5 (omega arith)))
      ∙ ap (λ (l : List ℕ). domain_line (numbers_at run (5 * i) 5) ++ domain_text (lines_in (n - (i + 1)) l)) (drop-drop 5 (5 * i) run ∙ ap (λ (j : ℕ). drop j run) q)

  module _ {t : List ℕ} {p : Pending} {t₁ : List ℕ} {q : Pending} {i : ℕ} (h : Rest t p (domain_text (lines_in n run)) t₁ q (domain_text (lines_in (n - i) (drop (5 * i) run)))) where
    pub line-printed : {t₂ : List ℕ} {q₂ : Pending} → i < n → Prints t₁ q (domain_line (numbers_at run (5 * i) 5)) t₂ q₂ → Rest t p (domain_text (lines_in n run)) t₂ q₂ (domain_text (lines_in (n - (i + 1)) (drop (5 * (i + 1)) run)))
    line-printed u k = rest_more (line-next i u) h k

    pub lines-printed : n ≤ i → Prints t p (domain_text (lines_in n run)) t₁ q
    unfolding lines_in domain_text
    lines-printed u = let z : n - i ≡ 0 = omega arith in rest-none (ap (λ (j : ℕ). domain_text (lines_in j (drop (5 * i) run))) z) h

pub lines-begun : (run : List ℕ) (n : ℕ) {t : List ℕ} {p : Pending} → Rest t p (domain_text (lines_in n run)) t p (domain_text (lines_in (n - 0) (drop (5 * 0) run)))
lines-begun run n t₂ r h = let e : n - 0 ≡ n = omega arith in prints-same (ap (λ (j : ℕ). domain_text (lines_in j run)) e) h

-- ---- they are a domain's

-- five numbers to a line
records-read : (d : ℕ) (l : List Record) → lines_in (length (map (record_line d) l)) (numbers (map (record_line d) l)) ≡ map (record_line d) l
unfolding lines_in
records-read d [] = refl
records-read d (q ∷ l) = ap (λ (r : List (List ℕ)). record_line d q ∷ r) (records-read d l)

lines-read : (d : ℕ) (o : Option Domain) → lines_in (length (slot_lines d o)) (numbers (slot_lines d o)) ≡ slot_lines d o
unfolding lines_in
lines-read d none = refl
lines-read d (some x) = records-read d x.tracker

-- only the front counts
lines-take : (n : ℕ) (l : List ℕ) → lines_in n (take (5 * n) l) ≡ lines_in n l
unfolding lines_in
lines-take zero l = refl
lines-take (suc n) l =
    let e : 5 * suc n - 5 ≡ 5 * n = omega arith in
    ap (λ (x : List ℕ). x ∷ lines_in n (drop 5 (take (5 * suc n) l))) (take-take 5 (5 * suc n) l (omega arith))
    ∙ ap (λ (x : List ℕ). take 5 l ∷ lines_in n x) (drop-take 5 (5 * suc n) l ∙ ap (λ (j : ℕ). take j (drop 5 l)) e)
    ∙ ap (λ (x : List (List ℕ)). take 5 l ∷ x) (lines-take n (drop 5 l))

module _ (t : List ℕ) (s : State) (h : Holds t s) (d : ℕ) where
  seen : view t ≡ tables_of s
  seen = ap view h.tables ∙ view-words s h.sound

  most : (view t).sizes.records ≡ 128
  unfolding tables_of
  most = ap (λ (x : Tables). x.sizes.records) seen ∙ ap (λ (x : Sizes). x.records) h.sizes

  pub lines-few : length (listed_of (view t) d) ≤ 128
  lines-few = omega (arith, listed-short (view t) d, most)

  -- what `fill_lines` leaves in a run of 640 numbers
  pub lines-found : (run : List ℕ) → length run ≡ 640 → lines_in (length (listed_of (view t) d)) (fill_run (flat (line_of d) (listed_of (view t) d)) run) ≡ slot_lines d (at_slot s.domains d)
  lines-found run e =
      let n = length (listed_of (view t) d) in
      let f = flat (line_of d) (listed_of (view t) d) in
      let o = at_slot s.domains d in
      sym (lines-take n (fill_run f run))
      ∙ ap (lines_in n) (lines-front (view t) d run (omega (arith, most)))
      ∙ ap (λ (x : Tables). lines_in (length (listed_of x d)) (flat (line_of d) (listed_of x d))) seen
      ∙ ap (lines_in (length (listed_of (tables_of s) d))) (lines_are s h.sound d)
      ∙ ap (λ (j : ℕ). lines_in j (numbers (slot_lines d o))) (lines-counted s h.sound d)
      ∙ lines-read d o

  -- so those that are printed from the run are the domain's
  pub found-printed : (run₀ : List ℕ) {run : List ℕ} {n : ℕ} {a : List ℕ} {p : Pending} {b : List ℕ} {q : Pending} → length run₀ ≡ 640 → run ≡ fill_run (flat (line_of d) (listed_of (view t) d)) run₀ → length run ≡ 640 → n ≡ length (listed_of (view t) d)
      → (5 * n ≤ length run → Prints a p (domain_text (lines_in n run)) b q) → Prints a p (domain_text (slot_lines d (at_slot s.domains d))) b q
  found-printed run₀ {run} {n} l₀ e l m k =
      prints-same (ap (λ (j : ℕ). domain_text (lines_in j run)) m ∙ ap (λ (x : List ℕ). domain_text (lines_in (length (listed_of (view t) d)) x)) e ∙ ap domain_text (lines-found run₀ l₀))
      (k (omega (arith, l, m, lines-few)))

-- ---- domain after domain

module _ (t : List ℕ) (s : State) (h : Holds t s) where
  slots : length s.domains ≡ 8
  slots = h.sound.outside.domains_length ∙ ap (λ (x : Sizes). x.domains) h.sizes

  pub domains-begun : {a : List ℕ} {p : Pending} → Rest a p (domain_text (domain_lines s)) a p (domain_text (lines_from 0 (drop 0 s.domains)))
  domains-begun b r k = prints-same (sym (ap domain_text (lines-first s))) k

  module _ {a : List ℕ} {p : Pending} {b : List ℕ} {q : Pending} {d : ℕ} (g : Rest a p (domain_text (domain_lines s)) b q (domain_text (lines_from d (drop d s.domains)))) where
    pub domain-printed : {b₂ : List ℕ} {q₂ : Pending} → d < 8 → Prints b q (domain_text (slot_lines d (at_slot s.domains d))) b₂ q₂ → Rest a p (domain_text (domain_lines s)) b₂ q₂ (domain_text (lines_from (d + 1) (drop (d + 1) s.domains)))
    domain-printed u k =
        let e : suc d ≡ d + 1 = omega arith in
        rest_more (ap domain_text (lines_next s.domains d (omega (arith, slots))) ∙ text-append (slot_lines d (at_slot s.domains d)) (lines_from (suc d) (drop (suc d) s.domains))
        ∙ ap (λ (j : ℕ). domain_text (slot_lines d (at_slot s.domains d)) ++ domain_text (lines_from j (drop j s.domains))) e) g k

    pub domains-printed : 8 ≤ d → Prints a p (domain_text (domain_lines s)) b q
    unfolding domain_text
    domains-printed u = rest-none (ap domain_text (lines-last s.domains d (omega (arith, slots)))) g
