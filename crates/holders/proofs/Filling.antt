-- The run and the number while the domains are gone through.
use mathlib.Core.Path.{◌≡◌, refl, sym, ap, ◌∙◌}
use mathlib.Core.Bool.{true, false}
use mathlib.Core.List.{List, ◌∷◌}
use Prim.Native.Nat.{ℕ, suc, ◌+◌, ◌-◌, ◌≤◌, ◌<◌}
use native.Mathlib.Numerals.{add-one}
use native.Mathlib.Omega.{arith}
use lib.ListN.{length, get_or, set}
use Rattle.tables.specs.Tables.{Tables}
use Rattle.sizes.specs.Sizes.{sizes_of}
use Rattle.tables.specs.View.{view, of_parts}
use Rattle.readings.specs.Readings.{fill_run}
use Rattle.readings.proofs.Runs.{fill_from, fill_none, fill-put}
use Rattle.holders.specs.Holders.{is_holder, holders_from, holders_of}

-- the run and the number, once m domains from slot d on are done
pub record Filling (s : Tables) (a m n d : ℕ) (run : List ℕ) (m₀ : ℕ) (run₀ : List ℕ) : Type 0 where
  pub seen : n + length (holders_from m s a d) ≡ length (holders_from m₀ s a 0)
  pub filled : fill_from n (holders_from m s a d) run ≡ fill_run (holders_from m₀ s a 0) run₀

pub filling-start : (s : Tables) (a m : ℕ) (run : List ℕ) → Filling s a m 0 0 run m run
filling-start s a m run = record { seen = omega arith; filled = refl }

pub filling-end : (s : Tables) (a m n d : ℕ) (run : List ℕ) (m₀ : ℕ) (run₀ : List ℕ) → m ≤ 0 → Filling s a m n d run m₀ run₀
    → (n ≡ length (holders_from m₀ s a 0)) × (run ≡ fill_run (holders_from m₀ s a 0) run₀)
unfolding holders_from
filling-end s a m n d run m₀ run₀ h f =
    let e : m ≡ 0 = omega arith in
    let f₀ : Filling s a 0 n d run m₀ run₀ = rw e at f in
    (omega (arith, f₀.seen), sym (fill_none n run) ∙ f₀.filled)

module _ (s : Tables) (a m n d : ℕ) (run : List ℕ) (m₀ : ℕ) (run₀ : List ℕ) (h : 0 < m) (f : Filling s a m n d run m₀ run₀) where
  next : Filling s a (suc (m - 1)) n d run m₀ run₀
  next = let e : m ≡ suc (m - 1) = omega arith in rw e at f

  pub filling-one : is_holder s a d ≡ true → Filling s a (m - 1) (n + 1) (d + 1) (set run n d) m₀ run₀
  unfolding holders_from
  filling-one b =
      let g : Filling s a (suc (m - 1)) n d run m₀ run₀ = next in
      let e : holders_from (suc (m - 1)) s a d ≡ d ∷ holders_from (m - 1) s a (suc d) = rw b in
      rw (add-one, add-one) (record { seen = omega (arith, g.seen, ap length e); filled = fill-put n d (holders_from (m - 1) s a (suc d)) run ∙ ap (λ l. fill_from n l run) (sym e) ∙ g.filled })

  pub filling-other : is_holder s a d ≡ false → Filling s a (m - 1) n (d + 1) run m₀ run₀
  unfolding holders_from
  filling-other b =
      let g : Filling s a (suc (m - 1)) n d run m₀ run₀ = next in
      let e : holders_from (suc (m - 1)) s a d ≡ holders_from (m - 1) s a (suc d) = rw b in
      rw add-one (record { seen = ap (λ l. n + length l) (sym e) ∙ g.seen; filled = ap (λ l. fill_from n l run) (sym e) ∙ g.filled })

-- the number of domains as it is read from the words
pub holders-start : (t : List ℕ) (a n : ℕ) → n ≡ get_or t 0 0 → holders_from n (view t) a 0 ≡ holders_of (view t) a
unfolding holders_of view of_parts sizes_of
holders-start t a n e = rw e
