-- A law: the test of the domains' interfaces (document 02, request 2) is exact. It holds exactly where the clauses of `WellFormed` about them do.
use Rattle.std.specs.Prelude.{◌≡◌, ◌↔◌, Bool, false, ℕ, ◌<◌, eqb}
use Rattle.std.proofs.Common.{sym, ◌∙◌, arith, eqb-true, leb-true, le-leb}
use Rattle.std.proofs.Math.Path.{ap}
use Rattle.std.proofs.Math.Bool.{true}
use Rattle.base.specs.Cases.{holds, fails, test}
use Rattle.base.specs.Tests.{both_true, all-at, at_all}
use Rattle.tables.specs.declared.Interface.{Interface}
use Rattle.tables.specs.Tables.{Tables, no_interface, interface_at}
use Rattle.arena.specs.Arena.{is_free_b}
use Rattle.decoded.specs.Decode.Read.{taken}
use Rattle.decoded.specs.Canonical.WellFormed.{InterfaceWellFormed, interface_row}
use Rattle.decoded.specs.Canonical.Pools.{taken-used, not_taken}
use Rattle.sound_interfaces.specs.Interfaces.{interface_fits, row_holds, interfaces_hold}

-- what `WellFormed` says of the interfaces
pub record InterfaceClauses (v : Tables) : Type 0 where
  pub interfaces_used : (i : ℕ) → i < v.sizes.domains → taken v.domain_pool i ≡ true → InterfaceWellFormed (interface_row v i)
  pub interfaces_free : (i : ℕ) → i < v.sizes.domains → taken v.domain_pool i ≡ false → interface_row v i ≡ no_interface

-- ---- one row

-- of a domain in use
fits-well-formed : (x : Interface) → interface_fits false x ≡ true → InterfaceWellFormed x
unfolding interface_fits
fits-well-formed x h = leb-true x.frozen 1 h

well-formed-fits : (x : Interface) → InterfaceWellFormed x → interface_fits false x ≡ true
unfolding interface_fits
well-formed-fits x h = le-leb x.frozen 1 h

-- of a free slot
fits-zero : (x : Interface) → interface_fits true x ≡ true → x ≡ no_interface
unfolding interface_fits
fits-zero x h =
    let p = both_true (eqb x.word 0) _ h in
    λ i. record { word = eqb-true x.word 0 p.0 i; frozen = eqb-true x.frozen 0 p.1 i }

zero-fits : (x : Interface) → x ≡ no_interface → interface_fits true x ≡ true
unfolding interface_fits
zero-fits x e = ap (interface_fits true) e

-- ---- all rows

-- what the test asks of slot i
abbrev holds_at : Tables → ℕ → Bool
holds_at v i = row_holds v.domain_pool.links (interface_at v) i

module _ (v : Tables) where
  hold-clauses : interfaces_hold v ≡ true → InterfaceClauses v
  unfolding interfaces_hold row_holds interface_at is_free_b
  hold-clauses h =
      let at : (i : ℕ) → i < v.sizes.domains → holds_at v i ≡ true = λ i b. all-at (holds_at v) 0 v.sizes.domains h i (omega arith) (omega arith) in
      record {
        interfaces_used = λ i b t. fits-well-formed (interface_row v i) (ap (λ f. interface_fits f (interface_row v i)) (sym (taken-used v.domain_pool i t)) ∙ at i b);
        interfaces_free = λ i b t. fits-zero (interface_row v i) (ap (λ f. interface_fits f (interface_row v i)) (sym (not_taken v.domain_pool i t)) ∙ at i b);
      }

  clauses-hold : InterfaceClauses v → interfaces_hold v ≡ true
  unfolding interfaces_hold row_holds interface_at is_free_b
  clauses-hold c = at_all (holds_at v) 0 v.sizes.domains (λ i a b. elim (test (taken v.domain_pool i)) [
    | holds t ↦ ap (λ f. interface_fits f (interface_row v i)) (taken-used v.domain_pool i t) ∙ well-formed-fits (interface_row v i) (c.interfaces_used i (omega arith) t)
    | fails t ↦ ap (λ f. interface_fits f (interface_row v i)) (not_taken v.domain_pool i t) ∙ zero-fits (interface_row v i) (c.interfaces_free i (omega arith) t)
  ])

  pub interfaces-exact : (interfaces_hold v ≡ true) ↔ InterfaceClauses v
  interfaces-exact = (hold-clauses, clauses-hold)
