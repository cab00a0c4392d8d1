-- A domain of the tables; its sizes are read from the words.
use Rattle.std.specs.Prelude.{◌≡◌, List, ℕ, ◌≤◌, ◌<◌, get_or}
use Rattle.std.proofs.Math.Path.{sym}
use Rattle.std.proofs.Common.{ap}
use native.Mathlib.Omega.{arith}
use Rattle.std.proofs.Math.ListN.{set}
use Rattle.std.proofs.Math.Seq.{set_out}
use Rattle.words.specs.Rows.{length-rows}
use Rattle.sizes.specs.Sizes.{sizes_of}
use Rattle.tables.specs.Tables.{with_domains}
use Rattle.tables.specs.View.{view, of_parts, Sized, Left}
use Rattle.slot_list.specs.declared.SlotList.{SlotList}
use Rattle.slot_list.specs.Lists.{no_list}
use Rattle.stored_slots.specs.Record.{domain_or, list_of, put_list, list_at, with_list}
use Rattle.stored_slots.specs.Rows.{no-domain}

module _ (t : List ℕ) (d n : ℕ) (en : n ≡ get_or t 0 0) where
  pub domain-there : d < n → d < (sizes_of t).domains
  unfolding sizes_of
  domain-there h = omega arith

  pub no-list : n ≤ d → no_list ≡ list_at (view t) d
  unfolding list_at list_of sizes_of
  no-list h = rw (no-domain t d (omega arith))

  pub not-stored : (l : SlotList) → Sized t → n ≤ d → Left t (with_list (view t) d l)
  unfolding with_list with_domains view of_parts sizes_of
  not-stored l s h =
      let e : set (view t).domains d (put_list (domain_or (view t) d) l) ≡ (view t).domains = set_out (view t).domains d _ (rw length-rows (omega arith)) in
      record { seen = sym (ap (with_domains (view t)) e); sized = s }
