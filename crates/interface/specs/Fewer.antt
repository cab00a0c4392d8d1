-- Tables that differ by bits of domains' words alone (document 02, request 2): what `fewer-bits` speaks of.
use Rattle.std.specs.Prelude.{◌≡◌, ℕ, T, length}
use Rattle.std.proofs.Math.Option.{Option, none, some}
use Rattle.rights.specs.Rights.{contains}
use Rattle.model.specs.Lists.{at_slot}
use Rattle.model.specs.State.{Domain, with_interface, State}

-- A slot with fewer bits: free as before, or the same domain whose word may lack bits. Its freeze is the same.
pub data FewerDomain : Option Domain → Option Domain → Type 0 where
  free : FewerDomain none none
  used : (x : Domain) (word : ℕ) → T (contains x.interface.word word) → FewerDomain (some x) (some (with_interface (record { word = word; frozen = x.interface.frozen }) x))

-- s' is s but that words of domains' interfaces may lack bits: "tables otherwise the same". Of any number of domains at once; neither need be sound.
pub record Fewer (s s' : State) : Type 0 where
  pub sizes : s'.sizes ≡ s.sizes
  pub domain_pool : s'.domain_pool ≡ s.domain_pool
  pub region_pool : s'.region_pool ≡ s.region_pool
  pub record_pool : s'.record_pool ≡ s.record_pool
  pub regions : s'.regions ≡ s.regions
  pub queue : s'.queue ≡ s.queue
  pub domains_length : length s'.domains ≡ length s.domains
  pub domains : (d : ℕ) → FewerDomain (at_slot s.domains d) (at_slot s'.domains d)
