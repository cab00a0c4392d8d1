-- A domain without records is freed: its row and its interface are all zero again, and its slot's generation is one more.
use Rattle.std.specs.Prelude.{◌≡◌, ℕ, [], length, set}
use Rattle.std.proofs.Common.{ap, ◌∙◌, arith}
use Rattle.std.proofs.Math.Option.{none}
use Rattle.model.specs.Lists.{one_if, is_some, In}
use Rattle.model.specs.Outcome.{ok, ◌>>=◌}
use Rattle.model.specs.State as state
use Rattle.model.specs.State.{State}
use Rattle.model.specs.Pool.{free}
use Rattle.model.specs.Closing.{free_domain}
use Rattle.model.specs.Sound.{PoolSound, slot_uses}
use Rattle.laws.specs.Tree.Slots.{in-length}
use Rattle.tables.specs.Tables.{no_interface, with_domain_pool, without_domain, with_interface}
use Rattle.pools.specs.Wiping.{slot_freed}
use Rattle.closing.specs.Close.{freed_domain}
use Rattle.decoded.specs.Tables.{tables_of}
use Rattle.refine.specs.Agrees.{Agrees, agrees-call, ok-then, bind_assoc, bind-same}
use Rattle.refine.specs.Arenas.PoolSlots.{domain-freed, wiped-refines}

module _ (s : State) (long : length s.domains ≡ s.sizes.domains) (sound : PoolSound s.sizes.domains (slot_uses s.domains) s.domain_pool) (d : ℕ) (x : state.Domain) (at : In s.domains d x) (idle : x.tracker ≡ []) where
  model-frees : ◌>>=◌ {B = ℕ × State} (free_domain d s) (λ t. ok (0, t)) ≡ (free d s.domain_pool >>= λ q. ok (0, state.with_domains q (set s.domains d none) s))
  unfolding free_domain
  model-frees = bind_assoc _ _ _ ∙ bind-same _ _ _ (λ q. ok-then _ _)

  pub free-domain-refines : Agrees (freed_domain d (tables_of s)) (free_domain d s >>= λ t. ok (0, t))
  unfolding freed_domain slot_freed tables_of
  free-domain-refines =
      agrees-call _ _ _ model-frees
      (wiped-refines s.sizes.domains (slot_uses s.domains) s.domain_pool sound d (omega (arith, in-length s.domains d x at, long)) (ap (λ o. one_if (is_some o)) at) (tables_of s)
      (λ a. with_interface (without_domain (with_domain_pool (tables_of s) a) d) d no_interface) _ (domain-freed s long d x at idle))
