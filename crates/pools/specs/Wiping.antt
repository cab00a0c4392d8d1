-- Freeing a slot also makes the words of its record 0, and those of a region's hash or a domain's interface.
use Rattle.std.specs.Prelude.{◌≡◌, refl, Bool, true, List, ℕ, Ok, Err}
use Rattle.std.proofs.Math.Path.{sym, ap}
use Rattle.std.proofs.Common.{◌∙◌}
use Rattle.std.proofs.Math.Bool.{false}
use Rattle.base.specs.Cases.{pick}
use Rattle.base.specs.Tests.{both}
use Rattle.tables.specs.Tables.{Tables, no_region, no_record, no_hash, no_interface, with_domain_pool, with_region_pool, with_record_pool, with_region, with_record, with_hash, with_interface, without_domain}
use Rattle.tables.specs.View.{view, Left}
use Rattle.refusals.specs.Refusals.{memory, spent}
use Rattle.arena.specs.Arena.{Freed, held_b, raisable_b, answer_to, frees_b, freed}
use Rattle.pools.specs.declared.Pool.{Pool}
use Rattle.pools.specs.declared.Pool.TheVariants.{Domains, Regions, Records}
use Rattle.pools.specs.Pools.{pool_of, with_pool}

abbrev pub wiped : Tables → Pool → ℕ → Tables
wiped s Domains i = with_interface (without_domain s i) i no_interface
wiped s Regions i = with_hash (with_region s i no_region) i no_hash
wiped s Records i = with_record s i no_record

-- slot i of pool q is freed, and its record wiped, where it can be
unfoldable pub slot_freed : Tables → Pool → ℕ → Tables
slot_freed s q i = pick (frees_b (pool_of s q) i) (wiped (with_pool s q (freed (pool_of s q) i)) q i) s

abbrev pub is_done : Freed → Bool
is_done (Ok u) = true
is_done (Err r) = false

done-tests : (b c : Bool) → is_done (pick b (pick c (Ok tt) (Err spent)) (Err memory)) ≡ both b c
done-tests true true = refl
done-tests true false = refl
done-tests false c = refl

pool-same : (s : Tables) (q : Pool) → with_pool s q (pool_of s q) ≡ s
unfolding with_domain_pool with_region_pool with_record_pool
pool-same s Domains = refl
pool-same s Regions = refl
pool-same s Records = refl

-- t has the pool as the answer f leaves it
module _ (s : Tables) (q : Pool) (i : ℕ) (t : List ℕ) (f : Freed) (e : f ≡ answer_to (pool_of s q) i)
    (l : Left t (with_pool s q (freed (pool_of s q) i)))
  where
    frees : is_done f ≡ frees_b (pool_of s q) i
    unfolding answer_to frees_b
    frees = ap is_done e ∙ done-tests (held_b (pool_of s q) i) (raisable_b (pool_of s q) i)

    pub slot-freed : (u : List ℕ) → is_done f ≡ true → Left u (wiped (view t) q i) → Left u (slot_freed s q i)
    unfolding slot_freed
    slot-freed u d w = rw (sym frees ∙ d, ← l.seen) w

    pub slot_kept : is_done f ≡ false → Left t (slot_freed s q i)
    unfolding slot_freed freed
    slot_kept d = let no : frees_b (pool_of s q) i ≡ false = sym frees ∙ d in rw no (rw (no, pool-same s q) at l)
