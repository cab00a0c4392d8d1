-- Domains closed (document 02, request 5), while the domains in `closing` are closing.
use Rattle.std.specs.Prelude.{ℕ, zero, suc, ◌+◌, eqb}
use Rattle.base.specs.Cases.{pick}
use Rattle.tables.specs.declared.Handle.{Handle}
use Rattle.tables.specs.Kinds.{REGION, REGION_REVOKE, MANAGEMENT}
use Rattle.tables.specs.Tables.{Tables}
use Rattle.arena.specs.Arena.{answer_to, live_b}
use Rattle.pools.specs.declared.Pool.TheVariants as pool
use Rattle.pools.specs.Wiping.{slot_freed}
use Rattle.refusals.specs.Refusals.{memory}
use Rattle.answers.specs.Answers.{Effect, done, refused, and_then}
use Rattle.tracker_records.specs.Links.{freed_answer}
use Rattle.slots.specs.Capas.{capa_at}
use Rattle.closing_set.specs.Closing.{with_closing}
use Rattle.revocation.specs.Revoke.{revoke}

-- the region with all below it, if it is alive (the model's revoke_live)
unfoldable pub revoke_live : ℕ → Handle → Tables → Effect
revoke_live closing h s = pick (live_b s.region_pool h) (revoke closing h.slot s) (done 0 s)

-- domain d leaves its slot, and its record is wiped (the model's free_domain)
unfoldable pub freed_domain : ℕ → Tables → Effect
freed_domain d s = record { answer = freed_answer (answer_to s.domain_pool d); tables = slot_freed s pool.Domains d }

-- slot j of domain d; `close` closes a further domain (the model's revoke_slot)
unfoldable pub slot_by : (ℕ → Tables → Effect) → ℕ → ℕ → ℕ → Tables → Effect
slot_by close closing d j s =
    let x = capa_at s d j in
    pick (eqb x.kind REGION) (revoke_live closing x.handle s)
    (pick (eqb x.kind REGION_REVOKE) (revoke_live closing x.handle s)
    (pick (eqb x.kind MANAGEMENT) (pick (live_b s.domain_pool x.handle) (close x.handle.slot s) (done 0 s)) (done 0 s)))

-- k slots from j on, each by f, and then the domain (the model's revoke_slots and free_domain)
unfoldable pub close_from : (ℕ → Tables → Effect) → ℕ → ℕ → ℕ → Tables → Effect
close_from f zero d j s = freed_domain d s
close_from f (suc k) d j s = and_then (f j s) (λ v. close_from f k d (j + 1))

-- n bounds the depth: it falls by one with each domain whose turn begins inside another's (the model's close_domain)
unfoldable pub close_domain : ℕ → ℕ → ℕ → Tables → Effect
close_domain zero closing d s = refused memory s
close_domain (suc n) closing d s = let c = with_closing closing d in close_from (slot_by (close_domain n c) c d) s.sizes.slots d 0 s

abbrev pub revoke_slot : ℕ → ℕ → ℕ → ℕ → Tables → Effect
revoke_slot n closing d j s = slot_by (close_domain n closing) closing d j s

-- as many as there are live domains
unfoldable pub close : ℕ → Tables → Effect
close d s = close_domain s.domain_pool.count 0 d s
