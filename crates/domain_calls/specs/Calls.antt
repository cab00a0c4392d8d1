-- Domains and channels on the tables, each call as the model has it, check by check.
use Rattle.std.specs.Prelude.{ℕ}
use Rattle.tables.specs.declared.Handle.{Handle}
use Rattle.tables.specs.declared.DomainHead.{DomainHead}
use Rattle.tables.specs.Kinds.{MANAGEMENT, CHANNEL}
use Rattle.tables.specs.Tables.{Tables, head_at, with_head}
use Rattle.answers.specs.Answers.{Effect, done, and_then}
use Rattle.tables.specs.Links.{link_to}
use Rattle.domain.specs.Activate.{reserve, insert}
use Rattle.new_domain.specs.Opened.{new_domain}
use Rattle.checks.specs.Checks.{live_domain, capa_of}

-- a domain without a manager; the answer is its slot
unfoldable pub open_domain : ℕ → Tables → Effect
open_domain cores s = new_domain 0 cores s

-- a domain under a manager, which gets a Management capability
unfoldable pub open_under : Handle → ℕ → Tables → Effect
open_under h cores s =
    and_then (live_domain h s) (λ m s₁.
    and_then (new_domain (link_to m) cores s₁) (λ i s₂.
    and_then (reserve m s₂) (λ v s₃.
    and_then (insert m (capa_of MANAGEMENT s₃.domain_pool i) s₃) (λ l. done i))))

-- a Channel capability to a domain; the answer, here and below, is the local slot
unfoldable pub open_channel : Handle → Handle → Tables → Effect
open_channel h to s =
    and_then (live_domain h s) (λ d s₁.
    and_then (live_domain to s₁) (λ e s₂.
    and_then (reserve d s₂) (λ v. insert d (record { kind = CHANNEL; handle = to }))))

abbrev with_cores : DomainHead → ℕ → DomainHead
with_cores h cores = record { manager = h.manager; cores = cores; tracker = h.tracker; head = h.head; count = h.count }

unfoldable pub set_core_map : Handle → ℕ → Tables → Effect
set_core_map h cores s = and_then (live_domain h s) (λ d s₁. done 0 (with_head s₁ d (with_cores (head_at s₁ d) cores)))
