-- The later steps of a call as one step, after the checks: what the code has a function for. Each call is its checks and then its part.
use Rattle.std.specs.Prelude.{◌≡◌, refl, ℕ}
use Rattle.tables.specs.declared.Handle.{Handle}
use Rattle.tables.specs.Kinds.{MANAGEMENT}
use Rattle.tables.specs.Tables.{Tables}
use Rattle.answers.specs.Answers.{Effect, done, and_then}
use Rattle.tables.specs.Links.{link_to}
use Rattle.domain.specs.Activate.{reserve, insert}
use Rattle.new_domain.specs.Opened.{new_domain}
use Rattle.checks.specs.Checks.{live_domain, capa_of}
use Rattle.domain_calls.specs.Calls.{open_under}

-- domain m gets a Management capability for domain i, which is the answer
unfoldable pub managed : ℕ → ℕ → Tables → Effect
managed m i s = and_then (reserve m s) (λ v s₁. and_then (insert m (capa_of MANAGEMENT s₁.domain_pool i) s₁) (λ l. done i))

pub open-under-is : (h : Handle) (cores : ℕ) (s : Tables) → open_under h cores s ≡ and_then (live_domain h s) (λ m s₁. and_then (new_domain (link_to m) cores s₁) (managed m))
unfolding open_under managed
open-under-is h cores s = refl
