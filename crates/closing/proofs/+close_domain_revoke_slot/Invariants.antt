-- Closing from here is the whole from the start. `waiting` falls with each domain that is closed in turn, so the recursion ends.
use Rattle.std.proofs.Common.{◌≡◌, ◌+◌, ◌-◌, ◌*◌}
use Rattle.tables.specs.View.{view, Sized}
use Rattle.closing.specs.Close.{close_from, close_domain, revoke_slot}
use Rattle.closing.proofs.+close_domain_revoke_slot.Given as goal

abbrev pub decreases-close_domain : goal.decreases-close_domain
decreases-close_domain l = l.waiting * 2

abbrev pub decreases-revoke_slot : goal.decreases-revoke_slot
decreases-revoke_slot l = l.waiting * 2 + 1

abbrev pub invariant-close_domain-loop-j : goal.invariant-close_domain-loop-j
invariant-close_domain-loop-j l = Sized l.t × (close_from (revoke_slot (l.waiting - 1) l.now_closing l.d) (l.n - l.j) l.d l.j (view l.t) ≡ close_domain l.waiting l.closing l.d (view l.initial.t))
