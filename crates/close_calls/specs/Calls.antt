-- A Management capability revoked, on the tables (document 02, request 5): its domain is closed, after the checks in the model's order.
use Rattle.std.specs.Prelude.{ℕ}
use Rattle.base.specs.Cases.{pick}
use Rattle.tables.specs.declared.Handle.{Handle}
use Rattle.tables.specs.Tables.{Tables}
use Rattle.refusals.specs.Refusals.{holds_root, running}
use Rattle.answers.specs.Answers.{Effect, refused, and_then}
use Rattle.checks.specs.Checks.{live_domain}
use Rattle.closing_checks.specs.Closes.{closes_root_b, closes_running_b}
use Rattle.closing.specs.Close.{close}

-- 22, 23
unfoldable pub close_unless_held : ℕ → Tables → Effect
close_unless_held d s = pick (closes_root_b s d) (refused holds_root s) (pick (closes_running_b s d) (refused running s) (close d s))

-- 3, 22, 23 (the model's close_managed)
unfoldable pub close_managed : Handle → Tables → Effect
close_managed h s = and_then (live_domain h s) close_unless_held
