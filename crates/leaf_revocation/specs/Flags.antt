-- The flag that asks for cleanup: to contain it is to have its bit.
use Rattle.std.specs.Prelude.{◌≡◌, Bool, ℕ, ◌%◌}
use Rattle.std.proofs.Common.{◌∙◌}
use Rattle.rights.specs.Laws.{contains-flag}
use Rattle.rights.specs.Rights.{has, contains, CLEANUP}

pub cleanup-test : (w x : ℕ) (b : Bool) → x ≡ w % 256 → b ≡ contains x CLEANUP → b ≡ has (w % 256) CLEANUP
cleanup-test w x b ex eb = eb ∙ rw ex (contains-flag 5 (w % 256))
