-- A send's options (document 02, request 1): what the check says of them, and the state with them applied. The region is as it was, or its rights are
-- extended and its hash is the one that is given.
use Rattle.std.specs.Prelude.{ℕ, T}
use Rattle.std.proofs.Common.{sym}
use Rattle.std.proofs.Math.Path.{subst}
use Rattle.std.proofs.Math.Option.{Option, none, some}
use Rattle.rights.specs.Rights.{union, allowed}
use Rattle.model.specs.Lists.{In}
use Rattle.model.specs.Outcome.{Outcome, ◌>>◌}
use Rattle.model.specs.State.{State, Region, SendOptions, put_region, with_rights_hash}
use Rattle.model.specs.Regions.{apply_options}
use Rattle.model.specs.Calls.{check_options}
use Rattle.laws.specs.Accepted.{All, and_then, checked-first}
use Rattle.laws.specs.Tree.Extends.{Extends, extends-joined}
use Rattle.laws.specs.Tree.Steps.{region-at}

-- a flag word is missing, or passed the check
abbrev pub Joinable : SendOptions → Type 0
Joinable o = elim o.flags [ none ↦ Unit {0} | some f ↦ T (allowed 0 f) ]

pub options-checked : {A : Type 0} {Q : A → Type 0} (o : SendOptions) {n : Outcome A} → (Joinable o → All Q n) → All Q (check_options o >> n)
unfolding check_options
options-checked {A} {Q} o {n} h = go o.flags h
  where
    go : (x : Option ℕ) → (Joinable (record { flags = x; hash = o.hash }) → All Q n) → All Q (check_options (record { flags = x; hash = o.hash }) >> n)
    go none k = and_then _ (k tt)
    go (some f) k = checked-first (allowed 0 f) _ _ k

-- What holds of the state as it was, and of the state with extended rights of the region and the hash that is given, holds of the state with the options
-- applied.
module _ (P : State → Type 0) (s : State) (i : ℕ) (g : Region) (e : In s.regions i g) (o : SendOptions) (same : P s) (more : (n : ℕ) → Extends g.rights n → P (put_region i (with_rights_hash n o.hash g) s)) where
  joined : (f : ℕ) → T (allowed 0 f) → P (put_region i (with_rights_hash (union g.rights f) o.hash g) s)
  joined f t = more (union g.rights f) (extends-joined g.rights f t)

  pub applied : Joinable o → P (apply_options i o s)
  unfolding apply_options
  applied = go o.flags
    where
      go : (x : Option ℕ) → Joinable (record { flags = x; hash = o.hash }) → P (apply_options i (record { flags = x; hash = o.hash }) s)
      go none t = same
      go (some f) t = subst (λ (r : Region). P (put_region i (with_rights_hash (union r.rights f) o.hash r) s)) (sym (region-at s i g e)) (joined f t)
