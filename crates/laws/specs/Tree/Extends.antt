-- A rights word extends another: it counts in every field as the other, and is allowed, and allows, what the other was and did. A word that is joined with
-- flags of a send (document 02, request 1) extends what it was.
use Rattle.std.specs.Prelude.{◌≡◌, refl, ℕ, ◌<◌, T}
use Rattle.std.proofs.Common.{ap, arith}
use Rattle.rights.specs.Rights.{union, allowed}
use Rattle.rights.specs.Joined.{joined-read, joined-write, joined-exec, joined-super, union-byte, joined-child, joined-parent}
use Rattle.model.specs.Lists.{one_if}
use Rattle.model.specs.Fields.{Field, counter}
use Rattle.laws.specs.Tree.Facts.{byte-allowed}

pub record Extends (old new : ℕ) : Type 0 where
  pub counted : (f : Field) → counter f new ≡ counter f old
  pub byte : old < 256 → new < 256
  pub child : (p : ℕ) → T (allowed p old) → T (allowed p new)
  pub parent : (c : ℕ) → T (allowed old c) → T (allowed new c)

pub extends-same : (old new : ℕ) → new ≡ old → Extends old new
extends-same old new e = record { counted = λ f. rw e; byte = λ h. omega arith; child = λ p t. rw e t; parent = λ c t. rw e t }

joined-counter : (r f : ℕ) → T (allowed 0 f) → (k : Field) → counter k (union r f) ≡ counter k r
joined-counter r f t Field.Reach = refl
joined-counter r f t Field.Read = ap one_if (joined-read r f t)
joined-counter r f t Field.Write = ap one_if (joined-write r f t)
joined-counter r f t Field.Exec = ap one_if (joined-exec r f t)
joined-counter r f t Field.Super = ap one_if (joined-super r f t)

pub extends-joined : (r f : ℕ) → T (allowed 0 f) → Extends r (union r f)
extends-joined r f t = record {
  counted = joined-counter r f t;
  byte = λ h. union-byte r f h (byte-allowed 0 f t (omega arith));
  child = λ p. joined-child p r f t;
  parent = λ c. joined-parent r c f;
}
