-- The kind with a number, as the code finds it and as the definitions say; and how many bytes its records have.
use Rattle.std.specs.Prelude.{◌≡◌, ℕ, Option as Maybe, Some, None, eqb}
use Rattle.std.proofs.Common.{subst}
use Rattle.std.proofs.Math.Path.{refl}
use Rattle.std.proofs.Math.Option.{Option, none, some}
use Rattle.base.specs.Cases.{holds, fails, test}
use Rattle.script_records.specs.declared.Kind as code
use Rattle.script_records.specs.Script.{Kind, kind_of}
use Rattle.script_records.specs.Parsed.{named, kind_numbered, size_of, size_at}

abbrev pub Same : Maybe code.Kind → Option Kind → Type 0
Same None o = o ≡ none
Same (Some k) o = o ≡ some (named k)

pub same-kind : (n : ℕ) → Same (kind_numbered n) (kind_of n)
unfolding kind_of
same-kind n = elim (test (eqb n 1)) [
  | holds t ↦ rw t refl
  | fails t ↦ rw t (elim (test (eqb n 2)) [
    | holds t ↦ rw t refl
    | fails t ↦ rw t (elim (test (eqb n 3)) [
      | holds t ↦ rw t refl
      | fails t ↦ rw t (elim (test (eqb n 4)) [
        | holds t ↦ rw t refl
        | fails t ↦ rw t (elim (test (eqb n 5)) [
          | holds t ↦ rw t refl
          | fails t ↦ rw t (elim (test (eqb n 6)) [
            | holds t ↦ rw t refl
            | fails t ↦ rw t (elim (test (eqb n 7)) [ holds t ↦ rw t refl | fails t ↦ rw t refl ])
          ])
        ])
      ])
    ])
  ])
]

pub size-none : (n : ℕ) → kind_numbered n ≡ None → 0 ≡ size_at n
unfolding size_at
size-none n e = rw (subst (λ (o : Maybe code.Kind). Same o (kind_of n)) e (same-kind n)) refl

pub size-some : (n : ℕ) (k : code.Kind) → kind_numbered n ≡ Some k → size_of k ≡ size_at n
unfolding size_at size_of
size-some n k e = rw (subst (λ (o : Maybe code.Kind). Same o (kind_of n)) e (same-kind n)) refl
