-- Marks (document 02, request 4): a number below 32 is a set of fields. What the marks of a test are, what a union adds, and that a walk's marks are such a number.
use Rattle.std.specs.Prelude.{max, ◌≡◌, refl, ℕ, ◌/◌, ◌%◌, ◌≤◌, ◌<◌, Bool, true, false, ◌||◌, List, [], ◌∷◌, eqb}
use Rattle.std.proofs.Common.{arith, eq-eqb}
use Rattle.std.proofs.lemmas.Nat.{or_lt}
use Rattle.base.specs.Tests.{true-false}
use Rattle.rights.specs.Rights.{union}
use Rattle.rights.specs.Laws.{bit-union}
use Rattle.model.specs.Lists.{one_if}
use Rattle.model.specs.Outcome.{Outcome}
use Rattle.model.specs.State.{Counts, Record, Pool}
use Rattle.model.specs.Fields.{Field, get, mark, marks_where, is_marked}
use Rattle.model.specs.Tracker.{Walk, no_counts, new_counts, raise, lower, left_counts, crosses, crossings, meets, fill_marks, as_it_was, add_to, add_region, remove_from, remove_region, merged, gain, lose}
use Rattle.laws.specs.Accepted.{All, accepted, bind, bind-any, branch}
use Rattle.laws.specs.Stack.{one_at_most}

-- ---- a set of fields

digit : (b : Bool) (n : ℕ) → n ≡ one_if b → eqb n 1 ≡ b
digit true n h = rw h
digit false n h = rw h

-- the number of five binary digits, and each of them
module _ (b : Field → Bool) where
  digits : (one_if (b Field.Reach) ≤ 1) × (one_if (b Field.Read) ≤ 1) × (one_if (b Field.Write) ≤ 1) × (one_if (b Field.Exec) ≤ 1) × (one_if (b Field.Super) ≤ 1)
  digits = (one_at_most (b Field.Reach), one_at_most (b Field.Read), one_at_most (b Field.Write), one_at_most (b Field.Exec), one_at_most (b Field.Super))

  pub where_small : marks_where b < 32
  where_small = omega (arith, digits)

  pub marked-where : (f : Field) → is_marked f (marks_where b) ≡ b f
  marked-where f = digit (b f) _ (at f)
    where
      at : (g : Field) → marks_where b / mark g % 2 ≡ one_if (b g)
      at Field.Reach = omega (arith, digits)
      at Field.Read = omega (arith, digits)
      at Field.Write = omega (arith, digits)
      at Field.Exec = omega (arith, digits)
      at Field.Super = omega (arith, digits)

pub marked-union : (f : Field) (m n : ℕ) → is_marked f (union m n) ≡ (is_marked f m || is_marked f n)
marked-union Field.Reach m n = bit-union 0 m n
marked-union Field.Read m n = bit-union 1 m n
marked-union Field.Write m n = bit-union 2 m n
marked-union Field.Exec m n = bit-union 3 m n
marked-union Field.Super m n = bit-union 4 m n

pub union-small : (m n : ℕ) → m < 32 → n < 32 → union m n < 32
union-small m n h k = or_lt 5 m n h k

pub marked-none : (f : Field) → is_marked f 0 ≡ false
marked-none Field.Reach = refl
marked-none Field.Read = refl
marked-none Field.Write = refl
marked-none Field.Exec = refl
marked-none Field.Super = refl

-- no field is marked
pub marks-none : (m : ℕ) → m < 32 → ((f : Field) → is_marked f m ≡ false) → m ≡ 0
marks-none m h k =
    let h₄ : m < 16 = omega (arith, zero Field.Super) in
    let h₃ : m < 8 = omega (arith, zero Field.Exec) in
    let h₂ : m < 4 = omega (arith, zero Field.Write) in
    let h₁ : m < 2 = omega (arith, zero Field.Read) in
    omega (arith, zero Field.Reach)
  where
    zero : (f : Field) → m / mark f % 2 ≡ 0
    zero f = let n : (m / mark f % 2 ≡ 1 → ⊥) = λ e. true-false (eq-eqb _ 1 e) (k f) in omega arith

-- ---- a walk's marks

abbrev Small : Walk → Type 0
Small w = w.marks < 32

crossings-small : (j k : Counts) → crossings j k < 32
crossings-small j k = where_small (λ f. crosses (get f j) (get f k))

fill-small : (r : ℕ) (l : List Record) → fill_marks r l < 32
fill-small r [] = omega arith
fill-small r (q ∷ l) = crossings-small no_counts (new_counts r)

add-to-small : (r s e : ℕ) (q : Record) (p : Pool) → All Small (add_to r s e q p)
unfolding add_to
add-to-small r s e q p = branch (meets s e q) (bind-any _ (λ x. bind-any _ (λ y. accepted (crossings-small y.0.counts (raise r y.0.counts))))) (accepted {a = as_it_was q p} (omega arith))

add_small : (r s e : ℕ) (l : List Record) (p : Pool) → All Small (add_region r s e l p)
unfolding add_region
add_small r s e [] p = bind-any _ (λ x. accepted (fill-small r x.0))
add_small r s e (q ∷ l) p = bind-any _ (λ x. bind (add-to-small r s e q x.1) (λ w h. bind (add_small r (max s q.end) e l w.pool) (λ v k. accepted (union-small _ _ (union-small _ _ (fill-small r x.0) h) k))))

remove-from-small : (r s e : ℕ) (q : Record) (p : Pool) → All Small (remove_from r s e q p)
unfolding remove_from
remove-from-small r s e q p = branch (meets s e q) (bind-any _ (λ x. bind-any _ (λ y. bind-any _ (λ z. accepted (crossings-small y.0.counts (left_counts (lower r y.0.counts))))))) (accepted {a = as_it_was q p} (omega arith))

remove-small : (r s e : ℕ) (l : List Record) (p : Pool) → All Small (remove_region r s e l p)
unfolding remove_region
remove-small r s e [] p = accepted {a = record { records = []; pool = p; marks = 0 }} (omega arith)
remove-small r s e (q ∷ l) p = bind (remove-from-small r s e q p) (λ w h. bind (remove-small r s e l w.pool) (λ v k. accepted (union-small _ _ h k)))

-- a merge leaves them
merged-small : (m : Outcome Walk) → All Small m → All Small (merged m)
unfolding merged
merged-small m h = bind h (λ w k. bind-any _ (λ x. accepted k))

module _ (r s e : ℕ) (l : List Record) (p : Pool) where
  pub gain-small : All (λ w. w.marks < 32) (gain r s e l p)
  unfolding gain
  gain-small = merged-small _ (add_small r s e l p)

  pub lose-small : All (λ w. w.marks < 32) (lose r s e l p)
  unfolding lose
  lose-small = merged-small _ (remove-small r s e l p)
