-- The two clauses of a step's contract, what it answers and what it leaves, from a pair: the terms that a lemma leaves open come from the goal.
pub value_left : {A B : Type 0} → A × B → record { value : A; left : B }
value_left p = record { value = p.0; left = p.1 }
