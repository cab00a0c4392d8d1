-- The free list and the generations of a pool (free_list.rs, gen_arena.rs; document 01, "Arenas").
use Rattle.std.specs.Prelude.{Bool, Option, Some, None, Result, Ok, Err, List, [], ◌∷◌, ℕ, zero, suc, ◌+◌, ◌-◌, ◌%◌, ◌^◌, ltb, eqb, length, get_or, set, replicate}
use Rattle.base.specs.Cases.{pick}
use Rattle.base.specs.Tests.{both}
use Rattle.tables.specs.declared.Handle.{Handle}
use Rattle.tables.specs.Tables.{Arena}
use Rattle.refusals.specs.declared.Refusal.{Refusal}
use Rattle.refusals.specs.Refusals.{memory, spent}

-- ---- one word changed

abbrev pub with_top : Arena → ℕ → ℕ → Arena
with_top a h c = record { head = h; count = c; links = a.links; gens = a.gens }

abbrev pub with_link : Arena → ℕ → ℕ → Arena
with_link a i v = record { head = a.head; count = a.count; links = set a.links i v; gens = a.gens }

abbrev pub with_gen : Arena → ℕ → ℕ → Arena
with_gen a i v = record { head = a.head; count = a.count; links = a.links; gens = set a.gens i v }

-- ---- readings

unfoldable pub is_free_b : Arena → ℕ → Bool
is_free_b a i = ltb 0 (get_or a.links i 0)

-- the handle's slot is in use and has its generation
unfoldable pub live_b : Arena → Handle → Bool
live_b a h = both (ltb h.slot (length a.links)) (both (eqb (get_or a.links h.slot 0) 0) (eqb (get_or a.gens h.slot 0) h.generation))

-- the handle is older than its slot's generation
abbrev pub older_b : Arena → Handle → Bool
older_b a h = ltb h.generation (get_or a.gens h.slot 0)

unfoldable pub capacity_of : Arena → ℕ
capacity_of a = length a.links - a.count

-- ---- allocating

-- the link of the slot that is given next; 0 where every slot counts as in use
unfoldable pub head_link : Arena → ℕ
head_link a = pick (ltb a.count (length a.links)) (get_or a.links a.head 0) 0

-- the slot that is given, none where all are in use
abbrev pub Given : Type 0
Given = Option Handle

unfoldable pub given : Arena → Given
given a = pick (ltb 0 (head_link a)) (Some (record { slot = a.head; generation = get_or a.gens a.head 0 })) None

-- the slot that is given is in use, and the one after it is the head
abbrev pub taken : Arena → Arena
taken a = with_top (with_link a a.head 0) (head_link a - 1) (a.count + 1)

unfoldable pub allocated : Arena → Arena
allocated a = pick (ltb 0 (head_link a)) (taken a) a

-- ---- freeing

-- slot i is in use; the head and the count are a free list's
unfoldable pub held_b : Arena → ℕ → Bool
held_b a i = both (both (ltb i (length a.links)) (ltb a.head (length a.links))) (both (ltb 0 a.count) (eqb (get_or a.links i 0) 0))

-- the generation of slot i can be raised
unfoldable pub raisable_b : Arena → ℕ → Bool
raisable_b a i = ltb (get_or a.gens i 0) (2 ^ 64 - 1)

-- 16 where its generation cannot be raised, 1 where it is not in use
abbrev pub Freed : Type 0
Freed = Result (Unit {0}) Refusal

unfoldable pub answer_to : Arena → ℕ → Freed
answer_to a i = pick (held_b a i) (pick (raisable_b a i) (Ok tt) (Err spent)) (Err memory)

-- slot i is the head, with the old head after it and the next generation
abbrev pub pushed : Arena → ℕ → Arena
pushed a i = with_top (with_gen (with_link a i (a.head + 1)) i (get_or a.gens i 0 + 1)) i (a.count - 1)

-- freeing slot i is done
unfoldable pub frees_b : Arena → ℕ → Bool
frees_b a i = both (held_b a i) (raisable_b a i)

unfoldable pub freed : Arena → ℕ → Arena
freed a i = pick (frees_b a i) (pushed a i) a

-- ---- making

-- slot i is free, with the next one after it, the first after the last
unfoldable pub fresh_link : ℕ → ℕ → ℕ
fresh_link n i = (i + 1) % n + 1

-- m links from slot k on
unfoldable pub links_from : ℕ → ℕ → ℕ → List ℕ
links_from n k zero = []
links_from n k (suc m) = fresh_link n k ∷ links_from n (suc k) m

-- `FreeList::new` and zero generations
unfoldable pub new_arena : ℕ → Arena
new_arena n = record { head = 0; count = 0; links = links_from n 0 n; gens = replicate n 0 }
