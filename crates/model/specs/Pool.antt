-- **Arenas** (document 01): `GenArena` and `FreeList`, one for domains, regions and tracker records each.
use Rattle.std.specs.Prelude.{ℕ, suc, ◌-◌, ◌^◌, Bool, not, ◌&&◌, List, [], ◌∷◌, eqb, get_or, set, replicate}
use Rattle.std.proofs.Math.Option.{Option}
use Rattle.model.specs.Lists.{count_up, is_some, at_slot}
use Rattle.model.specs.Outcome.{Outcome, ok, refuse, ◌>>◌, require}
use Rattle.refusals.specs.declared.Refusal.{Refusal}
use Rattle.refusals.specs.Refusals.{spent}
use Rattle.model.specs.State.{Pool, Handle}

-- "fresh ones go 0, 1, 2"
abbrev pub fresh_pool : ℕ → Pool
fresh_pool n = record { gens = replicate n 0; free = count_up 0 n }

-- "The slot freed last is given first"; the refusal, if none is free, is the caller's to name.
unfoldable pub allocate : Refusal → Pool → Outcome (ℕ × Pool)
allocate r p = elim p.free [ [] ↦ refuse r | i ∷ is ↦ ok (i, record { gens = p.gens; free = is }) ]

-- "Freeing adds one to the generation"; 16 where it is 2^64 − 1. (`p.free` is the stack of free slots, `free i p` this.)
unfoldable pub free : ℕ → Pool → Outcome Pool
free i p = do
  let g = get_or p.gens i 0
  require (not (eqb g (2 ^ 64 - 1))) spent  -- 16
  ok (record { gens = set p.gens i (suc g); free = i ∷ p.free })

-- the handle of the slot as it is now
abbrev pub handle_of : Pool → ℕ → Handle
handle_of p i = record { slot = i; generation = get_or p.gens i 0 }

-- A handle is live when its slot is in use and the generation is the slot's (else a call is refused with 3 for a domain, 6 for a region).
abbrev pub is_live {ℓ} : {A : Type ℓ} → Pool → List (Option A) → Handle → Bool
is_live p l h = is_some (at_slot l h.slot) && eqb (get_or p.gens h.slot 0) h.generation

-- the same slot and the same generation
abbrev pub same_handle : Handle → Handle → Bool
same_handle h k = eqb h.slot k.slot && eqb h.generation k.generation
