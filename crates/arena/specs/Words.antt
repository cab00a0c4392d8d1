-- The words of a pool over n slots, read and stored one at a time.
use Rattle.std.specs.Prelude.{◌≡◌, List, [], ◌∷◌, ℕ, ◌+◌, ◌≤◌, ◌<◌, length, set}
use Rattle.std.proofs.Math.Path.{sym}
use Rattle.std.proofs.Common.{◌∙◌, arith}
use Rattle.std.proofs.Math.ListN.{get_or, length-set, get_or-eq_default}
use Rattle.std.proofs.Math.Seq.{get_or-set_same, get_or-set_other, set_out}
use Rattle.words.specs.Runs.{part_at, length_part, part_in, part-before, part-after}
use Rattle.tables.specs.View.{arena_of}
use Rattle.sizes.specs.Sizes.{pool_width}
use Rattle.arena.specs.Arena.{with_top, with_link, with_gen}

module _ (n : ℕ) (p : List ℕ) (sz : length p ≡ pool_width n) where
  pub links-many : length (arena_of n p).links ≡ n
  unfolding arena_of
  links-many = length_part p 2 n (omega arith)

  pub gens-many : length (arena_of n p).gens ≡ n
  unfolding arena_of
  gens-many = length_part p (2 + n) n (omega arith)

  pub link_at : (i : ℕ) → i < n → get_or p (2 + i) 0 ≡ get_or (arena_of n p).links i 0
  unfolding arena_of
  link_at i h = sym (part_at p 2 n i h)

  pub gen-at : (i : ℕ) → i < n → get_or p (2 + n + i) 0 ≡ get_or (arena_of n p).gens i 0
  unfolding arena_of
  gen-at i h = sym (part_at p (2 + n) n i h)

  pub no-link : (i : ℕ) → n ≤ i → 0 ≡ get_or (arena_of n p).links i 0
  no-link i h = sym (get_or-eq_default (arena_of n p).links 0 {n = i} (omega (arith, links-many)))

  pub no-gen : (i : ℕ) → n ≤ i → 0 ≡ get_or (arena_of n p).gens i 0
  no-gen i h = sym (get_or-eq_default (arena_of n p).gens 0 {n = i} (omega (arith, gens-many)))

  pub top_set : (h c : ℕ) → arena_of n (set (set p 0 h) 1 c) ≡ with_top (arena_of n p) h c
  unfolding arena_of
  top_set h c =
      let e : get_or (set (set p 0 h) 1 c) 0 0 ≡ h = get_or-set_other (set p 0 h) 1 0 c 0 (omega arith) ∙ get_or-set_same p 0 h 0 (omega arith) in
      rw (e, get_or-set_same (set p 0 h) 1 c 0 (simp length-set (omega arith)), part-before p (h ∷ c ∷ []) 2 n 0 (omega arith), part-before p (h ∷ c ∷ []) (2 + n) n 0 (omega arith))

  pub link_set : (i v : ℕ) → i < n → arena_of n (set p (2 + i) v) ≡ with_link (arena_of n p) i v
  unfolding arena_of
  link_set i v h =
      rw (get_or-set_other p (2 + i) 0 v 0 (omega arith), get_or-set_other p (2 + i) 1 v 0 (omega arith), part_in p (v ∷ []) 2 n i (omega arith), part-before p (v ∷ []) (2 + n) n (2 + i) (omega arith))

  pub gen-set : (i v : ℕ) → i < n → arena_of n (set p (2 + n + i) v) ≡ with_gen (arena_of n p) i v
  unfolding arena_of
  gen-set i v h =
      rw (get_or-set_other p (2 + n + i) 0 v 0 (omega arith), get_or-set_other p (2 + n + i) 1 v 0 (omega arith), part-after p (v ∷ []) 2 n (2 + n + i) (omega arith), part_in p (v ∷ []) (2 + n) n i (omega arith))

  pub no-link-set : (i v : ℕ) → n ≤ i → arena_of n p ≡ with_link (arena_of n p) i v
  no-link-set i v h = rw (set_out (arena_of n p).links i v (omega (arith, links-many)))

  pub no-gen-set : (i v : ℕ) → n ≤ i → arena_of n p ≡ with_gen (arena_of n p) i v
  no-gen-set i v h = rw (set_out (arena_of n p).gens i v (omega (arith, gens-many)))
