-- A run of zeros, cut into sections and read as a table of rows.
use Rattle.std.specs.Prelude.{◌≡◌, refl, List, [], ◌∷◌, map, ℕ, zero, suc, ◌+◌, ◌*◌, length, take, drop, replicate}
use Rattle.std.proofs.Common.{sym, ap, ◌∙◌, arith, take_at, drop_at}
use Rattle.std.proofs.lemmas.List.{length-replicate, replicate-append-replicate}
use Rattle.words.specs.Rows.{rows}
use Rattle.words.specs.Cuts.{cuts, offset}

abbrev pub zeros : ℕ → List ℕ
zeros n = replicate n 0

pub take-zeros : (n m : ℕ) → take n (zeros (n + m)) ≡ zeros n
take-zeros n m = ap (take n) (sym (replicate-append-replicate n m 0)) ∙ take_at (zeros n) (zeros m) n (length-replicate n 0)

pub drop-zeros : (n m : ℕ) → drop n (zeros (n + m)) ≡ zeros m
drop-zeros n m = ap (drop n) (sym (replicate-append-replicate n m 0)) ∙ drop_at (zeros n) (zeros m) n (length-replicate n 0)

pub rows-zeros : {A : Type 0} (w n : ℕ) (f : List ℕ → A) → rows w n f (zeros (n * w)) ≡ replicate n (f (zeros w))
unfolding rows
rows-zeros w zero f = refl
rows-zeros w (suc n) f =
    let e : suc n * w ≡ w + n * w = omega arith in
    rw (e, take-zeros w (n * w), drop-zeros w (n * w), rows-zeros w n f)

pub cuts-zeros : (ns : List ℕ) → cuts ns (zeros (offset ns (length ns))) ≡ map zeros ns
unfolding cuts offset
cuts-zeros [] = refl
cuts-zeros (n ∷ ns) = rw (take-zeros n (offset ns (length ns)), drop-zeros n (offset ns (length ns)), cuts-zeros ns)
