-- Pieces laid down in the work area: in its first half where they start, in its second where they end, two words each. One for which there is
-- no room is dropped.
use Rattle.std.specs.Prelude.{◌≡◌, refl, ℕ, ◌+◌, ◌*◌, ◌/◌, ◌≤◌, ◌<◌, ltb}
use Rattle.std.proofs.Math.Path.{sym, ap}
use Rattle.std.proofs.Common.{◌∙◌, arith, lt-ltb, le-ltb}
use mathlib.Core.List.{List, [], ◌∷◌, ◌++◌, map, append-nil, map-append}
use Rattle.std.proofs.Math.ListN.{length, take, length-append}
use Rattle.std.proofs.lemmas.List.{length-map}
use Rattle.std.proofs.Math.Seq.{sets, length-sets, take_all, take-append-le, append_snoc}
use Rattle.base.specs.Cases.{pick, cmp, lt, ge}
use Rattle.words.specs.Rows.{flat}
use Rattle.words.specs.Stores.{sets-append, sets-apart}
use Rattle.sweep.specs.Events.{Piece, Event, starts, ends, start_of, end_of}
use Rattle.sound_events.specs.Events.{event_words, words_of}
use Rattle.sound_events.specs.Words.{length-words}

-- how many pieces there is room for
abbrev pub space : List ℕ → ℕ
space w = length w / 4

unfoldable pub laid : List ℕ → List Piece → List ℕ
laid w ps = sets (sets w 0 (words_of (starts ps))) (2 * space w) (words_of (ends ps))

-- ---- piece by piece

-- the work area, and how many pieces lie in it
pub record Filled : Type 0 where
  pub words : List ℕ
  pub count : ℕ

abbrev pub filled : List ℕ → ℕ → Filled
filled w n = record { words = w; count = n }

-- all the pieces that there is room for
abbrev pub fitted : List ℕ → List Piece → Filled
fitted w ps = let ks = take (space w) ps in filled (laid w ks) (length ks)

-- one piece more
abbrev pub put : List ℕ → ℕ → Piece → List ℕ
put w n p = sets (sets w (2 * n) (event_words (start_of p))) (2 * (space w + n)) (event_words (end_of p))

unfoldable pub place : Filled → Piece → Filled
place a p = pick (ltb a.count (space a.words)) (filled (put a.words a.count p) (a.count + 1)) a

module _ (w : List ℕ) (n : ℕ) (p : Piece) where
  pub place_in : n < space w → place (filled w n) p ≡ filled (put w n p) (n + 1)
  unfolding place
  place_in h = rw (lt-ltb n (space w) h)

  pub place_out : space w ≤ n → place (filled w n) p ≡ filled w n
  unfolding place
  place_out h = rw (le-ltb n (space w) h)

unfoldable pub places : Filled → List Piece → Filled
places a [] = a
places a (p ∷ ps) = places (place a p) ps

pub places-append : (a : Filled) (ps qs : List Piece) → places a (ps ++ qs) ≡ places (places a ps) qs
unfolding places
places-append a [] qs = refl
places-append a (p ∷ ps) qs = places-append (place a p) ps qs

-- ---- all of them

words_append : (l m : List Event) → words_of (l ++ m) ≡ words_of l ++ words_of m
unfolding words_of flat
words_append [] m = refl
words_append (e ∷ l) m = ap (λ (x : List ℕ). e.at ∷ e.rights ∷ x) (words_append l m)

pub length-laid : (w : List ℕ) (ps : List Piece) → length (laid w ps) ≡ length w
unfolding laid
length-laid w ps = length-sets (sets w 0 (words_of (starts ps))) (2 * space w) (words_of (ends ps)) ∙ length-sets w 0 (words_of (starts ps))

module _ (w : List ℕ) where
  -- the words of one event more
  more : (f : Piece → Event) (ps : List Piece) (p : Piece) → words_of (map f (ps ++ p ∷ [])) ≡ words_of (map f ps) ++ event_words (f p)
  unfolding words_of flat
  more f ps p = ap words_of (map-append f ps (p ∷ [])) ∙ words_append (map f ps) (f p ∷ [])

  long : (f : Piece → Event) (ps : List Piece) → length (words_of (map f ps)) ≡ 2 * length ps
  long f ps = omega (arith, length-words (map f ps), length-map ps f)

  put-laid : (ps : List Piece) (p : Piece) → length ps < space w → put (laid w ps) (length ps) p ≡ laid w (ps ++ p ∷ [])
  unfolding laid
  put-laid ps p h =
      let n = length ps in
      let s = words_of (starts ps) in
      let e = words_of (ends ps) in
      let v = event_words (start_of p) in
      let es : 0 + length s ≡ 2 * n = omega (arith, long start_of ps) in
      let ee : 2 * space w + length e ≡ 2 * (space w + n) = omega (arith, long end_of ps) in
      rw (length-laid w ps)
      (ap (λ (x : List ℕ). sets x (2 * (space w + n)) (event_words (end_of p)))
      (sym (sets-apart v e (sets w 0 s) (2 * n) (2 * space w) (omega arith))
      ∙ ap (λ (x : List ℕ). sets x (2 * space w) e) (rw es at (sym (sets-append s v w 0)) ∙ ap (sets w 0) (sym (more start_of ps p))))
      ∙ rw ee at (sym (sets-append e (event_words (end_of p)) (sets w 0 (words_of (starts (ps ++ p ∷ [])))) (2 * space w)))
      ∙ ap (sets (sets w 0 (words_of (starts (ps ++ p ∷ [])))) (2 * space w)) (sym (more end_of ps p)))

  -- what fits of the pieces ps behind those that are there
  all_placed : (ds ps : List Piece) → length ds ≤ space w → places (filled (laid w ds) (length ds)) ps ≡ fitted w (ds ++ ps)
  unfolding places
  all_placed ds [] h = rw (append-nil ds, take_all (space w) ds h)
  all_placed ds (p ∷ ps) h =
      elim (cmp (length ds) (space w)) [
        | lt k ↦
            let e : length (ds ++ p ∷ []) ≡ length ds + 1 = length-append ds (p ∷ []) in
            ap (λ (a : Filled). places a ps) (place_in (laid w ds) (length ds) p (rw (length-laid w ds) k) ∙ λ i. filled (put-laid ds p k i) (sym e i))
            ∙ rw (append_snoc ds p ps) at (all_placed (ds ++ p ∷ []) ps (omega arith))
        | ge k ↦
            let a : take (space w) (ds ++ p ∷ ps) ≡ take (space w) (ds ++ ps) = take-append-le (space w) ds (p ∷ ps) k ∙ sym (take-append-le (space w) ds ps k) in
            ap (λ (b : Filled). places b ps) (place_out (laid w ds) (length ds) p (rw (length-laid w ds) k)) ∙ rw a (all_placed ds ps h)
      ]

  -- all from an area with none on
  pub placed : (ps : List Piece) → places (filled w 0) ps ≡ fitted w ps
  unfolding laid words_of flat
  placed ps = all_placed [] ps (omega arith)
