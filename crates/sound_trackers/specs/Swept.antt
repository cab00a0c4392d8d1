-- The test of one domain, from its pieces laid down in the work area to the work area cleared.
use Rattle.std.specs.Prelude.{◌≡◌, Bool, List, ℕ, ◌+◌, ◌-◌, ◌*◌, ◌/◌, ◌≤◌, take, drop}
use Rattle.std.proofs.Math.Path.{ap}
use Rattle.std.proofs.Common.{◌∙◌, arith}
use borrow.Rule.Slice.PartMut.{put_mid}
use Rattle.std.proofs.Math.ListN.{length, length-take, length-map}
use Rattle.std.proofs.lemmas.List.{length-replicate}
use Rattle.model.specs.State.{Record}
use Rattle.words.specs.Zeros.{zeros}
use Rattle.sweep.specs.Events.{Piece, Event, starts, ends, start_of, end_of}
use Rattle.sweep.specs.Sweep.{sweep}
use Rattle.sweep.specs.Sort.{sort}
use Rattle.sound_events.specs.Events.{events_in, words_of, gaps}
use Rattle.sound_events.specs.Words.{length-words, events-words}
use Rattle.sound_pieces.specs.Laid.{space, laid, filled, fitted}
use Rattle.sound_trackers.specs.Area.{Two, two, middle, two-long, first-lent, second-lent, first_back, second_back, two-cleared}

-- the records against the sorted starts and ends of the pieces
abbrev pub swept : List Record → List Piece → Bool
swept l ps = sweep l (sort gaps (starts ps)) (sort gaps (ends ps))

-- the words p of events, sorted to q, are read as r
run-sorted : (l : List Event) (p q r : List ℕ) → p ≡ words_of l → events_in q ≡ sort gaps (events_in p) → r ≡ q → events_in r ≡ sort gaps l
run-sorted l p q r ep eq er = ap events_in er ∙ eq ∙ ap (λ (x : List ℕ). sort gaps (events_in x)) ep ∙ ap (sort gaps) (events-words l)

module _ (w : List ℕ) (ps : List Piece) (u : List ℕ) (n : ℕ) (e : filled u n ≡ fitted w ps) where
  abbrev ks : List Piece
  ks = take (space w) ps

  pub gathered : Two w (words_of (starts ks)) (words_of (ends ks)) (2 * n) u
  unfolding laid two
  gathered =
      let en : n ≡ length ks = ap (λ f. f.count) e in
      record {
        is = ap (λ f. f.words) e;
        first = omega (arith, length-words (starts ks), length-map ks start_of);
        second = omega (arith, length-words (ends ks), length-map ks end_of);
        fits = omega (arith, length-take (space w) ps);
      }

  pub count_fits : n ≤ length u / 4
  count_fits = let t = gathered in omega (arith, t.fits, two-long w (words_of (starts ks)) (words_of (ends ks)) (2 * n) u t)

  -- The first run is sorted, then the second; both are swept; the first is cleared, then the second.
  module _ (p₁ p₂ p₃ p₄ : List ℕ) where
    abbrev k : ℕ
    k = 2 * n

    abbrev h : ℕ
    h = 2 * (length u / 4)

    abbrev u₁ : List ℕ
    u₁ = put_mid 0 (k - 0) u p₁

    abbrev u₂ : List ℕ
    u₂ = put_mid h (h + k - h) u₁ p₂

    abbrev u₃ : List ℕ
    u₃ = put_mid 0 (k - 0) u₂ p₃

    abbrev u₄ : List ℕ
    u₄ = put_mid h (h + k - h) u₃ p₄

    pub domain-done : (l : List Record) (b : Bool) → w ≡ zeros (length w)
        → (events_in p₁ ≡ sort gaps (events_in (take (k - 0) u))) × (length p₁ ≡ length (take (k - 0) u))
        → (events_in p₂ ≡ sort gaps (events_in (take (h + k - h) (drop h u₁)))) × (length p₂ ≡ length (take (h + k - h) (drop h u₁)))
        → b ≡ sweep l (events_in (take (k - 0) u₂)) (events_in (take (h + k - h) (drop h u₂)))
        → p₃ ≡ zeros (length (take (k - 0) u₂)) → p₄ ≡ zeros (length (take (h + k - h) (drop h u₃)))
        → (b ≡ swept l ks) × (u₄ ≡ w)
    domain-done l b z s₁ s₂ eb c₁ c₂ =
        let s = words_of (starts ks) in
        let e = words_of (ends ks) in
        let t = gathered in
        let eh : h ≡ middle w = ap (λ (x : ℕ). 2 * (x / 4)) (two-long w s e k u t) in
        let a₁ = first-lent w s e k u t in
        let n₁ : length p₁ ≡ k = s₁.1 ∙ ap length a₁ ∙ t.first in
        let t₁ = first_back w s e k u t p₁ n₁ in
        let a₂ = second-lent w p₁ e k u₁ t₁ h eh in
        let n₂ : length p₂ ≡ k = s₂.1 ∙ ap length a₂ ∙ t.second in
        let t₂ = second_back w p₁ e k u₁ t₁ p₂ h eh n₂ in
        let a₃ = first-lent w p₁ p₂ k u₂ t₂ in
        let n₃ : p₃ ≡ zeros k = c₁ ∙ ap (λ (x : List ℕ). zeros (length x)) a₃ ∙ ap zeros n₁ in
        let t₃ = first_back w p₁ p₂ k u₂ t₂ p₃ (ap length n₃ ∙ length-replicate k 0) in
        let n₄ : p₄ ≡ zeros k = c₂ ∙ ap (λ (x : List ℕ). zeros (length x)) (second-lent w p₃ p₂ k u₃ t₃ h eh) ∙ ap zeros n₂ in
        let t₄ = second_back w p₃ p₂ k u₃ t₃ p₄ h eh (ap length n₄ ∙ length-replicate k 0) in
        let e₁ = run-sorted (starts ks) (take (k - 0) u) p₁ (take (k - 0) u₂) a₁ s₁.0 a₃ in
        let e₂ = run-sorted (ends ks) (take (h + k - h) (drop h u₁)) p₂ (take (h + k - h) (drop h u₂)) a₂ s₂.0 (second-lent w p₁ p₂ k u₂ t₂ h eh) in
        (eb ∙ rw (e₁, e₂), two-cleared w p₃ p₄ k u₄ z n₃ n₄ t₄)
