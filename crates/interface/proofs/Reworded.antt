-- Tables that have other words in place of a sound state's domains' words, and all else the same, are those of the state with these words.
use Rattle.std.specs.Prelude.{◌≡◌, ◌≢◌, List, ◌++◌}
use Rattle.std.proofs.Math.Path.{refl, sym, ap}
use Rattle.std.proofs.Common.{subst, ◌∙◌, length-append, ext_get_or, get_or-append-add}
use Prim.Native.Nat.{ℕ, zero, suc, ◌+◌, ◌-◌, ◌*◌, ◌/◌, ◌%◌, ◌≤◌, ◌<◌}
use Rattle.std.proofs.Math.Option.{Option, none, some}
use native.Mathlib.Omega.{arith}
use Rattle.std.proofs.Math.ListN.{length, get_or, get_or-append}
use Rattle.base.specs.Cases.{lt, ge, cmp}
use Rattle.base.specs.Options.{none-some}
use Rattle.model.specs.Lists.{at_slot, In}
use Rattle.model.specs.State.{Word, State, Domain}
use Rattle.model.specs.Layout.{interface_words, words}
use Rattle.model.specs.Sound.{Sound}
use Rattle.model.specs.Memory.{Lent}
use Rattle.laws.specs.Words.Length.{words-length}
use Rattle.interface.specs.FewerTables.{InUse, interfaces_at, word_place}
use Rattle.interface.proofs.Reword.{reword_in, reword, reword-at, reword-sound, reword-front, front_words, interface_rows, mark_rows, words-split, rows_long, front_length}
use Rattle.interface.proofs.Places.{interface-at, use-in, in_use_lem}

-- every place but those of domains' words holds the same
abbrev pub Others : List ℕ → List ℕ → Type 0
Others t t' = (i : ℕ) → ((d : ℕ) → InUse t d → i ≢ word_place t d) → get_or t' i 0 ≡ get_or t i 0

-- the first words, the interfaces behind them, and the marks behind these
front_read : (s : State) (i : ℕ) → i < length (front_words s) → get_or (words s) i 0 ≡ get_or (front_words s) i 0
front_read s i l =
    ap (λ t. get_or t i 0) (words-split s) ∙ get_or-append (front_words s ++ interface_rows s) (mark_rows s) 0 i (omega (arith, length-append (front_words s) (interface_rows s)))
    ∙ get_or-append (front_words s) (interface_rows s) 0 i l

row_read : (s : State) → Sound s → (d e : ℕ) → d < s.sizes.domains → e < 2 → get_or (words s) (interfaces_at s.sizes + (2 * d + e)) 0 ≡ get_or (interface_words (at_slot s.domains d)) e 0
row_read s k d e l m =
    let low : interfaces_at s.sizes + (2 * d + e) < length (front_words s ++ interface_rows s) = omega (arith, length-append (front_words s) (interface_rows s), front_length s k, rows_long s) in
    ap (λ t. get_or t (interfaces_at s.sizes + (2 * d + e)) 0) (words-split s) ∙ get_or-append (front_words s ++ interface_rows s) (mark_rows s) 0 _ low
    ∙ ap (λ n. get_or (front_words s ++ interface_rows s) (n + (2 * d + e)) 0) (sym (front_length s k))
    ∙ get_or-append-add (front_words s) (interface_rows s) (2 * d + e) 0 ∙ interface-at s d e l m

mark-read : (s : State) → Sound s → (i : ℕ) → get_or (words s) (interfaces_at s.sizes + 2 * s.sizes.domains + i) 0 ≡ get_or (mark_rows s) i 0
mark-read s k i =
    let z : interfaces_at s.sizes + 2 * s.sizes.domains ≡ length (front_words s ++ interface_rows s) = omega (arith, length-append (front_words s) (interface_rows s), front_length s k, rows_long s) in
    ap (λ t. get_or t (interfaces_at s.sizes + 2 * s.sizes.domains + i) 0) (words-split s) ∙ ap (λ n. get_or (front_words s ++ interface_rows s ++ mark_rows s) (n + i) 0) z
    ∙ get_or-append-add (front_words s ++ interface_rows s) (mark_rows s) i 0

frozen-read : (word : ℕ) (o : Option Domain) → get_or (interface_words o) 1 0 ≡ get_or (interface_words (reword_in word o)) 1 0
frozen-read word none = refl
frozen-read word (some x) = refl

-- ---- tables with other words in place of a sound state's are those of the state with these words

module _ (s : State) (k : Sound s) (t' : List ℕ) (others : Others (words s) t') where
  -- the words that t' has
  abbrev word_of : ℕ → ℕ
  word_of d = get_or t' (interfaces_at s.sizes + 2 * d) 0

  same-front : (i : ℕ) → i < interfaces_at s.sizes → get_or t' i 0 ≡ get_or (words (reword word_of s)) i 0
  unfolding words
  same-front i l =
      let low : i < length (front_words s) = omega (arith, front_length s k) in
      let front = reword-front word_of s in
      others i (λ d u e. omega arith) ∙ front_read s i low ∙ ap (λ x. get_or x i 0) (sym front) ∙ sym (front_read (reword word_of s) i (omega (arith, ap length front)))

  same_row : (d e : ℕ) → d < s.sizes.domains → e < 2 → get_or t' (interfaces_at s.sizes + (2 * d + e)) 0 ≡ get_or (interface_words (reword_in (word_of d) (at_slot s.domains d))) e 0
  unfolding words
  same_row d zero l m = go (at_slot s.domains d) refl
    where
      go : (o : Option Domain) → at_slot s.domains d ≡ o → get_or t' (interfaces_at s.sizes + (2 * d + 0)) 0 ≡ get_or (interface_words (reword_in (word_of d) (at_slot s.domains d))) 0 0
      go none e = others _ (λ j u f. let (x, i) = use-in s k j u in let z : j ≡ d = omega arith in none-some (at_slot s.domains d) x e (ap (at_slot s.domains) (sym z) ∙ i)) ∙ row_read s k d 0 l m ∙ rw e
      go (some x) e = let z : interfaces_at s.sizes + (2 * d + 0) ≡ interfaces_at s.sizes + 2 * d = omega arith in ap (λ i. get_or t' i 0) z ∙ rw e
  same_row d (suc zero) l m = others _ (λ j u f. omega arith) ∙ row_read s k d 1 l m ∙ frozen-read (word_of d) (at_slot s.domains d)
  same_row d (suc (suc e)) l m = absurd (omega arith)

  module _ (len : length t' ≡ length (words s)) (w : (d : ℕ) → InUse (words s) d → Word (get_or t' (word_place (words s) d) 0)) where
    pub reword-again : Sound (reword word_of s)
    unfolding words
    reword-again = reword-sound word_of s k (λ d x e. w d (in_use_lem s k d x e))

    same_rows : (i : ℕ) → interfaces_at s.sizes ≤ i → i < interfaces_at s.sizes + 2 * s.sizes.domains → get_or t' i 0 ≡ get_or (words (reword word_of s)) i 0
    same_rows i l m =
        let n = interfaces_at s.sizes in
        let d = (i - n) / 2 in
        let e = (i - n) % 2 in
        let z : i ≡ n + (2 * d + e) = omega arith in
        let low : d < s.sizes.domains = omega arith in
        ap (λ j. get_or t' j 0) z ∙ same_row d e low (omega arith) ∙ ap (λ o. get_or (interface_words o) e 0) (sym (reword-at word_of s.domains d))
        ∙ sym (row_read (reword word_of s) reword-again d e low (omega arith)) ∙ ap (λ j. get_or (words (reword word_of s)) j 0) (sym z)

    same-marks : (i : ℕ) → interfaces_at s.sizes + 2 * s.sizes.domains ≤ i → get_or t' i 0 ≡ get_or (words (reword word_of s)) i 0
    unfolding words
    same-marks i l =
        let n = interfaces_at s.sizes + 2 * s.sizes.domains in
        let z : i ≡ n + (i - n) = omega arith in
        others i (λ d u e. omega arith) ∙ ap (λ j. get_or (words s) j 0) z ∙ mark-read s k (i - n) ∙ sym (mark-read (reword word_of s) reword-again (i - n)) ∙ ap (λ j. get_or (words (reword word_of s)) j 0) (sym z)

    pub reworded : t' ≡ words (reword word_of s)
    reworded = ext_get_or 0 t' (words (reword word_of s)) (len ∙ words-length s k ∙ sym (words-length (reword word_of s) reword-again)) (λ i l. elim (cmp i (interfaces_at s.sizes)) [
      | lt m ↦ same-front i m
      | ge m ↦ elim (cmp i (interfaces_at s.sizes + 2 * s.sizes.domains)) [ lt o ↦ same_rows i m o | ge o ↦ same-marks i o ]
    ])

-- the same of lent tables
pub lent-reword : (t t' w : List ℕ) (s : State) → Lent t w s → length t' ≡ length t → Others t t' → ((d : ℕ) → InUse t d → Word (get_or t' (word_place t d) 0)) → Lent t' w (reword (λ d. get_or t' (word_place t d) 0) s)
unfolding words
lent-reword t t' w s l len o v =
    subst (λ x. length w ≡ length x → length t' ≡ length x → Others x t' → ((d : ℕ) → InUse x d → Word (get_or t' (word_place x d) 0)) → Lent t' w (reword (λ d. get_or t' (word_place x d) 0) s)) (sym l.tables)
    (λ work m p q. record { sound = reword-again s l.sound t' p m q; tables = reworded s l.sound t' p m q; work = work ∙ sym m })
    l.work len o v

-- where its domain's word stands
module _ (t w : List ℕ) (s : State) (l : Lent t w s) (d : ℕ) (x : Domain) (e : In s.domains d x) where
  pub lent-use : InUse t d
  lent-use = subst (λ a. InUse a d) (sym l.tables) (in_use_lem s l.sound d x e)

  pub lent-word : get_or t (word_place t d) 0 ≡ x.interface.word
  unfolding words
  lent-word =
      let low = (in_use_lem s l.sound d x e).0 in
      let z : interfaces_at s.sizes + 2 * d ≡ interfaces_at s.sizes + (2 * d + 0) = omega arith in
      ap (λ a. get_or a (word_place a d) 0) l.tables ∙ ap (λ i. get_or (words s) i 0) z ∙ row_read s l.sound d 0 low (omega arith) ∙ ap (λ o. get_or (interface_words o) 0 0) e
