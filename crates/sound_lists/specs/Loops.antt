-- What the walks leave: the answer, and marks for what was met; and what stays true turn by turn.
use Rattle.std.specs.Prelude.{◌≡◌, refl, ℕ, zero, suc, ◌+◌, ◌-◌, ◌/◌, ◌≤◌, ◌<◌, Bool, true, false, not, List, ◌∷◌, eqb, ltb, length, get_or, replicate}
use Rattle.std.proofs.Common.{sym, ap, subst, ◌∙◌, arith, ltb-true}
use Rattle.std.proofs.Math.Option.{Option, none, some}
use Rattle.base.specs.Cases.{pick}
use Rattle.base.specs.Options.{none-some, some_same}
use Rattle.base.specs.Tests.{both, both_true}
use Rattle.marks.specs.Marks.{marked, with_mark, words_for}
use Rattle.marks.specs.Laws.{mark-past}
use Rattle.tables.specs.Tables.{Tables}
use Rattle.list_links.specs.declared.Stack.{Stack}
use Rattle.list_links.specs.declared.Step.{Step}
use Rattle.list_links.specs.Walk.{fresh, met, ended}
use Rattle.list_links.specs.Stacks.{slots_of, may_meet, next_of, met_in, covered_in}
use Rattle.list_links.specs.Reads.{step_of}
use Rattle.sound_lists.specs.declared.walks.Followed.{Followed}
use Rattle.sound_lists.specs.Marks.{Marks, fresh-is, marks-more}

abbrev pub found : Option (List ℕ) → Bool
found none = false
found (some vs) = true

-- the answer r, and marks w, for what a walk found, m slots with what was met before it
pub record Gone (ok : ℕ → Bool) (o : Option (List ℕ)) (m : ℕ) (r : Followed) (w : List ℕ) : Type 0 where
  pub said : r.ended ≡ found o
  pub marks : (us : List ℕ) → o ≡ some us → Marks ok w us
  pub many : (us : List ℕ) → o ≡ some us → length us ≡ m + r.links

-- past the marks of n slots the words are as they were
abbrev pub Beyond : ℕ → List ℕ → List ℕ → Type 0
Beyond n w w' = (j : ℕ) → words_for n ≤ j → get_or w' j 0 ≡ get_or w j 0

pub record Marked (v : Tables) (s : Stack) (e k l : ℕ) (w : List ℕ) (r : Followed) (w' : List ℕ) : Type 0 where
  pub beyond : Beyond (slots_of v s) w w'
  pub goes : (vs : List ℕ) → Marks (may_meet v s) w vs → Gone (may_meet v s) (met_in v s e k l vs) (length vs) r w'

pub record Settled (v : Tables) (s : Stack) (x : Followed) (w : List ℕ) (r : Bool) (w' : List ℕ) : Type 0 where
  pub answer : (o : Option (List ℕ)) → Gone (may_meet v s) o 0 x w → r ≡ covered_in v s o
  pub clean : ((j : ℕ) → words_for (slots_of v s) ≤ j → get_or w j 0 ≡ 0) → w' ≡ replicate (length w) 0

-- ---- a walk, turn by turn

-- what is left to walk, with the marks w of m slots, finds o
pub record Rest (ok : ℕ → Bool) (o : Option (List ℕ)) (f : List ℕ → Option (List ℕ)) (m : ℕ) (w : List ℕ) : Type 0 where
  pub us : List ℕ
  pub marks : Marks ok w us
  pub rest : f us ≡ o
  pub many : length us ≡ m

-- f links were followed, and l is the next
pub record Going (v : Tables) (s : Stack) (e k l₀ : ℕ) (w₀ : List ℕ) (f l : ℕ) (w : List ℕ) : Type 0 where
  pub beyond : Beyond (slots_of v s) w₀ w
  pub goes : (vs : List ℕ) → Marks (may_meet v s) w₀ vs → Rest (may_meet v s) (met_in v s e k l₀ vs) (met_in v s e (k - f) l) (length vs + f) w

pub going_start : (v : Tables) (s : Stack) (e k l : ℕ) (w : List ℕ) → Going v s e k l w 0 l w
going_start v s e k l w =
    let z : k - 0 ≡ k = omega arith in
    record { beyond = λ j h. refl; goes = λ vs m. record { us = vs; marks = m; rest = ap (λ x. met_in v s e x l vs) z; many = omega arith } }

met-go : (f : ℕ → ℕ) (ok : ℕ → Bool) (e k i : ℕ) (vs : List ℕ) → fresh ok i vs ≡ true → met f ok e (suc k) (suc i) vs ≡ met f ok e k (f i) (i ∷ vs)
unfolding met
met-go f ok e k i vs h = rw h

met-stop : (f : ℕ → ℕ) (ok : ℕ → Bool) (e k i : ℕ) (vs : List ℕ) → fresh ok i vs ≡ false → met f ok e (suc k) (suc i) vs ≡ none
unfolding met
met-stop f ok e k i vs h = rw h

met-end : (f : ℕ → ℕ) (ok : ℕ → Bool) (e k l : ℕ) (vs : List ℕ) → (0 < k → 0 < l → ⊥) → met f ok e k l vs ≡ ended e l vs
unfolding met
met-end f ok e zero l vs h = refl
met-end f ok e (suc k) zero vs h = refl
met-end f ok e (suc k) (suc l) vs h = absurd (h (omega arith) (omega arith))

-- nothing was found
pub none-gone : (ok : ℕ → Bool) (o : Option (List ℕ)) (m f : ℕ) (w : List ℕ) → o ≡ none → Gone ok o m (record { ended = false; links = f }) w
none-gone ok o m f w z = record { said = sym (ap found z); marks = λ us y. absurd (none-some o us z y); many = λ us y. absurd (none-some o us z y) }

pub some-gone : (ok : ℕ → Bool) (o : Option (List ℕ)) (us : List ℕ) (m f : ℕ) (w : List ℕ) → Marks ok w us → length us ≡ m + f → o ≡ some us → Gone ok o m (record { ended = true; links = f }) w
some-gone ok o us m f w k e z = record {
  said = sym (ap found z);
  marks = λ vs y. subst (Marks ok w) (some_same o us vs z y) k;
  many = λ vs y. ap length (sym (some_same o us vs z y)) ∙ e;
}

ended-gone : (ok : ℕ → Bool) (o : Option (List ℕ)) (us : List ℕ) (m f e l : ℕ) (w : List ℕ) (b : Bool) → b ≡ eqb l e → Marks ok w us → length us ≡ m + f → ended e l us ≡ o → Gone ok o m (record { ended = b; links = f }) w
ended-gone ok o us m f e l w true eb k n y = some-gone ok o us m f w k n (sym y ∙ ap (λ q. pick q (some us) none) (sym eb))
ended-gone ok o us m f e l w false eb k n y = none-gone ok o m f w (sym y ∙ ap (λ q. pick q (some us) none) (sym eb))

pub may-inside : (v : Tables) (s : Stack) (i : ℕ) → may_meet v s i ≡ true → i < slots_of v s
unfolding may_meet
may-inside v s i h = ltb-true i (slots_of v s) (both_true (ltb i (slots_of v s)) _ h).0

-- ---- the code's turn

module _ (v : Tables) (s : Stack) (e k l₀ : ℕ) (w₀ : List ℕ) (f l : ℕ) (w : List ℕ) (g : Going v s e k l₀ w₀ f l w) where
  abbrev ok : ℕ → Bool
  ok = may_meet v s

  module _ (hf : f < k) (hl : 0 < l) (x : Step) (old : Bool) (ex : x ≡ step_of v s (l - 1)) (eo : old ≡ marked w (l - 1)) where
    new_is : (us : List ℕ) → Marks ok w us → both x.may (not old) ≡ fresh ok (l - 1) us
    new_is us m = ap (λ (y : Step). both y.may (not old)) ex ∙ ap (λ y. both (ok (l - 1)) (not y)) eo ∙ sym (fresh-is ok w us (l - 1) m)

    -- the walk of the definition is at this link
    at-link : (us : List ℕ) → met_in v s e (k - f) l us ≡ met_in v s e (suc (k - (f + 1))) (suc (l - 1)) us
    at-link us =
        let zk : k - f ≡ suc (k - (f + 1)) = omega arith in
        let zl : l ≡ suc (l - 1) = omega arith in
        ap (λ y. met_in v s e y l us) zk ∙ ap (λ y. met_in v s e (suc (k - (f + 1))) y us) zl

    go-rest : both x.may (not old) ≡ true → (l - 1) / 64 < length w → (o : Option (List ℕ)) (m : ℕ) → Rest ok o (met_in v s e (k - f) l) (m + f) w → Rest ok o (met_in v s e (k - (f + 1)) (next_of v s (l - 1))) (m + (f + 1)) (with_mark w (l - 1))
    go-rest h i o m r =
        let n : fresh ok (l - 1) r.us ≡ true = sym (new_is r.us r.marks) ∙ h in
        record {
          us = (l - 1) ∷ r.us;
          marks = marks-more ok w r.us (l - 1) r.marks i n;
          rest = sym (at-link r.us ∙ met-go (next_of v s) ok e (k - (f + 1)) (l - 1) r.us n) ∙ r.rest;
          many = omega (arith, r.many);
        }

    pub follow-go : x.may ≡ true → old ≡ false → slots_of v s ≤ length w → (w' : List ℕ) → w' ≡ with_mark w (l - 1) → Going v s e k l₀ w₀ (f + 1) x.next w'
    follow-go hx ho q w' ew = subst (Going v s e k l₀ w₀ (f + 1) x.next) (sym ew) (subst (λ (y : Step). Going v s e k l₀ w₀ (f + 1) y.next (with_mark w (l - 1))) (sym ex) here)
      where
        new : both x.may (not old) ≡ true
        new = rw (hx, ho) refl

        inside : l - 1 < slots_of v s
        inside = may-inside v s (l - 1) (ap (λ (y : Step). y.may) (sym ex) ∙ hx)

        here : Going v s e k l₀ w₀ (f + 1) (next_of v s (l - 1)) (with_mark w (l - 1))
        here = record {
          beyond = λ j u. mark-past w (l - 1) (slots_of v s) j inside u ∙ g.beyond j u;
          goes = λ vs m. go-rest new (omega (arith, inside)) (met_in v s e k l₀ vs) (length vs) (g.goes vs m);
        }

    stop-gone : both x.may (not old) ≡ false → (o : Option (List ℕ)) (m : ℕ) → Rest ok o (met_in v s e (k - f) l) (m + f) w → Gone ok o m (record { ended = false; links = f }) w
    stop-gone h o m r =
        none-gone ok o m f w
        (sym r.rest ∙ at-link r.us ∙ met-stop (next_of v s) ok e (k - (f + 1)) (l - 1) r.us (sym (new_is r.us r.marks) ∙ h))

    pub follow-stop : both x.may (not old) ≡ false → Marked v s e k l₀ w₀ (record { ended = false; links = f }) w
    follow-stop h = record { beyond = g.beyond; goes = λ vs m. stop-gone h (met_in v s e k l₀ vs) (length vs) (g.goes vs m) }

  end-gone : (0 < k - f → 0 < l → ⊥) → (o : Option (List ℕ)) (m : ℕ) → Rest ok o (met_in v s e (k - f) l) (m + f) w → Gone ok o m (record { ended = eqb l e; links = f }) w
  end-gone h o m r = ended-gone ok o r.us m f e l w (eqb l e) refl r.marks r.many (sym (met-end (next_of v s) ok e (k - f) l r.us h) ∙ r.rest)

  pub follow-end : (0 < k - f → 0 < l → ⊥) → Marked v s e k l₀ w₀ (record { ended = eqb l e; links = f }) w
  follow-end h = record { beyond = g.beyond; goes = λ vs m. end-gone h (met_in v s e k l₀ vs) (length vs) (g.goes vs m) }
