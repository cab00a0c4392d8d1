-- Any n from the number of live domains on gives the same close: two runs side by side, by `close-all`.
use Rattle.std.specs.Prelude.{◌≡◌, refl, ℕ, zero, suc, ◌≤◌, List}
use Rattle.std.proofs.Common.{sym, ap, ◌∙◌, arith}
use Rattle.model.specs.Outcome.{Outcome, ok, refuse, ◌>>=◌}
use Rattle.model.specs.State.{State, Domain}
use Rattle.model.specs.Regions.{revoke_region, live_count}
use Rattle.model.specs.Closing.{close_domain, live_domains}
use Rattle.laws.specs.Close.Visit.{Turn}
use Rattle.laws.specs.Close.Induction.{rest_of, rest-free, rest-passes, rest-revokes, rest-closes, close-begins, OfClose, OfRest, Steps, close-all}

-- the close, and the rest of a turn, with more
abbrev SameClose : OfClose
SameClose n closing s d x = (m : ℕ) → n ≤ m → close_domain m closing d s ≡ close_domain n closing d s

abbrev SameRest : OfRest
SameRest n closing s d x u k cs = (m : ℕ) → n ≤ m → rest_of m closing d cs u ≡ rest_of n closing d cs u

bind-same : {A B : Type 0} (m : Outcome A) (f g : A → Outcome B) → ((a : A) → m ≡ ok a → f a ≡ g a) → (m >>= f) ≡ (m >>= g)
unfolding ◌>>=◌
bind-same (ok a) f g h = h a refl
bind-same (refuse r) f g h = refl

-- m is the next of a number
by-suc : (P : ℕ → Type 0) (n : ℕ) → ((m : ℕ) → n ≤ m → P (suc m)) → (m : ℕ) → suc n ≤ m → P m
by-suc P n h zero l = absurd (omega arith)
by-suc P n h (suc m) l = h m (omega arith)

steps : Steps SameClose SameRest
steps = record {
  begins = λ n closing s d x b r. by-suc (λ m. close_domain m closing d s ≡ close_domain (suc n) closing d s) n (λ m l. close-begins m closing d s x b.is ∙ r m l ∙ sym (close-begins n closing d s x b.is));
  passes = λ n closing s d x u k c cs v p r m l. rest-passes m closing d c cs u p ∙ r m l ∙ sym (rest-passes n closing d c cs u p);
  revokes = λ n closing s d x u k c cs v h q i p g e o fell r m l. rest-revokes m closing d h c cs u q i ∙ bind-same (revoke_region closing (live_count u) h.slot u) _ _ (λ t a. r t a m l) ∙ sym (rest-revokes n closing d h c cs u q i);
  closes = λ n closing s d x u k h cs v i z b o closed one r m l. rest-closes m closing d h cs u i ∙ ap (λ c. c >>= λ t. rest_of m closing d cs t) (one m l) ∙ bind-same (close_domain n closing h.slot u) _ _ (λ t a. r t a m l) ∙ sym (rest-closes n closing d h cs u i);
  frees = λ n closing s d x u k v y i m l. rest-free m closing d u ∙ sym (rest-free n closing d u);
}

-- THEOREM
pub close-fuel : (n m : ℕ) (closing : List ℕ) (s : State) (d : ℕ) (x : Domain) → Turn s d x → live_domains s ≤ n → n ≤ m → close_domain m closing d s ≡ close_domain n closing d s
close-fuel n m closing s d x b l k = close-all SameClose SameRest steps n closing s d x b l m k
