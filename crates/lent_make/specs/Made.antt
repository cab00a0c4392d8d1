-- Making: the exported function returns and leaves what `After` says.
use Rattle.std.specs.Prelude.{◌≡◌, refl, ℕ, Bool, true, false, not, ◌&&◌, List, eqb, length, Err}
use Rattle.std.proofs.Common.{sym, ap, subst, ◌∙◌, eq-eqb}
use Rattle.std.proofs.lemmas.Bool.{not-true, not-false}
use Rattle.refusals.specs.Refusals as refusals
use Rattle.base.specs.Tests.{both}
use Rattle.model.specs.Outcome.{Outcome, ok, refuse}
use Rattle.model.specs.State.{State, Sizes}
use Rattle.model.specs.Making.{good_sizes, empty_tables, make_in}
use Rattle.model.specs.Perform.{Call}
use Rattle.model.specs.Layout.{words, length_for}
use Rattle.model.specs.Memory.{made_answer, tables_left, After, zeroed}
use Rattle.model.specs.Sound.{Sound}
use Rattle.laws.specs.Accepted.{all-ok}
use Rattle.laws.specs.Empty.{made-sound}
use Rattle.laws.specs.Making.{make-sizes, make-lengths, make-made}
use Rattle.laws.specs.Words.Length.{words-length}
use Rattle.tables.specs.Tables.{Tables}
use Rattle.sizes.specs.Limits.{limits_b}
use Rattle.tables.specs.View.{layout}
use Rattle.sizes.specs.Sizes.{total}
use Rattle.tables.specs.Header.{sizes-seen}
use Rattle.making.specs.Empty.{empty}
use Rattle.decoded.specs.Sizes.{and_both, good-sizes}
use Rattle.decoded.specs.Tables.{sizes_for, tables_of}
use Rattle.decoded.specs.Words.{view-words, words-sized}
use Rattle.refine.specs.Making.{empty-words}
use Rattle.replies.specs.declared.Reply as replies
use Rattle.replies.specs.Replies.{reply_of, Returns}
use Rattle.frame.specs.Finish.{zeroed-long}
use Rattle.replies.specs.ReplyFor.{reply_for}

made-sizes : (z : Sizes) → (tables_of (empty_tables z)).sizes ≡ sizes_for z
unfolding tables_of
made-sizes z = refl

eqb_same : (n : ℕ) → eqb n n ≡ true
eqb_same n = eq-eqb n n refl

empty-whole : (z : Sizes) → good_sizes z ≡ true → Sound (empty_tables z)
empty-whole z g = all-ok Sound _ (empty_tables z) (made-sound (length_for z) (length_for z) z) (make-made (length_for z) (length_for z) z g (rw (eqb_same (length_for z))))

-- b is the test of the sizes, w₂ the work area as it is cleared
module _ (t w w₂ : List ℕ) (z : Sizes) (clear : w₂ ≡ zeroed w) (b : Bool) (e : b ≡ limits_b (sizes_for z)) where
  -- o is how the making ends
  ends : (o : Outcome State) → make_in (length t) (length w) z ≡ o → (r : replies.Reply) → r ≡ reply_of (made_answer o) → (u : List ℕ) → u ≡ tables_left t o → Returns reply_of t w (Call.Make z) r u w₂
  ends o i r g u k = record {
    answer = made_answer o;
    after = subst (λ v. After t w (Call.Make z) (made_answer o) v w₂) (sym k) (subst (λ v. After t w (Call.Make z) (made_answer o) (tables_left t o) v) (sym clear) (subst (λ p. After t w (Call.Make z) (made_answer p) (tables_left t p) (zeroed w)) i (After.made z)));
    reply = g;
  }

  pub sizes-refused : not b ≡ true → (r : replies.Reply) → r ≡ reply_for (Err refusals.sizes) → Returns reply_of t w (Call.Make z) r t w₂
  sizes-refused h r g = ends (refuse refusals.sizes) (make-sizes _ _ z (good-sizes z ∙ sym e ∙ not-true b h)) r g t refl

  module _ (h : not b ≡ false) (n : ℕ) (m : n ≡ total (sizes_for z)) where
    good : good_sizes z ≡ true
    good = good-sizes z ∙ sym e ∙ not-false b h

    long : n ≡ length_for z
    long =
        let s = empty_tables z in
        let k = empty-whole z good in
        m ∙ ap total (sym (made-sizes z) ∙ sym (ap (λ (v : Tables). v.sizes) (view-words s k)) ∙ sizes-seen (words s)) ∙ sym (words-sized s k).exact ∙ words-length s k

    module _ (d : Bool) (f : d ≡ both (eqb (length t) n) (eqb (length w₂) n)) where
      -- the code's test of the lengths is the model's
      tested : (eqb (length t) (length_for z) && eqb (length w) (length_for z)) ≡ d
      tested = and_both (eqb (length t) (length_for z)) (eqb (length w) (length_for z)) ∙ sym (f ∙ ap (λ k. both (eqb (length t) k) (eqb (length w₂) k)) long ∙ ap (λ k. both (eqb (length t) (length_for z)) (eqb k (length_for z))) (ap length clear ∙ zeroed-long w))

      pub lengths-refused : d ≡ false → (r : replies.Reply) → r ≡ reply_for (Err refusals.memory) → Returns reply_of t w (Call.Make z) r t w₂
      lengths-refused q r g = ends (refuse refusals.memory) (make-lengths _ _ z good (tested ∙ q)) r g t refl

      pub tables-made : d ≡ true → (u : List ℕ) → u ≡ layout (empty (sizes_for z)) → Returns reply_of t w (Call.Make z) (record { refusal = 0; value = 0 }) u w₂
      tables-made q u g = ends (ok (empty_tables z)) (make-made _ _ z good (tested ∙ q)) _ refl u (g ∙ empty-words z)
