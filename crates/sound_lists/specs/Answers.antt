-- What was met counted and the marks cleared, and what is answered of a stack.
use Rattle.std.specs.Prelude.{◌≡◌, refl, ℕ, ◌-◌, ◌≤◌, ◌<◌, Bool, false, List, [], eqb, length, get_or, replicate}
use Rattle.std.proofs.Math.Path.{sym, ap}
use Rattle.std.proofs.Common.{◌∙◌, arith, le-leb}
use Rattle.std.proofs.Math.Option.{Option, none, some}
use Rattle.std.proofs.lemmas.Bool.{lt-leb}
use Rattle.base.specs.Tests.{both}
use Rattle.base.specs.Lists.{get_or-zeros}
use Rattle.marks.specs.Marks.{words_for, unmarked}
use Rattle.marks.specs.Laws.{unmarked-zero}
use Rattle.tables.specs.Tables.{Tables}
use Rattle.tables.specs.View.{view}
use Rattle.list_links.specs.declared.Stack.{Stack}
use Rattle.list_links.specs.declared.Top.{Top}
use Rattle.list_links.specs.Walk.{link_to}
use Rattle.list_links.specs.Stacks.{slots_of, top_of, may_meet, met_in, covered_in, stack_holds}
use Rattle.sound_lists.specs.declared.walks.Followed.{Followed}
use Rattle.sound_lists.specs.Counting.{tally, covers-counted}
use Rattle.sound_lists.specs.Marks.{Clean, marks-none}
use Rattle.sound_lists.specs.Loops.{Gone, Beyond, Marked, Settled, may-inside}

-- ---- counted and cleared

module _ (v : Tables) (s : Stack) (x : Followed) (all : ℕ) (r : Bool) (w : List ℕ) (ea : all ≡ tally (may_meet v s) (slots_of v s)) (er : r ≡ both x.ended (eqb x.links all)) where
  answer-is : (o : Option (List ℕ)) → Gone (may_meet v s) o 0 x w → r ≡ covered_in v s o
  answer-is none g = er ∙ ap (λ b. both b (eqb x.links all)) g.said
  answer-is (some us) g =
      let n : x.links ≡ length us = omega (arith, g.many us refl) in
      er ∙ ap (λ b. both b (eqb x.links all)) g.said ∙ ap (λ k. eqb k all) n ∙ ap (eqb (length us)) ea
      ∙ sym (covers-counted (may_meet v s) (slots_of v s) us (may-inside v s) (g.marks us refl).once)

  pub settled : (n : ℕ) (w' : List ℕ) → n ≡ slots_of v s → n ≤ length w → w' ≡ unmarked w n → Settled v s x w r w'
  settled n w' en b e = record {
    answer = answer-is;
    clean = λ h. e ∙ unmarked-zero w n (omega arith) (λ j q. h j (omega arith));
  }

-- ---- a stack

module _ (t w : List ℕ) (cl : Clean t w) where
  -- after the marks are cleared the work area is as it was
  pub back : (n : ℕ) (w₁ w₂ : List ℕ) → Beyond n w w₁ → length w₁ ≡ length w → (((j : ℕ) → words_for n ≤ j → get_or w₁ j 0 ≡ 0) → w₂ ≡ replicate (length w₁) 0) → w₂ ≡ w
  back n w₁ w₂ b e h = h (λ j q. b j q ∙ ap (λ (l : List ℕ). get_or l j 0) cl.zero ∙ get_or-zeros (length w) j) ∙ ap (λ k. replicate k 0) e ∙ sym cl.zero

  module _ (s : Stack) (n : ℕ) (top : Top) (en : n ≡ slots_of (view t) s) (et : top ≡ top_of (view t) s) where
    abbrev walked : ℕ → Top → ℕ → Bool
    walked k p l = covered_in (view t) s (met_in (view t) s 1 (k - p.count) l [])

    stack-then : (l : ℕ) (r : Bool) → top.count ≤ n → l ≡ link_to n top.head → r ≡ walked n top l → r ≡ stack_holds (view t) s
    unfolding stack_holds
    stack-then l r h el er =
        let c : (top_of (view t) s).count ≤ slots_of (view t) s = omega (arith, ap (λ (p : Top). p.count) et) in
        let a = er ∙ ap (walked n top) el ∙ ap (λ k. walked k top (link_to k top.head)) en ∙ ap (λ (p : Top). walked (slots_of (view t) s) p (link_to (slots_of (view t) s) p.head)) et in
        a ∙ sym (ap (λ b. both b (walked (slots_of (view t) s) (top_of (view t) s) (link_to (slots_of (view t) s) (top_of (view t) s).head))) (le-leb _ _ c))

    pub stack_is : (l : ℕ) (x : Followed) (r : Bool) (w₁ w₂ : List ℕ) → top.count ≤ n → l ≡ link_to n top.head → Marked (view t) s 1 (n - top.count) l w x w₁ → length w₁ ≡ length w → Settled (view t) s x w₁ r w₂ → (r ≡ stack_holds (view t) s) × (w₂ ≡ w)
    stack_is l x r w₁ w₂ h el g e q = (
      stack-then l r h el (q.answer (met_in (view t) s 1 (n - top.count) l []) (g.goes [] (marks-none (may_meet (view t) s) t w cl))),
      back (slots_of (view t) s) w₁ w₂ g.beyond e q.clean,
    )

    pub stack-not : n < top.count → false ≡ stack_holds (view t) s
    unfolding stack_holds
    stack-not h =
        let c : slots_of (view t) s < (top_of (view t) s).count = omega (arith, ap (λ (p : Top). p.count) et) in
        sym (ap (λ b. both b (walked (slots_of (view t) s) (top_of (view t) s) (link_to (slots_of (view t) s) (top_of (view t) s).head))) (lt-leb _ _ c))
