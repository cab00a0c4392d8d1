-- The frame of a call: whether the lent memory is admitted, what the work area keeps meanwhile, and what a finished call leaves.
use Rattle.std.specs.Prelude.{◌≡◌, refl, Bool, true, false, ℕ, suc, List, [], ◌∷◌, eqb, length, get_or, replicate, Ok, Err}
use Rattle.std.proofs.Common.{sym, ap, ◌∙◌, Fits, eq-eqb, ne_eqb, eqb-true}
use Rattle.std.specs.Int.{w64}
use Rattle.std.proofs.lemmas.List.{length-replicate}
use Rattle.base.specs.Cases.{holds, fails, test, pick}
use Rattle.base.specs.Tests.{true-is, false-is}
use Rattle.model.specs.Lists.{Each}
use Rattle.model.specs.State.{Word}
use Rattle.model.specs.Memory.{zeroed}
use Rattle.words.specs.Copies.{copied}
use Rattle.answers.specs.Answers.{Answer}
use Rattle.sound.specs.Test.{is_sound}
use Rattle.replies.specs.declared.Reply.{Reply}
use Rattle.replies.specs.declared.DomainReply.{DomainReply}
use Rattle.tables.specs.Tables.{Tables}

unfoldable pub admitted : List ℕ → List ℕ → Bool
admitted t w = pick (eqb (length w) (length t)) (is_sound t) false

-- the work area behind the test: a copy of the tables, or all zero
unfoldable pub kept : List ℕ → List ℕ → List ℕ
kept t w = pick (admitted t w) t (zeroed w)

-- the tables when a call ends: of a refused one, the copy
abbrev pub finished : Answer → List ℕ → List ℕ → List ℕ
finished (Ok v) t w = t
finished (Err r) t w = copied w t

-- the reply to an opening: the slot with its generation in the tables v
unfoldable pub opened_for : Tables → Reply → DomainReply
opened_for v r = pick (eqb r.refusal 0) (record { refusal = 0; slot = r.value; generation = get_or v.domain_pool.gens r.value 0 }) (record { refusal = r.refusal; slot = 0; generation = 0 })

-- ---- laws

module _ (t w : List ℕ) where
  pub admits-same : length w ≡ length t → is_sound t ≡ admitted t w
  unfolding admitted
  admits-same e = rw (eq-eqb (length w) (length t) e)

  pub admits-other : (length w ≡ length t → ⊥) → false ≡ admitted t w
  unfolding admitted
  admits-other n = rw (ne_eqb (length w) (length t) n)

  pub kept-copy : admitted t w ≡ true → kept t w ≡ t
  unfolding kept
  kept-copy h = rw h

  pub kept-clear : admitted t w ≡ false → kept t w ≡ zeroed w
  unfolding kept
  kept-clear h = rw h

pub zeroed-long : (w : List ℕ) → length (zeroed w) ≡ length w
zeroed-long w = length-replicate (length w) 0

pub zeroed-clear : (w u : List ℕ) → u ≡ zeroed w → u ≡ zeroed u
zeroed-clear w u e = e ∙ ap (λ n. replicate n 0) (sym (ap length e ∙ zeroed-long w))

pub copy-back : (t u : List ℕ) → length u ≡ length t → copied t u ≡ t
unfolding copied
copy-back t u e = rw (eq-eqb (length t) (length u) (sym e))

-- the copy of admitted tables
pub begun : (t w : List ℕ) → admitted t w ≡ true → copied t (zeroed w) ≡ kept t w
unfolding admitted
begun t w h = elim (test (eqb (length w) (length t))) [
  | holds p ↦ copy-back t (zeroed w) (zeroed-long w ∙ eqb-true (length w) (length t) p) ∙ sym (kept-copy t w h)
  | fails p ↦ absurd (false-is refl (true-is (rw p at h)))
]

-- all words of a slice, by place
pub each_word : (t : List ℕ) → ((i : ℕ) → Fits w64 (get_or t i 0)) → Each Word t
each_word [] h = tt
each_word (x ∷ l) h = ((h 0).fits, each_word l (λ i. h (suc i)))
