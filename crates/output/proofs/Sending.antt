-- Bytes handed to a writer one write after another.
use Rattle.std.proofs.Common.{◌≡◌, ℕ, true, false, List, [], ◌++◌, Option, refl, sym, ap, ◌∙◌, take, drop, append_assoc, append-nil, take-append-drop}
use Rattle.std.specs.Io.KnownBytes.{Appends, Keeps}
use Rattle.std.proofs.KnownBytes.{Appends-nil, Appends-trans, Appends-kept}
use Rattle.output.specs.Sent.{Sent}

-- Of the bytes l the first went out, and `rest` are left.
pub record Going (old now : Option (List ℕ)) (l rest : List ℕ) : Type 0 where
  pub first : List ℕ
  pub parts : l ≡ first ++ rest
  pub behind : Appends old now first

pub going-none : (old : Option (List ℕ)) (l : List ℕ) → Going old old l l
going-none old l = record { first = []; parts = refl; behind = Appends-nil old }

module _ {old now : Option (List ℕ)} {l rest : List ℕ} (h : Going old now l rest) where
  -- a write took n bytes
  pub going-more : (new : Option (List ℕ)) (n : ℕ) → Appends now new (take n rest) → Going old new l (drop n rest)
  going-more new n w = record {
    first = h.first ++ take n rest;
    parts = h.parts ∙ ap (λ (x : List ℕ). h.first ++ x) (sym (take-append-drop n rest)) ∙ sym (append_assoc h.first (take n rest) (drop n rest));
    behind = Appends-trans old now new _ _ h.behind w;
  }

  pub going-kept : (new : Option (List ℕ)) → Keeps now new → Going old new l rest
  going-kept new k = record { first = h.first; parts = h.parts; behind = Appends-kept old now new h.first h.behind k }

  pub sent-some : Sent old l false now
  sent-some = record { first = h.first; rest = rest; parts = h.parts; behind = h.behind; whole = λ f. cc }

  pub sent-all : rest ≡ [] → Sent old l true now
  sent-all e =
      let w : h.first ≡ l = sym (h.parts ∙ ap (λ (x : List ℕ). h.first ++ x) e ∙ append-nil h.first) in
      record { first = h.first; rest = rest; parts = h.parts; behind = h.behind; whole = λ f. w }
