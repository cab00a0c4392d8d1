-- A chain of calls (crate book, Lent) with one call more at its end.
use Rattle.std.specs.Prelude.{ℕ, List, [], ◌∷◌, ◌++◌}
use Rattle.model.specs.Lists.{Each}
use Rattle.model.specs.Perform.{Call, Answer}
use Rattle.model.specs.CallWords.{CallWords}
use Rattle.model.specs.Memory.{After}
use Rattle.book.specs.Lent.{Chain}

pub chain-end : (t w t₁ t₂ w₂ : List ℕ) (cs : List Call) (ys : List Answer) (c : Call) (y : Answer) → Chain t cs ys t₁ → After t₁ w c y t₂ w₂ → Chain t (cs ++ c ∷ []) (ys ++ y ∷ []) t₂
chain-end t w t₁ t₂ w₂ cs ys c y Chain.start f = Chain.next f Chain.start
chain-end t w t₁ t₂ w₂ cs ys c y (Chain.next x r) f = Chain.next x (chain-end _ w t₁ t₂ w₂ _ _ c y r f)

pub each-end : (cs : List Call) (c : Call) → Each CallWords cs → CallWords c → Each CallWords (cs ++ c ∷ [])
each-end [] c h k = (k, tt)
each-end (d ∷ cs) c h k = (h.0, each-end cs c h.1 k)
