-- "Update 128 fits; the next gives 14." (document 01, "Edges"), at the full sizes.
use Rattle.std.specs.Prelude.{◌≡◌, refl, ℕ, zero, suc, List, [], ◌∷◌, ◌++◌}
use Rattle.std.proofs.Math.Option.{none}
use Rattle.model.specs.State.{Sizes}
use Rattle.model.specs.Making.{empty_tables}
use Rattle.model.specs.Perform.{Step, Call, Answer, code, run}
use Rattle.model.proofs.Checked.Compute.{computing}
use Rattle.model.proofs.Checked.Script.{dom, access}
use Rattle.model.proofs.Checked.Edges.{alias}

abbrev full_sizes : Sizes
full_sizes = record { domains = 32; slots = 128; regions = 1024; records = 1024; updates = 128 }

-- n aliases with CLEANUP, each made and revoked, in local slots k, k + 1, ..
abbrev cleanups : ℕ → ℕ → List Call
cleanups k zero = []
cleanups k (suc n) = alias 0 16 35 ∷ Call.Do (Step.Revoke (dom 0) k) ∷ cleanups (suc k) n

-- The root queues one update, 127 cleanups fill the ring.
abbrev full : List Call
full = Call.Do (Step.Open none 0) ∷ Call.Do (Step.Root (dom 0) (access 0 16 35)) ∷ cleanups 1 127

-- document 01's number of the last answer: 0 for an accepted call
abbrev last_code : List Answer → ℕ
last_code [] = 0
last_code (x ∷ []) = code x
last_code (x ∷ y ∷ l) = last_code (y ∷ l)

update-128-fits : last_code (run (empty_tables full_sizes) full).0 ≡ 0
unfolding computing
update-128-fits = refl

-- the list of slots is full by now, so the alias is put in slot 127 after a sweep
the-next-gives-14 : last_code (run (empty_tables full_sizes) (full ++ (alias 0 16 35 ∷ Call.Do (Step.Revoke (dom 0) 127) ∷ []))).0 ≡ 14
unfolding computing
the-next-gives-14 = refl
