-- Every call keeps book and tables matched: an accepted one with what it adds to the book, a refused one as they are.
use Rattle.std.specs.Prelude.{refl}
use Rattle.std.proofs.Math.Option.{none, some}
use Rattle.model.specs.Outcome.{Outcome, ok, refuse}
use Rattle.model.specs.State.{State}
use Rattle.model.specs.Sound.{Sound}
use Rattle.model.specs.Perform.{Step, Call, Value, perform_step, perform, after}
use Rattle.laws.specs.Accepted.{All, accepted, refused, bind, bind-any}
use Rattle.book.specs.Book.{Book, accept, note}
use Rattle.book.specs.Matches.{Matches}
use Rattle.book.proofs.Channel.{channel-match}
use Rattle.book.proofs.SetCoreMap.{cores-match}
use Rattle.book.proofs.Interface.{set-interface-match, freeze-interface-match}
use Rattle.book.proofs.Open.{open-match}
use Rattle.book.proofs.CreateRevokeCapa.{make-revoke-match}
use Rattle.book.proofs.Root.{root-match}
use Rattle.book.proofs.Alias.{alias-match}
use Rattle.book.proofs.Carve.{carve-match}
use Rattle.book.proofs.Send.{send-match}
use Rattle.book.proofs.Revoke.Match.{revoke-match}
use Rattle.book.proofs.Make.{make-in-match}
use Rattle.book.proofs.Pop.{pop-match}

-- an accepted call
pub perform-match : (b : Book) (s : State) (c : Call) → Sound s → Matches b s → All (λ y. Matches (accept b c y.0) y.1) (perform s c)
unfolding perform perform_step accept
perform-match b s (Call.Make z) o g = bind (make-in-match _ _ z) (λ t q. accepted q)
perform-match b s (Call.Do (Step.Open none c)) o g = bind (open-match b s none c o g) (λ x q. accepted q)
perform-match b s (Call.Do (Step.Open (some m) c)) o g = bind (open-match b s (some m) c o g) (λ x q. accepted q)
perform-match b s (Call.Do (Step.Channel h to)) o g = bind (channel-match b s h to g) (λ x q. accepted q)
perform-match b s (Call.Do (Step.SetCoreMap h c)) o g = bind (cores-match b s h c g) (λ x q. accepted q)
perform-match b s (Call.Do (Step.SetInterface h w)) o g = bind (set-interface-match b s h g w) (λ x q. accepted q)
perform-match b s (Call.Do (Step.FreezeInterface h)) o g = bind (freeze-interface-match b s h g) (λ x q. accepted q)
perform-match b s (Call.Do (Step.Root h a)) o g = bind (root-match b s h a o g) (λ x q. accepted q)
perform-match b s (Call.Do (Step.Alias h l a)) o g = bind (alias-match b s h l a o g) (λ x q. accepted q)
perform-match b s (Call.Do (Step.Carve h l a)) o g = bind (carve-match b s h l a o g) (λ x q. accepted q)
perform-match b s (Call.Do (Step.Send h l t p)) o g = bind (send-match b s h l t p o g) (λ x q. accepted q)
perform-match b s (Call.Do (Step.Revoke h l)) o g = bind (revoke-match b s h l o g) (λ x q. accepted q)
perform-match b s (Call.Do (Step.CreateRevokeCapa h l)) o g = bind (make-revoke-match b s h l g) (λ x q. accepted q)
perform-match b s Call.Pop o g = bind {P = λ x. Matches b x.1} (accepted (pop-match b s _ refl g)) (λ x q. accepted q)
perform-match b s (Call.Read r) o g = bind-any _ (λ x. accepted g)

-- a refused call leaves book and tables
pub after-match : (b : Book) (s : State) (c : Call) (m : Outcome (Value × State)) → All (λ y. Matches (accept b c y.0) y.1 × Sound y.1) m → Sound s → Matches b s → Matches (note b c (after s m).0) (after s m).1 × Sound (after s m).1
unfolding note
after-match b s c (ok x) (accepted h) o g = h
after-match b s c (refuse r) refused o g = (g, o)
