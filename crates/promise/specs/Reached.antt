-- Tables that some calls of the exported functions left: the form in which the contract of a program carries what `everything` and `untouched` speak of.
use Rattle.std.specs.Prelude.{◌≡◌, refl, ℕ, List, [], ◌∷◌, ◌++◌}
use Rattle.std.proofs.Common.{sym, subst}
use Rattle.std.proofs.Math.Option.{Option, none, some}
use Rattle.model.specs.Lists.{Each}
use Rattle.model.specs.State.{State, Sizes, Handle, Hash}
use Rattle.model.specs.Perform.{Step, Call, Answer, perform, after, step}
use Rattle.model.specs.CallWords.{StepWords}
use Rattle.model.specs.Layout.{words}
use Rattle.model.specs.Memory.{After, not_sound, performed, zeroed}
use Rattle.model.proofs.Checked.HashAlone.{hash-alone}
use Rattle.replies.specs.declared.Reply.{Reply}
use Rattle.replies.specs.Replies.{reply_of, domain_reply_of, update_reply_of, Returns}
use Rattle.book.specs.Book.{Book}
use Rattle.book.specs.Lent.{ClaimsOf}
use Rattle.promise.specs.Calls.{Called, Words, Exported, Sequence, make-tables, open-domain, open-under, open-channel, set-core-map, set-interface, freeze-interface, create-root-region, alias-region, carve-region, send, send-with-flags, send-with-hash, revoke, create-revoke-capa, pop}
use Rattle.promise.specs.Returned.{note_all_returned}

-- Some calls of the exported functions led from tables t to tables t'.
pub record Leads (t t' : List ℕ) : Type 0 where
  pub calls : List Called
  pub arguments : Each Words calls
  pub sequence : Sequence t calls t'

-- the making of tables of the sizes z
abbrev pub making : Sizes → Reply → Called
making z r = make-tables z.domains z.slots z.regions z.records z.updates r

-- The tables t are what an accepted making of the sizes z and then some calls of the exported functions left.
pub record Reached (z : Sizes) (t : List ℕ) : Type 0 where
  pub memory : List ℕ
  pub reply : Reply
  pub calls : List Called
  pub accepted : reply.refusal ≡ 0
  pub arguments : Each Words calls
  pub sequence : Sequence memory (making z reply ∷ calls) t
