-- Tables that some calls of the exported functions left: the form in which the contract of a program carries what `everything` and `untouched` speak of.
use Rattle.std.specs.Prelude.{◌≡◌, refl, ℕ, List, [], ◌∷◌, ◌++◌}
use Rattle.std.proofs.Common.{sym, subst}
use Rattle.std.proofs.Math.Option.{Option, none, some}
use Rattle.model.specs.Lists.{Each}
use Rattle.model.specs.State.{State, Sizes, Handle, Hash}
use Rattle.model.specs.Perform.{Step, Call, Answer, perform, after, step}
use Rattle.model.specs.CallWords.{StepWords}
use Rattle.model.specs.Layout.{words}
use Rattle.model.specs.Memory.{After, not_sound, performed, zeroed}
use Rattle.model.proofs.Checked.HashAlone.{hash-alone}
use Rattle.replies.specs.declared.Reply.{Reply}
use Rattle.replies.specs.Replies.{reply_of, domain_reply_of, update_reply_of, Returns}
use Rattle.book.specs.Book.{Book}
use Rattle.book.specs.Lent.{ClaimsOf}
use Rattle.promise.specs.Calls.{Called, Words, Exported, Sequence, make-tables, open-domain, open-under, open-channel, set-core-map, set-interface, freeze-interface, create-root-region, alias-region, carve-region, send, send-with-flags, send-with-hash, revoke, create-revoke-capa, pop}
use Rattle.promise.specs.Returned.{note_all_returned}
use Rattle.promise.proofs.Everything.{everything}
use Rattle.promise.specs.Reached.{Leads, making, Reached}

-- All claims of demand 3 hold of them, whatever the book said before the making.
pub reached-claims : (b : Book) (z : Sizes) (t : List ℕ) (h : Reached z t) → ClaimsOf (note_all_returned b (making z h.reply ∷ h.calls)) t
reached-claims b z t h = everything b h.memory t z.domains z.slots z.regions z.records z.updates h.reply h.calls h.accepted h.arguments h.sequence

-- ---- one after another

both : (t t₁ t₂ : List ℕ) (xs ys : List Called) → Sequence t xs t₁ → Sequence t₁ ys t₂ → Sequence t (xs ++ ys) t₂
both t t₁ t₂ xs ys Sequence.start q = q
both t t₁ t₂ xs ys (Sequence.next w w₁ h r) q = Sequence.next w w₁ h (both _ t₁ t₂ _ ys r q)

all : (xs ys : List Called) → Each Words xs → Each Words ys → Each Words (xs ++ ys)
all [] ys h k = k
all (x ∷ xs) ys h k = (h.0, all xs ys h.1 k)

pub leads-none : (t : List ℕ) → Leads t t
leads-none t = record { calls = []; arguments = tt; sequence = Sequence.start }

pub leads-then : {t t₁ t₂ : List ℕ} → Leads t t₁ → Leads t₁ t₂ → Leads t t₂
leads-then {t} {t₁} {t₂} h k = record {
  calls = h.calls ++ k.calls;
  arguments = all h.calls k.calls h.arguments k.arguments;
  sequence = both t t₁ t₂ h.calls k.calls h.sequence k.sequence;
}

pub reached_then : {z : Sizes} {t t₁ : List ℕ} → Reached z t → Leads t t₁ → Reached z t₁
reached_then {z} {t} {t₁} h k = record {
  memory = h.memory;
  reply = h.reply;
  calls = h.calls ++ k.calls;
  accepted = h.accepted;
  arguments = all h.calls k.calls h.arguments k.arguments;
  sequence = both h.memory t t₁ (making z h.reply ∷ h.calls) k.calls h.sequence k.sequence;
}

-- ---- one call

one : (t w t₁ w₁ : List ℕ) (x : Called) → Words x → Exported t w x t₁ w₁ → Leads t t₁
one t w t₁ w₁ x u h = record { calls = x ∷ []; arguments = (u, tt); sequence = Sequence.next w w₁ h Sequence.start }

pub reached-made : {t w : List ℕ} {z : Sizes} {r : Reply} {t₁ w₁ : List ℕ} → Returns reply_of t w (Call.Make z) r t₁ w₁ → r.refusal ≡ 0 → Reached z t₁
reached-made {t} {w} {r = r} {w₁ = w₁} h e = record { memory = t; reply = r; calls = []; accepted = e; arguments = tt; sequence = Sequence.next w w₁ h Sequence.start }

-- steps that do the same on every state are answered the same
same_after : (t w : List ℕ) (c d : Step) (a : Answer) (t₁ w₁ : List ℕ) → ((s : State) → perform s (Call.Do c) ≡ perform s (Call.Do d)) → After t w (Call.Do c) a t₁ w₁ → After t w (Call.Do d) a t₁ w₁
unfolding step
same_after t w c d a t₁ w₁ e (not_sound x q n) = not_sound (Call.Do d) tt n
same_after t w c d a t₁ w₁ e (performed x s q l) = subst (λ o. After t w (Call.Do d) (after s o).0 (words (after s o).1) (zeroed w)) (sym (e s)) (performed (Call.Do d) s tt l)

module _ {t w : List ℕ} {a : Answer} {t₁ w₁ : List ℕ} where
  -- a send: without a flag word, whatever its hash (`hash-alone`); with a flag word and no hash; with both
  send-leads : (d : Handle) (l to : ℕ) (x : Option ℕ) (y : Option Hash) → StepWords (Step.Send d l to (record { flags = x; hash = y })) → After t w (Call.Do (Step.Send d l to (record { flags = x; hash = y }))) a t₁ w₁ → Leads t t₁
  send-leads d l to none y u h = one t w t₁ w₁ (send d.slot d.generation l to (reply_of a)) (u.0, u.1, u.2, (tt, tt)) (record { answer = a; after = same_after t w _ _ a t₁ w₁ (λ s. hash-alone s d l to y) h; reply = refl })
  send-leads d l to (some f) none u h = one t w t₁ w₁ (send-with-flags d.slot d.generation l to f (reply_of a)) u (record { answer = a; after = h; reply = refl })
  send-leads d l to (some f) (some y) u h = one t w t₁ w₁ (send-with-hash d.slot d.generation l to f y (reply_of a)) u (record { answer = a; after = h; reply = refl })

  -- any step of the model is an exported call, by the record that its function makes of the answer
  pub step-leads : (c : Step) → StepWords c → After t w (Call.Do c) a t₁ w₁ → Leads t t₁
  step-leads (Step.Open none cores) u h = one t w t₁ w₁ (open-domain cores (domain_reply_of a)) u (record { answer = a; after = h; reply = refl })
  step-leads (Step.Open (some m) cores) u h = one t w t₁ w₁ (open-under m.slot m.generation cores (domain_reply_of a)) u (record { answer = a; after = h; reply = refl })
  step-leads (Step.Channel d to) u h = one t w t₁ w₁ (open-channel d.slot d.generation to.slot to.generation (reply_of a)) u (record { answer = a; after = h; reply = refl })
  step-leads (Step.SetCoreMap d cores) u h = one t w t₁ w₁ (set-core-map d.slot d.generation cores (reply_of a)) u (record { answer = a; after = h; reply = refl })
  step-leads (Step.SetInterface d word) u h = one t w t₁ w₁ (set-interface d.slot d.generation word (reply_of a)) u (record { answer = a; after = h; reply = refl })
  step-leads (Step.FreezeInterface d) u h = one t w t₁ w₁ (freeze-interface d.slot d.generation (reply_of a)) u (record { answer = a; after = h; reply = refl })
  step-leads (Step.Root d x) u h = one t w t₁ w₁ (create-root-region d.slot d.generation x.start x.end x.rights (reply_of a)) u (record { answer = a; after = h; reply = refl })
  step-leads (Step.Alias d l x) u h = one t w t₁ w₁ (alias-region d.slot d.generation l x.start x.end x.rights (reply_of a)) u (record { answer = a; after = h; reply = refl })
  step-leads (Step.Carve d l x) u h = one t w t₁ w₁ (carve-region d.slot d.generation l x.start x.end x.rights (reply_of a)) u (record { answer = a; after = h; reply = refl })
  step-leads (Step.Send d l to o) u h = send-leads d l to o.flags o.hash u h
  step-leads (Step.Revoke d l) u h = one t w t₁ w₁ (revoke d.slot d.generation l (reply_of a)) u (record { answer = a; after = h; reply = refl })
  step-leads (Step.CreateRevokeCapa d l) u h = one t w t₁ w₁ (create-revoke-capa d.slot d.generation l (reply_of a)) u (record { answer = a; after = h; reply = refl })

  pub pop-leads : After t w Call.Pop a t₁ w₁ → Leads t t₁
  pop-leads h = one t w t₁ w₁ (pop (update_reply_of a)) tt (record { answer = a; after = h; reply = refl })
