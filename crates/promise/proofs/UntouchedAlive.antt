-- What a call adds to a book in which a domain has no live region over an address, and the tables of such a book.
use Rattle.std.specs.Prelude.{◌≡◌, refl, ℕ, Bool, true, false, not, ◌&&◌, List, T, eqb, if◌then◌else◌}
use Rattle.std.proofs.Common.{sym, ap, subst, ◌∙◌, eqb→eq}
use Rattle.base.specs.Tests.{true-is}
use Rattle.model.specs.Lists.{Each}
use Rattle.model.specs.State.{Sizes, no_options, Root, Alias, Carve}
use Rattle.model.specs.Fields.{passes}
use Rattle.model.specs.Counts.{holds}
use Rattle.model.specs.Perform.{Call, Answer, code}
use Rattle.model.specs.Memory.{After}
use Rattle.replies.specs.declared.Reply.{Reply}
use Rattle.call.specs.Arguments.{handle, sizes, access, with_flags, with_hash}
use Rattle.book.specs.Book.{Book, revoke_of, management_of, channel_of, blank, held_at, place_in, domain_in, make_room, put, give, give_next, opened, added, created, sent, revoked, closed, open_domains, empty_slot}
use Rattle.book.specs.Lent.{ClaimsOf, BookOf}
use Rattle.book.proofs.Lent.{book-of-made, book-of-call}
use Rattle.promise.specs.Calls.{Called, call_of, Words, Exported, Sequence, make-tables, open-domain, open-under, open-channel, set-core-map, set-interface, freeze-interface, create-root-region, alias-region, carve-region, send, send-with-flags, send-with-hash, revoke, create-revoke-capa, pop, get-refcount, core-map, permissions, holders}
use Rattle.promise.specs.Returned.{if_accepted, note_returned, note_all_returned}
use Rattle.promise.proofs.Same.{answered}
use Rattle.promise.specs.Statements.{Unreached, Untouched}
use Rattle.promise.proofs.Everything.{made-answer, everything}
use Rattle.promise.specs.Given.{gives, NeverGiven}
use Rattle.promise.proofs.ClearAlive.{ClearAlive, clear-end, clear-tally, revoked-clear, closed-clear, sent-clear, new-mine, alias-has, carve-has}

-- an accepted call, a refused one
if-clear : (d a n : ℕ) (new old : Book) → (n ≡ 0 → ClearAlive d a new.regions) → ClearAlive d a old.regions → ClearAlive d a (if_accepted n new old).regions
if-clear d a n new old h k = go (eqb n 0) (λ e. h (eqb→eq n 0 (true-is e)))
  where
    go : (c : Bool) → (c ≡ true → ClearAlive d a new.regions) → ClearAlive d a (if c then new else old).regions
    go true f = f refl
    go false f = k

not-given : (n : ℕ) (c : Bool) → T (not (eqb n 0 && c)) → n ≡ 0 → c ≡ false
not-given n true h e = absurd (subst (λ m. T (not (eqb m 0 && true))) e h)
not-given n false h e = refl

module _ (d a : ℕ) (b : Book) (t w t' w' : List ℕ) (k : BookOf b t) (c : ClearAlive d a b.regions) where
  pub call-clear : (x : Called) → Exported t w x t' w' → T (not (gives b d a x)) → ClearAlive d a (note_returned b x).regions
  unfolding opened give give_next make_room put created added empty_slot
  call-clear (make-tables ds ss gs rs us r) h n = if-clear d a r.refusal (blank (sizes ds ss gs rs us)) b (λ e. tt) c
  call-clear (open-domain cores r) h n = if-clear d a r.refusal (opened (handle r.slot r.generation) b) b (λ e. c) c
  call-clear (open-under m g cores r) h n = if-clear d a r.refusal (give_next m (management_of (handle r.slot r.generation)) (opened (handle r.slot r.generation) b)) b (λ e. c) c
  call-clear (open-channel f g to tg r) h n = if-clear d a r.refusal (give f r.value (channel_of (handle to tg)) b) b (λ e. c) c
  call-clear (set-core-map f g cores r) h n = c
  call-clear (set-interface f g word r) h n = c
  call-clear (freeze-interface f g r) h n = c
  call-clear (create-root-region f g s e rs r) h n = if-clear d a r.refusal (created Root f r.value (access s e rs) b) b (λ z. clear-end d a b.regions _ c (not-given r.refusal (eqb f d && holds s e a) n z)) c
  call-clear (alias-region f g l s e rs r) h n = if-clear d a r.refusal (created (Alias (place_in (held_at b f l))) f r.value (access s e rs) b) b (λ z. clear-end d a b.regions _ c (new-mine d a b f l (access s e rs) (alias-has b t w t' w' _ l (access s e rs) h.answer k (ap (λ (p : Reply). p.refusal) (sym h.reply) ∙ z) h.after) c)) c
  call-clear (carve-region f g l s e rs r) h n = if-clear d a r.refusal (created (Carve (place_in (held_at b f l))) f r.value (access s e rs) b) b (λ z. clear-end d a b.regions _ c (new-mine d a b f l (access s e rs) (carve-has b t w t' w' _ l (access s e rs) h.answer k (ap (λ (p : Reply). p.refusal) (sym h.reply) ∙ z) h.after) c)) c
  call-clear (send f g l to r) h n = if-clear d a r.refusal (sent f l (domain_in (held_at b f to)) r.value no_options b) b (λ z. sent-clear d a b f l (domain_in (held_at b f to)) r.value no_options c (not-given r.refusal _ n z)) c
  call-clear (send-with-flags f g l to x r) h n = if-clear d a r.refusal (sent f l (domain_in (held_at b f to)) r.value (with_flags x) b) b (λ z. sent-clear d a b f l (domain_in (held_at b f to)) r.value (with_flags x) c (not-given r.refusal _ n z)) c
  call-clear (send-with-hash f g l to x y r) h n = if-clear d a r.refusal (sent f l (domain_in (held_at b f to)) r.value (with_hash x y) b) b (λ z. sent-clear d a b f l (domain_in (held_at b f to)) r.value (with_hash x y) c (not-given r.refusal _ n z)) c
  call-clear (revoke f g l r) h n = if-clear d a r.refusal (empty_slot f l (revoked (closed (open_domains b)) (held_at b f l) b)) b (λ z. revoked-clear d a (closed (open_domains b)) (closed-clear d a (open_domains b)) (held_at b f l) b c) c
  call-clear (create-revoke-capa f g l r) h n = if-clear d a r.refusal (give f r.value (revoke_of (place_in (held_at b f l))) b) b (λ z. c) c
  call-clear (pop r) h n = c
  call-clear (get-refcount f g s e r) h n = c
  call-clear (core-map f g r) h n = c
  call-clear (permissions f g run r run') h n = c
  call-clear (holders x run r run') h n = c

-- the book after one call
pub book-after : (b : Book) (t w t₁ w₁ : List ℕ) (x : Called) → Words x → BookOf b t → Exported t w x t₁ w₁ → BookOf (note_returned b x) t₁
book-after b t w t₁ w₁ x u k h = let y = answered t w x t₁ w₁ h in subst (λ e. BookOf e t₁) (y.same b) (book-of-call b t w t₁ w₁ (call_of x) y.answer u k y.after)

-- the tables of an accepted making
pub book-of-first : (t w t₁ w₁ : List ℕ) (z : Sizes) (y : Answer) → code y ≡ 0 → After t w (Call.Make z) y t₁ w₁ → BookOf (blank z) t₁
book-of-first t w t₁ w₁ z y e h = book-of-made t w t₁ w₁ z y (made-answer t w t₁ w₁ _ z y refl e h) h

pub unreached : (b : Book) (t : List ℕ) (d a : ℕ) → ClaimsOf b t → ClearAlive d a b.regions → Unreached t d a
unreached b t d a h c = record {
  state = h.state;
  tables = h.tables;
  sound = h.sound;
  nothing = λ f. h.claims.counted f d a ∙ clear-tally d a b.regions (passes f) 0 b.regions c;
}
