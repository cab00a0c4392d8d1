-- The tables of a script's calls are tables that were reached (crate promise, Reached): making begins them, a record that is taken leads on.
use Rattle.std.specs.Prelude.{◌≡◌, refl, ℕ, List, T, Some, None, Ok, Err, length}
use Rattle.std.proofs.Common.{sym, ap, subst, ◌∙◌}
use Rattle.model.specs.State.{Sizes, no_options}
use Rattle.model.specs.Making.{good_sizes}
use Rattle.model.specs.Layout.{length_for}
use Rattle.model.specs.Perform.{Step, Call, Answer}
use Rattle.model.specs.CallWords.{CallWords}
use Rattle.model.specs.Memory.{After}
use Rattle.tables.specs.View.{Sized}
use Rattle.decoded.specs.Words.{words-sized}
use Rattle.book.specs.Book.{blank}
use Rattle.replies.specs.declared.Reply.{Reply}
use Rattle.replies.specs.Replies.{reply_of, Returns}
use Rattle.promise.specs.Reached.{Leads, Reached}
use Rattle.promise.proofs.Reached.{reached-claims, reached-made, leads-none, step-leads}
use Rattle.script_records.specs.declared.Record.{Record}
use Rattle.script_records.specs.Script.{Kind, opening, root, alias, carve, send, revoke, make_revoke, manager_of}
use Rattle.script_records.specs.Parsed.{named, handle_in, access_in, call_for, call_in, Found, parsed}
use Rattle.byte_numbers.specs.Numbers.{Bytes}
use Rattle.script_records.proofs.Words.{call-words}
use Rattle.running.specs.Takes.{Taken, Takes}
use Rattle.running.specs.RunScript.{Fit}
use Rattle.running.specs.Made.{Makes, makes}

-- ---- a record

module _ {t w : List ℕ} {a : Answer} {t₂ w₂ : List ℕ} where
  kind-leads : (k : Kind) (r : Record) → CallWords (call_for k r) → After t w (call_for k r) a t₂ w₂ → Leads t t₂
  kind-leads opening r u h = step-leads (Step.Open (manager_of r.a r.b) r.c) u h
  kind-leads root r u h = step-leads (Step.Root (handle_in r) (access_in r.c r.d r.e)) u h
  kind-leads alias r u h = step-leads (Step.Alias (handle_in r) r.c (access_in r.d r.e r.f)) u h
  kind-leads carve r u h = step-leads (Step.Carve (handle_in r) r.c (access_in r.d r.e r.f)) u h
  kind-leads send r u h = step-leads (Step.Send (handle_in r) r.c r.d no_options) u h
  kind-leads revoke r u h = step-leads (Step.Revoke (handle_in r) r.c) u h
  kind-leads make_revoke r u h = step-leads (Step.CreateRevokeCapa (handle_in r) r.c) u h

  record-leads : (r : Record) → CallWords (call_in r) → After t w (call_in r) a t₂ w₂ → Leads t t₂
  unfolding call_in
  record-leads r u h = kind-leads (named r.kind) r u h

as-found : (t t₂ : List ℕ) → t₂ ≡ t → Leads t t₂
as-found t t₂ e = subst (Leads t) (sym e) (leads-none t)

module _ (b t w t₂ w₂ : List ℕ) (x : Taken) (known : Bytes b) where
  taken : (p : Found) → parsed b ≡ p → Takes p t w x t₂ w₂ → Leads t t₂
  taken (Ok None) e h = as-found t t₂ h.tables
  taken (Err z) e h = as-found t t₂ h.tables
  taken (Ok (Some r)) e h = record-leads r (call-words b r known e) h.returns.after

  -- whatever stands in the bytes at hand
  pub take-leads : Takes (parsed b) t w x t₂ w₂ → Leads t t₂
  take-leads h = taken (parsed b) refl h

-- ---- the making

accepted : (t w : List ℕ) (z : Sizes) (y : Answer) (t₁ w₁ : List ℕ) → Fit t w z → Makes t w z y t₁ w₁ → (reply_of y).refusal ≡ 0
accepted t w z y t₁ w₁ f (Makes.fits g) = refl
accepted t w z y t₁ w₁ f (Makes.unfit g) = absurd (g f)

-- Sizes within their limits and memory of the right lengths: the making is accepted.
pub made-reached : {t w : List ℕ} {z : Sizes} {r : Reply} {t₁ w₁ : List ℕ} → T (good_sizes z) → length t ≡ length_for z → length w ≡ length_for z → Returns reply_of t w (Call.Make z) r t₁ w₁ → Reached z t₁
made-reached {t} {w} {z} {t₁ = t₁} {w₁ = w₁} g e k h = reached-made h (ap (λ (x : Reply). x.refusal) h.reply ∙ accepted t w z h.answer t₁ w₁ (record { tables = e; work = k }) (makes t w z h.answer t₁ w₁ g h.after))

-- ---- reached tables

pub reached-sized : (z : Sizes) (t : List ℕ) → Reached z t → Sized t
reached-sized z t h = let k = reached-claims (blank z) z t h in subst Sized (sym k.tables) (words-sized k.state k.sound)
