-- Taking bits away never makes a refused call succeed (document 02, request 2: "taking a bit away never makes a refused call succeed on tables otherwise the
-- same"). Only `caller_with` reads a word, and with fewer bits it refuses more.
use Rattle.std.specs.Prelude.{◌≡◌, ◌⊎◌, ℕ, ◌^◌, Bool, map, T}
use Rattle.std.proofs.Math.Path.{refl, sym, ap, subst}
use Rattle.std.proofs.Common.{◌∙◌, inl, arith, ext_get_or}
use Rattle.std.proofs.Math.Logic.{inr}
use Rattle.std.proofs.Math.Bool.{true, false}
use Rattle.std.proofs.Math.Option.{Option, none, get_or}
use Rattle.std.proofs.lemmas.List.{length-map}
use Rattle.std.proofs.Math.ListN.{get_or-map}
use Rattle.rights.specs.Rights.{has, contains}
use Rattle.rights.specs.Laws.{contains-bits}
use Rattle.refusals.specs.declared.Refusal.{Refusal}
use Rattle.refusals.specs.Refusals.{not_allowed}
use Rattle.model.specs.Lists.{at_slot}
use Rattle.model.specs.Outcome.{Outcome, ok, refuse, ◌>>=◌, ◌>>◌, require}
use Rattle.model.specs.State.{State, Handle, Domain, none_domain, domain_at}
use Rattle.model.specs.Calls.{live_domain, caller_with, open_domain, open_channel, set_core_map, set_interface, freeze_interface, create_root_region, alias_region, carve_region, send, revoke, create_revoke_capa}
use Rattle.model.specs.Perform.{Step, Call, perform, perform_step}
use Rattle.interface.specs.Fewer.{FewerDomain, free, used, Fewer}
use Rattle.interface.proofs.Outcomes.{Both, accepted, refused, Any, bind, bind-same}
use Rattle.interface.proofs.NoBits.{no_bits, no_bits_in, Alike, same-refusals}
use Rattle.interface.proofs.Closing.{live-domain-same}
use Rattle.interface.proofs.Calls.{alias_by, carve_by, send_by, alias-same, carve-same, send-same, channel-same, cores-same, interface-same, freeze-same, root-same, revoke-same, make-revoke-same, open-same, reading-same}

-- ---- where the first outcome is a refusal so is the second: the same one, or 20

abbrev pub RefusedToo : {A : Type 0} → Outcome A → Outcome A → Type 0
RefusedToo m n = (r : Refusal) → m ≡ refuse r → (q : Refusal) × (n ≡ refuse q) × ((q ≡ r) ⊎ (q ≡ not_allowed))

ok-refuse : {A : Type 0} (a : A) (r : Refusal) → ok a ≡ refuse r → ⊥
ok-refuse a r e = let z : ◌≡◌ {A = ℕ} 0 1 = cc in omega arith

same-too : {A : Type 0} {R : A → A → Type 0} {m n : Outcome A} → Both R m n → RefusedToo m n
same-too (accepted h) r e = absurd (ok-refuse _ r e)
same-too refused r e = (r, e, inl refl)

any : {A : Type 0} {R : A → A → Type 0} {m n : Outcome A} → Both R m n → Both Any m n
any (accepted h) = accepted tt
any refused = refused

-- with the answers' form changed
too-answer : {A B : Type 0} (f : A → B) (m n : Outcome A) → RefusedToo m n → RefusedToo (m >>= λ x. ok (f x)) (n >>= λ x. ok (f x))
unfolding ◌>>=◌
too-answer f (ok a) n k r e = absurd (ok-refuse (f a) r e)
too-answer f (refuse p) n k r e = let z : p ≡ r = cc in let (q, o, w) = k r (ap refuse z) in (q, ap (λ m. m >>= λ y. ok (f y)) o, w)

-- ---- the test of the caller's bit

module _ {A : Type 0} (f g : ℕ → Outcome A) (k : (d : ℕ) → RefusedToo (f d) (g d)) where
  bit-too : (b c : Bool) (d : ℕ) → (T c → T b) → RefusedToo (require b not_allowed >> ok d >>= f) (require c not_allowed >> ok d >>= g)
  unfolding require ◌>>◌ ◌>>=◌
  bit-too true true d h = k d
  bit-too true false d h = λ r e. (not_allowed, refl, inr refl)
  bit-too false true d h = absurd (h tt)
  bit-too false false d h = same-too {R = Any} refused

  caller-go : (m : Outcome ℕ) (b c : ℕ → Bool) → ((d : ℕ) → T (c d) → T (b d)) → RefusedToo (m >>= (λ d. require (b d) not_allowed >> ok d) >>= f) (m >>= (λ d. require (c d) not_allowed >> ok d) >>= g)
  unfolding ◌>>=◌
  caller-go (ok d) b c h = bit-too (b d) (c d) d (h d)
  caller-go (refuse r) b c h = same-too {R = Any} refused

-- ---- tables with fewer bits

no-bits-fewer : (o p : Option Domain) → FewerDomain o p → no_bits_in o ≡ no_bits_in p
no-bits-fewer o p free = refl
no-bits-fewer o p (used x word t) = refl

word_fewer : (o p : Option Domain) → FewerDomain o p → T (contains (get_or o none_domain).interface.word (get_or p none_domain).interface.word)
word_fewer o p free = tt
word_fewer o p (used x word t) = t

module _ (s s' : State) (h : Fewer s s') where
  fewer-alike : Alike s s'
  fewer-alike =
      let at : (d : ℕ) → at_slot (map no_bits_in s.domains) d ≡ at_slot (map no_bits_in s'.domains) d = λ d. get_or-map no_bits_in s.domains d none ∙ no-bits-fewer _ _ (h.domains d) ∙ sym (get_or-map no_bits_in s'.domains d none) in
      let ds = ext_get_or none (map no_bits_in s.domains) (map no_bits_in s'.domains) (length-map s.domains no_bits_in ∙ sym h.domains_length ∙ sym (length-map s'.domains no_bits_in)) (λ d l. at d) in
      λ i. record { sizes = sym h.sizes i; domain_pool = sym h.domain_pool i; region_pool = sym h.region_pool i; record_pool = sym h.record_pool i; domains = ds i; regions = sym h.regions i; queue = sym h.queue i }

  -- a step that reads no word, or a call behind the test of the caller's bit
  same : {A : Type 0} {R : A → A → Type 0} (f : State → Outcome A) → ((t : State) → Both R (f t) (f (no_bits t))) → RefusedToo (f s) (f s')
  same f k = same-too (same-refusals f (λ t. any (k t)) s s' fewer-alike)

  -- a caller that has bit b in s' has it in s
  caller-too : {A : Type 0} {R : A → A → Type 0} (b : ℕ) (k : Handle) (f : ℕ → State → Outcome A) → ((d : ℕ) (t : State) → Both R (f d t) (f d (no_bits t))) → RefusedToo (caller_with (2 ^ b) s k >>= λ d. f d s) (caller_with (2 ^ b) s' k >>= λ d. f d s')
  unfolding caller_with
  caller-too b k f w =
      let live : live_domain s k ≡ live_domain s' k = sym (live-domain-same s k) ∙ ap (λ t. live_domain t k) fewer-alike ∙ live-domain-same s' k in
      subst (λ m. RefusedToo (caller_with (2 ^ b) s k >>= λ d. f d s) (m >>= (λ d. require (has (domain_at s' d).interface.word (2 ^ b)) not_allowed >> ok d) >>= λ d. f d s')) live
      (caller-go (λ d. f d s) (λ d. f d s') (λ d. same (f d) (w d)) (live_domain s k) _ _ (λ d. (contains-bits (domain_at s d).interface.word (domain_at s' d).interface.word).0 (word_fewer _ _ (h.domains d)) b))

  -- ---- all calls

  step-too : (c : Step) → RefusedToo (perform_step s c) (perform_step s' c)
  unfolding perform_step alias_region carve_region send
  step-too (Step.Open m cores) = too-answer _ _ _ (same (open_domain m cores) (open-same m cores))
  step-too (Step.Channel k to) = too-answer _ _ _ (same (open_channel k to) (channel-same k to))
  step-too (Step.SetCoreMap k cores) = too-answer _ _ _ (same (set_core_map k cores) (cores-same k cores))
  step-too (Step.SetInterface k word) = too-answer _ _ _ (same (set_interface k word) (interface-same k word))
  step-too (Step.FreezeInterface k) = too-answer _ _ _ (same (freeze_interface k) (freeze-same k))
  step-too (Step.Root k a) = too-answer _ _ _ (same (create_root_region k a) (root-same k a))
  step-too (Step.Alias k l a) = too-answer _ _ _ (caller-too 3 k (alias_by l a) (alias-same l a))
  step-too (Step.Carve k l a) = too-answer _ _ _ (caller-too 4 k (carve_by l a) (carve-same l a))
  step-too (Step.Send k l target o) = too-answer _ _ _ (caller-too 1 k (send_by l target o) (send-same l target o))
  step-too (Step.Revoke k l) = too-answer _ _ _ (same (revoke k l) (revoke-same k l))
  step-too (Step.CreateRevokeCapa k l) = too-answer _ _ _ (same (create_revoke_capa k l) (make-revoke-same k l))

  call-too : (c : Call) → RefusedToo (perform s c) (perform s' c)
  unfolding perform
  call-too (Call.Make z) = same {R = Any} (λ t. perform t (Call.Make z)) (λ t. bind-same refl (λ x. accepted tt))
  call-too (Call.Do c) = step-too c
  call-too Call.Pop = too-answer _ _ _ (λ r e. absurd (ok-refuse _ r e))
  call-too (Call.Read r) = same {R = Any} (λ t. perform t (Call.Read r)) (λ t. bind (reading-same r t) (λ x y e. accepted tt))

-- Every call that s refuses s' refuses: with the same number, or with 20. Neither need be sound.
-- It is about ONE call, and false of lists: what a call with the bit took, a later call without it may take (`fewer-bits-not-of-lists`, Example).
pub fewer-bits : (s s' : State) → Fewer s s' → (c : Call) (r : Refusal) → perform s c ≡ refuse r → (q : Refusal) × (perform s' c ≡ refuse q) × ((q ≡ r) ⊎ (q ≡ not_allowed))
fewer-bits s s' h c = call-too s s' h c
