-- The steps of the functions: what the values that they read make of their definitions.
use Rattle.std.specs.Prelude.{◌≡◌, refl, Bool, true, false, List, ltb, get_or}
use Rattle.std.proofs.Common.{sym, ◌∙◌, mod-lt, lt-ltb, le-ltb, ne_eqb}
use Rattle.std.proofs.Math.Path.{ap}
use Prim.Native.Nat.{ℕ, ◌+◌, ◌-◌, ◌≤◌, ◌<◌}
use native.Mathlib.Omega.{arith}
use Rattle.base.specs.Tests.{both, at_all}
use Rattle.base.specs.Ranges.{both-then, both-else}
use Rattle.tables.specs.declared.Update.{Update}
use Rattle.tables.specs.Kinds.{PERMISSION}
use Rattle.tables.specs.Tables.{Tables}
use Rattle.tables.specs.View.{view, of_parts}
use Rattle.sizes.specs.Sizes.{sizes_of}
use Rattle.sound_updates.specs.Updates.{same_domain}
use Rattle.sound_queue.specs.Ring.{numbers_hold, none_same, singly, queued_in, ring_holds, queue_holds}

pub updates_seen : (t : List ℕ) → get_or t 4 0 ≡ (view t).sizes.updates
unfolding view of_parts sizes_of
updates_seen t = refl

pub queued-fits : (n r w : ℕ) → r < n → n ≤ 129 → r + queued_in n r w ≤ 65536
queued-fits n r w h k = omega (arith, mod-lt (w + n - r) {m = n} (omega arith))

-- an update of no domain is the same as none
pub of-none : (v : Tables) (n r m : ℕ) (u : Update) (j : ℕ) → (u.kind ≡ PERMISSION → ⊥) → true ≡ none_same v n r m u j
unfolding none_same same_domain
of-none v n r m u j ne = sym (at_all _ j (m - j) (λ i a b. rw (ne_eqb u.kind PERMISSION ne) refl))

-- ---- the whole test

module _ (v : Tables) (n r w : ℕ) (en : n ≡ v.sizes.updates + 1) (er : r ≡ v.read) (ew : w ≡ v.write) where
  ring : ring_holds v n r w ≡ queue_holds v
  unfolding queue_holds
  ring = λ i. ring_holds v (en i) (er i) (ew i)

  pub read-outside : n ≤ r → false ≡ queue_holds v
  read-outside h = sym (ap (λ b. both (both b (ltb w n)) (both (numbers_hold v n r (queued_in n r w)) (singly v n r (queued_in n r w)))) (le-ltb r n h)) ∙ ring

  module _ (hr : r < n) where
    pub write-outside : n ≤ w → false ≡ queue_holds v
    write-outside h = (λ i. both (both (sym (lt-ltb r n hr) i) (sym (le-ltb w n h) i)) (both (numbers_hold v n r (queued_in n r w)) (singly v n r (queued_in n r w)))) ∙ ring

    module _ (hw : w < n) (b : Bool) (eb : b ≡ numbers_hold v n r (queued_in n r w)) where
      inside : both (numbers_hold v n r (queued_in n r w)) (singly v n r (queued_in n r w)) ≡ queue_holds v
      inside = (λ i. both (both (sym (lt-ltb r n hr) i) (sym (lt-ltb w n hw) i)) (both (numbers_hold v n r (queued_in n r w)) (singly v n r (queued_in n r w)))) ∙ ring

      pub ring-go : (s : Bool) → b ≡ true → s ≡ singly v n r (queued_in n r w) → s ≡ queue_holds v
      ring-go s h es = both-then b s h ∙ (λ i. both (eb i) (es i)) ∙ inside

      pub ring-stop : b ≡ false → b ≡ queue_holds v
      ring-stop h = both-else b (singly v n r (queued_in n r w)) h ∙ ap (λ x. both x (singly v n r (queued_in n r w))) eb ∙ inside
