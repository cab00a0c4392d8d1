-- A send on the tables as the model has it, check by check.
use Rattle.std.specs.Prelude.{ℕ, eqb}
use Rattle.base.specs.Cases.{pick}
use Rattle.tables.specs.declared.Handle.{Handle}
use Rattle.tables.specs.declared.Slot.{Slot}
use Rattle.tables.specs.Kinds.{FREE, REGION, MANAGEMENT}
use Rattle.tables.specs.Interface.{SEND}
use Rattle.tables.specs.Tables.{Tables}
use Rattle.refusals.specs.Refusals.{no_slot, not_carried}
use Rattle.answers.specs.Answers.{Effect, done, refused, and_then}
use Rattle.slots.specs.Capas.{capa_at, without_capa}
use Rattle.domain.specs.Activate.{reserve, insert}
use Rattle.send_options.specs.declared.SendOptions.{SendOptions}
use Rattle.segment.specs.Regions.{send_region}
use Rattle.send_options.specs.Joining.{apply_options}
use Rattle.checks.specs.Checks.{caller_with, live_region, target_held}
use Rattle.send_options.specs.Options.{check_options}

-- 6, 18, 19, and the region's effective ranges; then what the options say is done
unfoldable pub send_held : Handle → ℕ → SendOptions → Tables → Effect
send_held h to o s =
    and_then (live_region h s) (λ i s₁.
    and_then (check_options o s₁) (λ u s₂.
    and_then (send_region i to s₂) (λ v s₃. done 0 (apply_options i o s₃))))

-- 4, 10, and for a region 6, 18, 19; by the kinds 0 to 5. For other capabilities the options are ignored.
unfoldable pub send_capa : Slot → ℕ → SendOptions → Tables → Effect
send_capa x to o s =
    pick (eqb x.kind FREE) (refused no_slot s)
    (pick (eqb x.kind MANAGEMENT) (refused not_carried s) (pick (eqb x.kind REGION) (send_held x.handle to o s) (done 0 s)))

unfoldable pub send : Handle → ℕ → ℕ → SendOptions → Tables → Effect
send h l target o s =
    and_then (caller_with SEND h s) (λ d s₁.
    and_then (target_held d target s₁) (λ to s₂.
    and_then (reserve to s₂) (λ u s₃.
    and_then (send_capa (capa_at s₃ d l) to o s₃) (λ v s₄. insert to (capa_at s₃ d l) (without_capa s₄ d l)))))
