-- After k turns the run and the link at hand are what the first k turns make of them.
use Rattle.std.proofs.Common.{◌≡◌, refl, ap, arith, add-one, ◌∙◌}
use Rattle.tables.specs.View.{view}
use Rattle.readings.specs.declared.Found.{Found}
use Rattle.readings.specs.Readings.{found_at}
use Rattle.call.specs.Arguments.{handle}
use Rattle.replies.specs.Replies.{ListsPermissions}
use Rattle.engine.proofs.read.mityvurno_permissions.Goals as goal

pub loop-k-init : goal.loop-k-init
loop-k-init c = (refl, refl)

pub found_at-f-requires : goal.found_at-f-requires
found_at-f-requires c = c.listing_of-p.ensures.sized (omega arith)

pub loop-k-preserved : goal.loop-k-preserved
loop-k-preserved c = (
  rw add-one (ap (λ (f : Found). f.next) (c.found_at-f.ensures ∙ ap (found_at (view c.args.t.now)) c.loop-k.invariant.0)),
  rw (add-one, c.found_at-f.ensures, c.loop-k.invariant.1, c.loop-k.invariant.0),
)

pub returns : goal.returns
returns c =
    let e : c.loop-k.k ≡ c.listing_of-p.result.turns = omega arith in
    let h : ListsPermissions c.args.t.now c.args.w.now (handle c.args.domain c.args.generation) c.args.run.now c.listing_of-p.result.reply c.listing_of-p.new.w c.loop-k.run = rw (c.loop-k.invariant.1, e) (c.listing_of-p.ensures.lists c.args.run.now refl) in
    record { lists_permissions = h; words = ((omega arith, omega arith), (h, refl)) }
