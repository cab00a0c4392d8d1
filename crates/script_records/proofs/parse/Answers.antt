-- Each way out by what was tested on the way.
use Rattle.std.proofs.Common.{arith}
use Rattle.std.proofs.lemmas.Result.{err_from_is_err_and}
use Rattle.script_records.proofs.Parses.{none_yet, size-least, unknown, misfit, cut-yet, too_many, all_there}
use Rattle.script_records.proofs.parse.Goals as goal

pub returns-then-b-lt4 : goal.returns-then-b-lt4
returns-then-b-lt4 c = none_yet _ c.if-b-lt4.true

pub returns-in_err-kind : goal.returns-in_err-kind
returns-in_err-kind c =
    let p = err_from_is_err_and c.from_residual.result c.from_residual.ensures.1 in
    rw p.1 (unknown c.args.b.now _ c.if-b-lt4.false c.number_at.ensures.value _ c.numbered.ensures c.in_err-kind.ensures.ok_part)

pub returns-then-number_at-size : goal.returns-then-number_at-size
returns-then-number_at-size c = misfit c.args.b.now _ c.if-b-lt4.false c.number_at.ensures.value _ c.numbered.ensures _ c.in_ok-kind.ensures.ok_part _ _ c.size-size.ensures c.number_at-2.ensures.value c.if-number_at-size.true

pub returns-then-b-size : goal.returns-then-b-size
returns-then-b-size c = cut-yet c.args.b.now _ c.if-b-lt4.false c.number_at.ensures.value _ c.numbered.ensures _ c.in_ok-kind.ensures.ok_part _ _ c.size-size.ensures c.number_at-2.ensures.value c.if-number_at-size.false c.if-b-size.true

pub slice_bounds-record_in-count : goal.slice_bounds-record_in-count
slice_bounds-record_in-count c = omega (arith, c.size-size.ensures, size-least c.in_ok-kind.kind)

pub slice_bounds-record_in-start : goal.slice_bounds-record_in-start
slice_bounds-record_in-start c = omega (arith, c.size-size.ensures, size-least c.in_ok-kind.kind)

pub returns-then-rights_in-gt255 : goal.returns-then-rights_in-gt255
returns-then-rights_in-gt255 c = too_many c.args.b.now _ c.if-b-lt4.false c.number_at.ensures.value _ c.numbered.ensures _ c.in_ok-kind.ensures.ok_part _ _ c.size-size.ensures c.number_at-2.ensures.value _ c.if-number_at-size.false c.if-b-size.false c.record_in-r.ensures (omega (arith, c.rights_in.ensures, c.if-rights_in-gt255.true))

pub returns : goal.returns
returns c = all_there c.args.b.now _ c.if-b-lt4.false c.number_at.ensures.value _ c.numbered.ensures _ c.in_ok-kind.ensures.ok_part _ _ c.size-size.ensures c.number_at-2.ensures.value _ c.if-number_at-size.false c.if-b-size.false c.record_in-r.ensures (omega (arith, c.rights_in.ensures, c.if-rights_in-gt255.false))
