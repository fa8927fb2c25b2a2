use Rattle.std.proofs.Common.{◌≡◌, ◌+◌, suc, arith}
use Rattle.std.proofs.lemmas.Result.{err_from_is_err_and}
use Rattle.event_codec.specs.Reading.{factors_at}
use Rattle.event_codec.proofs.Loops.{rises_on, row_ends, rows_are_done}
use Rattle.event_codec.proofs.read_lists.rows.Goals as goal

pub returns-in_err-row : goal.returns-in_err-row
returns-in_err-row c =
    let p = err_from_is_err_and c.from_residual-in_err-row.result c.from_residual-in_err-row.ensures.1 in
    rw (p.1, p.2) (row_ends c.args.enc c.in_err-row.field-0.0 c.loop.terms c.loop.least c.args.count c.loop.counter c.loop.cursor (factors_at c.args.enc 0 c.args.count c.args.cursor.now) c.loop-test.true c.in_err-row.ensures c.loop.invariant)

pub loop-preserved : goal.loop-preserved
loop-preserved c =
    let least : c.from-least.result + 1 ≡ suc c.in_ok-row.row = omega arith in
    rw (c.in_ok-push.ensures.ok, least) (rises_on c.args.enc c.loop.terms c.loop.least c.args.count c.loop.counter c.loop.cursor (c.in_ok-row.row, c.in_ok-row.factor) _ (factors_at c.args.enc 0 c.args.count c.args.cursor.now) c.loop-test.true c.in_ok-row.ensures c.loop.invariant)

pub returns : goal.returns
returns c = rows_are_done c.args.enc c.loop.terms c.loop.least c.args.count c.loop.counter c.loop.cursor (factors_at c.args.enc 0 c.args.count c.args.cursor.now) c.loop-test.false c.loop.invariant
