use Rattle.std.proofs.lemmas.Result.{err_from_is_err_and}
use Rattle.fraction.specs.Checked.{is_small}
use Rattle.event_codec.specs.Reading.{fraction_at, elements_at}
use Rattle.event_codec.proofs.Loops.{goes_on, ends, is_done}
use Rattle.event_codec.proofs.read_lists.fractions.Goals as goal

pub returns-in_err-number : goal.returns-in_err-number
returns-in_err-number c =
    let p = err_from_is_err_and c.from_residual-in_err-number.result c.from_residual-in_err-number.ensures.1 in
    rw (p.1, p.2) (ends (fraction_at c.args.enc is_small) c.in_err-number.field-0.0 c.loop.point c.args.count c.loop.counter c.loop.cursor (elements_at (fraction_at c.args.enc is_small) c.args.count c.args.cursor.now) c.loop-test.true c.in_err-number.ensures c.loop.invariant)

pub loop-preserved : goal.loop-preserved
loop-preserved c =
    rw c.in_ok-push.ensures.ok (goes_on (fraction_at c.args.enc is_small) c.loop.point c.args.count c.loop.counter c.loop.cursor c.in_ok-number.number _ (elements_at (fraction_at c.args.enc is_small) c.args.count c.args.cursor.now) c.loop-test.true c.in_ok-number.ensures c.loop.invariant)

pub returns : goal.returns
returns c = is_done (fraction_at c.args.enc is_small) c.loop.point c.args.count c.loop.counter c.loop.cursor (elements_at (fraction_at c.args.enc is_small) c.args.count c.args.cursor.now) c.loop-test.false c.loop.invariant
