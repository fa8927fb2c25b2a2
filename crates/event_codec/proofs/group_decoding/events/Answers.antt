use Rattle.std.proofs.lemmas.Result.{err_from_is_err_and}
use Rattle.event_codec.specs.Reading.{event_at, elements_at}
use Rattle.event_codec.proofs.Loops.{goes_on, fails, is_done}
use Rattle.event_codec.proofs.group_decoding.events.Goals as goal

pub returns-in_err-event : goal.returns-in_err-event
returns-in_err-event c =
    let p = err_from_is_err_and c.from_residual.result c.from_residual.ensures.1 in
    rw (p.1, p.2) (fails (event_at c.args.enc) c.in_err-event.field-0.0 c.loop.events.items c.args.count c.loop.counter c.loop.cursor (elements_at (event_at c.args.enc) c.args.count c.args.cursor.now) c.loop-test.true c.in_err-event.ensures c.loop.invariant)

pub loop-preserved : goal.loop-preserved
loop-preserved c =
    rw c.in_ok-push.ensures.items (goes_on (event_at c.args.enc) c.loop.events.items c.args.count c.loop.counter c.loop.cursor c.in_ok-event.event _ (elements_at (event_at c.args.enc) c.args.count c.args.cursor.now) c.loop-test.true c.in_ok-event.ensures c.loop.invariant)

pub returns : goal.returns
returns c = is_done (event_at c.args.enc) c.loop.events.items c.args.count c.loop.counter c.loop.cursor (elements_at (event_at c.args.enc) c.args.count c.args.cursor.now) c.loop-test.false c.loop.invariant
