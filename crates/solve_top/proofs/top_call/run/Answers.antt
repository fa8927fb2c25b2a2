use Rattle.std.specs.Prelude.{option_map}
use Rattle.std.proofs.Common.{ap}
use Rattle.solve_top.specs.Changes.{sink_change, source_change}
use Rattle.solve_top.specs.Searches.{search_of}
use Rattle.solve_top.proofs.Promises.{promise_of}
use Rattle.solve_top.proofs.top_call.run.Goals as goal

pub returns-then-limits-gt1 : goal.returns-then-limits-gt1
returns-then-limits-gt1 g c =
    let performed = c.perform_by_crew-ran in
    let t = c.tell.ensures.status in
    let m = source_change g.S.Source.tells g.S.Source.left g.S.Source.faults c.args.model.now performed.new.model in
    let cert = sink_change g.C.Sink.tells g.C.Sink.taken g.C.Sink.kept g.C.Sink.faults c.args.cert.now performed.new.cert in
    let out = sink_change g.O.Sink.tells g.O.Sink.taken g.O.Sink.kept g.O.Sink.faults c.args.out.now c.tell.new.out in
    promise_of g.D.Disk.tells g.D.Disk.past g.D.Disk.now g.D.Disk.count c.args.disk performed.result.disk c.tell.result.disk c.tell.ensures.disk c.what_stands_is_not_refused.ensures c.in-Ok.request
    c.args.words.now m cert out _ (option_map search_of performed.result.last) c.tell.result.status t.0 performed.result.status
    c.in-Ok.ensures.asked t.1 (ap (option_map search_of) c.tell.ensures.last) performed.ensures.alone performed.ensures.outcome t.2 performed.ensures.journal
