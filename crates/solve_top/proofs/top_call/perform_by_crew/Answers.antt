use Rattle.std.specs.Prelude.{refl}
use Rattle.solve_top.specs.Changes.{sink_change}
use Rattle.solve_top.specs.Searches.{search_of}
use Rattle.solve_top.proofs.top_call.perform_by_crew.Goals as goal

pub returns-in-Over : goal.returns-in-Over
returns-in-Over g c = rw c.in-Over.ensures.0 (c.in-Over.ensures.1 _ (λ told. refl) refl)

pub returns-in-Search : goal.returns-in-Search
returns-in-Search g c =
    let begun = c.in-Search in
    let end = c.end_search in
    rw c.end_search.ensures.last
    (begun.ensures.1 end.result.disk (sink_change g.C.Sink.tells g.C.Sink.taken g.C.Sink.kept g.C.Sink.faults c.args.cert.now end.new.cert) (search_of c.search_by_crew-ending.result.1.state) end.result.status
    (end.ensures.since begun.pool begun.ensures.0 c.search_by_crew-ending.ensures.goes_on))

pub returns-in-Drill : goal.returns-in-Drill
returns-in-Drill g c =
    let begun = c.in-Drill in
    let end = c.end_search-in-Drill in
    rw (c.drilled.ensures.status, c.drilled.ensures.disk, c.drilled.ensures.last, c.end_search-in-Drill.ensures.last, begun.ensures.0)
    (begun.ensures.2 end.result.disk (sink_change g.C.Sink.tells g.C.Sink.taken g.C.Sink.kept g.C.Sink.faults c.args.cert.now end.new.cert) (search_of c.search_by_crew-ending-in-Drill.result.1.state) end.result.status
    (end.ensures.since begun.pool begun.ensures.1 c.search_by_crew-ending-in-Drill.ensures.goes_on))
