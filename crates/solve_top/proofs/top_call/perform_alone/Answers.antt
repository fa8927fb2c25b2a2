use Rattle.std.specs.Prelude.{ℕ, All, IfSome, Option, refl}
use Rattle.std.proofs.Common.{◌∙◌, subst, sym}
use Rattle.event_core.specs.Rooms.{Recorded}
use Rattle.solve_top.specs.Changes.{sink_change}
use Rattle.solve_top.specs.Requests.{limits_in}
use Rattle.solve_top.specs.Searches.{HasSearchedAlone, IsOfWorkers, events_made, search_of}
use Rattle.solve_top.proofs.Searching.{made_alone, searched_alone}
use Rattle.solve_top.proofs.top_call.perform_alone.Goals as goal

abbrev IsAlone : Option Recorded → Type 0
IsAlone o = IfSome o (λ t. All (IsOfWorkers 1) (events_made t.history))

abbrev IsVisited : ℕ → Option Recorded → Type 0
IsVisited cuts o = IfSome o (λ t. HasSearchedAlone cuts t)

pub returns-in-Over-clause-carried_out : goal.returns-in-Over-clause-carried_out
returns-in-Over-clause-carried_out g c = rw c.in-Over.ensures.0 (c.in-Over.ensures.1 _ (λ told. refl) refl)

pub returns-in-Over-clause-by_worker : goal.returns-in-Over-clause-by_worker
returns-in-Over-clause-by_worker g c = subst IsAlone (sym c.in-Over.ensures.0) tt

pub returns-in-Over-clause-visits : goal.returns-in-Over-clause-visits
returns-in-Over-clause-visits g c = subst (IsVisited (limits_in c.args.request.now).cuts) (sym c.in-Over.ensures.0) tt

pub returns-in-Search-clause-carried_out : goal.returns-in-Search-clause-carried_out
returns-in-Search-clause-carried_out g c =
    let begun = c.in-Search in
    let end = c.end_search in
    rw c.end_search.ensures.last
    (begun.ensures.1 end.result.disk (sink_change g.C.Sink.tells g.C.Sink.taken g.C.Sink.kept g.C.Sink.faults c.args.cert.now end.new.cert) (search_of c.search_alone-ending.result.1.state) end.result.status
    (end.ensures.since begun.pool begun.ensures.0 c.search_alone-ending.ensures.goes_on))

pub returns-in-Search-clause-by_worker : goal.returns-in-Search-clause-by_worker
returns-in-Search-clause-by_worker g c =
    subst IsAlone (sym c.end_search.ensures.last) (made_alone c.in-Search.pool.state _ c.in-Search.ensures.0.read c.search_alone-ending.ensures.by_worker)

pub returns-in-Search-clause-visits : goal.returns-in-Search-clause-visits
returns-in-Search-clause-visits g c =
    let ready = c.in-Search.ensures.0 in
    let cuts = (limits_in c.args.request.now).cuts in
    let on = c.search_alone-ending.ensures in
    subst (IsVisited cuts) (sym c.end_search.ensures.last) (searched_alone cuts c.in-Search.pool.state _ ready.state ready.read on.by_worker on.goes_on.problem on.visits)

pub returns-in-Drill-clause-carried_out : goal.returns-in-Drill-clause-carried_out
returns-in-Drill-clause-carried_out g c =
    let begun = c.in-Drill in
    let end = c.end_search-in-Drill in
    rw (c.drilled.ensures.status, c.drilled.ensures.disk, c.drilled.ensures.last, c.end_search-in-Drill.ensures.last, begun.ensures.0)
    (begun.ensures.2 end.result.disk (sink_change g.C.Sink.tells g.C.Sink.taken g.C.Sink.kept g.C.Sink.faults c.args.cert.now end.new.cert) (search_of c.search_alone-ending-in-Drill.result.1.state) end.result.status
    (end.ensures.since begun.pool begun.ensures.1 c.search_alone-ending-in-Drill.ensures.goes_on))

pub returns-in-Drill-clause-by_worker : goal.returns-in-Drill-clause-by_worker
returns-in-Drill-clause-by_worker g c =
    subst IsAlone (sym (c.drilled.ensures.last ∙ c.end_search-in-Drill.ensures.last)) (made_alone c.in-Drill.pool.state _ c.in-Drill.ensures.1.read c.search_alone-ending-in-Drill.ensures.by_worker)

pub returns-in-Drill-clause-visits : goal.returns-in-Drill-clause-visits
returns-in-Drill-clause-visits g c =
    let ready = c.in-Drill.ensures.1 in
    let cuts = (limits_in c.args.request.now).cuts in
    let on = c.search_alone-ending-in-Drill.ensures in
    subst (IsVisited cuts) (sym (c.drilled.ensures.last ∙ c.end_search-in-Drill.ensures.last))
    (searched_alone cuts c.in-Drill.pool.state _ ready.state ready.read on.by_worker on.goes_on.problem on.visits)
