use Rattle.std.specs.Prelude.{◌≡◌, ℕ, All, IfSome, List, Option, None, Some, option_map, refl}
use Rattle.std.proofs.Common.{◌∙◌, ap, subst, sym}
use Rattle.event_core.specs.Rooms.{Recorded}
use Rattle.solve_top.specs.Changes.{sink_change, source_change}
use Rattle.solve_top.specs.declared.request.Request.{Request}
use Rattle.solve_top.specs.Requests.{limits_in, requested}
use Rattle.solve_top.specs.Searches.{HasSearchedAlone, IsOfWorkers, events_made, search_of}
use Rattle.solve_top.proofs.Promises.{promise_of, promise_unasked}
use Rattle.solve_top.proofs.top_call.run_one.Goals as goal

abbrev IsAlone : Option Recorded → Type 0
IsAlone o = IfSome o (λ t. All (IsOfWorkers 1) (events_made t.history))

abbrev IsVisited : List (List ℕ) → Option Recorded → Type 0
IsVisited words o = IfSome o (λ t. (q : Request) × (requested words ≡ Some q) × HasSearchedAlone (limits_in q).cuts t)

asked_for : (words : List (List ℕ)) (q : Request) → requested words ≡ Some q → (o : Option Recorded) → IfSome o (λ t. HasSearchedAlone (limits_in q).cuts t) → IsVisited words o
asked_for words q asked None h = tt
asked_for words q asked (Some t) h = (q, asked, h)

pub returns-in-Err-clause-promise : goal.returns-in-Err-clause-promise
returns-in-Err-clause-promise g c =
    let t = c.tell-in-Err.ensures.status in
    let m = source_change g.S.Source.tells g.S.Source.left g.S.Source.faults c.args.model.now c.args.model.now in
    let cert = sink_change g.C.Sink.tells g.C.Sink.taken g.C.Sink.kept g.C.Sink.faults c.args.cert.now c.args.cert.now in
    let out = sink_change g.O.Sink.tells g.O.Sink.taken g.O.Sink.kept g.O.Sink.faults c.args.out.now c.tell-in-Err.new.out in
    promise_unasked g.D.Disk.tells g.D.Disk.past g.D.Disk.now g.D.Disk.count c.args.disk c.tell-in-Err.result.disk (c.tell-in-Err.ensures.disk ∙ c.refused.ensures.disk) c.args.words.now m cert out
    _ c.tell-in-Err.result.status t.0 c.in-Err.refusal refl (λ told. refl) refl c.in-Err.ensures.refused t.1
    (ap (option_map search_of) (c.tell-in-Err.ensures.last ∙ c.refused.ensures.last)) (rw c.refused.ensures.status at t.2)

pub returns-in-Ok-clause-promise : goal.returns-in-Ok-clause-promise
returns-in-Ok-clause-promise g c =
    let performed = c.perform_alone-ran in
    let t = c.tell.ensures.status in
    let m = source_change g.S.Source.tells g.S.Source.left g.S.Source.faults c.args.model.now performed.new.model in
    let cert = sink_change g.C.Sink.tells g.C.Sink.taken g.C.Sink.kept g.C.Sink.faults c.args.cert.now performed.new.cert in
    let out = sink_change g.O.Sink.tells g.O.Sink.taken g.O.Sink.kept g.O.Sink.faults c.args.out.now c.tell.new.out in
    promise_of g.D.Disk.tells g.D.Disk.past g.D.Disk.now g.D.Disk.count c.args.disk performed.result.disk c.tell.result.disk c.tell.ensures.disk c.what_stands_is_not_refused.ensures c.in-Ok.request
    c.args.words.now m cert out _ (option_map search_of performed.result.last) c.tell.result.status t.0 performed.result.status
    c.in-Ok.ensures.asked t.1 (ap (option_map search_of) c.tell.ensures.last) performed.ensures.carried_out.alone performed.ensures.carried_out.outcome t.2 performed.ensures.carried_out.journal

pub returns-in-Err-clause-by_worker : goal.returns-in-Err-clause-by_worker
returns-in-Err-clause-by_worker g c = subst IsAlone (sym (c.tell-in-Err.ensures.last ∙ c.refused.ensures.last)) tt

pub returns-in-Ok-clause-by_worker : goal.returns-in-Ok-clause-by_worker
returns-in-Ok-clause-by_worker g c = subst IsAlone (sym c.tell.ensures.last) c.perform_alone-ran.ensures.by_worker

pub returns-in-Err-clause-visits : goal.returns-in-Err-clause-visits
returns-in-Err-clause-visits g c = subst (IsVisited c.args.words.now) (sym (c.tell-in-Err.ensures.last ∙ c.refused.ensures.last)) tt

pub returns-in-Ok-clause-visits : goal.returns-in-Ok-clause-visits
returns-in-Ok-clause-visits g c =
    let ran = c.perform_alone-ran in
    subst (IsVisited c.args.words.now) (sym c.tell.ensures.last) (asked_for c.args.words.now c.in-Ok.request c.in-Ok.ensures.asked ran.result.last ran.ensures.visits)
