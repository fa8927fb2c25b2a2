use Rattle.std.specs.Prelude.{◌≤◌, ℕ, max, length}
use Rattle.std.proofs.Common.{◌∙◌, ap, sym, subst, Some}
use Rattle.event_core.specs.Rooms.{Recorded}
use Rattle.node_journal.specs.Whole.{payloads_in}
use Rattle.node_pool.specs.Payloads.{model_in}
use Rattle.solve_top.specs.Begun.{IsSearchedIn}
use Rattle.solve_top.specs.Changes.{sink_change}
use Rattle.solve_top.specs.Requests.{limits_in}
use Rattle.solve_top.specs.Searches.{search_of}
use Rattle.solve_top.specs.Searchers.{GoesOnByWorkers}
use Rattle.solve_top.proofs.Searching.{counted, leaves_there, read_back, within_limits, kept_search, stands_search}
use Rattle.solve_top.proofs.search.end_search.Goals as goal

pub returns-clause-last : goal.returns-clause-last
returns-clause-last g c = ap Some c.part-state.ensures.state

pub returns-clause-since : goal.returns-clause-since
returns-clause-since g c = λ old ready on.
    let pool = c.args.pool in
    let q = c.args.request.now in
    let left = c.part-state.result in
    let same = c.part-state.ensures.state in
    subst (λ (r : Recorded). IsSearchedIn q old left.1 (sink_change g.C.Sink.tells g.C.Sink.taken g.C.Sink.kept g.C.Sink.faults c.args.cert.now c.conclude-outcome.new.cert) (search_of r) c.conclude-outcome.result) same (record {
      within = within_limits q old.state left.0 ready.state ready.read
          (subst (λ (r : Recorded). GoesOnByWorkers (limits_in q).workers old.state r) (sym same) on.goes_on)
          (ap (λ (r : Recorded). r.state.problem) same ∙ on.problem)
          c.conditions_hold.ensures.state c.conditions_hold.ensures.legal
          (subst (λ (r : Recorded). length r.state.nodes ≤ max (limits_in q).nodes (length old.state.state.nodes)) (sym same)
          (subst (λ (n : ℕ). length pool.state.state.nodes ≤ max n (length old.state.state.nodes)) ready.budget on.within_budget))
          (subst (λ (r : Recorded). length r.state.cuts ≤ max (limits_in q).cuts (length old.state.state.cuts)) (sym same) on.within_cuts);
      read = read_back q old.state left.0 ready.read (subst (λ (r : Recorded). GoesOnByWorkers (limits_in q).workers old.state r) (sym same) on.goes_on);
      solution = c.conclude-outcome.ensures.solution;
      cause = counted g.D.Disk.count old.journal.disk pool.journal.disk left.1 c.part-state.ensures.disk _ _ c.conclude-outcome.ensures.disk on.cause;
      seen = c.part-state.ensures.seen;
      leaves = λ told. (
        pool.halt,
        leaves_there g.D.Disk.past g.D.Disk.now old.journal.opened pool.journal.opened pool.journal.disk left.1 pool.state left.0 pool.halt on.opened c.part-state.ensures.disk same
            (c.history_holds.ensures.crashes told),
      );
      model = λ told. ap (λ x. model_in (payloads_in (g.D.Disk.now x))) c.part-state.ensures.disk ∙ on.model told;
      kept = λ told model.
          kept_search g.D.Disk.tells g.D.Disk.past g.D.Disk.now g.D.Disk.count old.journal.disk pool.journal.disk left.1 c.part-state.ensures.disk old.state pool.state left.0 same
          on.problem ready.state ready.read c.conditions_hold.ensures.state c.conditions_hold.ensures.legal _ c.problem.ensures c.journals_are_legal.ensures
          old.budget ready.few on.within_budget pool.faults pool.budget pool.journal.fault pool.halt c.history_holds.ensures.halted c.history_holds.ensures.few
          c.args.ending on.halted on.cause old.journal.opened pool.journal.opened on.opened (on.continued told) (c.history_holds.ensures.kept told)
          (c.history_holds.ensures.crashes told) model (on.model told) (c.part-state.ensures.rests told);
      stands = λ told model other.
          stands_search g.D.Disk.tells g.D.Disk.past g.D.Disk.now g.D.Disk.count old.journal.disk pool.journal.disk left.1 c.part-state.ensures.disk old.state pool.state left.0 same
          on.problem ready.state ready.read c.conditions_hold.ensures.state c.conditions_hold.ensures.legal _ c.problem.ensures c.journals_are_legal.ensures
          old.budget ready.few on.within_budget pool.faults pool.budget pool.journal.fault pool.halt c.history_holds.ensures.halted c.history_holds.ensures.few
          c.args.ending on.halted (sym c.conclude-outcome.ensures.disk ∙ other)
          (c.history_holds.ensures.stands told) model (on.model told);
    })
