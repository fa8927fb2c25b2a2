use Rattle.node_events.specs.declared.event.Event.TheVariants.{Release}
use Rattle.core_search.proofs.Entering.{one_event}
use Rattle.core_search.proofs.Pooling.{same_journal}
use Rattle.core_search.proofs.Visiting.{one}
use Rattle.core_search.proofs.events.release.Goals as goal

pub returns-clause-goes_on : goal.returns-clause-goes_on
returns-clause-goes_on g c =
    let a = c.args.pool.now in
    let z = c.release.new.self in
    let applied = c.release.ensures.released in
    same_journal a z (one_event a.state z.state (Release c.args.node) applied.state applied.history tt) c.release.ensures.journal c.release.ensures.budget c.release.ensures.faults

pub returns-clause-made : goal.returns-clause-made
returns-clause-made g c = one c.args.pool.now.state c.release.new.self.state (Release c.args.node) c.release.ensures.released
