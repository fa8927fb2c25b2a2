use Rattle.node_journal.specs.Whole.{payloads_in}
use Rattle.node_pool.proofs.Standing.{journal_sound}
use Rattle.node_pool.proofs.pool.Pool.into_parts.Goals as goal

pub returns-clause-stands : goal.returns-clause-stands
returns-clause-stands g c told sound =
    let now = c.args.self in
    journal_sound now.faults now.budget (g.D.Disk.count now.journal.disk) now.journal.fault now.state.state now.state.history sound (payloads_in (g.D.Disk.now now.journal.disk)) now.halt now.halts (now.stands told)
