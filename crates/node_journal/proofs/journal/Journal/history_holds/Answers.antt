use Rattle.std.proofs.Common.{refl}
use Rattle.node_journal.specs.Whole.{payloads_in}
use Rattle.node_journal.specs.Frames.{file_of}
use Rattle.node_journal.proofs.Keeping.{all_held}
use Rattle.node_journal.proofs.journal.Journal.history_holds.Goals as goal

pub returns-clause-held : goal.returns-clause-held
returns-clause-held g c told sound =
    let whole = c.args.self.now.whole told sound in
    let now = g.D.Disk.now c.args.self.now.disk in
    all_held now (file_of (payloads_in now)) (payloads_in now) whole.small refl whole.rests
