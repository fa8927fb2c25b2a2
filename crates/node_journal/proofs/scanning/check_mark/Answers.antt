use Rattle.std.proofs.Common.{sym, ◌∙◌}
use Rattle.node_journal.proofs.Marked.{foreign}
use Rattle.node_journal.proofs.scanning.check_mark.Goals as goal

pub returns-clause-refused : goal.returns-clause-refused
returns-clause-refused g c told = foreign (g.D.Disk.now c.args.disk.now).seen _ (c.requires told) (c.in_ok-read_at.ensures.told told) (sym c.starts_with.ensures.value ∙ c.if-starts_with.false)
