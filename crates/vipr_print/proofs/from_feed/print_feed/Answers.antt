use Rattle.vipr_print.proofs.Sequence.{prefix_of}
use Rattle.vipr_print.proofs.from_feed.print_feed.Goals as goal

pub returns-clause-prefix : goal.returns-clause-prefix
returns-clause-prefix g c = λ told. prefix_of _ _ _ _ (c.print_fed_parts.ensures.printed.bytes told)
