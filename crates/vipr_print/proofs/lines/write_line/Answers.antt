use Rattle.vipr_print.proofs.Sequence.{took_prefix}
use Rattle.vipr_print.proofs.lines.write_line.Goals as goal

pub returns-in-Err : goal.returns-in-Err
returns-in-Err g c = record { bytes = λ told. took_prefix _ _ _ (c.in-Err.ensures.prefix told); cause = c.in-Err.ensures.cause }
