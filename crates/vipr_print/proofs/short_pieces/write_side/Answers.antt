use Rattle.std.proofs.Common.{arith, append-nil, append_assoc, to_z-of_z}
use Rattle.std.proofs.lemmas.List.{drop_all}
use Rattle.vipr_print.proofs.short_pieces.write_side.Goals as goal

pub returns-clause-written : goal.returns-clause-written
returns-clause-written c =
    rw (c.write_integer.ensures.written, c.write_byte-blank_at.ensures.written, c.write_natural-count_at.ensures.written, drop_all 65 c.args.buffer.now (omega arith), append-nil, append_assoc, to_z-of_z c.ranges.side)
